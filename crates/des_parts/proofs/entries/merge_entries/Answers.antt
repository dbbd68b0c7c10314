use Rattle.std.proofs.Common.{rules}
use Rattle.std.proofs.lemmas.List.Sorted.{answers_always}
use Rattle.des_parts.specs.declared.entries.Entry.{Entry}
use Rattle.des_parts.proofs.EntryLists.{merged_by_sort}
use Rattle.des_parts.proofs.entries.merge_entries.Goals as goal

pub returns : goal.returns
returns g c =
    let facts = c.sort_unstable_by_key.ensures in
    merged_by_sort c.args.lists.items c.in_ok-entries.entries.items c.sort_unstable_by_key.new.self.items c.in_ok-entries.ensures c.requires
    facts.permutation (facts.sorted (λ (e : Entry _). e.key) (answers_always _ _ _ (λ f a r g called. search rules)))
