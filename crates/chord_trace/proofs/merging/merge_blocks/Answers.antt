use Rattle.std.proofs.Common.{rules}
use Rattle.std.proofs.lemmas.List.Sorted.{answers_always}
use Rattle.chord_event.specs.declared.block.Block.{Block}
use Rattle.chord_trace.proofs.Merges.{merged_by_sort}
use Rattle.chord_trace.proofs.merging.merge_blocks.Goals as goal

pub returns : goal.returns
returns c =
    let facts = c.sort_unstable_by_key.ensures in
    merged_by_sort c.args.lists.items c.in_ok-blocks.blocks.items c.sort_unstable_by_key.new.self.items c.in_ok-blocks.ensures c.requires.apart
    facts.permutation (facts.sorted (λ (b : Block). b.key) (answers_always _ _ _ (λ f a r g called. search rules)))
