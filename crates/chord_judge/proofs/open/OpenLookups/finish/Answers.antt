use Rattle.std.proofs.Common.{◌∙◌, ◌++◌, ap, map, rules}
use Rattle.std.specs.List.{flat_map}
use Rattle.std.proofs.lemmas.List.Sorted.{IsNonDecreasingBy-from_sort_by_key}
use Rattle.chord_judge.specs.Rows.{ends_by}
use Rattle.chord_judge.specs.declared.row.End.TheVariants as ended
use Rattle.chord_judge.proofs.InOrder.{sorted_held}
use Rattle.chord_judge.proofs.Streams.{on_ok}
use Rattle.chord_judge.proofs.open.OpenLookups.finish.Goals as goal

pub returns : goal.returns
returns c =
    on_ok _ _ c.push_all.result (λ pushed lookups held numbers.
    pushed ∙ ap (λ l. c.args.rows.now.items ++ map (ends_by ended.Trace) l)
    (c.as_slice-2.ensures.value
    ∙ sorted_held c.args.self.now.lists.items lookups c.in_ok-lookups.lookups.items c.sort_unstable_by_key.new.self.items held numbers
    (c.in_ok-lookups.ensures ∙ ap (flat_map (λ list. list.items)) c.as_slice.ensures.value) c.sort_unstable_by_key.ensures.permutation
    (IsNonDecreasingBy-from_sort_by_key (λ lookup. lookup.number) _ c.sort_unstable_by_key.ensures.sorted (λ a r q k. search rules)))) c.push_all.ensures
