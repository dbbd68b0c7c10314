use Rattle.std.proofs.Common.{◌≡◌, ◌∙◌, List, ap, length, sym, take, subst, ltb, ltb-true, ltb-false, rules}
use Rattle.std.specs.Prelude.{◌/◌, ◌≤◌, ◌<◌}
use Rattle.std.specs.List.{AllWithin}
use Rattle.std.specs.List.Sorted.{IsNonDecreasingBy}
use Rattle.std.proofs.lemmas.List.Sorted.{IsPartitionPoint-from_clause, IsPartitionedBy-ltb}
use Rattle.chord_node.specs.declared.ring.Place.{Place}
use Rattle.chord_node.specs.Places.{placed, ring}
use Rattle.chord_node.proofs.Rounds.{IsCount, count-is, first_round, round-rises}
use Rattle.chord_node.proofs.ring.count_before.Goals as goal

pub returns : goal.returns
returns c =
    let sc = c.args.scenario.now in
    let least = c.args.ident in
    let count = c.partition_point.result in
    let first = take (length c.args.rounds.now / 2) c.args.rounds.now in
    let whole : first ≡ placed sc (ring sc) = ap (λ (xs : List Place). take (length xs / 2) xs) c.requires ∙ first_round sc in
    let parted : IsNonDecreasingBy (λ p. p.ident) first = subst (λ xs. IsNonDecreasingBy (λ p. p.ident) xs) (sym whole) (round-rises sc c.recall_range.ensures) in
    let point = IsPartitionPoint-from_clause (λ p. ltb p.ident least) first count c.partition_point.ensures.partitioned
    (IsPartitionedBy-ltb (λ p. p.ident) first least parted) (λ a r q k. search rules) in
    let before : AllWithin (λ p. p.ident < least) first 0 count = λ k d l h. ltb-true _ _ (point.0 k d l h) in
    let rest : AllWithin (λ p. least ≤ p.ident) first count (length first) = λ k d l h. ltb-false _ _ (point.1 k d l h) in
    let h : IsCount sc least count = count-is sc least count (subst (λ (xs : List Place). count ≤ length xs) whole c.partition_point.ensures.bound)
    (subst (λ xs. AllWithin (λ (p : Place). p.ident < least) xs 0 count) whole before)
    (subst (λ xs. AllWithin (λ (p : Place). least ≤ p.ident) xs count (length xs)) whole rest) in
    record { bound = h.bound; before = h.before; rest = h.rest }
