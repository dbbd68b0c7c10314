use Rattle.std.proofs.Common.{◌≡◌, ◌∙◌, ◌+◌, List, ap, drop, length, subst, take, arith}
use Rattle.std.specs.Prelude.{◌/◌, ◌-◌}
use Rattle.chord_scenario.specs.World.{ident_of}
use Rattle.chord_node.specs.declared.ring.Place.{Place}
use Rattle.chord_node.proofs.Rotations.{member-some}
use Rattle.chord_node.proofs.Rounds.{IsCount, clockwise-is, rounds-long}
use Rattle.chord_node.proofs.ring.clockwise.Goals as goal

pub slice_bounds-result-count : goal.slice_bounds-result-count
slice_bounds-result-count c =
    let sc = c.args.scenario.now in
    let some = member-some sc c.args.node (record { ranges = c.recall_range.ensures; known = c.requires.node; member = c.requires.member }) in
    omega (arith, some, rounds-long sc, ap (λ (xs : List Place). length xs) c.requires.rounds)

pub slice_bounds-result-start : goal.slice_bounds-result-start
slice_bounds-result-start c =
    let sc = c.args.scenario.now in
    let some = member-some sc c.args.node (record { ranges = c.recall_range.ensures; known = c.requires.node; member = c.requires.member }) in
    omega (arith, some, rounds-long sc, ap (λ (xs : List Place). length xs) c.requires.rounds)

pub returns : goal.returns
returns c =
    let sc = c.args.scenario.now in
    let n = c.args.node in
    let at = c.count_before-at.result in
    let home : c.raw.result ≡ ident_of sc n = c.raw.ensures ∙ c.ident.ensures.value in
    let found : IsCount sc c.raw.result at = record {
      bound = c.count_before-at.ensures.bound;
      before = c.count_before-at.ensures.before;
      rest = c.count_before-at.ensures.rest;
    } in
    ap (λ (xs : List Place). take (at + length xs / 2 - (at + 1)) (drop (at + 1) xs)) c.requires.rounds
    ∙ clockwise-is sc n at (record { ranges = c.recall_range.ensures; known = c.requires.node; member = c.requires.member })
    (subst (λ k. IsCount sc k at) home found)
