use Rattle.std.proofs.Common.{◌≡◌, ◌∙◌, ◌++◌, ap, arith, List, ℕ, map, sym}
use Rattle.std.proofs.lemmas.List.{append-nil}
use Rattle.std.specs.List.{range_with_len}
use Rattle.chord_scenario.specs.declared.setting.Coordinates.{Coordinates}
use Rattle.chord_scenario.specs.Settings.{drawn_place}
use Rattle.chord_scenario.proofs.Ranges.{mapped-range_more}
use Rattle.chord_scenario.proofs.node.push_class_places.Goals as goal

-- the places by the numbers of a table are those by what was read of it
same_places : (seed class : ℕ) (corner own : Coordinates) (side side-2 count count-2 : ℕ) → corner ≡ own → side ≡ side-2 → count ≡ count-2
    → map (drawn_place seed class corner side) (range_with_len 0 count) ≡ map (drawn_place seed class own side-2) (range_with_len 0 count-2)
same_places seed class corner own side side-2 count count-2 e e-2 e-3 =
    λ i. map (drawn_place seed class (e i) (e-2 i)) (range_with_len 0 (e-3 i))

pub loop-number-preserved : goal.loop-number-preserved
loop-number-preserved c =
    mapped-range_more (drawn_place c.args.seed c.args.class c.coordinates_at-corner.result c.number_at-side.result)
    c.args.coordinates.now.items c.loop-number.coordinates.items c.push.new.self.items c.loop-number.number c.drawn_place.result
    c.in_ok-push.ensures.items c.loop-number.invariant c.drawn_place.ensures

pub drawn_place-requires : goal.drawn_place-requires
drawn_place-requires c = c.number_at-side.ensures.below

pub loop-number-init : goal.loop-number-init
loop-number-init c = sym (append-nil c.args.coordinates.now.items)

pub returns : goal.returns
returns c =
    let end : c.loop-number.number ≡ c.number_at-number-end.result = omega (arith, c.loop-number-test.false, c.loop-number.auto.number-end) in
    c.loop-number.invariant
    ∙ ap (λ (l : List Coordinates). c.args.coordinates.now.items ++ l)
    (same_places c.args.seed c.args.class c.coordinates_at-corner.result _ c.number_at-side.result _ c.loop-number.number _
    c.coordinates_at-corner.ensures c.number_at-side.ensures.value (end ∙ c.number_at-number-end.ensures.value))
