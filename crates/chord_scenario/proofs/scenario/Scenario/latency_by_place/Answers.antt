use Rattle.std.proofs.Common.{◌≡◌, ◌∙◌, sym, ap, subst, ℕ, List, Bor, Option, Some, IfSome, option_map, option_copied, slice_get}
use Rattle.std.proofs.Common.{is_some, nat_lt, length, get_or}
use Rattle.std.specs.List.{All}
use Rattle.std.specs.Option.{option_and_then}
use Rattle.std.proofs.lemmas.Option.{get_or_from_slice_get, slice_get_within}
use Rattle.chord_scenario.specs.declared.setting.Coordinates.{Coordinates}
use Rattle.chord_scenario.specs.Distances.{IsPlace, latency_by_coordinates}
use Rattle.chord_scenario.specs.Setup.{Setup}
use Rattle.chord_scenario.proofs.Lent.{lent}
use Rattle.chord_scenario.proofs.scenario.Scenario.latency_by_place.Goals as goal

-- the latency between the coordinates that were found
abbrev between : Option Coordinates → Option Coordinates → Option ℕ
between one other = option_and_then (λ here. option_map (latency_by_coordinates here) other) one

-- what was found at a node are its coordinates
at_node : (sc : Setup) (lent_ones : List Coordinates) (node : ℕ) (o : Option (Bor Coordinates)) → lent_ones ≡ sc.coordinates
    → is_some o ≡ nat_lt node (length lent_ones)
    → IfSome o (λ x. x.now ≡ get_or lent_ones node x.now)
    → slice_get sc.coordinates node ≡ option_copied o
at_node sc lent_ones node o same some is = sym (lent lent_ones node o some is ∙ ap (λ l. slice_get l node) same)

is_place : (xs : List Coordinates) (k : ℕ) (x : Coordinates) → All IsPlace xs → slice_get xs k ≡ Some x → IsPlace x
is_place xs k x all found = subst IsPlace (get_or_from_slice_get xs k x x found) (all k x (slice_get_within xs k x found))

pub returns-in_default : goal.returns-in_default
returns-in_default c =
    let sc = c.args.self.now in
    let seen = c.deref.ensures.value ∙ ap (λ (s : Setup). s.coordinates) c.self.view_is in
    let from = at_node sc c.deref.result.now c.args.from c.get.result seen c.get.ensures.lookup.0 c.get.ensures.lookup.1 ∙ ap option_copied c.in_default.is in
    sym (ap (λ one. between one (slice_get sc.coordinates c.args.to)) from)

pub returns-in_default-get : goal.returns-in_default-get
returns-in_default-get c =
    let sc = c.args.self.now in
    let seen = c.deref.ensures.value ∙ ap (λ (s : Setup). s.coordinates) c.self.view_is in
    let seen-2 = c.deref-2.ensures.value ∙ ap (λ (s : Setup). s.coordinates) c.self.view_is in
    let from = at_node sc c.deref.result.now c.args.from c.get.result seen c.get.ensures.lookup.0 c.get.ensures.lookup.1 ∙ ap option_copied c.in-Some.is in
    let to = at_node sc c.deref-2.result.now c.args.to c.get-2.result seen-2 c.get-2.ensures.lookup.0 c.get-2.ensures.lookup.1
    ∙ ap option_copied c.in_default-get.is in
    sym (ap (λ one. between one (slice_get sc.coordinates c.args.to)) from ∙ ap (between (Some c.in-Some.here.now)) to)

pub latency_to-requires-clause-here : goal.latency_to-requires-clause-here
latency_to-requires-clause-here c =
    let sc = c.args.self.now in
    let seen = c.deref.ensures.value ∙ ap (λ (s : Setup). s.coordinates) c.self.view_is in
    let from = at_node sc c.deref.result.now c.args.from c.get.result seen c.get.ensures.lookup.0 c.get.ensures.lookup.1 ∙ ap option_copied c.in-Some.is in
    is_place sc.coordinates c.args.from c.in-Some.here.now c.recall_range.ensures.coordinates.places from

pub latency_to-requires-clause-there : goal.latency_to-requires-clause-there
latency_to-requires-clause-there c =
    let sc = c.args.self.now in
    let seen = c.deref-2.ensures.value ∙ ap (λ (s : Setup). s.coordinates) c.self.view_is in
    let to = at_node sc c.deref-2.result.now c.args.to c.get-2.result seen c.get-2.ensures.lookup.0 c.get-2.ensures.lookup.1
    ∙ ap option_copied c.in-Some-get.is in
    is_place sc.coordinates c.args.to c.in-Some-get.there.now c.recall_range.ensures.coordinates.places to

pub returns : goal.returns
returns c =
    let sc = c.args.self.now in
    let seen = c.deref.ensures.value ∙ ap (λ (s : Setup). s.coordinates) c.self.view_is in
    let seen-2 = c.deref-2.ensures.value ∙ ap (λ (s : Setup). s.coordinates) c.self.view_is in
    let from = at_node sc c.deref.result.now c.args.from c.get.result seen c.get.ensures.lookup.0 c.get.ensures.lookup.1 ∙ ap option_copied c.in-Some.is in
    let to = at_node sc c.deref-2.result.now c.args.to c.get-2.result seen-2 c.get-2.ensures.lookup.0 c.get-2.ensures.lookup.1
    ∙ ap option_copied c.in-Some-get.is in
    ap Some c.latency_to.ensures ∙ sym (ap (λ one. between one (slice_get sc.coordinates c.args.to)) from ∙ ap (between (Some c.in-Some.here.now)) to)
