use Rattle.std.proofs.Common.{◌≡◌, ◌∙◌, ℕ, ◌-◌, List, None, Some, ◌<◌, ap, length, map, min, slice_get, subst, sym, take}
use Rattle.std.specs.Option.{unwrap_or}
use Rattle.std.proofs.lemmas.List.{take_min}
use Rattle.chord_scenario.specs.declared.scenario.Scenario.{Scenario}
use Rattle.chord_scenario.specs.World.{node_count}
use Rattle.chord_node.proofs.RotationStart.{first_met-known}
use Rattle.chord_node.specs.declared.ring.Place.{Place}
use Rattle.chord_node.specs.declared.state.Status.TheVariants as status
use Rattle.chord_node.specs.Places.{placed}
use Rattle.chord_node.specs.Ring.{clockwise, first_member, first_met, last_met, or_itself}
use Rattle.chord_node.specs.Rotation.{first_looked_up}
use Rattle.chord_node.proofs.Rings.{placed-nodes}
use Rattle.chord_node.proofs.Rounds.{placed-take}
use Rattle.chord_node.proofs.ring.first_member.Goals as goal

module _ (sc : Scenario) (n : ℕ) where
  abbrev nodes_of : List Place → List ℕ
  nodes_of = map (λ (p : Place). p.node)

  -- the first and the last of the places that are met
  first_is : (ps : List Place) → ps ≡ placed sc (clockwise sc n) → unwrap_or (slice_get (nodes_of ps) 0) n ≡ first_met sc n
  first_is ps met = ap (λ qs. unwrap_or (slice_get (nodes_of qs) 0) n) met ∙ ap (λ ys. unwrap_or (slice_get ys 0) n) (placed-nodes sc (clockwise sc n))

  last_is : (ps : List Place) → ps ≡ placed sc (clockwise sc n) → unwrap_or (slice_get (nodes_of ps) (length (nodes_of ps) - 1)) n ≡ last_met sc n
  last_is ps met = ap (λ qs. unwrap_or (slice_get (nodes_of qs) (length (nodes_of qs) - 1)) n) met
      ∙ ap (λ ys. unwrap_or (slice_get ys (length ys - 1)) n) (placed-nodes sc (clockwise sc n))

pub first_looked_up-requires-clause-head : goal.first_looked_up-requires-clause-head
first_looked_up-requires-clause-head c =
    let sc = c.args.scenario.now in
    let n = c.args.node in
    let first : c.first_node.result ≡ first_met sc n = c.first_node.ensures ∙ first_is sc n c.clockwise-met.result.now c.clockwise-met.ensures in
    subst (λ x. x < node_count sc) (sym first) (first_met-known sc n c.requires.node)

pub returns : goal.returns
unfolding first_member
returns c =
    let sc = c.args.scenario.now in
    let n = c.args.node in
    let xs = clockwise sc n in
    let met : c.clockwise-met.result.now ≡ placed sc xs = c.clockwise-met.ensures in
    let most : c.min-most.result ≡ min sc.list (length c.clockwise-met.result.now) = c.min-most.ensures
    ∙ ap (λ k. min k (length c.clockwise-met.result.now)) c.list.ensures in
    let prdc : c.last_node.result ≡ last_met sc n = c.last_node.ensures ∙ last_is sc n c.clockwise-met.result.now met in
    let some : nodes_of sc n (take c.min-most.result c.clockwise-met.result.now) ≡ take sc.list xs =
    ap (λ k. nodes_of sc n (take k c.clockwise-met.result.now)) most ∙ ap (nodes_of sc n) (take_min sc.list c.clockwise-met.result.now)
    ∙ ap (λ ps. nodes_of sc n (take sc.list ps)) met ∙ ap (nodes_of sc n) (placed-take sc sc.list xs) ∙ placed-nodes sc (take sc.list xs) in
    let succ : c.in_ok-nodes_or_itself.field-0 ≡ or_itself n (take sc.list xs) = c.in_ok-nodes_or_itself.ensures ∙ ap (or_itself n) some in
    let head : c.first_node.result ≡ first_met sc n = c.first_node.ensures ∙ first_is sc n c.clockwise-met.result.now met in
    let next : c.first_looked_up.result ≡ first_looked_up sc n (Some (first_met sc n)) = c.first_looked_up.ensures.value
    ∙ ap (λ x. first_looked_up sc n (Some x)) head in
    λ i. record {
      me = n;
      status = status.Member;
      epoch = 1;
      via = Some (c.first_via.ensures i);
      prdc = Some (prdc i);
      succ = succ i;
      fingers = c.in_ok-fingers.ensures i;
      next_finger = next i;
      calls = c.new.ensures i;
      lookups = c.new-2.ensures i;
      join = None;
      place = c.timer_count-timers.ensures i;
      count = c.timer_count-timers.ensures i;
    }
