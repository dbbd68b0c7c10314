use Rattle.std.proofs.Common.{◌≡◌, ◌∙◌, ◌<◌, ◌≤◌, List, ap, length, subst, sym, arith, rules}
use Rattle.chord_circle.specs.Circle.{finger_beyond, finger_start}
use Rattle.chord_scenario.specs.World.{ident_of, node_count}
use Rattle.chord_node.specs.declared.ring.Place.{Place}
use Rattle.chord_node.specs.Places.{successor}
use Rattle.chord_node.specs.Ring.{finger}
use Rattle.chord_node.proofs.Rings.{fingers-more}
use Rattle.chord_node.proofs.FingerStarts.{finger-is}
use Rattle.chord_node.proofs.LaterFingers.{IsLast, finger-known, last-found}
use Rattle.chord_node.proofs.Rotations.{member-some}
use Rattle.chord_node.proofs.Rounds.{rounds-long}
use Rattle.chord_node.proofs.ring.fingers.Goals.{then-beyond-i, else-beyond-i}
use Rattle.chord_node.proofs.ring.fingers.Goals as goal

pub successor-last-requires-clause-some : goal.successor-last-requires-clause-some
successor-last-requires-clause-some c =
    let sc = c.args.scenario.now in
    let some = member-some sc c.args.node (record { ranges = c.recall_range.ensures; known = c.requires.node; member = c.requires.member }) in
    omega (arith, some, rounds-long sc, ap (λ (xs : List Place). length xs) c.requires.rounds)

pub ident-requires : goal.ident-requires
ident-requires c =
    let sc = c.args.scenario.now in
    let n = c.args.node in
    let i = c.loop-i.i in
    let bits : c.circle-circle.result ≡ sc.bits = c.circle-circle.ensures in
    let within : i ≤ sc.bits = omega (arith, c.loop-i-test.true, c.bits-i-end.ensures.value, bits) in
    let start : c.raw.result ≡ finger_start sc.bits (ident_of sc n) i = c.raw.ensures ∙ c.add_power-start.ensures.value
    ∙ (λ j. finger_start (bits j) (c.ident-home.ensures.value j) i) in
    let next : c.successor-last.result ≡ finger sc n i = c.successor-last.ensures ∙ ap (successor sc) start
    ∙ finger-is sc n i (record { ranges = c.recall_range.ensures; known = c.requires.node; member = c.requires.member })
    (omega (arith, c.loop-i.auto.i)) within in
    subst (λ x. x < node_count sc) (sym next) (finger-known sc n i c.requires.node)

pub loop-i-preserved : goal.loop-i-preserved
loop-i-preserved c =
    let sc = c.args.scenario.now in
    let n = c.args.node in
    let i = c.loop-i.i in
    let bits : c.circle-circle.result ≡ sc.bits = c.circle-circle.ensures in
    let within : i ≤ sc.bits = omega (arith, c.loop-i-test.true, c.bits-i-end.ensures.value, bits) in
    let known : IsLast sc n i c.if-beyond-i.last c.if-beyond-i.beyond = elim c.if-beyond-i.branch [
      | then-beyond-i w ↦
          let start : w.raw.result ≡ finger_start sc.bits (ident_of sc n) i = w.raw.ensures ∙ w.add_power-start.ensures.value
          ∙ (λ j. finger_start (bits j) (c.ident-home.ensures.value j) i) in
          let next : w.successor-last.result ≡ finger sc n i = w.successor-last.ensures ∙ ap (successor sc) start
          ∙ finger-is sc n i (record { ranges = c.recall_range.ensures; known = c.requires.node; member = c.requires.member })
          (omega (arith, c.loop-i.auto.i)) within in
          let far : w.finger_beyond-beyond.result ≡ finger_beyond sc.bits (ident_of sc n) (ident_of sc w.successor-last.result) = w.finger_beyond-beyond.ensures.value
          ∙ (λ j. finger_beyond (bits j) (c.ident-home.ensures.value j) (w.ident.ensures.value j)) in
          last-found sc n i c.if-beyond-i.last c.if-beyond-i.beyond c.recall_range.ensures c.requires.node c.loop-i.auto.i
          (w.last-is ∙ next) (w.beyond-is ∙ far ∙ ap (λ x. finger_beyond sc.bits (ident_of sc n) (ident_of sc x)) (sym w.last-is))
      | else-beyond-i w ↦ record {
        here = w.last-is ∙ c.loop-i.invariant.again i (omega arith) w.if-beyond-i.false;
        again = λ j after before. w.last-is ∙ c.loop-i.invariant.again j (omega (arith, after)) (omega (arith, before, w.beyond-is));
      }
    ] in
    record {
      found = c.in_ok-push.ensures ∙ fingers-more sc n i c.loop-i.fingers c.if-beyond-i.last c.loop-i.auto.i known.here c.loop-i.invariant.found;
      again = λ j from before. known.again j (omega (arith, from)) before;
    }

pub returns : goal.returns
returns c = search rules
