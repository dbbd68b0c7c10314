use Rattle.std.proofs.Common.{◌≡◌, ◌∙◌, ℕ, ◌*◌, Option, List, ap, arith, length, map, option_and_then, subst, sym}
use Rattle.std.specs.List.{list_any}
use Rattle.chord_audit.specs.Audit.{is_at}
use Rattle.chord_audit.specs.Tables.{AreLed, LeadBelow, node_at}
use Rattle.chord_audit.proofs.Powers.{lands_back, led_back, power_leads, power_twice}
use Rattle.chord_audit.proofs.ring.ring_of.Goals as goal
use Rattle.chord_audit.proofs.ring.ring_of.Goals.{then-loop-steps-test+in_ok-are_led+else-not-branch, else-loop-steps-test}

pub twice-requires : goal.twice-requires
twice-requires c =
    let all = power_leads c.loop-steps.steps c.args.best.now c.loop-steps.far.items c.requires.lead c.loop-steps.invariant.power in
    subst (λ (l : List (Option ℕ)). LeadBelow (length l) l) (sym c.deref-in-loop-steps-2.ensures.value) all

pub landed-requires-in-loop-steps : goal.landed-requires-in-loop-steps
landed-requires-in-loop-steps c =
    let best = c.args.best.now in
    let far = c.in_ok-far-2.far.items in
    let more = power_twice c.loop-steps.steps best c.loop-steps.far.items far c.requires.lead c.loop-steps.invariant.power
    (c.in_ok-far-2.ensures ∙ ap (λ (l : List (Option ℕ)). map (option_and_then (node_at l)) l) c.deref-in-loop-steps-2.ensures.value) in
    subst (λ (l : List (Option ℕ)). LeadBelow (length l) l) (sym c.deref-in-loop-steps-3.ensures.value)
    (power_leads (c.loop-steps.steps * 2) best far c.requires.lead more)

pub loop-steps-preserved : goal.loop-steps-preserved
loop-steps-preserved c =
    let best = c.args.best.now in
    let far = c.in_ok-far-2.far.items in
    let more = power_twice c.loop-steps.steps best c.loop-steps.far.items far c.requires.lead c.loop-steps.invariant.power
    (c.in_ok-far-2.ensures ∙ ap (λ (l : List (Option ℕ)). map (option_and_then (node_at l)) l) c.deref-in-loop-steps-2.ensures.value) in
    let same : c.deref-in-loop-steps-3.result.now ≡ far = c.deref-in-loop-steps-3.ensures.value in
    record {
      some = omega arith;
      power = more;
      each = c.in_ok-ring-2.ensures.length ∙ ap (λ (l : List (Option ℕ)). length l) same ∙ more.each;
      marks = λ n lt.
          c.in_ok-ring-2.ensures.marks n (omega (arith, more.each, ap (λ (l : List (Option ℕ)). length l) same))
          ∙ ap (list_any (λ way. is_at way n)) same;
    }

pub returns-clause-back : goal.returns-clause-back
returns-clause-back c = λ n lt.
    let best = c.args.best.now in
    let ring = c.loop-steps.ring.items in
    let far = c.loop-steps.far.items in
    let at = c.loop-steps.invariant in
    elim c.loop-steps-test.branch [
      | then-loop-steps-test+in_ok-are_led+else-not-branch w ↦
          let led = subst (AreLed best) w.deref-in-loop-steps.ensures.value
          (w.in_ok-are_led.ensures.0 w.if-not-branch.false) in
          led_back best c.requires.lead c.loop-steps.steps far at.power n lt ring at.each at.marks led
      | else-loop-steps-test w ↦
          let both = lands_back best c.requires.lead c.loop-steps.steps far at.power n lt (omega (arith, w.loop-steps-test.false)) in
          (λ e. both.0 (sym (at.marks n lt) ∙ e), λ e. at.marks n lt ∙ both.1 e)
    ]
