use Rattle.std.proofs.Common.{◌≡◌, ◌∙◌, ◌+◌, ◌-◌, ◌<◌, sym, ap, drop, length, arith}
use Rattle.chord_scenario.specs.Faults.{lowest_from}
use Rattle.chord_scenario.proofs.Heights.{lowest-left_out}
use Rattle.chord_scenario.proofs.window_check.lowest_without.Goals as goal

pub loop-i-preserved : goal.loop-i-preserved
loop-i-preserved c =
    let i = c.loop-i.i - 1 in
    let within : i < length c.args.coordinates.now = omega arith in
    let next : i + 1 ≡ c.loop-i.i = omega arith in
    (omega arith, c.loop-i.invariant.1 ∙ ap (λ k. lowest_from c.args.left_out k (drop k c.args.coordinates.now)) (sym next) ∙ sym (lowest-left_out c.args.left_out i c.args.coordinates.now within c.if-i-left_out.false))
