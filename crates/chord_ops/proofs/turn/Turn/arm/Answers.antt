use Rattle.chord_ops.proofs.FirstTimers.{armed_in_order}
use Rattle.chord_ops.proofs.turn.Turn.arm.Goals as goal

pub returns-clause-value : goal.returns-clause-value
returns-clause-value c =
    rw (
      ← armed_in_order c.args.scenario.now c.args.self.now,
      ← c.in_ok-start_stabilize.ensures.value,
      ← c.in_ok-start_finger.ensures.value,
      ← c.in_ok-start_traffic.ensures.value,
      ← c.in_ok-arm_life.ensures.value,
    ) c.start_check.ensures.value
