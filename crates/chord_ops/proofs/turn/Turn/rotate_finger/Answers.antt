use Rattle.chord_ops.proofs.Dropped.{near_known}
use Rattle.chord_ops.proofs.turn.Turn.rotate_finger.Goals as goal

pub turn_finger-requires-clause-fingers : goal.turn_finger-requires-clause-fingers
turn_finger-requires-clause-fingers c =
    rw (c.in_ok-cover_near.ensures.value) (near_known c.args.scenario.now c.args.first c.args.self.now c.requires.successors c.requires.fingers)
