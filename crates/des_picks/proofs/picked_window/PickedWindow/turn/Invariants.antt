use Rattle.std.proofs.Common.{◌≡◌, ◌≤◌, ◌-◌, drop, length}
use Rattle.des_picks.specs.Picked.{can_go, turn_by}
use Rattle.des_picks.proofs.picked_window.PickedWindow.turn.Given as goal

abbrev pub invariant-loop-next : goal.invariant-loop-next
invariant-loop-next g l = record {
  turn : turn_by (can_go l.self) (length l.self.workers.items) (drop l.next l.picks)
      ≡ turn_by (can_go l.self) (length l.self.workers.items) (drop l.initial.next l.picks);
  inside : l.next ≤ length l.picks;
}

abbrev pub decreases-loop-next : goal.decreases-loop-next
decreases-loop-next g l = length l.picks - l.next
