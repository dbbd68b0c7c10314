use Rattle.std.proofs.Common.{◌≡◌, None}
use Rattle.des_picks.specs.Picked.{can_go, lowest_by}
use Rattle.des_picks.proofs.picked_window.PickedWindow.lowest.Given as goal

abbrev pub invariant-loop-worker : goal.invariant-loop-worker
invariant-loop-worker g l = lowest_by (can_go l.self) l.worker ≡ None
