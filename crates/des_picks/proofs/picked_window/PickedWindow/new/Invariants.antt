use Rattle.std.proofs.Common.{◌≡◌, length}
use Rattle.std.specs.List.{AllByRecursion}
use Rattle.des_picks.specs.Workers.{IsIdle}
use Rattle.des_picks.proofs.picked_window.PickedWindow.new.Given as goal

abbrev pub invariant-loop-worker : goal.invariant-loop-worker
invariant-loop-worker g l = record {
  long : length l.list.items ≡ l._worker;
  idle : AllByRecursion IsIdle l.list.items;
}
