use Rattle.std.proofs.Common.{sym, arith, length}
use Rattle.des_picks.specs.Picked.{can_go}
use Rattle.des_picks.proofs.PickedTurns.{lowest_found}
use Rattle.des_picks.proofs.picked_window.PickedWindow.lowest.Goals as goal

pub returns-then-can_go : goal.returns-then-can_go
returns-then-can_go g c = sym (lowest_found (can_go c.args.self.now) c.loop-worker.worker (length c.args.self.now.workers.items) c.loop-worker.invariant
    (sym c.if-can_go.ensures) (omega (arith, c.loop-worker-test.true, c.loop-worker.auto.worker-end, c.len-worker-end.ensures, c.args.self.now.workers.ok.0)))
