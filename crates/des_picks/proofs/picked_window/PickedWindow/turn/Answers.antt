use Rattle.std.proofs.Common.{length, arith}
use Rattle.des_picks.specs.Picked.{can_go}
use Rattle.des_picks.proofs.PickedTurns.{lowest_is}
use Rattle.std.proofs.lemmas.Grind.{common_steps}
use Rattle.des_picks.proofs.picked_window.PickedWindow.turn.Goals as goal

pub returns-clause-worker : goal.returns-clause-worker
returns-clause-worker g c = (lowest_is (can_go c.args.self.now) (length c.args.self.now.workers.items) c.args.lowest c.requires.lowest).0

pub returns-clause-can_go : goal.returns-clause-can_go
returns-clause-can_go g c = (lowest_is (can_go c.args.self.now) (length c.args.self.now.workers.items) c.args.lowest c.requires.lowest).1

pub loop-next-preserved : goal.loop-next-preserved
loop-next-preserved g c = grind (arith, common_steps)
