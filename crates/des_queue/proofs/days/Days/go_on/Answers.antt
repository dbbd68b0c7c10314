use Rattle.des_queue.specs.Shelf.{get}
use Rattle.des_queue.specs.Days.{IsListed}
use Rattle.des_queue.proofs.Placed.{placed_of_none}
use Rattle.des_queue.proofs.days.Days.go_on.Goals as goal

pub returns-clause-days : goal.returns-clause-days
returns-clause-days g c room days =
    let d = c.args.self.now in record {
      placed = placed_of_none (IsListed (get d.events) c.max-self.result c.max-self.result) 0 d.lists.items c.requires.none;
      fit = days.fit;
    }
