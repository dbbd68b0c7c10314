use Rattle.des_queue.proofs.Shelves.{none_at}
use Rattle.des_queue.proofs.shelf.Shelf.new.Goals as goal

pub returns-clause-none : goal.returns-clause-none
returns-clause-none g c place = none_at g.B.Brief.long (record { own = c.new.result; others = c.new-2.result }) c.new.ensures.empty c.new-2.ensures.empty place
