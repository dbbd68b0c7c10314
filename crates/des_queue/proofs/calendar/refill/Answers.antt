use Rattle.std.proofs.Common.{arith}
use Rattle.des_queue.proofs.Inserting.{empty}
use Rattle.des_queue.proofs.calendar.refill.Goals as goal

pub fill-requires-clause-empty : goal.fill-requires-clause-empty
fill-requires-clause-empty g c = let due = c.args.due.now in empty due.items (omega (arith, c.if-len-gt0.false, c.len.ensures, due.ok.0))
