use Rattle.std.proofs.Common.{arith}
use Rattle.des_queue.proofs.Inserting.{empty}
use Rattle.des_queue.proofs.days.Days.make_lists.Goals as goal

pub add_lists-requires-clause-none : goal.add_lists-requires-clause-none
add_lists-requires-clause-none g c =
    let lists = c.args.self.now.lists in empty lists.items (omega (arith, c.if-len-gt0.false, c.len.ensures, lists.ok.0))
