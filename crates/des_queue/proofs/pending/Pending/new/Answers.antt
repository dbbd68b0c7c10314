use Rattle.std.proofs.Common.{◌≡◌, ◌++◌, [], sym, subst, rules}
use Rattle.des_queue.specs.Calendar.{AreDistinct}
use Rattle.des_queue.proofs.Orders.{distinct_none}
use Rattle.des_queue.proofs.Pendings.{Events}
use Rattle.des_queue.proofs.pending.Pending.new.Goals as goal

pub invariant_of-result : goal.invariant_of-result
invariant_of-result g c =
    let none : c.new.result ++ c.new-2.result ≡ [] = λ i. c.new.ensures i ++ c.new-2.ensures i in
    subst (λ (l : Events _). AreDistinct l) (sym none) (distinct_none g.row.B.Denot)

pub returns : goal.returns
returns g c = search rules
