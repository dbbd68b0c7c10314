use Rattle.std.proofs.Common.{vec_capacity}
use Rattle.des_queue.proofs.Calendars.{none_orderly}
use Rattle.des_queue.proofs.calendar.Calendar.new.Goals as goal

pub invariant_of-result : goal.invariant_of-result
invariant_of-result g c =
    let none = c.new-2.ensures.none in record {
      orderly = (none_orderly c.new.result c.new-2.result c.new.ensures.items none (c.new-2.ensures.days (vec_capacity c.new.result))).0;
      whole = λ _. none;
    }

pub returns : goal.returns
returns g c =
    (none_orderly c.new.result c.new-2.result c.new.ensures.items c.new-2.ensures.none (c.new-2.ensures.days (vec_capacity c.new.result))).1
