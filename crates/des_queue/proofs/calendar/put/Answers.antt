use Rattle.std.proofs.Common.{◌∙◌, refl, vec_capacity}
use Rattle.des_queue.specs.Calendar.{events_of}
use Rattle.des_queue.proofs.Calendars.{put_orderly}
use Rattle.des_queue.proofs.calendar.put.Goals as goal

pub refill-requires : goal.refill-requires
refill-requires g c =
    let due = c.args.due.now in let days = c.args.days.now in
    (put_orderly due days c.put.new.self c.args.event (events_of due.items days) c.requires.orderly refl c.requires.new c.put.ensures.taken
    (c.put.ensures.days (vec_capacity due) c.requires.orderly.days c.requires.takes)).0

pub returns-clause-taken : goal.returns-clause-taken
returns-clause-taken g c =
    let due = c.args.due.now in let days = c.args.days.now in
    c.refill.ensures.same
    ∙ (put_orderly due days c.put.new.self c.args.event (events_of due.items days) c.requires.orderly refl c.requires.new c.put.ensures.taken
    (c.put.ensures.days (vec_capacity due) c.requires.orderly.days c.requires.takes)).1
