use Rattle.std.proofs.Common.{◌≡◌}
use Rattle.des_queue.specs.Calendar.{AreOrderly, events_of}
use Rattle.des_queue.proofs.Calendars.{filled_orderly}
use Rattle.des_queue.proofs.calendar.fill.Goals as goal

after : (g : _) (c : goal.After-sort_unstable g) → AreOrderly c.sort_unstable.new.self c.open_next.new.self
    × (events_of c.sort_unstable.new.self.items c.open_next.new.self ≡ events_of c.args.due.now.items c.args.days.now)
after g c =
    let opened = c.open_next.ensures in let sorted = c.sort_unstable.ensures in
    filled_orderly c.args.due.now c.open_next.new.due c.sort_unstable.new.self c.args.days.now c.open_next.new.self c.requires.orderly c.requires.empty
    opened.events opened.moved sorted.permutation opened.opened opened.days sorted.capacity sorted.sorted

pub returns-clause-orderly : goal.returns-clause-orderly
returns-clause-orderly g c = (after g c).0

pub returns-clause-same : goal.returns-clause-same
returns-clause-same g c = (after g c).1
