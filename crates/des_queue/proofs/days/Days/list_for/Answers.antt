use Rattle.std.proofs.Common.{◌/◌, ◌%◌, arith, refl}
use Rattle.std.proofs.lemmas.Grind.{common_steps}
use Rattle.des_queue.proofs.Calendars.{kept_list, same_places}
use Rattle.des_queue.proofs.Shelves.{get_kept}
use Rattle.des_queue.proofs.days.Days.list_for.Goals as goal

pub returns-in-Err-clause-days : goal.returns-in-Err-clause-days
returns-in-Err-clause-days g c = same_places c.args.self.now c.make_room.new.self c.args.room (get_kept c.args.self.now.events c.make_room.new.self c.make_room.new.self.ready c.make_room.ensures.kept) c.requires

pub returns-in-Err-reserve-clause-days : goal.returns-in-Err-reserve-clause-days
returns-in-Err-reserve-clause-days g c =
    let d = c.args.self.now in
    (kept_list d c.make_room.new.self (c.args.time / 1024 % 2048) c.args.room c.index_mut.result.now c.reserve.new.self c.requires
    (get_kept c.args.self.now.events c.make_room.new.self c.make_room.new.self.ready c.make_room.ensures.kept) (omega (arith, c.if-at-len.false, c.len.ensures, d.lists.ok.0)) c.index_mut.ensures.value
    c.reserve.ensures.items).0

pub returns-in-Err-reserve-clause-same : goal.returns-in-Err-reserve-clause-same
returns-in-Err-reserve-clause-same g c =
    let d = c.args.self.now in
    (kept_list d c.make_room.new.self (c.args.time / 1024 % 2048) c.args.room c.index_mut.result.now c.reserve.new.self c.requires
    (get_kept c.args.self.now.events c.make_room.new.self c.make_room.new.self.ready c.make_room.ensures.kept) (omega (arith, c.if-at-len.false, c.len.ensures, d.lists.ok.0)) c.index_mut.ensures.value
    c.reserve.ensures.items).1

pub returns-clause-days : goal.returns-clause-days
returns-clause-days g c =
    let d = c.args.self.now in
    (kept_list d c.make_room.new.self (c.args.time / 1024 % 2048) c.args.room c.index_mut.result.now c.reserve.new.self c.requires
    (get_kept c.args.self.now.events c.make_room.new.self c.make_room.new.self.ready c.make_room.ensures.kept) (omega (arith, c.if-at-len.false, c.len.ensures, d.lists.ok.0)) c.index_mut.ensures.value
    c.reserve.ensures.items).0

pub returns-clause-same : goal.returns-clause-same
returns-clause-same g c =
    let d = c.args.self.now in
    (kept_list d c.make_room.new.self (c.args.time / 1024 % 2048) c.args.room c.index_mut.result.now c.reserve.new.self c.requires
    (get_kept c.args.self.now.events c.make_room.new.self c.make_room.new.self.ready c.make_room.ensures.kept) (omega (arith, c.if-at-len.false, c.len.ensures, d.lists.ok.0)) c.index_mut.ensures.value
    c.reserve.ensures.items).1

pub returns-clause-takes : goal.returns-clause-takes
returns-clause-takes g c = record {
  later = omega (arith, c.if-day-self.false);
  soon = omega (arith, c.if-day-self.false, c.if-day-self-ge-DAYS.false);
  there = refl;
  listed = grind (arith, common_steps);
  fit = grind (arith, common_steps);
  free = grind (arith, common_steps);
  vacant = grind (arith, common_steps);
}

pub returns-in-Err-clause-same : goal.returns-in-Err-clause-same
returns-in-Err-clause-same g c = record {
  today = refl;
  events = get_kept c.args.self.now.events c.make_room.new.self c.make_room.new.self.ready c.make_room.ensures.kept;
  places = refl;
}
