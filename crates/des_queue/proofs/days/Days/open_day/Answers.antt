use Rattle.std.proofs.Common.{◌≡◌, ℕ, ◌∙◌, ◌≤◌, ◌<◌, ◌+◌, ◌%◌, ◌++◌, List, length, map, slice_index_or, sym, ap, arith, subst, vec_capacity}
use Rattle.std.specs.List.{AllByRecursion}
use Rattle.des_queue.specs.Shelf.{get}
use Rattle.des_event.proofs.KeyLists.{all_from, all_in}
use Rattle.des_queue.specs.declared.days.Days.{Days}
use Rattle.des_queue.specs.Days.{AreDays, IsListed, day_of, list_count}
use Rattle.des_queue.specs.Places.{Entry, entry_at, waiting_key}
use Rattle.des_queue.proofs.Calendars.{all_mapped, taken_entries}
use Rattle.des_queue.proofs.Placed.{
  PlaceList,
  all_set,
  fit_at,
  fit_more,
  all_there,
  joined,
  joined_taken,
  listed_at,
  next_day,
  placed_off,
  placed_set,
  this_day,
}
use Rattle.des_queue.proofs.days.Days.open_day.Goals as goal

-- the places of the day have its events
listed : {B : Type 0} (d : Days B) (l : PlaceList) (room : ℕ) → AreDays d room → (d.today + 1) % list_count < length d.lists.items
    → l ≡ slice_index_or d.lists.items ((d.today + 1) % list_count) l
    → AllByRecursion (IsListed (get d.events) d.today d.latest ((d.today + 1) % list_count)) l.items
listed d l room days lt is =
    let at = (d.today + 1) % list_count in listed_at (IsListed (get d.events) d.today d.latest) at d.lists.items l l lt is days.placed

pub add_entries-requires-clause-there : goal.add_entries-requires-clause-there
add_entries-requires-clause-there g c =
    let d = c.args.self.now in let l = c.index.result.now in
    all_there (get d.events) d.today d.latest ((d.today + 1) % list_count) l.items (listed d l (vec_capacity c.args.due.now) c.requires.days
    (omega (arith, c.if-at-len.true, c.len.ensures, d.lists.ok.0)) c.index.ensures)

pub add_entries-requires-clause-room : goal.add_entries-requires-clause-room
add_entries-requires-clause-room g c =
    let d = c.args.self.now in let due = c.args.due.now in let l = c.index.result.now in
    let fit = fit_at (vec_capacity due) ((d.today + 1) % list_count) d.lists.items l l (omega (arith, c.if-at-len.true, c.len.ensures, d.lists.ok.0))
    c.index.ensures c.requires.days.fit in
    let none : length due.items ≡ 0 = ap (λ (ws : List Entry). length ws) c.requires.empty in
    omega (arith, fit, none, due.ok.0, l.ok.0)

pub returns-then-at-len-clause-days : goal.returns-then-at-len-clause-days
returns-then-at-len-clause-days g c =
    let d = c.args.self.now in let at = (d.today + 1) % list_count in let s = get d.events in let l = c.empty_list.new.places in
    let Q = IsListed s (d.today + 1) d.latest in let room = vec_capacity c.add_entries.new.entries in record {
      placed = placed_set (IsListed s d.today d.latest) Q 0 at d.lists.items l
          (λ j n ne is. next_day s d.today d.latest j n (λ q. ne (q ∙ omega arith)) is) c.requires.days.placed
          (subst (λ ps. AllByRecursion (Q (0 + at)) ps) (sym c.empty_list.ensures) tt);
      fit = all_set (λ (m : PlaceList). length m.items ≤ room) d.lists.items at l
          (fit_more (vec_capacity c.args.due.now) room d.lists.items c.add_entries.ensures.capacity c.requires.days.fit)
          (subst (λ ps. length ps ≤ room) (sym c.empty_list.ensures) (omega arith));
    }

pub returns-then-at-len-clause-moved : goal.returns-then-at-len-clause-moved
returns-then-at-len-clause-moved g c =
    let d = c.args.self.now in let at = (d.today + 1) % list_count in let s = get d.events in let l = c.index.result.now in
    taken_entries s (joined d.lists.items) (slice_index_or d.lists.items at l).items _ c.add_entries.new.entries.items
    (joined_taken d.lists.items at l c.empty_list.new.places (omega (arith, c.if-at-len.true, c.len.ensures, d.lists.ok.0)) c.empty_list.ensures)
    (c.add_entries.ensures.added ∙ ap (λ (ws : List Entry). ws ++ map (entry_at s) l.items) c.requires.empty
    ∙ ap (λ (m : PlaceList). map (entry_at s) m.items) c.index.ensures)

pub returns-then-at-len-clause-opened : goal.returns-then-at-len-clause-opened
returns-then-at-len-clause-opened g c =
    let d = c.args.self.now in let at = (d.today + 1) % list_count in let s = get d.events in let ps = c.index.result.now.items in
    let opened = all_mapped (λ w. day_of (waiting_key w) ≤ d.today + 1) (entry_at s) ps
    (all_from (λ n. day_of (waiting_key (entry_at s n)) ≤ d.today + 1) ps
    (λ n h. this_day s d.today d.latest n (all_in (IsListed s d.today d.latest at) ps (listed d c.index.result.now (vec_capacity c.args.due.now) c.requires.days
    (omega (arith, c.if-at-len.true, c.len.ensures, d.lists.ok.0)) c.index.ensures) n h))) in
    subst (λ ws. AllByRecursion (λ w. day_of (waiting_key w) ≤ d.today + 1) ws)
    (sym (c.add_entries.ensures.added ∙ ap (λ (ws : List Entry). ws ++ map (entry_at s) ps) c.requires.empty)) opened

pub returns-else-at-len-clause-days : goal.returns-else-at-len-clause-days
returns-else-at-len-clause-days g c =
    let d = c.args.self.now in let at = (d.today + 1) % list_count in let s = get d.events in record {
      placed = placed_off (IsListed s d.today d.latest) (IsListed s (d.today + 1) d.latest) 0 at d.lists.items
          (omega (arith, c.if-at-len.false, c.len.ensures, d.lists.ok.0))
          (λ j n ne is. next_day s d.today d.latest j n ne is) c.requires.days.placed;
      fit = c.requires.days.fit;
    }
