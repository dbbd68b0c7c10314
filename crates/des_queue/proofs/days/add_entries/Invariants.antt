use Rattle.std.proofs.Common.{◌≡◌, ◌+◌, ◌≤◌, ◌++◌, map, drop, vec_len, vec_capacity}
use Rattle.des_queue.specs.Shelf.{get}
use Rattle.des_queue.specs.Places.{entry_at}
use Rattle.des_queue.proofs.days.add_entries.Given as goal

abbrev pub invariant-loop-place : goal.invariant-loop-place
invariant-loop-place g l = record {
  added : l.entries.items ++ map (entry_at (get l.events)) (drop l.place-index l.places.items)
      ≡ l.initial.entries.items ++ map (entry_at (get l.events)) l.places.items;
  room : vec_len l.entries + vec_len l.places ≤ vec_capacity l.entries + l.place-index;
  capacity : vec_capacity l.initial.entries ≤ vec_capacity l.entries;
}
