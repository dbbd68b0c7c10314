use Rattle.std.proofs.Common.{◌≡◌, None, length}
use Rattle.std.specs.List.{AllByRecursion}
use Rattle.des_parts.proofs.part_order.empty_slots.Given as goal

abbrev pub invariant-loop-part : goal.invariant-loop-part
invariant-loop-part g l = record {
  long : length l.slots.items ≡ l._part;
  empty : AllByRecursion (λ slot. slot ≡ None) l.slots.items;
}
