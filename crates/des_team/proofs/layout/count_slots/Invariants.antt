use Rattle.std.proofs.Common.{◌≡◌, ◌<◌, ℕ, length, get_or}
use Rattle.des_model.specs.Windows.{part_of}
use Rattle.des_team.specs.Layouts.{nodes_before}
use Rattle.des_team.proofs.layout.count_slots.Given as goal

abbrev pub invariant-loop-node : goal.invariant-loop-node
invariant-loop-node l = record {
  long : length l.slots.items ≡ l.node;
  counted : (i : ℕ) → i < l.node → get_or l.slots.items i 0 ≡ nodes_before l.division (part_of l.division i) i;
  sizes_long : length l.sizes.items ≡ l.division.parts;
  sizes_are : (p : ℕ) → p < length l.sizes.items → get_or l.sizes.items p 0 ≡ nodes_before l.division p l.node;
}
