use Rattle.std.proofs.Common.{◌≡◌, ℕ, ◌||◌, map, nat_lt, take}
use Rattle.std.specs.List.{list_any, range_with_len}
use Rattle.chord_audit.specs.Tables.{covers}
use Rattle.chord_audit.proofs.arcs.Arcs.covered.Given as goal

abbrev pub invariant-loop-rank : goal.invariant-loop-rank
invariant-loop-rank l = record {
  marks : l.marks.items ≡ map (covers l.self) (range_with_len 0 l.rank);
  top : (k : ℕ) → nat_lt k l.top ≡ (nat_lt k l.self.first || list_any (λ end. nat_lt k end) (take l.rank l.self.far.items));
}
