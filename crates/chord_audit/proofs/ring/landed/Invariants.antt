use Rattle.std.proofs.Common.{◌≡◌, ℕ, ◌<◌, length, take}
use Rattle.std.specs.List.{list_any}
use Rattle.chord_audit.specs.Audit.{is_at}
use Rattle.chord_audit.specs.Tables.{is_marked}
use Rattle.chord_audit.proofs.ring.landed.Given as goal

abbrev pub invariant-loop-way : goal.invariant-loop-way
invariant-loop-way l = record {
  each : length l.marks.items ≡ length l.ways;
  marks : (n : ℕ) → n < length l.ways → is_marked l.marks.items n ≡ list_any (λ way. is_at way n) (take l.way-index l.ways);
}
