use Rattle.std.proofs.Common.{◌≡◌, ℕ, ◌+◌, ◌-◌, ◌<◌, ◌≤◌, length}
use Rattle.std.specs.List.{list_any}
use Rattle.chord_audit.specs.Audit.{is_at}
use Rattle.chord_audit.specs.Tables.{is_marked, IsPower}
use Rattle.chord_audit.proofs.ring.ring_of.Given as goal

abbrev pub invariant-loop-steps : goal.invariant-loop-steps
invariant-loop-steps l = record {
  some : 1 ≤ l.steps;
  power : IsPower l.steps l.best l.far.items;
  each : length l.ring.items ≡ length l.best;
  marks : (n : ℕ) → n < length l.best → is_marked l.ring.items n ≡ list_any (λ way. is_at way n) l.far.items;
}

abbrev pub decreases-loop-steps : goal.decreases-loop-steps
decreases-loop-steps l = length l.best + 1 - l.steps
