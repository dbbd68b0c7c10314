use Rattle.std.proofs.Common.{◌≡◌, ℕ, ◌<◌, Some, length, true}
use Rattle.chord_audit.specs.Tables.{is_marked, node_at, IsLedTo}
use Rattle.chord_audit.proofs.ring.led_from.Given as goal

abbrev pub invariant-loop-node : goal.invariant-loop-node
invariant-loop-node l = record {
  each : length l.led.items ≡ length l.best;
  led : (n : ℕ) → is_marked l.led.items n ≡ true → IsLedTo l.best l.marks n;
  all : (m n : ℕ) → m < l.node → is_marked l.marks m ≡ true → node_at l.best m ≡ Some n → is_marked l.led.items n ≡ true;
}
