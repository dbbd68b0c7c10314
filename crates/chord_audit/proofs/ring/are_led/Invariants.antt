use Rattle.std.proofs.Common.{◌≡◌, ℕ, ◌<◌, true}
use Rattle.chord_audit.specs.Tables.{is_marked}
use Rattle.chord_audit.proofs.ring.are_led.Given as goal

abbrev pub invariant-loop-node : goal.invariant-loop-node
invariant-loop-node l = (n : ℕ) → n < l.node → is_marked l.marks n ≡ true → is_marked l.led.items n ≡ true
