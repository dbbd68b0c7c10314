use Rattle.std.proofs.Common.{◌≡◌, ◌-◌, ◌≤◌, false, length, take}
use Rattle.std.specs.Io.KnownBytes.{Appends}
use Rattle.des_output.specs.Watched.{wrapped, has_failed}
use Rattle.des_output.proofs.writing.write_text.Given as goal

abbrev pub invariant-loop-taken : goal.invariant-loop-taken
invariant-loop-taken g l =
    (l.taken ≤ length l.text) × (has_failed l.writer ≡ false)
    × Appends (g.W.Write.contents (wrapped l.initial.writer)) (g.W.Write.contents (wrapped l.writer)) (take l.taken l.text)

abbrev pub decreases-loop-taken : goal.decreases-loop-taken
decreases-loop-taken g l = length l.text - l.taken
