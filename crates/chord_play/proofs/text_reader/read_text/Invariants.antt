use Rattle.std.proofs.Common.{◌≡◌, ◌-◌, ◌≤◌, false, length, vec_len}
use Rattle.std.specs.Io.KnownBytes.{Consumes}
use Rattle.des_output.specs.Watched.{wrapped, has_failed}
use Rattle.chord_play.proofs.text_reader.read_text.Given as goal

abbrev pub invariant-loop-chunk : goal.invariant-loop-chunk
invariant-loop-chunk g l =
    (has_failed l.reader ≡ false) × (length l.chunk ≡ 8192) × (vec_len l.text ≤ 16777217)
    × Consumes (g.R.Read.remaining (wrapped l.initial.reader)) (g.R.Read.remaining (wrapped l.reader)) l.text.items

abbrev pub decreases-loop-chunk : goal.decreases-loop-chunk
decreases-loop-chunk g l = 16777217 - vec_len l.text
