use Rattle.std.proofs.Common.{◌≡◌, ◌++◌, string_bytes, take}
use Rattle.chord_judge.specs.Table.{rows_text}
use Rattle.chord_judge.proofs.table.push_rows_text.Given as goal

abbrev pub invariant-loop-row : goal.invariant-loop-row
invariant-loop-row l = string_bytes l.text ≡ string_bytes l.initial.text ++ rows_text l.scenario (take l.row-index l.rows)
