-- What a stream holds of the text of a trace that it has taken.
use Rattle.std.specs.Prelude.{◌≡◌, ℕ, ◌-◌, ◌^◌, length, min, List, [], ◌++◌, reverse, string_bytes}
use Rattle.chord_judge.specs.Inside.{HasRead, setup_of}
use Rattle.chord_judge.specs.Judged.{rows_after}
use Rattle.chord_judge.specs.Table.{heading, rows_text}
use Rattle.chord_judge.specs.Traces.{AreKnown, IsReadable, lines_from, rest_from, told_lines}
use Rattle.chord_judge.specs.declared.stream.Stream.{Stream}
use Rattle.chord_scenario.specs.Setup.{Setup}

-- the stream has taken this text, and has written these bytes of the table: it has told the judge the lines that have
-- ended, and the rows of the lookups that have ended are written or still to be written
pub record HasTaken (sc : Setup) (text written : List ℕ) (stream : Stream) : Type 0 where
  pub setup : setup_of stream.judge ≡ sc
  pub judge : HasRead sc (reverse (told_lines sc text)) stream.judge
  pub readable : IsReadable sc text
  pub known : AreKnown (reverse (told_lines sc text))
  pub count : stream.lines ≡ min (length (lines_from [] text)) (2 ^ 64 - 1)
  pub line : stream.line.items ≡ rest_from [] text
  pub rows : stream.rows.items ≡ []
  pub table : heading ++ rows_text sc (rows_after sc (reverse (told_lines sc text))) ≡ written ++ string_bytes stream.text
