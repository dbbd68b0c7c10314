-- What the text of a trace says, and the table of its lookups.
use Rattle.std.specs.Prelude.{◌≡◌, ℕ, ◌+◌, ◌-◌, ◌^◌, ◌==◌, Bool, false, true, cond, length, min, not, reverse, List, [], ◌∷◌, ◌++◌, Option, Some, None}
use Rattle.std.specs.Io.KnownBytes.{Appends, Consumes, IsAtEnd}
use Rattle.std.specs.List.{All, filter_map}
use Rattle.des_output.specs.Writing.{AppendsFront}
use Rattle.chord_judge.specs.Judged.{is_known, judged, open_after}
use Rattle.chord_judge.specs.Reading.{said}
use Rattle.chord_judge.specs.Table.{heading, rows_text}
use Rattle.chord_judge.specs.declared.lines.Said.{Said}
use Rattle.chord_judge.specs.declared.lines.Said.TheVariants as outcome
use Rattle.chord_judge.specs.declared.told.Told.{Told}
use Rattle.chord_scenario.specs.Setup.{Setup}

-- the lines of a text that a line feed ends, without it; the first line begins with these bytes
abbrev pub lines_from : (begun : List ℕ) → List ℕ → List (List ℕ)
lines_from begun [] = []
lines_from begun (byte ∷ text) =
    let ended = lines_from [] text in let longer = lines_from (begun ++ byte ∷ []) text in cond (byte == 10) (begun ∷ ended) longer

-- the bytes of a text that no line feed ends, after these bytes of a line
abbrev pub rest_from : (begun : List ℕ) → List ℕ → List ℕ
rest_from begun [] = begun
rest_from begun (byte ∷ text) =
    let ended = rest_from [] text in let longer = rest_from (begun ++ byte ∷ []) text in cond (byte == 10) ended longer

-- a text says a line of some kind
abbrev pub IsLine : Said → Type 0
IsLine outcome.Nothing = ⊥
IsLine _ = Unit {0}

-- each line of a trace that has ended says something
abbrev pub IsReadable : Setup → List ℕ → Type 0
IsReadable sc text = All (λ line. IsLine (said sc line)) (lines_from [] text)

-- each of these lines ends no lookup, or one in progress; the newest line is first
abbrev pub AreKnown : List Told → Type 0
AreKnown [] = Unit {0}
AreKnown (told ∷ before) = (is_known told.line told.time told.node (open_after before) ≡ true) × AreKnown before

-- the line that a judge is to be told, if a text says one
abbrev pub told_in : Said → Option Told
told_in (outcome.Told told) = Some told
told_in _ = None

-- the lines of a trace that a judge is told, the oldest line first; a line that no line feed ends is not told
abbrev pub told_lines : Setup → List ℕ → List Told
told_lines sc text = filter_map (λ line. told_in (said sc line)) (lines_from [] text)

-- the table of the lookups of a trace: its heading, and a row for each lookup
abbrev pub table_text : Setup → List ℕ → List ℕ
table_text sc text = heading ++ rows_text sc (judged sc (told_lines sc text))

-- a judge refuses a line after these ones, the newest first: it says nothing, or ends a lookup that is not in progress
abbrev pub is_refused : Said → List Told → Bool
is_refused outcome.Nothing before = true
is_refused outcome.Other before = false
is_refused (outcome.Told told) before = not (is_known told.line told.time told.node (open_after before))

-- a text ends in the first line that is refused, without its line feed; the line has this number, counted from 1, and the
-- greatest number of 64 bits if it is the line of a greater one
pub record EndsRefused (sc : Setup) (text : List ℕ) (number : ℕ) : Type 0 where
  pub readable : IsReadable sc text
  pub known : AreKnown (reverse (told_lines sc text))
  pub refused : is_refused (said sc (rest_from [] text)) (reverse (told_lines sc text)) ≡ true
  pub counted : number ≡ min (length (lines_from [] text) + 1) (2 ^ 64 - 1)

-- a text has a line that is refused, and the first one has this number
pub record HasRefused (sc : Setup) (text : List ℕ) (number : ℕ) : Type 0 where
  pub before : List ℕ
  pub more : List ℕ
  pub parts : text ≡ before ++ 10 ∷ more
  pub ends : EndsRefused sc before number

-- a text was read, and the first of its lines that is refused has this number
pub record WasRefused (sc : Setup) (number : ℕ) (unread left : Option (List ℕ)) : Type 0 where
  pub text : List ℕ
  pub read : Consumes unread left text
  pub refused : HasRefused sc text number

-- a text was read, and a beginning of the table of its lookups was written: all of it, some or none
pub record WasBegun (sc : Setup) (unread left : Option (List ℕ)) (old new : Option (List ℕ)) : Type 0 where
  pub text : List ℕ
  pub read : Consumes unread left text
  pub front : AppendsFront old new (table_text sc text)

-- a text of readable lines that end no other lookups than those in progress was read to its end, and the table of its
-- lookups was written
pub record WasJudged (sc : Setup) (unread left : Option (List ℕ)) (old new : Option (List ℕ)) : Type 0 where
  pub text : List ℕ
  pub read : Consumes unread left text
  pub end : IsAtEnd left
  pub readable : IsReadable sc text
  pub known : AreKnown (reverse (told_lines sc text))
  pub table : Appends old new (table_text sc text)
