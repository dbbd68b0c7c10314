-- What a digest keeps of a trace.
use Rattle.std.specs.Prelude.{◌≡◌, ℕ, ◌==◌, ◌^◌, ◌||◌, Bool, false, true, codes, not, take, List, [], ◌∷◌, ◌++◌, Option, Some, None}
use Rattle.std.specs.List.{filter, list_all, list_any}
use Rattle.std.specs.Str.{bytes_eq}
use Rattle.chord_judge.specs.Traces.{lines_from, rest_from}
use Rattle.chord_judge.specs.Words.{after_word, first_word, number_below}
use Rattle.chord_judge.specs.Written.{is_break}
use Rattle.chord_judge.specs.declared.digest.Part.{Part}
use Rattle.chord_judge.specs.declared.digest.Part.TheVariants as part

-- the third words of lines that are kept, but for those of audits
abbrev pub kept_words : List (List ℕ)
kept_words =
    codes "join" ∷ codes "member" ∷ codes "create" ∷ codes "crash" ∷ codes "leave" ∷ codes "stranded" ∷ codes "join-failed"
    ∷ codes "ignored" ∷ codes "busy" ∷ codes "timeout" ∷ codes "lose" ∷ codes "again" ∷ []

-- lines with this third word are kept; that of an audit is its number of members
abbrev pub is_kept_word : List ℕ → Bool
is_kept_word word = list_any (bytes_eq word) kept_words || bytes_eq (take 8 word) (codes "members=")

-- a line with this third word is kept, if it begins with this time, or with none
abbrev pub is_kept_at : (time : Option ℕ) → (word : List ℕ) → Bool
is_kept_at None word = true
is_kept_at (Some time) word = is_kept_word word

-- a line is kept: it begins with no time, or its third word is kept
abbrev pub is_kept : List ℕ → Bool
is_kept line = is_kept_at (number_below (2 ^ 64) (first_word line)) (first_word (after_word (after_word line)))

-- the lines of a text that are kept; the first line begins with these bytes
abbrev pub kept_from : (begun : List ℕ) → List ℕ → List (List ℕ)
kept_from begun text = filter is_kept (lines_from begun text)

-- a text has no line feed
abbrev pub is_part_of_line : List ℕ → Bool
is_part_of_line = list_all (λ byte. not (byte == 10))

-- a line that is not kept
abbrev pub IsUnkept : List ℕ → Type 0
IsUnkept line = (is_part_of_line line ≡ true) × (is_kept line ≡ false)

-- a digest keeps a line if it does this with it
abbrev pub keeps : Part → Bool
keeps part.Stops = true
keeps part.TimesOut = true
keeps part.Keeps = true
keeps _ = false

-- a text is one word: it has no space and no line feed
abbrev pub is_word : List ℕ → Bool
is_word = list_all (λ byte. not (is_break byte))

-- whole lines were added to a text, and these of them are kept
pub record Adds (lines : List (List ℕ)) (old new : List ℕ) : Type 0 where
  pub more : List ℕ
  pub text : new ≡ old ++ more
  pub whole : rest_from [] more ≡ []
  pub kept : kept_from [] more ≡ lines
