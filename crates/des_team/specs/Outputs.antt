-- The text of a part's window, with the marks of its events.
use Rattle.std.specs.Prelude.{◌≡◌, ◌≢◌, ◌↔◌, ◌<◌, ◌+◌, ℕ, ◌==◌, Bool, not, List, [], ◌∷◌, ◌++◌, length, slice_index_or}
use Rattle.std.specs.List.{AllByRecursion, AllPairs, Contains, filter, flat_map}
use Rattle.des_event.specs.KeyOrder.{InKeyOrder}
use Rattle.des_team.specs.Entries.{Entry, entry_bytes, entry_key}
use Rattle.des_team.specs.declared.output.Mark.{Mark}
use Rattle.des_team.specs.declared.output.Output.{Output}

-- the marks of these entries, whose texts follow one another from this place on
abbrev pub marks_from : ℕ → List Entry → List Mark
marks_from start [] = []
marks_from start (b ∷ entries) =
    let end = start + length (entry_bytes b) in record { key = b.key; end = end } ∷ marks_from end entries

-- the output has the text of these entries, and a mark for each
pub record IsMarked (entries : List Entry) (o : Output) : Type 0 where
  pub text_is : o.text.items ≡ flat_map entry_bytes entries
  pub marks_are : o.marks.items ≡ marks_from 0 entries

-- the event has a text; one without a text needs no mark
abbrev pub has_bytes : Entry → Bool
has_bytes b = not (length b.bytes == 0)

-- the entries that have bytes
abbrev pub told : List Entry → List Entry
told entries = filter has_bytes entries

-- the output has the text of these entries, and a mark for each that has bytes
abbrev pub IsText : List Entry → Output → Type 0
IsText entries o = IsMarked (told entries) o

-- each output has the text of a list
pub record AreTexts (lists : List (List Entry)) (outputs : List Output) : Type 0 where
  pub long : length outputs ≡ length lists
  pub each : (p : ℕ) (o : Output) → p < length lists → IsMarked (slice_index_or lists p []) (slice_index_or outputs p o)

-- the entries of all lists, one list after another
abbrev pub joined : List (List Entry) → List Entry
joined [] = []
joined (entries ∷ lists) = entries ++ joined lists

-- each list is in key order, and no two entries have the same key
pub record CanMergeLists (lists : List (List Entry)) : Type 0 where
  pub ordered : AllByRecursion (λ entries. InKeyOrder entry_key entries) lists
  pub apart : AllPairs (λ (a b : Entry). a.key ≢ b.key) (joined lists)

-- the one list of all entries, in the order of their keys
pub record IsMergeOf (lists : List (List Entry)) (entries : List Entry) : Type 0 where
  pub ordered : InKeyOrder entry_key entries
  pub same : (b : Entry) → Contains entries b ↔ Contains (joined lists) b

-- the outputs have the texts of lists that can be merged
pub record CanWrite (outputs : List Output) : Type 0 where
  pub lists : List (List Entry)
  pub texts : AreTexts lists outputs
  pub merge : CanMergeLists lists

-- these are the entries of all outputs, in the order of their keys
pub record AreMerged (outputs : List Output) (entries : List Entry) : Type 0 where
  pub lists : List (List Entry)
  pub texts : AreTexts lists outputs
  pub merged : IsMergeOf lists entries
