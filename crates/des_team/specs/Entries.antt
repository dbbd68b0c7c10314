-- What the events of a part leave in its text: a key, and bytes.
use Rattle.std.specs.Prelude.{ℕ, List, [], ◌∷◌, map, reverse}
use Rattle.des_event.specs.declared.event.Event.{Event}
use Rattle.des_event.specs.declared.key.Key.{Key}

-- the key of an event, and the text of its piece
pub record Entry : Type 0 where
  pub key : Key
  pub bytes : List ℕ

-- the key of the event that left the entry, by which the texts of the parts are merged
abbrev pub entry_key : Entry → Key
entry_key e = e.key

-- the text that the event adds to the trace, in bytes; most events add none
abbrev pub entry_bytes : Entry → List ℕ
entry_bytes e = e.bytes

-- the entry of an event with its piece
abbrev pub entry_at : {Body Piece : Type 0} → (Piece → List ℕ) → Event Body × Piece → Entry
entry_at text x = record { key = x.0.key; bytes = text x.1 }

-- the entries of events with their pieces: the newest event is first, and of the entries the oldest is first
abbrev pub entries_of : {Body Piece : Type 0} → (Piece → List ℕ) → List (Event Body × Piece) → List Entry
entries_of text pairs = reverse (map (entry_at text) pairs)

-- a list put before others, unless it is empty
abbrev pub put_filled : List Entry → List (List Entry) → List (List Entry)
put_filled [] lists = lists
put_filled (entry ∷ entries) lists = (entry ∷ entries) ∷ lists
