-- What the events of a run leave in its trace, with their keys.
use Rattle.std.specs.Prelude.{◌≡◌, ◌≢◌, ◌↔◌, ◌++◌, List, [], ◌∷◌, Vec, length, map}
use Rattle.std.specs.Global.{Global}
use Rattle.std.specs.List.{AllPairs, Contains}
use Rattle.des_event.specs.declared.event.Event.{Event}
use Rattle.des_event.specs.declared.key.Key.{Key}
use Rattle.des_event.specs.KeyOrder.{InKeyOrder}
use Rattle.des_parts.specs.declared.entries.Entry.{Entry}

-- what an event leaves
abbrev pub entry_of : {Body Piece : Type 0} → Event Body × Piece → Entry Piece
entry_of x = record { key = x.0.key; target = x.0.target; piece = x.1 }

module _ {Piece : Type 0} where
  -- the key of an entry is that of its event
  abbrev pub entry_key : Entry Piece → Key
  entry_key x = x.key

  -- the pieces of entries, in their order
  abbrev pub pieces_of : List (Entry Piece) → List Piece
  pieces_of entries = map (λ (x : Entry Piece). x.piece) entries

  -- the entries of all lists, one list after another
  abbrev pub all_entries : List (Vec (Entry Piece) Global) → List (Entry Piece)
  all_entries [] = []
  all_entries (entries ∷ lists) = entries.items ++ all_entries lists

  -- no two entries have the same key
  abbrev pub HaveOwnKeys : List (Entry Piece) → Type 0
  HaveOwnKeys entries = AllPairs (λ (a b : Entry Piece). a.key ≢ b.key) entries

  -- the one list of all entries, in the order of their keys
  pub record IsMerged (lists : List (Vec (Entry Piece) Global)) (entries : List (Entry Piece)) : Type 0 where
    pub ordered : InKeyOrder entry_key entries
    pub same : (x : Entry Piece) → Contains entries x ↔ Contains (all_entries lists) x
    pub long : length entries ≡ length (all_entries lists)
