-- The lists of mail.
use Rattle.std.specs.Prelude.{◌≡◌, ◌⊎◌, ◌<◌, ℕ, List, [], map, length, slice_index_or, Vec}
use Rattle.std.specs.Global.{Global}
use Rattle.std.specs.List.{All, Contains, flat_map}
use Rattle.des_event.specs.declared.event.Event.{Event}

module _ {Body : Type 0} where
  -- the events of one list, in its order
  abbrev pub items_of : Vec (Event Body) Global → List (Event Body)
  items_of list = list.items

  -- the events of each list, kept apart by list
  abbrev pub lists_of : List (Vec (Event Body) Global) → List (List (Event Body))
  lists_of lists = map items_of lists

  -- the events of lists, one list after another
  abbrev pub all_of : List (List (Event Body)) → List (Event Body)
  all_of lists = flat_map (λ l. l) lists

  -- the events of all these lists, one list after another
  abbrev pub mail_in : List (Vec (Event Body) Global) → List (Event Body)
  mail_in lists = all_of (lists_of lists)

  -- none of the lists has an event; how many lists there are does not matter
  abbrev pub AreEmpty : List (Vec (Event Body) Global) → Type 0
  AreEmpty lists = All (λ (l : Vec (Event Body) Global). l.items ≡ []) lists

  -- the lists that have events are those of these parts, and perhaps some others
  pub record AreNamed (lists : List (Vec (Event Body) Global)) (parts : List ℕ) : Type 0 where
    pub below : All (λ p. p < length lists) parts
    pub named : (p : ℕ) → p < length lists → (slice_index_or (lists_of lists) p [] ≡ []) ⊎ Contains parts p
