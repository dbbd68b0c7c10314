-- What is left of the parts, each from its head on.
use Rattle.std.specs.Prelude.{◌≡◌, ◌<◌, ℕ, List, [], ◌∷◌, drop, length, take, slice_get, slice_index_or, ⊤, Option, None, Some}
use Rattle.std.specs.List.{AllByRecursion, flat_map}
use Rattle.std.specs.Option.{option_map}
use Rattle.std.specs.declared.cmp.Ordering.{Ordering}
use Rattle.des_event.specs.declared.key.Key.{Key}
use Rattle.des_event.specs.Keys.{IsAtMost, IsBefore, key_cmp}
use Rattle.des_team.specs.Entries.{Entry, entry_bytes, put_filled}
use Rattle.des_team.specs.declared.output.Head.{Head}
use Rattle.des_team.specs.declared.output.Mark.{Mark}

-- the key of a part's first event whose text is not yet written
abbrev pub head_key : Head → Key
head_key head = head.key

-- the order of heads: by key, in reverse
abbrev pub head_cmp : Head → Head → Ordering
head_cmp a b = key_cmp (head_key b) (head_key a)

-- the head of a part at a place, if there is a mark there
abbrev pub head_at : List Mark → (part place start : ℕ) → Option Head
head_at marks part place start = option_map (λ (m : Mark). record { key = m.key; part = part; place = place; start = start }) (slice_get marks place)

-- the entries of a part
abbrev pub entries_at : List (List Entry) → ℕ → List Entry
entries_at lists part = slice_index_or lists part []

-- the lists that have entries
abbrev pub with_entries : List (List Entry) → List (List Entry)
with_entries [] = []
with_entries (entries ∷ lists) = put_filled entries (with_entries lists)

-- the entries of the head's part, from the head on
abbrev pub ahead : List (List Entry) → Head → List Entry
ahead lists head = drop head.place (entries_at lists head.part)

-- the head is at an entry of its part, and its text starts where those of the entries before it end
pub record IsHead (lists : List (List Entry)) (head : Head) : Type 0 where
  pub inside : head.place < length (entries_at lists head.part)
  pub key_is : (b : Entry) → head.key ≡ (slice_index_or (entries_at lists head.part) head.place b).key
  pub start_is : head.start ≡ length (flat_map entry_bytes (take head.place (entries_at lists head.part)))

-- no head comes before the limit, and if there is none, there is no head
abbrev pub IsLimit : Option Key → List Head → Type 0
IsLimit None heads = heads ≡ []
IsLimit (Some limit) heads = AllByRecursion (λ (head : Head). IsAtMost limit head.key) heads

-- the key comes before the limit, if there is one
abbrev pub IsBelow : Key → Option Key → Type 0
IsBelow key None = ⊤
IsBelow key (Some limit) = IsBefore key limit
