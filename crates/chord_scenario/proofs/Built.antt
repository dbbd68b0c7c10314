-- A loop over tables that adds, for each of one kind, what it makes of it, or, for each, all that it makes of it.
use Rattle.std.proofs.Common.{
  ◌≡◌,
  ◌∙◌,
  sym,
  ap,
  refl,
  ℕ,
  ◌+◌,
  ◌<◌,
  ◌≤◌,
  Bool,
  true,
  false,
  List,
  [],
  ◌∷◌,
  ◌++◌,
  map,
  filter,
  flat_map,
  length,
  drop,
  get_or,
  append_assoc,
}
use Rattle.std.proofs.lemmas.List.{append-nil, drop_all, drop_more}
use Rattle.chord_scenario.specs.declared.key.Place.{Place}
use Rattle.chord_scenario.specs.declared.key.Place.TheVariants as place
use Rattle.chord_scenario.specs.Settings.{is_command}

-- a place that is that of no command
pub no-command : (at : Place) → ((n : ℕ) → at ≡ place.Command n → ⊥) → is_command at ≡ false
no-command (place.Command n) other = absurd (other n refl)
no-command _ other = refl

-- what is made of the items of the kind
abbrev pub made : {X A B : Type 0} → (X → A) → (A → Bool) → (A → B) → List X → List B
made seen test make xs = map make (filter test (map seen xs))

module _ {X A B : Type 0} (seen : X → A) (test : A → Bool) (make : A → B) (xs : List X) (i : ℕ) (x : X) (done : List B) where
  turn : i < length xs → x ≡ get_or xs i x → made seen test make (drop i xs) ≡ made seen test make (x ∷ drop (i + 1) xs)
  turn within is = ap (made seen test make) (drop_more xs i x within) ∙ ap (λ y. made seen test make (y ∷ drop (i + 1) xs)) (sym is)

  -- an item of the kind is added
  pub made-more : (y : B) → done ++ made seen test make (drop i xs) ≡ made seen test make xs → i < length xs → x ≡ get_or xs i x
      → test (seen x) ≡ true → y ≡ make (seen x)
      → (done ++ y ∷ []) ++ made seen test make (drop (i + 1) xs) ≡ made seen test make xs
  made-more y before within is here same =
      let rest : List B = made seen test make (drop (i + 1) xs) in
      let next : made seen test make (x ∷ drop (i + 1) xs) ≡ make (seen x) ∷ rest = rw here refl in
      append_assoc done (y ∷ []) rest ∙ ap (λ z. done ++ z ∷ rest) same ∙ ap (λ l. done ++ l) (sym (turn within is ∙ next)) ∙ before

  -- another is passed over
  pub made-other : done ++ made seen test make (drop i xs) ≡ made seen test make xs → i < length xs → x ≡ get_or xs i x → test (seen x) ≡ false
      → done ++ made seen test make (drop (i + 1) xs) ≡ made seen test make xs
  made-other before within is here =
      let next : made seen test make (x ∷ drop (i + 1) xs) ≡ made seen test make (drop (i + 1) xs) = rw here refl in
      ap (λ l. done ++ l) (sym (turn within is ∙ next)) ∙ before

-- and at the end all is there
pub made-all : {X A B : Type 0} (seen : X → A) (test : A → Bool) (make : A → B) (xs : List X) (i : ℕ) (done : List B)
    → done ++ made seen test make (drop i xs) ≡ made seen test make xs → length xs ≤ i → done ≡ made seen test make xs
made-all seen test make xs i done before over = sym (append-nil done) ∙ ap (λ l. done ++ made seen test make l) (sym (drop_all i xs over)) ∙ before

-- what is made of each item, in one list
module _ {X A B : Type 0} (seen : X → A) (make : A → List B) (xs : List X) (i : ℕ) (done : List B) where
  -- what is made of one more item is added
  pub each-more : (x : X) (after : List B) → done ++ flat_map make (map seen (drop i xs)) ≡ flat_map make (map seen xs)
      → i < length xs → x ≡ get_or xs i x → after ≡ done ++ make (seen x)
      → after ++ flat_map make (map seen (drop (i + 1) xs)) ≡ flat_map make (map seen xs)
  each-more x after before within is added =
      let rest : List B = flat_map make (map seen (drop (i + 1) xs)) in
      let turn : flat_map make (map seen (drop i xs)) ≡ make (seen x) ++ rest = ap (λ l. flat_map make (map seen l)) (drop_more xs i x within)
      ∙ ap (λ y. flat_map make (map seen (y ∷ drop (i + 1) xs))) (sym is) in
      ap (λ l. l ++ rest) added ∙ append_assoc done (make (seen x)) rest ∙ ap (λ l. done ++ l) (sym turn) ∙ before

  -- and at the end all is there
  pub each-all : done ++ flat_map make (map seen (drop i xs)) ≡ flat_map make (map seen xs) → length xs ≤ i → done ≡ flat_map make (map seen xs)
  each-all before over = sym (append-nil done) ∙ ap (λ l. done ++ flat_map make (map seen l)) (sym (drop_all i xs over)) ∙ before
