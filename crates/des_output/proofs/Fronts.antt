-- What several writing calls leave together. A loop that writes the text of each element in turn
-- keeps `Appends` of the texts of those written: `whole_more` goes one element on, and what a call
-- that failed left is the front of all texts by `front_more`.
use Rattle.std.proofs.Common.{
  ◌≡◌,
  ◌∙◌,
  ◌+◌,
  ◌<◌,
  ◌≤◌,
  ℕ,
  List,
  [],
  ◌∷◌,
  ◌++◌,
  Option,
  ap,
  sym,
  subst,
  arith,
  length,
  take,
  drop,
  min,
  get_or,
  append-nil,
  take-append-drop,
}
use Rattle.std.proofs.Math.Seq.{take-append-add}
use Rattle.std.proofs.lemmas.List.{take-append-le, take_all, take_min, take_more}
use Rattle.std.proofs.lemmas.List.Concat.{flat_map-append}
use Rattle.std.specs.Io.KnownBytes.{Appends}
use Rattle.std.specs.List.{flat_map}
use Rattle.std.proofs.KnownBytes.{Appends-trans}
use Rattle.des_output.specs.Writing.{AppendsFront}

-- a whole text is a front of itself
pub front_of_whole : (a b : Option (List ℕ)) (xs : List ℕ) → Appends a b xs → AppendsFront a b xs
front_of_whole a b xs whole = (length xs, rw (take_all (length xs) xs (omega arith)) whole)

-- the front of a text is the front of a longer one
pub front_of_longer : (a b : Option (List ℕ)) (xs ys : List ℕ) → AppendsFront a b xs → AppendsFront a b (xs ++ ys)
front_of_longer a b xs ys front =
    (min front.0 (length xs), rw (take-append-le (min front.0 (length xs)) xs ys (omega arith), take_min front.0 xs) front.1)

-- a text, and then the front of another: the front of both
pub front_after : (a b c : Option (List ℕ)) (xs ys : List ℕ) → Appends a b xs → AppendsFront b c ys → AppendsFront a c (xs ++ ys)
front_after a b c xs ys whole front =
    (length xs + front.0, rw (take-append-add xs ys front.0) (Appends-trans a b c xs (take front.0 ys) whole front.1))

module _ {X : Type 0} (text : X → List ℕ) where
  text_more : (xs : List X) (i : ℕ) (x : X) → i < length xs → x ≡ get_or xs i x → flat_map text (take (i + 1) xs) ≡ flat_map text (take i xs) ++ text x
  text_more xs i x lt is =
      ap (flat_map text) (take_more xs i x lt ∙ ap (λ y. take i xs ++ y ∷ []) (sym is))
      ∙ flat_map-append text (take i xs) (x ∷ []) ∙ ap (λ l. flat_map text (take i xs) ++ l) (append-nil (text x))

  -- the texts of the first elements, and then the whole text of x, the next one
  pub whole_more : (xs : List X) (i : ℕ) (x : X) → i < length xs → x ≡ get_or xs i x → (a b c : Option (List ℕ))
      → Appends a b (flat_map text (take i xs)) → Appends b c (text x) → Appends a c (flat_map text (take (i + 1) xs))
  whole_more xs i x lt is a b c before next =
      subst (Appends a c) (sym (text_more xs i x lt is)) (Appends-trans a b c (flat_map text (take i xs)) (text x) before next)

  -- the same, and the front of that text
  pub front_more : (xs : List X) (i : ℕ) (x : X) → i < length xs → x ≡ get_or xs i x → (a b c : Option (List ℕ))
      → Appends a b (flat_map text (take i xs)) → AppendsFront b c (text x) → AppendsFront a c (flat_map text xs)
  front_more xs i x lt is a b c before next =
      let parts = ap (flat_map text) (sym (take-append-drop (i + 1) xs)) ∙ flat_map-append text (take (i + 1) xs) (drop (i + 1) xs) in
      let split = parts ∙ ap (λ l. l ++ flat_map text (drop (i + 1) xs)) (text_more xs i x lt is) in
      let both = front_after a b c (flat_map text (take i xs)) (text x) before next in
      subst (AppendsFront a c) (sym split) (front_of_longer a c (flat_map text (take i xs) ++ text x) (flat_map text (drop (i + 1) xs)) both)

  -- the texts of all elements
  pub front_of_all : (xs : List X) (i : ℕ) → length xs ≤ i → (a b : Option (List ℕ)) → Appends a b (flat_map text (take i xs))
      → AppendsFront a b (flat_map text xs)
  front_of_all xs i all a b whole =
      front_of_whole a b (flat_map text xs) (subst (λ l. Appends a b (flat_map text l)) (take_all i xs all) whole)
