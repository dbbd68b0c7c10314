-- The first item of which a test holds, by its number.
use Rattle.std.proofs.Common.{◌≡◌, ◌∙◌, sym, ap, refl, ℕ, zero, suc, ◌+◌, ◌<◌, ◌≤◌, Bool, List, [], ◌∷◌, take, find, slice_get, option_map, Option, Some, None, bytes_eq, inl, inr, arith}
use Rattle.std.specs.List.{enumerate_from}
use Rattle.std.proofs.lemmas.Bool.{cases_Bool}
use Rattle.std.proofs.lemmas.Option.{same_Some}
use Rattle.std.proofs.lemmas.Slice.Eq.{bytes_eq-Decides}
use Rattle.chord_scenario.specs.declared.setting.Node.{Node}
use Rattle.chord_scenario.specs.Search.{first_number}
use Rattle.chord_scenario.specs.Settings.{index_from, index_of}

module _ {A : Type 0} (test : A → Bool) where
  first_number-least : (n i : ℕ) (xs : List A) → first_number test n xs ≡ Some i → n ≤ i
  first_number-least n i [] h = absurd cc
  first_number-least n i (x ∷ xs) h =
      elim (cases_Bool (test x)) [
        | inl here ↦ let same : n ≡ i = same_Some _ _ (rw here at h) in omega arith
        | inr other ↦ omega (arith, first_number-least (n + 1) i xs (rw other at h))
      ]

  -- the first of the first j items of which the test holds, and its number, if they are counted from n + 1
  abbrev pub among : (n j : ℕ) → List A → Option (ℕ × A)
  among n j xs = find (λ p. test p.1) (enumerate_from (n + 1) (take j xs))

  -- it is the item of this place
  record IsAmong (n k j : ℕ) (xs : List A) : Type 0 where
    item : A
    is : slice_get xs k ≡ Some item
    found : among n j xs ≡ Some (n + k + 1, item)

  found_from : (n k j : ℕ) (xs : List A) → first_number test n xs ≡ Some (n + k) → k < j → IsAmong n k j xs
  found_from n k j [] h less = absurd cc
  found_from n k zero (x ∷ xs) h less = absurd (omega arith)
  found_from n zero (suc j) (x ∷ xs) h less =
      elim (cases_Bool (test x)) [
        | inl here ↦ record { item = x; is = refl; found = rw here (ap (λ m. Some (m, x)) (omega arith)) }
        | inr other ↦ absurd (omega (arith, first_number-least (n + 1) (n + 0) xs (rw other at h)))
      ]
  found_from n (suc k) (suc j) (x ∷ xs) h less =
      elim (cases_Bool (test x)) [
        | inl here ↦ let same : n ≡ n + suc k = same_Some _ _ (rw here at h) in absurd (omega arith)
        | inr other ↦
            let later = found_from (n + 1) k j xs ((rw other at h) ∙ ap Some (omega arith)) (omega arith) in
            record { item = later.item; is = later.is; found = rw other (later.found ∙ ap (λ m. Some (m, later.item)) (omega arith)) }
      ]

  none_from : (n j : ℕ) (xs : List A) → ((i : ℕ) → first_number test n xs ≡ Some i → n + j ≤ i) → among n j xs ≡ None
  none_from n zero xs late = refl
  none_from n (suc j) [] late = refl
  none_from n (suc j) (x ∷ xs) late =
      elim (cases_Bool (test x)) [
        | inl here ↦ absurd (omega (arith, late n (rw here refl)))
        | inr other ↦ rw other (none_from (n + 1) j xs (λ i h. omega (arith, late i (rw other h))))
      ]

  -- the first item is one of the first j
  pub found_number : (k j : ℕ) (xs : List A) → first_number test 0 xs ≡ Some k → k < j → Some (k + 1) ≡ option_map (λ p. p.0) (among 0 j xs)
  found_number k j xs h less =
      let is = found_from 0 k j xs (h ∙ ap Some (omega arith)) less in
      ap Some (omega arith) ∙ sym (ap (option_map (λ p. p.0)) is.found)

  pub found_item : (k j : ℕ) (xs : List A) → first_number test 0 xs ≡ Some k → k < j → slice_get xs k ≡ option_map (λ p. p.1) (among 0 j xs)
  found_item k j xs h less =
      let is = found_from 0 k j xs (h ∙ ap Some (omega arith)) less in
      is.is ∙ sym (ap (option_map (λ p. p.1)) is.found)

  -- or it comes later, or there is none
  pub later_among : (k j : ℕ) (xs : List A) → first_number test 0 xs ≡ Some k → j ≤ k → among 0 j xs ≡ None
  later_among k j xs h late = none_from 0 j xs (λ i is. let same : k ≡ i = same_Some _ _ (sym h ∙ is) in omega arith)

  pub none_among : (j : ℕ) (xs : List A) → first_number test 0 xs ≡ None → among 0 j xs ≡ None
  none_among j xs h = none_from 0 j xs (λ i is. absurd cc)

other_way : (a b : List ℕ) → bytes_eq a b ≡ bytes_eq b a
other_way a b =
    elim (cases_Bool (bytes_eq b a)) [
      | inl same ↦ (bytes_eq-Decides a b).1 (sym ((bytes_eq-Decides b a).0 same)) ∙ sym same
      | inr apart ↦
          elim (cases_Bool (bytes_eq a b)) [
            | inl same ↦ same ∙ sym ((bytes_eq-Decides b a).1 (sym ((bytes_eq-Decides a b).0 same)))
            | inr also ↦ also ∙ sym apart
          ]
    ]

-- the number of a name is that of the first node which has it
index_from-first : (n : ℕ) (name : List ℕ) (nodes : List Node) → index_from n name nodes ≡ first_number (λ x. bytes_eq x.name name) n nodes
index_from-first n name [] = refl
index_from-first n name (x ∷ xs) = rw (other_way name x.name, index_from-first (n + 1) name xs) refl

pub index_of-first : (name : List ℕ) (nodes : List Node) → index_of name nodes ≡ first_number (λ x. bytes_eq x.name name) 0 nodes
index_of-first name nodes = index_from-first 0 name nodes
