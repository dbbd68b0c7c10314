-- The shares of the parts, and what they are together.
use Rattle.std.proofs.Common.{◌≡◌, ◌≢◌, ◌∙◌, ℕ, zero, suc, ◌+◌, ◌<◌, ◌≤◌, List, [], ◌∷◌, ◌++◌, length, get_or, ap, sym, refl, subst, arith, append_assoc, append-nil, length-append, ⊎_elim}
use Rattle.std.proofs.lemmas.Bool.{cases_eq}
use Rattle.std.proofs.lemmas.List.Sorted.{IsPermutation-append_comm, IsPermutation-append_left, IsPermutation-append_right}
use Rattle.std.specs.List.Sorted.{IsPermutation}
use Rattle.des_window.specs.Shares.{HaveCountedShares, shares_to}

pub middle_swapped : {A : Type 0} (ws xs ys zs : List A) → IsPermutation ((ws ++ xs) ++ (ys ++ zs)) ((ws ++ ys) ++ (xs ++ zs))
middle_swapped ws xs ys zs = simp append_assoc (IsPermutation-append_right ws (xs ++ (ys ++ zs)) (ys ++ (xs ++ zs))
    (simp append_assoc at (IsPermutation-append_left zs (xs ++ ys) (ys ++ xs) (IsPermutation-append_comm xs ys))))

tail : {A : Type 0} → List A → List A
tail [] = []
tail (x ∷ xs) = xs

-- the item in its turn
pub in_turn : {A : Type 0} (done rest all : List A) (x : A) (next : List A) → done ++ rest ≡ all → rest ≡ x ∷ next
    → (length done < length all) × ((d : A) → get_or all (length done) d ≡ x)
unfolding tail
in_turn [] rest all x next whole is = (omega (arith, ap length (sym whole ∙ is)), λ d. ap (λ l. get_or l 0 d) (sym whole ∙ is))
in_turn (y ∷ done) rest [] x next whole is = absurd (omega (arith, ap length whole))
in_turn (y ∷ done) rest (z ∷ all) x next whole is =
    let q = in_turn done rest all x next (ap tail whole) is in
    (omega (arith, q.0), λ d. q.1 d)

module _ {Piece : Type 0} where
  pub shares_same : (a b : ℕ → List Piece) (n : ℕ) → ((k : ℕ) → k < n → a k ≡ b k) → shares_to a n ≡ shares_to b n
  shares_same a b zero same = refl
  shares_same a b (suc n) same = ap (λ l. l ++ a n) (shares_same a b n (λ k l. same k (omega (arith, l))))
      ∙ ap (λ l. shares_to b n ++ l) (same n (omega arith))

  pub shares_front : (share : ℕ → List Piece) (n : ℕ) → shares_to share (suc n) ≡ share 0 ++ shares_to (λ k. share (suc k)) n
  shares_front share zero = sym (append-nil (share 0))
  shares_front share (suc n) = ap (λ l. l ++ share (suc n)) (shares_front share n)
      ∙ append_assoc (share 0) (shares_to (λ k. share (suc k)) n) (share (suc n))

  pub shares_up : (share : ℕ → List Piece) (k n : ℕ) → k < n → length (shares_to share k) + length (share k) ≤ length (shares_to share n)
  shares_up share k zero l = absurd (omega (arith, l))
  shares_up share k (suc n) l = ⊎_elim
      (λ s. subst (λ j. length (shares_to share j) + length (share j) ≤ length (shares_to share (suc n))) (sym s)
      (omega (arith, length-append (shares_to share n) (share n))))
      (λ ne. let differ : k ≢ n = ne in omega (arith, shares_up share k n (omega (arith, l, differ)), length-append (shares_to share n) (share n)))
      (cases_eq k n)

  module _ {S : Type 0} (HasCounted : List Piece → S → Type 0) where
    pub joined_more : (share : ℕ → List Piece) (done all : List S) (t joined both : S) → HaveCountedShares HasCounted share all → (length done < length all)
        → ((d : S) → get_or all (length done) d ≡ t)
        → ((mine others : List Piece) → HasCounted mine joined → HasCounted others t → HasCounted (mine ++ others) both)
        → HasCounted (shares_to share (length done)) joined → HasCounted (shares_to share (length (done ++ t ∷ []))) both
    joined_more share done all t joined both are inside place joins is = subst (λ n. HasCounted (shares_to share n) both) more
        (joins (shares_to share (length done)) (share (length done)) is (subst (λ z. HasCounted (share (length done)) z) (place t)
        (are (length done) t inside)))
      where
        more : suc (length done) ≡ length (done ++ t ∷ [])
        more = omega (arith, length-append done (t ∷ []))

    pub first_counted : (share : ℕ → List Piece) (first : S) (scribes : List S) → HasCounted (share 0) first
        → HaveCountedShares HasCounted (λ p. share (suc p)) scribes → HaveCountedShares HasCounted share (first ∷ scribes)
    first_counted share first scribes here rest zero t l = here
    first_counted share first scribes here rest (suc p) t l = rest p t (omega (arith, l))
