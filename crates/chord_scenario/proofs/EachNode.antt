-- What holds of all that is made of each table.
use Rattle.std.proofs.Common.{◌≡◌, ℕ, zero, suc, List, [], ◌∷◌, ◌++◌, map, slice_get, Some, subst}
use Rattle.std.specs.List.{AllByRecursion, flat_map}
use Rattle.std.proofs.lemmas.Option.{same_Some}

module _ {B : Type 0} (P : B → Type 0) where
  both : (xs ys : List B) → AllByRecursion P xs → AllByRecursion P ys → AllByRecursion P (xs ++ ys)
  both [] ys hx hy = hy
  both (x ∷ xs) ys hx hy = (hx.0, both xs ys hx.1 hy)

  pub at_index : (xs : List B) (i : ℕ) (x : B) → AllByRecursion P xs → slice_get xs i ≡ Some x → P x
  at_index [] i x h is = absurd (cc)
  at_index (y ∷ ys) zero x h is = subst P (same_Some y x is) h.0
  at_index (y ∷ ys) (suc i) x h is = at_index ys i x h.1 is

  module _ {A : Type 0} where
    -- each that a function makes has it
    pub each-mapped : (f : A → B) (xs : List A) → ((x : A) → P (f x)) → AllByRecursion P (map f xs)
    each-mapped f [] h = tt
    each-mapped f (x ∷ xs) h = (h x, each-mapped f xs h)

    -- if all that is made of an item has it, and this holds of each item, then all that is made has it
    pub each-made : (Q : A → Type 0) (make : A → List B) (xs : List A) → ((x : A) → Q x → AllByRecursion P (make x)) → AllByRecursion Q xs
        → AllByRecursion P (flat_map make xs)
    each-made Q make [] one h = tt
    each-made Q make (x ∷ xs) one h = both (make x) (flat_map make xs) (one x h.0) (each-made Q make xs one h.1)
