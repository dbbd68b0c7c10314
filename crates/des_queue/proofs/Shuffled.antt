-- Events with keys of their own keep these in any order.
use Rattle.std.proofs.Common.{◌≢◌, ◌↔◌, List, [], ◌∷◌, ◌++◌, sym}
use Rattle.std.proofs.lemmas.List.Sorted.{Contains-permutation, IsPermutation-append_right, IsPermutation-sym}
use Rattle.std.specs.List.{Contains}
use Rattle.std.specs.List.Sorted.{IsPermutation}
use Rattle.des_event.specs.declared.event.Event.{Event}
use Rattle.des_event.proofs.KeyLists.{all_from, Contains-from_IsIn, IsIn-from_Contains}
use Rattle.des_event.proofs.Members.{AllPairs_append, AllPairs_at, AllPairs_cons, AllPairs_none, AllPairs_rest}
use Rattle.des_queue.specs.Calendar.{AreDistinct}
use Rattle.des_queue.proofs.Inserting.{AreApart, apart_across, apart_back, apart_front}
use Rattle.des_queue.proofs.Orders.{distinct_first, distinct_more, distinct_none, distinct_permuted, distinct_rest}

module _ {B : Type 0} where
  pub apart_distinct : (es : List (Event B)) → AreApart es → AreDistinct es
  apart_distinct [] all = distinct_none B
  apart_distinct (e ∷ es) all = distinct_more e es
      (all_from (λ x. x.key ≢ e.key) es (λ x h same. AllPairs_at (λ (a b : Event B). a.key ≢ b.key) e es all x (Contains-from_IsIn es x h) (sym same)))
      (apart_distinct es (AllPairs_rest (λ (a b : Event B). a.key ≢ b.key) e es all))

  distinct_apart : (es : List (Event B)) → AreDistinct es → AreApart es
  distinct_apart [] d = AllPairs_none (λ (a b : Event B). a.key ≢ b.key)
  distinct_apart (e ∷ es) d = AllPairs_cons (λ (a b : Event B). a.key ≢ b.key) e es
      (λ x c. distinct_first e es d x (IsIn-from_Contains es x c)) (distinct_apart es (distinct_rest e es d))

  module _ (q xs ys : List (Event B)) (moved : IsPermutation xs ys) where
    pub apart_shuffled : AreApart (q ++ xs) → AreApart (q ++ ys)
    apart_shuffled all = AllPairs_append (λ (a b : Event B). a.key ≢ b.key) q ys (apart_front q xs all)
        (distinct_apart ys (distinct_permuted xs ys moved (apart_distinct xs (apart_back q xs all))))
        (λ x y c d. apart_across q xs all x y c (Contains-permutation ys xs y (IsPermutation-sym xs ys moved) d))

    pub same_shuffled : (x : Event B) → Contains (q ++ ys) x ↔ Contains (q ++ xs) x
    same_shuffled x = (
      λ c. Contains-permutation (q ++ ys) (q ++ xs) x (IsPermutation-sym (q ++ xs) (q ++ ys) both) c,
      λ c. Contains-permutation (q ++ xs) (q ++ ys) x both c,
    )
      where
        both : IsPermutation (q ++ xs) (q ++ ys)
        both = IsPermutation-append_right q xs ys moved
