-- Lists of entries, in the order of their keys.
use Rattle.std.proofs.Common.{◌≡◌, ◌≢◌, ◌∙◌, ◌+◌, ℕ, suc, Bool, true, false, List, [], ◌∷◌, Vec, map, inl, inr, slice_index_or, refl, ap, sym, subst, arith}
use Rattle.std.specs.Global.{Global}
use Rattle.std.specs.Cmp.{IsTotalOrder}
use Rattle.std.specs.List.{AllByRecursion, IsDistinct}
use Rattle.std.specs.List.Sorted.{IsPermutation, IsSortedBy}
use Rattle.std.specs.Ordering.{is_lt}
use Rattle.std.specs.declared.cmp.Ordering.{Ordering}
use Rattle.std.specs.declared.cmp.Ordering.TheVariants.{Less, Equal, Greater}
use Rattle.std.proofs.lemmas.Cmp.{nat_cmp_total, on_total, then_total}
use Rattle.std.proofs.lemmas.List.Elements.{recursion_from_All}
use Rattle.std.proofs.lemmas.List.MinMax.{ranks_by}
use Rattle.std.proofs.lemmas.List.Sorted.{Contains-permutation, IsPermutation-map, IsPermutation-sym, length_permutation, sorted_far}
use Rattle.std.proofs.lemmas.Map.Keys.{IsDistinct-IsPermutation, IsDistinct-head, IsDistinct-tail, IsDistinct-cons}
use Rattle.des_event.specs.declared.key.Key.{Key}
use Rattle.des_event.specs.Keys.{IsBefore, is_same_key, key_cmp}
use Rattle.des_event.specs.KeyOrder.{InKeyOrder}
use Rattle.des_event.proofs.Compare.{compared}
use Rattle.des_event.proofs.KeyLists.{IsIn, all_from, all_in, Contains-from_IsIn, IsIn-from_Contains}
use Rattle.des_event.proofs.Members.{AllPairs_at, AllPairs_cons, AllPairs_none, AllPairs_rest}
use Rattle.des_queue.proofs.Places.{apart, differs, same_key-flips}
use Rattle.des_parts.specs.declared.entries.Entry.{Entry}
use Rattle.des_parts.specs.Entries.{HaveOwnKeys, IsMerged, all_entries, entry_key}

module _ {Piece : Type 0} where
  abbrev AreDistinct : List (Entry Piece) → Type 0
  AreDistinct es = IsDistinct is_same_key (map entry_key es)

  own_distinct : (es : List (Entry Piece)) → HaveOwnKeys es → AreDistinct es
  unfolding IsDistinct
  own_distinct [] all = tt
  own_distinct (e ∷ es) all = IsDistinct-cons is_same_key e.key (map entry_key es)
      (in_rest es (λ x h. AllPairs_at (λ (a b : Entry Piece). a.key ≢ b.key) e es all x (Contains-from_IsIn es x h)))
      (own_distinct es (AllPairs_rest (λ (a b : Entry Piece). a.key ≢ b.key) e es all))
    where
      in_rest : (xs : List (Entry Piece)) → ((x : Entry Piece) → IsIn x xs → e.key ≢ x.key)
          → AllByRecursion (λ k. is_same_key e.key k ≡ false) (map entry_key xs)
      in_rest [] g = tt
      in_rest (x ∷ xs) g = (apart e.key x.key (g x (inl refl)), in_rest xs (λ v h. g v (inr h)))

  distinct_own : (es : List (Entry Piece)) → AreDistinct es → HaveOwnKeys es
  distinct_own [] d = AllPairs_none (λ (a b : Entry Piece). a.key ≢ b.key)
  distinct_own (e ∷ es) d = AllPairs_cons (λ (a b : Entry Piece). a.key ≢ b.key) e es
      (λ x c. in_rest es (IsDistinct-head is_same_key e.key (map entry_key es) d) x (IsIn-from_Contains es x c))
      (distinct_own es (IsDistinct-tail is_same_key e.key (map entry_key es) d))
    where
      in_rest : (xs : List (Entry Piece)) → AllByRecursion (λ k. is_same_key e.key k ≡ false) (map entry_key xs) → (x : Entry Piece) → IsIn x xs → e.key ≢ x.key
      in_rest [] all x h = absurd h
      in_rest (y ∷ ys) all x (inl q) = λ s. differs e.key y.key all.0 (s ∙ ap entry_key q)
      in_rest (y ∷ ys) all x (inr h) = in_rest ys all.1 x h

  own_permuted : (xs ys : List (Entry Piece)) → IsPermutation xs ys → HaveOwnKeys xs → HaveOwnKeys ys
  own_permuted xs ys p own = distinct_own ys (IsDistinct-IsPermutation is_same_key same_key-flips (map entry_key xs) (map entry_key ys)
      (IsPermutation-map entry_key xs ys p) (own_distinct xs own))

  -- by key
  abbrev up_cmp : Entry Piece → Entry Piece → Ordering
  up_cmp a b = key_cmp a.key b.key

  abbrev is_up : Entry Piece → Entry Piece → Bool
  is_up a b = is_lt (up_cmp a b)

  up_total : IsTotalOrder up_cmp
  up_total = on_total entry_key (then_total (on_total (λ (k : Key). k.time) nat_cmp_total)
      (then_total (on_total (λ (k : Key). k.origin) nat_cmp_total) (on_total (λ (k : Key). k.number) nat_cmp_total)))

  not_before : (x y : Entry Piece) → x.key ≢ y.key → is_up y x ≡ false → IsBefore x.key y.key
  not_before x y ne h = by_cmp (key_cmp y.key x.key) refl
    where
      by_cmp : (r : Ordering) → key_cmp y.key x.key ≡ r → IsBefore x.key y.key
      by_cmp Less q = let both : true ≡ false = sym (ap is_lt q) ∙ h in cc
      by_cmp Equal q = absurd (ne (sym (compared y.key x.key Equal q)))
      by_cmp Greater q = compared y.key x.key Greater q

  sorted_tail : (x : Entry Piece) (xs : List (Entry Piece)) → IsSortedBy is_up (x ∷ xs) → IsSortedBy is_up xs
  sorted_tail x xs up k d l h =
      subst (λ n. is_up (slice_index_or (x ∷ xs) n d) (slice_index_or xs k d) ≡ false) (next k) (up (suc k) d (omega arith) (omega (arith, h)))
    where
      next : (k : ℕ) → suc k + 1 ≡ suc (k + 1)
      next k = omega arith

  sorted_up : (es : List (Entry Piece)) → HaveOwnKeys es → IsSortedBy is_up es → InKeyOrder entry_key es
  sorted_up [] d up = tt
  sorted_up (x ∷ xs) d up = (
    all_from (λ (e : Entry Piece). IsBefore x.key e.key) xs (λ z h.
        not_before x z (AllPairs_at (λ (a b : Entry Piece). a.key ≢ b.key) x xs d z (Contains-from_IsIn xs z h))
        (all_in (λ e. is_up e x ≡ false) xs low z h)),
    sorted_up xs (AllPairs_rest (λ (a b : Entry Piece). a.key ≢ b.key) x xs d) (sorted_tail x xs up),
  )
    where
      low : AllByRecursion (λ e. is_up e x ≡ false) xs
      low = recursion_from_All (λ e. is_up e x ≡ false) xs
          (λ j e h. sorted_far is_up (ranks_by up_total (λ (v : Entry Piece). v)) (x ∷ xs) up 0 (suc j) e (omega arith) (omega (arith, h)))

  -- all entries in one list, sorted
  pub merged_by_sort : (lists : List (Vec (Entry Piece) Global)) (all sorted : List (Entry Piece)) → all ≡ all_entries lists → HaveOwnKeys (all_entries lists)
      → IsPermutation all sorted → IsSortedBy (λ a b. is_lt (key_cmp a.key b.key)) sorted → IsMerged lists sorted
  merged_by_sort lists all sorted is own moved up =
      let moved_all : IsPermutation (all_entries lists) sorted = subst (λ l. IsPermutation l sorted) is moved in
      record {
        ordered = sorted_up sorted (own_permuted (all_entries lists) sorted moved_all own) up;
        same = λ x. (
          λ c. Contains-permutation sorted (all_entries lists) x (IsPermutation-sym (all_entries lists) sorted moved_all) c,
          λ c. Contains-permutation (all_entries lists) sorted x moved_all c,
        );
        long = length_permutation (all_entries lists) sorted moved_all;
      }
