-- The blocks of several lists, put in the order of their keys.
use Rattle.std.proofs.Common.{◌≡◌, ◌≢◌, ◌∙◌, ◌+◌, ℕ, suc, Bool, true, false, List, [], ◌∷◌, Vec, map, inl, inr, slice_index_or, refl, ap, sym, subst, arith}
use Rattle.std.specs.Global.{Global}
use Rattle.std.specs.Cmp.{IsTotalOrder}
use Rattle.std.specs.List.{AllByRecursion, AllPairs, IsDistinct}
use Rattle.std.specs.List.Sorted.{IsPermutation, IsSortedBy}
use Rattle.std.specs.Ordering.{is_lt}
use Rattle.std.specs.declared.cmp.Ordering.{Ordering}
use Rattle.std.specs.declared.cmp.Ordering.TheVariants.{Less, Equal, Greater}
use Rattle.std.proofs.lemmas.Cmp.{nat_cmp_total, on_total, then_total}
use Rattle.std.proofs.lemmas.List.Elements.{recursion_from_All}
use Rattle.std.proofs.lemmas.List.MinMax.{ranks_by}
use Rattle.std.proofs.lemmas.List.Sorted.{Contains-permutation, IsPermutation-map, IsPermutation-sym, sorted_far}
use Rattle.std.proofs.lemmas.Map.Keys.{IsDistinct-IsPermutation, IsDistinct-head, IsDistinct-tail, IsDistinct-cons}
use Rattle.chord_event.specs.declared.block.Block.{Block}
use Rattle.des_event.specs.declared.key.Key.{Key}
use Rattle.des_event.specs.Keys.{IsBefore, is_same_key, key_cmp}
use Rattle.des_event.specs.KeyOrder.{InKeyOrder}
use Rattle.des_event.proofs.Compare.{compared}
use Rattle.des_event.proofs.KeyLists.{IsIn, all_from, all_in, Contains-from_IsIn, IsIn-from_Contains}
use Rattle.des_event.proofs.Members.{AllPairs_at, AllPairs_cons, AllPairs_none, AllPairs_rest}
use Rattle.des_event.proofs.Order.{is_same_key-true, same_key-self}
use Rattle.chord_trace.specs.Merging.{IsMerged, all_blocks, block_key}

-- two keys are told apart by the test

differs : (a b : Key) → is_same_key a b ≡ false → a ≢ b
differs a b h e = let both : false ≡ true = sym h ∙ ap (λ k. is_same_key a k) (sym e) ∙ same_key-self a in cc

apart : (a b : Key) → a ≢ b → is_same_key a b ≡ false
apart a b ne = apart_by (is_same_key a b) refl
  where
    apart_by : (r : Bool) → is_same_key a b ≡ r → is_same_key a b ≡ false
    apart_by true h = absurd (ne (is_same_key-true a b h))
    apart_by false h = h

same_key-flips : (a b : Key) → is_same_key a b ≡ is_same_key b a
same_key-flips a b = flips_by (is_same_key a b) refl
  where
    flips_by : (r : Bool) → is_same_key a b ≡ r → is_same_key a b ≡ is_same_key b a
    flips_by true h = let e = is_same_key-true a b h in h ∙ sym (ap (λ k. is_same_key b k) e ∙ same_key-self b)
    flips_by false h = h ∙ sym (apart b a (λ e. differs a b h (sym e)))

-- blocks of different keys stay so in another order

abbrev HaveOwnKeys : List Block → Type 0
HaveOwnKeys blocks = AllPairs (λ (a b : Block). a.key ≢ b.key) blocks

abbrev AreDistinct : List Block → Type 0
AreDistinct blocks = IsDistinct is_same_key (map block_key blocks)

own_distinct : (bs : List Block) → HaveOwnKeys bs → AreDistinct bs
unfolding IsDistinct
own_distinct [] all = tt
own_distinct (b ∷ bs) all = IsDistinct-cons is_same_key b.key (map block_key bs)
    (in_rest bs (λ x h. AllPairs_at (λ (a b : Block). a.key ≢ b.key) b bs all x (Contains-from_IsIn bs x h)))
    (own_distinct bs (AllPairs_rest (λ (a b : Block). a.key ≢ b.key) b bs all))
  where
    in_rest : (xs : List Block) → ((x : Block) → IsIn x xs → b.key ≢ x.key)
        → AllByRecursion (λ k. is_same_key b.key k ≡ false) (map block_key xs)
    in_rest [] g = tt
    in_rest (x ∷ xs) g = (apart b.key x.key (g x (inl refl)), in_rest xs (λ v h. g v (inr h)))

distinct_own : (bs : List Block) → AreDistinct bs → HaveOwnKeys bs
distinct_own [] d = AllPairs_none (λ (a b : Block). a.key ≢ b.key)
distinct_own (b ∷ bs) d = AllPairs_cons (λ (a b : Block). a.key ≢ b.key) b bs
    (λ x c. in_rest bs (IsDistinct-head is_same_key b.key (map block_key bs) d) x (IsIn-from_Contains bs x c))
    (distinct_own bs (IsDistinct-tail is_same_key b.key (map block_key bs) d))
  where
    in_rest : (xs : List Block) → AllByRecursion (λ k. is_same_key b.key k ≡ false) (map block_key xs) → (x : Block) → IsIn x xs → b.key ≢ x.key
    in_rest [] all x h = absurd h
    in_rest (y ∷ ys) all x (inl q) = λ s. differs b.key y.key all.0 (s ∙ ap block_key q)
    in_rest (y ∷ ys) all x (inr h) = in_rest ys all.1 x h

own_permuted : (xs ys : List Block) → IsPermutation xs ys → HaveOwnKeys xs → HaveOwnKeys ys
own_permuted xs ys p own = distinct_own ys (IsDistinct-IsPermutation is_same_key same_key-flips (map block_key xs) (map block_key ys)
    (IsPermutation-map block_key xs ys p) (own_distinct xs own))

-- a sorted list of blocks of different keys is in the order of the keys

abbrev up_cmp : Block → Block → Ordering
up_cmp a b = key_cmp a.key b.key

abbrev is_up : Block → Block → Bool
is_up a b = is_lt (up_cmp a b)

up_total : IsTotalOrder up_cmp
up_total = on_total block_key (then_total (on_total (λ (k : Key). k.time) nat_cmp_total)
    (then_total (on_total (λ (k : Key). k.origin) nat_cmp_total) (on_total (λ (k : Key). k.number) nat_cmp_total)))

not_before : (x y : Block) → x.key ≢ y.key → is_up y x ≡ false → IsBefore x.key y.key
not_before x y ne h = by_cmp (key_cmp y.key x.key) refl
  where
    by_cmp : (r : Ordering) → key_cmp y.key x.key ≡ r → IsBefore x.key y.key
    by_cmp Less q = let both : true ≡ false = sym (ap is_lt q) ∙ h in cc
    by_cmp Equal q = absurd (ne (sym (compared y.key x.key Equal q)))
    by_cmp Greater q = compared y.key x.key Greater q

sorted_tail : (x : Block) (xs : List Block) → IsSortedBy is_up (x ∷ xs) → IsSortedBy is_up xs
sorted_tail x xs up k d l h =
    subst (λ n. is_up (slice_index_or (x ∷ xs) n d) (slice_index_or xs k d) ≡ false) (next k) (up (suc k) d (omega arith) (omega (arith, h)))
  where
    next : (k : ℕ) → suc k + 1 ≡ suc (k + 1)
    next k = omega arith

sorted_up : (bs : List Block) → HaveOwnKeys bs → IsSortedBy is_up bs → InKeyOrder block_key bs
sorted_up [] d up = tt
sorted_up (x ∷ xs) d up = (
  all_from (λ (b : Block). IsBefore x.key b.key) xs (λ z h.
      not_before x z (AllPairs_at (λ (a b : Block). a.key ≢ b.key) x xs d z (Contains-from_IsIn xs z h))
      (all_in (λ b. is_up b x ≡ false) xs low z h)),
  sorted_up xs (AllPairs_rest (λ (a b : Block). a.key ≢ b.key) x xs d) (sorted_tail x xs up),
)
  where
    low : AllByRecursion (λ b. is_up b x ≡ false) xs
    low = recursion_from_All (λ b. is_up b x ≡ false) xs
        (λ j b h. sorted_far is_up (ranks_by up_total (λ (v : Block). v)) (x ∷ xs) up 0 (suc j) b (omega arith) (omega (arith, h)))

-- all blocks in one list, sorted
pub merged_by_sort : (lists : List (Vec Block Global)) (all sorted : List Block) → all ≡ all_blocks lists → HaveOwnKeys (all_blocks lists)
    → IsPermutation all sorted → IsSortedBy (λ a b. is_lt (key_cmp a.key b.key)) sorted → IsMerged lists sorted
merged_by_sort lists all sorted is own moved up =
    let moved_all : IsPermutation (all_blocks lists) sorted = subst (λ l. IsPermutation l sorted) is moved in
    record {
      ordered = sorted_up sorted (own_permuted (all_blocks lists) sorted moved_all own) up;
      same = λ b. (
        λ c. Contains-permutation sorted (all_blocks lists) b (IsPermutation-sym (all_blocks lists) sorted moved_all) c,
        λ c. Contains-permutation (all_blocks lists) sorted b moved_all c,
      );
    }
