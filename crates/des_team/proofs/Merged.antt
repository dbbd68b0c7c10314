-- The merged list of all entries, and what is merged so far.
use Rattle.std.proofs.Common.{◌≡◌, ◌≢◌, ◌∙◌, ◌⊎◌, inl, inr, ℕ, ◌≤◌, Bool, true, false, cond, List, [], ◌∷◌, ◌++◌, ap, append_assoc, append-nil, arith, count_by, refl, subst, sym}
use Rattle.std.proofs.lemmas.List.Sums.{sum_by-cons}
use Rattle.std.specs.List.{AllByRecursion, AllPairs}
use Rattle.des_event.specs.declared.key.Key.{Key}
use Rattle.des_event.specs.KeyOrder.{InKeyOrder}
use Rattle.des_event.specs.Keys.{IsAtMost, IsBefore}
use Rattle.des_event.proofs.KeyLists.{IsIn, all_in, Contains-from_IsIn, IsIn-from_Contains, same_list}
use Rattle.des_event.proofs.Members.{AllPairs_at, AllPairs_rest}
use Rattle.des_event.proofs.Order.{at_most_from_before, before_not_after, before_not_same, is_same_key-true}
use Rattle.des_team.specs.Entries.{Entry, put_filled, entry_key}
use Rattle.des_team.specs.Heads.{with_entries}
use Rattle.des_team.specs.Outputs.{CanMergeLists, IsMergeOf, joined}
use Rattle.des_team.proofs.Merges.{IsMerging, append_in, has_key, put_out, together}

pub in_either : {A : Type 0} (xs ys : List A) (x : A) → IsIn x (xs ++ ys) → IsIn x xs ⊎ IsIn x ys
in_either [] ys x h = inr h
in_either (z ∷ xs) ys x (inl e) = inl (inl e)
in_either (z ∷ xs) ys x (inr h) = elim (in_either xs ys x h) [ inl k ↦ inl (inr k) | inr k ↦ inr k ]

module _ {A : Type 0} (key_of : A → Key) where
  -- a list in key order is the front of a longer one, if it comes before all else there
  front_in_order : (xs ys : List A) → InKeyOrder key_of xs → InKeyOrder key_of ys → ((z : A) → IsIn z xs → IsIn z ys)
      → ((x y : A) → IsIn x xs → IsIn y ys → IsIn y xs ⊎ IsBefore (key_of x) (key_of y)) → (rest : List A) × (ys ≡ xs ++ rest)
  front_in_order [] ys o p f g = (ys, refl)
  front_in_order (x ∷ xs) [] o p f g = absurd (f x (inl refl))
  front_in_order (x ∷ xs) (y ∷ ys) o p f g =
      let not_later : IsBefore (key_of y) (key_of x) → (x ≡ y) = λ later. elim (g x y (inl refl) (inl refl)) [
        | inl k ↦ elim k [
          | inl e ↦ sym e
          | inr j ↦ absurd (before_not_after (key_of y) (key_of x) later
              (at_most_from_before (key_of x) (key_of y) (all_in (λ z. IsBefore (key_of x) (key_of z)) xs o.0 y j)))
        ]
        | inr b ↦ absurd (before_not_after (key_of y) (key_of x) later (at_most_from_before (key_of x) (key_of y) b))
      ] in
      let first : x ≡ y = elim (f x (inl refl)) [
        | inl e ↦ e
        | inr k ↦ not_later (all_in (λ z. IsBefore (key_of y) (key_of z)) ys p.0 x k)
      ] in
      let rest : (r : List A) × (ys ≡ xs ++ r) = front_in_order xs ys o.1 p.1
      (λ z k. elim (f z (inr k)) [
        | inl e ↦ absurd (before_not_same (key_of x) (key_of z) (all_in (λ w. IsBefore (key_of x) (key_of w)) xs o.0 z k) (ap key_of (first ∙ sym e)))
        | inr j ↦ j
      ])
      (λ a b k j. elim (g a b (inr k) (inr j)) [
        | inl h ↦ elim h [
          | inl e ↦ absurd (before_not_same (key_of y) (key_of b) (all_in (λ w. IsBefore (key_of y) (key_of w)) ys p.0 b j) (ap key_of (sym first ∙ sym e)))
          | inr i ↦ inl i
        ]
        | inr q ↦ inr q
      ]) in
      (rest.0, λ i. sym first i ∷ rest.1 i)

-- the entries of a run are merged, if each is at most all that other lists have left
pub put_run : (all done xs ys : List Entry) (ls : List (List Entry))
    → ((x y : Entry) → IsIn x xs → IsIn y (together ls) → IsAtMost x.key y.key)
    → IsMerging all done ((xs ++ ys) ∷ ls) → IsMerging all (done ++ xs) (ys ∷ ls)
put_run all done [] ys ls f g = subst (λ d. IsMerging all d (ys ∷ ls)) (sym (append-nil done)) g
put_run all done (x ∷ xs) ys ls f g =
    subst (λ d. IsMerging all d (ys ∷ ls)) (append_assoc done (x ∷ []) xs)
    (put_run all (done ++ x ∷ []) xs ys ls (λ z y h k. f z y (inr h) k) (put_out all done x (xs ++ ys) ls (λ y k. f x y (inl refl) k) g))

-- before the first entry

lists_together : (lists : List (List Entry)) → together (with_entries lists) ≡ joined lists
lists_together [] = refl
lists_together (l ∷ lists) = go l (lists_together lists)
  where
    go : (bs : List Entry) → together (with_entries lists) ≡ joined lists → together (put_filled bs (with_entries lists)) ≡ bs ++ joined lists
    go [] rest = rest
    go (b ∷ bs) rest = ap (λ r. (b ∷ bs) ++ r) rest

lists_ordered : (lists : List (List Entry)) → AllByRecursion (λ l. InKeyOrder entry_key l) lists
    → AllByRecursion (λ l. InKeyOrder entry_key l) (with_entries lists)
lists_ordered [] o = tt
lists_ordered (l ∷ lists) o = go l o.0 (lists_ordered lists o.1)
  where
    go : (bs : List Entry) → InKeyOrder entry_key bs → AllByRecursion (λ l. InKeyOrder entry_key l) (with_entries lists)
        → AllByRecursion (λ l. InKeyOrder entry_key l) (put_filled bs (with_entries lists))
    go [] here rest = rest
    go (b ∷ bs) here rest = (here, rest)

none_of_key : (k : Key) (bs : List Entry) → ((b : Entry) → IsIn b bs → k ≢ b.key) → count_by (has_key k) bs ≡ 0
none_of_key k [] f = refl
none_of_key k (b ∷ bs) f = go (has_key k b) refl (none_of_key k bs (λ c h. f c (inr h)))
  where
    go : (t : Bool) → has_key k b ≡ t → count_by (has_key k) bs ≡ 0 → count_by (has_key k) (b ∷ bs) ≡ 0
    go true e rest = absurd (f b (inl refl) (is_same_key-true k b.key e))
    go false e rest = omega (arith, sum_by-cons (λ z. cond (has_key k z) 1 0) b bs, ap (λ c. cond {A = ℕ} c 1 0) e, rest)

one_of_key : (bs : List Entry) → AllPairs (λ (a b : Entry). a.key ≢ b.key) bs → (k : Key) → count_by (has_key k) bs ≤ 1
one_of_key [] apart k = omega arith
one_of_key (b ∷ bs) apart k = go (has_key k b) refl (one_of_key bs (AllPairs_rest (λ (a b : Entry). a.key ≢ b.key) b bs apart) k)
  where
    go : (t : Bool) → has_key k b ≡ t → count_by (has_key k) bs ≤ 1 → count_by (has_key k) (b ∷ bs) ≤ 1
    go true e rest =
        let same = is_same_key-true k b.key e in
        let others = none_of_key k bs (λ c h s. AllPairs_at (λ (a b : Entry). a.key ≢ b.key) b bs apart c (Contains-from_IsIn bs c h) (sym same ∙ s)) in
        omega (arith, sum_by-cons (λ z. cond (has_key k z) 1 0) b bs, ap (λ c. cond {A = ℕ} c 1 0) e, others)
    go false e rest = omega (arith, sum_by-cons (λ z. cond (has_key k z) 1 0) b bs, ap (λ c. cond {A = ℕ} c 1 0) e, rest)

pub begun : (lists : List (List Entry)) → CanMergeLists lists → IsMerging (joined lists) [] (with_entries lists)
begun lists can =
    let all = lists_together lists in
    record {
      ordered = lists_ordered lists can.ordered;
      merged = tt;
      before = λ x y h k. absurd h;
      single = λ k. subst (λ l. count_by (has_key k) l ≤ 1) (sym all) (one_of_key (joined lists) can.apart k);
      kept = λ b h. subst (IsIn b) (sym all) h;
      only = λ b h. subst (IsIn b) all h;
    }

module _ (lists : List (List Entry)) (done merged : List Entry) (is : IsMergeOf lists merged) where
  -- a merged entry is one of the lists, and conversely
  of_lists : (z : Entry) → IsIn z merged → IsIn z (joined lists)
  of_lists z h = IsIn-from_Contains (joined lists) z ((is.same z).0 (Contains-from_IsIn merged z h))

  to_merged : (z : Entry) → IsIn z (joined lists) → IsIn z merged
  to_merged z h = IsIn-from_Contains merged z ((is.same z).1 (Contains-from_IsIn (joined lists) z h))

  -- what is merged so far is the front of the merged list
  pub merged_front : (left : List (List Entry)) → IsMerging (joined lists) done left → (rest : List Entry) × (merged ≡ done ++ rest)
  merged_front left g =
      front_in_order entry_key done merged g.merged is.ordered (λ z h. to_merged z (g.only z (append_in done (together left) z (inl h))))
      (λ x y h k. elim (in_either done (together left) y (g.kept y (of_lists y k))) [
        | inl j ↦ inl j
        | inr j ↦ inr (g.before x y h j)
      ])

  pub merged_whole : IsMerging (joined lists) done [] → merged ≡ done
  merged_whole g =
      same_list entry_key merged done is.ordered g.merged
      (λ z h. elim (in_either done [] z (g.kept z (of_lists z h))) [ inl j ↦ j | inr n ↦ absurd n ])
      (λ z h. to_merged z (g.only z (append_in done [] z (inl h))))
