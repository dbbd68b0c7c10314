-- A merge on its way: the entries merged so far, and what is left of the lists.
use Rattle.std.proofs.Common.{◌≡◌, ◌∙◌, ◌⊎◌, inl, inr, ℕ, ◌+◌, sum_by, ◌≤◌, Bool, true, cond, List, [], ◌∷◌, ◌++◌, refl, ap, sym, subst, arith, append_assoc, count_by, length}
use Rattle.std.specs.List.{AllByRecursion}
use Rattle.std.specs.List.Sorted.{IsPermutation}
use Rattle.std.proofs.lemmas.List.{length-append}
use Rattle.std.proofs.lemmas.List.Sorted.{Contains-permutation, IsPermutation-sym, sum_by-IsPermutation}
use Rattle.std.proofs.lemmas.List.Sums.{sum_by-append, sum_by-cons}
use Rattle.des_event.specs.declared.key.Key.{Key}
use Rattle.des_event.specs.KeyOrder.{InKeyOrder}
use Rattle.des_event.specs.Keys.{IsBefore, IsAtMost, is_same_key}
use Rattle.des_event.proofs.KeyLists.{IsIn, all_from, all_in, Contains-from_IsIn, IsIn-from_Contains}
use Rattle.des_event.proofs.Order.{before_from_at_most, same_key-self}
use Rattle.des_team.specs.Entries.{Entry, entry_key}

-- numbers of lists that are added up item by item

abbrev pub IsAdditive : {X : Type 0} → (List X → ℕ) → Type 0
IsAdditive {X} f = (xs ys : List X) → f (xs ++ ys) ≡ f xs + f ys

by_items : {X : Type 0} (f : List X → ℕ) → IsAdditive f → (xs : List X) → f xs ≡ sum_by (λ x. f (x ∷ [])) xs
by_items f add [] = omega (arith, add [] [])
by_items f add (x ∷ xs) = omega (arith, add (x ∷ []) xs, by_items f add xs, sum_by-cons (λ y. f (y ∷ [])) x xs)

pub same_number : {X : Type 0} (f : List X → ℕ) → IsAdditive f → (xs ys : List X) → IsPermutation xs ys → f xs ≡ f ys
same_number f add xs ys moved = omega (arith, by_items f add xs, by_items f add ys, sum_by-IsPermutation (λ x. f (x ∷ [])) xs ys moved)

pub count_by-append : {X : Type 0} (p : X → Bool) → IsAdditive (count_by p)
count_by-append p xs ys = sum_by-append (λ x. cond (p x) 1 0) xs ys

-- items of lists

pub in_append : {A : Type 0} (xs ys : List A) (x : A) → IsIn x (xs ++ ys) → IsIn x xs ⊎ IsIn x ys
in_append [] ys x h = inr h
in_append (z ∷ xs) ys x (inl e) = inl (inl e)
in_append (z ∷ xs) ys x (inr h) = elim (in_append xs ys x h) [ inl k ↦ inl (inr k) | inr k ↦ inr k ]

pub append_in : {A : Type 0} (xs ys : List A) (x : A) → IsIn x xs ⊎ IsIn x ys → IsIn x (xs ++ ys)
append_in [] ys x (inl h) = absurd h
append_in [] ys x (inr h) = h
append_in (z ∷ xs) ys x (inl (inl e)) = inl e
append_in (z ∷ xs) ys x (inl (inr h)) = inr (append_in xs ys x (inl h))
append_in (z ∷ xs) ys x (inr h) = inr (append_in xs ys x (inr h))

moved_in : {A : Type 0} (xs ys : List A) → IsPermutation xs ys → (z : A) → IsIn z xs → IsIn z ys
moved_in xs ys p z h = IsIn-from_Contains ys z (Contains-permutation xs ys z p (Contains-from_IsIn xs z h))

counts_it : {A : Type 0} (p : A → Bool) (xs : List A) (x : A) → IsIn x xs → p x ≡ true → 1 ≤ count_by p xs
counts_it p [] x h t = absurd h
counts_it p (y ∷ xs) x (inl e) t = omega (arith, sum_by-cons (λ z. cond (p z) 1 0) y xs, ap (λ b. cond {A = ℕ} b 1 0) (ap p (sym e) ∙ t))
counts_it p (y ∷ xs) x (inr h) t = omega (arith, sum_by-cons (λ z. cond (p z) 1 0) y xs, counts_it p xs x h t)

-- lists in one

abbrev pub together : List (List Entry) → List Entry
together [] = []
together (l ∷ ls) = l ++ together ls

together-append : (ls ms : List (List Entry)) → together (ls ++ ms) ≡ together ls ++ together ms
together-append [] ms = refl
together-append (l ∷ ls) ms = ap (λ r. l ++ r) (together-append ls ms) ∙ sym (append_assoc l (together ls) (together ms))

count-add : (p : Entry → Bool) → IsAdditive (λ ls. count_by p (together ls))
count-add p ls ms = ap (count_by p) (together-append ls ms) ∙ count_by-append p (together ls) (together ms)

length-add : IsAdditive (λ ls. length (together ls))
length-add ls ms = ap length (together-append ls ms) ∙ length-append (together ls) (together ms)

in_together : (ls : List (List Entry)) (x : Entry) → IsIn x (together ls) → (l : List Entry) × IsIn l ls × IsIn x l
in_together [] x h = absurd h
in_together (l ∷ ls) x h = elim (in_append l (together ls) x h) [
  | inl k ↦ (l, inl refl, k)
  | inr k ↦ let r = in_together ls x k in (r.0, inr r.1, r.2)
]

together_in : (ls : List (List Entry)) (l : List Entry) (x : Entry) → IsIn l ls → IsIn x l → IsIn x (together ls)
together_in [] l x h k = absurd h
together_in (m ∷ ls) l x (inl e) k = append_in m (together ls) x (inl (subst (IsIn x) e k))
together_in (m ∷ ls) l x (inr h) k = append_in m (together ls) x (inr (together_in ls l x h k))

moved_together : (ls ms : List (List Entry)) → IsPermutation ls ms → (x : Entry) → IsIn x (together ls) → IsIn x (together ms)
moved_together ls ms p x h = let r = in_together ls x h in together_in ms r.0 x (moved_in ls ms p r.0 r.1) r.2

-- how many entries are left
abbrev pub left_len : List (List Entry) → ℕ
left_len ls = length (together ls)

pub same_len : (ls ms : List (List Entry)) → IsPermutation ls ms → left_len ls ≡ left_len ms
same_len ls ms p = same_number left_len length-add ls ms p

-- the merge

abbrev pub has_key : Key → Entry → Bool
has_key k b = is_same_key k b.key

-- of all entries these are merged, in order, and those are left, each later than the merged ones
pub record IsMerging (all done : List Entry) (left : List (List Entry)) : Type 0 where
  pub ordered : AllByRecursion (λ l. InKeyOrder entry_key l) left
  pub merged : InKeyOrder entry_key done
  pub before : (x y : Entry) → IsIn x done → IsIn y (together left) → IsBefore x.key y.key
  pub single : (k : Key) → count_by (has_key k) (together left) ≤ 1
  pub kept : (b : Entry) → IsIn b all → IsIn b (done ++ together left)
  pub only : (b : Entry) → IsIn b (done ++ together left) → IsIn b all

pub moved : (all done : List Entry) (ls ms : List (List Entry)) → IsPermutation ls ms → IsMerging all done ls → IsMerging all done ms
moved all done ls ms p g =
    let back = IsPermutation-sym ls ms p in
    record {
      ordered = all_from (λ l. InKeyOrder entry_key l) ms (λ l h. all_in (λ l. InKeyOrder entry_key l) ls g.ordered l (moved_in ms ls back l h));
      merged = g.merged;
      before = λ x y h k. g.before x y h (moved_together ms ls back y k);
      single = λ k. omega (arith, g.single k, same_number (λ l. count_by (has_key k) (together l)) (count-add (has_key k)) ls ms p);
      kept = λ b h. append_in done (together ms) b (elim (in_append done (together ls) b (g.kept b h))
          [ inl k ↦ inl k | inr k ↦ inr (moved_together ls ms p b k) ]);
      only = λ b h. g.only b (append_in done (together ls) b (elim (in_append done (together ms) b h)
          [ inl k ↦ inl k | inr k ↦ inr (moved_together ms ls back b k) ]));
    }

-- a list that has no entry left
pub used_up : (all done : List Entry) (ls : List (List Entry)) → IsMerging all done ([] ∷ ls) → IsMerging all done ls
used_up all done ls g = record {
  ordered = g.ordered.1;
  merged = g.merged;
  before = g.before;
  single = g.single;
  kept = g.kept;
  only = g.only;
}

ordered_push : (done : List Entry) (x : Entry) → InKeyOrder entry_key done → ((y : Entry) → IsIn y done → IsBefore y.key x.key)
    → InKeyOrder entry_key (done ++ x ∷ [])
ordered_push [] x o f = (tt, tt)
ordered_push (d ∷ done) x o f = (
  all_from (λ (y : Entry). IsBefore d.key y.key) (done ++ x ∷ []) (λ y h. elim (in_append done (x ∷ []) y h) [
    | inl k ↦ all_in (λ (y : Entry). IsBefore d.key y.key) done o.0 y k
    | inr k ↦ elim k [ inl e ↦ subst (λ (z : Entry). IsBefore d.key z.key) (sym e) (f d (inl refl)) | inr n ↦ absurd n ]
  ]),
  ordered_push done x o.1 (λ y h. f y (inr h)),
)

-- a first entry that no other list's comes before is before all that are left
first_before : (x : Entry) (xs : List Entry) (ls : List (List Entry)) → InKeyOrder entry_key (x ∷ xs) → count_by (has_key x.key) (x ∷ (xs ++ together ls)) ≤ 1
    → ((y : Entry) → IsIn y (together ls) → IsAtMost x.key y.key) → (y : Entry) → IsIn y (xs ++ together ls) → IsBefore x.key y.key
first_before x xs ls o single least y h = elim (in_append xs (together ls) y h) [
  | inl k ↦ all_in (λ (z : Entry). IsBefore x.key z.key) xs o.0 y k
  | inr k ↦ before_from_at_most x.key y.key (least y k) (λ e.
      let self : has_key x.key x ≡ true = same_key-self x.key in
      let same : has_key x.key y ≡ true = ap (λ q. is_same_key x.key q) (sym e) ∙ same_key-self x.key in
      omega (
        arith,
        single,
        sum_by-cons (λ z. cond (has_key x.key z) 1 0) x (xs ++ together ls),
        ap (λ b. cond {A = ℕ} b 1 0) self,
        counts_it
            (has_key x.key) (xs ++ together ls) y h same,
      ))
]

-- such a entry is merged
pub put_out : (all done : List Entry) (x : Entry) (xs : List Entry) (ls : List (List Entry)) → ((y : Entry) → IsIn y (together ls) → IsAtMost x.key y.key)
    → IsMerging all done ((x ∷ xs) ∷ ls) → IsMerging all (done ++ x ∷ []) (xs ∷ ls)
put_out all done x xs ls least g =
    let first = first_before x xs ls g.ordered.0 (g.single x.key) least in
    let same : (done ++ x ∷ []) ++ (xs ++ together ls) ≡ done ++ (x ∷ (xs ++ together ls)) = append_assoc done (x ∷ []) (xs ++ together ls) in
    record {
      ordered = (g.ordered.0.1, g.ordered.1);
      merged = ordered_push done x g.merged (λ y h. g.before y x h (inl refl));
      before = λ y z h k. elim (in_append done (x ∷ []) y h) [
        | inl j ↦ g.before y z j (inr k)
        | inr j ↦ elim j [ inl e ↦ subst (λ (b : Entry). IsBefore b.key z.key) (sym e) (first z k) | inr n ↦ absurd n ]
      ];
      single = λ k. omega (arith, g.single k, sum_by-cons (λ z. cond (has_key k z) 1 0) x (xs ++ together ls));
      kept = λ b h. subst (IsIn b) (sym same) (g.kept b h);
      only = λ b h. g.only b (subst (IsIn b) same h);
    }
