-- Events with keys of their own, in any order.
use Rattle.std.proofs.Common.{
  ◌≡◌,
  ◌≢◌,
  inl,
  inr,
  ℕ,
  suc,
  slice_index_or,
  ◌+◌,
  Bool,
  true,
  false,
  cond,
  nat_lt,
  List,
  [],
  ◌∷◌,
  ◌++◌,
  map,
  reverse,
  refl,
  sym,
  ap,
  ◌∙◌,
  subst,
  arith,
}
use Rattle.std.specs.List.{AllByRecursion, IsDistinct, filter}
use Rattle.std.specs.Cmp.{IsTotalOrder}
use Rattle.std.specs.List.Sorted.{IsPermutation, IsSortedBy}
use Rattle.std.specs.Ordering.{is_lt}
use Rattle.std.specs.declared.cmp.Ordering.{Ordering}
use Rattle.std.specs.declared.cmp.Ordering.TheVariants.{Less, Equal, Greater}
use Rattle.std.proofs.lemmas.Cmp.{back_total, nat_cmp_total, on_total, then_total}
use Rattle.std.proofs.lemmas.List.{reverse-append}
use Rattle.std.proofs.lemmas.List.Elements.{recursion_from_All}
use Rattle.std.proofs.lemmas.List.MinMax.{ranks_by}
use Rattle.std.proofs.lemmas.List.Sorted.{
  sorted_far,
  IsPermutation-append_right,
  IsPermutation-map,
  IsPermutation-middle,
  IsPermutation-reverse,
  IsPermutation-sym,
  IsPermutation-trans,
}
use Rattle.std.proofs.lemmas.Map.Keys.{IsDistinct-IsPermutation, IsDistinct-head, IsDistinct-tail, IsDistinct-cons}
use Rattle.des_event.specs.declared.event.Event.{Event}
use Rattle.des_event.specs.declared.key.Key.{Key}
use Rattle.des_event.specs.Keys.{IsBefore, is_same_key, key_cmp}
use Rattle.des_event.specs.KeyOrder.{InKeyOrder, IsNewKey, put_in_order, before}
use Rattle.des_event.proofs.Compare.{compared}
use Rattle.des_event.proofs.KeyLists.{IsIn, all_in, all_from, ordered_put, same_list}
use Rattle.des_queue.specs.Calendar.{AreDistinct}
use Rattle.des_queue.specs.EventKey.{event_key}
use Rattle.des_queue.specs.Places.{in_key_order}
use Rattle.des_queue.proofs.Due.{filter_in, in_filter, ordered_filter}
use Rattle.des_queue.proofs.Places.{apart, differs, same_key-flips, permuted_in, in_of_order, of_order_in}

pub distinct_none : (B : Type 0) → AreDistinct {B = B} []
unfolding IsDistinct
distinct_none B = tt

module _ {B : Type 0} where
  pub distinct_first : (e : Event B) (es : List (Event B)) → AreDistinct (e ∷ es) → (x : Event B) → IsIn x es → e.key ≢ x.key
  distinct_first e es d = in_rest es (IsDistinct-head is_same_key e.key (map event_key es) d)
    where
      in_rest : (xs : List (Event B)) → AllByRecursion (λ k. is_same_key e.key k ≡ false) (map event_key xs) → (x : Event B) → IsIn x xs → e.key ≢ x.key
      in_rest [] all x h = absurd h
      in_rest (y ∷ ys) all x (inl q) = λ s. differs e.key y.key all.0 (s ∙ ap event_key q)
      in_rest (y ∷ ys) all x (inr h) = in_rest ys all.1 x h

  pub distinct_rest : (e : Event B) (es : List (Event B)) → AreDistinct (e ∷ es) → AreDistinct es
  distinct_rest e es d = IsDistinct-tail is_same_key e.key (map event_key es) d

  pub distinct_more : (e : Event B) (es : List (Event B)) → IsNewKey event_key e.key es → AreDistinct es → AreDistinct (e ∷ es)
  distinct_more e es new d = IsDistinct-cons is_same_key e.key (map event_key es) (in_rest es new) d
    where
      in_rest : (xs : List (Event B)) → IsNewKey event_key e.key xs → AllByRecursion (λ k. is_same_key e.key k ≡ false) (map event_key xs)
      in_rest [] g = tt
      in_rest (x ∷ xs) g = (apart e.key x.key (λ q. g.0 (sym q)), in_rest xs g.1)

  pub distinct_permuted : (xs ys : List (Event B)) → IsPermutation xs ys → AreDistinct xs → AreDistinct ys
  distinct_permuted xs ys p d = IsDistinct-IsPermutation is_same_key same_key-flips (map event_key xs) (map event_key ys)
      (IsPermutation-map event_key xs ys p) d

pub in_left : {A : Type 0} (xs ys : List A) (z : A) → IsIn z xs → IsIn z (xs ++ ys)
in_left [] ys z h = absurd h
in_left (x ∷ xs) ys z (inl e) = inl e
in_left (x ∷ xs) ys z (inr h) = inr (in_left xs ys z h)

pub in_right : {A : Type 0} (xs ys : List A) (z : A) → IsIn z ys → IsIn z (xs ++ ys)
in_right [] ys z h = h
in_right (x ∷ xs) ys z h = inr (in_right xs ys z h)

pub all_both : {A : Type 0} (P : A → Type 0) (xs ys : List A) → AllByRecursion P xs → AllByRecursion P ys → AllByRecursion P (xs ++ ys)
all_both P [] ys f g = g
all_both P (x ∷ xs) ys f g = (f.0, all_both P xs ys f.1 g)

module _ {B : Type 0} where
  -- what was put in order is in order
  pub ordered_all : (es : List (Event B)) → AreDistinct es → InKeyOrder event_key (in_key_order es)
  ordered_all [] d = tt
  ordered_all (e ∷ es) d = ordered_put event_key e (in_key_order es) (ordered_all es (distinct_rest e es d))
      (all_from (λ y. y.key ≢ e.key) (in_key_order es) (λ z h q. distinct_first e es d z (in_of_order es z h) (sym q)))

  pub same_order : (xs ys : List (Event B)) → IsPermutation xs ys → AreDistinct xs → in_key_order xs ≡ in_key_order ys
  same_order xs ys p d =
      same_list event_key (in_key_order xs) (in_key_order ys) (ordered_all xs d) (ordered_all ys (distinct_permuted xs ys p d))
      (λ z h. of_order_in ys z (permuted_in xs ys p z (in_of_order xs z h)))
      (λ z h. of_order_in xs z (permuted_in ys xs (IsPermutation-sym xs ys p) z (in_of_order ys z h)))

  pub new_in_order : (k : Key) (es : List (Event B)) → IsNewKey event_key k (in_key_order es) → IsNewKey event_key k es
  new_in_order k es new = all_from (λ y. y.key ≢ k) es (λ z h. all_in (λ y. y.key ≢ k) (in_key_order es) new z (of_order_in es z h))

-- one element more behind a list
pub put_behind : {A : Type 0} (front es fs : List A) (e : A) → IsPermutation (e ∷ es) fs → IsPermutation (e ∷ (front ++ es)) (front ++ fs)
put_behind front es fs e p =
    IsPermutation-trans (e ∷ (front ++ es)) (front ++ e ∷ es) (front ++ fs)
    (IsPermutation-sym (front ++ e ∷ es) (e ∷ (front ++ es)) (IsPermutation-middle front e es))
    (IsPermutation-append_right front (e ∷ es) fs p)

module _ {B : Type 0} where
  -- an event more
  pub one_more : (xs ys es : List (Event B)) (e : Event B) → AreDistinct xs → in_key_order xs ≡ es → IsNewKey event_key e.key es
      → IsPermutation (e ∷ xs) ys → AreDistinct ys × (in_key_order ys ≡ put_in_order event_key e es)
  one_more xs ys es e d shown new p =
      let all : AreDistinct (e ∷ xs) = distinct_more e xs (new_in_order e.key xs (subst (IsNewKey event_key e.key) (sym shown) new)) d in
      (distinct_permuted (e ∷ xs) ys p all, sym (same_order (e ∷ xs) ys p all) ∙ ap (put_in_order event_key e) shown)

  -- by key, turned round
  abbrev pub down_cmp : Event B → Event B → Ordering
  down_cmp a b = key_cmp b.key a.key

  down_total : IsTotalOrder down_cmp
  down_total = back_total (on_total event_key (then_total (on_total (λ (k : Key). k.time) nat_cmp_total)
      (then_total (on_total (λ (k : Key). k.origin) nat_cmp_total) (on_total (λ (k : Key). k.number) nat_cmp_total))))

  ordered_end : (es : List (Event B)) (x : Event B) → InKeyOrder event_key es → AllByRecursion (λ e. IsBefore e.key x.key) es
      → InKeyOrder event_key (es ++ x ∷ [])
  ordered_end [] x o all = (tt, tt)
  ordered_end (e ∷ es) x o all =
      (all_both (λ y. IsBefore e.key y.key) es (x ∷ []) o.0 (all.0, tt), ordered_end es x o.1 all.1)

  not_after : (x y : Event B) → x.key ≢ y.key → is_lt (down_cmp y x) ≡ false → IsBefore y.key x.key
  not_after x y ne h = by_cmp (key_cmp x.key y.key) refl
    where
      by_cmp : (r : Ordering) → key_cmp x.key y.key ≡ r → IsBefore y.key x.key
      by_cmp Less q = let both : true ≡ false = sym (ap is_lt q) ∙ h in cc
      by_cmp Equal q = absurd (ne (compared x.key y.key Equal q))
      by_cmp Greater q = compared x.key y.key Greater q

  abbrev pub is_down : Event B → Event B → Bool
  is_down a b = is_lt (down_cmp a b)

  sorted_tail : (x : Event B) (xs : List (Event B)) → IsSortedBy is_down (x ∷ xs) → IsSortedBy is_down xs
  sorted_tail x xs up k d l h =
      subst (λ n. is_down (slice_index_or (x ∷ xs) n d) (slice_index_or xs k d) ≡ false) (next k) (up (suc k) d (omega arith) (omega (arith, h)))
    where
      next : (k : ℕ) → suc k + 1 ≡ suc (k + 1)
      next k = omega arith

  head_last : (x : Event B) (xs : List (Event B)) → AreDistinct (x ∷ xs) → IsSortedBy is_down (x ∷ xs) → AllByRecursion (λ e. IsBefore e.key x.key) xs
  head_last x xs d up =
      let low : AllByRecursion (λ e. is_down e x ≡ false) xs = recursion_from_All (λ e. is_down e x ≡ false) xs
      (λ j e h. sorted_far is_down (ranks_by down_total (λ (v : Event B). v)) (x ∷ xs) up 0 (suc j) e (omega arith) (omega (arith, h))) in
      all_from (λ e. IsBefore e.key x.key) xs (λ z h. not_after x z (distinct_first x xs d z h) (all_in (λ e. is_down e x ≡ false) xs low z h))

  -- sorted so that the first comes last, and turned round
  pub sorted_down : (es : List (Event B)) → AreDistinct es → IsSortedBy is_down es → InKeyOrder event_key (reverse es)
  sorted_down [] d up = tt
  sorted_down (x ∷ xs) d up =
      subst (InKeyOrder event_key) (sym (reverse-append (x ∷ []) xs))
      (ordered_end (reverse xs) x (sorted_down xs (distinct_rest x xs d) (sorted_tail x xs up))
      (all_from (λ e. IsBefore e.key x.key) (reverse xs) (λ z h.
      all_in (λ e. IsBefore e.key x.key) xs (head_last x xs d up) z
      (permuted_in (reverse xs) xs (IsPermutation-sym xs (reverse xs) (IsPermutation-reverse xs)) z h))))

  pub distinct_filter : (p : Event B → Bool) (es : List (Event B)) → AreDistinct es → AreDistinct (filter p es)
  unfolding IsDistinct
  distinct_filter p [] d = tt
  distinct_filter p (e ∷ es) d = by_test (p e) (distinct_filter p es (distinct_rest e es d))
    where
      by_test : (b : Bool) → AreDistinct (filter p es) → AreDistinct (cond b (e ∷ filter p es) (filter p es))
      by_test true on = distinct_more e (filter p es)
          (all_from (λ y. y.key ≢ e.key) (filter p es) (λ z h q. distinct_first e es d z (in_filter p es z h).0 (sym q))) on
      by_test false on = on

  -- those before a horizon, sorted
  pub sorted_before : (h : ℕ) (all ys : List (Event B)) → AreDistinct all → IsPermutation (before event_key h all) ys → InKeyOrder event_key ys
      → ys ≡ before event_key h (in_key_order all)
  sorted_before h all ys d p o =
      same_list event_key ys (filter early (in_key_order all)) o (ordered_filter early (in_key_order all) (ordered_all all d))
      (λ z k. let is = in_filter early all z (permuted_in ys (filter early all) (IsPermutation-sym (filter early all) ys p) z k) in
      filter_in early (in_key_order all) z (of_order_in all z is.0) is.1)
      (λ z k. let is = in_filter early (in_key_order all) z k in
      permuted_in (filter early all) ys p z (filter_in early all z (in_of_order all z is.0) is.1))
    where
      early : Event B → Bool
      early e = nat_lt e.key.time h
