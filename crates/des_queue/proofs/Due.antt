-- The entries before a horizon, and their events in key order.
use Rattle.std.proofs.Common.{
  ◌≡◌,
  ℕ,
  Bool,
  true,
  false,
  cond,
  nat_lt,
  List,
  [],
  ◌∷◌,
  ◌++◌,
  length,
  length-append,
  ◌+◌,
  Some,
  IsSome,
  refl,
  sym,
  ap,
  ◌∙◌,
  subst,
  arith,
}
use Rattle.std.specs.List.{filter}
use Rattle.std.specs.Cmp.{IsTotalOrder}
use Rattle.std.specs.List.Sorted.{IsSorted}
use Rattle.std.specs.BinaryHeap.{IsUpperBound}
use Rattle.std.specs.Ordering.{is_lt}
use Rattle.std.proofs.Math.ListN.{get_or-append}
use Rattle.std.proofs.Math.Seq.{get_or-append_seam}
use Rattle.std.proofs.lemmas.Cmp.{back_total, nat_cmp_total, on_total, then_total}
use Rattle.std.proofs.lemmas.List.Elements.{recursion_from_All}
use Rattle.std.proofs.lemmas.List.MinMax.{ranks_by}
use Rattle.std.proofs.lemmas.List.Sorted.{sorted_far, IsPermutation-append_comm}
use Rattle.des_queue.specs.Shelf.{Shelved, get, ContainsPlace}
use Rattle.des_event.specs.declared.event.Event.{Event}
use Rattle.des_event.specs.declared.key.Key.{Key}
use Rattle.des_event.specs.Keys.{IsBefore}
use Rattle.des_event.specs.KeyOrder.{InKeyOrder, before}
use Rattle.des_event.proofs.KeyLists.{IsIn, all_in, all_from, same_list, Contains-from_IsIn, IsIn-from_Contains}
use Rattle.des_event.proofs.Members.{contains_filter, filter_contains}
use Rattle.des_queue.specs.EventKey.{event_key}
use Rattle.des_queue.specs.Places.{Held, Events, Entry, waiting_key, waiting_cmp, is_due, events_at, in_key_order, IsPlaced}
use Rattle.des_queue.proofs.Places.{
  AreDistinct,
  held_permuted,
  distinct_first,
  distinct_more,
  distinct_rest,
  in_of_order,
  of_order_in,
  event_in,
  entry_of,
  event_of,
  key_at,
  ordered,
  first_out,
}

-- what a filter keeps
pub in_filter : {A : Type 0} (p : A → Bool) (xs : List A) (x : A) → IsIn x (filter p xs) → IsIn x xs × (p x ≡ true)
in_filter p xs x h = let c = filter_contains p xs x (Contains-from_IsIn (filter p xs) x h) in (IsIn-from_Contains xs x c.0, c.1)

pub filter_in : {A : Type 0} (p : A → Bool) (xs : List A) (x : A) → IsIn x xs → p x ≡ true → IsIn x (filter p xs)
filter_in p xs x h t = IsIn-from_Contains (filter p xs) x (contains_filter p xs x (Contains-from_IsIn xs x h) t)

distinct_filter : (p : Entry → Bool) (ws : List Entry) → AreDistinct ws → AreDistinct (filter p ws)
distinct_filter p [] d = d
distinct_filter p (w ∷ ws) d = by_test (p w) (distinct_filter p ws (distinct_rest w ws d))
  where
    by_test : (b : Bool) → AreDistinct (filter p ws) → AreDistinct (cond b (w ∷ filter p ws) (filter p ws))
    by_test true on = distinct_more w (filter p ws) (λ v h. distinct_first w ws d v (in_filter p ws v h).0) on
    by_test false on = on

module _ {B : Type 0} where
  pub ordered_filter : (p : Event B → Bool) (es : List (Event B)) → InKeyOrder event_key es → InKeyOrder event_key (filter p es)
  ordered_filter p [] o = o
  ordered_filter p (e ∷ es) o = by_test (p e) (ordered_filter p es o.1)
    where
      by_test : (b : Bool) → InKeyOrder event_key (filter p es) → InKeyOrder event_key (cond b (e ∷ filter p es) (filter p es))
      by_test true on = (
        all_from (λ x. IsBefore (event_key e) (event_key x)) (filter p es)
            (λ x h. all_in (λ y. IsBefore (event_key e) (event_key y)) es o.0 x (in_filter p es x h).0),
        on,
      )
      by_test false on = on

  pub held_due : (s : Events B) (ws : List Entry) (h : ℕ) → Held s ws → Held s (filter (is_due h) ws)
  held_due s ws h held = record {
    placed = all_from (IsPlaced s) (filter (is_due h) ws) (λ w k. all_in (IsPlaced s) ws held.placed w (in_filter (is_due h) ws w k).0);
    distinct = distinct_filter (is_due h) ws held.distinct;
  }

  -- the events of the entries before the horizon
  pub due_events : (s : Events B) (ws : List Entry) (h : ℕ) → Held s ws → in_key_order (events_at s (filter (is_due h) ws))
      ≡ before event_key h (in_key_order (events_at s ws))
  due_events s ws h held =
      same_list event_key (in_key_order (events_at s (filter (is_due h) ws))) (before event_key h (in_key_order (events_at s ws)))
      (ordered s (filter (is_due h) ws) (held_due s ws h held)) (ordered_filter early (in_key_order (events_at s ws)) (ordered s ws held)) there back
    where
      early : Event B → Bool
      early e = nat_lt (event_key e).time h

      key_of : (w : Entry) (z : Event B) → IsIn w ws → s w.place ≡ Some z → z.key ≡ waiting_key w
      key_of w z k g = key_at s w z (all_in (IsPlaced s) ws held.placed w k) g

      there : (z : Event B) → IsIn z (in_key_order (events_at s (filter (is_due h) ws))) → IsIn z (filter early (in_key_order (events_at s ws)))
      there z k =
          let r = entry_of s (filter (is_due h) ws) z (in_of_order (events_at s (filter (is_due h) ws)) z k) in
          let is = in_filter (is_due h) ws r.0 r.1 in
          filter_in early (in_key_order (events_at s ws)) z (of_order_in (events_at s ws) z (event_in s ws r.0 z is.0 r.2))
          (ap (λ (q : Key). nat_lt q.time h) (key_of r.0 z is.0 r.2) ∙ is.1)

      back : (z : Event B) → IsIn z (filter early (in_key_order (events_at s ws))) → IsIn z (in_key_order (events_at s (filter (is_due h) ws)))
      back z k =
          let is = in_filter early (in_key_order (events_at s ws)) z k in
          let r = entry_of s ws z (in_of_order (events_at s ws) z is.0) in
          of_order_in (events_at s (filter (is_due h) ws)) z (event_in s (filter (is_due h) ws) r.0 z
          (filter_in (is_due h) ws r.0 r.1 (ap (λ (q : Key). nat_lt q.time h) (sym (key_of r.0 z r.1 r.2)) ∙ is.1)) r.2)

waiting_total : IsTotalOrder waiting_cmp
waiting_total =
    then_total (back_total (on_total waiting_key (then_total (on_total (λ (k : Key). k.time) nat_cmp_total)
    (then_total (on_total (λ (k : Key). k.origin) nat_cmp_total) (on_total (λ (k : Key). k.number) nat_cmp_total)))))
    (on_total (λ (w : Entry). w.place) nat_cmp_total)

pub last_greatest : (ws : List Entry) (w : Entry) → IsSorted waiting_cmp (ws ++ w ∷ []) → IsUpperBound waiting_cmp w ws
last_greatest ws w up = recursion_from_All (λ v. is_lt (waiting_cmp w v) ≡ false) ws (λ i d h.
    let far = sorted_far (λ a b. is_lt (waiting_cmp a b)) (ranks_by waiting_total (λ (v : Entry). v)) (ws ++ w ∷ []) up i (length ws) d
    (omega (arith, h)) (omega (arith, length-append ws (w ∷ []))) in
    (λ j. is_lt (waiting_cmp (sym (get_or-append_seam ws w [] d) j) (sym (get_or-append ws (w ∷ []) d i h) j))) ∙ far)

pub sorted_front : (ws : List Entry) (w : Entry) → IsSorted waiting_cmp (ws ++ w ∷ []) → IsSorted waiting_cmp ws
sorted_front ws w up k d l h =
    (λ j. is_lt (waiting_cmp (sym (get_or-append ws (w ∷ []) d (k + 1) h) j) (sym (get_or-append ws (w ∷ []) d k (omega (arith, h))) j)))
    ∙ up k d l (omega (arith, h, length-append ws (w ∷ [])))

module _ {B : Type 0} where
  -- sorted entries, of which the last has the first key
  pub record Due (s : Events B) (ws : List Entry) : Type 0 where
    pub held : Held s ws
    pub sorted : IsSorted waiting_cmp ws

  -- the last entry is taken
  pub last_out : (s : Events B) (ws : List Entry) (w : Entry) (e : Event B) → Due s (ws ++ w ∷ []) → s w.place ≡ Some e
      → Due s ws × (in_key_order (events_at s (ws ++ w ∷ [])) ≡ e ∷ in_key_order (events_at s ws))
  last_out s ws w e due g =
      let out = first_out s (ws ++ w ∷ []) ws w e due.held (IsPermutation-append_comm ws (w ∷ [])) (last_greatest ws w due.sorted) g in
      (record { held = out.0; sorted = sorted_front ws w due.sorted }, out.1)

  last_placed : (s : Events B) (ws : List Entry) (w : Entry) → Due s (ws ++ w ∷ []) → IsPlaced s w
  last_placed s ws w due = (held_permuted s (ws ++ w ∷ []) (w ∷ ws) (IsPermutation-append_comm ws (w ∷ [])) due.held).placed.0

  pub last_some : (s : Shelved B) (ws : List Entry) (w : Entry) → Due (get s) (ws ++ w ∷ []) → ContainsPlace s w.place
  last_some s ws w due = let own = event_of (get s) w (last_placed (get s) ws w due) in subst IsSome (sym own.1) refl
