-- Entries, and the events at their places.
use Rattle.std.proofs.Common.{
  ◌≡◌,
  ◌≢◌,
  inl,
  inr,
  ℕ,
  suc,
  ◌+◌,
  ◌<◌,
  Bool,
  true,
  false,
  cond,
  List,
  [],
  ◌∷◌,
  map,
  length,
  Option,
  Some,
  None,
  IsSomeAnd,
  option_map,
  slice_get,
  slice_index_or,
  refl,
  sym,
  ap,
  ◌∙◌,
  subst,
  arith,
}
use Rattle.std.specs.List.{AllByRecursion, IsDistinct, cons_option}
use Rattle.std.specs.List.Sorted.{IsPermutation}
use Rattle.std.specs.BinaryHeap.{IsHeap, IsUpperBound, heap_items, heap_len}
use Rattle.std.specs.Ordering.{is_lt, nat_cmp, ordering_then}
use Rattle.std.specs.declared.cmp.Ordering.{Ordering}
use Rattle.std.specs.declared.cmp.Ordering.TheVariants.{Less, Equal, Greater}
use Rattle.std.proofs.lemmas.Map.Keys.{IsDistinct-IsPermutation, IsDistinct-head, IsDistinct-tail, IsDistinct-cons}
use Rattle.std.proofs.lemmas.List.Sorted.{Contains-permutation, IsPermutation-refl, IsPermutation-sym, IsPermutation-map}
use Rattle.des_queue.specs.Shelf.{ChangesAt, Shelved, get, shelf_len}
use Rattle.des_event.specs.declared.event.Event.{Event}
use Rattle.des_event.specs.declared.key.Key.{Key}
use Rattle.des_event.specs.Keys.{IsBefore, is_before, is_same_key, key_cmp}
use Rattle.des_event.specs.KeyOrder.{InKeyOrder, IsNewKey, put_in_order}
use Rattle.des_event.proofs.Compare.{compared}
use Rattle.des_event.proofs.KeyLists.{IsIn, all_in, all_from, in_put, put_in, ordered_put, put_first, same_list, Contains-from_IsIn, IsIn-from_Contains}
use Rattle.des_event.proofs.Order.{is_same_key-true, same_key-self}
use Rattle.des_queue.specs.EventKey.{event_key}
use Rattle.des_queue.specs.Places.{Events, Entry, Held, waiting_key, waiting_cmp, events_at, in_key_order, heap_events, IsPlaced, IsPlacedHeap}
use Rattle.des_queue.specs.declared.event_heap.EventHeap.TheInside.{Inside}

abbrev pub AreDistinct : List Entry → Type 0
AreDistinct ws = IsDistinct is_same_key (map waiting_key ws)

pub differs : (a b : Key) → is_same_key a b ≡ false → a ≢ b
differs a b h e = let both : false ≡ true = sym h ∙ ap (λ k. is_same_key a k) (sym e) ∙ same_key-self a in cc

pub apart : (a b : Key) → a ≢ b → is_same_key a b ≡ false
apart a b ne = apart_by (is_same_key a b) refl
  where
    apart_by : (r : Bool) → is_same_key a b ≡ r → is_same_key a b ≡ false
    apart_by true h = absurd (ne (is_same_key-true a b h))
    apart_by false h = h

pub same_key-flips : (a b : Key) → is_same_key a b ≡ is_same_key b a
same_key-flips a b = flips_by (is_same_key a b) refl
  where
    flips_by : (r : Bool) → is_same_key a b ≡ r → is_same_key a b ≡ is_same_key b a
    flips_by true h = let e = is_same_key-true a b h in h ∙ sym (ap (λ k. is_same_key b k) e ∙ same_key-self b)
    flips_by false h = h ∙ sym (apart b a (λ e. differs a b h (sym e)))

pub distinct_first : (w : Entry) (ws : List Entry) → AreDistinct (w ∷ ws) → (v : Entry) → IsIn v ws → waiting_key w ≢ waiting_key v
distinct_first w ws d = in_rest ws (IsDistinct-head is_same_key (waiting_key w) (map waiting_key ws) d)
  where
    in_rest : (xs : List Entry) → AllByRecursion (λ k. is_same_key (waiting_key w) k ≡ false) (map waiting_key xs) → (v : Entry) → IsIn v xs
        → waiting_key w ≢ waiting_key v
    in_rest [] all v h = absurd h
    in_rest (x ∷ xs) all v (inl e) = λ s. differs (waiting_key w) (waiting_key x) all.0 (s ∙ ap waiting_key e)
    in_rest (x ∷ xs) all v (inr h) = in_rest xs all.1 v h

pub distinct_more : (w : Entry) (ws : List Entry) → ((v : Entry) → IsIn v ws → waiting_key w ≢ waiting_key v) → AreDistinct ws → AreDistinct (w ∷ ws)
distinct_more w ws f d = IsDistinct-cons is_same_key (waiting_key w) (map waiting_key ws) (in_rest ws f) d
  where
    in_rest : (xs : List Entry) → ((v : Entry) → IsIn v xs → waiting_key w ≢ waiting_key v)
        → AllByRecursion (λ k. is_same_key (waiting_key w) k ≡ false) (map waiting_key xs)
    in_rest [] g = tt
    in_rest (x ∷ xs) g = (apart (waiting_key w) (waiting_key x) (g x (inl refl)), in_rest xs (λ v h. g v (inr h)))

pub distinct_rest : (w : Entry) (ws : List Entry) → AreDistinct (w ∷ ws) → AreDistinct ws
distinct_rest w ws d = IsDistinct-tail is_same_key (waiting_key w) (map waiting_key ws) d

pub permuted_in : {A : Type 0} (xs ys : List A) → IsPermutation xs ys → (z : A) → IsIn z xs → IsIn z ys
permuted_in xs ys p z h = IsIn-from_Contains ys z (Contains-permutation xs ys z p (Contains-from_IsIn xs z h))

module _ {B : Type 0} where
  pub held_permuted : (s : Events B) (xs ys : List Entry) → IsPermutation xs ys → Held s xs → Held s ys
  held_permuted s xs ys p held = record {
    placed = all_from (IsPlaced s) ys (λ w h. all_in (IsPlaced s) xs held.placed w (permuted_in ys xs (IsPermutation-sym xs ys p) w h));
    distinct = IsDistinct-IsPermutation is_same_key same_key-flips (map waiting_key xs) (map waiting_key ys) (IsPermutation-map waiting_key xs ys p)
        held.distinct;
  }

  held_rest : (s : Events B) (w : Entry) (ws : List Entry) → Held s (w ∷ ws) → Held s ws
  held_rest s w ws held = record { placed = held.placed.1; distinct = distinct_rest w ws held.distinct }

  -- the event of an entry
  pub event_of : (s : Events B) (w : Entry) → IsPlaced s w → (e : Event B) × (s w.place ≡ Some e) × (e.key ≡ waiting_key w)
  event_of s w is = event_by (s w.place) refl is
    where
      event_by : (o : Option (Event B)) → s w.place ≡ o → IsSomeAnd o (λ e. e.key ≡ waiting_key w)
          → (e : Event B) × (s w.place ≡ Some e) × (e.key ≡ waiting_key w)
      event_by None g h = absurd h
      event_by (Some e) g h = (e, g, h)

  pub key_at : (s : Events B) (w : Entry) (e : Event B) → IsPlaced s w → s w.place ≡ Some e → e.key ≡ waiting_key w
  key_at s w e is g = subst (λ o. IsSomeAnd o (λ x. x.key ≡ waiting_key w)) g is

past : {A : Type 0} (o : Option A) (x : A) (xs : List A) → IsIn x xs → IsIn x (cons_option o xs)
past None x xs h = h
past (Some y) x xs h = inr h

module _ {B : Type 0} where
  pub event_in : (s : Events B) (ws : List Entry) (w : Entry) (e : Event B) → IsIn w ws → s w.place ≡ Some e → IsIn e (events_at s ws)
  event_in s [] w e h g = absurd h
  event_in s (x ∷ xs) w e (inl q) g =
      subst (λ o. IsIn e (cons_option o (events_at s xs))) (sym (ap (λ (v : Entry). s v.place) (sym q) ∙ g)) (inl refl)
  event_in s (x ∷ xs) w e (inr h) g = past (s x.place) e (events_at s xs) (event_in s xs w e h g)

  -- the entry of an event
  abbrev pub EntryOf : Events B → List Entry → Event B → Type 0
  EntryOf s ws e = (w : Entry) × IsIn w ws × (s w.place ≡ Some e)

  pub entry_of : (s : Events B) (ws : List Entry) (e : Event B) → IsIn e (events_at s ws) → EntryOf s ws e
  entry_of s [] e h = absurd h
  entry_of s (x ∷ xs) e h = entry_by (s x.place) refl (entry_of s xs e) h
    where
      entry_by : (o : Option (Event B)) → s x.place ≡ o → (IsIn e (events_at s xs) → EntryOf s xs e) → IsIn e (cons_option o (events_at s xs))
          → EntryOf s (x ∷ xs) e
      entry_by None g on k = let r = on k in (r.0, inr r.1, r.2)
      entry_by (Some y) g on (inl q) = (x, inl refl, g ∙ ap Some (sym q))
      entry_by (Some y) g on (inr k) = let r = on k in (r.0, inr r.1, r.2)

  pub in_of_order : (es : List (Event B)) (z : Event B) → IsIn z (in_key_order es) → IsIn z es
  in_of_order [] z h = h
  in_of_order (e ∷ es) z h = elim (in_put event_key e (in_key_order es) z h) [ inl q ↦ inl q | inr k ↦ inr (in_of_order es z k) ]

  pub of_order_in : (es : List (Event B)) (z : Event B) → IsIn z es → IsIn z (in_key_order es)
  of_order_in [] z h = h
  of_order_in (e ∷ es) z (inl q) = put_in event_key e (in_key_order es) z (inl q)
  of_order_in (e ∷ es) z (inr k) = put_in event_key e (in_key_order es) z (inr (of_order_in es z k))

  -- the event of an entry in front
  event_first : (s : Events B) (w : Entry) (ws : List Entry) (e : Event B) → s w.place ≡ Some e → events_at s (w ∷ ws) ≡ e ∷ events_at s ws
  event_first s w ws e g = ap (λ o. cons_option o (events_at s ws)) g

  -- what holds of the keys of entries holds of the keys of their events
  keys_in_order : (s : Events B) (ws : List Entry) (P : Key → Type 0) → AllByRecursion (IsPlaced s) ws → ((w : Entry) → IsIn w ws → P (waiting_key w))
      → AllByRecursion (λ e. P (event_key e)) (in_key_order (events_at s ws))
  keys_in_order s ws P placed f = all_from (λ e. P (event_key e)) (in_key_order (events_at s ws)) (λ z h.
      let r = entry_of s ws z (in_of_order (events_at s ws) z h) in
      subst P (sym (key_at s r.0 z (all_in (IsPlaced s) ws placed r.0 r.1) r.2)) (f r.0 r.1))

  pub ordered : (s : Events B) (ws : List Entry) → Held s ws → InKeyOrder event_key (in_key_order (events_at s ws))
  ordered s [] held = tt
  ordered s (w ∷ ws) held =
      let own = event_of s w held.placed.0 in let e = own.0 in
      let others = distinct_first w ws held.distinct in
      let new : IsNewKey event_key e.key (in_key_order (events_at s ws)) = keys_in_order s ws (λ k. k ≢ e.key) held.placed.1
      (λ v h q. others v h (sym own.2 ∙ sym q)) in
      subst (λ es. InKeyOrder event_key (in_key_order es)) (sym (event_first s w ws e own.1))
      (ordered_put event_key e (in_key_order (events_at s ws)) (ordered s ws (held_rest s w ws held)) new)

  pub order_permuted : (s : Events B) (xs ys : List Entry) → IsPermutation xs ys → Held s xs → in_key_order (events_at s xs) ≡ in_key_order (events_at s ys)
  order_permuted s xs ys p held =
      same_list event_key (in_key_order (events_at s xs)) (in_key_order (events_at s ys)) (ordered s xs held) (ordered s ys (held_permuted s xs ys p held))
      (moved xs ys p) (moved ys xs (IsPermutation-sym xs ys p))
    where
      moved : (us vs : List Entry) → IsPermutation us vs → (z : Event B) → IsIn z (in_key_order (events_at s us)) → IsIn z (in_key_order (events_at s vs))
      moved us vs q z h =
          let r = entry_of s us z (in_of_order (events_at s us) z h) in
          of_order_in (events_at s vs) z (event_in s vs r.0 z (permuted_in us vs q r.0 r.1) r.2)

-- what is not below an entry of another key has a later key
later : (w v : Entry) → waiting_key w ≢ waiting_key v → is_lt (waiting_cmp w v) ≡ false → IsBefore (waiting_key w) (waiting_key v)
later w v ne h = later_by (key_cmp (waiting_key v) (waiting_key w)) refl
  where
    later_by : (r : Ordering) → key_cmp (waiting_key v) (waiting_key w) ≡ r → IsBefore (waiting_key w) (waiting_key v)
    later_by Less q = let both : true ≡ false = sym (ap (λ r. is_lt (ordering_then r (nat_cmp w.place v.place))) q) ∙ h in cc
    later_by Equal q = absurd (ne (sym (compared (waiting_key v) (waiting_key w) Equal q)))
    later_by Greater q = compared (waiting_key v) (waiting_key w) Greater q

module _ {B : Type 0} where
  -- the entry that no other exceeds has the first event
  pub first_out : (s : Events B) (ws rest : List Entry) (w : Entry) (e : Event B) → Held s ws → IsPermutation ws (w ∷ rest)
      → IsUpperBound waiting_cmp w rest → s w.place ≡ Some e
      → Held s rest × (in_key_order (events_at s ws) ≡ e ∷ in_key_order (events_at s rest))
  first_out s ws rest w e held p up g =
      let all = held_permuted s ws (w ∷ rest) p held in
      let others = distinct_first w rest all.distinct in
      let own = key_at s w e all.placed.0 g in
      let after : AllByRecursion (λ x. IsBefore (event_key e) (event_key x)) (in_key_order (events_at s rest)) = keys_in_order s rest
      (λ k. IsBefore e.key k) all.placed.1
      (λ v h. subst (λ k. IsBefore k (waiting_key v)) (sym own) (later w v (others v h) (all_in (λ y. is_lt (waiting_cmp w y) ≡ false) rest up v h))) in (
        held_rest s w rest all,
        order_permuted s ws (w ∷ rest) p held ∙ ap in_key_order (event_first s w rest e g)
            ∙ put_first event_key e (in_key_order (events_at s rest)) after,
      )

  -- events stay where the entries' places do
  pub stays : (s t : Events B) (ws : List Entry) → ((w : Entry) → IsIn w ws → t w.place ≡ s w.place) → events_at t ws ≡ events_at s ws
  stays s t [] f = refl
  stays s t (w ∷ ws) f = let here = f w (inl refl) in let rest = stays s t ws (λ v h. f v (inr h)) in λ i. cons_option (here i) (rest i)

  pub held_stays : (s t : Events B) (ws : List Entry) → ((w : Entry) → IsIn w ws → t w.place ≡ s w.place) → Held s ws → Held t ws
  held_stays s t ws f held = record {
    placed = all_from (IsPlaced t) ws (λ w h. subst (λ o. IsSomeAnd o (λ e. e.key ≡ waiting_key w)) (sym (f w h)) (all_in (IsPlaced s) ws held.placed w h));
    distinct = held.distinct;
  }

  -- once the event of an entry is taken, the others' places have what they had
  others_stay : (s t : Events B) (ws rest : List Entry) (w : Entry) (e : Event B) → Held s ws → IsPermutation ws (w ∷ rest) → s w.place ≡ Some e
      → ChangesAt s t w.place None → (v : Entry) → IsIn v rest → t v.place ≡ s v.place
  others_stay s t ws rest w e held p g change v h =
      let all = held_permuted s ws (w ∷ rest) p held in
      change.others v.place (λ q.
      distinct_first w rest all.distinct v h (sym (key_at s w e all.placed.0 g) ∙ key_at s v e (all_in (IsPlaced s) rest all.placed.1 v h) (ap s q ∙ g)))

  pub popped : (s t : Events B) (ws rest : List Entry) (w : Entry) (e : Event B) → Held s ws → IsPermutation ws (w ∷ rest)
      → IsUpperBound waiting_cmp w rest → s w.place ≡ Some e → ChangesAt s t w.place None
      → Held t rest × (in_key_order (events_at s ws) ≡ e ∷ in_key_order (events_at t rest))
  popped s t ws rest w e held p up g change =
      let out = first_out s ws rest w e held p up g in let kept = others_stay s t ws rest w e held p g change in
      (held_stays s t rest kept out.0, out.1 ∙ ap (λ es. e ∷ in_key_order es) (sym (stays s t rest kept)))

  pub inserted : (s t : Events B) (ws more : List Entry) (es : List (Event B)) (w : Entry) (e : Event B) → Held s ws
      → in_key_order (events_at s ws) ≡ es → IsNewKey event_key e.key es → waiting_key w ≡ e.key → s w.place ≡ None → ChangesAt s t w.place (Some e)
      → IsPermutation (w ∷ ws) more
      → Held t more × (in_key_order (events_at t more) ≡ put_in_order event_key e es)
  inserted s t ws more es w e held shown new key vacant change p =
      let kept : (v : Entry) → IsIn v ws → t v.place ≡ s v.place = λ v h. change.others v.place (λ q.
      subst (λ o. IsSomeAnd o (λ x. x.key ≡ waiting_key v)) (ap s q ∙ vacant) (all_in (IsPlaced s) ws held.placed v h)) in
      let rest = held_stays s t ws kept held in
      let own : IsPlaced t w = subst (λ o. IsSomeAnd o (λ x. x.key ≡ waiting_key w)) (sym change.changed) (sym key) in
      let others : (v : Entry) → IsIn v ws → waiting_key w ≢ waiting_key v = λ v h q.
      let at_v = event_of s v (all_in (IsPlaced s) ws held.placed v h) in
      let among : IsIn at_v.0 es = subst (IsIn at_v.0) shown (of_order_in (events_at s ws) at_v.0 (event_in s ws v at_v.0 h at_v.1)) in
      all_in (λ x. event_key x ≢ e.key) es new at_v.0 among (at_v.2 ∙ sym q ∙ key) in
      let all : Held t (w ∷ ws) = record { placed = (own, rest.placed); distinct = distinct_more w ws others held.distinct } in (
        held_permuted t (w ∷ ws) more p all,
        sym (order_permuted t (w ∷ ws) more p all) ∙ ap in_key_order (event_first t w ws e change.changed)
            ∙ ap (put_in_order event_key e) (ap in_key_order (stays s t ws kept) ∙ shown),
      )

  -- the fields of the pending events
  pub held_by : (p : Inside B) → IsPlacedHeap p → Held (get p.events) (heap_items p.heap)
  held_by p is = record { placed = is.placed; distinct = is.distinct }

  pub placed_by : (p : Inside B) → IsHeap waiting_cmp (heap_items p.heap) → Held (get p.events) (heap_items p.heap) → shelf_len p.events ≡ heap_len p.heap
      → IsPlacedHeap p
  placed_by p heap held counted = record {
    ordered = heap;
    placed = held.placed;
    distinct = held.distinct;
    counted = counted;
  }

  pub held_none : (s : Events B) → Held s []
  unfolding IsDistinct
  held_none s = record { placed = tt; distinct = tt }

  -- after room was made
  pub kept_by : (p : Inside B) (s : Shelved B) (ws : List Entry) → IsPlacedHeap p → ws ≡ heap_items p.heap → get s ≡ get p.events
      → Held (get s) ws × (in_key_order (events_at (get s) ws) ≡ heap_events p)
  kept_by p s ws is items slots =
      let same : (w : Entry) → IsIn w ws → get s w.place ≡ get p.events w.place = λ w h. ap (λ (f : Events B). f w.place) slots in
      let held : Held (get p.events) ws = subst (Held (get p.events)) (sym items) (held_by p is) in (
        held_stays (get p.events) (get s) ws same held,
        ap in_key_order (stays (get p.events) (get s) ws same)
            ∙ ap (λ l. in_key_order (events_at (get p.events) l)) items,
      )

  -- what the first event's key says
  pub first_says : {A : Type 0} (f : Key → A) (s : Events B) (ws rest : List Entry) (w : Entry) → Held s ws → IsPermutation ws (w ∷ rest)
      → IsUpperBound waiting_cmp w rest → Some (f (waiting_key w)) ≡ option_map (λ e. f e.key) (slice_get (in_key_order (events_at s ws)) 0)
  first_says f s ws rest w held p up =
      let own = event_of s w (held_permuted s ws (w ∷ rest) p held).placed.0 in let out = first_out s ws rest w own.0 held p up own.1 in
      ap (λ (k : Key). Some (f k)) (sym own.2) ∙ sym (ap (λ es. option_map (λ (e : Event B). f e.key) (slice_get es 0)) out.1)

  pub first_of : {A : Type 0} (f : Key → A) (s : Events B) (ws : List Entry) (w : Entry) → Held s ws → IsUpperBound waiting_cmp w ws
      → w ≡ slice_index_or ws 0 w → 0 < length ws
      → Some (f (waiting_key w)) ≡ option_map (λ e. f e.key) (slice_get (in_key_order (events_at s ws)) 0)
  first_of f s [] w held up first some = absurd (omega (arith, some))
  first_of f s (x ∷ xs) w held up first some =
      ap (λ (v : Entry). Some (f (waiting_key v))) first
      ∙ first_says f s (x ∷ xs) xs x held (IsPermutation-refl (x ∷ xs)) (subst (λ v. IsUpperBound waiting_cmp v xs) first up.1)

  length_put : (e : Event B) (es : List (Event B)) → length (put_in_order event_key e es) ≡ length es + 1
  length_put e [] = refl
  length_put e (x ∷ xs) = length_by (is_before (event_key e) (event_key x)) (length_put e xs)
    where
      length_by : (b : Bool) → length (put_in_order event_key e xs) ≡ length xs + 1
          → length (cond b (e ∷ (x ∷ xs)) (x ∷ put_in_order event_key e xs)) ≡ length (x ∷ xs) + 1
      length_by true h = omega arith
      length_by false h = omega (arith, h)

  -- there are as many events as entries
  pub length_ordered : (s : Events B) (ws : List Entry) → AllByRecursion (IsPlaced s) ws → length (in_key_order (events_at s ws)) ≡ length ws
  length_ordered s [] all = refl
  length_ordered s (w ∷ ws) all =
      let own = event_of s w all.0 in
      ap (λ es. length (in_key_order es)) (event_first s w ws own.0 own.1) ∙ length_put own.0 (in_key_order (events_at s ws))
      ∙ length_more (length_ordered s ws all.1)
    where
      length_more : {m n : ℕ} → m ≡ n → m + 1 ≡ suc n
      length_more h = omega (arith, h)
