-- Events by day: what a call does to all of them.
use Rattle.std.proofs.Common.{
  ◌≡◌,
  ◌≢◌,
  inl,
  inr,
  ℕ,
  suc,
  ◌+◌,
  ◌-◌,
  ◌/◌,
  ◌<◌,
  ◌≤◌,
  false,
  List,
  [],
  ◌∷◌,
  ◌++◌,
  map,
  length,
  Option,
  Some,
  None,
  IsSomeAnd,
  slice_get,
  slice_index_or,
  vec_capacity,
  refl,
  sym,
  ap,
  ◌∙◌,
  subst,
  arith,
}
use Rattle.std.specs.Global.{Vec}
use Rattle.std.specs.List.{AllByRecursion}
use Rattle.std.specs.Vec.{with_item}
use Rattle.std.specs.List.Sorted.{IsPermutation, IsSorted}
use Rattle.std.specs.BinaryHeap.{IsUpperBound}
use Rattle.std.specs.Ordering.{is_lt, nat_cmp, ordering_then}
use Rattle.std.specs.declared.cmp.Ordering.{Ordering}
use Rattle.std.specs.declared.cmp.Ordering.TheVariants.{Less, Equal, Greater}
use Rattle.std.proofs.lemmas.List.Sorted.{IsPermutation-append_left, IsPermutation-map, IsPermutation-to_front, IsPermutation-sym, IsPermutation-trans}
use Rattle.std.proofs.lemmas.List.{map-append}
use Rattle.des_queue.specs.Shelf.{ChangesAt, Shelved, get}
use Rattle.des_event.specs.declared.event.Event.{Event}
use Rattle.des_event.specs.declared.key.Key.{Key}
use Rattle.des_event.specs.Keys.{IsBefore, key_cmp}
use Rattle.des_event.specs.KeyOrder.{InKeyOrder, IsNewKey, put_in_order}
use Rattle.des_event.proofs.Compare.{compared}
use Rattle.des_event.proofs.KeyLists.{IsIn, all_from, all_in}
use Rattle.des_event.proofs.Order.{before_not_same}
use Rattle.des_queue.specs.Calendar.{AreOrderly, events_of}
use Rattle.des_queue.specs.Days.{AllPlaced, AreDays, HaveNone, HasSame, HasTaken, IsInPlace, IsListed, IsOpened, day_of, entries_in, places_in}
use Rattle.des_queue.specs.declared.days.Days.{Days}
use Rattle.des_queue.specs.EventKey.{event_key}
use Rattle.des_queue.specs.Places.{Entry, Events, Held, IsPlaced, entry_at, events_at, in_key_order, key_there, waiting_cmp, waiting_key}
use Rattle.des_queue.proofs.Due.{last_greatest, sorted_front}
use Rattle.des_queue.proofs.Orders.{all_both, in_left, in_right, put_behind}
use Rattle.des_queue.proofs.Placed.{PlaceList, Placing, all_set, fit_at, joined, joined_same, placed_same}
use Rattle.des_queue.proofs.Places.{
  event_in,
  event_of,
  first_out,
  held_none,
  held_permuted,
  held_stays,
  inserted,
  of_order_in,
  order_permuted,
  ordered,
  permuted_in,
  stays,
}

in_map : {A C : Type 0} (f : A → C) (xs : List A) (x : A) → IsIn x xs → IsIn (f x) (map f xs)
in_map f [] x h = absurd h
in_map f (y ∷ ys) x (inl q) = inl (ap f q)
in_map f (y ∷ ys) x (inr h) = inr (in_map f ys x h)

module _ {B : Type 0} where
  -- the entries of places that have what they had
  entries_stay : (s t : Events B) (ps : List ℕ) → ((p : ℕ) → IsIn p ps → t p ≡ s p) → map (entry_at t) ps ≡ map (entry_at s) ps
  entries_stay s t [] f = refl
  entries_stay s t (p ∷ ps) f =
      let here : entry_at t p ≡ entry_at s p = λ i. record { key = record { 0 = key_there (f p (inl refl) i) }; place = p } in
      let rest = entries_stay s t ps (λ q h. f q (inr h)) in λ i. here i ∷ rest i

-- the places are listed, and have what they had
pub placed_stay : (P Q : Placing) (i : ℕ) (ls : List PlaceList) → ((j n : ℕ) → IsIn n (joined ls) → P j n → Q j n) → AllPlaced P i ls → AllPlaced Q i ls
placed_stay P Q i [] f all = tt
placed_stay P Q i (l ∷ ls) f all = (
  all_from (Q i) l.items (λ z h. f i z (in_left l.items (joined ls) z h) (all_in (P i) l.items all.0 z h)),
  placed_stay P Q (i + 1) ls (λ j n h. f j n (in_right l.items (joined ls) n h)) all.1,
)

placed_all : (P : Placing) (Q : ℕ → Type 0) (i : ℕ) (ls : List PlaceList) → ((j n : ℕ) → P j n → Q n) → AllPlaced P i ls → AllByRecursion Q (joined ls)
placed_all P Q i [] f all = tt
placed_all P Q i (l ∷ ls) f all =
    all_both Q l.items (joined ls) (all_from Q l.items (λ z h. f i z (all_in (P i) l.items all.0 z h))) (placed_all P Q (i + 1) ls f all.1)

pub all_mapped : {A C : Type 0} (P : C → Type 0) (f : A → C) (xs : List A) → AllByRecursion (λ x. P (f x)) xs → AllByRecursion P (map f xs)
all_mapped P f [] all = tt
all_mapped P f (x ∷ xs) all = (all.0, all_mapped P f xs all.1)

module _ {B : Type 0} where
  -- the entries of a list that is taken
  pub taken_entries : (s : Events B) (ps qs rest : List ℕ) (due : List Entry) → IsPermutation ps (qs ++ rest) → due ≡ map (entry_at s) qs
      → IsPermutation (map (entry_at s) ps) (due ++ map (entry_at s) rest)
  taken_entries s ps qs rest due p is =
      subst (λ l. IsPermutation (map (entry_at s) ps) (l ++ map (entry_at s) rest)) (sym is)
      (subst (λ l. IsPermutation (map (entry_at s) ps) l) (map-append (entry_at s) qs rest) (IsPermutation-map (entry_at s) ps (qs ++ rest) p))

  -- where the same events are at the same places, and in the lists
  pub same_places : (d : Days B) (r : Shelved B) (room : ℕ) → get r ≡ get d.events → AreDays d room → AreDays (record d { events = r }) room
  same_places d r room same_events days = record {
    placed = subst (λ (s : Events B). AllPlaced (IsListed s d.today d.latest) 0 d.lists.items) (sym same_events) days.placed;
    fit = days.fit;
  }

  -- a list has more room, and the same places
  pub kept_list : (d : Days B) (r : Shelved B) (at room : ℕ) (v l : PlaceList) → AreDays d room → get r ≡ get d.events → at < length d.lists.items
      → v ≡ slice_index_or d.lists.items at v → l.items ≡ v.items
      → let new : Days B = record d { lists = with_item d.lists at l; events = r } in AreDays new room × HasSame d new
  kept_list d r at room v l days same_events lt read items =
      let same : l.items ≡ (slice_index_or d.lists.items at v).items = ◌∙◌ {A = List ℕ} items (ap (λ (m : PlaceList). m.items) read) in (
        record {
          placed = placed_same (IsListed (get r) d.today d.latest) at d.lists.items v l lt same (same_places d r room same_events days).placed;
          fit = all_set (λ (m : PlaceList). length m.items ≤ room) d.lists.items at l days.fit
              (subst (λ (ps : List ℕ). length ps ≤ room) (sym items) (fit_at room at d.lists.items v v lt read days.fit));
        },
        record { today = refl; events = same_events; places = joined_same d.lists.items at v l same },
      )

  pub same_orderly : (due new : Vec Entry) (c d : Days B) → AreOrderly due c → new.items ≡ due.items → HasSame c d → AreDays d (vec_capacity new)
      → AreOrderly new d × (events_of new.items d ≡ events_of due.items c)
  same_orderly due new c d is entries same days =
      let all : new.items ++ entries_in d ≡ due.items ++ entries_in c = λ i. entries i ++ map (entry_at (same.events i)) (same.places i) in (
        record {
          held = subst (λ (x : Events B × List Entry). Held x.0 x.1) (λ i. (sym same.events i, sym all i)) is.held;
          days = days;
          opened = subst (λ (x : ℕ × List Entry). AllByRecursion (λ w. day_of (waiting_key w) ≤ x.0) x.1) (λ i. (sym same.today i, sym entries i)) is.opened;
          sorted = subst (IsSorted waiting_cmp) (sym entries) is.sorted;
        },
        λ i. in_key_order (events_at (same.events i) (all i)),
      )

  -- an event was put
  pub put_orderly : (due : Vec Entry) (c d : Days B) (e : Event B) (es : List (Event B)) → AreOrderly due c → events_of due.items c ≡ es
      → IsNewKey event_key e.key es → HasTaken c e d → AreDays d (vec_capacity due)
      → AreOrderly due d × (events_of due.items d ≡ put_in_order event_key e es)
  put_orderly due c d e es is shown new put days =
      let s = get c.events in let t = get d.events in let w = entry_at t put.place in
      let change = put.changed in
      let kept : (p : ℕ) → IsIn p (places_in c) → t p ≡ s p = λ p h. change.others p (λ q.
      subst (λ o. IsSomeAnd o (λ (x : Event B). x.key ≡ waiting_key (entry_at s p))) (ap s q ∙ put.free)
      (all_in (IsPlaced s) (due.items ++ entries_in c) is.held.placed (entry_at s p)
      (in_right due.items (entries_in c) (entry_at s p) (in_map (entry_at s) (places_in c) p h)))) in
      let more : IsPermutation (w ∷ entries_in c) (entries_in d) = subst (λ ws. IsPermutation (w ∷ ws) (entries_in d)) (entries_stay s t (places_in c) kept)
      (IsPermutation-map (entry_at t) (put.place ∷ places_in c) (places_in d) put.places) in
      let out = inserted s t (due.items ++ entries_in c) (due.items ++ entries_in d) es w e is.held shown new (ap key_there change.changed) put.free change
      (put_behind due.items (entries_in c) (entries_in d) w more) in (
        record {
          held = out.0;
          days = days;
          opened = subst (λ today. AllByRecursion (λ w. day_of (waiting_key w) ≤ today) due.items) (sym put.today) is.opened;
          sorted = is.sorted;
        },
        out.1,
      )

-- what has an earlier day has an earlier time
earlier : (a b : ℕ) → a / 1024 < b / 1024 → a < b
earlier a b h = omega (arith, h)

-- the heap order is by time first
first_by_time : (w v : Entry) → (waiting_key w).time < (waiting_key v).time → is_lt (waiting_cmp w v) ≡ false
first_by_time w v lt = by_cmp (key_cmp (waiting_key v) (waiting_key w)) refl
  where
    by_cmp : (r : Ordering) → key_cmp (waiting_key v) (waiting_key w) ≡ r → is_lt (ordering_then r (nat_cmp w.place v.place)) ≡ false
    by_cmp Less q = let b = compared (waiting_key v) (waiting_key w) Less q in absurd (omega (arith, lt, b.time))
    by_cmp Equal q = absurd (omega (arith, lt, ap (λ (k : Key). k.time) (compared (waiting_key v) (waiting_key w) Equal q)))
    by_cmp Greater q = refl

module _ {B : Type 0} where
  -- an entry of the opened days comes before those of later days
  days_after : (d : Days B) (w : Entry) (room : ℕ) → AreDays d room → day_of (waiting_key w) ≤ d.today → IsUpperBound waiting_cmp w (entries_in d)
  days_after d w room days le =
      all_mapped (λ v. is_lt (waiting_cmp w v) ≡ false) (entry_at (get d.events)) (places_in d)
      (placed_all (IsListed (get d.events) d.today d.latest) (λ n. is_lt (waiting_cmp w (entry_at (get d.events) n)) ≡ false) 0 d.lists.items
      (λ j n listed. first_by_time w (entry_at (get d.events) n) (time_by j (get d.events n) listed)) days.placed)
    where
      time_by : (j : ℕ) (o : Option (Event B)) → IsSomeAnd o (IsInPlace d.today d.latest j) → (waiting_key w).time < (key_there o).time
      time_by j None h = absurd h
      time_by j (Some x) is = earlier (waiting_key w).time x.key.time (omega (arith, le, is.later))

-- the entry is the first of all
pub record IsFirst (all rest : List Entry) (w : Entry) : Type 0 where
  pub moved : IsPermutation all (w ∷ rest)
  pub bound : IsUpperBound waiting_cmp w rest

module _ {B : Type 0} where
  opened_front : (d : Days B) (ws : List Entry) (w : Entry) → IsOpened d (ws ++ w ∷ []) → IsOpened d ws × (day_of (waiting_key w) ≤ d.today)
  opened_front d [] w all = (tt, all.0)
  opened_front d (x ∷ xs) w all = let rest = opened_front d xs w all.1 in ((all.0, rest.0), rest.1)

  -- the last of the due entries is the first of all
  pub first_due : (due : Vec Entry) (rest : List Entry) (d : Days B) (w : Entry) → AreOrderly due d → due.items ≡ rest ++ w ∷ []
      → IsFirst (due.items ++ entries_in d) (rest ++ entries_in d) w
  first_due due rest d w is last =
      let days = entries_in d in record {
        moved = subst (λ l. IsPermutation (l ++ days) (w ∷ (rest ++ days))) (sym last)
            (IsPermutation-append_left days (rest ++ w ∷ []) (w ∷ rest) (IsPermutation-to_front rest w));
        bound = all_both (λ v. is_lt (waiting_cmp w v) ≡ false) rest days (last_greatest rest w (subst (IsSorted waiting_cmp) last is.sorted))
            (days_after d w (vec_capacity due) is.days (opened_front d rest w (subst (IsOpened d) last is.opened)).1);
      }

  -- the last of the due entries is taken: what is known of its event, and of those of the other entries
  pub record IsTaken (due new : Vec Entry) (d : Days B) (w : Entry) : Type 0 where
    pub event : Event B
    pub there : get d.events w.place ≡ Some event
    pub rest : AreOrderly new d
    pub first : events_of due.items d ≡ event ∷ events_of new.items d
    pub other : IsNewKey event_key event.key (events_of new.items d)

  pub taken_due : (due new : Vec Entry) (d : Days B) (w : Entry) → AreOrderly due d → due.items ≡ new.items ++ w ∷ [] → vec_capacity new ≡ vec_capacity due
      → IsTaken due new d w
  taken_due due new d w is last room =
      let s = get d.events in let ws = due.items ++ entries_in d in let rest = new.items ++ entries_in d in
      let first = first_due due new.items d w is last in
      let own = event_of s w (held_permuted s ws (w ∷ rest) first.moved is.held).placed.0 in let e = own.0 in
      let out = first_out s ws rest w e is.held first.moved first.bound own.1 in
      let up : InKeyOrder event_key (e ∷ events_of new.items d) = subst (InKeyOrder event_key) out.1 (ordered s ws is.held) in record {
        event = e;
        there = own.1;
        rest = record {
          held = out.0;
          days = subst (λ r. AreDays d r) (sym room) is.days;
          opened = (opened_front d new.items w (subst (IsOpened d) last is.opened)).0;
          sorted = sorted_front new.items w (subst (IsSorted waiting_cmp) last is.sorted);
        };
        first = out.1;
        other = all_from (λ (x : Event B). event_key x ≢ e.key) (events_of new.items d)
            (λ x h q. before_not_same e.key x.key (all_in (λ (y : Event B). IsBefore e.key y.key) (events_of new.items d) up.0 x h) (sym q));
      }

  -- an event is removed that no entry has
  pub freed_orderly : (due : Vec Entry) (d : Days B) (t : Shelved B) (p : ℕ) (e : Event B) → AreOrderly due d → get d.events p ≡ Some e
      → IsNewKey event_key e.key (events_of due.items d) → ChangesAt (get d.events) (get t) p None
      → let new : Days B = record d { events = t } in AreOrderly due new × (events_of due.items new ≡ events_of due.items d)
  freed_orderly due d t p e is there other change =
      let s = get d.events in let all = due.items ++ entries_in d in
      let kept : (v : Entry) → IsIn v all → get t v.place ≡ s v.place = λ v h. change.others v.place (λ q.
      all_in (λ (x : Event B). event_key x ≢ e.key) (events_of due.items d) other e
      (of_order_in (events_at s all) e (event_in s all v e h (ap s q ∙ there))) refl) in
      let stay : (n : ℕ) → IsIn n (places_in d) → get t n ≡ s n = λ n h. kept (entry_at s n)
      (in_right due.items (entries_in d) (entry_at s n) (in_map (entry_at s) (places_in d) n h)) in
      let same = entries_stay s (get t) (places_in d) stay in (
        record {
          held = subst (λ l. Held (get t) (due.items ++ l)) (sym same) (held_stays s (get t) all kept is.held);
          days = record {
            placed = placed_stay (IsListed s d.today d.latest) (IsListed (get t) d.today d.latest) 0 d.lists.items
                (λ j n h listed. subst (λ o. IsSomeAnd o (IsInPlace d.today d.latest j)) (sym (stay n h)) listed) is.days.placed;
            fit = is.days.fit;
          };
          opened = is.opened;
          sorted = is.sorted;
        },
        ap (λ l. in_key_order (events_at (get t) (due.items ++ l))) same ∙ ap in_key_order (stays s (get t) all kept),
      )

  -- an empty list was filled with the entries of a day, and sorted
  pub filled_orderly : (due mid new : Vec Entry) (c d : Days B) → AreOrderly due c → due.items ≡ [] → d.events ≡ c.events
      → IsPermutation (entries_in c) (mid.items ++ entries_in d) → IsPermutation mid.items new.items → IsOpened d mid.items → AreDays d (vec_capacity mid)
      → vec_capacity new ≡ vec_capacity mid → IsSorted waiting_cmp new.items
      → AreOrderly new d × (events_of new.items d ≡ events_of due.items c)
  filled_orderly due mid new c d is none events moved sorted opened days room up =
      let s = get c.events in let rest = entries_in d in
      let p : IsPermutation (due.items ++ entries_in c) (new.items ++ rest) = subst (λ l. IsPermutation (l ++ entries_in c) (new.items ++ rest)) (sym none)
      (IsPermutation-trans (entries_in c) (mid.items ++ rest) (new.items ++ rest) moved (IsPermutation-append_left rest mid.items new.items sorted)) in (
        record {
          held = subst (λ (x : Shelved B). Held (get x) (new.items ++ rest)) (sym events) (held_permuted s _ (new.items ++ rest) p is.held);
          days = subst (λ r. AreDays d r) (sym room) days;
          opened = all_from (λ w. day_of (waiting_key w) ≤ d.today) new.items (λ z h.
              all_in (λ w. day_of (waiting_key w) ≤ d.today) mid.items opened z
              (permuted_in new.items mid.items (IsPermutation-sym mid.items new.items sorted) z h));
          sorted = up;
        },
        ap (λ (x : Shelved B). in_key_order (events_at (get x) (new.items ++ rest))) events ∙ sym (order_permuted s _ (new.items ++ rest) p is.held),
      )

  -- without entries there are no events
  pub none_orderly : (due : Vec Entry) (d : Days B) → due.items ≡ [] → HaveNone d → AreDays d (vec_capacity due)
      → AreOrderly due d × (events_of due.items d ≡ [])
  none_orderly due d empty none days =
      let s = get d.events in
      let all : due.items ++ entries_in d ≡ [] = λ i. empty i ++ map (entry_at s) (none i) in (
        record {
          held = subst (Held s) (sym all) (held_none s);
          days = days;
          opened = subst (IsOpened d) (sym empty) tt;
          sorted = subst (IsSorted waiting_cmp) (sym empty) (λ k x l h. absurd (omega (arith, h)));
        },
        ap (λ ws. in_key_order (events_at s ws)) all,
      )

-- a list that has a last element
pub last_split : {A : Type 0} (es : List A) (e : A) → slice_get es (length es - 1) ≡ Some e → (due : List A) × (es ≡ due ++ e ∷ [])
last_split [] e h = absurd cc
last_split {A} (x ∷ []) e h = let same : x ≡ e = cc in ([], ap (λ (y : A). y ∷ []) same)
last_split (x ∷ (y ∷ ys)) e h =
    let r = last_split (y ∷ ys) e (subst (λ n. slice_get (x ∷ (y ∷ ys)) n ≡ Some e) (less (length ys)) h) in
    (x ∷ r.0, ap (λ l. x ∷ l) r.1)
  where
    less : (n : ℕ) → suc (suc n) - 1 ≡ suc (suc n - 1)
    less n = omega arith
