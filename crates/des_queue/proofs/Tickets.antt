-- The entries of a window's heap, and the records at their tickets.
use Rattle.std.proofs.Common.{◌≡◌, ◌≢◌, ℕ, zero, suc, List, [], ◌∷◌, ◌++◌, length, Some, None, slice_get, refl, sym, ap, ◌∙◌, subst}
use Rattle.std.specs.List.Sorted.{IsPermutation}
use Rattle.std.specs.BinaryHeap.{IsHeap, IsUpperBound, heap_items}
use Rattle.des_event.specs.declared.event.Event.{Event}
use Rattle.des_queue.specs.Places.{Held, Entry, waiting_cmp, events_at, in_key_order}
use Rattle.des_queue.specs.Queue.{queue}
use Rattle.des_queue.specs.Ticketed.{IsTicketedHeap, queue_of}
use Rattle.des_queue.specs.declared.window_queue.WindowQueue.TheInside.{Inside}
use Rattle.des_queue.specs.Shelf.{ChangesAt}
use Rattle.des_queue.proofs.Places.{event_of, first_out, held_permuted}

module _ {B : Type 0} where
  past_end : (rs : List (Event B)) → slice_get rs (length rs) ≡ None
  past_end [] = refl
  past_end (r ∷ rs) = past_end rs

  at_end : (rs : List (Event B)) (e : Event B) → slice_get (rs ++ e ∷ []) (length rs) ≡ Some e
  at_end [] e = refl
  at_end (r ∷ rs) e = at_end rs e

  elsewhere : (rs : List (Event B)) (e : Event B) (i : ℕ) → i ≢ length rs → slice_get (rs ++ e ∷ []) i ≡ slice_get rs i
  elsewhere [] e zero ne = absurd (ne refl)
  elsewhere [] e (suc i) ne = refl
  elsewhere (r ∷ rs) e zero ne = refl
  elsewhere (r ∷ rs) e (suc i) ne = elsewhere rs e i (λ q. ne (ap suc q))

  -- a record is added at the end
  pub free_at : (rs : List (Event B)) (place : ℕ) → place ≡ length rs → slice_get rs place ≡ None
  free_at rs place last = ap (slice_get rs) last ∙ past_end rs

  pub changes_at : (rs : List (Event B)) (e : Event B) (place : ℕ) → place ≡ length rs → ChangesAt (slice_get rs) (slice_get (rs ++ e ∷ [])) place (Some e)
  changes_at rs e place last = record {
    changed = ap (slice_get (rs ++ e ∷ [])) last ∙ at_end rs e;
    others = λ other ne. elsewhere rs e other (λ q. ne (q ∙ sym last));
  }

  -- the fields of a window's queue
  pub held_by : (q : Inside B) → IsTicketedHeap q → Held (slice_get q.records.items) (heap_items q.heap)
  held_by q is = record { placed = is.placed; distinct = is.distinct }

  pub ticketed : (q : Inside B) (rs : List (Event B)) (ws : List Entry) → q.records.items ≡ rs → heap_items q.heap ≡ ws
      → IsHeap waiting_cmp (heap_items q.heap) → Held (slice_get rs) ws → IsTicketedHeap q
  ticketed q rs ws records entries heap held =
      let here : Held (slice_get q.records.items) (heap_items q.heap) = subst (λ (p : List (Event B) × List Entry). Held (slice_get p.0) p.1)
      (λ i. (sym records i, sym entries i)) held in
      record { ordered = heap; placed = here.placed; distinct = here.distinct }

  pub seen_as : (q : Inside B) (rs : List (Event B)) (ws : List Entry) (es : List (Event B)) (n : ℕ) → q.records.items ≡ rs → heap_items q.heap ≡ ws
      → in_key_order (events_at (slice_get rs) ws) ≡ es → length rs ≡ n → queue_of q ≡ queue es n
  seen_as q rs ws es n records entries shown long =
      let events : in_key_order (events_at (slice_get q.records.items) (heap_items q.heap))
      ≡ es = (λ i. in_key_order (events_at (slice_get (records i)) (entries i))) ∙ shown in
      let pushes : length q.records.items ≡ n = ap length records ∙ long in
      λ i. queue (events i) (pushes i)

  -- queues of the same entries and records have the same view
  pub seen_same : (p q : Inside B) → p.records.items ≡ q.records.items → heap_items p.heap ≡ heap_items q.heap → queue_of p ≡ queue_of q
  seen_same p q records entries = λ i. queue (in_key_order (events_at (slice_get (records i)) (entries i))) (length (records i))

  -- the first entry has a record, whose event comes before all others
  pub record Popped (q : Inside B) (w : Entry) (rest : List Entry) : Type 0 where
    pub event : Event B
    pub there : slice_get q.records.items w.place ≡ Some event
    pub held : Held (slice_get q.records.items) rest
    pub front : in_key_order (events_at (slice_get q.records.items) (heap_items q.heap)) ≡ event ∷ in_key_order (events_at (slice_get q.records.items) rest)

  pub popped : (q : Inside B) (w : Entry) (rest : List Entry) → IsTicketedHeap q → IsPermutation (heap_items q.heap) (w ∷ rest)
      → IsUpperBound waiting_cmp w rest → Popped q w rest
  popped q w rest is p up =
      let at = slice_get q.records.items in let ws = heap_items q.heap in let held = held_by q is in
      let own = event_of at w (held_permuted at ws (w ∷ rest) p held).placed.0 in
      let out = first_out at ws rest w own.0 held p up own.1 in
      record { event = own.0; there = own.1; held = out.0; front = out.1 }
