-- What parts leave is put at the places of the parts, and taken out in their order.
use Rattle.std.proofs.Common.{◌≡◌, ◌∙◌, ◌≢◌, ◌⊎◌, inl, inr, ℕ, zero, suc, ◌+◌, ◌<◌, ◌≤◌, List, [], ◌∷◌, length, slice_index_or, slice_set, Option, None, Some, refl, sym, ap, subst, ⊎_elim, cond, eqb, eq-eqb, ne_eqb, arith}
use Rattle.std.specs.Prelude.{All}
use Rattle.std.specs.List.{Contains}
use Rattle.std.proofs.lemmas.List.Sums.{sum_by-cons}
use Rattle.std.proofs.Math.Decide.{ℕ_discrete}
use Rattle.des_event.proofs.Members.{contains_cons, contains_none}
use Rattle.des_model.proofs.WindowCourse.{sum_to}
use Rattle.des_parts.specs.declared.part_run.Done.{Done}
use Rattle.des_parts.specs.declared.world.World.{World}
use Rattle.des_parts.specs.Exchanges.{AreDone, AreDoneFrom, events_in}
use Rattle.des_parts.specs.PartRuns.{IsDone}
use Rattle.des_parts.specs.Ordering.{AreInOrder, AreInOrderFrom, AreOf, ArePartsDone, HasEachOnce, IsFilled, IsResult, IsToCome, count_of, parts_of}
use Rattle.des_parts.specs.Slots.{in_slots}
use Rattle.des_parts.proofs.Exchanged.{events_at, events_sum}
use Rattle.des_model.specs.Machine.{Machine}

pub count_of-cons : (x y : ℕ) (ys : List ℕ) → count_of x (y ∷ ys) ≡ cond (eqb y x) 1 0 + count_of x ys
count_of-cons x y ys = sum_by-cons (λ n. cond (eqb n x) 1 0) y ys

module _ {State Body Piece : Type 0} where
  -- a part that is counted is to come
  to_come : (part : ℕ) (dones : List (Done State Body Piece)) → 0 < count_of part (parts_of dones) → IsToCome part dones
  to_come part [] some_times = absurd (omega arith)
  to_come part (d ∷ ds) some_times = at_head (ℕ_discrete d.part part) (to_come part ds)
    where
      at_head : Dec (d.part ≡ part) → (0 < count_of part (parts_of ds) → IsToCome part ds) → IsToCome part (d ∷ ds)
      at_head (yes same) rest = inl same
      at_head (no apart) rest =
          let other : ◌≡◌ {A = ℕ} (cond (eqb d.part part) 1 0) 0 = ap (λ b. cond b 1 0) (ne_eqb d.part part apart) in
          inr (rest (omega (arith, count_of-cons part d.part (parts_of ds))))

  pub all_to_come : (parts : ℕ) (dones : List (Done State Body Piece)) → HasEachOnce parts (parts_of dones) → (k : ℕ) → k < parts → IsToCome k dones
  all_to_come parts dones once k below = to_come k dones (omega (arith, once.each_once k below))

  -- each of the results is one of them
  are_of : (dones : List (Done State Body Piece)) (parts : ℕ) (rest : List (Done State Body Piece))
      → ((k : ℕ) (x : Done State Body Piece) → k < length rest → Contains dones (slice_index_or rest k x))
      → All (λ x. x < parts) (parts_of rest) → AreOf dones parts rest
  are_of dones parts [] inside below = tt
  are_of dones parts (d ∷ ds) inside below = (
    (below 0 0 (omega arith), inside 0 d (omega arith)),
    are_of dones parts ds
        (λ k x in_range. inside (suc k) x (omega arith)) (λ k x in_range. below (suc k) x (omega arith)),
  )

  same_default : (dones : List (Done State Body Piece)) (k : ℕ) (x y : Done State Body Piece) → k < length dones
      → slice_index_or dones k x ≡ slice_index_or dones k y
  same_default [] k x y in_range = absurd (omega arith)
  same_default (d ∷ ds) zero x y in_range = refl
  same_default (d ∷ ds) (suc k) x y in_range = same_default ds k x y (omega arith)

  pub all_are_of : (parts : ℕ) (dones : List (Done State Body Piece)) → HasEachOnce parts (parts_of dones) → AreOf dones parts dones
  all_are_of parts dones once = are_of dones parts dones
      (λ k x in_range. (k, in_range, same_default dones k (slice_index_or dones k x) x in_range)) once.no_other

  -- what was put at a place, and what is at the others
  set_here : (slots : List (Option (Done State Body Piece))) (i : ℕ) (s : Option (Done State Body Piece)) → i < length slots
      → slice_index_or (slice_set slots i s) i None ≡ s
  set_here [] i s in_range = absurd (omega arith)
  set_here (x ∷ xs) zero s in_range = refl
  set_here (x ∷ xs) (suc i) s in_range = set_here xs i s (omega arith)

  set_there : (slots : List (Option (Done State Body Piece))) (i j : ℕ) (s : Option (Done State Body Piece)) → j ≢ i
      → slice_index_or (slice_set slots i s) j None ≡ slice_index_or slots j None
  set_there [] i j s apart = refl
  set_there (x ∷ xs) zero zero s apart = absurd (apart refl)
  set_there (x ∷ xs) zero (suc j) s apart = refl
  set_there (x ∷ xs) (suc i) zero s apart = refl
  set_there (x ∷ xs) (suc i) (suc j) s apart = set_there xs i j s (λ e. apart (ap suc e))

  pub long_set : (slots : List (Option (Done State Body Piece))) (i : ℕ) (s : Option (Done State Body Piece)) → length (slice_set slots i s) ≡ length slots
  long_set [] i s = refl
  long_set (x ∷ xs) zero s = refl
  long_set (x ∷ xs) (suc i) s = ap suc (long_set xs i s)

  -- one result was put at its place
  pub one_placed : (dones : List (Done State Body Piece)) (slots : List (Option (Done State Body Piece))) (d : Done State Body Piece)
      (rest : List (Done State Body Piece)) (k : ℕ) → d.part < length slots → Contains dones d
      → IsFilled dones k (slice_index_or slots k None) ⊎ IsToCome k (d ∷ rest)
      → IsFilled dones k (slice_index_or (slice_set slots d.part (Some d)) k None) ⊎ IsToCome k rest
  one_placed dones slots d rest k in_range among before = by_place (ℕ_discrete k d.part)
    where
      there : k ≢ d.part → IsFilled dones k (slice_index_or slots k None) ⊎ IsToCome k (d ∷ rest)
          → IsFilled dones k (slice_index_or (slice_set slots d.part (Some d)) k None) ⊎ IsToCome k rest
      there apart (inl filled) = inl (subst (IsFilled dones k) (sym (set_there slots d.part k (Some d) apart)) filled)
      there apart (inr (inl same)) = absurd (apart (sym same))
      there apart (inr (inr later)) = inr later

      by_place : Dec (k ≡ d.part) → IsFilled dones k (slice_index_or (slice_set slots d.part (Some d)) k None) ⊎ IsToCome k rest
      by_place (yes same) = inl (subst (λ n. IsFilled dones k (slice_index_or (slice_set slots d.part (Some d)) n None)) (sym same)
          (subst (IsFilled dones k) (sym (set_here slots d.part (Some d) in_range)) (sym same, among)))
      by_place (no apart) = there apart before

  -- if none is to come, each place is filled
  pub none_to_come : (dones : List (Done State Body Piece)) (slot : Option (Done State Body Piece)) (k : ℕ)
      → IsFilled dones k slot ⊎ IsToCome {State = State} {Body = Body} {Piece = Piece} k [] → IsFilled dones k slot
  none_to_come dones slot k (inl filled) = filled
  none_to_come dones slot k (inr none) = absurd none

  -- filled places hold one for each part
  filled_from : (dones : List (Done State Body Piece)) (from : ℕ) (slots : List (Option (Done State Body Piece)))
      → ((k : ℕ) → k < length slots → IsFilled dones (from + k) (slice_index_or slots k None))
      → AreInOrderFrom dones from (in_slots slots) × (length (in_slots slots) ≡ length slots)
  filled_from dones from [] filled = (tt, refl)
  filled_from dones from (None ∷ slots) filled = absurd (filled 0 (omega arith))
  filled_from dones from (Some d ∷ slots) filled =
      let rest = filled_from dones (suc from) slots (λ k in_range. subst (λ n. IsFilled dones n (slice_index_or slots k None)) (omega arith)
      (filled (suc k) (omega arith))) in
      let here = filled 0 (omega arith) in
      (((omega (arith, here.0), here.1), rest.0), ap suc rest.1)

  pub filled_in_order : (dones : List (Done State Body Piece)) (parts : ℕ) (slots : List (Option (Done State Body Piece))) → length slots ≡ parts
      → ((k : ℕ) → k < parts → IsFilled dones k (slice_index_or slots k None))
      → AreInOrderFrom dones 0 (in_slots slots) × (length (in_slots slots) ≡ length slots)
  filled_in_order dones parts slots long filled = filled_from dones 0 slots
      (λ k in_range. subst (λ n. IsFilled dones n (slice_index_or slots k None)) (omega arith) (filled k (omega (arith, long))))

module _ {State Body Piece : Type 0} where
  -- each of the results of the parts, in their order, is what its part leaves
  pub results_in_order : (m : Machine State Body Piece) (Known : Piece → Type 0) (w : World State Body) (horizon part : ℕ)
      (dones list : List (Done State Body Piece)) → All (IsResult m Known w horizon) dones
      → AreInOrderFrom dones part list → AreDoneFrom m Known w horizon part list
  results_in_order m Known w horizon part dones [] all order = tt
  results_in_order m Known w horizon part dones (d ∷ list) all order =
      let among = order.0.1 in
      let is : IsResult m Known w horizon d = subst (IsResult m Known w horizon) among.2 (all among.0 d among.1) in
      (subst (λ n. IsDone m Known w horizon n d) order.0.0 is, results_in_order m Known w horizon (suc part) dones list all order.1)

  pub parts_done : (m : Machine State Body Piece) (Known : Piece → Type 0) (w : World State Body) (horizon : ℕ)
      (dones list : List (Done State Body Piece)) → ArePartsDone m Known w horizon dones
      → AreInOrder dones w.division.parts list → AreDone m Known w horizon list
  parts_done m Known w horizon dones list are order = record {
    time = are.time;
    opening = are.opening;
    long = order.long;
    each = results_in_order m Known w horizon 0 dones list are.each order.each;
  }

module _ {State Body Piece : Type 0} where
  -- the number of events of a part, in results in any order
  abbrev events_of : ℕ → List (Done State Body Piece) → ℕ
  events_of part [] = 0
  events_of part (d ∷ ds) = cond (eqb d.part part) d.events 0 + events_of part ds

  -- a part that is not counted has no events
  none_of : (part : ℕ) (dones : List (Done State Body Piece)) → count_of part (parts_of dones) ≡ 0 → events_of part dones ≡ 0
  none_of part [] none = refl
  none_of part (d ∷ ds) none = at_head (ℕ_discrete d.part part) (none_of part ds)
    where
      at_head : Dec (d.part ≡ part) → (count_of part (parts_of ds) ≡ 0 → events_of part ds ≡ 0) → cond (eqb d.part part) d.events 0 + events_of part ds ≡ 0
      at_head (yes same) rest =
          let here : ◌≡◌ {A = ℕ} (cond (eqb d.part part) 1 0) 1 = ap (λ b. cond b 1 0) (eq-eqb d.part part same) in
          absurd (omega (arith, none, count_of-cons part d.part (parts_of ds), here))
      at_head (no apart) rest =
          let count : ◌≡◌ {A = ℕ} (cond (eqb d.part part) 1 0) 0 = ap (λ b. cond b 1 0) (ne_eqb d.part part apart) in
          let here : ◌≡◌ {A = ℕ} (cond (eqb d.part part) d.events 0) 0 = ap (λ b. cond b d.events 0) (ne_eqb d.part part apart) in
          omega (arith, here, rest (omega (arith, none, count_of-cons part d.part (parts_of ds), count)))

  -- a part of one of the results is counted
  counted : (part : ℕ) (dones : List (Done State Body Piece)) (d : Done State Body Piece) → d.part ≡ part → Contains dones d
      → 0 < count_of part (parts_of dones)
  counted part [] d is among = absurd (contains_none d among)
  counted part (x ∷ xs) d is among = ⊎_elim
      (λ e. let here : ◌≡◌ {A = ℕ} (cond (eqb x.part part) 1 0) 1 = ap (λ b. cond b 1 0)
      (eq-eqb x.part part (ap (λ (z : Done State Body Piece). z.part) e ∙ is))
      in omega (arith, here, count_of-cons part x.part (parts_of xs)))
      (λ later. omega (arith, counted part xs d is later, count_of-cons part x.part (parts_of xs)))
      (contains_cons d x xs among)

  -- a part that is counted once has the events of its result
  one_of : (part : ℕ) (dones : List (Done State Body Piece)) (d : Done State Body Piece) → d.part ≡ part → Contains dones d
      → count_of part (parts_of dones) ≡ 1 → events_of part dones ≡ d.events
  one_of part [] d is among once = absurd (contains_none d among)
  one_of part (x ∷ xs) d is among once = at_head (ℕ_discrete x.part part) (contains_cons d x xs among) (one_of part xs d is)
    where
      at_head : Dec (x.part ≡ part) → (x ≡ d) ⊎ Contains xs d → (Contains xs d → count_of part (parts_of xs) ≡ 1 → events_of part xs ≡ d.events)
          → cond (eqb x.part part) x.events 0 + events_of part xs ≡ d.events
      at_head (yes same) (inl e) rest =
          let count : ◌≡◌ {A = ℕ} (cond (eqb x.part part) 1 0) 1 = ap (λ b. cond b 1 0) (eq-eqb x.part part same) in
          let here : ◌≡◌ {A = ℕ} (cond (eqb x.part part) x.events 0) x.events = ap (λ b. cond b x.events 0) (eq-eqb x.part part same) in
          let none : count_of part (parts_of xs) ≡ 0 = omega (arith, once, count_of-cons part x.part (parts_of xs), count) in
          omega (arith, here, none_of part xs none, ap (λ (z : Done State Body Piece). z.events) e)
      at_head (yes same) (inr later) rest =
          let count : ◌≡◌ {A = ℕ} (cond (eqb x.part part) 1 0) 1 = ap (λ b. cond b 1 0) (eq-eqb x.part part same) in
          absurd (omega (arith, once, count_of-cons part x.part (parts_of xs), count, counted part xs d is later))
      at_head (no apart) (inl e) rest = absurd (apart (ap (λ (z : Done State Body Piece). z.part) e ∙ is))
      at_head (no apart) (inr later) rest =
          let count : ◌≡◌ {A = ℕ} (cond (eqb x.part part) 1 0) 0 = ap (λ b. cond b 1 0) (ne_eqb x.part part apart) in
          let here : ◌≡◌ {A = ℕ} (cond (eqb x.part part) x.events 0) 0 = ap (λ b. cond b x.events 0) (ne_eqb x.part part apart) in
          omega (arith, here, rest later (omega (arith, once, count_of-cons part x.part (parts_of xs), count)))

-- sums of numbers, one of each part
sum_same : (f g : ℕ → ℕ) (n : ℕ) → ((k : ℕ) → k < n → f k ≡ g k) → sum_to f n ≡ sum_to g n
sum_same f g zero each = refl
sum_same f g (suc n) each = omega (arith, each n (omega arith), sum_same f g n (λ k l. each k (omega arith)))

sum_none : (n : ℕ) → sum_to (λ k. 0) n ≡ 0
sum_none zero = refl
sum_none (suc n) = omega (arith, sum_none n)

sum_plus : (f g : ℕ → ℕ) (n : ℕ) → sum_to (λ k. f k + g k) n ≡ sum_to f n + sum_to g n
sum_plus f g zero = omega arith
sum_plus f g (suc n) = omega (arith, sum_plus f g n)

sum_past : (part amount n : ℕ) → n ≤ part → sum_to (λ k. cond (eqb part k) amount 0) n ≡ 0
sum_past part amount zero past = refl
sum_past part amount (suc n) past =
    let here : ◌≡◌ {A = ℕ} (cond (eqb part n) amount 0) 0 = ap (λ b. cond b amount 0) (ne_eqb part n (λ e. absurd (omega (arith, e, past)))) in
    omega (arith, here, sum_past part amount n (omega arith))

sum_one : (part amount n : ℕ) → part < n → sum_to (λ k. cond (eqb part k) amount 0) n ≡ amount
sum_one part amount zero below = absurd (omega arith)
sum_one part amount (suc n) below = at_last (ℕ_discrete part n) (sum_one part amount n)
  where
    at_last : Dec (part ≡ n) → (part < n → sum_to (λ k. cond (eqb part k) amount 0) n ≡ amount)
        → cond (eqb part n) amount 0 + sum_to (λ k. cond (eqb part k) amount 0) n ≡ amount
    at_last (yes same) rest =
        let here : ◌≡◌ {A = ℕ} (cond (eqb part n) amount 0) amount = ap (λ b. cond b amount 0) (eq-eqb part n same) in
        omega (arith, here, sum_past part amount n (omega (arith, same)))
    at_last (no apart) rest =
        let here : ◌≡◌ {A = ℕ} (cond (eqb part n) amount 0) 0 = ap (λ b. cond b amount 0) (ne_eqb part n apart) in
        omega (arith, here, rest (omega (arith, apart)))

module _ {State Body Piece : Type 0} where
  -- all events, by their parts
  events_by_part : (parts : ℕ) (dones : List (Done State Body Piece)) → All (λ x. x < parts) (parts_of dones)
      → events_in dones ≡ sum_to (λ k. events_of k dones) parts
  events_by_part parts [] below = sym (sum_none parts)
  events_by_part parts (d ∷ ds) below =
      ap (λ z. d.events + z) (events_by_part parts ds (λ k x l. below (suc k) x (omega arith)))
      ∙ ap (λ z. z + sum_to (λ k. events_of k ds) parts) (sym (sum_one d.part d.events parts (below 0 0 (omega arith))))
      ∙ sym (sum_plus (λ k. cond (eqb d.part k) d.events 0) (λ k. events_of k ds) parts)

  -- if the results are in order, the one at a place has the events of its part
  events_there : (parts : ℕ) (dones : List (Done State Body Piece)) → HasEachOnce parts (parts_of dones)
      → (from : ℕ) (list : List (Done State Body Piece)) → AreInOrderFrom dones from list
      → (q k : ℕ) → q < length list → from + q ≡ k → k < parts
      → events_at list q ≡ events_of k dones
  events_there parts dones once from [] order q k l at below = absurd (omega arith)
  events_there parts dones once from (d ∷ list) order zero k l at below = sym
      (one_of k dones d (omega (arith, order.0.0, at)) order.0.1 (once.each_once k below))
  events_there parts dones once from (d ∷ list) order (suc q) k l at below = events_there parts dones once (suc from) list order.1 q k (omega arith)
      (omega (arith, at)) below

  -- in the order of the parts they have as many events
  pub events_in_order : (parts : ℕ) (dones list : List (Done State Body Piece)) → HasEachOnce parts (parts_of dones) → AreInOrder dones parts list
      → events_in list ≡ events_in dones
  events_in_order parts dones list once order =
      events_sum list
      ∙ sum_same (events_at list) (λ k. events_of k dones) (length list)
      (λ k l. events_there parts dones once 0 list order.each k k l (omega arith) (omega (arith, l, order.long)))
      ∙ ap (sum_to (λ k. events_of k dones)) order.long
      ∙ sym (events_by_part parts dones once.no_other)
