-- The window after one step of a worker.
use Rattle.std.proofs.Common.{◌≡◌, ◌≢◌, ℕ, zero, suc, ◌+◌, ◌-◌, ◌*◌, ◌<◌, ◌≤◌, true, false, List, [], ◌∷◌, Option, None, Some, length, get_or, set, slice_get, refl, ap, sym, ◌∙◌, subst, inl, inr, ◌⊎◌, ⊎_elim, arith, lt-ltb, ltb-true}
use Rattle.std.specs.Prelude.{nat_lt, ◌||◌, is_some, if◌then◌else◌}
use Rattle.std.specs.List.{cons_option}
use Rattle.std.proofs.Math.ListN.{length-set}
use Rattle.std.proofs.lemmas.Bool.{cases_eq}
use Rattle.std.proofs.lemmas.List.Sums.{sum_by-set}
use Rattle.des_event.specs.declared.event.Event.{Event}
use Rattle.des_event.specs.declared.key.Key.{Key}
use Rattle.des_model.specs.Histories.{history, least}
use Rattle.des_model.specs.PartRuns.{part_run}
use Rattle.des_model.specs.Windows.{Part, Step, Window, after_option, after_pick, after_step, next_step, put, running, waiting}
use Rattle.des_model.specs.Windows.Step.{Drew, Ran, Sealed}
use Rattle.des_model.proofs.Steps.{put_other, put_same}
use Rattle.des_model.proofs.Turns.{held_pick}
use Rattle.des_queue.specs.Queue.{Queue}
use Rattle.des_parts.specs.declared.part_run.Done.{Done}
use Rattle.des_parts.specs.declared.part_run.PartRun.{PartRun}
use Rattle.des_picks.specs.declared.worker.Worker.{Worker}
use Rattle.des_parts.specs.declared.world.World.{World}
use Rattle.des_parts.specs.PartRuns.{IsDone, IsNextKey, IsRunningAt, ran_by}
use Rattle.des_picks.specs.Picked.{IsHeldBy, IsPartOf, IsPickedWith, can_go_with, has_part, potential_with, weight, weight_of}
use Rattle.des_parts.specs.Worlds.{IsWorldOf}
use Rattle.des_picks.specs.Workers.{HasDrawn, HasRunOne, IsBusy, IsIdle, MayGoOn, MayGoOnWith}
use Rattle.des_model.specs.Machine.{Machine}

-- what is at a place of a list in which one place was written
pub set_at : {A : Type 0} (xs : List A) (i j : ℕ) (v y : A) → slice_get (set xs i v) j ≡ Some y → ((j ≡ i) × (y ≡ v)) ⊎ ((j ≢ i) × (slice_get xs j ≡ Some y))
set_at [] i j v y e = absurd cc
set_at (x ∷ xs) zero zero v y e = let same : v ≡ y = cc in inl (refl, sym same)
set_at (x ∷ xs) zero (suc j) v y e = inr (λ s. absurd (omega (arith, s)), e)
set_at (x ∷ xs) (suc i) zero v y e = inr (λ s. absurd (omega (arith, s)), e)
set_at (x ∷ xs) (suc i) (suc j) v y e = ⊎_elim (λ h. inl (ap suc h.0, h.1)) (λ h. inr (λ s. h.0 (omega (arith, s)), h.1)) (set_at xs i j v y e)

pub get_inside : {A : Type 0} (xs : List A) (i : ℕ) (y : A) → slice_get xs i ≡ Some y → i < length xs
get_inside [] i y e = absurd cc
get_inside (x ∷ xs) zero y e = omega arith
get_inside (x ∷ xs) (suc i) y e = omega (arith, get_inside xs i y e)

pub get_here : {A : Type 0} (xs : List A) (i : ℕ) (y : A) → i < length xs → y ≡ get_or xs i y → slice_get xs i ≡ Some y
get_here [] i y l e = absurd (omega arith)
get_here (x ∷ xs) zero y l e = ap Some (sym e)
get_here (x ∷ xs) (suc i) y l e = get_here xs i y (omega (arith, l)) e

pub get_back : {A : Type 0} (xs : List A) (i : ℕ) (y d : A) → slice_get xs i ≡ Some y → get_or xs i d ≡ y
get_back [] i y d e = absurd cc
get_back (x ∷ xs) zero y d e = let same : x ≡ y = cc in same
get_back (x ∷ xs) (suc i) y d e = get_back xs i y d e

pub slot_there : {A : Type 0} (xs : List A) (k : ℕ) → k < length xs → (y : A) × (slice_get xs k ≡ Some y)
slot_there [] k l = absurd (omega (arith, l))
slot_there (y ∷ ys) zero l = (y, refl)
slot_there (y ∷ ys) (suc k) l = slot_there ys k (omega (arith, l))

some_same : {A : Type 0} (a b : A) → Some a ≡ Some b → a ≡ b
some_same a b e = cc

module _ {State Body Piece : Type 0} where
  -- a part's run is within the event limit
  pub run_within : (m : Machine State Body Piece) (Known : Piece → Type 0) (world : World State Body) → IsWorldOf m world
      → (horizon : ℕ) (run : PartRun State Body Piece) (q : Queue Body) → run.part < world.division.parts
      → IsRunningAt m Known world horizon run q → world.count + length run.entries.items ≤ m.max_events
  run_within m Known world is horizon run q inside running = let e = slot_there world.parts.items run.part (omega (arith, is.parts_are, inside))
      in (running e.0).within

module _ {State Body Piece : Type 0} (m : Machine State Body Piece) (Known : Piece → Type 0) (world : World State Body) (horizon : ℕ) where
  abbrev runs : ℕ → ℕ → List (Event Body)
  runs p n = part_run m world.division (history m world.count) horizon p n

  module _ (drawn : ℕ) (ws : List (Worker State Body Piece)) (ds : List (Option (Done State Body Piece))) (w : Window Body)
      (picked : IsPickedWith m Known world horizon drawn ws ds w) (i : ℕ)
      (x : Worker State Body Piece) (at : slice_get ws i ≡ Some x) where
    own : IsHeldBy m Known world horizon drawn w i x x.run
    own = picked.workers_are i x at

    -- a worker that can go may take a step
    pub may_go : can_go_with drawn ws ds i ≡ true → MayGoOn m Known world horizon drawn x
    may_go can = go x.run refl (own) (ap (λ o. has_part o || nat_lt drawn (length ds)) (sym at) ∙ can)
      where
        go : (o : Option (PartRun State Body Piece)) → x.run ≡ o → IsHeldBy m Known world horizon drawn w i x o → (is_some o || nat_lt drawn (length ds)) ≡ true
            → MayGoOnWith m Known world horizon drawn x o
        go None e h t = (h.0, omega (arith, ltb-true drawn (length ds) t, picked.slots))
        go (Some run) e h t = (h.0, picked.few)

    -- what the window machine's step keeps of the parts that were drawn
    held_more : (ws' : List (Worker State Body Piece)) (step : Step Body) → length ws' ≡ length ws → next_step m world.division w (w.held i) ≡ Some step
        → (p : ℕ) → p < (after_step w i step).drawn → (((after_step w i step).part p).sealed ≡ true)
        ⊎ ((j : ℕ) × (j < length ws') × ((after_step w i step).held j ≡ Some p))
    held_more ws' step long next p l =
        let after : after_pick m world.division w i ≡ after_step w i step = ap (after_option m w i) next in
        let all = subst (λ (v : Window Body). (p : ℕ) → p < v.drawn → ((v.part p).sealed ≡ true) ⊎ ((j : ℕ) × (j < length ws) × (v.held j ≡ Some p))) after
        (held_pick m world.division (length ws) w i (get_inside ws i x at) picked.held) in
        ⊎_elim (λ s. inl s) (λ h. inr (h.0, omega (arith, h.1, long), h.2)) (all p l)

    -- a worker that has no part draws the next one
    module _ (x' : Worker State Body Piece) (h : HasDrawn m Known world horizon drawn x x') (can : can_go_with drawn ws ds i ≡ true) where
      none_held : w.held i ≡ None
      none_held = (subst (IsHeldBy m Known world horizon drawn w i x) h.was_idle.none own).1

      some_left : drawn < world.division.parts
      some_left = omega (
        arith,
        picked.slots,
        ltb-true drawn (length ds)
            (ap (λ o. o || nat_lt drawn (length ds)) (sym (ap (λ (o : Option (Worker State Body Piece)). has_part o) at
            ∙ ap (λ (o : Option (PartRun State Body Piece)). is_some o) h.was_idle.none)) ∙ can),
      )

      pub drew_few : drawn < world.division.parts
      drew_few = some_left

      pub drew_next : next_step m world.division w (w.held i) ≡ Some (Drew w.drawn)
      drew_next = ap (next_step m world.division w) none_held
          ∙ ap (λ b. if b then Some (Drew w.drawn) else None) (lt-ltb w.drawn world.division.parts (omega (arith, picked.drawn_is, some_left)))

      -- the part was not touched
      untouched : (o : Option (Done State Body Piece)) → slice_get ds drawn ≡ Some o → w.part drawn ≡ record { ran = []; sealed = false }
      untouched None e = (picked.parts_are drawn None e).1 (omega arith)
      untouched (Some done) e = absurd (omega (arith, (picked.parts_are drawn (Some done) e).1))

      fresh_part : w.part drawn ≡ record { ran = []; sealed = false }
      fresh_part = let s = slot_there ds drawn (omega (arith, some_left, picked.slots)) in untouched s.0 s.1

      same_busy : (y : Worker State Body Piece) (j : ℕ) → j ≢ i → (o : Option (PartRun State Body Piece)) → y.run ≡ o
          → IsHeldBy m Known world horizon drawn w j y o
          → IsHeldBy m Known world horizon (drawn + 1) (after_step w i (Drew w.drawn)) j y o
      same_busy y j ne None e k = (k.0, put_other w.held i (Some w.drawn) j ne ∙ k.1)
      same_busy y j ne (Some r) e k = (
        record { run_is = k.0.run_is; part = omega (arith, k.0.part); running = k.0.running },
        put_other w.held i (Some w.drawn) j ne ∙ k.1,
        k.2,
      )

      new_busy : IsHeldBy m Known world horizon (drawn + 1) (after_step w i (Drew w.drawn)) i x' (Some h.run)
      new_busy = (
        record { run_is = h.run_is; part = omega (arith, h.part_is); running = h.running },
        put_same w.held i (Some w.drawn) i refl ∙ ap Some (picked.drawn_is ∙ sym h.part_is),
        ap w.part h.part_is ∙ fresh_part ∙ ap (λ l. record { ran = l; sealed = false }) (ap (λ n. runs h.run.part n) (sym h.none)),
      )

      part_below : (j : ℕ) (y : Worker State Body Piece) (r : PartRun State Body Piece) → slice_get ws j ≡ Some y → y.run ≡ Some r → r.part < drawn
      part_below j y r e k = (subst (IsHeldBy m Known world horizon drawn w j y) k (picked.workers_are j y e)).0.part

      pub drew_picked : IsPickedWith m Known world horizon (drawn + 1) (set ws i x') ds (after_step w i (Drew w.drawn))
      drew_picked = record {
        history_is = picked.history_is;
        horizon_is = picked.horizon_is;
        drawn_is = ap (λ n. n + 1) picked.drawn_is;
        few = omega (arith, some_left);
        slots = picked.slots;
        workers_are = λ j y e. workers j y (set_at ws i j x' y e);
        apart = λ j k y z r s e f a b same. alone j k y z r s (set_at ws i j x' y e) (set_at ws i k x' z f) a b same;
        parts_are = λ p o e. parts p o (picked.parts_are p o e);
        held = held_more (set ws i x') (Drew w.drawn) (length-set ws i x') drew_next;
      }
        where
          workers : (j : ℕ) (y : Worker State Body Piece) → ((j ≡ i) × (y ≡ x')) ⊎ ((j ≢ i) × (slice_get ws j ≡ Some y))
              → IsHeldBy m Known world horizon (drawn + 1) (after_step w i (Drew w.drawn)) j y y.run
          workers j y (inl s) = subst (λ k. IsHeldBy m Known world horizon (drawn + 1) (after_step w i (Drew w.drawn)) k y y.run) (sym s.0)
              (subst (λ (z : Worker State Body Piece). IsHeldBy m Known world horizon (drawn + 1) (after_step w i (Drew w.drawn)) i z z.run) (sym s.1)
              (subst (IsHeldBy m Known world horizon (drawn + 1) (after_step w i (Drew w.drawn)) i x') (sym h.run_is) new_busy))
          workers j y (inr s) = same_busy y j s.0 y.run refl (picked.workers_are j y s.1)

          alone : (j k : ℕ) (y z : Worker State Body Piece) (r s : PartRun State Body Piece) → ((j ≡ i) × (y ≡ x')) ⊎ ((j ≢ i) × (slice_get ws j ≡ Some y))
              → ((k ≡ i) × (z ≡ x')) ⊎ ((k ≢ i) × (slice_get ws k ≡ Some z))
              → y.run ≡ Some r → z.run ≡ Some s → r.part ≡ s.part → j ≡ k
          alone j k y z r s (inl p) (inl q) a b same = p.0 ∙ sym q.0
          alone j k y z r s (inl p) (inr q) a b same =
              let is : r ≡ h.run = some_same r h.run (sym a ∙ ap (λ (v : Worker State Body Piece). v.run) p.1 ∙ h.run_is) in
              let below = part_below k z s q.1 b in
              absurd (omega (arith, below, same, ap (λ (v : PartRun State Body Piece). v.part) is, h.part_is))
          alone j k y z r s (inr p) (inl q) a b same =
              let is : s ≡ h.run = some_same s h.run (sym b ∙ ap (λ (v : Worker State Body Piece). v.run) q.1 ∙ h.run_is) in
              let below = part_below j y r p.1 a in
              absurd (omega (arith, below, same, ap (λ (v : PartRun State Body Piece). v.part) is, h.part_is))
          alone j k y z r s (inr p) (inr q) a b same = picked.apart j k y z r s p.1 q.1 a b same

          parts : (p : ℕ) (o : Option (Done State Body Piece)) → IsPartOf m Known world horizon drawn w p o
              → IsPartOf m Known world horizon (drawn + 1) (after_step w i (Drew w.drawn)) p o
          parts p None k = (k.0, λ l. k.1 (omega (arith, l)))
          parts p (Some done) k = (k.0, omega (arith, k.1), k.2)

      pub drew_fewer : potential_with m world horizon (drawn + 1) (set ws i x') (length ds) < potential_with m world horizon drawn ws (length ds)
      drew_fewer =
          let room : ℕ = m.max_events - world.count in
          let old : weight m world horizon x ≡ 0 = ap (weight_of m world horizon) h.was_idle.none in
          let new : weight m world horizon x' ≡ m.max_events - (world.count + length h.run.entries.items) + 1 = ap (weight_of m world horizon) h.run_is in
          let sum = sum_by-set (weight m world horizon) ws i x' x (get_inside ws i x at) in
          let here : weight m world horizon (get_or ws i x) ≡ 0 = ap (weight m world horizon) (get_back ws i x x at) ∙ old in
          let one : length ds - drawn ≡ suc (length ds - (drawn + 1)) = omega (arith, some_left, picked.slots) in
          let product : (length ds - drawn) * (m.max_events - world.count + 2)
          ≡ (length ds - (drawn + 1)) * (m.max_events - world.count + 2) + (m.max_events - world.count + 2) =
          ap (λ n. n * (m.max_events - world.count + 2)) one ∙ suc_times (length ds - (drawn + 1)) (m.max_events - world.count + 2) in
          omega (arith, sum, here, new, product, h.none)
        where
          suc_times : (a b : ℕ) → suc a * b ≡ a * b + b
          suc_times a b = omega arith

    -- a worker that has a part
    module _ (run : PartRun State Body Piece) (busy : IsBusy m Known world horizon drawn x run) where
      own_busy : IsHeldBy m Known world horizon drawn w i x (Some run)
      own_busy = subst (IsHeldBy m Known world horizon drawn w i x) busy.run_is own

      -- what waits there in the window
      waits_there : waiting m world.division w.history w.horizon run.part (w.part run.part).ran
          ≡ waiting m world.division (history m world.count) horizon run.part
          (part_run m world.division (history m world.count) horizon run.part (length run.entries.items))
      waits_there = ap (λ z. waiting m world.division z w.horizon run.part (w.part run.part).ran) picked.history_is
          ∙ ap (λ z. waiting m world.division (history m world.count) z run.part (w.part run.part).ran) picked.horizon_is
          ∙ ap (λ (z : Part Body). waiting m world.division (history m world.count) horizon run.part z.ran) own_busy.2

      next_is : (o : Option (Event Body)) → least (waiting m world.division (history m world.count) horizon run.part
          (part_run m world.division (history m world.count) horizon run.part (length run.entries.items))) ≡ o
          → next_step m world.division w (w.held i) ≡ Some (running m run.part o)
      next_is o e = ap (next_step m world.division w) own_busy.1 ∙ ap (λ z. Some (running m run.part z)) (ap least waits_there ∙ e)

      -- no other worker has it
      other_part : (j : ℕ) (y : Worker State Body Piece) (r : PartRun State Body Piece) → j ≢ i → slice_get ws j ≡ Some y → y.run ≡ Some r → r.part ≢ run.part
      other_part j y r ne e k same = ne (picked.apart j i y x r run e at k busy.run_is same)

      -- it runs the next event
      module _ (x' : Worker State Body Piece) (next : PartRun State Body Piece) (one : HasRunOne m Known world horizon run x' next) (key : Key)
          (k : IsNextKey m world horizon run key) where
        pub ran_next : next_step m world.division w (w.held i) ≡ Some (Ran run.part k.event)
        ran_next = next_is (Some k.event) k.is_least

        goes_on : runs run.part (length next.entries.items) ≡ k.event ∷ runs run.part (length run.entries.items)
        goes_on =
            let longer : length next.entries.items ≡ suc (length run.entries.items) = omega (arith, one.more) in
            ap (λ n. runs run.part n) longer ∙ ap (λ o. cons_option o (runs run.part (length run.entries.items))) k.is_least

        new_part : (q : ℕ) → q ≡ run.part → put w.part run.part (record (w.part run.part) { ran = k.event ∷ (w.part run.part).ran }) q ≡ record {
          ran = runs q (length next.entries.items);
          sealed = false;
        }
        new_part q same = put_same w.part run.part (record (w.part run.part) { ran = k.event ∷ (w.part run.part).ran }) q same
            ∙ ap (λ (z : Part Body). record z { ran = k.event ∷ z.ran }) own_busy.2
            ∙ ap (λ l. record { ran = l; sealed = false }) (sym goes_on ∙ ap (λ z. runs z (length next.entries.items)) (sym same))

        ran_busy : IsHeldBy m Known world horizon drawn (after_step w i (Ran run.part k.event)) i x' (Some next)
        ran_busy = (
          record { run_is = one.run_is; part = omega (arith, one.part_is, busy.part); running = one.running },
          own_busy.1 ∙ ap Some (sym one.part_is),
          new_part next.part one.part_is,
        )

        kept_busy : (y : Worker State Body Piece) (j : ℕ) → j ≢ i → slice_get ws j ≡ Some y → (o : Option (PartRun State Body Piece)) → y.run ≡ o
            → IsHeldBy m Known world horizon drawn w j y o → IsHeldBy m Known world horizon drawn (after_step w i (Ran run.part k.event)) j y o
        kept_busy y j ne e None is h = h
        kept_busy y j ne e (Some r) is h = (
          h.0,
          h.1,
          put_other w.part run.part (record (w.part run.part) { ran = k.event ∷ (w.part run.part).ran })
              r.part (other_part j y r ne e is) ∙ h.2,
        )

        pub ran_picked : IsPickedWith m Known world horizon drawn (set ws i x') ds (after_step w i (Ran run.part k.event))
        ran_picked = record {
          history_is = picked.history_is;
          horizon_is = picked.horizon_is;
          drawn_is = picked.drawn_is;
          few = picked.few;
          slots = picked.slots;
          workers_are = λ j y e. workers j y (set_at ws i j x' y e);
          apart = λ j l y z r s e f a b same. alone j l y z r s (set_at ws i j x' y e) (set_at ws i l x' z f) a b same;
          parts_are = λ p o e. parts p o (picked.parts_are p o e);
          held = held_more (set ws i x') (Ran run.part k.event) (length-set ws i x') ran_next;
        }
          where
            workers : (j : ℕ) (y : Worker State Body Piece) → ((j ≡ i) × (y ≡ x')) ⊎ ((j ≢ i) × (slice_get ws j ≡ Some y))
                → IsHeldBy m Known world horizon drawn (after_step w i (Ran run.part k.event)) j y y.run
            workers j y (inl s) = subst (λ q. IsHeldBy m Known world horizon drawn (after_step w i (Ran run.part k.event)) q y y.run) (sym s.0)
                (subst (λ (z : Worker State Body Piece). IsHeldBy m Known world horizon drawn (after_step w i (Ran run.part k.event)) i z z.run) (sym s.1)
                (subst (IsHeldBy m Known world horizon drawn (after_step w i (Ran run.part k.event)) i x') (sym one.run_is) ran_busy))
            workers j y (inr s) = kept_busy y j s.0 s.1 y.run refl (picked.workers_are j y s.1)

            own_run : (y : Worker State Body Piece) (r : PartRun State Body Piece) → y ≡ x' → y.run ≡ Some r → r.part ≡ run.part
            own_run y r is a = ap (λ (v : PartRun State Body Piece). v.part)
                (some_same r next (sym a ∙ ap (λ (v : Worker State Body Piece). v.run) is ∙ one.run_is)) ∙ one.part_is

            alone : (j l : ℕ) (y z : Worker State Body Piece) (r s : PartRun State Body Piece) → ((j ≡ i) × (y ≡ x')) ⊎ ((j ≢ i) × (slice_get ws j ≡ Some y))
                → ((l ≡ i) × (z ≡ x')) ⊎ ((l ≢ i) × (slice_get ws l ≡ Some z))
                → y.run ≡ Some r → z.run ≡ Some s → r.part ≡ s.part → j ≡ l
            alone j l y z r s (inl p) (inl q) a b same = p.0 ∙ sym q.0
            alone j l y z r s (inl p) (inr q) a b same = absurd (other_part l z s q.0 q.1 b (sym same ∙ own_run y r p.1 a))
            alone j l y z r s (inr p) (inl q) a b same = absurd (other_part j y r p.0 p.1 a (same ∙ own_run z s q.1 b))
            alone j l y z r s (inr p) (inr q) a b same = picked.apart j l y z r s p.1 q.1 a b same

            parts : (p : ℕ) (o : Option (Done State Body Piece)) → IsPartOf m Known world horizon drawn w p o
                → IsPartOf m Known world horizon drawn (after_step w i (Ran run.part k.event)) p o
            parts p None h = ⊎_elim
                (λ s. (ap (λ (z : Part Body). z.sealed) (new_part p s), λ l. absurd (omega (arith, l, s, busy.part))))
                (λ ne. let other = put_other w.part run.part (record (w.part run.part) { ran = k.event ∷ (w.part run.part).ran }) p ne in
                (ap (λ (z : Part Body). z.sealed) other ∙ h.0, λ l. other ∙ h.1 l))
                (cases_eq p run.part)
            parts p (Some done) h = ⊎_elim
                (λ s. absurd (sealed_twice (sym (ap (λ (z : Part Body). z.sealed) (ap w.part s ∙ own_busy.2)) ∙ ap (λ (z : Part Body). z.sealed) h.2)))
                (λ ne. (h.0, h.1, put_other w.part run.part (record (w.part run.part) { ran = k.event ∷ (w.part run.part).ran }) p ne ∙ h.2))
                (cases_eq p run.part)
              where
                sealed_twice : false ≡ true → ⊥
                sealed_twice e = cc

        pub ran_fewer : world.count + length next.entries.items ≤ m.max_events
            → potential_with m world horizon drawn (set ws i x') (length ds) < potential_with m world horizon drawn ws (length ds)
        ran_fewer within =
            let old : weight m world horizon x ≡ m.max_events - (world.count + length run.entries.items) + 1 = ap (weight_of m world horizon) busy.run_is in
            let new : weight m world horizon x' ≡ m.max_events - (world.count + length next.entries.items) + 1 = ap (weight_of m world horizon) one.run_is in
            let sum = sum_by-set (weight m world horizon) ws i x' x (get_inside ws i x at) in
            let here : weight m world horizon (get_or ws i x) ≡ m.max_events - (world.count + length run.entries.items) + 1 = ap
            (weight m world horizon) (get_back ws i x x at) ∙ old in
            omega (arith, sum, here, new, within, one.more)

      -- it seals the part
      module _ (x' : Worker State Body Piece) (done : Done State Body Piece) (is_done : IsDone m Known world horizon run.part done)
          (events : done.events ≡ length run.entries.items)
          (idle : IsIdle x') where
        pub sealed_next : next_step m world.division w (w.held i) ≡ Some (Sealed run.part)
        sealed_next = next_is None (ap least (
            ap (λ q. waiting m world.division (history m world.count) horizon q (runs q (length run.entries.items))) (sym is_done.part_is)
            ∙ ap (λ n. waiting m world.division (history m world.count) horizon done.part (runs done.part n)) (sym events)
            ∙ is_done.sealed.done
            ))

        sealed_part : (q : ℕ) → q ≡ run.part → put w.part run.part (record (w.part run.part) { sealed = true }) q ≡ record {
          ran = ran_by m world horizon done;
          sealed = true;
        }
        sealed_part q same = put_same w.part run.part (record (w.part run.part) { sealed = true }) q same
            ∙ ap (λ (z : Part Body). record z { sealed = true }) own_busy.2
            ∙ ap (λ l. record { ran = l; sealed = true }) (ap (λ n. runs run.part n) (sym events) ∙ ap (λ z. runs z done.events) (sym is_done.part_is))

        left_busy : (y : Worker State Body Piece) (j : ℕ) → j ≢ i → slice_get ws j ≡ Some y → (o : Option (PartRun State Body Piece)) → y.run ≡ o
            → IsHeldBy m Known world horizon drawn w j y o → IsHeldBy m Known world horizon drawn (after_step w i (Sealed run.part)) j y o
        left_busy y j ne e None is h = (h.0, put_other w.held i None j ne ∙ h.1)
        left_busy y j ne e (Some r) is h = (
          h.0,
          put_other w.held i None j ne ∙ h.1,
          put_other w.part run.part (record (w.part run.part) { sealed = true }) r.part (other_part j y r ne e is) ∙ h.2,
        )

        pub sealed_picked : IsPickedWith m Known world horizon drawn (set ws i x') (set ds done.part (Some done)) (after_step w i (Sealed run.part))
        sealed_picked = record {
          history_is = picked.history_is;
          horizon_is = picked.horizon_is;
          drawn_is = picked.drawn_is;
          few = picked.few;
          slots = length-set ds done.part (Some done) ∙ picked.slots;
          workers_are = λ j y e. workers j y (set_at ws i j x' y e);
          apart = λ j l y z r s e f a b same. alone j l y z r s (set_at ws i j x' y e) (set_at ws i l x' z f) a b same;
          parts_are = λ p o e. parts p o (set_at ds done.part p (Some done) o e);
          held = held_more (set ws i x') (Sealed run.part) (length-set ws i x') sealed_next;
        }
          where
            workers : (j : ℕ) (y : Worker State Body Piece) → ((j ≡ i) × (y ≡ x')) ⊎ ((j ≢ i) × (slice_get ws j ≡ Some y))
                → IsHeldBy m Known world horizon drawn (after_step w i (Sealed run.part)) j y y.run
            workers j y (inl s) = subst (λ q. IsHeldBy m Known world horizon drawn (after_step w i (Sealed run.part)) q y y.run) (sym s.0)
                (subst (λ (z : Worker State Body Piece). IsHeldBy m Known world horizon drawn (after_step w i (Sealed run.part)) i z z.run) (sym s.1)
                (subst (IsHeldBy m Known world horizon drawn (after_step w i (Sealed run.part)) i x') (sym idle.none) (idle, put_same w.held i None i refl)))
            workers j y (inr s) = left_busy y j s.0 s.1 y.run refl (picked.workers_are j y s.1)

            no_run : (y : Worker State Body Piece) (r : PartRun State Body Piece) → y ≡ x' → y.run ≡ Some r → ⊥
            no_run y r is a = none_is_some r (sym idle.none ∙ ap (λ (v : Worker State Body Piece). v.run) (sym is) ∙ a)
              where
                none_is_some : (r : PartRun State Body Piece) → None ≡ Some r → ⊥
                none_is_some r e = cc

            alone : (j l : ℕ) (y z : Worker State Body Piece) (r s : PartRun State Body Piece) → ((j ≡ i) × (y ≡ x')) ⊎ ((j ≢ i) × (slice_get ws j ≡ Some y))
                → ((l ≡ i) × (z ≡ x')) ⊎ ((l ≢ i) × (slice_get ws l ≡ Some z))
                → y.run ≡ Some r → z.run ≡ Some s → r.part ≡ s.part → j ≡ l
            alone j l y z r s (inl p) q a b same = absurd (no_run y r p.1 a)
            alone j l y z r s (inr p) (inl q) a b same = absurd (no_run z s q.1 b)
            alone j l y z r s (inr p) (inr q) a b same = picked.apart j l y z r s p.1 q.1 a b same

            parts_other : (p : ℕ) (o : Option (Done State Body Piece)) → p ≢ run.part → IsPartOf m Known world horizon drawn w p o
                → IsPartOf m Known world horizon drawn (after_step w i (Sealed run.part)) p o
            parts_other p None ne h = let other = put_other w.part run.part (record (w.part run.part) {
              sealed = true;
            }) p ne in (ap (λ (z : Part Body). z.sealed) other ∙ h.0, λ l. other ∙ h.1 l)
            parts_other p (Some d) ne h = (h.0, h.1, put_other w.part run.part (record (w.part run.part) { sealed = true }) p ne ∙ h.2)

            parts : (p : ℕ) (o : Option (Done State Body Piece)) → ((p ≡ done.part) × (o ≡ Some done)) ⊎ ((p ≢ done.part) × (slice_get ds p ≡ Some o))
                → IsPartOf m Known world horizon drawn (after_step w i (Sealed run.part)) p o
            parts p o (inl s) = subst (IsPartOf m Known world horizon drawn (after_step w i (Sealed run.part)) p) (sym s.1) (
              subst (λ q. IsDone m Known world horizon q done) (sym (s.0 ∙ is_done.part_is)) is_done,
              omega (arith, s.0, is_done.part_is, busy.part),
              sealed_part p (s.0 ∙ is_done.part_is),
            )
            parts p o (inr s) = parts_other p o (λ q. s.0 (q ∙ sym is_done.part_is)) (picked.parts_are p o s.1)

        pub sealed_fewer : potential_with m world horizon drawn (set ws i x') (length (set ds done.part (Some done))) < potential_with m world
            horizon drawn ws (length ds)
        sealed_fewer =
            let old : weight m world horizon x ≡ m.max_events - (world.count + length run.entries.items) + 1 = ap (weight_of m world horizon) busy.run_is in
            let new : weight m world horizon x' ≡ 0 = ap (weight_of m world horizon) idle.none in
            let sum = sum_by-set (weight m world horizon) ws i x' x (get_inside ws i x at) in
            let here : weight m world horizon (get_or ws i x) ≡ m.max_events - (world.count + length run.entries.items) + 1 = ap
            (weight m world horizon) (get_back ws i x x at) ∙ old in
            let long : (length (set ds done.part (Some done)) - drawn) * (m.max_events - world.count + 2)
            ≡ (length ds - drawn) * (m.max_events - world.count + 2) =
            ap (λ n. (n - drawn) * (m.max_events - world.count + 2)) (length-set ds done.part (Some done)) in
            omega (arith, sum, here, new, long)
