-- A window from the first draw to the last seal.
use Rattle.std.proofs.Common.{◌≡◌, ◌≢◌, ℕ, zero, suc, ◌+◌, ◌<◌, true, false, List, [], ◌∷◌, Option, None, Some, length, slice_get, refl, ap, sym, ◌∙◌, subst, ⊎_elim, arith}
use Rattle.std.specs.Prelude.{nat_lt, ◌||◌, is_some, if◌then◌else◌}
use Rattle.std.specs.List.{AllByRecursion}
use Rattle.std.proofs.lemmas.Bool.{and_parts, cases_eq}
use Rattle.des_model.specs.Histories.{history}
use Rattle.des_model.specs.Schedules.{Goes, all_sealed, begun}
use Rattle.des_model.specs.Schedules.Run.{Within}
use Rattle.des_model.specs.Windows.{IsSealedRun, Part, Window, left_by, opened, ran_by}
use Rattle.des_model.proofs.Commuting.{windows_leave_histories}
use Rattle.des_model.proofs.WindowCourse.{events_run_is, sum_to}
use Rattle.des_parts.specs.declared.part_run.Done.{Done}
use Rattle.des_parts.specs.declared.part_run.PartRun.{PartRun}
use Rattle.des_picks.specs.declared.picked_window.PickedWindow.{PickedWindow}
use Rattle.des_picks.specs.declared.step.Taken.{Taken}
use Rattle.des_picks.specs.declared.worker.Worker.{Worker}
use Rattle.des_parts.specs.declared.world.World.{World}
use Rattle.des_parts.specs.Exchanges.{AreDone, AreDoneFrom, events_in}
use Rattle.des_parts.specs.PartRuns.{IsDone, IsHorizon}
use Rattle.des_picks.specs.Picked.{HasStepped, HasTakenTurns, IsHeldBy, IsOpened, IsPartOf, IsPicked, can_go, has_part}
use Rattle.des_parts.specs.Slots.{in_slots}
use Rattle.des_picks.specs.Workers.{IsIdle}
use Rattle.des_parts.specs.Worlds.{IsWorldOf}
use Rattle.des_parts.proofs.Exchanged.{events_at, events_sum}
use Rattle.des_parts.proofs.Openings.{window_may_open}
use Rattle.des_picks.proofs.PickedSteps.{get_inside, slot_there}
use Rattle.des_picks.proofs.PickedTurns.{all_done, lowest_none}
use Rattle.des_event.specs.declared.event.Event.{Event}
use Rattle.des_model.specs.Machine.{Machine}
use Rattle.des_machine.specs.Simulable.{IsSimulable}
use Rattle.des_window.specs.declared.opening.Opening.{Opening}

all_get : {A : Type 0} (P : A → Type 0) (xs : List A) (i : ℕ) (x : A) → AllByRecursion P xs → slice_get xs i ≡ Some x → P x
all_get P [] i x all e = absurd cc
all_get P (y ∷ xs) zero x all e = let same : y ≡ x = cc in subst P same all.0
all_get P (y ∷ xs) (suc i) x all e = all_get P xs i x all.1 e

get_all : {A : Type 0} (P : A → Type 0) (xs : List A) → ((i : ℕ) (x : A) → slice_get xs i ≡ Some x → P x) → AllByRecursion P xs
get_all P [] each = tt
get_all P (x ∷ xs) each = (each 0 x refl, get_all P xs (λ i y e. each (suc i) y e))

module _ {State Body Piece : Type 0} where
  -- a window that begins
  pub opened_picked : (m : Machine State Body Piece) (Known : Piece → Type 0) (world : World State Body) (horizon : ℕ)
      (old new : PickedWindow State Body Piece) → IsOpened world.division.parts old new
      → AllByRecursion IsIdle old.workers.items
      → IsPicked m Known world horizon new (opened (history m world.count) horizon)
  opened_picked m Known world horizon old new is idle = record {
    history_is = refl;
    horizon_is = refl;
    drawn_is = sym is.drawn_is;
    few = omega (arith, is.drawn_is);
    slots = is.slots;
    workers_are = λ i x e. let one = idle_at i x e in subst (IsHeldBy m Known world horizon new.drawn (opened (history m world.count) horizon) i x)
        (sym one.none) (one, refl);
    apart = λ i j x y r s e f a b same. absurd (no_run r (sym (idle_at i x e).none ∙ a));
    parts_are = λ p o e. subst (IsPartOf m Known world horizon new.drawn (opened (history m world.count) horizon) p)
        (sym (all_get (λ (slot : Option (Done State Body Piece)). slot ≡ None) new.dones.items p o is.empty e)) (refl, λ l. refl);
    held = λ p l. absurd (omega arith);
  }
    where
      idle_at : (i : ℕ) (x : Worker State Body Piece) → slice_get new.workers.items i ≡ Some x → IsIdle x
      idle_at i x e = all_get IsIdle old.workers.items i x idle (ap (λ v. slice_get v.items i) (sym is.same_workers) ∙ e)

      no_run : (r : PartRun State Body Piece) → None ≡ Some r → ⊥
      no_run r e = cc

module _ {Body : Type 0} where
  sealed_each : (w : Window Body) (n : ℕ) → all_sealed w n ≡ true → (p : ℕ) → p < n → (w.part p).sealed ≡ true
  sealed_each w zero t p l = absurd (omega arith)
  sealed_each w (suc n) t p l =
      let b = and_parts (w.part n).sealed (all_sealed w n) t in
      ⊎_elim (λ s. ap (λ q. (w.part q).sealed) s ∙ b.0) (λ ne. let differ : p ≢ n = ne in sealed_each w n b.1 p (omega (arith, l))) (cases_eq p n)

module _ {State Body Piece : Type 0} (m : Machine State Body Piece) (Known : Piece → Type 0) (world : World State Body) (horizon : ℕ) where
  -- a place that holds what its part left
  abbrev IsFilled : ℕ → Option (Done State Body Piece) → Type 0
  IsFilled p None = ⊥
  IsFilled p (Some done) = IsDone m Known world horizon p done

  filled_from : (k : ℕ) (slots : List (Option (Done State Body Piece)))
      → ((j : ℕ) (o : Option (Done State Body Piece)) → slice_get slots j ≡ Some o → IsFilled (k + j) o)
      → AreDoneFrom m Known world horizon k (in_slots slots) × (length (in_slots slots) ≡ length slots)
  filled_from k [] each = (tt, refl)
  filled_from k (None ∷ slots) each = absurd (each 0 None refl)
  filled_from k (Some done ∷ slots) each =
      let rest = filled_from (suc k) slots (λ j o e. subst (λ n. IsFilled n o) (omega arith) (each (suc j) o e)) in
      ((subst (λ n. IsDone m Known world horizon n done) (omega arith) (each 0 (Some done) refl), rest.0), ap suc rest.1)

  events_slot : (k : ℕ) (slots : List (Option (Done State Body Piece)))
      → ((j : ℕ) (o : Option (Done State Body Piece)) → slice_get slots j ≡ Some o → IsFilled (k + j) o)
      → (q : ℕ) (done : Done State Body Piece) → slice_get slots q ≡ Some (Some done) → events_at (in_slots slots) q ≡ done.events
  events_slot k [] each q done e = absurd cc
  events_slot k (None ∷ slots) each q done e = absurd (each 0 None refl)
  events_slot k (Some first ∷ slots) each zero done e = let same : first ≡ done = cc in ap (λ (d : Done State Body Piece). d.events) same
  events_slot k (Some first ∷ slots) each (suc q) done e = events_slot (suc k) slots
      (λ j o f. subst (λ n. IsFilled n o) (omega arith) (each (suc j) o f)) q done e

  module _ {Sound : ℕ → State → Type 0} {Fit : Event Body → Type 0} {Room : State → Type 0} (sim : IsSimulable m Sound Fit Room)
      (is : IsWorldOf m world) (ends : IsHorizon world horizon) (old new : PickedWindow State Body Piece) (picks rest : List ℕ)
      (before after : List Taken)
      (some : 0 < length old.workers.items) (t : HasTakenTurns m Known world horizon old new picks rest before after) where
    closed : all_sealed t.window world.division.parts ≡ true
    closed = all_done m Known world horizon new.drawn new.workers.items new.dones.items t.window t.picked (omega (arith, some, t.same_workers)) t.ended

    -- each place is filled
    filled : (p : ℕ) (o : Option (Done State Body Piece)) → slice_get new.dones.items p ≡ Some o
        → IsPartOf m Known world horizon new.drawn t.window p o → IsFilled p o
    filled p None e part = absurd (open_and_done (sym part.0 ∙ sealed_each t.window world.division.parts closed p
        (omega (arith, get_inside new.dones.items p None e, t.picked.slots))))
      where
        open_and_done : false ≡ true → ⊥
        open_and_done q = cc
    filled p (Some done) e part = part.0

    each : (j : ℕ) (o : Option (Done State Body Piece)) → slice_get new.dones.items j ≡ Some o → IsFilled (0 + j) o
    each j o e = subst (λ n. IsFilled n o) (omega arith) (filled j o e (t.picked.parts_are j o e))

    module _ (dones : List (Done State Body Piece)) (taken : dones ≡ in_slots new.dones.items) where
      long : length dones ≡ world.division.parts
      long = ap length taken ∙ (filled_from 0 new.dones.items each).1 ∙ t.picked.slots

      pub turns_done : AreDone m Known world horizon dones
      turns_done = record {
        time = ends.0;
        opening = ends.1;
        long = long;
        each = subst (λ l. AreDoneFrom m Known world horizon 0 l) (sym taken) (filled_from 0 new.dones.items each).0;
      }

      -- the list of a part in the window
      ran_is : (q : ℕ) → q < world.division.parts → IsSealedRun m world.division (history m world.count) horizon q
          (ran_by t.window q) × (length (ran_by t.window q) ≡ events_at dones q)
      ran_is q l = let slot = slot_there new.dones.items q (omega (arith, l, t.picked.slots))
          in go slot.0 slot.1 (t.picked.parts_are q slot.0 slot.1) (filled q slot.0 slot.1 (t.picked.parts_are q slot.0 slot.1))
        where
          go : (o : Option (Done State Body Piece)) → slice_get new.dones.items q ≡ Some o → IsPartOf m Known world horizon new.drawn t.window q o
              → IsFilled q o
              → IsSealedRun m world.division (history m world.count) horizon q (ran_by t.window q)
              × (length (ran_by t.window q) ≡ events_at dones q)
          go None e part full = absurd full
          go (Some done) e part full = (
            subst (λ p. IsSealedRun m world.division (history m world.count) horizon p (ran_by t.window q)) full.part_is
                (subst (λ (v : Part Body). IsSealedRun m world.division (history m world.count) horizon done.part v.ran)
                (sym part.2) full.sealed),
            ap (λ (v : Part Body). length v.ran) part.2 ∙ full.long ∙ sym (events_slot 0 new.dones.items each q done e) ∙ ap (λ l. events_at l q) (sym taken),
          )

      left_is : left_by world.division t.window.history (ran_by t.window) ≡ history m (world.count + events_in dones)
      left_is =
          let o : Opening = record { time = ends.0; horizon = horizon } in
          ap (λ h. left_by world.division h (ran_by t.window)) t.picked.history_is
          ∙ windows_leave_histories m sim.well_formed world.division is.divides world.count ends.0 horizon
          (window_may_open m sim world is o ends.1) (ran_by t.window) (λ q l. (ran_is q l).0)
          ∙ ap (λ n. history m (world.count + n)) (events_run_is (ran_by t.window) (events_at dones) world.division.parts
          (λ q l. (ran_is q l).1) ∙ ap (sum_to (events_at dones)) (sym long) ∙ sym (events_sum dones))

      pub turns_stepped : HasStepped m world.division (length old.workers.items) world.count horizon picks rest before after (events_in dones)
      turns_stepped = record {
        steps = t.steps;
        told = t.told;
        leads = λ number more h goes. t.leads number more h (subst (λ r. Goes m (λ _. world.division) (length old.workers.items) r rest more h)
            (sym (ap (λ b. if b then begun m (number + 1) (left_by world.division t.window.history (ran_by t.window)) else Within number
            t.window) closed ∙ ap (begun m (number + 1)) left_is)) goes);
      }

    -- no worker has a part
    pub turns_idle : AllByRecursion IsIdle new.workers.items
    turns_idle = get_all IsIdle new.workers.items (λ i x e. go i x x.run (t.picked.workers_are i x e)
        (ap (λ o. has_part o || nat_lt new.drawn (length new.dones.items)) (sym e)
        ∙ lowest_none (can_go new) (length new.workers.items) t.ended i (get_inside new.workers.items i x e)))
      where
        go : (i : ℕ) (x : Worker State Body Piece) (o : Option (PartRun State Body Piece)) → IsHeldBy m Known world horizon new.drawn t.window i x o
            → (is_some o || nat_lt new.drawn (length new.dones.items)) ≡ false → IsIdle x
        go i x None h f = h.0
        go i x (Some r) h f = absurd cc
