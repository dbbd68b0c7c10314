-- The window that a world opens.
use Rattle.std.proofs.Common.{◌≡◌, ℕ, ◌<◌, ◌≤◌, List, [], ◌∷◌, ◌++◌, Some, sym, ◌∙◌, subst, ⊎_elim, arith, ◌↔◌, get_or, eq-eqb, lt-ltb, ltb-true}
use Rattle.std.specs.Prelude.{nat_lt, ◌==◌, ◌&&◌}
use Rattle.std.proofs.lemmas.Bool.{and_from, and_parts, eqb-true}
use Rattle.std.specs.List.{Contains}
use Rattle.des_event.specs.declared.event.Event.{Event}
use Rattle.des_event.specs.Keys.{IsBefore}
use Rattle.des_event.specs.KeyOrder.{InKeyOrder}
use Rattle.des_event.proofs.KeyLists.{all_from, all_in, Contains-from_IsIn, IsIn-from_Contains}
use Rattle.des_event.proofs.Members.{contains_append, contains_filter, contains_left, filter_contains}
use Rattle.des_model.specs.Histories.{history, pending}
use Rattle.des_model.specs.Laws.{MayOpen}
use Rattle.des_model.specs.Windows.{part_of, waiting}
use Rattle.des_model.proofs.Horizons.{horizon_may_open}
use Rattle.des_model.proofs.Runs.{history_is_legal}
use Rattle.des_queue.specs.EventKey.{event_key}
use Rattle.des_queue.proofs.Inserting.{ordered_apart, AreApart}
use Rattle.des_parts.specs.declared.world.PartEvents.{PartEvents}
use Rattle.des_parts.specs.declared.world.World.{World}
use Rattle.des_parts.specs.PartRuns.{IsWindow}
use Rattle.des_parts.specs.Worlds.{IsSplit, IsWorldOf, events_of}
use Rattle.des_model.specs.Machine.{Machine}
use Rattle.des_machine.specs.Simulable.{IsSimulable}
use Rattle.des_window.proofs.Openings.{OpensWith, opens_with}
use Rattle.des_window.specs.declared.opening.Opening.{Opening}

module _ {Body : Type 0} where
  pub ordered_front : (xs ys : List (Event Body)) → InKeyOrder event_key (xs ++ ys) → InKeyOrder event_key xs
  ordered_front [] ys o = tt
  ordered_front (x ∷ xs) ys o = (
    all_from (λ (y : Event Body). IsBefore x.key y.key) xs (λ y c. all_in (λ (y : Event Body). IsBefore x.key y.key) (xs ++ ys) o.0 y
        (IsIn-from_Contains (xs ++ ys) y (contains_left xs ys y (Contains-from_IsIn xs y c)))),
    ordered_front xs ys o.1,
  )

module _ {State Body Piece : Type 0} {Sound : ℕ → State → Type 0} {Fit : Event Body → Type 0} {Room : State → Type 0} (m : Machine State Body Piece)
    (sim : IsSimulable m Sound Fit Room) (world : World State Body) (is : IsWorldOf m world) (o : Opening) (opening : world.opening ≡ Some o) where
  with_event : OpensWith m (history m world.count) o
  with_event = opens_with m (history m world.count) o (sym is.opening_is ∙ opening)

  pub window_may_open : MayOpen m (history m world.count) o.time o.horizon
  window_may_open = subst (λ t. MayOpen m (history m world.count) t o.horizon) (sym with_event.time_is)
      (subst (λ k. MayOpen m (history m world.count) with_event.event.key.time k) (sym with_event.horizon_is)
      (horizon_may_open m sim.well_formed (history m world.count) with_event.event (history_is_legal m world.count)
      with_event.next_is))

  module _ (part : ℕ) (inside : part < world.division.parts) (e : PartEvents Body) (at : e ≡ get_or world.parts.items part e) where
    all_ordered : InKeyOrder event_key (e.due.items ++ e.later)
    all_ordered = subst (λ (z : PartEvents Body). InKeyOrder event_key (events_of z)) (sym at) (is.events_are part e inside).ordered

    halves : IsSplit o.horizon e
    halves = subst (λ (z : PartEvents Body). IsSplit o.horizon z) (sym at) (is.split o part e opening inside)

    pub window_is : IsWindow m world o.horizon e.due.items
    window_is = record { time = o.time; may_open = window_may_open; ordered = ordered_front e.due.items e.later all_ordered }

    pub due_apart : AreApart e.due.items
    due_apart = ordered_apart e.due.items (ordered_front e.due.items e.later all_ordered)

    -- what is due at the part is what waits there
    pub due_waits : (x : Event Body) → Contains e.due.items x ↔ Contains
        (waiting m world.division (history m world.count) o.horizon part []) x
    due_waits x = (there, back)
      where
        same : Contains (e.due.items ++ e.later) x ↔ (Contains (pending m (history m world.count)) x
            × (part_of world.division x.target ≡ part))
        same = subst (λ (z : PartEvents Body). Contains (events_of z) x ↔ (Contains (pending m (history m world.count)) x
            × (part_of world.division x.target ≡ part))) (sym at) ((is.events_are part e inside).same x)

        there : Contains e.due.items x → Contains (waiting m world.division (history m world.count) o.horizon part []) x
        there c =
            let f = same.0 (contains_left e.due.items e.later x c) in
            let early : x.key.time < o.horizon =
            all_in (λ (y : Event Body). y.key.time < o.horizon) e.due.items halves.early x (IsIn-from_Contains e.due.items x c) in
            contains_filter (λ (y : Event Body). part_of world.division y.target == part && nat_lt y.key.time o.horizon)
            (pending m (history m world.count)) x f.0
            (and_from (part_of world.division x.target == part) (nat_lt x.key.time o.horizon) (eq-eqb (part_of world.division x.target) part f.1)
            (lt-ltb x.key.time o.horizon early))

        back : Contains (waiting m world.division (history m world.count) o.horizon part []) x → Contains e.due.items x
        back c =
            let f = filter_contains (λ (y : Event Body). part_of world.division y.target == part && nat_lt y.key.time o.horizon)
            (pending m (history m world.count)) x c in
            let b = and_parts (part_of world.division x.target == part) (nat_lt x.key.time o.horizon) f.1 in
            let early : x.key.time < o.horizon = ltb-true x.key.time o.horizon b.1 in
            ⊎_elim (λ k. k)
            (λ k. let late : o.horizon ≤ x.key.time = all_in (λ (y : Event Body). o.horizon ≤ y.key.time) e.later halves.late x (IsIn-from_Contains e.later x k)
            in absurd (omega (arith, early, late)))
            (contains_append e.due.items e.later x (same.1 (f.0, eqb-true (part_of world.division x.target) part b.0)))
