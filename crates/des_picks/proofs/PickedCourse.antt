-- How a run whose workers take turns goes on from window to window.
use Rattle.std.proofs.Common.{◌≡◌, ◌∙◌, ℕ, ◌+◌, ◌++◌, List, [], Option, None, Some, option_map, map, refl, ap, sym, subst, append_assoc, append-nil}
use Rattle.std.proofs.lemmas.List.{map-append}
use Rattle.std.proofs.lemmas.Option.{none-some}
use Rattle.des_event.specs.declared.event.Event.{Event}
use Rattle.des_model.specs.Histories.{history, next}
use Rattle.des_model.specs.Schedules.{Goes, begun, begun_at, horizon_from}
use Rattle.des_model.specs.Schedules.Goes.{ends}
use Rattle.des_model.specs.Schedules.Run.{Ended, Within}
use Rattle.des_model.specs.Windows.{Division, opened}
use Rattle.des_picks.specs.declared.step.Taken.{Taken}
use Rattle.des_parts.specs.declared.world.World.{World}
use Rattle.des_picks.specs.Picked.{HasStepped, shown}
use Rattle.des_picks.specs.PickedRuns.{AreStepsOf, HasCome}
use Rattle.des_parts.specs.Worlds.{IsWorldOf}
use Rattle.des_model.specs.Machine.{Machine}
use Rattle.des_window.specs.declared.opening.Opening.{Opening}
use Rattle.des_window.proofs.Openings.{opens_with}

module _ {State Body Piece : Type 0} where
  module _ (m : Machine State Body Piece) (world : World State Body) (is : IsWorldOf m world) where
    -- the next window of the window machine
    within : (o : Opening) → world.opening ≡ Some o → (number : ℕ) → begun m number (history m world.count)
        ≡ Within number (opened (history m world.count) o.horizon)
    within o opening number =
        let w = opens_with m (history m world.count) o (sym is.opening_is ∙ opening) in
        ap (begun_at m number (history m world.count)) w.next_is
        ∙ ap (λ k. Within number (opened (history m world.count) k)) (sym w.horizon_is)

    -- if there is none, the run has ended
    ended : world.opening ≡ None → (number : ℕ) → begun m number (history m world.count) ≡ Ended (history m world.count)
    ended none number = go (next m (history m world.count)) (sym is.opening_is ∙ none)
      where
        some_none : (o : Opening) → Some o ≡ None → ⊥
        some_none o k = none-some o (sym k)

        go : (n : Option (Event Body)) → option_map {U = Opening} (λ (z : Event Body). record {
          time = z.key.time;
          horizon = horizon_from m z.key.time;
        }) n ≡ None
            → begun_at m number (history m world.count) n ≡ Ended (history m world.count)
        go None e = refl
        go (Some z) e = absurd (some_none (record { time = z.key.time; horizon = horizon_from m z.key.time }) e)

    module _ (d : Division) (workers : ℕ) (picks rest : List ℕ) (taken : List Taken) (come : HasCome m d workers picks rest world.count taken) where
      -- one window more
      pub come_on : (o : Opening) → world.opening ≡ Some o → (rest' : List ℕ) (after : List Taken) (events count : ℕ)
          → HasStepped m d workers world.count o.horizon rest rest' taken after events
          → count ≡ world.count + events → HasCome m d workers picks rest' count after
      come_on o opening rest' after events count stepped count_is = record {
        number = come.number + 1;
        steps = come.steps ++ stepped.steps;
        told = stepped.told ∙ ap (λ l. l ++ map shown stepped.steps) come.told ∙ sym (map-append shown come.steps stepped.steps);
        leads = λ more h goes.
            subst (λ s. Goes m (λ _. d) workers (begun m 0 []) picks s h) (sym (append_assoc come.steps stepped.steps more))
            (come.leads (stepped.steps ++ more) h (subst (λ r. Goes m (λ _. d) workers r rest (stepped.steps ++ more) h)
            (sym (within o opening come.number))
            (stepped.leads come.number more h (subst (λ k. Goes m (λ _. d) workers (begun m (come.number + 1) (history m k))
            rest' more h) count_is goes))));
      }

      -- the steps of the whole run
      pub all_steps : world.opening ≡ None → AreStepsOf m d workers picks taken
      all_steps none = record {
        steps = come.steps;
        told = come.told;
        history_left = history m world.count;
        goes = subst (λ s. Goes m (λ _. d) workers (begun m 0 []) picks s (history m world.count)) (append-nil come.steps)
            (come.leads [] (history m world.count) (subst (λ r. Goes m (λ _. d) workers r rest [] (history m world.count))
            (sym (ended none come.number)) ends));
      }

  -- before the first step
  pub come_first : (m : Machine State Body Piece) (d : Division) (workers : ℕ) (picks : List ℕ) (count : ℕ) (taken : List Taken) → count ≡ 0 → taken ≡ []
      → HasCome m d workers picks picks count taken
  come_first m d workers picks count taken zero none = record {
    number = 0;
    steps = [];
    told = none;
    leads = λ more h goes. subst (λ k. Goes m (λ _. d) workers (begun m 0 (history m k)) picks more h) zero goes;
  }
