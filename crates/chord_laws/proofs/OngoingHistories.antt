-- What the nodes wait for is pending after each possible history.
use Rattle.std.proofs.Common.{◌≡◌, ◌≢◌, ◌==◌, ◌&&◌, Bool, ◌⊎◌, inl, inr, ℕ, ◌+◌, ◌<◌, ◌≤◌, cond, List, [], ◌∷◌, refl, sym, ◌∙◌, ap, subst, arith}
use Rattle.std.proofs.lemmas.Bool.{cases_eq}
use Rattle.std.proofs.lemmas.List.Sums.{sum_by-cons}
use Rattle.std.specs.List.{Contains}
use Rattle.std.specs.Prelude.{get_or}
use Rattle.chord_event.specs.declared.body.Body.{Body}
use Rattle.des_event.specs.declared.event.Event.{Event}
use Rattle.des_event.proofs.Members.{contains_at, contains_cons, contains_none}
use Rattle.des_model.specs.Histories.{IsPossible, pending, state}
use Rattle.des_model.proofs.Distinct.{fit_event, meets, sound_state, state_here, state_other}
use Rattle.des_model.proofs.Pending.{waits_from}
use Rattle.chord_node.specs.declared.state.Call.{Call}
use Rattle.chord_node.specs.declared.state.NodeState.{NodeState}
use Rattle.chord_node.specs.declared.state.Status.{Status}
use Rattle.chord_node.specs.declared.state.Status.TheVariants as status
use Rattle.chord_node.specs.Invariant.{calls_for, is_for_join}
use Rattle.chord_ops.specs.FirstTurns.{first_turn}
use Rattle.chord_ops.specs.Rules.{effect, opening}
use Rattle.chord_ops.specs.Sound.{IsSoundEvent}
use Rattle.chord_ops.specs.Timers.{Timer, is_timer, set_for, wanted}
use Rattle.chord_ops.specs.Timers.Timer.{Rejoin, Timeout}
use Rattle.chord_ops.specs.declared.turn.Turn.{Turn}
use Rattle.chord_ops.proofs.GrowingRules.{grows_effect}
use Rattle.chord_ops.specs.Ongoing.{FitsJoin, FitsTick, IsOngoing, numbered}
use Rattle.chord_ops.proofs.Ongoing.{is_set, other_node, recounted, same_node, set_elsewhere, set_for-cons}
use Rattle.chord_ops.proofs.OngoingRules.{going_effect}
use Rattle.chord_scenario.specs.declared.scenario.Scenario.{Scenario}
use Rattle.chord_scenario.specs.Range.{IsInRange}
use Rattle.chord_scenario.specs.World.{node_count}
use Rattle.chord_machine.specs.Chord.{chord}
use Rattle.chord_laws.specs.Ongoing.{RetriesAreLimited, CallsAreTimed, JoinsGoOn, TimersLive}
use Rattle.chord_machine.specs.Sound.{IsStateOf}
use Rattle.chord_laws.proofs.Counted.{beside, counted_after, counted_before, pending_first}
use Rattle.chord_laws.proofs.OngoingStarts.{starts_go_on}
use Rattle.chord_machine.proofs.WellFormed.{well_formed}

-- what node n waits for after a history is pending
abbrev pub GoesOn : Scenario → List (Event Body) → ℕ → Type 0
GoesOn sc h n = IsOngoing sc (wanted sc n) 0 (pending (chord sc) h) (first_turn (state (chord sc) h n))

module _ (sc : Scenario) (ranges : IsInRange sc) (h : List (Event Body)) (e : Event Body) (possible : IsPossible (chord sc) (e ∷ h)) where
  known : IsSoundEvent sc e
  known = fit_event (chord sc) (well_formed sc ranges) h possible.0 e (waits_from (chord sc) h e possible.1).known

  target_is : IsStateOf sc e.target (state (chord sc) h e.target)
  target_is = sound_state (chord sc) (well_formed sc ranges) h possible.0 e (waits_from (chord sc) h e possible.1).known

  -- the counts before and after the event
  count_before : (n : ℕ) (t : Timer) (number : ℕ)
      → set_for n t number (pending (chord sc) h) ≡ is_set n t number e + set_for n t number (beside e (pending (chord sc) h))
  count_before n t number = counted_before (chord sc) (well_formed sc ranges) h e possible (λ x. is_timer x.body t number && (x.target == n))

  count_after : (n : ℕ) (t : Timer) (number : ℕ) → set_for n t number (pending (chord sc) (e ∷ h))
      ≡ set_for n t number (effect sc (state (chord sc) h e.target) e).events + set_for n t number (beside e (pending (chord sc) h))
  count_after n t number = counted_after (chord sc) (well_formed sc ranges) h e possible (λ x. is_timer x.body t number && (x.target == n))

  -- the event's target acts on it
  acts : GoesOn sc h e.target
      → IsOngoing sc (wanted sc (state (chord sc) h e.target).me) 0 (beside e (pending (chord sc) h)) (effect sc (state (chord sc) h e.target) e)
  acts g =
      let s : NodeState = state (chord sc) h e.target in
      let named : IsOngoing sc (wanted sc s.me) 0 (pending (chord sc) h) (first_turn s) =
      subst (λ (m : ℕ). IsOngoing sc (wanted sc m) 0 (pending (chord sc) h) (first_turn s)) (sym target_is.me) g in
      going_effect sc (beside e (pending (chord sc) h)) s e ranges target_is.invariant (sym target_is.me)
      (recounted sc (wanted sc s.me) 0 (pending (chord sc) h) (e ∷ beside e (pending (chord sc) h)) (first_turn s) (opening s e)
      (λ t number. omega (arith, count_before s.me t number, set_for-cons s.me t number e (beside e (pending (chord sc) h))))
      refl (omega arith) refl refl refl (λ n t number apart. refl) named)

  same_me : (effect sc (state (chord sc) h e.target) e).state.me ≡ e.target
  same_me = (grows_effect sc (state (chord sc) h e.target) e ranges).me ∙ target_is.me

  -- at the target
  goes_on_here : GoesOn sc h e.target
      → IsOngoing sc (wanted sc e.target) 0 (pending (chord sc) (e ∷ h)) (first_turn (effect sc (state (chord sc) h e.target) e).state)
  goes_on_here g =
      let s : NodeState = state (chord sc) h e.target in
      let after : Turn = effect sc s e in
      let named : IsOngoing sc (wanted sc e.target) 0 (beside e (pending (chord sc) h)) after =
      subst (λ (m : ℕ). IsOngoing sc (wanted sc m) 0 (beside e (pending (chord sc) h)) after) target_is.me (acts g) in
      recounted sc (wanted sc e.target) 0 (beside e (pending (chord sc) h)) (pending (chord sc) (e ∷ h)) after (first_turn after.state)
      (λ t number. omega (arith, count_after after.state.me t number))
      refl (omega arith) refl refl refl (λ n t number apart. refl) named

  -- and at another node, for which the event makes no timer
  goes_on_there : (n : ℕ) → e.target ≢ n → GoesOn sc h e.target → n < node_count sc → GoesOn sc h n
      → IsOngoing sc (wanted sc n) 0 (pending (chord sc) (e ∷ h)) (first_turn (state (chord sc) h n))
  goes_on_there n apart g inside own =
      let s : NodeState = state (chord sc) h n in
      let me : s.me ≡ n = ((meets (chord sc) (well_formed sc ranges) h possible.0).sound n inside).me in
      let made_elsewhere : (t : Timer) (number : ℕ) → set_for s.me t number (effect sc (state (chord sc) h e.target) e).events ≡ 0 = λ t number.
      (acts g).own s.me t number (λ same. apart (sym same_me ∙ sym same ∙ me)) in
      let no_event : (t : Timer) (number : ℕ) → ◌≡◌ {A = ℕ} (is_set s.me t number e) 0 = λ t number.
      set_elsewhere s.me t number e (other_node e.target s.me (λ same. apart (sym same ∙ me))) in
      recounted sc (wanted sc n) 0 (pending (chord sc) h) (pending (chord sc) (e ∷ h)) (first_turn s) (first_turn s)
      (λ t number. omega (arith, count_before s.me t number, count_after s.me t number, made_elsewhere t number, no_event t number))
      refl (omega arith) refl refl refl (λ m t number other. refl) own

pub all_go_on : (sc : Scenario) → IsInRange sc → (h : List (Event Body)) → IsPossible (chord sc) h → (n : ℕ) → n < node_count sc → GoesOn sc h n
all_go_on sc ranges [] p n inside =
    subst (λ (es : List (Event Body)). IsOngoing sc (wanted sc n) 0 es (first_turn (state (chord sc) [] n))) (sym (pending_first (chord sc)))
    (starts_go_on sc n ranges inside)
all_go_on sc ranges (e ∷ h) p n inside = go (cases_eq e.target n) (all_go_on sc ranges h p.0)
  where
    go : (e.target ≡ n) ⊎ (e.target ≡ n → ⊥) → ((m : ℕ) → m < node_count sc → GoesOn sc h m) → GoesOn sc (e ∷ h) n
    go (inl same) ih =
        subst (λ (s : NodeState). IsOngoing sc (wanted sc n) 0 (pending (chord sc) (e ∷ h)) (first_turn s)) (sym (state_here (chord sc) e h n same))
        (subst (λ (m : ℕ). IsOngoing sc (wanted sc m) 0 (pending (chord sc) (e ∷ h)) (first_turn (effect sc (state (chord sc) h m) e).state)) same
        (goes_on_here sc ranges h e p (ih e.target (known sc ranges h e p).target)))
    go (inr apart) ih =
        subst (λ (s : NodeState). IsOngoing sc (wanted sc n) 0 (pending (chord sc) (e ∷ h)) (first_turn s)) (sym (state_other (chord sc) e h n apart))
        (goes_on_there sc ranges h e p n apart (ih e.target (known sc ranges h e p).target) inside (ih n inside))

-- an event makes no timer for another node than its target
pub made_elsewhere : (sc : Scenario) → IsInRange sc → (h : List (Event Body)) (e : Event Body) → IsPossible (chord sc) (e ∷ h) → (n : ℕ) → e.target ≢ n
    → (t : Timer) (number : ℕ) → set_for n t number (effect sc (state (chord sc) h e.target) e).events ≡ 0
made_elsewhere sc ranges h e p n apart t number =
    (acts sc ranges h e p (all_go_on sc ranges h p.0 e.target (known sc ranges h e p).target)).own n t number
    (λ same. apart (sym (same ∙ same_me sc ranges h e p)))

-- The laws

-- a call of a list is counted
counts_call : (number : ℕ) (calls : List Call) (call : Call) → Contains calls call → call.number ≡ number → 1 ≤ numbered number calls
counts_call number [] call c is = absurd (contains_none call c)
counts_call number (x ∷ xs) call c is = go (contains_cons call x xs c) (λ r. counts_call number xs call r is)
  where
    go : (x ≡ call) ⊎ Contains xs call → (Contains xs call → 1 ≤ numbered number xs) → 1 ≤ numbered number (x ∷ xs)
    go (inl same) ih =
        let number_is : x.number ≡ number = ap (λ (c : Call). c.number) same ∙ is in
        let one : ◌≡◌ {A = ℕ} (cond (x.number == number) 1 0) 1 =
        ap (λ (b : Bool). cond b 1 0) (ap (λ (n : ℕ). n == number) number_is ∙ same_node number) in
        omega (arith, sum_by-cons (λ (c : Call). cond (c.number == number) 1 0) x xs, one)
    go (inr rest) ih = omega (arith, sum_by-cons (λ (c : Call). cond (c.number == number) 1 0) x xs, ih rest)

pub calls_are_timed : (sc : Scenario) → IsInRange sc → CallsAreTimed sc
calls_are_timed sc ranges h p n inside k d within =
    let g = all_go_on sc ranges h p n inside in
    let s : NodeState = state (chord sc) h n in
    let me : s.me ≡ n = ((meets (chord sc) (well_formed sc ranges) h p).sound n inside).me in
    let was = g.timed (get_or s.calls k d).number in
    let here : set_for s.me Timeout (get_or s.calls k d).number (pending (chord sc) h) ≡ set_for n Timeout (get_or s.calls k d).number (pending (chord sc) h) =
    ap (λ (m : ℕ). set_for m Timeout (get_or s.calls k d).number (pending (chord sc) h)) me in
    omega (arith, was.enough, was.once, here, counts_call (get_or s.calls k d).number s.calls (get_or s.calls k d) (contains_at s.calls k d within) refl)

pub retries_are_limited : (sc : Scenario) → IsInRange sc → RetriesAreLimited sc
retries_are_limited sc ranges h p n inside = (all_go_on sc ranges h p n inside).seldom

pub joins_go_on : (sc : Scenario) → IsInRange sc → JoinsGoOn sc
joins_go_on sc ranges h p n inside joining =
    let g = all_go_on sc ranges h p n inside in
    let s : NodeState = state (chord sc) h n in
    let me : s.me ≡ n = ((meets (chord sc) (well_formed sc ranges) h p).sound n inside).me in
    let fits = subst (λ (v : Status). FitsJoin v (calls_for is_for_join s.calls) (set_for s.me Rejoin s.epoch (pending
    (chord sc) h) + 0 + 0)) joining g.joins in
    let here : set_for s.me Rejoin s.epoch (pending (chord sc) h) ≡ set_for n Rejoin s.epoch (pending (chord sc) h) =
    ap (λ (m : ℕ). set_for m Rejoin s.epoch (pending (chord sc) h)) me in
    omega (arith, fits, here)

ticks_of_up : (s : Status) (have claim : ℕ) → s ≢ status.Down → FitsTick s have claim → have ≡ claim
ticks_of_up status.Down have claim up fits = absurd (up refl)
ticks_of_up status.Joining have claim up fits = fits
ticks_of_up status.Member have claim up fits = fits

pub timers_live : (sc : Scenario) → IsInRange sc → TimersLive sc
timers_live sc ranges h p n inside up t is =
    let g = all_go_on sc ranges h p n inside in
    let s : NodeState = state (chord sc) h n in
    let me : s.me ≡ n = ((meets (chord sc) (well_formed sc ranges) h p).sound n inside).me in
    let here : set_for s.me t s.epoch (pending (chord sc) h) ≡ set_for n t s.epoch (pending (chord sc) h) =
    ap (λ (m : ℕ). set_for m t s.epoch (pending (chord sc) h)) me in
    let fits : set_for s.me t s.epoch (pending (chord sc) h) + 0 ≡ wanted sc n t = ticks_of_up s.status _ (wanted sc n t) up (g.ticks t is) in
    omega (arith, fits, here)
