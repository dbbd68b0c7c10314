-- Each lookup ends in time.
use Rattle.std.proofs.Common.{◌≡◌, ◌≢◌, ◌==◌, ◌&&◌, ◌⊎◌, inl, inr, ℕ, ◌+◌, ◌-◌, ◌*◌, ◌<◌, ◌≤◌, Bool, true, false, cond, List, [], ◌∷◌, ◌++◌, get_or, Option, refl, sym, ◌∙◌, ap, subst, arith}
use Rattle.std.proofs.Math.Nat.{add-mul, mul-le-mul_right}
use Rattle.std.proofs.lemmas.Bool.{cases_eq}
use Rattle.std.proofs.lemmas.Bool.Decides.{nat_tests}
use Rattle.std.proofs.lemmas.List.Elements.{All-append}
use Rattle.std.proofs.lemmas.List.Sums.{sum_by-cons}
use Rattle.std.specs.List.{All, Contains, count_by}
use Rattle.std.specs.Prelude.{if◌then◌else◌}
use Rattle.chord_event.specs.declared.body.Body.{Body}
use Rattle.chord_event.specs.declared.body.Body.TheVariants as body
use Rattle.des_event.specs.declared.event.Event.{Event}
use Rattle.des_event.proofs.Members.{All_at, contains_at, contains_append, contains_cons, contains_here, contains_none, contains_there, filter_contains}
use Rattle.chord_event.specs.declared.line.Line.{Line}
use Rattle.des_model.specs.Histories.{full_history, output, IsLegal, IsPossible, pending, state}
use Rattle.des_model.proofs.Distinct.{fit_event, made_later, meets, sound_state, state_here, state_other}
use Rattle.des_model.proofs.Pending.{waits_from}
use Rattle.des_model.proofs.Runs.{history_is_legal, possible_from_legal}
use Rattle.chord_node.specs.declared.state.Call.{Call}
use Rattle.chord_node.specs.declared.state.Lookup.{Lookup}
use Rattle.chord_node.specs.declared.state.NodeState.{NodeState}
use Rattle.chord_node.specs.Ring.{first_member, initial_state, never_up}
use Rattle.chord_ops.specs.Ends.{Proceeds, TakesAtMost, most_sends, sends, times_again}
use Rattle.chord_ops.specs.Rules.{effect}
use Rattle.chord_ops.specs.Sound.{IsSoundEvent}
use Rattle.chord_ops.specs.Timers.{is_timer, set_for}
use Rattle.chord_ops.specs.Timers.Timer.{Timeout}
use Rattle.chord_ops.proofs.Carried.{AreTimely, IsTimely, is_timeout}
use Rattle.chord_ops.proofs.Ends.{all_proceed, all_timely, call_counted, few_requests}
use Rattle.chord_ops.proofs.KeptRules.{none_of}
use Rattle.chord_ops.proofs.Times.{all_timed}
use Rattle.chord_ops.proofs.Ongoing.{is_set, same_node}
use Rattle.chord_scenario.specs.declared.scenario.Scenario.{Scenario}
use Rattle.chord_scenario.specs.Range.{IsInRange}
use Rattle.chord_scenario.specs.World.{is_initial, node_count}
use Rattle.chord_machine.specs.Chord.{chord}
use Rattle.chord_laws.specs.Ends.{EndsWithin, IsTimeoutOf, LookupsAreInTime, LookupsAreShort, LookupsTakeAtMost, NoneLastsLonger}
use Rattle.chord_machine.specs.Sound.{IsStateOf}
use Rattle.chord_trace.specs.Pieces.{lines_of}
use Rattle.chord_laws.proofs.Accounts.{lines_more, lines_whole}
use Rattle.chord_laws.proofs.Counted.{beside, counted_after, counted_before, pending_after}
use Rattle.chord_laws.proofs.OngoingHistories.{all_go_on, made_elsewhere, retries_are_limited}
use Rattle.chord_machine.proofs.WellFormed.{well_formed}

-- Counts

more_by_one : (a b : ℕ) → a < b → a + 1 ≤ b
more_by_one a b less = omega (arith, less)

contains_counted : {X : Type 0} (p : X → Bool) (xs : List X) (x : X) → Contains xs x → p x ≡ true → 1 ≤ count_by p xs
contains_counted p [] x c is = absurd (contains_none x c)
contains_counted {X} p (y ∷ ys) x c is = go (contains_cons x y ys c) (λ r. contains_counted p ys x r is)
  where
    go : (y ≡ x) ⊎ Contains ys x → (Contains ys x → 1 ≤ count_by p ys) → 1 ≤ count_by p (y ∷ ys)
    go (inl same) ih =
        let one : ◌≡◌ {A = ℕ} (cond (p y) 1 0) 1 = ap {B = ℕ} (λ (b : Bool). cond b 1 0) (ap p same ∙ is) in
        omega (arith, sum_by-cons (λ (z : X). cond (p z) 1 0) y ys, one)
    go (inr rest) ih = omega (arith, sum_by-cons (λ (z : X). cond (p z) 1 0) y ys, ih rest)

-- one of those that are counted
record IsCounted {X : Type 0} (p : X → Bool) (xs : List X) : Type 0 where
  pub one : X
  pub there : Contains xs one
  pub passes : p one ≡ true

counted_one : {X : Type 0} (p : X → Bool) (xs : List X) → 1 ≤ count_by p xs → IsCounted p xs
counted_one p [] some = absurd (omega (arith, some))
counted_one {X} p (y ∷ ys) some = by (p y) refl (λ later. counted_one p ys later)
  where
    by : (b : Bool) → p y ≡ b → (1 ≤ count_by p ys → IsCounted p ys) → IsCounted p (y ∷ ys)
    by true test ih = record { one = y; there = contains_here y ys; passes = test }
    by false test ih =
        let none : ◌≡◌ {A = ℕ} (cond (p y) 1 0) 0 = ap {B = ℕ} (λ (b : Bool). cond b 1 0) test in
        let rest = ih (omega (arith, some, sum_by-cons (λ (z : X). cond (p z) 1 0) y ys, none)) in
        record { one = rest.one; there = contains_there rest.one y ys rest.there; passes = rest.passes }

-- Timeouts

-- the test for the timeout of a call of node n
abbrev times : (n number : ℕ) → Event Body → Bool
times n number x = is_timer x.body Timeout number && (x.target == n)

both_true : (a b : Bool) → (a && b) ≡ true → (a ≡ true) × (b ≡ true)
both_true true true is = (refl, refl)
both_true true false is = absurd (cc)
both_true false b is = absurd (cc)

timeout_from : (message : Body) (number : ℕ) → is_timer message Timeout number ≡ true → message ≡ body.Timeout number
timeout_from (body.Timeout k) number is =
    let same : k ≡ number = grind (arith, nat_tests) in ap (λ (m : ℕ). body.Timeout m) same
timeout_from _ number is = absurd (cc)

times_from : (n number : ℕ) (x : Event Body) → times n number x ≡ true → IsTimeoutOf n number x
times_from n number x is =
    let parts = both_true (is_timer x.body Timeout number) (x.target == n) is in
    let here : x.target ≡ n = target_from parts.1 in
    (here, timeout_from x.body number parts.0)
  where
    target_from : (x.target == n) ≡ true → x.target ≡ n
    target_from test = grind (arith, nat_tests)

times_of : (n number : ℕ) (x : Event Body) → IsTimeoutOf n number x → times n number x ≡ true
times_of n number x is =
    ap (λ (b : Body). is_timer b Timeout number && (x.target == n)) is.1
    ∙ ap (λ (b : Bool). b && (x.target == n)) (same_node number)
    ∙ ap (λ (m : ℕ). m == n) is.0 ∙ same_node n

starts_alone : (sc : Scenario) (P : Lookup → Type 0) (n : ℕ) → All P (initial_state sc n).lookups
unfolding initial_state first_member
starts_alone sc P n = by (is_initial sc n)
  where
    by : (b : Bool) → All P (if b then first_member sc n else never_up n).lookups
    by true = none_of P
    by false = none_of P

-- how many timeouts of a call are pending
module _ (sc : Scenario) (ranges : IsInRange sc) (h : List (Event Body)) (possible : IsPossible (chord sc) h) (n : ℕ) (inside : n < node_count sc) where
  me_is : (state (chord sc) h n).me ≡ n
  me_is = ((meets (chord sc) (well_formed sc ranges) h possible).sound n inside).me

  pending_here : (number : ℕ) → set_for (state (chord sc) h n).me Timeout number (pending (chord sc) h) ≡ set_for n Timeout number (pending (chord sc) h)
  pending_here number = ap (λ (m : ℕ). set_for m Timeout number (pending (chord sc) h)) me_is

  most_one : (number : ℕ) → set_for n Timeout number (pending (chord sc) h) ≤ 1
  most_one number = omega (arith, ((all_go_on sc ranges h possible n inside).timed number).once, pending_here number)

  none_unused : (number : ℕ) → (state (chord sc) h n).count < number → set_for n Timeout number (pending (chord sc) h) ≡ 0
  none_unused number above = omega (arith, ((all_go_on sc ranges h possible n inside).timed number).counted above, pending_here number)

  some_waiting : (lookup : Lookup) → Contains (state (chord sc) h n).lookups lookup → 1 ≤ set_for n Timeout lookup.call (pending (chord sc) h)
  some_waiting lookup c =
      omega (
        arith,
        ((all_go_on sc ranges h possible n inside).timed lookup.call).enough,
        pending_here lookup.call,
        call_counted sc (state (chord sc) h n) ((meets (chord sc) (well_formed sc ranges) h possible).sound n inside).invariant lookup c,
      )

module _ (sc : Scenario) (ranges : IsInRange sc) (h : List (Event Body)) (e : Event Body) (legal : IsLegal (chord sc) (e ∷ h)) where
  possible : IsPossible (chord sc) (e ∷ h)
  possible = possible_from_legal (chord sc) (e ∷ h) legal

  known : IsSoundEvent sc e
  known = fit_event (chord sc) (well_formed sc ranges) h possible.0 e (waits_from (chord sc) h e possible.1).known

  target_is : IsStateOf sc e.target (state (chord sc) h e.target)
  target_is = sound_state (chord sc) (well_formed sc ranges) h possible.0 e (waits_from (chord sc) h e possible.1).known

  split : (x : Event Body) → Contains (pending (chord sc) (e ∷ h)) x
      → Contains (effect sc (state (chord sc) h e.target) e).events x ⊎ Contains (beside e (pending (chord sc) h)) x
  split x c =
      contains_append (effect sc (state (chord sc) h e.target) e).events (beside e (pending (chord sc) h)) x
      (subst (λ (es : List (Event Body)). Contains es x) (pending_after (chord sc) (well_formed sc ranges) h e possible) c)

  was_pending : (x : Event Body) → Contains (beside e (pending (chord sc) h)) x → Contains (pending (chord sc) h) x
  was_pending x c = (filter_contains _ (pending (chord sc) h) x c).0

  count_before : (n number : ℕ)
      → set_for n Timeout number (pending (chord sc) h) ≡ is_set n Timeout number e + set_for n Timeout number (beside e (pending (chord sc) h))
  count_before n number = counted_before (chord sc) (well_formed sc ranges) h e possible (times n number)

  count_after : (n number : ℕ) → set_for n Timeout number (pending (chord sc) (e ∷ h))
      ≡ set_for n Timeout number (effect sc (state (chord sc) h e.target) e).events + set_for n Timeout number (beside e (pending (chord sc) h))
  count_after n number = counted_after (chord sc) (well_formed sc ranges) h e possible (times n number)

  seldom : All (λ (c : Call). c.resent ≤ sc.retries) (state (chord sc) h e.target).calls
  seldom = retries_are_limited sc ranges h possible.0 e.target known.target

  timely : AreTimely sc e.key.time (effect sc (state (chord sc) h e.target) e).events
  timely = all_timely sc (state (chord sc) h e.target) e ranges target_is.invariant known seldom

  made_in_time : (number : ℕ) (x : Event Body) → Contains (effect sc (state (chord sc) h e.target) e).events x → IsTimeoutOf e.target number x
      → x.key.time ≡ e.key.time + sc.timeout
  made_in_time number x c is =
      All_at (IsTimely sc e.key.time) (effect sc (state (chord sc) h e.target) e).events x timely c (timeout_is x.body number is.1)
    where
      timeout_is : (message : Body) (k : ℕ) → message ≡ body.Timeout k → is_timeout message ≡ true
      timeout_is message k same = ap is_timeout same

  -- a timeout that was pending beside the event is none of a new call
  not_new : (number : ℕ) (x : Event Body) → Contains (beside e (pending (chord sc) h)) x → IsTimeoutOf e.target number x
      → (state (chord sc) h e.target).count < number → ⊥
  not_new number x c is above =
      omega (
        arith,
        contains_counted (times e.target number) (pending (chord sc) h) x (was_pending x c) (times_of e.target number x is),
        none_unused sc ranges h possible.0 e.target known.target number above,
      )

  -- and not a second one of the event's own call
  not_again : (number : ℕ) (x : Event Body) → Contains (beside e (pending (chord sc) h)) x → IsTimeoutOf e.target number x
      → e.body ≡ body.Timeout number → ⊥
  not_again number x c is same =
      let own : ◌≡◌ {A = ℕ} (is_set e.target Timeout number e) 1 =
      ap {B = ℕ} (λ (b : Bool). cond b 1 0) (times_of e.target number e (refl, same)) in
      omega (
        arith,
        contains_counted (times e.target number) (beside e (pending (chord sc) h)) x c (times_of e.target number x is),
        most_one sc ranges h possible.0 e.target known.target number,
        count_before e.target number,
        own,
      )

  -- a lookup that waits on has its timeout already
  not_twice : (lookup : Lookup) (x : Event Body) → Contains (state (chord sc) h e.target).lookups lookup
      → Contains (effect sc (state (chord sc) h e.target) e).events x → IsTimeoutOf e.target lookup.call x → e.body ≢ body.Timeout lookup.call → ⊥
  not_twice lookup x was c is other =
      omega (
        arith,
        contains_counted (times e.target lookup.call) (effect sc (state (chord sc) h e.target) e).events x c (times_of e.target lookup.call x is),
        some_waiting sc ranges h possible.0 e.target known.target lookup was,
        count_before e.target lookup.call,
        count_after e.target lookup.call,
        most_one sc ranges (e ∷ h) possible e.target known.target lookup.call,
        not_own (times e.target lookup.call e) refl,
      )
    where
      not_own : (b : Bool) → times e.target lookup.call e ≡ b → ◌≡◌ {A = ℕ} (is_set e.target Timeout lookup.call e) 0
      not_own true test = absurd (other (times_from e.target lookup.call e test).1)
      not_own false test = ap {B = ℕ} (λ (b : Bool). cond b 1 0) test

  -- the event comes before the timeout of each lookup of its target
  comes_first : (lookup : Lookup) → Contains (state (chord sc) h e.target).lookups lookup
      → EndsWithin sc h e.target lookup (sends sc (state (chord sc) h e.target) lookup)
      → e.key.time ≤ lookup.started + sends sc (state (chord sc) h e.target) lookup * sc.timeout
  comes_first lookup was ends =
      let y = counted_one (times e.target lookup.call) (pending (chord sc) h)
      (some_waiting sc ranges h possible.0 e.target known.target lookup was) in
      omega (arith, (legal.1.first y.one y.there).time, ends y.one y.there (times_from e.target lookup.call y.one y.passes))

  -- no line of the event tells of a longer time
  lines_in_time : All (λ lookup. EndsWithin sc h e.target lookup (sends sc (state (chord sc) h e.target) lookup)) (state (chord sc) h e.target).lookups
      → All (TakesAtMost (most_sends sc * sc.timeout)) (effect sc (state (chord sc) h e.target) e).lines
  lines_in_time ih =
      all_timed sc (state (chord sc) h e.target) e (most_sends sc * sc.timeout) target_is.invariant
      (λ k d within.
      let lookup : Lookup = get_or (state (chord sc) h e.target).lookups k d in
      let few : sends sc (state (chord sc) h e.target) lookup ≤ most_sends sc =
      few_requests sc (state (chord sc) h e.target) target_is.invariant seldom k d within in
      omega (
        arith,
        comes_first lookup (contains_at (state (chord sc) h e.target).lookups k d within) (ih k d within),
        mul-le-mul_right sc.timeout few,
      ))

  -- at the target
  here : All (λ lookup. EndsWithin sc h e.target lookup (sends sc (state (chord sc) h e.target) lookup)) (state (chord sc) h e.target).lookups
      → All (λ lookup. EndsWithin sc (e ∷ h) e.target lookup (sends sc (effect sc (state (chord sc) h e.target) e).state lookup))
      (effect sc (state (chord sc) h e.target) e).state.lookups
  here ih = λ k d within x c is.
      by (get_or after.lookups k d)
      (all_proceed sc (state (chord sc) h e.target) e ranges target_is.invariant known seldom k d within) x (split x c) is
    where
      after : NodeState
      after = (effect sc (state (chord sc) h e.target) e).state

      old_ends : (lookup : Lookup) → Contains (state (chord sc) h e.target).lookups lookup
          → EndsWithin sc h e.target lookup (sends sc (state (chord sc) h e.target) lookup)
      old_ends lookup was =
          All_at (λ (l : Lookup). EndsWithin sc h e.target l (sends sc (state (chord sc) h e.target) l)) (state (chord sc) h e.target).lookups lookup ih was

      by : (lookup : Lookup)
          → Proceeds sc e (state (chord sc) h e.target) (effect sc (state (chord sc) h e.target) e).state lookup → (x : Event Body)
          → Contains (effect sc (state (chord sc) h e.target) e).events x ⊎ Contains (beside e (pending (chord sc) h)) x → IsTimeoutOf e.target lookup.call x
          → x.key.time ≤ lookup.started + sends sc (effect sc (state (chord sc) h e.target) e).state lookup * sc.timeout
      by lookup (inl waits) x (inl new) is = absurd (not_twice lookup x waits.was new is waits.other)
      by lookup (inl waits) x (inr old) is =
          let same = ap (λ (o : Option Call). ((lookup.steps - 1) * (sc.retries + 1) + times_again o + 1) * sc.timeout) waits.same_call in
          omega (arith, old_ends lookup waits.was x (was_pending x old) is, same)
      by lookup (inr (inl begins)) x (inl new) is =
          omega (arith, made_in_time lookup.call x new is, begins.started, ap (λ (n : ℕ). n * sc.timeout) begins.one)
      by lookup (inr (inl begins)) x (inr old) is = absurd (not_new lookup.call x old is begins.new_call)
      by lookup (inr (inr gone)) x (inl new) is =
          let sent : ℕ = sends sc (state (chord sc) h e.target) gone.old in
          omega (
            arith,
            made_in_time lookup.call x new is,
            comes_first gone.old gone.was (old_ends gone.old gone.was),
            gone.started,
            add-mul sent 1 sc.timeout,
            mul-le-mul_right sc.timeout (more_by_one sent _ gone.more),
          )
      by lookup (inr (inr gone)) x (inr old) is = asked gone.asks
        where
          asked : ((state (chord sc) h e.target).count < lookup.call) ⊎ (e.body ≡ body.Timeout lookup.call)
              → x.key.time ≤ lookup.started + sends sc (effect sc (state (chord sc) h e.target) e).state lookup * sc.timeout
          asked (inl above) = absurd (not_new lookup.call x old is above)
          asked (inr same) = absurd (not_again lookup.call x old is same)

  -- at another node, for which the event makes no timeout
  there : (n : ℕ) → e.target ≢ n → n < node_count sc
      → All (λ lookup. EndsWithin sc h n lookup (sends sc (state (chord sc) h n) lookup)) (state (chord sc) h n).lookups
      → All (λ lookup. EndsWithin sc (e ∷ h) n lookup (sends sc (state (chord sc) h n) lookup)) (state (chord sc) h n).lookups
  there n apart inside ih = λ k d within x c is. by x (get_or (state (chord sc) h n).lookups k d) (split x c) is (ih k d within x)
    where
      by : (x : Event Body) (lookup : Lookup) → Contains (effect sc (state (chord sc) h e.target) e).events x ⊎ Contains (beside e (pending (chord sc) h)) x
          → IsTimeoutOf n lookup.call x
          → (Contains (pending (chord sc) h) x → IsTimeoutOf n lookup.call x
          → x.key.time ≤ lookup.started + sends sc (state (chord sc) h n) lookup * sc.timeout)
          → x.key.time ≤ lookup.started + sends sc (state (chord sc) h n) lookup * sc.timeout
      by x lookup (inl new) is old =
          absurd (omega (
            arith,
            contains_counted (times n lookup.call) (effect sc (state (chord sc) h e.target) e).events x new (times_of n lookup.call x is),
            made_elsewhere sc ranges h e possible n apart Timeout lookup.call,
          ))
      by x lookup (inr was) is old = old (was_pending x was) is

pub lookups_are_in_time : (sc : Scenario) → IsInRange sc → LookupsAreInTime sc
lookups_are_in_time sc ranges [] legal n inside = starts_alone sc (λ lookup. EndsWithin sc [] n lookup (sends sc (initial_state sc n) lookup)) n
lookups_are_in_time sc ranges (e ∷ h) legal n inside = go (cases_eq e.target n) (lookups_are_in_time sc ranges h legal.0)
  where
    go : (e.target ≡ n) ⊎ (e.target ≡ n → ⊥)
        → ((m : ℕ) → m < node_count sc → All (λ lookup. EndsWithin sc h m lookup (sends sc (state (chord sc) h m) lookup)) (state (chord sc) h m).lookups)
        → All (λ lookup. EndsWithin sc (e ∷ h) n lookup (sends sc (state (chord sc) (e ∷ h) n) lookup)) (state (chord sc) (e ∷ h) n).lookups
    go (inl same) ih =
        subst (λ (s : NodeState). All (λ lookup. EndsWithin sc (e ∷ h) n lookup (sends sc s lookup)) s.lookups) (sym (state_here (chord sc) e h n same))
        (subst (λ (m : ℕ). All (λ lookup. EndsWithin sc (e ∷ h) m lookup (sends sc (effect sc (state (chord sc) h m) e).state lookup))
        (effect sc (state (chord sc) h m) e).state.lookups) same
        (here sc ranges h e legal (ih e.target (known sc ranges h e legal).target)))
    go (inr apart) ih =
        subst (λ (s : NodeState). All (λ lookup. EndsWithin sc (e ∷ h) n lookup (sends sc s lookup)) s.lookups) (sym (state_other (chord sc) e h n apart))
        (there sc ranges h e legal n apart inside (ih n inside))

pub lookups_are_short : (sc : Scenario) → IsInRange sc → LookupsAreShort sc
lookups_are_short sc ranges h legal n inside = λ k d within x c is.
    let s : NodeState = state (chord sc) h n in
    let p : IsPossible (chord sc) h = possible_from_legal (chord sc) h legal in
    let few : sends sc s (get_or s.lookups k d) ≤ most_sends sc =
    few_requests sc s ((meets (chord sc) (well_formed sc ranges) h p).sound n inside).invariant (retries_are_limited sc ranges h p n inside) k d within in
    omega (arith, lookups_are_in_time sc ranges h legal n inside k d within x c is, mul-le-mul_right sc.timeout few)

-- the lines of a run so far
lines_take_at_most : (sc : Scenario) → IsInRange sc → (h : List (Event Body)) → IsLegal (chord sc) h
    → All (TakesAtMost (most_sends sc * sc.timeout)) (lines_of (output (chord sc) h))
lines_take_at_most sc ranges [] legal = none_of (TakesAtMost (most_sends sc * sc.timeout))
lines_take_at_most sc ranges (e ∷ h) legal =
    let Short : Line → Type 0 = TakesAtMost (most_sends sc * sc.timeout) in
    let new : List Line = (effect sc (state (chord sc) h e.target) e).lines in
    subst (λ (ls : List Line). All Short ls) (sym (lines_more sc h e))
    (All-append Short (lines_of (output (chord sc) h)) (new ++ []) (lines_take_at_most sc ranges h legal.0)
    (All-append Short new []
    (lines_in_time sc ranges h e legal (lookups_are_in_time sc ranges h legal.0 e.target (known sc ranges h e legal).target))
    (none_of Short)))

pub lookups_take_at_most : (sc : Scenario) → IsInRange sc → LookupsTakeAtMost sc
lookups_take_at_most sc ranges =
    let Short : Line → Type 0 = TakesAtMost (most_sends sc * sc.timeout) in
    let h : List (Event Body) = full_history (chord sc) in
    subst (λ (ls : List Line). All Short ls) (sym (lines_whole sc h))
    (All-append Short (lines_of (output (chord sc) h)) []
    (lines_take_at_most sc ranges h (history_is_legal (chord sc) sc.max_events)) (none_of Short))

pub none_lasts_longer : (sc : Scenario) → IsInRange sc → NoneLastsLonger sc
none_lasts_longer sc ranges h e legal n inside = λ k d within.
    let lookup : Lookup = get_or (state (chord sc) (e ∷ h) n).lookups k d in
    let y = counted_one (times n lookup.call) (pending (chord sc) (e ∷ h))
    (some_waiting sc ranges (e ∷ h) (possible sc ranges h e legal) n inside lookup (contains_at (state (chord sc) (e ∷ h) n).lookups k d within)) in
    let ends = lookups_are_short sc ranges (e ∷ h) legal n inside k d within y.one y.there (times_from n lookup.call y.one y.passes) in
    let later : e.key.time ≤ y.one.key.time = by y.one (split sc ranges h e legal y.one y.there) in
    omega (arith, ends, later)
  where
    by : (x : Event Body) → Contains (effect sc (state (chord sc) h e.target) e).events x ⊎ Contains (beside e (pending (chord sc) h)) x
        → e.key.time ≤ x.key.time
    by x (inl new) =
        let p = possible sc ranges h e legal in
        omega (arith, made_later (chord sc) (well_formed sc ranges) h p.0 e (waits_from (chord sc) h e p.1).known x new)
    by x (inr old) = (legal.1.first x (was_pending sc ranges h e legal x old)).time
