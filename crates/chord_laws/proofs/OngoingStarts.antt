-- What the nodes wait for at the start is pending.
use Rattle.std.proofs.Common.{◌≡◌, ◌≢◌, ◌==◌, ◌⊎◌, ⊎_elim, inl, inr, ℕ, ◌+◌, ◌<◌, Bool, true, false, cond, List, [], ◌∷◌, ◌++◌, Option, Some, None, refl, sym, ◌∙◌, ap, subst, arith}
use Rattle.std.proofs.lemmas.Bool.{cases_eq}
use Rattle.std.proofs.lemmas.List.Sums.{sum_by-append, sum_by-cons}
use Rattle.std.specs.List.{AllByRecursion, Contains, enumerate_from, filter_map, range_with_len}
use Rattle.std.specs.Prelude.{flat_map}
use Rattle.chord_event.specs.declared.body.Body.{Body}
use Rattle.des_event.specs.declared.event.Event.{Event}
use Rattle.des_event.proofs.Members.{contains_cons, contains_here, contains_none, contains_there, contains_filter, filter_contains}
use Rattle.chord_node.specs.declared.state.NodeState.{NodeState}
use Rattle.chord_node.specs.declared.state.Status.{Status}
use Rattle.chord_node.specs.declared.state.Status.TheVariants as status
use Rattle.chord_node.specs.Ring.{first_member, initial_state, never_up}
use Rattle.chord_node.proofs.Rings.{filter-apart, range-apart, range-has}
use Rattle.chord_node.proofs.Sorting.{AreApart}
use Rattle.chord_ops.specs.FirstTurns.{first_turn}
use Rattle.chord_ops.specs.Procedures.{armed}
use Rattle.chord_ops.specs.Timers.{Timer, is_timer, set_for, wanted}
use Rattle.chord_ops.specs.Timers.Timer.{Rejoin, Timeout}
use Rattle.chord_ops.proofs.FirstTimers.{timers_armed}
use Rattle.chord_ops.proofs.KeptJoins.{same_armed}
use Rattle.chord_ops.proofs.KeptRules.{none_of}
use Rattle.chord_ops.specs.Ongoing.{FitsTick, IsOngoing, is_tick, waits}
use Rattle.chord_ops.proofs.Ongoing.{is_set, not_set, other_node, set_elsewhere}
use Rattle.chord_ops.proofs.OngoingJoins.{HasTickOf, IsTickOf, going_armed, table_of_life}
use Rattle.chord_scenario.specs.declared.scenario.Scenario.{Scenario}
use Rattle.chord_scenario.specs.declared.setting.Command.{Command}
use Rattle.chord_scenario.specs.declared.setting.Action.{Action}
use Rattle.chord_scenario.specs.declared.setting.Action.TheVariants as action
use Rattle.chord_scenario.specs.declared.setting.Span.{Span}
use Rattle.chord_scenario.specs.Range.{IsInRange}
use Rattle.chord_scenario.specs.Start.{command_body, command_event, command_events, first_timers, initial_nodes, start_events, timer_event, timer_table, timers}
use Rattle.chord_scenario.specs.World.{is_initial, node_count}
use Rattle.chord_machine.proofs.StartEvents.{From, mapped-from, numbered, timers-are}

-- Counts

-- if none is this timer there is none
set_for_none : (n : ℕ) (t : Timer) (number : ℕ) (es : List (Event Body)) → ((e : Event Body) → Contains es e → ◌≡◌ {A = ℕ} (is_set n t number e) 0)
    → set_for n t number es ≡ 0
set_for_none n t number [] none = refl
set_for_none n t number (e ∷ es) none =
    omega (
      arith,
      sum_by-cons (λ (x : Event Body). is_set n t number x) e es,
      none e (contains_here e es),
      set_for_none n t number es (λ x c. none x (contains_there x e es c)),
    )

set_for-append : (n : ℕ) (t : Timer) (number : ℕ) (xs ys : List (Event Body)) → set_for n t number (xs ++ ys) ≡ set_for n t number xs + set_for n t number ys
set_for-append n t number xs ys = sum_by-append (λ (x : Event Body). is_set n t number x) xs ys

-- a command is no timer
command_quiet : (a : Action) (t : Timer) (number : ℕ) → is_timer (command_body a) t number ≡ false
command_quiet (action.Join via) t number = refl
command_quiet action.Crash t number = refl
command_quiet action.Leave t number = refl
command_quiet (action.Lookup key) t number = refl

commands_none : (sc : Scenario) (n : ℕ) (t : Timer) (number : ℕ) → set_for n t number (command_events sc) ≡ 0
unfolding command_events
commands_none sc n t number =
    set_for_none n t number _
    (λ e c.
    let from : From (λ (p : ℕ × Command). command_event p.0 p.1) (enumerate_from 1 sc.commands) e =
    mapped-from (λ (p : ℕ × Command). command_event p.0 p.1) (enumerate_from 1 sc.commands) e c in
    subst (λ (z : Event Body). ◌≡◌ {A = ℕ} (is_set n t number z) 0) from.made
    (not_set n t number (command_event from.source.0 from.source.1) (command_quiet from.source.1.action t number)))

-- First timers

row_of : (rows : List (Option (Span × Body))) (timer : Span × Body) → AllByRecursion (HasTickOf 1) rows → Contains (filter_map (λ row. row) rows) timer
    → IsTickOf 1 timer.1
row_of [] timer are c = absurd (contains_none timer c)
row_of (None ∷ rows) timer are c = row_of rows timer are.1 c
row_of (Some first ∷ rows) timer are c =
    ⊎_elim
    (λ s. subst (λ (z : Span × Body). IsTickOf 1 z.1) s are.0)
    (λ r. row_of rows timer are.1 r)
    (contains_cons timer first (filter_map (λ row. row) rows) c)

-- the first timers of a node are ticks of its first life
first_tick : (sc : Scenario) (n : ℕ) (e : Event Body) → Contains (first_timers sc n) e → IsTickOf 1 e.body
unfolding first_timers timers
first_tick sc n e c =
    let from = mapped-from (λ (p : ℕ × (Span × Body)). timer_event sc n p.0 p.1) (enumerate_from 0 (timers sc n)) e c in
    subst (λ (z : Event Body). IsTickOf 1 z.body) from.made
    (row_of (timer_table sc n 1) from.source.1 (table_of_life sc n 1) (numbered 0 (timers sc n) from.source from.among).among)

-- they are its own
first_elsewhere : (sc : Scenario) (n m : ℕ) (t : Timer) (number : ℕ) → m ≢ n → set_for n t number (first_timers sc m) ≡ 0
first_elsewhere sc n m t number apart =
    set_for_none n t number (first_timers sc m)
    (λ e c.
    let mine = timers-are sc m e c in
    set_elsewhere n t number e (ap (λ (k : ℕ). k == n) mine.target ∙ other_node m n (λ s. apart (sym s))))

-- nodes that are not this one set nothing for it
others_none : (sc : Scenario) (n : ℕ) (t : Timer) (number : ℕ) (nodes : List ℕ) → ((m : ℕ) → Contains nodes m → m ≢ n)
    → set_for n t number (flat_map (first_timers sc) nodes) ≡ 0
others_none sc n t number [] apart = refl
others_none sc n t number (m ∷ nodes) apart =
    omega (
      arith,
      set_for-append n t number (first_timers sc m) (flat_map (first_timers sc) nodes),
      first_elsewhere sc n m t number (apart m (contains_here m nodes)),
      others_none sc n t number nodes (λ x c. apart x (contains_there x m nodes c)),
    )

own_only : (sc : Scenario) (n : ℕ) (t : Timer) (number : ℕ) (nodes : List ℕ) → AreApart (λ x. x) nodes → Contains nodes n
    → set_for n t number (flat_map (first_timers sc) nodes) ≡ set_for n t number (first_timers sc n)
own_only sc n t number [] apart c = absurd (contains_none n c)
own_only sc n t number (m ∷ nodes) apart c = go (cases_eq m n) (λ r. own_only sc n t number nodes apart.1 r)
  where
    split : set_for n t number (first_timers sc m ++ flat_map (first_timers sc) nodes) ≡ set_for n t number (first_timers sc m) + set_for n t number
        (flat_map (first_timers sc) nodes)
    split = sum_by-append (λ (x : Event Body). is_set n t number x) (first_timers sc m) (flat_map (first_timers sc) nodes)

    go : (m ≡ n) ⊎ (m ≡ n → ⊥) → (Contains nodes n → set_for n t number (flat_map (first_timers sc) nodes) ≡ set_for n t number (first_timers sc n))
        → set_for n t number (first_timers sc m ++ flat_map (first_timers sc) nodes) ≡ set_for n t number (first_timers sc n)
    go (inl same) ih =
        let here : set_for n t number (first_timers sc m) ≡ set_for n t number (first_timers sc n) = ap (λ (k : ℕ). set_for n t number
        (first_timers sc k)) same in
        omega (
          arith,
          set_for-append n t number (first_timers sc m) (flat_map (first_timers sc) nodes),
          here,
          others_none sc n t number nodes (λ x k s. apart.0 x k (same ∙ sym s)),
        )
    go (inr other) ih =
        omega (
          arith,
          set_for-append n t number (first_timers sc m) (flat_map (first_timers sc) nodes),
          first_elsewhere sc n m t number other,
          ih (⊎_elim (λ s. absurd (other s)) (λ r. r) (contains_cons n m nodes c)),
        )

-- All that a run starts with

nodes_apart : (sc : Scenario) → AreApart (λ x. x) (initial_nodes sc)
unfolding initial_nodes
nodes_apart sc = filter-apart (λ x. x) (is_initial sc) (range_with_len 0 (node_count sc)) (range-apart 0 (node_count sc))

is_among : (sc : Scenario) (n : ℕ) → n < node_count sc → is_initial sc n ≡ true → Contains (initial_nodes sc) n
unfolding initial_nodes
is_among sc n known is = contains_filter (is_initial sc) (range_with_len 0 (node_count sc)) n (range-has 0 (node_count sc) n (omega arith) (omega
    (arith, known))) is

is_not_among : (sc : Scenario) (n : ℕ) → is_initial sc n ≡ false → (m : ℕ) → Contains (initial_nodes sc) m → m ≢ n
unfolding initial_nodes
is_not_among sc n other m c same =
    let is : is_initial sc m ≡ true = (filter_contains (is_initial sc) (range_with_len 0 (node_count sc)) m c).1 in
    let both : true ≡ false = sym is ∙ ap (is_initial sc) same ∙ other in
    cc

-- a member at the start has its first timers set
set_at_start : (sc : Scenario) (n : ℕ) (t : Timer) (number : ℕ) → n < node_count sc → is_initial sc n ≡ true
    → set_for n t number (start_events sc) ≡ set_for n t number (first_timers sc n)
unfolding start_events
set_at_start sc n t number known is =
    omega (
      arith,
      set_for-append n t number (command_events sc) (flat_map (first_timers sc) (initial_nodes sc)),
      commands_none sc n t number,
      own_only sc n t number (initial_nodes sc) (nodes_apart sc) (is_among sc n known is),
    )

-- and a node that is down then has none
none_at_start : (sc : Scenario) (n : ℕ) (t : Timer) (number : ℕ) → is_initial sc n ≡ false → set_for n t number (start_events sc) ≡ 0
unfolding start_events
none_at_start sc n t number other =
    omega (
      arith,
      set_for-append n t number (command_events sc) (flat_map (first_timers sc) (initial_nodes sc)),
      commands_none sc n t number,
      others_none sc n t number (initial_nodes sc) (is_not_among sc n other),
    )

-- the state of a node that begins its first life
abbrev newcomer : ℕ → NodeState
newcomer n = record (never_up n) { status = status.Joining; epoch = 1 }

-- it sets each tick that the scenario wants once
first_wanted : (sc : Scenario) (n : ℕ) → IsInRange sc → (t : Timer) → is_tick t ≡ true → set_for n t 1 (first_timers sc n) ≡ wanted sc n t
first_wanted sc n ranges t is =
    let turn = first_turn (newcomer n) in
    let g : IsOngoing sc (wanted sc n) 1 [] (armed sc turn) =
    going_armed sc [] turn ranges refl
    (record {
      timed = λ number. record { enough = omega arith; once = omega arith; counted = λ above. refl };
      seldom = none_of _;
      later = λ u number lived above. refl;
      ticks = λ u tick. refl;
      joins = refl;
      own = λ m u number apart. refl;
    }) in
    let same_me : (armed sc turn).state.me ≡ n = same_armed (λ s. s.me) sc turn (λ s count place. refl) in
    let same_epoch : (armed sc turn).state.epoch ≡ 1 = same_armed (λ s. s.epoch) sc turn (λ s count place. refl) in
    let joining : (armed sc turn).state.status ≡ status.Joining = same_armed (λ s. s.status) sc turn (λ s count place. refl) in
    let as_joining : waits (armed sc turn).state.me t (armed sc turn).state.epoch [] (armed sc turn).events ≡ wanted sc n t =
    subst (λ (s : Status). FitsTick s (waits (armed sc turn).state.me t (armed sc turn).state.epoch [] (armed sc turn).events) (wanted sc n t)) joining
    (g.ticks t is) in
    let of_node : waits n t (armed sc turn).state.epoch [] (armed sc turn).events ≡ wanted sc n t =
    subst (λ (m : ℕ). waits m t (armed sc turn).state.epoch [] (armed sc turn).events ≡ wanted sc n t) same_me as_joining in
    let of_life : waits n t 1 [] (armed sc turn).events ≡ wanted sc n t =
    subst (λ (k : ℕ). waits n t k [] (armed sc turn).events ≡ wanted sc n t) same_epoch of_node in
    let first : set_for n t 1 (first_timers sc n) ≡ set_for n t 1 (armed sc turn).events =
    ap (set_for n t 1) (timers_armed sc (newcomer n) (record { epoch = refl; place = refl; count = refl })) in
    omega (arith, of_life, first)

first_none : (sc : Scenario) (n : ℕ) (t : Timer) (number : ℕ) → ((message : Body) → IsTickOf 1 message → is_timer message t number ≡ false)
    → set_for n t number (first_timers sc n) ≡ 0
first_none sc n t number none =
    set_for_none n t number (first_timers sc n) (λ e c. not_set n t number e (none e.body (first_tick sc n e c)))

pub starts_go_on : (sc : Scenario) (n : ℕ) → IsInRange sc → n < node_count sc
    → IsOngoing sc (wanted sc n) 0 (start_events sc) (first_turn (initial_state sc n))
unfolding initial_state first_member
starts_go_on sc n ranges known = by (is_initial sc n) refl
  where
    me_of : (first_member sc n).me ≡ n
    me_of = refl

    by : (b : Bool) → is_initial sc n ≡ b → IsOngoing sc (wanted sc n) 0 (start_events sc) (first_turn (cond b (first_member sc n) (never_up n)))
    by true is =
        let none : (t : Timer) (number : ℕ) → ((message : Body) → IsTickOf 1 message → is_timer message t number ≡ false) → set_for n t number
        (start_events sc) ≡ 0 = λ t number is_none.
        set_at_start sc n t number known is ∙ first_none sc n t number is_none in
        record {
          timed = λ number.
              let free : set_for n Timeout number (start_events sc) ≡ 0 = none Timeout number (λ message tick. tick.no_timeout number) in
              record { enough = omega arith; once = omega (arith, free); counted = λ above. omega (arith, free) };
          seldom = none_of _;
          later = λ t number lived above. omega (arith, none t number (λ message tick. tick.others t number (λ same. omega (arith, above, same))));
          ticks = λ t tick. omega (arith, set_at_start sc n t 1 known is, first_wanted sc n ranges t tick);
          joins = omega (arith, none Rejoin 1 (λ message tick. tick.no_pause 1));
          own = λ m t number apart. refl;
        }
    by false other = record {
      timed = λ number.
          let free : set_for n Timeout number (start_events sc) ≡ 0 = none_at_start sc n Timeout number other in
          record { enough = omega arith; once = omega (arith, free); counted = λ above. omega (arith, free) };
      seldom = none_of _;
      later = λ t number lived above. omega (arith, none_at_start sc n t number other);
      ticks = λ t tick. tt;
      joins = tt;
      own = λ m t number apart. refl;
    }
