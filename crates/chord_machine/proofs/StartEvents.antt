-- The events that a run starts with are sound, and no two have one key.
use Rattle.std.proofs.Common.{◌≡◌, ◌≢◌, ◌⊎◌, ⊎_elim, inl, inr, ℕ, ◌+◌, ◌<◌, ◌≤◌, true, List, [], ◌∷◌, map, length, refl, sym, ap, ◌∙◌, subst, arith}
use Rattle.std.specs.Prelude.{Option, Some, None, flat_map}
use Rattle.std.specs.List.{All, AllByRecursion, AllPairs, Contains, enumerate_from, filter_map, range_with_len}
use Rattle.chord_event.specs.declared.body.Body.{Body}
use Rattle.des_event.specs.declared.event.Event.{Event}
use Rattle.des_event.specs.declared.key.Key.{Key}
use Rattle.des_event.proofs.Members.{
  AllPairs_append,
  AllPairs_cons,
  AllPairs_none,
  All_at,
  All_from,
  contains_append,
  contains_cons,
  contains_here,
  contains_none,
  contains_there,
  filter_contains,
}
use Rattle.chord_node.specs.Ring.{initial_state}
use Rattle.chord_node.proofs.Rings.{initial-known, range-apart, filter-apart}
use Rattle.chord_node.proofs.Sorting.{AreApart}
use Rattle.chord_ops.specs.Asked.{IsBody}
use Rattle.chord_ops.specs.Sound.{IsSoundEvent}
use Rattle.chord_ops.proofs.TimerTable.{IsTick, table_ticks}
use Rattle.chord_scenario.specs.declared.scenario.Scenario.{Scenario}
use Rattle.chord_scenario.specs.declared.setting.Action.{Action}
use Rattle.chord_scenario.specs.declared.setting.Action.TheVariants as action
use Rattle.chord_scenario.specs.declared.setting.Command.{Command}
use Rattle.chord_scenario.specs.declared.setting.Span.{Span}
use Rattle.chord_scenario.specs.Range.{IsActionOf, IsCommandOf, IsInRange}
use Rattle.chord_scenario.specs.Start.{
  command_body,
  command_event,
  command_events,
  first_timers,
  initial_nodes,
  start_events,
  timer_event,
  timer_table,
  timers,
}
use Rattle.chord_scenario.specs.World.{is_initial, node_count}
use Rattle.chord_machine.proofs.Starts.{starts_count}

-- Members of lists that are made of others

pub record From {A B : Type 0} (f : A → B) (xs : List A) (y : B) : Type 0 where
  pub source : A
  pub among : Contains xs source
  pub made : f source ≡ y

pub mapped-from : {A B : Type 0} (f : A → B) (xs : List A) (y : B) → Contains (map f xs) y → From f xs y
mapped-from f [] y c = absurd (contains_none y c)
mapped-from f (x ∷ xs) y c = ⊎_elim
    (λ e. record { source = x; among = contains_here x xs; made = e })
    (λ r. let rest = mapped-from f xs y r in record { source = rest.source; among = contains_there rest.source x xs rest.among; made = rest.made })
    (contains_cons y (f x) (map f xs) c)

pub record Numbered {A : Type 0} (first : ℕ) (xs : List A) (p : ℕ × A) : Type 0 where
  pub among : Contains xs p.1
  pub least : first ≤ p.0
  pub most : p.0 < first + length xs

pub numbered : {A : Type 0} (first : ℕ) (xs : List A) (p : ℕ × A) → Contains (enumerate_from first xs) p → Numbered first xs p
numbered first [] p c = absurd (contains_none p c)
numbered {A} first (x ∷ xs) p c = ⊎_elim
    (λ e. subst (λ (q : ℕ × A). Numbered first (x ∷ xs) q) e (record { among = contains_here x xs; least = omega arith; most = omega arith }))
    (λ r. let rest = numbered (first + 1) xs p r in record {
      among = contains_there p.1 x xs rest.among;
      least = omega (arith, rest.least);
      most = omega (arith, rest.most);
    })
    (contains_cons p (first, x) (enumerate_from (first + 1) xs) c)

pub record Within {A B : Type 0} (f : A → List B) (xs : List A) (y : B) : Type 0 where
  pub source : A
  pub among : Contains xs source
  pub made : Contains (f source) y

flat-within : {A B : Type 0} (f : A → List B) (xs : List A) (y : B) → Contains (flat_map f xs) y → Within f xs y
flat-within f [] y c = absurd (contains_none y c)
flat-within f (x ∷ xs) y c = ⊎_elim
    (λ h. record { source = x; among = contains_here x xs; made = h })
    (λ r. let rest = flat-within f xs y r in record { source = rest.source; among = contains_there rest.source x xs rest.among; made = rest.made })
    (contains_append (f x) (flat_map f xs) y c)

-- Commands

pub record IsCommandEvent (sc : Scenario) (e : Event Body) : Type 0 where
  pub origin : e.key.origin ≡ 1
  pub sound : IsSoundEvent sc e

command_bodies : (sc : Scenario) (a : Action) → IsActionOf sc a → IsBody sc (command_body a)
command_bodies sc (action.Join via) h = h
command_bodies sc action.Crash h = tt
command_bodies sc action.Leave h = tt
command_bodies sc (action.Lookup key) h = h

pub commands-are : (sc : Scenario) → IsInRange sc → (e : Event Body) → Contains (command_events sc) e → IsCommandEvent sc e
unfolding command_events
commands-are sc ranges e c =
    let from = mapped-from (λ (p : ℕ × Command). command_event p.0 p.1) (enumerate_from 1 sc.commands) e c in
    let is = All_at (IsCommandOf sc) sc.commands from.source.1 ranges.commands (numbered 1 sc.commands from.source from.among).among in
    subst (λ z. IsCommandEvent sc z) from.made (record {
      origin = refl;
      sound = record { target = is.node; origin = omega arith; body = command_bodies sc from.source.1.action is.action };
    })

-- no two numbered events have one key
numbers-apart : {A : Type 0} (f : ℕ × A → Event Body) (shift first : ℕ) (xs : List A) → ((p : ℕ × A) → (f p).key.number ≡ p.0 + shift)
    → AllPairs (λ (a b : Event Body). a.key ≢ b.key) (map f (enumerate_from first xs))
numbers-apart f shift first [] h = AllPairs_none (λ (a b : Event Body). a.key ≢ b.key)
numbers-apart f shift first (x ∷ xs) h =
    AllPairs_cons (λ (a b : Event Body). a.key ≢ b.key) (f (first, x)) (map f (enumerate_from (first + 1) xs))
    (λ e c s.
    let from = mapped-from f (enumerate_from (first + 1) xs) e c in
    let low = (numbered (first + 1) xs from.source from.among).least in
    let mine : (f (first, x)).key.number ≡ first + shift = h (first, x) in
    let other : e.key.number ≡ from.source.0 + shift = ap (λ (z : Event Body). z.key.number) (sym from.made) ∙ h from.source in
    let same : (f (first, x)).key.number ≡ e.key.number = ap (λ (k : Key). k.number) s in
    omega (arith, low, mine, other, same))
    (numbers-apart f shift (first + 1) xs h)

commands-apart : (sc : Scenario) → AllPairs (λ (a b : Event Body). a.key ≢ b.key) (command_events sc)
unfolding command_events
commands-apart sc = numbers-apart (λ (p : ℕ × Command). command_event p.0 p.1) 0 1 sc.commands (λ p. omega arith)

-- First timers

pub record IsFirstTimer (sc : Scenario) (n : ℕ) (e : Event Body) : Type 0 where
  pub origin : e.key.origin ≡ 2 + n
  pub target : e.target ≡ n
  pub number : e.key.number ≤ length (timers sc n)
  pub body : IsBody sc e.body

ticks-in : (sc : Scenario) (rows : List (Option (Span × Body))) (timer : Span × Body) → AllByRecursion (IsTick sc) rows
    → Contains (filter_map (λ row. row) rows) timer → IsBody sc timer.1
ticks-in sc [] timer are c = absurd (contains_none timer c)
ticks-in sc (None ∷ rows) timer are c = ticks-in sc rows timer are.1 c
ticks-in sc (Some first ∷ rows) timer are c = ⊎_elim
    (λ e. subst (λ (z : Span × Body). IsBody sc z.1) e are.0)
    (λ r. ticks-in sc rows timer are.1 r)
    (contains_cons timer first (filter_map (λ row. row) rows) c)

ticks : (sc : Scenario) (n : ℕ) (timer : Span × Body) → Contains (timers sc n) timer → IsBody sc timer.1
unfolding timers
ticks sc n timer c = ticks-in sc (timer_table sc n 1) timer (table_ticks sc n 1) c

pub timers-are : (sc : Scenario) (n : ℕ) (e : Event Body) → Contains (first_timers sc n) e → IsFirstTimer sc n e
unfolding first_timers
timers-are sc n e c =
    let from = mapped-from (λ (p : ℕ × (Span × Body)). timer_event sc n p.0 p.1) (enumerate_from 0 (timers sc n)) e c in
    let is = numbered 0 (timers sc n) from.source from.among in
    subst (λ z. IsFirstTimer sc n z) from.made (record {
      origin = refl;
      target = refl;
      number = omega (arith, is.most);
      body = ticks sc n from.source.1 is.among;
    })

timers-apart : (sc : Scenario) (n : ℕ) → AllPairs (λ (a b : Event Body). a.key ≢ b.key) (first_timers sc n)
unfolding first_timers
timers-apart sc n = numbers-apart (λ (p : ℕ × (Span × Body)). timer_event sc n p.0 p.1) 1 0 (timers sc n) (λ p. refl)

all-timers-apart : (sc : Scenario) (nodes : List ℕ) → AreApart (λ x. x) nodes
    → AllPairs (λ (a b : Event Body). a.key ≢ b.key) (flat_map (first_timers sc) nodes)
all-timers-apart sc [] apart = AllPairs_none (λ (a b : Event Body). a.key ≢ b.key)
all-timers-apart sc (n ∷ nodes) apart =
    AllPairs_append (λ (a b : Event Body). a.key ≢ b.key) (first_timers sc n) (flat_map (first_timers sc) nodes)
    (timers-apart sc n) (all-timers-apart sc nodes apart.1)
    (λ a b c d s.
    let mine = timers-are sc n a c in
    let from = flat-within (first_timers sc) nodes b d in
    let other = timers-are sc from.source b from.made in
    let same : a.key.origin ≡ b.key.origin = ap (λ (k : Key). k.origin) s in
    apart.0 from.source from.among (omega (arith, mine.origin, other.origin, same)))

-- All of them

pub record IsTimerAtStart (sc : Scenario) (e : Event Body) : Type 0 where
  pub node : ℕ
  pub initial : Contains (initial_nodes sc) node
  pub timer : IsFirstTimer sc node e

start-cases : (sc : Scenario) → IsInRange sc → (e : Event Body) → Contains (start_events sc) e → IsCommandEvent sc e ⊎ IsTimerAtStart sc e
unfolding start_events
start-cases sc ranges e c = ⊎_elim
    (λ h. inl (commands-are sc ranges e h))
    (λ r. let from = flat-within (first_timers sc) (initial_nodes sc) e r in
    inr (record { node = from.source; initial = from.among; timer = timers-are sc from.source e from.made }))
    (contains_append (command_events sc) (flat_map (first_timers sc) (initial_nodes sc)) e c)

timer-sound : (sc : Scenario) (e : Event Body) → IsTimerAtStart sc e → IsSoundEvent sc e
timer-sound sc e h =
    let known = initial-known sc h.node h.initial in
    record { target = omega (arith, h.timer.target, known); origin = omega (arith, h.timer.origin, known); body = h.timer.body }

pub starts_fit : (sc : Scenario) → IsInRange sc → All (IsSoundEvent sc) (start_events sc)
starts_fit sc ranges = All_from (IsSoundEvent sc) (start_events sc) (λ e c. ⊎_elim (λ h. h.sound) (timer-sound sc e) (start-cases sc ranges e c))

pub starts_apart : (sc : Scenario) → IsInRange sc → AllPairs (λ (a b : Event Body). a.key ≢ b.key) (start_events sc)
unfolding start_events initial_nodes
starts_apart sc ranges =
    AllPairs_append (λ (a b : Event Body). a.key ≢ b.key) (command_events sc) (flat_map (first_timers sc) (initial_nodes sc))
    (commands-apart sc)
    (all-timers-apart sc (initial_nodes sc) (filter-apart (λ x. x) (is_initial sc) (range_with_len 0 (node_count sc)) (range-apart 0 (node_count sc))))
    (λ a b c d s.
    let from = flat-within (first_timers sc) (initial_nodes sc) b d in
    let same : a.key.origin ≡ b.key.origin = ap (λ (k : Key). k.origin) s in
    omega (arith, (commands-are sc ranges a c).origin, (timers-are sc from.source b from.made).origin, same))

is-initial : (sc : Scenario) (n : ℕ) → Contains (initial_nodes sc) n → is_initial sc n ≡ true
unfolding initial_nodes
is-initial sc n c = (filter_contains (is_initial sc) (range_with_len 0 (node_count sc)) n c).1

pub starts_counted : (sc : Scenario) → IsInRange sc → (n : ℕ) → All (λ (e : Event Body). e.key.origin ≡ 2 + n
    → e.key.number ≤ (initial_state sc n).count) (start_events sc)
starts_counted sc ranges n = All_from (λ (e : Event Body). e.key.origin ≡ 2 + n → e.key.number ≤ (initial_state sc n).count) (start_events sc)
    (λ e c own. ⊎_elim
    (λ h. omega (arith, h.origin, own))
    (λ h.
    let same : h.node ≡ n = omega (arith, h.timer.origin, own) in
    let count : (initial_state sc h.node).count ≡ length (timers sc h.node) = starts_count sc h.node (is-initial sc h.node h.initial) in
    subst (λ k. e.key.number ≤ (initial_state sc k).count) same (omega (arith, h.timer.number, count)))
    (start-cases sc ranges e c))
