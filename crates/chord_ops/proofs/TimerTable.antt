-- What the rows of the table of timers have. A new row is one more case here.
use Rattle.std.proofs.Common.{◌≡◌, ◌==◌, ◌≤◌, ℕ, arith, refl, Bool, true, false, Option, Some, None}
use Rattle.std.proofs.lemmas.Bool.Decides.{nat_tests}
use Rattle.std.specs.List.{AllByRecursion}
use Rattle.std.specs.Prelude.{IfSome, option_map, if◌then◌else◌}
use Rattle.chord_event.specs.declared.body.Body.{Body}
use Rattle.chord_event.specs.declared.body.Body.TheVariants as body
use Rattle.chord_scenario.specs.declared.scenario.Scenario.{Scenario}
use Rattle.chord_scenario.specs.declared.setting.Span.{Span}
use Rattle.chord_scenario.specs.Range.{IsChurn, IsInRange, IsSpan}
use Rattle.chord_scenario.specs.Start.{at_first, check_timer, finger_timer, first_span, jittered, life_timer, stabilize_timer, timer_table, traffic_timer}
use Rattle.chord_scenario.specs.World.{is_churn_node}
use Rattle.chord_ops.specs.Asked.{IsBody}
use Rattle.chord_ops.proofs.Growing.{known}

-- the times of a row are not 0
abbrev pub IsLater : Option (Span × Body) → Type 0
IsLater row = IfSome row (λ timer. 1 ≤ timer.0.least)

-- the body of a row names no node that is not the scenario's
abbrev pub IsTick : Scenario → Option (Span × Body) → Type 0
IsTick sc row = IfSome row (λ timer. IsBody sc timer.1)

pub IfSome-map : {A B : Type 0} (P : A → Type 0) (Q : B → Type 0) (f : A → B) (o : Option A) → IfSome o P → ((a : A) → P a → Q (f a))
    → IfSome (option_map f o) Q
IfSome-map P Q f None h g = tt
IfSome-map P Q f (Some a) h g = g a h

pub IfSome-if : {A : Type 0} (P : A → Type 0) (b : Bool) (o : Option A) → IfSome o P → IfSome (if b then o else None) P
IfSome-if P true o h = h
IfSome-if P false o h = tt

pub traffic_later : (sc : Scenario) (epoch : ℕ) → IsInRange sc → IsLater (traffic_timer sc epoch)
traffic_later sc epoch h =
    IfSome-map IsSpan (λ timer. 1 ≤ timer.0.least) (λ gap. (gap, body.TrafficTick epoch)) sc.lookups h.lookups (λ gap span. span.positive)

pub traffic_tick_is : (sc : Scenario) (epoch : ℕ) → IsTick sc (traffic_timer sc epoch)
traffic_tick_is sc epoch =
    IfSome-map (λ _. Unit {0}) (λ timer. IsBody sc timer.1) (λ gap. (gap, body.TrafficTick epoch)) sc.lookups (known sc.lookups) (λ gap _. tt)

life_later : (sc : Scenario) (n epoch : ℕ) → IsInRange sc → IsLater (life_timer sc n epoch)
life_later sc n epoch h =
    IfSome-if (λ timer. 1 ≤ timer.0.least) (is_churn_node sc n) _
    (IfSome-map IsChurn (λ timer. 1 ≤ timer.0.least) (λ churn. (churn.life, body.LifeEnd epoch)) sc.churn h.churn (λ churn times. times.life.positive))

life_end_is : (sc : Scenario) (n epoch : ℕ) → IsTick sc (life_timer sc n epoch)
life_end_is sc n epoch =
    IfSome-if (λ timer. IsBody sc timer.1) (is_churn_node sc n) _
    (IfSome-map (λ _. Unit {0}) (λ timer. IsBody sc timer.1) (λ churn. (churn.life, body.LifeEnd epoch)) sc.churn (known sc.churn) (λ churn _. tt))

pub check_later : (sc : Scenario) (epoch : ℕ) → IsLater (check_timer sc epoch)
check_later sc epoch = at (sc.check == 0) refl
  where
    at : (b : Bool) → (sc.check == 0) ≡ b → IsLater (if b then None else Some (jittered sc.check sc.jitters.check, body.CheckTick epoch))
    at true none = tt
    at false some = grind (arith, nat_tests)

pub check_tick_is : (sc : Scenario) (epoch : ℕ) → IsTick sc (check_timer sc epoch)
check_tick_is sc epoch = at (sc.check == 0)
  where
    at : (b : Bool) → IsTick sc (if b then None else Some (jittered sc.check sc.jitters.check, body.CheckTick epoch))
    at true = tt
    at false = tt

-- first timers are not at once either, and are the same ticks
first_later : (sc : Scenario) (row : Option (Span × Body)) → IsLater row → IsLater (option_map (at_first sc) row)
unfolding first_span
first_later sc None h = tt
first_later sc (Some timer) h = by sc.rules.random_start
  where
    by : (b : Bool) → 1 ≤ (if b then record { least = 1; greatest = timer.0.greatest } else timer.0).least
    by true = omega arith
    by false = h

first_tick : (sc : Scenario) (row : Option (Span × Body)) → IsTick sc row → IsTick sc (option_map (at_first sc) row)
first_tick sc None h = tt
first_tick sc (Some timer) h = h

pub table_later : (sc : Scenario) (n epoch : ℕ) → IsInRange sc → AllByRecursion IsLater (timer_table sc n epoch)
table_later sc n epoch h = (
  first_later sc (Some (stabilize_timer sc epoch)) h.numbers.stabilize.least,
  (
    first_later sc (Some (finger_timer sc epoch)) h.numbers.finger.least,
    (
      first_later sc (traffic_timer sc epoch) (traffic_later sc epoch h),
      (life_later sc n epoch h, (first_later sc (check_timer sc epoch) (check_later sc epoch), tt)),
    ),
  ),
)

pub table_ticks : (sc : Scenario) (n epoch : ℕ) → AllByRecursion (IsTick sc) (timer_table sc n epoch)
table_ticks sc n epoch = (
  tt,
  (
    tt,
    (
      first_tick sc (traffic_timer sc epoch) (traffic_tick_is sc epoch),
      (life_end_is sc n epoch, (first_tick sc (check_timer sc epoch) (check_tick_is sc epoch), tt)),
    ),
  ),
)
