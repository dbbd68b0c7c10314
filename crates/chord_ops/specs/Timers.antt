-- What a node sets for itself, and how many of its settings a list of events has.
use Rattle.std.specs.Prelude.{◌==◌, ℕ, Bool, false, ◌&&◌, List, count_by, is_some, if◌then◌else◌}
use Rattle.chord_event.specs.declared.body.Body.{Body}
use Rattle.chord_event.specs.declared.body.Body.TheVariants as body
use Rattle.des_event.specs.declared.event.Event.{Event}
use Rattle.chord_scenario.specs.declared.scenario.Scenario.{Scenario}
use Rattle.chord_scenario.specs.World.{is_churn_node}

-- the five ticks of a life, the end of a pause between two attempts to join, and the timeout of a call
pub data Timer : Type 0 where
  Stabilize : Timer
  Finger : Timer
  Traffic : Timer
  Life : Timer
  Check : Timer
  Rejoin : Timer
  Timeout : Timer

-- whether a body is a timer of this kind, with this epoch or number of a call
abbrev pub is_timer : Body → Timer → (number : ℕ) → Bool
is_timer (body.StabilizeTick epoch) Stabilize number = epoch == number
is_timer (body.FingerTick epoch) Finger number = epoch == number
is_timer (body.TrafficTick epoch) Traffic number = epoch == number
is_timer (body.LifeEnd epoch) Life number = epoch == number
is_timer (body.CheckTick epoch) Check number = epoch == number
is_timer (body.Rejoin epoch) Rejoin number = epoch == number
is_timer (body.Timeout call) Timeout number = call == number
is_timer _ _ number = false

-- how many events of a list are timers of node n, of this kind and with this epoch or number of a call
abbrev pub set_for : (n : ℕ) → Timer → (number : ℕ) → List (Event Body) → ℕ
set_for n timer number events = count_by (λ e. is_timer e.body timer number && (e.target == n)) events

-- how many ticks of a kind node n has pending while it is not down: one, if the scenario wants them
abbrev pub wanted : Scenario → (n : ℕ) → Timer → ℕ
wanted sc n Stabilize = 1
wanted sc n Finger = 1
wanted sc n Traffic = if is_some sc.lookups then 1 else 0
wanted sc n Life = if is_churn_node sc n then 1 else 0
wanted sc n Check = if sc.check == 0 then 0 else 1
wanted sc n _ = 0
