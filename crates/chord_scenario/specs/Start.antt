-- The events that a run starts with: the commands, and the first timers of the nodes that are members at the start.
use Rattle.std.specs.Prelude.{ℕ, ◌+◌, ◌==◌, List, [], ◌∷◌, ◌++◌, map, filter, flat_map, option_map, Option, Some, None, if◌then◌else◌}
use Rattle.std.specs.List.{enumerate_from, filter_map, range_with_len}
use Rattle.chord_event.specs.declared.body.Body.{Body}
use Rattle.chord_event.specs.declared.body.Body.TheVariants as body
use Rattle.des_event.specs.declared.event.Event.{Event}
use Rattle.chord_scenario.specs.declared.setting.Action.{Action}
use Rattle.chord_scenario.specs.declared.setting.Action.TheVariants as action
use Rattle.chord_scenario.specs.declared.setting.Command.{Command}
use Rattle.chord_scenario.specs.declared.setting.Span.{Span}
use Rattle.chord_scenario.specs.Draws.{delay}
use Rattle.chord_scenario.specs.Setup.{Setup}
use Rattle.chord_scenario.specs.World.{node_count, is_initial, is_churn_node}

-- what a command asks of its node, as the body of an event
abbrev pub command_body : Action → Body
command_body (action.Join via) = body.CmdJoin via
command_body action.Crash = body.CmdCrash
command_body action.Leave = body.CmdLeave
command_body (action.Lookup key) = body.CmdLookup key

-- a command of this number as an event: commands have origin 1
abbrev pub command_event : (number : ℕ) → Command → Event Body
command_event number command = record {
  key = record { time = command.at; origin = 1; number = number };
  target = command.node;
  body = command_body command.action;
}

-- the commands as events, numbered from 1 in the order of the file
unfoldable pub command_events : Setup → List (Event Body)
command_events sc = map (λ p. command_event p.0 p.1) (enumerate_from 1 sc.commands)

-- a span from a period to the period plus a jitter
abbrev pub jittered : (period jitter : ℕ) → Span
jittered period jitter = record { least = period; greatest = period + jitter }

-- the span of a node's first timer of a kind: from the first microsecond on if first timers are random
unfoldable pub first_span : Setup → Span → Span
first_span sc span = if sc.rules.random_start then record { least = 1; greatest = span.greatest } else span

-- a timer as a node sets it when it comes up, with the span of the first timer of its kind
abbrev pub at_first : Setup → Span × Body → Span × Body
at_first sc timer = (first_span sc timer.0, timer.1)

-- The timers of a node: after which times each may come, and what it is.

-- every node's timer of its next stabilization: after the period, and up to a jitter more
abbrev pub stabilize_timer : Setup → (epoch : ℕ) → Span × Body
stabilize_timer sc epoch = (jittered sc.stabilize sc.jitters.stabilize, body.StabilizeTick epoch)

-- every node's timer of its next refresh of a finger: after the period, and up to a jitter more
abbrev pub finger_timer : Setup → (epoch : ℕ) → Span × Body
finger_timer sc epoch = (jittered sc.finger sc.jitters.finger, body.FingerTick epoch)

-- every node's timer of its next generated lookup, if the scenario has generated lookups
abbrev pub traffic_timer : Setup → (epoch : ℕ) → Option (Span × Body)
traffic_timer sc epoch = option_map (λ gap. (gap, body.TrafficTick epoch)) sc.lookups

-- a churn node's timer of the end of its life; other nodes have none
abbrev pub life_timer : Setup → (n epoch : ℕ) → Option (Span × Body)
life_timer sc n epoch =
    if is_churn_node sc n then option_map (λ churn. (churn.life, body.LifeEnd epoch)) sc.churn else None

-- every node's timer of the next check of its predecessor, if the scenario has checks: after the period, and up to a
-- jitter more
abbrev pub check_timer : Setup → (epoch : ℕ) → Option (Span × Body)
check_timer sc epoch = if sc.check == 0 then None else Some (jittered sc.check sc.jitters.check, body.CheckTick epoch)

-- The timers that node n sets when it comes up, in order. The only list of them: a run's first timers and those of a
-- node that rises are both these. A new timer is a new row, and one more in `most_timers`.
abbrev pub timer_table : Setup → (n epoch : ℕ) → List (Option (Span × Body))
timer_table sc n epoch =
    Some (at_first sc (stabilize_timer sc epoch))
    ∷ Some (at_first sc (finger_timer sc epoch))
    ∷ option_map (at_first sc) (traffic_timer sc epoch)
    ∷ life_timer sc n epoch
    ∷ option_map (at_first sc) (check_timer sc epoch)
    ∷ []

-- the number of rows of the table of timers
abbrev pub most_timers : ℕ
most_timers = 5

-- the first timers of node n: those of its first life
unfoldable pub timers : Setup → (n : ℕ) → List (Span × Body)
timers sc n = filter_map (λ row. row) (timer_table sc n 1)

-- the timer at this place, from 0, among the first ones of node n, which are set at time 0; nodes number their events
-- from 1
abbrev pub timer_event : Setup → (n place : ℕ) → Span × Body → Event Body
timer_event sc n place timer = record {
  key = record { time = delay sc n place 0 timer.0 timer.1; origin = 2 + n; number = place + 1 };
  target = n;
  body = timer.1;
}

-- the first timers of node n as events
unfoldable pub first_timers : Setup → (n : ℕ) → List (Event Body)
first_timers sc n = map (λ p. timer_event sc n p.0 p.1) (enumerate_from 0 (timers sc n))

-- the nodes that are members at the start, in the order of the file
unfoldable pub initial_nodes : Setup → List ℕ
initial_nodes sc = filter (is_initial sc) (range_with_len 0 (node_count sc))

-- the commands, and then the first timers of each node that is a member at the start
unfoldable pub start_events : Setup → List (Event Body)
start_events sc = command_events sc ++ flat_map (first_timers sc) (initial_nodes sc)
