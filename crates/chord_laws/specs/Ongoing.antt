-- Whatever a node waits for is pending exactly once, in whatever order events are taken.
use Rattle.std.specs.Prelude.{ℕ, ◌≡◌, ◌≢◌, ◌+◌, ◌<◌, ◌≤◌, All, List, true}
use Rattle.chord_event.specs.declared.body.Body.{Body}
use Rattle.des_event.specs.declared.event.Event.{Event}
use Rattle.des_model.specs.Histories.{IsPossible, pending, state}
use Rattle.chord_node.specs.declared.state.NodeState.{NodeState}
use Rattle.chord_node.specs.declared.state.Status.TheVariants as status
use Rattle.chord_node.specs.Invariant.{calls_for, is_for_join}
use Rattle.chord_ops.specs.Ongoing.{is_tick}
use Rattle.chord_ops.specs.Timers.{Timer, set_for, wanted}
use Rattle.chord_ops.specs.Timers.Timer.{Rejoin, Timeout}
use Rattle.chord_scenario.specs.declared.scenario.Scenario.{Scenario}
use Rattle.chord_scenario.specs.World.{node_count}
use Rattle.chord_machine.specs.Chord.{chord}

-- how many timers of a kind and a number node n has pending after a history
abbrev pub pending_at : Scenario → List (Event Body) → (n : ℕ) → Timer → (number : ℕ) → ℕ
pending_at sc h n timer number = set_for n timer number (pending (chord sc) h)

-- something holds of each node after each possible history
abbrev pub Always : Scenario → (List (Event Body) → ℕ → NodeState → Type 0) → Type 0
Always sc P = (h : List (Event Body)) → IsPossible (chord sc) h → (n : ℕ) → n < node_count sc → P h n (state (chord sc) h n)

-- each outstanding call has exactly one timeout pending
abbrev pub CallsAreTimed : Scenario → Type 0
CallsAreTimed sc = Always sc (λ h n s. All (λ call. pending_at sc h n Timeout call.number ≡ 1) s.calls)

-- no call is sent again more often than the scenario says
abbrev pub RetriesAreLimited : Scenario → Type 0
RetriesAreLimited sc = Always sc (λ h n s. All (λ call. call.resent ≤ sc.retries) s.calls)

-- a joining node has a call of its join outstanding, or a pause in it is pending, and not both
abbrev pub JoinsGoOn : Scenario → Type 0
JoinsGoOn sc = Always sc (λ h n s. s.status ≡ status.Joining → calls_for is_for_join s.calls + pending_at sc h n Rejoin s.epoch ≡ 1)

-- a node that is not down has each tick of its life pending as often as the scenario wants it: once or never
abbrev pub TimersLive : Scenario → Type 0
TimersLive sc = Always sc (λ h n s. s.status ≢ status.Down → (t : Timer) → is_tick t ≡ true → pending_at sc h n t s.epoch ≡ wanted sc n t)
