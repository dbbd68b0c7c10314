-- What a node waits for is pending: the timeouts of its calls, the ticks of its life, and the end of a pause while it joins.
use Rattle.std.specs.Prelude.{◌≡◌, ◌≢◌, ◌==◌, ℕ, ◌+◌, ◌<◌, ◌≤◌, All, Bool, true, false, List, count_by}
use Rattle.chord_event.specs.declared.body.Body.{Body}
use Rattle.des_event.specs.declared.event.Event.{Event}
use Rattle.chord_scenario.specs.declared.scenario.Scenario.{Scenario}
use Rattle.chord_node.specs.declared.state.Call.{Call}
use Rattle.chord_node.specs.declared.state.Status.{Status}
use Rattle.chord_node.specs.declared.state.Status.TheVariants as status
use Rattle.chord_node.specs.Invariant.{calls_for, is_for_join}
use Rattle.chord_ops.specs.Timers.{Timer, set_for}
use Rattle.chord_ops.specs.Timers.Timer.{Rejoin, Timeout}
use Rattle.chord_ops.specs.declared.turn.Turn.{Turn}

-- how many timers of a kind and a number a node has among the events that are pending beside those of a turn, and those of the turn
abbrev pub waits : (me : ℕ) → Timer → (number : ℕ) → (rest events : List (Event Body)) → ℕ
waits me timer number rest events = set_for me timer number rest + set_for me timer number events

-- the number of calls of this number
abbrev pub numbered : (number : ℕ) → List Call → ℕ
numbered number calls = count_by (λ call. call.number == number) calls

-- a call has its timeout, no number has two, and no number has one before it is used
pub record IsTimed (calls timeouts count number : ℕ) : Type 0 where
  pub enough : calls ≤ timeouts
  pub once : timeouts ≤ 1
  pub counted : count < number → timeouts ≡ 0

-- whether a timer is one of the ticks of a life
abbrev pub is_tick : Timer → Bool
is_tick Rejoin = false
is_tick Timeout = false
is_tick _ = true

-- whether a timer belongs to a life: its number is the epoch
abbrev pub is_lived : Timer → Bool
is_lived Timeout = false
is_lived _ = true

-- a node that is not down has as many ticks of a kind pending as it claims
abbrev pub FitsTick : Status → (have claim : ℕ) → Type 0
FitsTick status.Down have claim = Unit {0}
FitsTick status.Joining have claim = have ≡ claim
FitsTick status.Member have claim = have ≡ claim

-- a joining node has one call for it outstanding or one pause pending, and a member has neither
abbrev pub FitsJoin : Status → (calls pauses : ℕ) → Type 0
FitsJoin status.Down calls pauses = Unit {0}
FitsJoin status.Joining calls pauses = calls + pauses ≡ 1
FitsJoin status.Member calls pauses = calls + pauses ≡ 0

-- What a node waits for is pending, among `rest` or among the events that it has made. `owed` is 1 while a call for a join is
-- taken out, or a pause is over, and the join has not gone on yet.
pub record Ongoing
    (claim : Timer → ℕ) (owed retries : ℕ) (rest events : List (Event Body)) (me count epoch : ℕ) (is : Status) (calls : List Call) : Type 0 where
  pub timed : (number : ℕ) → IsTimed (numbered number calls) (waits me Timeout number rest events) count number
  pub seldom : All (λ call. call.resent ≤ retries) calls
  -- no timer is of a life that has not begun
  pub later : (t : Timer) (number : ℕ) → is_lived t ≡ true → epoch < number → waits me t number rest events ≡ 0
  pub ticks : (t : Timer) → is_tick t ≡ true → FitsTick is (waits me t epoch rest events) (claim t)
  pub joins : FitsJoin is (calls_for is_for_join calls) (waits me Rejoin epoch rest events + owed)
  -- it has made no timer for another node
  pub own : (n : ℕ) (t : Timer) (number : ℕ) → n ≢ me → set_for n t number events ≡ 0

-- what the node of a turn waits for is pending, among `rest` or among the turn's events
abbrev pub IsOngoing : Scenario → (claim : Timer → ℕ) → (owed : ℕ) → (rest : List (Event Body)) → Turn → Type 0
IsOngoing sc claim owed rest turn =
    Ongoing claim owed sc.retries rest turn.events turn.state.me turn.state.count turn.state.epoch turn.state.status turn.state.calls
