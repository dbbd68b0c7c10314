-- Each lookup ends: it sends more requests each time that it goes on, and never more than a limit.
use Rattle.std.specs.Prelude.{◌≡◌, ◌≢◌, ◌==◌, ◌⊎◌, ℕ, ◌+◌, ◌-◌, ◌*◌, ◌<◌, ◌≤◌, Bool, true, false, Option, Some, None}
use Rattle.std.specs.List.{Contains}
use Rattle.chord_event.specs.declared.body.Body.{Body}
use Rattle.chord_event.specs.declared.body.Body.TheVariants as body
use Rattle.des_event.specs.declared.event.Event.{Event}
use Rattle.chord_event.specs.declared.line.Line.{Line}
use Rattle.chord_event.specs.declared.line.Line.TheVariants as line
use Rattle.chord_scenario.specs.declared.scenario.Scenario.{Scenario}
use Rattle.chord_node.specs.declared.state.Call.{Call}
use Rattle.chord_node.specs.declared.state.Lookup.{Lookup}
use Rattle.chord_node.specs.declared.state.NodeState.{NodeState}
use Rattle.chord_node.specs.Limits.{most_lookup_steps}
use Rattle.chord_ops.specs.Procedures.{call_of}

-- how often the request of a call was sent again, if there is such a call
abbrev pub times_again : Option Call → ℕ
times_again None = 0
times_again (Some call) = call.resent

-- the requests that a lookup has sent: each step but the last counts as if it had been sent again as often as may be
abbrev pub sends : Scenario → NodeState → Lookup → ℕ
sends sc s lookup = (lookup.steps - 1) * (sc.retries + 1) + times_again (call_of lookup.call s) + 1

-- the most requests of a lookup, with those that are sent again
abbrev pub most_sends : Scenario → ℕ
most_sends sc = most_lookup_steps sc * (sc.retries + 1)

-- whether an event is the timeout of a call or a reply to it
abbrev pub concerns : Body → (number : ℕ) → Bool
concerns (body.Timeout n) number = n == number
concerns (body.StepReply n answer) number = n == number
concerns (body.StateReply n prdc list) number = n == number
concerns _ number = false

-- a lookup waits for the same call as before, and the event was not its timeout
pub record StillWaits (message : Body) (before after : NodeState) (lookup : Lookup) : Type 0 where
  pub was : Contains before.lookups lookup
  pub same_call : call_of lookup.call after ≡ call_of lookup.call before
  pub other : message ≢ body.Timeout lookup.call

-- a lookup begins, with one request of a new call
pub record Begins (sc : Scenario) (time : ℕ) (before after : NodeState) (lookup : Lookup) : Type 0 where
  pub new_call : before.count < lookup.call
  pub started : lookup.started ≡ time
  pub one : sends sc after lookup ≡ 1

-- a lookup that was there has gone on, by a reply to its call or the call's timeout: it has sent more requests, and has a new call,
-- or the same one sent again
pub record HasGoneOn (sc : Scenario) (message : Body) (before after : NodeState) (lookup : Lookup) : Type 0 where
  pub old : Lookup
  pub was : Contains before.lookups old
  pub key : lookup.key ≡ old.key
  pub aim : lookup.aim ≡ old.aim
  pub started : lookup.started ≡ old.started
  pub its_call : concerns message old.call ≡ true
  pub more : sends sc before old < sends sc after lookup
  pub asks : (before.count < lookup.call) ⊎ (message ≡ body.Timeout lookup.call)

-- a lookup of a node after an event waits as before, begins, or has gone on
abbrev pub Proceeds : Scenario → Event Body → (before after : NodeState) → Lookup → Type 0
Proceeds sc e before after lookup =
    StillWaits e.body before after lookup ⊎ Begins sc e.key.time before after lookup ⊎ HasGoneOn sc e.body before after lookup

-- if a line tells how long a lookup took, then no longer than this
abbrev pub TakesAtMost : (us : ℕ) → Line → Type 0
TakesAtMost most (line.Found key owner hops timeouts us) = us ≤ most
TakesAtMost most (line.Lost key hops timeouts us) = us ≤ most
TakesAtMost most _ = Unit {0}
