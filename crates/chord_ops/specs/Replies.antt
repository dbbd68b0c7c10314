-- What a member does with requests, notifies and checks, said without the rule table. A rule that stays silent has none
-- of this.
use Rattle.std.specs.Prelude.{◌≡◌, ◌≢◌, ℕ, ◌-◌, List, true, false, None, Some}
use Rattle.chord_circle.specs.Circle.{between}
use Rattle.chord_event.specs.declared.body.Body.{Body}
use Rattle.chord_event.specs.declared.body.Body.TheVariants as body
use Rattle.des_event.specs.declared.event.Event.{Event}
use Rattle.chord_event.specs.declared.line.MessageKind.{MessageKind}
use Rattle.chord_event.specs.declared.line.MessageKind.TheVariants as kind
use Rattle.chord_scenario.specs.declared.scenario.Scenario.{Scenario}
use Rattle.chord_scenario.specs.World.{ident_of}
use Rattle.chord_node.specs.declared.state.NodeState.{NodeState}
use Rattle.chord_node.specs.declared.state.Purpose.TheVariants as purpose
use Rattle.chord_ops.specs.declared.turn.Request.TheVariants as request
use Rattle.chord_ops.specs.Detail.{detailed}
use Rattle.chord_ops.specs.Procedures.{check_armed}
use Rattle.chord_ops.specs.Rules.{effect, has_ping_call, opening}
use Rattle.chord_ops.specs.Search.{step_answer}
use Rattle.chord_ops.specs.Turns.{called, sent}

-- the node that sent the message
abbrev pub sender_of : Event Body → ℕ
sender_of e = e.key.origin - 2

-- a message to the sender is all that the event makes; from the second profile on it may be lost on the way, and with detail
-- it leaves a line
abbrev pub RepliesWith : Scenario → NodeState → Event Body → MessageKind → Body → Type 0
RepliesWith sc s e kind reply = effect sc s e ≡ detailed sc (sent sc kind (sender_of e) reply (opening s e))

-- each request to a member is replied to, under the number of its call
pub record RepliesToRequests (sc : Scenario) (s : NodeState) (e : Event Body) : Type 0 where
  pub to_step : (number key : ℕ) (avoid : List ℕ) → e.body ≡ body.Step number key avoid
      → RepliesWith sc s e kind.StepReply (body.StepReply number (step_answer sc s key avoid))
  pub to_get_state : (number : ℕ) → e.body ≡ body.GetState number → RepliesWith sc s e kind.StateReply (body.StateReply number s.prdc s.succ)
  pub to_get_list : (number : ℕ) → e.body ≡ body.GetList number → RepliesWith sc s e kind.ListReply (body.ListReply number s.succ)
  pub to_ping : (number : ℕ) → e.body ≡ body.Ping number → RepliesWith sc s e kind.Pong (body.Pong number)

-- A notifier between the predecessor of a member and the member becomes the predecessor; because of another one the
-- predecessor is pinged, unless it is the notifier itself or a Ping or Check call is outstanding. A member without a
-- predecessor takes any notifier.
pub record WeighsNotifiers (sc : Scenario) (s : NodeState) (e : Event Body) : Type 0 where
  pub first : s.prdc ≡ None → (effect sc s e).state.prdc ≡ Some (sender_of e)
  pub closer : (prdc : ℕ) → s.prdc ≡ Some prdc → between sc.bits (ident_of sc prdc) (ident_of sc (sender_of e)) (ident_of sc s.me) ≡ true
      → (effect sc s e).state.prdc ≡ Some (sender_of e)
  pub other : (prdc : ℕ) → s.prdc ≡ Some prdc → between sc.bits (ident_of sc prdc) (ident_of sc (sender_of e)) (ident_of sc s.me) ≡ false
      → sender_of e ≢ prdc → has_ping_call s ≡ false
      → effect sc s e ≡ detailed sc (called sc prdc request.Ping (purpose.Ping (sender_of e)) (opening s e))

-- beside setting the timer of the next check, the node asks its predecessor for a sign of life
abbrev pub ChecksPredecessor : Scenario → NodeState → Event Body → (prdc : ℕ) → Type 0
ChecksPredecessor sc s e prdc = effect sc s e ≡ detailed sc (called sc prdc request.Ping purpose.Check (check_armed sc (opening s e)))
