-- What holds of a message that is sent, and of a call, however late the message arrives, and also if it is lost.
use Rattle.std.proofs.Common.{ℕ, ◌+◌, ◌≤◌, Bool, true, false, ◌∷◌, ◌++◌, [], arith}
use Rattle.std.specs.Prelude.{if◌then◌else◌}
use Rattle.chord_event.specs.declared.body.Body.{Body}
use Rattle.chord_event.specs.declared.body.Body.TheVariants as body
use Rattle.chord_event.specs.declared.line.MessageKind.{MessageKind}
use Rattle.chord_scenario.specs.declared.scenario.Scenario.{Scenario}
use Rattle.chord_node.specs.declared.state.Call.{Call}
use Rattle.chord_node.specs.declared.state.Purpose.{Purpose}
use Rattle.chord_scenario.specs.World.{latency}
use Rattle.chord_ops.specs.declared.turn.Request.{Request}
use Rattle.chord_ops.specs.declared.turn.Turn.{Turn}
use Rattle.chord_ops.specs.Turns.{asked, body_of, called, carried, kind_of, lost_on_the_way, made, sent}

-- the turn at this place of the node's stream
abbrev pub at_place : (place : ℕ) → Turn → Turn
at_place place turn = record turn { state = record turn.state { place = place } }

either : (P : Turn → Type 0) (b : Bool) (x y : Turn) → P x → P y → P (if b then x else y)
either P true x y p q = p
either P false x y p q = q

-- what is sent arrives after its latency or later, or is lost
pub sent_as : (P : Turn → Type 0) (sc : Scenario) (k : MessageKind) (to : ℕ) (message : Body) (turn : Turn)
    → ((delay place : ℕ) → latency sc turn.state.me to ≤ delay → place ≤ turn.state.place + 2 → P (made delay to message (at_place place turn)))
    → ((place : ℕ) → place ≤ turn.state.place + 2 → P (lost_on_the_way k to (at_place place turn)))
    → P (sent sc k to message turn)
unfolding sent carried
sent_as P sc k to message turn arrives lost =
    either P _ _ _
    (either P _ _ _ (lost (turn.state.place + 2) (omega arith)) (arrives _ (turn.state.place + 2) (omega arith) (omega arith)))
    (arrives (latency sc turn.state.me to) turn.state.place (omega arith) (omega arith))

-- a call of this turn, once its request has left the turn that came out
abbrev pub asked_over : Scenario → Call → (turn out : Turn) → Turn
asked_over sc call turn out =
    let timed = made sc.timeout turn.state.me (body.Timeout call.number) out in
    record timed { state = record timed.state { calls = timed.state.calls ++ call ∷ [] } }

-- a new call of this turn
abbrev pub new_call : (to : ℕ) → Purpose → Turn → Call
new_call to wanted turn = record { number = turn.state.count + 1; to = to; purpose = wanted; resent = 0 }

abbrev pub called_over : Scenario → (to : ℕ) → Purpose → (turn out : Turn) → Turn
called_over sc to wanted turn out = asked_over sc (new_call to wanted turn) turn out

-- the request of a call arrives after its latency or later, or is lost
pub asked_as : (P : Turn → Type 0) (sc : Scenario) (request : Request) (call : Call) (turn : Turn)
    → ((delay place : ℕ) → latency sc turn.state.me call.to ≤ delay → place ≤ turn.state.place + 2
    → P (asked_over sc call turn (made delay call.to (body_of request call.number) (at_place place turn))))
    → ((place : ℕ) → place ≤ turn.state.place + 2 → P (asked_over sc call turn (lost_on_the_way (kind_of request) call.to (at_place place turn))))
    → P (asked sc request call turn)
asked_as P sc request call turn arrives lost =
    sent_as (λ out. P (asked_over sc call turn out)) sc (kind_of request) call.to (body_of request call.number) turn arrives lost

pub called_as : (P : Turn → Type 0) (sc : Scenario) (to : ℕ) (asked : Request) (wanted : Purpose) (turn : Turn)
    → ((delay place : ℕ) → latency sc turn.state.me to ≤ delay → place ≤ turn.state.place + 2
    → P (called_over sc to wanted turn (made delay to (body_of asked (turn.state.count + 1)) (at_place place turn))))
    → ((place : ℕ) → place ≤ turn.state.place + 2 → P (called_over sc to wanted turn (lost_on_the_way (kind_of asked) to (at_place place turn))))
    → P (called sc to asked wanted turn)
unfolding called
called_as P sc to asked wanted turn arrives lost = asked_as P sc asked (new_call to wanted turn) turn arrives lost
