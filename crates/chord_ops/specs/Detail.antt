-- What an event tells of the messages that it has made, if the scenario asks for detail.
use Rattle.std.specs.Prelude.{ℕ, ◌==◌, List, ◌++◌, Option, Some, None, find, option_and_then, option_map, if◌then◌else◌}
use Rattle.std.specs.List.{filter_map}
use Rattle.chord_event.specs.declared.body.Body.{Body}
use Rattle.chord_event.specs.declared.body.Body.TheVariants as body
use Rattle.des_event.specs.declared.event.Event.{Event}
use Rattle.chord_event.specs.declared.line.Line.{Line}
use Rattle.chord_event.specs.declared.line.Line.TheVariants as line
use Rattle.chord_event.specs.declared.line.MessageKind.{MessageKind}
use Rattle.chord_event.specs.declared.line.MessageKind.TheVariants as kind
use Rattle.chord_scenario.specs.declared.scenario.Scenario.{Scenario}
use Rattle.chord_node.specs.declared.state.Call.{Call}
use Rattle.chord_node.specs.declared.state.NodeState.{NodeState}
use Rattle.chord_node.specs.declared.state.Purpose.{Purpose}
use Rattle.chord_node.specs.declared.state.Purpose.TheVariants as purpose
use Rattle.chord_ops.specs.Procedures.{call_of}
use Rattle.chord_ops.specs.declared.turn.Turn.{Turn}

-- the line of a lookup's request, which has its lookup beside it
abbrev pub seek_line : NodeState → MessageKind → Call → Option Line
seek_line s kind call =
    option_map (λ lookup. line.Seek kind call.to call.number lookup.key lookup.started) (find (λ lookup. lookup.call == call.number) s.lookups)

-- the line of a call's request, by the purpose of the call
abbrev pub request_line : NodeState → Call → Purpose → Option Line
request_line s call purpose.Lookup = seek_line s kind.Step call
request_line s call purpose.Owner = seek_line s kind.GetState call
request_line s call purpose.JoinStep = Some (line.Ask kind.Step call.to call.number)
request_line s call purpose.JoinList = Some (line.Ask kind.GetList call.to call.number)
request_line s call purpose.State = Some (line.Ask kind.GetState call.to call.number)
request_line s call (purpose.JoinHead behind) = Some (line.Ask kind.GetState call.to call.number)
request_line s call purpose.List = Some (line.Ask kind.GetList call.to call.number)
request_line s call purpose.Check = Some (line.Ask kind.Ping call.to call.number)
request_line s call (purpose.Ping notifier) = Some (line.Ask kind.Ping call.to call.number)

-- the line for an event that was made: a timeout stands for the request of its call, which may have been lost, and the
-- call is among the outstanding ones
abbrev pub line_for : NodeState → (target : ℕ) → Body → Option Line
line_for s target (body.Timeout number) = option_and_then (λ call. request_line s call call.purpose) (call_of number s)
line_for s target (body.StepReply number answer) = Some (line.Send kind.StepReply target)
line_for s target (body.StateReply number prdc list) = Some (line.Send kind.StateReply target)
line_for s target (body.ListReply number list) = Some (line.Send kind.ListReply target)
line_for s target (body.Pong number) = Some (line.Send kind.Pong target)
line_for s target body.Notify = Some (line.Send kind.Notify target)
line_for s target (body.Leave prdc list) = Some (line.Send kind.Leave target)
line_for s target _ = None

-- the lines for the events that were made, by the state at the end
abbrev pub message_lines : NodeState → List (Event Body) → List Line
message_lines s made = filter_map (λ e. line_for s e.target e.body) made

-- the turn with these lines at its end, if the scenario asks for them
unfoldable pub detailed : Scenario → Turn → Turn
detailed sc turn =
    if sc.detail then record turn { lines = turn.lines ++ message_lines turn.state turn.events } else turn
