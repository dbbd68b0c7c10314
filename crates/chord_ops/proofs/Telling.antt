-- The lines that tell of messages: they name nodes of the scenario, and there are no more of them than events.
use Rattle.std.proofs.Common.{◌==◌, ℕ, suc, ◌+◌, ◌<◌, ◌≤◌, List, [], ◌∷◌, ◌++◌, get_or, length, Option, Some, None, Bool, true, false, arith, length-append}
use Rattle.std.specs.List.{cons_option, filter_map}
use Rattle.std.specs.Prelude.{All, IfSome, find, option_and_then, option_map, if◌then◌else◌}
use Rattle.std.proofs.lemmas.List.Elements.{All-append, All-cons, All-head, All-tail}
use Rattle.chord_event.specs.declared.body.Body.{Body}
use Rattle.chord_event.specs.declared.body.Body.TheVariants as body
use Rattle.des_event.specs.declared.event.Event.{Event}
use Rattle.chord_event.specs.declared.line.Line.{Line}
use Rattle.chord_event.specs.declared.line.Line.TheVariants as line
use Rattle.chord_event.specs.declared.line.MessageKind.{MessageKind}
use Rattle.chord_event.specs.declared.line.MessageKind.TheVariants as kind
use Rattle.chord_scenario.specs.declared.scenario.Scenario.{Scenario}
use Rattle.chord_scenario.specs.Blocks.{IsLineOf}
use Rattle.chord_scenario.specs.World.{node_count}
use Rattle.chord_node.specs.declared.state.Call.{Call}
use Rattle.chord_node.specs.declared.state.Lookup.{Lookup}
use Rattle.chord_node.specs.declared.state.NodeState.{NodeState}
use Rattle.chord_node.specs.declared.state.Purpose.{Purpose}
use Rattle.chord_node.specs.declared.state.Purpose.TheVariants as purpose
use Rattle.chord_node.specs.Invariant.{IsCall, IsNodeState}
use Rattle.chord_ops.specs.declared.turn.Turn.{Turn}
use Rattle.chord_ops.specs.Detail.{detailed, line_for, message_lines, request_line}
use Rattle.chord_ops.specs.Limits.{most_made}
use Rattle.chord_ops.specs.Procedures.{call_of}
use Rattle.chord_ops.specs.Sound.{IsSound, IsSoundEvent}
use Rattle.chord_ops.proofs.Found.{IfSome-find}
use Rattle.chord_ops.proofs.KeptRules.{none_of}
use Rattle.chord_ops.proofs.Noted.{HasNoted, one_node}

-- an event has left lines of the scenario's nodes, and detail at most one more for each event that it may make
pub record HasDetail (sc : Scenario) (n : ℕ) (turn : Turn) : Type 0 where
  pub named : All (IsLineOf sc) turn.lines
  pub few : length turn.lines ≤ n + most_made

seek_known : (sc : Scenario) (k : MessageKind) (call : Call) (o : Option Lookup) → call.to < node_count sc
    → IfSome (option_map (λ (lookup : Lookup). line.Seek k call.to call.number lookup.key lookup.started) o) (IsLineOf sc)
seek_known sc k call None at = tt
seek_known sc k call (Some lookup) at = one_node sc call.to at

request_known : (sc : Scenario) (s : NodeState) (call : Call) (wanted : Purpose) → call.to < node_count sc → IfSome (request_line s call wanted) (IsLineOf sc)
request_known sc s call purpose.Lookup at = seek_known sc kind.Step call (find (λ (lookup : Lookup). lookup.call == call.number) s.lookups) at
request_known sc s call purpose.Owner at = seek_known sc kind.GetState call (find (λ (lookup : Lookup). lookup.call == call.number) s.lookups) at
request_known sc s call purpose.JoinStep at = one_node sc call.to at
request_known sc s call purpose.JoinList at = one_node sc call.to at
request_known sc s call (purpose.JoinHead behind) at = one_node sc call.to at
request_known sc s call purpose.State at = one_node sc call.to at
request_known sc s call purpose.List at = one_node sc call.to at
request_known sc s call purpose.Check at = one_node sc call.to at
request_known sc s call (purpose.Ping notifier) at = one_node sc call.to at

line_known : (sc : Scenario) (s : NodeState) (target : ℕ) (message : Body) → IsNodeState sc s → target < node_count sc
    → IfSome (line_for s target message) (IsLineOf sc)
line_known sc s target (body.Timeout number) h at =
    asked (call_of number s) (IfSome-find (IsCall sc) (λ (call : Call). call.number == number) s.calls h.calls.each)
  where
    asked : (o : Option Call) → IfSome o (IsCall sc) → IfSome (option_and_then (λ (call : Call). request_line s call call.purpose) o) (IsLineOf sc)
    asked None is = tt
    asked (Some call) is = request_known sc s call call.purpose is.to
line_known sc s target (body.StepReply number answer) h at = one_node sc target at
line_known sc s target (body.StateReply number prdc list) h at = one_node sc target at
line_known sc s target (body.ListReply number list) h at = one_node sc target at
line_known sc s target (body.Pong number) h at = one_node sc target at
line_known sc s target body.Notify h at = one_node sc target at
line_known sc s target (body.Leave prdc list) h at = one_node sc target at
line_known sc s target _ h at = tt

all_known : {A : Type 0} (P : Line → Type 0) (f : A → Option Line) (xs : List A) → All (λ x. IfSome (f x) P) xs → All P (filter_map f xs)
all_known P f [] all = none_of P
all_known P f (x ∷ xs) all = with_first (f x) (All-head (λ y. IfSome (f y) P) x xs all) (all_known P f xs (All-tail (λ y. IfSome (f y) P) x xs all))
  where
    with_first : (o : Option Line) → IfSome o P → All P (filter_map f xs) → All P (cons_option o (filter_map f xs))
    with_first None is rest = rest
    with_first (Some l) is rest = All-cons P l (filter_map f xs) is rest

few_told : {A : Type 0} (f : A → Option Line) (xs : List A) → length (filter_map f xs) ≤ length xs
few_told f [] = omega arith
few_told f (x ∷ xs) = with_first (f x) (few_told f xs)
  where
    with_first : (o : Option Line) → length (filter_map f xs) ≤ length xs → length (cons_option o (filter_map f xs)) ≤ suc (length xs)
    with_first None le = omega (arith, le)
    with_first (Some l) le = omega (arith, le)

told_known : (sc : Scenario) (s : NodeState) (made : List (Event Body)) → IsNodeState sc s → All (IsSoundEvent sc) made
    → All (IsLineOf sc) (message_lines s made)
told_known sc s made h sound =
    all_known (IsLineOf sc) (λ (e : Event Body). line_for s e.target e.body) made
    (λ k d within. line_known sc s (get_or made k d).target (get_or made k d).body h (sound k d within).target)

pub noted_detailed : (sc : Scenario) (n : ℕ) (turn : Turn) → length turn.events ≤ most_made → IsSound sc turn → HasNoted sc n turn
    → HasDetail sc n (detailed sc turn)
unfolding detailed
noted_detailed sc n turn few sound h = by_choice sc.detail
  where
    told : List Line
    told = message_lines turn.state turn.events

    by_choice : (b : Bool) → HasDetail sc n (if b then record turn { lines = turn.lines ++ told } else turn)
    by_choice true = record {
      named = All-append (IsLineOf sc) turn.lines told h.named (told_known sc turn.state turn.events sound.state sound.events);
      few = omega (
        arith,
        h.few,
        length-append turn.lines told,
        few_told (λ (e : Event Body). line_for turn.state e.target e.body) turn.events,
        few,
      );
    }
    by_choice false = record { named = h.named; few = omega (arith, h.few) }
