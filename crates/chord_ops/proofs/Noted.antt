-- The lines of a turn: they name nodes of the scenario, and with a line for each lookup that is left they are few.
use Rattle.std.proofs.Common.{ℕ, ◌+◌, ◌<◌, ◌≤◌, Bool, true, false, List, [], ◌∷◌, ◌++◌, length, Option, Some, None, take, drop, arith, length-append, suc}
use Rattle.std.proofs.lemmas.List.{length-drop, length-take}
use Rattle.std.proofs.lemmas.List.Elements.{All-append, All-cons}
use Rattle.std.specs.List.{All, cons_option, filter_map, insert, remove}
use Rattle.std.specs.Prelude.{IfSome, option_to_list, if◌then◌else◌}
use Rattle.chord_event.specs.declared.body.Body.{Body}
use Rattle.chord_event.specs.declared.line.Line.{Line}
use Rattle.chord_event.specs.declared.line.Line.TheVariants as line
use Rattle.chord_event.specs.declared.line.MessageKind.{MessageKind}
use Rattle.chord_scenario.specs.declared.scenario.Scenario.{Scenario}
use Rattle.chord_node.specs.declared.state.Aim.{Aim}
use Rattle.chord_node.specs.declared.state.Aim.TheVariants as aim
use Rattle.chord_node.specs.declared.state.Call.{Call}
use Rattle.chord_node.specs.declared.state.Lookup.{Lookup}
use Rattle.chord_node.specs.declared.state.NodeState.{NodeState}
use Rattle.chord_node.specs.declared.state.Purpose.{Purpose}
use Rattle.chord_node.specs.Invariant.{AllNodes}
use Rattle.chord_scenario.specs.Blocks.{IsLineOf}
use Rattle.chord_scenario.specs.World.{node_count}
use Rattle.chord_ops.specs.declared.turn.Request.{Request}
use Rattle.chord_ops.specs.declared.turn.Turn.{Turn}
use Rattle.chord_ops.specs.Procedures.{lost_for, lost_line}
use Rattle.chord_ops.specs.Turns.{asked, called, kind_of, noted, sent, when_some}
use Rattle.chord_ops.proofs.Sending.{asked_as, called_as, sent_as}
use Rattle.chord_ops.proofs.KeptRules.{none_of}

-- the lines name only nodes of the scenario; with the lookups, each of which may still leave a line, this is their
-- number at most
pub record AreNotes (sc : Scenario) (n : ℕ) (lines : List Line) (lookups : List Lookup) : Type 0 where
  pub named : All (IsLineOf sc) lines
  pub few : length lines + length lookups ≤ n

abbrev pub HasNoted : Scenario → ℕ → Turn → Type 0
HasNoted sc n turn = AreNotes sc n turn.lines turn.state.lookups

-- the nodes that a node knows are the scenario's
pub record Knows (sc : Scenario) (me : ℕ) (via prdc : Option ℕ) (succ fingers : List ℕ) : Type 0 where
  pub own : me < node_count sc
  pub via_known : IfSome via (λ node. node < node_count sc)
  pub prdc_known : IfSome prdc (λ node. node < node_count sc)
  pub succ_known : AllNodes sc succ
  pub fingers_known : AllNodes sc fingers
  pub bootstraps : AllNodes sc sc.bootstraps

abbrev pub KnowsNodes : Scenario → NodeState → Type 0
KnowsNodes sc s = Knows sc s.me s.via s.prdc s.succ s.fingers

-- Room for one line more, or two, or three

pub one_more : {lines : List Line} {lookups : List Lookup} (sc : Scenario) (n : ℕ) → AreNotes sc n lines lookups → AreNotes sc (n + 1) lines lookups
one_more sc n h = record { named = h.named; few = omega (arith, h.few) }

pub two_more : {lines : List Line} {lookups : List Lookup} (sc : Scenario) (n : ℕ) → AreNotes sc n lines lookups → AreNotes sc (n + 1 + 1) lines lookups
two_more sc n h = one_more sc (n + 1) (one_more sc n h)

pub three_more : {lines : List Line} {lookups : List Lookup} (sc : Scenario) (n : ℕ) → AreNotes sc n lines lookups
    → AreNotes sc (n + 1 + 1 + 1) lines lookups
three_more sc n h = one_more sc (n + 1 + 1) (two_more sc n h)

-- Choices

pub noted_if : (sc : Scenario) (n : ℕ) (b : Bool) (x y : Turn) → HasNoted sc n x → HasNoted sc n y → HasNoted sc n (if b then x else y)
noted_if sc n true x y g h = g
noted_if sc n false x y g h = h

pub noted_when_some : {A : Type 0} (sc : Scenario) (n : ℕ) (P : A → Type 0) (o : Option A) (step : A → Turn → Turn) (turn : Turn) → IfSome o P
    → HasNoted sc n turn → ((a : A) → P a → HasNoted sc n (step a turn)) → HasNoted sc n (when_some o step turn)
noted_when_some sc n P None step turn known h noted = h
noted_when_some sc n P (Some a) step turn known h noted = noted a known

pub knows_when_some : {A : Type 0} (sc : Scenario) (o : Option A) (step : A → Turn → Turn) (turn : Turn) → KnowsNodes sc turn.state
    → ((a : A) → KnowsNodes sc (step a turn).state) → KnowsNodes sc (when_some o step turn).state
knows_when_some sc None step turn h knows = h
knows_when_some sc (Some a) step turn h knows = knows a

-- Lines

-- a line that names no node, or one
pub no_node : (sc : Scenario) → AllNodes sc []
no_node sc = none_of (λ (node : ℕ). node < node_count sc)

pub one_node : (sc : Scenario) (node : ℕ) → node < node_count sc → AllNodes sc (node ∷ [])
one_node sc node at = All-cons (λ (x : ℕ). x < node_count sc) node [] at (no_node sc)

pub notes_lines : (sc : Scenario) (n k : ℕ) (lines more : List Line) (lookups : List Lookup) → All (IsLineOf sc) more → length more ≤ k
    → AreNotes sc n lines lookups → AreNotes sc (n + k) (lines ++ more) lookups
notes_lines sc n k lines more lookups all le h =
    record {
      named = All-append (IsLineOf sc) lines more h.named all;
      few = omega (arith, length-append lines more, h.few, le);
    }

pub noted_line : (sc : Scenario) (n : ℕ) (text : Line) (turn : Turn) → IsLineOf sc text → HasNoted sc n turn → HasNoted sc (n + 1) (noted text turn)
noted_line sc n text turn is h =
    notes_lines sc n 1 turn.lines (text ∷ []) turn.state.lookups
    (All-cons (IsLineOf sc) text [] is (none_of (IsLineOf sc))) (omega arith) h

-- Messages, each of which leaves a line if it is lost

pub noted_sent : (sc : Scenario) (n : ℕ) (k : MessageKind) (to : ℕ) (message : Body) (turn : Turn) → to < node_count sc → HasNoted sc n turn
    → HasNoted sc (n + 1) (sent sc k to message turn)
noted_sent sc n k to message turn at h =
    sent_as (λ out. HasNoted sc (n + 1) out) sc k to message turn
    (λ delay place late near. one_more sc n h)
    (λ place near. noted_line sc n (line.Lose k to) turn (one_node sc to at) h)

pub noted_asked : (sc : Scenario) (n : ℕ) (request : Request) (call : Call) (turn : Turn) → call.to < node_count sc → HasNoted sc n turn
    → HasNoted sc (n + 1) (asked sc request call turn)
noted_asked sc n request call turn at h =
    asked_as (λ out. HasNoted sc (n + 1) out) sc request call turn
    (λ delay place late near. one_more sc n h)
    (λ place near. noted_line sc n (line.Lose (kind_of request) call.to) turn (one_node sc call.to at) h)

pub noted_called : (sc : Scenario) (n to : ℕ) (asked : Request) (wanted : Purpose) (turn : Turn) → to < node_count sc → HasNoted sc n turn
    → HasNoted sc (n + 1) (called sc to asked wanted turn)
noted_called sc n to asked wanted turn at h =
    called_as (λ out. HasNoted sc (n + 1) out) sc to asked wanted turn
    (λ delay place late near. one_more sc n h)
    (λ place near. noted_line sc n (line.Lose (kind_of asked) to) turn (one_node sc to at) h)

-- the lines of abandoned lookups name no node

lost_with : (sc : Scenario) (wanted : Aim) (time : ℕ) (lookup : Lookup) (rest : List Line) → All (IsLineOf sc) rest
    → All (IsLineOf sc) (cons_option (lost_for wanted time lookup) rest)
lost_with sc aim.User time lookup rest all = All-cons (IsLineOf sc) _ rest (no_node sc) all
lost_with sc (aim.Finger index) time lookup rest all = all

lost_with_few : (wanted : Aim) (time : ℕ) (lookup : Lookup) (rest : List Line) → length (cons_option (lost_for wanted time lookup) rest) ≤ length rest + 1
lost_with_few aim.User time lookup rest = omega arith
lost_with_few (aim.Finger index) time lookup rest = omega arith

pub all_lost : (sc : Scenario) (time : ℕ) (lookups : List Lookup) → All (IsLineOf sc) (filter_map (lost_line time) lookups)
all_lost sc time [] = none_of (IsLineOf sc)
all_lost sc time (x ∷ xs) = lost_with sc x.aim time x (filter_map (lost_line time) xs) (all_lost sc time xs)

pub few_lost : (time : ℕ) (lookups : List Lookup) → length (filter_map (lost_line time) lookups) ≤ length lookups
few_lost time [] = omega arith
few_lost time (x ∷ xs) =
    omega (arith, lost_with_few x.aim time x (filter_map (lost_line time) xs), few_lost time xs)

lost_alone : (sc : Scenario) (wanted : Aim) (time : ℕ) (lookup : Lookup) → All (IsLineOf sc) (option_to_list (lost_for wanted time lookup))
lost_alone sc aim.User time lookup = All-cons (IsLineOf sc) _ [] (no_node sc) (none_of (IsLineOf sc))
lost_alone sc (aim.Finger index) time lookup = none_of (IsLineOf sc)

lost_alone_few : (wanted : Aim) (time : ℕ) (lookup : Lookup) → length (option_to_list (lost_for wanted time lookup)) ≤ 1
lost_alone_few aim.User time lookup = omega arith
lost_alone_few (aim.Finger index) time lookup = omega arith

-- the line of an abandoned lookup
pub notes_lost : (sc : Scenario) (n time : ℕ) (lookup : Lookup) (lines : List Line) (lookups : List Lookup) → AreNotes sc n lines lookups
    → AreNotes sc (n + 1) (lines ++ option_to_list (lost_line time lookup)) lookups
notes_lost sc n time lookup lines lookups h =
    notes_lines sc n 1 lines (option_to_list (lost_line time lookup)) lookups (lost_alone sc lookup.aim time lookup)
    (lost_alone_few lookup.aim time lookup) h

-- Lookups

pub notes_inserted : (sc : Scenario) (n : ℕ) (lines : List Line) (lookups : List Lookup) (place : ℕ) (lookup : Lookup) → AreNotes sc n lines lookups
    → AreNotes sc (n + 1) lines (insert lookups place lookup)
notes_inserted sc n lines lookups place lookup h =
    record {
      named = h.named;
      few =
          omega (
            arith,
            h.few,
            length-append (take place lookups) (lookup ∷ drop place lookups),
            length-take place lookups,
            length-drop place lookups,
          );
    }

pub notes_removed : (sc : Scenario) (n : ℕ) (lines : List Line) (lookups : List Lookup) (place : ℕ) → AreNotes sc n lines lookups
    → AreNotes sc n lines (remove lookups place)
notes_removed sc n lines lookups place h =
    record {
      named = h.named;
      few =
          omega (
            arith,
            h.few,
            length-append (take place lookups) (drop (suc place) lookups),
            length-take place lookups,
            length-drop (suc place) lookups,
          );
    }

pub notes_cleared : (sc : Scenario) (n : ℕ) (lines : List Line) (lookups : List Lookup) → AreNotes sc n lines lookups → AreNotes sc n lines []
notes_cleared sc n lines lookups h = record { named = h.named; few = omega (arith, h.few) }
