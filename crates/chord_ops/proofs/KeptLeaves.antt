-- A node that leaves, and the end of a life, keep the invariant.
use Rattle.std.proofs.Common.{◌≡◌, ◌==◌, ℕ, ◌+◌, ◌<◌, ◌≤◌, not, ◌||◌, List, length, Option}
use Rattle.std.specs.Prelude.{IfSome, nat_lt, slice_get}
use Rattle.chord_event.specs.declared.body.Body.TheVariants as body
use Rattle.chord_event.specs.declared.line.CommandKind.TheVariants as command
use Rattle.chord_event.specs.declared.line.Line.TheVariants as line
use Rattle.chord_event.specs.declared.line.MessageKind.TheVariants as kind
use Rattle.chord_scenario.specs.declared.scenario.Scenario.{Scenario}
use Rattle.chord_scenario.specs.declared.setting.Churn.{Churn}
use Rattle.chord_scenario.specs.Draws.{leave_number}
use Rattle.chord_scenario.specs.Range.{IsInRange}
use Rattle.chord_scenario.specs.World.{is_churn_node, node_count}
use Rattle.chord_node.specs.declared.state.Attempt.{Attempt}
use Rattle.chord_node.specs.declared.state.NodeState.{NodeState}
use Rattle.chord_node.specs.declared.state.Status.{Status}
use Rattle.chord_node.specs.declared.state.Status.TheVariants as status
use Rattle.chord_node.specs.Invariant.{AllNodes, FitsStatus, IsNodeState}
use Rattle.chord_ops.specs.declared.turn.Turn.{Turn}
use Rattle.chord_ops.specs.Procedures.{departed, head_told, holds, told}
use Rattle.chord_ops.specs.Rules.{cmd_leave, crashed, inherited, is_down, is_void, life_end, life_over, mended}
use Rattle.chord_ops.specs.Sound.{IsSound}
use Rattle.chord_ops.specs.Turns.{after_words, noted, when_some}
use Rattle.chord_ops.proofs.Growing.{known}
use Rattle.chord_ops.proofs.Heirs.{inherited_known, mended_few, mended_known, mended_some}
use Rattle.chord_ops.proofs.KeptFields.{with_prdc, with_succ}
use Rattle.chord_ops.proofs.KeptTurns.{kept_at_place, kept_noted}
use Rattle.chord_ops.proofs.KeptRules.{first_known, kept_gone_down, kept_if, kept_sent, kept_when_some}
use Rattle.chord_ops.proofs.KeptJoins.{kept_rise_armed}

kept_told : (sc : Scenario) (to : ℕ) (turn : Turn) → to < node_count sc → IsSound sc turn → IsSound sc (told sc to turn)
kept_told sc to turn at h =
    kept_if sc (to == turn.state.me) turn _ (λ test. h)
    (λ test. kept_sent sc kind.Leave to (body.Leave turn.state.prdc turn.state.succ) turn at
    (h.state.neighbours.prdc_known, h.state.neighbours.succ_known) h)

kept_head_told : (sc : Scenario) (to : ℕ) (turn : Turn) → to < node_count sc → IsSound sc turn → IsSound sc (head_told sc to turn)
kept_head_told sc to turn at h = kept_if sc (holds turn.state.prdc to) turn _ (λ test. h) (λ test. kept_told sc to turn at h)

pub kept_departed : (sc : Scenario) (turn : Turn) → IsInRange sc → IsSound sc turn → IsSound sc (departed sc turn)
unfolding departed
kept_departed sc turn ranges h =
    let leaving : Turn = noted line.Leave turn in
    let one : Turn = when_some turn.state.prdc (told sc) leaving in
    let sound : IsSound sc leaving = kept_noted sc line.Leave turn h in
    let told_one : IsSound sc one = kept_when_some sc (λ node. node < node_count sc) turn.state.prdc (told sc) leaving
    h.state.neighbours.prdc_known sound (λ prdc at. kept_told sc prdc leaving at sound) in
    kept_gone_down sc (when_some (slice_get turn.state.succ 0) (head_told sc) one) ranges
    (kept_when_some sc (λ node. node < node_count sc) (slice_get turn.state.succ 0) (head_told sc) one
    (first_known sc turn.state.succ h.state.neighbours.succ_known) told_one (λ first at. kept_head_told sc first one at told_one))

pub kept_cmd_leave : (sc : Scenario) (turn : Turn) → IsInRange sc → IsSound sc turn → IsSound sc (cmd_leave sc turn)
unfolding cmd_leave
kept_cmd_leave sc turn ranges h =
    kept_if sc (is_down turn.state) _ _ (λ test. kept_noted sc (line.Ignored command.Leave) turn h) (λ test. kept_departed sc turn ranges h)

kept_crashed : (sc : Scenario) (turn : Turn) → IsInRange sc → IsSound sc turn → IsSound sc (crashed sc turn)
kept_crashed sc turn ranges h = kept_gone_down sc (noted line.Crash turn) ranges (kept_noted sc line.Crash turn h)

kept_life_over : (sc : Scenario) (epoch : ℕ) (churn : Churn) (turn : Turn) → IsInRange sc → IsSound sc turn → IsSound sc (life_over sc epoch churn turn)
kept_life_over sc epoch churn turn ranges h =
    let drawn : Turn = record turn { state = after_words 1 turn.state } in
    let sound : IsSound sc drawn = kept_at_place sc (turn.state.place + 1) turn h in
    kept_if sc (churn.leave == 0) _ _ (λ test. kept_crashed sc turn ranges h)
    (λ test. kept_if sc (nat_lt (leave_number sc turn.state.me epoch) churn.leave) _ _
    (λ leaves. kept_departed sc drawn ranges sound)
    (λ stays. kept_crashed sc drawn ranges sound))

pub kept_life_end : (sc : Scenario) (epoch : ℕ) (turn : Turn) → IsInRange sc → IsSound sc turn → IsSound sc (life_end sc epoch turn)
unfolding life_end
kept_life_end sc epoch turn ranges h =
    kept_if sc (is_void epoch turn.state || not (is_churn_node sc turn.state.me)) turn _ (λ test. h)
    (λ test. kept_rise_armed sc (when_some sc.churn (life_over sc epoch) turn)
    (kept_when_some sc (λ _. Unit {0}) sc.churn (life_over sc epoch) turn (known sc.churn) h
    (λ churn _. kept_life_over sc epoch churn turn ranges h)))

-- Those that are left

-- a member has a successor
successor_of_member : (sc : Scenario) (s : Status) (via : Option ℕ) (succ fingers : List ℕ) (join : Option Attempt) → s ≡ status.Member
    → FitsStatus sc s via succ fingers join → 1 ≤ length succ
successor_of_member sc status.Down via succ fingers join is h = absurd (cc)
successor_of_member sc status.Joining via succ fingers join is h = absurd (cc)
successor_of_member sc status.Member via succ fingers join is h = h.has_successor

-- a member whose neighbours have changed places with those of a node that has left
pub heirs_fit : (sc : Scenario) (gone : ℕ) (prdc : Option ℕ) (list : List ℕ) (s : NodeState) → IsInRange sc → gone < node_count sc
    → IfSome prdc (λ node. node < node_count sc) → AllNodes sc list → s.status ≡ status.Member → IsNodeState sc s
    → IsNodeState sc (record s { prdc = inherited gone prdc s.prdc; succ = mended sc gone list s.succ })
heirs_fit sc gone prdc list s ranges at known_prdc all member h =
    let new : List ℕ = mended sc gone list s.succ in
    let some : 1 ≤ length s.succ = successor_of_member sc s.status s.via s.succ s.fingers s.join member h.status in
    with_prdc sc (record s { succ = new }) (inherited gone prdc s.prdc) (inherited_known sc gone prdc s.prdc known_prdc h.neighbours.prdc_known)
    (with_succ sc s new (mended_known sc gone list s.succ at all h.neighbours.succ_known)
    (mended_few sc gone list s.succ ranges.numbers.list_least h.neighbours.list)
    (mended_some sc gone list s.succ some) h)
