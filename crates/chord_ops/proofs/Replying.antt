-- A member replies to requests, weighs notifiers and checks its predecessor.
use Rattle.std.proofs.Common.{◌≡◌, ◌==◌, ◌&&◌, ◌||◌, ℕ, ◌++◌, Bool, true, false, not, List, Option, Some, None, refl, ◌∙◌, ap, eq-eqb}
use Rattle.std.specs.Prelude.{if◌then◌else◌}
use Rattle.std.proofs.lemmas.Bool.{ne_eqb}
use Rattle.chord_event.specs.declared.body.Body.{Body}
use Rattle.chord_event.specs.declared.body.Body.TheVariants as body
use Rattle.des_event.specs.declared.event.Event.{Event}
use Rattle.chord_event.specs.declared.line.Line.TheVariants as line
use Rattle.chord_event.specs.declared.line.MessageKind.TheVariants as kind
use Rattle.chord_scenario.specs.declared.scenario.Scenario.{Scenario}
use Rattle.chord_scenario.specs.Start.{check_timer}
use Rattle.chord_node.specs.declared.state.NodeState.{NodeState}
use Rattle.chord_node.specs.declared.state.Purpose.TheVariants as purpose
use Rattle.chord_node.specs.declared.state.Status.{Status}
use Rattle.chord_node.specs.declared.state.Status.TheVariants as status
use Rattle.chord_ops.specs.declared.turn.Request.TheVariants as request
use Rattle.chord_ops.specs.declared.turn.Turn.{Turn}
use Rattle.chord_ops.specs.Detail.{detailed, message_lines}
use Rattle.chord_ops.specs.Procedures.{check_armed}
use Rattle.chord_ops.specs.Replies.{ChecksPredecessor, RepliesToRequests, RepliesWith, WeighsNotifiers, sender_of}
use Rattle.chord_ops.specs.Rules.{acted, check_tick, checked, effect, has_ping_call, is_down_status, is_joining_status, is_member_status, list_asked, notified, notifier_met, opening, pinged, state_asked, step_asked}
use Rattle.chord_ops.specs.Search.{step_answer}
use Rattle.chord_ops.specs.Turns.{called, noted, sent, timer_made, when_some}
use Rattle.chord_ops.proofs.KeptJoins.{same_row_armed}

-- telling of messages leaves the predecessor as it is
prdc_told : (sc : Scenario) (turn : Turn) → (detailed sc turn).state.prdc ≡ turn.state.prdc
unfolding detailed
prdc_told sc turn = elim sc.detail as (λ b. (if b then record turn { lines = turn.lines ++ message_lines turn.state turn.events } else turn).state.prdc
    ≡ turn.state.prdc) [ true ↦ refl | false ↦ refl ]

-- nor does the timer of the next check
prdc_armed : (sc : Scenario) (turn : Turn) → (check_armed sc turn).state.prdc ≡ turn.state.prdc
unfolding check_armed timer_made
prdc_armed sc turn = same_row_armed (λ s. s.prdc) sc (check_timer sc turn.state.epoch) turn (λ s count place. refl)

-- a member takes the step of a rule that is for members
at_member_of : (s : NodeState) (step other : Turn) → s.status ≡ status.Member → (if is_member_status s.status then step else other) ≡ step
at_member_of s step other member = ap (λ (v : Status). if is_member_status v then step else other) member

module _ (sc : Scenario) (s : NodeState) (e : Event Body) (member : s.status ≡ status.Member) where
  abbrev from : ℕ
  from = sender_of e

  abbrev start : Turn
  start = opening s e

  to_step : (number key : ℕ) (avoid : List ℕ) → e.body ≡ body.Step number key avoid
      → RepliesWith sc s e kind.StepReply (body.StepReply number (step_answer sc s key avoid))
  unfolding effect step_asked
  to_step number key avoid is = ap (λ (b : Body). detailed sc (acted sc from b start)) is
      ∙ ap (detailed sc) (at_member_of s (sent sc kind.StepReply from (body.StepReply number (step_answer sc s key avoid)) start)
      (noted (line.Drop kind.Step from) start) member)

  to_get_list : (number : ℕ) → e.body ≡ body.GetList number → RepliesWith sc s e kind.ListReply (body.ListReply number s.succ)
  unfolding effect list_asked
  to_get_list number is = ap (λ (b : Body). detailed sc (acted sc from b start)) is
      ∙ ap (detailed sc) (at_member_of s (sent sc kind.ListReply from (body.ListReply number s.succ) start) (noted (line.Drop kind.GetList from) start) member)

  to_ping : (number : ℕ) → e.body ≡ body.Ping number → RepliesWith sc s e kind.Pong (body.Pong number)
  unfolding effect pinged
  to_ping number is = ap (λ (b : Body). detailed sc (acted sc from b start)) is
      ∙ ap (detailed sc) (at_member_of s (sent sc kind.Pong from (body.Pong number) start) (noted (line.Drop kind.Ping from) start) member)

  to_get_state : (number : ℕ) → e.body ≡ body.GetState number → RepliesWith sc s e kind.StateReply (body.StateReply number s.prdc s.succ)
  unfolding effect state_asked
  to_get_state number is = ap (λ (b : Body). detailed sc (acted sc from b start)) is
      ∙ ap (detailed sc) (at_member_of s (sent sc kind.StateReply from (body.StateReply number s.prdc s.succ) start) (noted (line.Drop kind.GetState from) start) member)

  met : (o : Option ℕ) → s.prdc ≡ o → e.body ≡ body.Notify → effect sc s e ≡ detailed sc (notifier_met sc from o start)
  unfolding effect notified
  met o has is =
      let step : Option ℕ → Turn = λ o. notifier_met sc from o start in
      ap (λ (b : Body). detailed sc (acted sc from b start)) is
      ∙ ap (detailed sc) (at_member_of s (step s.prdc) (noted (line.Drop kind.Notify from) start) member)
      ∙ ap (λ (o : Option ℕ). detailed sc (step o)) has

  weighs : e.body ≡ body.Notify → WeighsNotifiers sc s e
  weighs is =
      let taken : Turn = record start { state = record s { prdc = Some from } } in
      let pinged_for : ℕ → Turn = λ prdc. called sc prdc request.Ping (purpose.Ping from) start in
      let asks : ℕ → Bool = λ prdc. not (from == prdc) && not (has_ping_call s) in
      let told : Turn → Turn = detailed sc in
      record {
        first = λ has. ap (λ (t : Turn). t.state.prdc) (met None has is) ∙ prdc_told sc taken;
        closer = λ prdc has test. ap (λ (t : Turn). t.state.prdc)
            (met (Some prdc) has is ∙ ap (λ (b : Bool). told (if b then taken else if asks prdc then pinged_for prdc else start)) test)
            ∙ prdc_told sc taken;
        other = λ prdc has test differs idle. met (Some prdc) has is
            ∙ ap (λ (b : Bool). told (if b then taken else if asks prdc then pinged_for prdc else start)) test
            ∙ ap (λ (b : Bool). told (if not b && not (has_ping_call s) then pinged_for prdc else start)) (ne_eqb from prdc differs)
            ∙ ap (λ (b : Bool). told (if not b then pinged_for prdc else start)) idle;
      }

  checks : (prdc : ℕ) → s.prdc ≡ Some prdc → has_ping_call s ≡ false → e.body ≡ body.CheckTick s.epoch → ChecksPredecessor sc s e prdc
  unfolding effect check_tick
  checks prdc has idle is =
      let armed : Turn = check_armed sc start in
      let told : Turn → Turn = detailed sc in
      ap (λ (b : Body). told (acted sc from b start)) is
      ∙ ap (λ (b : Bool). told (if not b || is_down_status s.status then start
      else if is_joining_status s.status || has_ping_call s then armed else checked sc armed)) (eq-eqb s.epoch s.epoch refl)
      ∙ ap (λ (v : Status). told (if is_down_status v then start
      else if is_joining_status v || has_ping_call s then armed else checked sc armed)) member
      ∙ ap (λ (b : Bool). told (if b then armed else checked sc armed)) idle
      ∙ ap (λ (o : Option ℕ). told (when_some o (λ node. called sc node request.Ping purpose.Check) armed)) (prdc_armed sc start ∙ has)

pub replies : (sc : Scenario) (s : NodeState) (e : Event Body) → s.status ≡ status.Member → RepliesToRequests sc s e
replies sc s e member = record {
  to_step = to_step sc s e member;
  to_get_state = to_get_state sc s e member;
  to_get_list = to_get_list sc s e member;
  to_ping = to_ping sc s e member;
}

pub weighs_notifiers : (sc : Scenario) (s : NodeState) (e : Event Body) → s.status ≡ status.Member → e.body ≡ body.Notify
    → WeighsNotifiers sc s e
weighs_notifiers sc s e member is = weighs sc s e member is

pub checks_predecessor : (sc : Scenario) (s : NodeState) (e : Event Body) (prdc : ℕ) → s.status ≡ status.Member → s.prdc ≡ Some prdc
    → has_ping_call s ≡ false → e.body ≡ body.CheckTick s.epoch → ChecksPredecessor sc s e prdc
checks_predecessor sc s e prdc member has idle is = checks sc s e member prdc has idle is
