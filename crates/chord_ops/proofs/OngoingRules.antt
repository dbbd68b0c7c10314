-- What a node waits for stays pending at each row of the rule table.
use Rattle.std.proofs.Common.{◌≡◌, ◌≢◌, ◌==◌, ◌⊎◌, inl, inr, ℕ, ◌+◌, ◌-◌, ◌<◌, ◌≤◌, ◌&&◌, ◌||◌, not, Bool, true, false, cond, List, [], ◌∷◌, ◌++◌, nat_lt, map, max, replicate, take, Option, Some, None, option_map, refl, sym, ◌∙◌, ap, subst, arith}
use Rattle.std.proofs.lemmas.Bool.Decides.{nat_tests}
use Rattle.std.proofs.lemmas.List.Sums.{sum_by-cons}
use Rattle.std.specs.List.{AllPairs, find, count_by, list_any}
use Rattle.std.specs.Prelude.{IsSome, is_some, slice_get, if◌then◌else◌}
use Rattle.chord_circle.specs.Circle.{between, finger_start}
use Rattle.chord_event.specs.declared.body.Answer.{Answer}
use Rattle.chord_event.specs.declared.body.Answer.TheVariants as answer
use Rattle.chord_event.specs.declared.body.Body.{Body}
use Rattle.chord_event.specs.declared.body.Body.TheVariants as body
use Rattle.des_event.specs.declared.event.Event.{Event}
use Rattle.des_event.specs.declared.key.Key.{Key}
use Rattle.chord_event.specs.declared.line.MessageKind.{MessageKind}
use Rattle.chord_event.specs.declared.line.MessageKind.TheVariants as kind
use Rattle.chord_event.specs.declared.line.Line.{Line}
use Rattle.chord_event.specs.declared.line.Line.TheVariants as line
use Rattle.chord_scenario.specs.declared.scenario.Scenario.{Scenario}
use Rattle.chord_scenario.specs.declared.setting.Churn.{Churn}
use Rattle.chord_scenario.specs.declared.setting.Span.{Span}
use Rattle.chord_scenario.specs.Draws.{delay, leave_number}
use Rattle.chord_scenario.specs.Range.{IsInRange}
use Rattle.chord_scenario.specs.Start.{jittered}
use Rattle.chord_scenario.specs.World.{ident_of, is_churn_node}
use Rattle.chord_node.specs.declared.state.Aim.TheVariants as aim
use Rattle.chord_node.specs.declared.state.Attempt.{Attempt}
use Rattle.chord_node.specs.declared.state.Call.{Call}
use Rattle.chord_node.specs.declared.state.Lookup.{Lookup}
use Rattle.chord_node.specs.declared.state.NodeState.{NodeState}
use Rattle.chord_node.specs.declared.state.Purpose.{Purpose}
use Rattle.chord_node.specs.declared.state.Purpose.TheVariants as purpose
use Rattle.chord_node.specs.declared.state.Status.{Status}
use Rattle.chord_node.specs.declared.state.Status.TheVariants as status
use Rattle.chord_node.specs.Invariant.{FitsStatus, IsJoiningState, IsNodeState, calls_for, is_for_join, is_for_lookup, waiting}
use Rattle.chord_node.specs.Limits.{most_steps}
use Rattle.chord_ops.specs.Detail.{detailed}
use Rattle.chord_ops.specs.declared.turn.Request.TheVariants as request
use Rattle.chord_ops.specs.declared.turn.Turn.{Turn}
use Rattle.chord_ops.specs.Procedures.{call_of, came_up, check_armed, departed, finger_armed, gone_down, head_told, holds, join_failed, join_retried, own_step, row_armed, stabilize_armed, stranded, told, traffic_armed, with_attempt, without_attempt, without_call}
use Rattle.chord_ops.specs.Rules.{acted, answered_call, answered_for, answers, arrived, asked_again, avoiding, call_given_up, call_over, call_repeated, call_timed_out, check_tick, check_timed_out, cleaned, cmd_crash, cmd_join, cmd_leave, cmd_lookup, dropped, dropped_by, effect, finger_after, finger_rotated, finger_tick, finger_turned, first_in_turn, has_finger_lookup, has_join_call, has_ping_call, has_repair_call, head, head_asked, head_met, head_notified, heard, is_down, is_down_status, is_handed_over, is_joining, is_joining_status, is_member, is_stuck, is_void, join_answered, join_asked, join_followed, join_list_answered, join_list_taken, join_timed_out, joined, key_words, leave_heard, life_end, life_over, list_after, list_answered, list_answered_for, list_asked, list_left, list_replied, lookup_answered, lookup_timed_out, near_covered, notified, notifier_met, once_more, opening, owner_answered, ping_timed_out, pinged, place_found, ponged, predecessor_told, predecessor_weighed, random_key, random_lookup, rejoin, replied, request_again, rescue_lines, rescuer, rise, sent_once_more, stabilize_tick, state_answered, state_answered_for, state_asked, state_replied, state_timed_out, step_asked, step_replied, successors_taken, timed_out, timeout, traffic_tick, with_heirs, without_silent}
use Rattle.chord_ops.specs.Timers.{Timer, is_timer, wanted}
use Rattle.chord_ops.specs.Timers.Timer.{Traffic, Life, Check, Rejoin, Timeout}
use Rattle.chord_ops.specs.Turns.{after_words, asked, kind_of, noted, timer_made, when_some}
use Rattle.chord_ops.proofs.KeptRules.{not_false, or_false}
use Rattle.chord_ops.proofs.KeptJoins.{count_down, down_by, joins_by, purpose_of_found}
use Rattle.chord_ops.proofs.KeptTable.{IsAnswered, and_both, answered_is, found_number, member_is, member_with}
use Rattle.chord_ops.proofs.Removed.{asking_found}
use Rattle.chord_ops.specs.Ongoing.{FitsJoin, FitsTick, IsOngoing, is_tick, numbered, waits}
use Rattle.chord_ops.proofs.Ongoing.{going_again, going_asked, going_called, going_if, going_over, going_past, going_sent, going_when, going_with, going_without, is_set, joins_alike, lived_no_timeout, none_found, numbered_same, other_node, owes, same_node, set_for-cons, set_here, ticks_alike}
use Rattle.chord_ops.proofs.OngoingJoins.{check_is, finger_is, going_as_member, going_came_up, going_cleared, going_down, going_for_attempt, going_join_failed, going_join_retried, going_rise_armed, going_stranded, life_is, stabilize_is, traffic_is}
use Rattle.chord_ops.proofs.OngoingProcedures.{
  going_called_else,
  going_lookup_asked,
  going_lookup_begun,
  going_lookup_diverted,
  going_lookup_finished,
  going_lookup_followed,
  going_user_lookup,
  going_with_lookup,
}

-- What the state of a node says of a call that is found

-- a node with a call for a join joins, and any other is a member
pub record IsAsked (number : ℕ) (call : Call) (calls : List Call) (is : Status) (via : Option ℕ) (join : Option Attempt) : Type 0 where
  pub found : find (λ (c : Call). c.number == number) calls ≡ Some call
  pub distinct : AllPairs (λ (c d : Call). c.number ≢ d.number) calls
  pub joins : is_for_join call.purpose ≡ true → is ≡ status.Joining
  pub others : is_for_join call.purpose ≡ false → is ≡ status.Member
  pub has_via : IsSome via
  pub has_attempt : is_for_join call.purpose ≡ true → IsSome join

pub asked_by : (sc : Scenario) (number : ℕ) (call : Call) (s : NodeState) → call_of number s ≡ Some call → IsNodeState sc s
    → IsAsked number call s.calls s.status s.via s.join
asked_by sc number call s found k =
    let allowed = purpose_of_found sc number call s found k.calls in
    record {
      found = found;
      distinct = k.calls.distinct;
      joins = λ is. joins_by s.status call.purpose is allowed;
      others = λ other. member_with s.status call.purpose other allowed;
      has_via = by_kind (is_for_join call.purpose) refl
          (λ is. via_of_joining s.status s.join (joins_by s.status call.purpose is allowed) k.status)
          (λ other. via_of_member s.status s.join (member_with s.status call.purpose other allowed) k.status);
      has_attempt = λ is. attempt_of_joining s.status s.join (joins_by s.status call.purpose is allowed) k.status;
    }
  where
    by_kind : (b : Bool) → is_for_join call.purpose ≡ b → (is_for_join call.purpose ≡ true → IsSome s.via) → (is_for_join call.purpose ≡ false → IsSome s.via)
        → IsSome s.via
    by_kind true is left right = left is
    by_kind false is left right = right is

    via_of_joining : (v : Status) (join : Option Attempt) → v ≡ status.Joining → FitsStatus sc v s.via s.succ s.fingers join → IsSome s.via
    via_of_joining status.Down join is fits = absurd (cc)
    via_of_joining status.Joining join is fits = fits.has_via
    via_of_joining status.Member join is fits = absurd (cc)

    via_of_member : (v : Status) (join : Option Attempt) → v ≡ status.Member → FitsStatus sc v s.via s.succ s.fingers join → IsSome s.via
    via_of_member status.Down join is fits = absurd (cc)
    via_of_member status.Joining join is fits = absurd (cc)
    via_of_member status.Member join is fits = fits.has_via

    attempt_of_joining : (v : Status) (join : Option Attempt) → v ≡ status.Joining → FitsStatus sc v s.via s.succ s.fingers join → IsSome join
    attempt_of_joining status.Down join is fits = absurd (cc)
    attempt_of_joining status.Joining join is fits = fits.has_attempt
    attempt_of_joining status.Member join is fits = absurd (cc)

joining_is : (s : Status) → is_joining_status s ≡ true → s ≡ status.Joining
joining_is status.Down is = absurd (cc)
joining_is status.Joining is = refl
joining_is status.Member is = absurd (cc)

via_of_member : (sc : Scenario) (s : Status) (via : Option ℕ) (succ fingers : List ℕ) (join : Option Attempt) → s ≡ status.Member
    → FitsStatus sc s via succ fingers join → IsSome via
via_of_member sc status.Down via succ fingers join is fits = absurd (cc)
via_of_member sc status.Joining via succ fingers join is fits = absurd (cc)
via_of_member sc status.Member via succ fingers join is fits = fits.has_via

-- the turn in which a node that leaves has told its neighbours
abbrev all_told : Scenario → Turn → Turn
all_told sc turn = when_some (slice_get turn.state.succ 0) (head_told sc) (when_some turn.state.prdc (told sc) (noted line.Leave turn))

module _ (sc : Scenario) (claim : Timer → ℕ) (rest : List (Event Body)) where
  -- Timeouts of calls that are not sent again

  going_lookup_timed_out : (silent place : ℕ) (lookup : Lookup) (turn : Turn) → IsOngoing sc claim 0 rest turn
      → IsOngoing sc claim 0 rest (lookup_timed_out sc silent place lookup turn)
  unfolding lookup_timed_out
  going_lookup_timed_out silent place lookup turn h = going_lookup_diverted sc claim rest silent place (once_more lookup) turn h

  going_join_timed_out : (silent : ℕ) (turn : Turn) → turn.state.status ≡ status.Joining → IsSome turn.state.via → IsSome turn.state.join
      → IsOngoing sc claim 1 rest turn → IsOngoing sc claim 0 rest (join_timed_out sc silent turn)
  unfolding join_timed_out
  going_join_timed_out silent turn joining has_via has_attempt h =
      going_for_attempt sc claim rest (λ attempt. join_failed sc (avoiding silent turn.state attempt)) turn has_attempt
      (λ attempt. going_join_failed sc claim rest (avoiding silent turn.state attempt) (without_attempt turn) joining has_via h)

  going_head_asked : (first : Option ℕ) (turn : Turn) → turn.state.status ≡ status.Member → IsOngoing sc claim 0 rest turn
      → IsOngoing sc claim 0 rest (head_asked sc first turn)
  going_head_asked None turn member h =
      going_when (IsOngoing sc claim 0 rest) turn.state.via (stranded sc) turn h
      (λ via found. going_stranded sc claim rest via turn member (going_cleared sc claim rest turn member h))
  going_head_asked (Some first) turn member h = going_called_else sc claim rest first request.GetState purpose.State turn refl h

  going_state_timed_out : (silent : ℕ) (turn : Turn) → turn.state.status ≡ status.Member → IsOngoing sc claim 0 rest turn
      → IsOngoing sc claim 0 rest (state_timed_out sc silent turn)
  unfolding state_timed_out
  going_state_timed_out silent turn member h =
      going_head_asked (head (without_silent sc silent turn).state) (without_silent sc silent turn) member h

  going_head_notified : (turn : Turn) → IsOngoing sc claim 0 rest turn → IsOngoing sc claim 0 rest (head_notified sc turn)
  unfolding head_notified
  going_head_notified turn h =
      going_when (IsOngoing sc claim 0 rest) (head turn.state) _ turn h
      (λ first found. going_sent sc claim rest 0 kind.Notify first body.Notify turn (λ t number. refl) h)

  going_ping_timed_out : (silent notifier : ℕ) (turn : Turn) → IsOngoing sc claim 0 rest turn → IsOngoing sc claim 0 rest (ping_timed_out silent notifier turn)
  unfolding ping_timed_out
  going_ping_timed_out silent notifier turn h = going_if (IsOngoing sc claim 0 rest) (holds turn.state.prdc silent) _ turn (λ same. h) (λ other. h)

  going_check_timed_out : (silent : ℕ) (turn : Turn) → IsOngoing sc claim 0 rest turn → IsOngoing sc claim 0 rest (check_timed_out silent turn)
  unfolding check_timed_out
  going_check_timed_out silent turn h = going_if (IsOngoing sc claim 0 rest) (holds turn.state.prdc silent) _ turn (λ same. h) (λ other. h)

  going_timed_out : (number silent : ℕ) (wanted : Purpose) (turn : Turn) → (is_for_join wanted ≡ true → turn.state.status ≡ status.Joining)
      → (is_for_join wanted ≡ false → turn.state.status ≡ status.Member) → IsSome turn.state.via → (is_for_join wanted ≡ true → IsSome turn.state.join)
      → IsOngoing sc claim (owes wanted) rest turn → IsOngoing sc claim 0 rest (timed_out sc number silent wanted turn)
  going_timed_out number silent purpose.Lookup turn joins others via attempt h =
      going_with_lookup sc claim rest number (lookup_timed_out sc silent) turn (λ place lookup t. going_lookup_timed_out silent place lookup t) h
  going_timed_out number silent purpose.Owner turn joins others via attempt h =
      going_with_lookup sc claim rest number (lookup_timed_out sc silent) turn (λ place lookup t. going_lookup_timed_out silent place lookup t) h
  going_timed_out number silent purpose.JoinStep turn joins others via attempt h = going_join_timed_out silent turn (joins refl) via (attempt refl) h
  going_timed_out number silent purpose.JoinList turn joins others via attempt h = going_join_timed_out silent turn (joins refl) via (attempt refl) h
  going_timed_out number silent (purpose.JoinHead behind) turn joins others via attempt h =
      going_join_timed_out silent turn (joins refl) via (attempt refl) h
  going_timed_out number silent purpose.State turn joins others via attempt h = going_state_timed_out silent turn (others refl) h
  going_timed_out number silent purpose.List turn joins others via attempt h = going_head_notified turn h
  going_timed_out number silent purpose.Check turn joins others via attempt h = going_check_timed_out silent turn h
  going_timed_out number silent (purpose.Ping notifier) turn joins others via attempt h = going_ping_timed_out silent notifier turn h

  -- a member drops a node, and goes on with a step
  pub going_dropped : (silent : ℕ) (step : Turn → Turn) (turn : Turn) → turn.state.status ≡ status.Member → IsSome turn.state.via
      → IsOngoing sc claim 0 rest (record turn { state = record turn.state { calls = [] } })
      → ((succ fingers : List ℕ) (lines : List Line)
      → IsOngoing sc claim 0 rest (step (record turn { state = record turn.state { succ = succ; fingers = fingers }; lines = lines })))
      → IsOngoing sc claim 0 rest (dropped sc silent step turn)
  unfolding dropped list_left
  going_dropped silent step turn member has cleared go = by (slice_get (list_after sc silent turn.state) 0)
    where
      by : (o : Option ℕ) → IsOngoing sc claim 0 rest (dropped_by sc silent step o (list_left sc silent turn))
      by None =
          going_with (IsOngoing sc claim 0 rest) turn.state.via (stranded sc) (list_left sc silent turn) has
          (λ via found. going_stranded sc claim rest via (list_left sc silent turn) member cleared)
      by (Some first) =
          go (list_after sc silent turn.state) (map (λ x. if x == silent then first else x) turn.state.fingers)
          (turn.lines ++ rescue_lines (rescuer sc silent turn.state))

  -- Requests

  going_at_member : (k : MessageKind) (sender : ℕ) (turn after : Turn) → IsOngoing sc claim 0 rest after → IsOngoing sc claim 0 rest turn
      → IsOngoing sc claim 0 rest (if is_member turn.state then after else noted (line.Drop k sender) turn)
  going_at_member k sender turn after g h = going_if (IsOngoing sc claim 0 rest) (is_member turn.state) _ _ (λ member. g) (λ other. h)

  going_step_asked : (sender number key : ℕ) (avoid : List ℕ) (turn : Turn) → IsOngoing sc claim 0 rest turn
      → IsOngoing sc claim 0 rest (step_asked sc sender number key avoid turn)
  unfolding step_asked
  going_step_asked sender number key avoid turn h =
      going_at_member kind.Step sender turn _ (going_sent sc claim rest 0 kind.StepReply sender _ turn (λ t number. refl) h) h

  going_state_asked : (sender number : ℕ) (turn : Turn) → IsOngoing sc claim 0 rest turn → IsOngoing sc claim 0 rest (state_asked sc sender number turn)
  unfolding state_asked
  going_state_asked sender number turn h =
      going_at_member kind.GetState sender turn _ (going_sent sc claim rest 0 kind.StateReply sender _ turn (λ t number. refl) h) h

  going_list_asked : (sender number : ℕ) (turn : Turn) → IsOngoing sc claim 0 rest turn → IsOngoing sc claim 0 rest (list_asked sc sender number turn)
  unfolding list_asked
  going_list_asked sender number turn h =
      going_at_member kind.GetList sender turn _ (going_sent sc claim rest 0 kind.ListReply sender _ turn (λ t number. refl) h) h

  going_pinged : (sender number : ℕ) (turn : Turn) → IsOngoing sc claim 0 rest turn → IsOngoing sc claim 0 rest (pinged sc sender number turn)
  unfolding pinged
  going_pinged sender number turn h =
      going_at_member kind.Ping sender turn _ (going_sent sc claim rest 0 kind.Pong sender _ turn (λ t number. refl) h) h

  going_predecessor_weighed : (sender prdc : ℕ) (turn : Turn) → IsOngoing sc claim 0 rest turn
      → IsOngoing sc claim 0 rest (predecessor_weighed sc sender prdc turn)
  going_predecessor_weighed sender prdc turn h =
      going_if (IsOngoing sc claim 0 rest) (between sc.bits (ident_of sc prdc) (ident_of sc sender) (ident_of sc turn.state.me)) _ _
      (λ closer. h)
      (λ farther. going_if (IsOngoing sc claim 0 rest) (not (sender == prdc) && not (has_ping_call turn.state)) _ turn
      (λ asks. going_called_else sc claim rest prdc request.Ping (purpose.Ping sender) turn refl h)
      (λ waits. h))

  going_notifier_met : (sender : ℕ) (o : Option ℕ) (turn : Turn) → IsOngoing sc claim 0 rest turn → IsOngoing sc claim 0 rest (notifier_met sc sender o turn)
  going_notifier_met sender None turn h = h
  going_notifier_met sender (Some prdc) turn h = going_predecessor_weighed sender prdc turn h

  going_notified : (sender : ℕ) (turn : Turn) → IsOngoing sc claim 0 rest turn → IsOngoing sc claim 0 rest (notified sc sender turn)
  unfolding notified
  going_notified sender turn h = going_at_member kind.Notify sender turn _ (going_notifier_met sender turn.state.prdc turn h) h

  -- Leaves

  going_told : (to : ℕ) (turn : Turn) → IsOngoing sc claim 0 rest turn → IsOngoing sc claim 0 rest (told sc to turn)
  going_told to turn h =
      going_if (IsOngoing sc claim 0 rest) (to == turn.state.me) turn _
      (λ own. h)
      (λ other. going_sent sc claim rest 0 kind.Leave to (body.Leave turn.state.prdc turn.state.succ) turn (λ t number. refl) h)

  -- a node that leaves has told its neighbours
  going_told_all : (turn : Turn) → IsOngoing sc claim 0 rest turn → IsOngoing sc claim 0 rest (all_told sc turn)
  going_told_all turn h =
      let first : Turn = when_some turn.state.prdc (told sc) (noted line.Leave turn) in
      let g : IsOngoing sc claim 0 rest first =
      going_when (IsOngoing sc claim 0 rest) turn.state.prdc (told sc) (noted line.Leave turn) h (λ prdc found. going_told prdc (noted line.Leave turn) h) in
      going_when (IsOngoing sc claim 0 rest) (slice_get turn.state.succ 0) (head_told sc) first g
      (λ node found. going_if (IsOngoing sc claim 0 rest) (holds first.state.prdc node) first _ (λ same. g) (λ other. going_told node first g))

  going_departed : (turn : Turn) → IsOngoing sc claim 0 rest turn → IsOngoing sc claim 0 rest (departed sc turn)
  unfolding departed
  going_departed turn h = going_down sc claim rest 0 (all_told sc turn) (going_told_all turn h)

  going_leave_heard : (sender : ℕ) (prdc : Option ℕ) (list : List ℕ) (turn : Turn) → IsNodeState sc turn.state → IsOngoing sc claim 0 rest turn
      → IsOngoing sc claim 0 rest (leave_heard sc sender prdc list turn)
  unfolding leave_heard
  going_leave_heard sender prdc list turn known h =
      going_if (IsOngoing sc claim 0 rest) (is_member turn.state) _ _
      (λ is.
      let member : turn.state.status ≡ status.Member = member_is turn.state.status is in
      going_dropped sender (λ t. t) (with_heirs sc sender prdc list turn) member
      (via_of_member sc turn.state.status turn.state.via turn.state.succ turn.state.fingers turn.state.join member known.status)
      (going_cleared sc claim rest (with_heirs sc sender prdc list turn) member h)
      (λ succ fingers lines. h))
      (λ other. h)

  -- Replies

  going_replied : (k : MessageKind) (sender number : ℕ) (step : Call → Turn → Turn) (turn : Turn) (o : Option Call) → answered_call k number turn.state ≡ o
      → IsNodeState sc turn.state
      → ((call : Call) → answers k call.purpose ≡ true → IsAsked number call turn.state.calls turn.state.status turn.state.via turn.state.join
      → IsOngoing sc claim (owes call.purpose) rest (without_call number turn) → IsOngoing sc claim 0 rest (step call (without_call number turn)))
      → IsOngoing sc claim 0 rest turn → IsOngoing sc claim 0 rest (replied k sender step o turn)
  going_replied k sender number step turn None is known go h = going_if (IsOngoing sc claim 0 rest) (is_down turn.state) _ _ (λ down. h) (λ up. h)
  going_replied k sender number step turn (Some call) is known go h =
      let answered : IsAnswered k number turn.state call = answered_is k number turn.state call is in
      let same : call.number ≡ number = found_number number call turn.state answered.found in
      subst (λ (n : ℕ). IsOngoing sc claim 0 rest (step call (without_call n turn))) (sym same)
      (go call answered.asked (asked_by sc number call turn.state answered.found known)
      (going_without sc claim rest number call turn known.calls.distinct answered.found h))

  going_join_asked : (next : ℕ) (attempt : Attempt) (turn : Turn) → turn.state.status ≡ status.Joining → IsSome turn.state.via
      → IsOngoing sc claim 1 rest turn → IsOngoing sc claim 0 rest (join_asked sc next attempt turn)
  unfolding join_asked
  going_join_asked next attempt turn joining via h =
      going_if (IsOngoing sc claim 0 rest) (nat_lt attempt.steps most_steps) _ _
      (λ few. going_called sc claim rest next (own_step sc attempt.avoid turn.state) purpose.JoinStep
      (with_attempt (record attempt { steps = attempt.steps + 1 }) turn) h)
      (λ many. going_join_failed sc claim rest attempt turn joining via h)

  going_join_followed : (to : ℕ) (a : Answer) (attempt : Attempt) (turn : Turn) → turn.state.status ≡ status.Joining → IsSome turn.state.via
      → IsOngoing sc claim 1 rest turn → IsOngoing sc claim 0 rest (join_followed sc to a attempt turn)
  unfolding join_followed
  going_join_followed to (answer.Owner owner) attempt turn joining via h =
      going_called sc claim rest to request.GetList purpose.JoinList (with_attempt attempt turn) h
  going_join_followed to (answer.Next next) attempt turn joining via h = going_join_asked next attempt turn joining via h
  going_join_followed to answer.Stuck attempt turn joining via h = going_join_failed sc claim rest attempt turn joining via h

  going_join_answered : (to : ℕ) (a : Answer) (turn : Turn) → turn.state.status ≡ status.Joining → IsSome turn.state.via → IsSome turn.state.join
      → IsOngoing sc claim 1 rest turn → IsOngoing sc claim 0 rest (join_answered sc to a turn)
  unfolding join_answered
  going_join_answered to a turn joining via attempt h =
      going_for_attempt sc claim rest (λ attempt. join_followed sc to a (heard attempt)) turn attempt
      (λ attempt. going_join_followed to a (heard attempt) (without_attempt turn) joining via h)

  going_lookup_answered : (from : ℕ) (a : Answer) (place : ℕ) (lookup : Lookup) (turn : Turn) → IsOngoing sc claim 0 rest turn
      → IsOngoing sc claim 0 rest (lookup_answered sc from a place lookup turn)
  unfolding lookup_answered
  going_lookup_answered from a place lookup turn h =
      going_if (IsOngoing sc claim 0 rest) (sc.rules.goes_on && is_stuck a) _ _
      (λ stuck. going_lookup_diverted sc claim rest from place (arrived sc from a lookup) turn h)
      (λ goes. going_lookup_followed sc claim rest place (arrived sc from a lookup) a turn h)

  going_owner_answered : (owner : ℕ) (prdc : Option ℕ) (place : ℕ) (lookup : Lookup) (turn : Turn) → IsOngoing sc claim 0 rest turn
      → IsOngoing sc claim 0 rest (owner_answered sc owner prdc place lookup turn)
  unfolding owner_answered
  going_owner_answered owner None place lookup turn h = going_lookup_finished sc claim rest lookup owner turn h
  going_owner_answered owner (Some prdc) place lookup turn h =
      going_if (IsOngoing sc claim 0 rest) (is_handed_over sc lookup owner prdc) _ _
      (λ hands. going_lookup_asked sc claim rest place lookup prdc purpose.Owner turn refl h)
      (λ keeps. going_lookup_finished sc claim rest lookup owner turn h)

  going_answered_for : (number : ℕ) (a : Answer) (call : Call) (wanted : Purpose) (turn : Turn) → answers kind.StepReply wanted ≡ true → call.purpose ≡ wanted
      → IsAsked number call turn.state.calls turn.state.status turn.state.via turn.state.join
      → IsOngoing sc claim (owes wanted) rest (without_call number turn) → IsOngoing sc claim 0 rest (answered_for sc a call wanted (without_call number turn))
  going_answered_for number a call purpose.Lookup turn replies is asked h =
      going_with_lookup sc claim rest call.number (lookup_answered sc call.to a) (without_call number turn)
      (λ place lookup t. going_lookup_answered call.to a place lookup t) h
  going_answered_for number a call purpose.JoinStep turn replies is asked h =
      going_join_answered call.to a (without_call number turn) (asked.joins (ap is_for_join is)) asked.has_via (asked.has_attempt (ap is_for_join is)) h
  going_answered_for number a call _ turn replies is asked h = absurd (cc)

  going_step_replied : (sender number : ℕ) (a : Answer) (turn : Turn) → IsNodeState sc turn.state → IsOngoing sc claim 0 rest turn
      → IsOngoing sc claim 0 rest (step_replied sc sender number a turn)
  unfolding step_replied
  going_step_replied sender number a turn known h =
      going_replied kind.StepReply sender number (λ call. answered_for sc a call call.purpose) turn (answered_call kind.StepReply number turn.state) refl known
      (λ call replies asked g. going_answered_for number a call call.purpose turn replies refl asked g) h

  going_predecessor_told : (prdc : ℕ) (list : List ℕ) (call : Call) (turn : Turn) → IsOngoing sc claim 0 rest turn
      → IsOngoing sc claim 0 rest (predecessor_told sc prdc list call turn)
  unfolding predecessor_told
  going_predecessor_told prdc list call turn h =
      let taken : Turn = successors_taken sc call.to list turn in
      going_if (IsOngoing sc claim 0 rest) (between sc.bits (ident_of sc turn.state.me) (ident_of sc prdc) (ident_of sc call.to)) _ _
      (λ nearer. going_called_else sc claim rest prdc request.GetList purpose.List taken refl h)
      (λ farther. going_head_notified taken h)

  going_state_answered : (prdc : Option ℕ) (list : List ℕ) (call : Call) (turn : Turn) → IsOngoing sc claim 0 rest turn
      → IsOngoing sc claim 0 rest (state_answered sc prdc list call turn)
  unfolding state_answered
  going_state_answered None list call turn h = going_head_notified (successors_taken sc call.to list turn) h
  going_state_answered (Some prdc) list call turn h = going_predecessor_told prdc list call turn h

  going_joined : (behind first : ℕ) (list : List ℕ) (turn : Turn) → turn.state.status ≡ status.Joining → IsOngoing sc claim 1 rest turn
      → IsOngoing sc claim 0 rest (joined sc behind first list turn)
  going_joined behind first list turn joining h =
      going_as_member sc claim rest (Some behind) (take sc.list list) (replicate (sc.bits - 1) first) turn joining h

  going_head_met : (behind : ℕ) (prdc : Option ℕ) (list : List ℕ) (call : Call) (turn : Turn) → turn.state.status ≡ status.Joining
      → IsOngoing sc claim 1 rest turn → IsOngoing sc claim 0 rest (head_met sc behind prdc list call turn)
  unfolding head_met
  going_head_met behind prdc list call turn joining h =
      going_state_answered prdc list call (joined sc behind call.to (call.to ∷ []) turn) (going_joined behind call.to (call.to ∷ []) turn joining h)

  going_state_answered_for : (number : ℕ) (prdc : Option ℕ) (list : List ℕ) (call : Call) (wanted : Purpose) (turn : Turn)
      → answers kind.StateReply wanted ≡ true → call.purpose ≡ wanted → IsAsked number call turn.state.calls turn.state.status turn.state.via turn.state.join
      → IsOngoing sc claim (owes wanted) rest (without_call number turn)
      → IsOngoing sc claim 0 rest (state_answered_for sc prdc list call wanted (without_call number turn))
  going_state_answered_for number prdc list call purpose.State turn replies is asked h = going_state_answered prdc list call (without_call number turn) h
  going_state_answered_for number prdc list call purpose.Owner turn replies is asked h =
      going_with_lookup sc claim rest call.number (owner_answered sc call.to prdc) (without_call number turn)
      (λ place lookup t. going_owner_answered call.to prdc place lookup t) h
  going_state_answered_for number prdc list call (purpose.JoinHead behind) turn replies is asked h =
      going_head_met behind prdc list call (without_call number turn) (asked.joins (ap is_for_join is)) h
  going_state_answered_for number prdc list call _ turn replies is asked h = absurd (cc)

  going_state_replied : (sender number : ℕ) (prdc : Option ℕ) (list : List ℕ) (turn : Turn) → IsNodeState sc turn.state → IsOngoing sc claim 0 rest turn
      → IsOngoing sc claim 0 rest (state_replied sc sender number prdc list turn)
  unfolding state_replied
  going_state_replied sender number prdc list turn known h =
      going_replied kind.StateReply sender number (λ call. state_answered_for sc prdc list call call.purpose) turn
      (answered_call kind.StateReply number turn.state) refl known
      (λ call replies asked g. going_state_answered_for number prdc list call call.purpose turn replies refl asked g) h

  going_list_answered : (to : ℕ) (list : List ℕ) (turn : Turn) → IsOngoing sc claim 0 rest turn → IsOngoing sc claim 0 rest (list_answered sc to list turn)
  unfolding list_answered
  going_list_answered to list turn h = going_head_notified (successors_taken sc to list turn) h

  going_place_found : (behind first : ℕ) (list : List ℕ) (attempt : Attempt) (turn : Turn) → turn.state.status ≡ status.Joining
      → IsOngoing sc claim 1 rest turn → IsOngoing sc claim 0 rest (place_found sc behind first list attempt turn)
  unfolding place_found
  going_place_found behind first list attempt turn joining h =
      going_if (IsOngoing sc claim 0 rest) _ _ _
      (λ asks. going_called sc claim rest first request.GetState (purpose.JoinHead behind) (with_attempt attempt turn) h)
      (λ joins. going_joined behind first list turn joining h)

  going_join_list_taken : (to : ℕ) (list : List ℕ) (attempt : Attempt) (turn : Turn) → turn.state.status ≡ status.Joining → IsSome turn.state.via
      → IsOngoing sc claim 1 rest turn → IsOngoing sc claim 0 rest (join_list_taken sc to list attempt turn)
  unfolding join_list_taken
  going_join_list_taken to [] attempt turn joining via h = going_join_failed sc claim rest attempt turn joining via h
  going_join_list_taken to (first ∷ others) attempt turn joining via h =
      going_if (IsOngoing sc claim 0 rest) (between sc.bits (ident_of sc to) (ident_of sc turn.state.me) (ident_of sc first)) _ _
      (λ fits. going_place_found to first (first ∷ others) attempt turn joining h)
      (λ fails. going_join_failed sc claim rest attempt turn joining via h)

  going_join_list_answered : (to : ℕ) (list : List ℕ) (turn : Turn) → turn.state.status ≡ status.Joining → IsSome turn.state.via → IsSome turn.state.join
      → IsOngoing sc claim 1 rest turn → IsOngoing sc claim 0 rest (join_list_answered sc to list turn)
  unfolding join_list_answered
  going_join_list_answered to list turn joining via attempt h =
      going_for_attempt sc claim rest (λ attempt. join_list_taken sc to (cleaned sc turn.state.me to attempt.avoid list) (heard attempt)) turn attempt
      (λ attempt. going_join_list_taken to (cleaned sc turn.state.me to attempt.avoid list) (heard attempt) (without_attempt turn) joining via h)

  going_list_answered_for : (number : ℕ) (list : List ℕ) (call : Call) (wanted : Purpose) (turn : Turn) → answers kind.ListReply wanted ≡ true
      → call.purpose ≡ wanted → IsAsked number call turn.state.calls turn.state.status turn.state.via turn.state.join
      → IsOngoing sc claim (owes wanted) rest (without_call number turn)
      → IsOngoing sc claim 0 rest (list_answered_for sc list call.to wanted (without_call number turn))
  going_list_answered_for number list call purpose.List turn replies is asked h = going_list_answered call.to list (without_call number turn) h
  going_list_answered_for number list call purpose.JoinList turn replies is asked h =
      going_join_list_answered call.to list (without_call number turn) (asked.joins (ap is_for_join is)) asked.has_via (asked.has_attempt (ap is_for_join is)) h
  going_list_answered_for number list call _ turn replies is asked h = absurd (cc)

  going_list_replied : (sender number : ℕ) (list : List ℕ) (turn : Turn) → IsNodeState sc turn.state → IsOngoing sc claim 0 rest turn
      → IsOngoing sc claim 0 rest (list_replied sc sender number list turn)
  unfolding list_replied
  going_list_replied sender number list turn known h =
      going_replied kind.ListReply sender number (λ call. list_answered_for sc list call.to call.purpose) turn
      (answered_call kind.ListReply number turn.state) refl known
      (λ call replies asked g. going_list_answered_for number list call call.purpose turn replies refl asked g) h

  ponged_owes : (wanted : Purpose) → answers kind.Pong wanted ≡ true → owes wanted ≡ 0
  ponged_owes purpose.Check replies = refl
  ponged_owes (purpose.Ping notifier) replies = refl
  ponged_owes _ replies = absurd (cc)

  going_ponged : (sender number : ℕ) (turn : Turn) → IsNodeState sc turn.state → IsOngoing sc claim 0 rest turn
      → IsOngoing sc claim 0 rest (ponged sender number turn)
  unfolding ponged
  going_ponged sender number turn known h =
      going_replied kind.Pong sender number (λ call. λ t. t) turn (answered_call kind.Pong number turn.state) refl known
      (λ call replies asked g. subst (λ (n : ℕ). IsOngoing sc claim n rest (without_call number turn)) (ponged_owes call.purpose replies) g) h

-- Events that are timers

abbrev event_of : (key : Key) (target : ℕ) → Body → Event Body
event_of key target message = record { key = key; target = target; body = message }

-- a timer of this life is not void: it is of the node's epoch, and the node is not down
record IsFresh (epoch : ℕ) (s : NodeState) : Type 0 where
  pub same : s.epoch ≡ epoch
  pub up : is_down s ≡ false

fresh_by : (epoch : ℕ) (s : NodeState) → is_void epoch s ≡ false → IsFresh epoch s
fresh_by epoch s fresh =
    let parts = or_false (not (s.epoch == epoch)) (is_down s) fresh in
    record { same = same (s.epoch == epoch) refl parts.0; up = parts.1 }
  where
    same : (b : Bool) → (s.epoch == epoch) ≡ b → not b ≡ false → s.epoch ≡ epoch
    same true test is = grind (arith, nat_tests)
    same false test is = absurd (cc)

-- a void timer belongs to another life, or the node is down
void_by : (epoch : ℕ) (s : NodeState) → is_void epoch s ≡ true → (s.status ≡ status.Down) ⊎ (s.epoch ≢ epoch)
void_by epoch s void = by (s.epoch == epoch) refl (is_down s) refl void
  where
    by : (b : Bool) → (s.epoch == epoch) ≡ b → (d : Bool) → is_down s ≡ d → (not b || d) ≡ true → (s.status ≡ status.Down) ⊎ (s.epoch ≢ epoch)
    by true test true down is = inl (down_by s.status down)
    by true test false down is = absurd (cc)
    by false test d down is = inr (λ same. let yes : (s.epoch == epoch) ≡ true = grind (arith, nat_tests) in absurd (cc))

tick_of_up : (s : Status) (have claim : ℕ) → is_down_status s ≡ false → FitsTick s have claim → have ≡ claim
tick_of_up status.Down have claim up h = absurd (cc)
tick_of_up status.Joining have claim up h = h
tick_of_up status.Member have claim up h = h

module _ (sc : Scenario) (claim : Timer → ℕ) (rest : List (Event Body)) (key : Key) (target : ℕ) where
  -- a void timer need not be set again
  going_void : (epoch : ℕ) (message : Body) (turn : Turn) → ((number : ℕ) → is_timer message Timeout number ≡ false)
      → ((t : Timer) (number : ℕ) → number ≢ epoch → is_timer message t number ≡ false) → is_void epoch turn.state ≡ true
      → IsOngoing sc claim 0 (event_of key target message ∷ rest) turn → IsOngoing sc claim 0 rest turn
  going_void epoch message turn no_timeout others void h =
      going_over sc claim rest 0 (event_of key target message) turn (λ number. inr (no_timeout number))
      (λ t lived. elim (void_by epoch turn.state void) [
        | inl down ↦ inl down
        | inr apart ↦ inr (others t turn.state.epoch apart)
      ]) h

  -- a timer that the scenario does not want is never pending
  unwanted : (t : Timer) (message : Body) (turn : Turn) → target ≡ turn.state.me → is_tick t ≡ true → is_down turn.state ≡ false
      → is_timer message t turn.state.epoch ≡ true → claim t ≡ 0 → IsOngoing sc claim 0 (event_of key target message ∷ rest) turn → ⊥
  unwanted t message turn here is up set none h =
      let e : Event Body = event_of key target message in
      let me : ℕ = turn.state.me in
      let epoch : ℕ = turn.state.epoch in
      let one : ◌≡◌ {A = ℕ} (is_set me t epoch e) 1 = set_here me t epoch e here ∙ ap (λ (b : Bool). cond b 1 0) set in
      omega (arith, tick_of_up turn.state.status _ (claim t) up (h.ticks t is), none, set_for-cons me t epoch e rest, one)

  -- a timer is set again
  going_set_again : (span : Span) (old new : Body) (turn : Turn) → target ≡ turn.state.me → old ≡ new
      → IsOngoing sc claim 0 (event_of key target old ∷ rest) turn → IsOngoing sc claim 0 rest (timer_made sc span new turn)
  unfolding timer_made
  going_set_again span old new turn here same h =
      going_again sc claim rest (event_of key target old) (delay sc turn.state.me turn.state.place turn.time span new) new
      (record turn { state = after_words 1 turn.state }) here same h

  stabilize_set : (epoch : ℕ) (turn : Turn) → target ≡ turn.state.me → IsFresh epoch turn.state
      → IsOngoing sc claim 0 (event_of key target (body.StabilizeTick epoch) ∷ rest) turn → IsOngoing sc claim 0 rest (stabilize_armed sc turn)
  unfolding stabilize_armed
  stabilize_set epoch turn here fresh h =
      going_set_again (jittered sc.stabilize sc.jitters.stabilize) (body.StabilizeTick epoch) (body.StabilizeTick turn.state.epoch) turn here
      (ap (λ (n : ℕ). body.StabilizeTick n) (sym fresh.same)) h

  going_stabilize_tick : (epoch : ℕ) (turn : Turn) → target ≡ turn.state.me
      → IsOngoing sc claim 0 (event_of key target (body.StabilizeTick epoch) ∷ rest) turn → IsOngoing sc claim 0 rest (stabilize_tick sc epoch turn)
  unfolding stabilize_tick
  going_stabilize_tick epoch turn here h =
      let armed : Turn = stabilize_armed sc turn in
      going_if (IsOngoing sc claim 0 rest) (is_void epoch turn.state) turn _
      (λ void. going_void epoch (body.StabilizeTick epoch) turn (stabilize_is epoch).no_timeout (stabilize_is epoch).others void h)
      (λ fresh.
      let g : IsOngoing sc claim 0 rest armed = stabilize_set epoch turn here (fresh_by epoch turn.state fresh) h in
      going_if (IsOngoing sc claim 0 rest) (is_joining turn.state || has_repair_call turn.state) armed _
      (λ busy. g)
      (λ idle. going_when (IsOngoing sc claim 0 rest) (head turn.state) _ armed g
      (λ first found. going_called_else sc claim rest first request.GetState purpose.State armed refl g)))

  finger_set : (epoch : ℕ) (turn : Turn) → target ≡ turn.state.me → IsFresh epoch turn.state
      → IsOngoing sc claim 0 (event_of key target (body.FingerTick epoch) ∷ rest) turn → IsOngoing sc claim 0 rest (finger_armed sc turn)
  unfolding finger_armed
  finger_set epoch turn here fresh h =
      going_set_again (jittered sc.finger sc.jitters.finger) (body.FingerTick epoch) (body.FingerTick turn.state.epoch) turn here
      (ap (λ (n : ℕ). body.FingerTick n) (sym fresh.same)) h

  going_near_covered : (first : ℕ) (turn : Turn) → IsOngoing sc claim 0 rest turn → IsOngoing sc claim 0 rest (near_covered first turn)
  unfolding near_covered
  going_near_covered first turn h = going_when (IsOngoing sc claim 0 rest) (head turn.state) _ turn h (λ node found. h)

  going_finger_turned : (index : ℕ) (turn : Turn) → IsOngoing sc claim 0 rest turn → IsOngoing sc claim 0 rest (finger_turned sc index turn)
  unfolding finger_turned
  going_finger_turned index turn h =
      going_lookup_begun sc claim rest (finger_start sc.bits (ident_of sc turn.state.me) index) (aim.Finger index)
      (record turn { state = record turn.state { next_finger = finger_after sc.bits index } }) h

  going_finger_rotated : (first : ℕ) (turn : Turn) → IsOngoing sc claim 0 rest turn → IsOngoing sc claim 0 rest (finger_rotated sc first turn)
  going_finger_rotated first turn h =
      going_if (IsOngoing sc claim 0 rest) (nat_lt sc.bits (max turn.state.next_finger first)) _ _
      (λ covers. going_near_covered first turn h)
      (λ goes. going_finger_turned (max turn.state.next_finger first) (near_covered first turn) (going_near_covered first turn h))

  going_finger_tick : (epoch : ℕ) (turn : Turn) → target ≡ turn.state.me
      → IsOngoing sc claim 0 (event_of key target (body.FingerTick epoch) ∷ rest) turn → IsOngoing sc claim 0 rest (finger_tick sc epoch turn)
  unfolding finger_tick
  going_finger_tick epoch turn here h =
      let armed : Turn = finger_armed sc turn in
      going_if (IsOngoing sc claim 0 rest) (is_void epoch turn.state) turn _
      (λ void. going_void epoch (body.FingerTick epoch) turn (finger_is epoch).no_timeout (finger_is epoch).others void h)
      (λ fresh.
      let g : IsOngoing sc claim 0 rest armed = finger_set epoch turn here (fresh_by epoch turn.state fresh) h in
      going_if (IsOngoing sc claim 0 rest) (is_joining turn.state || has_finger_lookup turn.state) armed _
      (λ busy. g)
      (λ idle. going_finger_rotated (first_in_turn sc turn.state) armed g))

-- if none is counted there is none
none_any : {X : Type 0} (p : X → Bool) (xs : List X) → count_by p xs ≡ 0 → list_any p xs ≡ false
none_any p [] none = refl
none_any {X} p (x ∷ xs) none = by (p x) refl (λ later. none_any p xs later)
  where
    by : (b : Bool) → p x ≡ b → (count_by p xs ≡ 0 → list_any p xs ≡ false) → (b || list_any p xs) ≡ false
    by true test ih =
        let one : ◌≡◌ {A = ℕ} (cond (p x) 1 0) 1 = ap (λ (b : Bool). cond b 1 0) test in
        absurd (omega (arith, none, sum_by-cons (λ (y : X). cond (p y) 1 0) x xs, one))
    by false test ih = ih (omega (arith, none, sum_by-cons (λ (y : X). cond (p y) 1 0) x xs))

-- a fresh end of a pause, at a joining node without a call, is not void
due_is : (j c : Bool) → j ≡ true → c ≡ false → (not true || not j || c) ≡ true → ⊥
due_is true true is other void = cc
due_is true false is other void = cc
due_is false c is other void = cc

module _ (sc : Scenario) (claim : Timer → ℕ) (rest : List (Event Body)) (key : Key) (target epoch : ℕ) (turn : Turn) (here : target ≡ turn.state.me)
    (h : IsOngoing sc claim 0 (event_of key target (body.Rejoin epoch) ∷ rest) turn) where
  pause_is_one : turn.state.epoch ≡ epoch → ◌≡◌ {A = ℕ} (is_set turn.state.me Rejoin turn.state.epoch (event_of key target (body.Rejoin epoch))) 1
  pause_is_one same =
      set_here turn.state.me Rejoin turn.state.epoch (event_of key target (body.Rejoin epoch)) here
      ∙ ap (λ (b : Bool). cond b 1 0) (ap (λ (n : ℕ). epoch == n) same ∙ same_node epoch)

  pause_split : (t : Timer) (number : ℕ) → waits turn.state.me t number (event_of key target (body.Rejoin epoch) ∷ rest) turn.events
      ≡ is_set turn.state.me t number (event_of key target (body.Rejoin epoch)) + waits turn.state.me t number rest turn.events
  pause_split t number = omega (arith, set_for-cons turn.state.me t number (event_of key target (body.Rejoin epoch)) rest)

  pause_no_tick : (t : Timer) → is_tick t ≡ true → ◌≡◌ {A = ℕ} (is_set turn.state.me t turn.state.epoch (event_of key target (body.Rejoin epoch))) 0
  pause_no_tick Rejoin is = absurd (cc)
  pause_no_tick _ is = refl

  -- the pause is over, and the join owes its next step
  pause_over : turn.state.epoch ≡ epoch → IsOngoing sc claim 1 rest turn
  pause_over same =
      let me : ℕ = turn.state.me in
      record {
        timed = λ number.
            let was = h.timed number in
            let none : ◌≡◌ {A = ℕ} (is_set me Timeout number (event_of key target (body.Rejoin epoch))) 0 = refl in
            record {
              enough = omega (arith, was.enough, pause_split Timeout number, none);
              once = omega (arith, was.once, pause_split Timeout number);
              counted = λ above. omega (arith, was.counted above, pause_split Timeout number);
            };
        seldom = h.seldom;
        later = λ t number lived above. omega (arith, h.later t number lived above, pause_split t number);
        ticks = λ t is. ticks_alike turn.state.status _ (claim t) _ (omega (arith, pause_split t turn.state.epoch, pause_no_tick t is)) (h.ticks t is);
        joins =
            joins_alike turn.state.status (calls_for is_for_join turn.state.calls)
            (waits me Rejoin turn.state.epoch (event_of key target (body.Rejoin epoch) ∷ rest) turn.events + 0) _ _
            (omega (arith, pause_split Rejoin turn.state.epoch, pause_is_one same)) h.joins;
        own = h.own;
      }

  pause_other_life : (t : Timer) → turn.state.epoch ≢ epoch → is_timer (body.Rejoin epoch) t turn.state.epoch ≡ false
  pause_other_life Rejoin apart = other_node epoch turn.state.epoch apart
  pause_other_life _ apart = refl

  pause_void : (turn.state.status ≡ status.Down) ⊎ (turn.state.epoch ≢ epoch) → IsOngoing sc claim 0 rest turn
  pause_void void =
      going_over sc claim rest 0 (event_of key target (body.Rejoin epoch)) turn (λ number. inr refl)
      (λ t lived. elim void [
        | inl down ↦ inl down
        | inr apart ↦ inr (pause_other_life t apart)
      ]) h

  -- a node that is up and has such an event joins, and has no call for it
  pause_idle : (v : Status) (calls : ℕ)
      → FitsJoin v calls (waits turn.state.me Rejoin turn.state.epoch (event_of key target (body.Rejoin epoch) ∷ rest) turn.events + 0)
      → turn.state.epoch ≡ epoch → (v ≡ status.Down) ⊎ ((is_joining_status v ≡ true) × (calls ≡ 0))
  pause_idle status.Down calls fits same = inl refl
  pause_idle status.Joining calls fits same =
      inr (refl, omega (arith, fits, pause_split Rejoin turn.state.epoch, pause_is_one same))
  pause_idle status.Member calls fits same =
      absurd (omega (arith, fits, pause_split Rejoin turn.state.epoch, pause_is_one same))

  same_epoch : (turn.state.epoch == epoch) ≡ true → turn.state.epoch ≡ epoch
  same_epoch test = grind (arith, nat_tests)

  pause_by : (b : Bool) → (turn.state.epoch == epoch) ≡ b → (not b || not (is_joining turn.state) || has_join_call turn.state) ≡ true
      → IsOngoing sc claim 0 rest turn
  pause_by false test void = pause_void (inr (λ same. let yes : (turn.state.epoch == epoch) ≡ true = grind (arith, nat_tests) in absurd (cc)))
  pause_by true test void =
      elim (pause_idle turn.state.status (calls_for is_for_join turn.state.calls) h.joins (same_epoch test)) [
        | inl down ↦ pause_void (inl down)
        | inr idle ↦
            absurd (due_is (is_joining turn.state) (has_join_call turn.state) idle.0 (none_any (λ
            (c : Call). is_for_join c.purpose) turn.state.calls idle.1) void)
      ]

  joins_with : (v : Status) (join : Option Attempt) → v ≡ status.Joining
      → FitsStatus sc v turn.state.via turn.state.succ turn.state.fingers join → IsJoiningState turn.state.via join
  joins_with status.Down join is fits = absurd (cc)
  joins_with status.Joining join is fits = fits
  joins_with status.Member join is fits = absurd (cc)

  -- the end of a pause between two attempts to join
  going_rejoin : IsNodeState sc turn.state → IsOngoing sc claim 0 rest (rejoin sc epoch turn)
  unfolding rejoin
  going_rejoin known =
      going_if (IsOngoing sc claim 0 rest) (not (turn.state.epoch == epoch) || not (is_joining turn.state) || has_join_call turn.state) turn _
      (λ void. pause_by (turn.state.epoch == epoch) refl void)
      (λ due.
      let first = or_false (not (turn.state.epoch == epoch) || not (is_joining turn.state)) (has_join_call turn.state) due in
      let others = or_false (not (turn.state.epoch == epoch)) (not (is_joining turn.state)) first.0 in
      let joining : turn.state.status ≡ status.Joining = joining_is turn.state.status (not_false (is_joining turn.state) others.1) in
      let same : turn.state.epoch ≡ epoch = same_epoch (not_false (turn.state.epoch == epoch) others.0) in
      let has = joins_with turn.state.status turn.state.join joining known.status in
      going_for_attempt sc claim rest (join_retried sc) turn has.has_attempt
      (λ attempt. going_join_retried sc claim rest attempt (without_attempt turn) joining has.has_via (pause_over same)))

-- Timeouts

module _ (sc : Scenario) (claim : Timer → ℕ) (rest : List (Event Body)) (key : Key) (target number : ℕ) (turn : Turn) (here : target ≡ turn.state.me)
    (h : IsOngoing sc claim 0 (event_of key target (body.Timeout number) ∷ rest) turn) where
  timeout_is_one : ◌≡◌ {A = ℕ} (is_set turn.state.me Timeout number (event_of key target (body.Timeout number))) 1
  timeout_is_one =
      set_here turn.state.me Timeout number (event_of key target (body.Timeout number)) here ∙ ap (λ (b : Bool). cond b 1 0) (same_node number)

  -- it was the only one of its number
  timeout_was_alone : waits turn.state.me Timeout number rest turn.events ≡ 0
  timeout_was_alone =
      omega (arith, (h.timed number).once, set_for-cons turn.state.me Timeout number (event_of key target (body.Timeout number)) rest, timeout_is_one)

  -- and the number is used
  timeout_counted : number ≤ turn.state.count
  timeout_counted = by (nat_lt turn.state.count number) refl
    where
      by : (b : Bool) → nat_lt turn.state.count number ≡ b → number ≤ turn.state.count
      by true test =
          let above : turn.state.count < number = grind (arith, nat_tests) in
          absurd (omega (
            arith,
            (h.timed number).counted above,
            set_for-cons turn.state.me Timeout number (event_of key target (body.Timeout number)) rest,
            set_here turn.state.me Timeout number (event_of key target (body.Timeout number)) here ∙ ap (λ (b : Bool). cond b 1 0) (same_node number),
          ))
      by false test = grind (arith, nat_tests)

-- a timeout of a number that no call has is over
timeout_over : (sc : Scenario) (claim : Timer → ℕ) (owed : ℕ) (rest : List (Event Body)) (key : Key) (target number : ℕ) (turn : Turn)
    → numbered number turn.state.calls ≡ 0 → IsOngoing sc claim owed (event_of key target (body.Timeout number) ∷ rest) turn → IsOngoing sc claim owed rest turn
timeout_over sc claim owed rest key target number turn none h =
    going_over sc claim rest owed (event_of key target (body.Timeout number)) turn (λ other. by other (number == other) refl)
    (λ t lived. inr (lived_no_timeout number t turn.state.epoch lived)) h
  where
    by : (other : ℕ) (b : Bool) → (number == other) ≡ b → (numbered other turn.state.calls ≡ 0) ⊎ ((number == other) ≡ false)
    by other true test =
        let same : number ≡ other = grind (arith, nat_tests) in inl (ap (λ (n : ℕ). numbered n turn.state.calls) (sym same) ∙ none)
    by other false test = inr test

-- the call of a timeout is taken out
call_taken : (sc : Scenario) (claim : Timer → ℕ) (rest : List (Event Body)) (key : Key) (target number : ℕ) (call : Call) (turn : Turn)
    → IsAsked number call turn.state.calls turn.state.status turn.state.via turn.state.join
    → IsOngoing sc claim 0 (event_of key target (body.Timeout number) ∷ rest) turn → IsOngoing sc claim (owes call.purpose) rest (without_call number turn)
call_taken sc claim rest key target number call turn asked h =
    timeout_over sc claim (owes call.purpose) rest key target number (without_call number turn) (numbered_same number turn.state.calls)
    (going_without sc claim (event_of key target (body.Timeout number) ∷ rest) number call turn asked.distinct asked.found h)

-- a call without a reply is over
going_call_over : (sc : Scenario) (claim : Timer → ℕ) (rest : List (Event Body)) (key : Key) (target number : ℕ) (call : Call) (turn : Turn)
    → IsAsked number call turn.state.calls turn.state.status turn.state.via turn.state.join
    → IsOngoing sc claim 0 (event_of key target (body.Timeout number) ∷ rest) turn → IsOngoing sc claim 0 rest (call_over sc number call turn)
going_call_over sc claim rest key target number call turn asked h =
    going_timed_out sc claim rest number call.to call.purpose (without_call number turn) asked.joins asked.others asked.has_via asked.has_attempt
    (call_taken sc claim rest key target number call turn asked h)

-- the node that was asked is taken for dead
going_call_given_up : (sc : Scenario) (claim : Timer → ℕ) (rest : List (Event Body)) (key : Key) (target number : ℕ) (call : Call) (turn : Turn)
    → IsNodeState sc turn.state → IsAsked number call turn.state.calls turn.state.status turn.state.via turn.state.join
    → IsOngoing sc claim 0 (event_of key target (body.Timeout number) ∷ rest) turn → IsOngoing sc claim 0 rest (call_given_up sc number call turn)
unfolding call_given_up
going_call_given_up sc claim rest key target number call turn known asked h =
    let mid : Turn = noted (line.Timeout call.to) turn in
    going_if (IsOngoing sc claim 0 rest) (sc.rules.drop_silent && is_member turn.state) _ _
    (λ drops.
    let member : turn.state.status ≡ status.Member = member_is turn.state.status (and_both sc.rules.drop_silent (is_member turn.state) drops).1 in
    going_dropped sc claim rest call.to (call_over sc number call) mid member
    (via_of_member sc turn.state.status turn.state.via turn.state.succ turn.state.fingers turn.state.join member known.status)
    (timeout_over sc claim 0 rest key target number (record mid { state = record mid.state { calls = [] } }) refl
    (going_cleared sc claim (event_of key target (body.Timeout number) ∷ rest) mid member h))
    (λ succ fingers lines.
    going_call_over sc claim rest key target number call (record mid { state = record mid.state { succ = succ; fingers = fingers }; lines = lines }) asked h))
    (λ keeps. going_call_over sc claim rest key target number call mid asked h)

-- a call that waits knows what it has asked for
pub request_known : (sc : Scenario) (number : ℕ) (call : Call) (wanted : Purpose) (s : NodeState) → call.purpose ≡ wanted
    → IsAsked number call s.calls s.status s.via s.join → IsNodeState sc s → IsSome (request_again sc number wanted s)
request_known sc number call purpose.Lookup s is asked known = by (find (λ (l : Lookup). l.call == number) s.lookups) refl
  where
    one : waiting number s.lookups ≡ 1
    one =
        known.matched number ∙ asking_found number s.calls call asked.distinct asked.found
        ∙ ap (λ (p : Purpose). cond (is_for_lookup p) 1 0) is

    by : (o : Option Lookup) → find (λ (l : Lookup). l.call == number) s.lookups ≡ o
        → IsSome (option_map (λ (lookup : Lookup). request.Step lookup.key lookup.avoid) o)
    by None none = absurd (omega (arith, none_found (λ (l : Lookup). l.call == number) s.lookups none, one))
    by (Some lookup) found = refl
request_known sc number call purpose.JoinStep s is asked known = by s.join (asked.has_attempt (ap is_for_join is))
  where
    by : (o : Option Attempt) → IsSome o → IsSome (option_map (λ (attempt : Attempt). own_step sc attempt.avoid s) o)
    by None has = absurd (cc)
    by (Some attempt) has = refl
request_known sc number call _ s is asked known = refl

-- a call is sent again, and has its next timeout
going_call_repeated : (sc : Scenario) (claim : Timer → ℕ) (rest : List (Event Body)) (key : Key) (target number : ℕ) (call : Call) (turn : Turn)
    → target ≡ turn.state.me → call.resent < sc.retries → IsNodeState sc turn.state
    → IsAsked number call turn.state.calls turn.state.status turn.state.via turn.state.join
    → IsOngoing sc claim 0 (event_of key target (body.Timeout number) ∷ rest) turn → IsOngoing sc claim 0 rest (call_repeated sc number call turn)
unfolding call_repeated
going_call_repeated sc claim rest key target number call turn here few known asked h =
    going_with (IsOngoing sc claim 0 rest) (request_again sc number call.purpose turn.state) (asked_again sc number call) turn
    (request_known sc number call call.purpose turn.state refl asked known)
    (λ request found.
    going_asked sc claim rest request (sent_once_more number call) (noted (line.Again (kind_of request) call.to) (without_call number turn))
    (omega (arith, few)) (omega (arith, timeout_counted sc claim rest key target number turn here h))
    (timeout_was_alone sc claim rest key target number turn here h)
    (call_taken sc claim rest key target number call turn asked h))

going_timeout : (sc : Scenario) (claim : Timer → ℕ) (rest : List (Event Body)) (key : Key) (target number : ℕ) (turn : Turn)
    → target ≡ turn.state.me → IsNodeState sc turn.state
    → IsOngoing sc claim 0 (event_of key target (body.Timeout number) ∷ rest) turn → IsOngoing sc claim 0 rest (timeout sc number turn)
unfolding timeout
going_timeout sc claim rest key target number turn here known h = by (call_of number turn.state) refl
  where
    by : (o : Option Call) → call_of number turn.state ≡ o → IsOngoing sc claim 0 rest (when_some o (call_timed_out sc number) turn)
    by None none =
        timeout_over sc claim 0 rest key target number turn (none_found (λ (c : Call). c.number == number) turn.state.calls none) h
    by (Some call) found =
        let asked = asked_by sc number call turn.state found known in
        going_if (IsOngoing sc claim 0 rest) _ _ _
        (λ again.
        let few : call.resent < sc.retries = grind (arith, nat_tests) in
        going_call_repeated sc claim rest key target number call turn here few known asked h)
        (λ over. going_call_given_up sc claim rest key target number call turn known asked h)

-- Timers that only some scenarios want, and commands

module _ (sc : Scenario) (rest : List (Event Body)) (key : Key) (target : ℕ) where
  going_random_lookup : (claim : Timer → ℕ) (turn : Turn) → IsOngoing sc claim 0 rest turn → IsOngoing sc claim 0 rest (random_lookup sc turn)
  unfolding random_lookup
  going_random_lookup claim turn h =
      going_user_lookup sc claim rest (random_key sc turn.time turn.state) (record turn { state = after_words (key_words sc.bits) turn.state }) h

  traffic_set : (claim : Timer → ℕ) (epoch : ℕ) (turn : Turn) → target ≡ turn.state.me → IsFresh epoch turn.state → IsSome sc.lookups
      → IsOngoing sc claim 0 (event_of key target (body.TrafficTick epoch) ∷ rest) turn → IsOngoing sc claim 0 rest (traffic_armed sc turn)
  unfolding traffic_armed
  traffic_set claim epoch turn here fresh wants h = by sc.lookups wants
    where
      by : (o : Option Span) → IsSome o
          → IsOngoing sc claim 0 rest (row_armed sc (option_map (λ (gap : Span). (gap, body.TrafficTick turn.state.epoch)) o) turn)
      by None has = absurd (cc)
      by (Some gap) has =
          going_set_again sc claim rest key target gap (body.TrafficTick epoch) (body.TrafficTick turn.state.epoch) turn here
          (ap (λ (n : ℕ). body.TrafficTick n) (sym fresh.same)) h

  -- whether a tick of this life is of its epoch
  own_epoch : (epoch : ℕ) (turn : Turn) → IsFresh epoch turn.state → (epoch == turn.state.epoch) ≡ true
  own_epoch epoch turn fresh = ap (λ (n : ℕ). epoch == n) fresh.same ∙ same_node epoch

  going_traffic_tick : (epoch : ℕ) (turn : Turn) → target ≡ turn.state.me
      → IsOngoing sc (wanted sc turn.state.me) 0 (event_of key target (body.TrafficTick epoch) ∷ rest) turn
      → IsOngoing sc (wanted sc turn.state.me) 0 rest (traffic_tick sc epoch turn)
  unfolding traffic_tick
  going_traffic_tick epoch turn here h =
      let claim : Timer → ℕ = wanted sc turn.state.me in
      going_if (IsOngoing sc claim 0 rest) (is_void epoch turn.state || not (is_some sc.lookups)) turn _
      (λ void. by (is_void epoch turn.state) refl (is_some sc.lookups) refl void)
      (λ fresh.
      let parts = or_false (is_void epoch turn.state) (not (is_some sc.lookups)) fresh in
      let g : IsOngoing sc claim 0 rest (traffic_armed sc turn) =
      traffic_set claim epoch turn here (fresh_by epoch turn.state parts.0) (not_false (is_some sc.lookups) parts.1) h in
      going_if (IsOngoing sc claim 0 rest) (is_joining turn.state) _ _
      (λ joining. g)
      (λ member. going_random_lookup claim (traffic_armed sc turn) g))
    where
      by : (v : Bool) → is_void epoch turn.state ≡ v → (b : Bool) → is_some sc.lookups ≡ b → (v || not b) ≡ true
          → IsOngoing sc (wanted sc turn.state.me) 0 rest turn
      by true void b wants is =
          going_void sc (wanted sc turn.state.me) rest key target epoch (body.TrafficTick epoch) turn (traffic_is epoch).no_timeout
          (traffic_is epoch).others void h
      by false fresh true wants is = absurd (cc)
      by false fresh false wants is =
          let life = fresh_by epoch turn.state fresh in
          absurd (unwanted sc (wanted sc turn.state.me) rest key target Traffic (body.TrafficTick epoch) turn here refl life.up (own_epoch epoch turn life)
          (ap (λ (b : Bool). if b then 1 else 0) wants) h)

  -- a node that goes down needs no event any more
  over_down : (claim : Timer → ℕ) (message : Body) (turn : Turn) → IsOngoing sc claim 0 (event_of key target message ∷ rest) turn
      → IsOngoing sc claim 0 rest (gone_down sc turn)
  over_down claim message turn h =
      going_over sc claim rest 0 (event_of key target message) (gone_down sc turn) (λ number. inl refl) (λ t lived. inl refl)
      (going_down sc claim (event_of key target message ∷ rest) 0 turn h)

  -- the end of a life, by a leave or by a crash
  going_life_over : (claim : Timer → ℕ) (epoch : ℕ) (churn : Churn) (turn : Turn) → IsOngoing sc claim 0 (event_of key target (body.LifeEnd epoch) ∷ rest) turn
      → IsOngoing sc claim 0 rest (life_over sc epoch churn turn)
  unfolding departed
  going_life_over claim epoch churn turn h =
      let drawn : Turn = record turn { state = after_words 1 turn.state } in
      going_if (IsOngoing sc claim 0 rest) (churn.leave == 0) _ _
      (λ never. over_down claim (body.LifeEnd epoch) (noted line.Crash turn) h)
      (λ drawn_for. going_if (IsOngoing sc claim 0 rest) (nat_lt (leave_number sc drawn.state.me epoch) churn.leave) _ _
      (λ leaves. over_down claim (body.LifeEnd epoch) (all_told sc drawn)
      (going_told_all sc claim (event_of key target (body.LifeEnd epoch) ∷ rest) drawn h))
      (λ crashes. over_down claim (body.LifeEnd epoch) (noted line.Crash drawn) h))

  going_life_end : (epoch : ℕ) (turn : Turn) → IsInRange sc → target ≡ turn.state.me
      → IsOngoing sc (wanted sc turn.state.me) 0 (event_of key target (body.LifeEnd epoch) ∷ rest) turn
      → IsOngoing sc (wanted sc turn.state.me) 0 rest (life_end sc epoch turn)
  unfolding life_end
  going_life_end epoch turn ranges here h =
      let claim : Timer → ℕ = wanted sc turn.state.me in
      going_if (IsOngoing sc claim 0 rest) (is_void epoch turn.state || not (is_churn_node sc turn.state.me)) turn _
      (λ void. by (is_void epoch turn.state) refl (is_churn_node sc turn.state.me) refl void)
      (λ fresh.
      let churns : is_churn_node sc turn.state.me ≡ true = not_false (is_churn_node sc turn.state.me)
      (or_false (is_void epoch turn.state) (not (is_churn_node sc turn.state.me)) fresh).1 in
      going_rise_armed sc claim rest (when_some sc.churn (life_over sc epoch) turn)
      (going_with (IsOngoing sc claim 0 rest) sc.churn (life_over sc epoch) turn (ranges.churn_is_set turn.state.me churns)
      (λ churn found. going_life_over claim epoch churn turn h)))
    where
      by : (v : Bool) → is_void epoch turn.state ≡ v → (b : Bool) → is_churn_node sc turn.state.me ≡ b → (v || not b) ≡ true
          → IsOngoing sc (wanted sc turn.state.me) 0 rest turn
      by true void b churns is =
          going_void sc (wanted sc turn.state.me) rest key target epoch (body.LifeEnd epoch) turn (life_is epoch).no_timeout (life_is epoch).others void h
      by false fresh true churns is = absurd (cc)
      by false fresh false churns is =
          let life = fresh_by epoch turn.state fresh in
          absurd (unwanted sc (wanted sc turn.state.me) rest key target Life (body.LifeEnd epoch) turn here refl life.up (own_epoch epoch turn life)
          (ap (λ (b : Bool). if b then 1 else 0) churns) h)

  check_set : (claim : Timer → ℕ) (epoch : ℕ) (turn : Turn) → target ≡ turn.state.me → IsFresh epoch turn.state → claim Check ≡ (if sc.check == 0 then 0 else 1)
      → IsOngoing sc claim 0 (event_of key target (body.CheckTick epoch) ∷ rest) turn → IsOngoing sc claim 0 rest (check_armed sc turn)
  unfolding check_armed
  check_set claim epoch turn here fresh wants h = by (sc.check == 0) wants
    where
      by : (b : Bool) → claim Check ≡ (if b then 0 else 1)
          → IsOngoing sc claim 0 rest (row_armed sc (if b then None else Some (jittered sc.check sc.jitters.check, body.CheckTick turn.state.epoch)) turn)
      by true none =
          absurd (unwanted sc claim rest key target Check (body.CheckTick epoch) turn here refl fresh.up (own_epoch epoch turn fresh) none h)
      by false some =
          going_set_again sc claim rest key target (jittered sc.check sc.jitters.check) (body.CheckTick epoch) (body.CheckTick turn.state.epoch) turn here
          (ap (λ (n : ℕ). body.CheckTick n) (sym fresh.same)) h

  going_check_tick : (epoch : ℕ) (turn : Turn) → target ≡ turn.state.me
      → IsOngoing sc (wanted sc turn.state.me) 0 (event_of key target (body.CheckTick epoch) ∷ rest) turn
      → IsOngoing sc (wanted sc turn.state.me) 0 rest (check_tick sc epoch turn)
  unfolding check_tick
  going_check_tick epoch turn here h =
      let claim : Timer → ℕ = wanted sc turn.state.me in
      let armed : Turn = check_armed sc turn in
      going_if (IsOngoing sc claim 0 rest) (is_void epoch turn.state) turn _
      (λ void. going_void sc claim rest key target epoch (body.CheckTick epoch) turn (check_is epoch).no_timeout (check_is epoch).others void h)
      (λ fresh.
      let g : IsOngoing sc claim 0 rest armed = check_set claim epoch turn here (fresh_by epoch turn.state fresh) refl h in
      going_if (IsOngoing sc claim 0 rest) (is_joining turn.state || has_ping_call turn.state) armed _
      (λ busy. g)
      (λ idle. going_when (IsOngoing sc claim 0 rest) armed.state.prdc _ armed g
      (λ prdc found. going_called_else sc claim rest prdc request.Ping purpose.Check armed refl g)))

module _ (sc : Scenario) (rest : List (Event Body)) (ranges : IsInRange sc) (turn : Turn) (known : IsNodeState sc turn.state)
    (h : IsOngoing sc (wanted sc turn.state.me) 0 rest turn) where
  going_up : (via : ℕ) → turn.state.status ≡ status.Down → IsOngoing sc (wanted sc turn.state.me) 0 rest (came_up sc via turn)
  going_up via down =
      going_came_up sc rest via turn ranges (count_down is_for_join turn.state.status turn.state.calls down known.calls.purposes) h

  going_cmd_join : (via : ℕ) → IsOngoing sc (wanted sc turn.state.me) 0 rest (cmd_join sc via turn)
  unfolding cmd_join
  going_cmd_join via =
      going_if (IsOngoing sc (wanted sc turn.state.me) 0 rest) (not (is_down turn.state)) _ _
      (λ up. h)
      (λ down. going_up via (down_by turn.state.status (not_false (is_down turn.state) down)))

  going_rise : (epoch : ℕ) → IsOngoing sc (wanted sc turn.state.me) 0 rest (rise sc epoch turn)
  unfolding rise
  going_rise epoch =
      going_if (IsOngoing sc (wanted sc turn.state.me) 0 rest) (not (turn.state.epoch == epoch) || not (is_down turn.state)) turn _
      (λ void. h)
      (λ due.
      let parts = or_false (not (turn.state.epoch == epoch)) (not (is_down turn.state)) due in
      going_when (IsOngoing sc (wanted sc turn.state.me) 0 rest) turn.state.via (came_up sc) turn h
      (λ via found. going_up via (down_by turn.state.status (not_false (is_down turn.state) parts.1))))

  going_cmd_crash : IsOngoing sc (wanted sc turn.state.me) 0 rest (cmd_crash sc turn)
  unfolding cmd_crash
  going_cmd_crash =
      going_if (IsOngoing sc (wanted sc turn.state.me) 0 rest) (is_down turn.state) _ _
      (λ down. h)
      (λ up. going_down sc (wanted sc turn.state.me) rest 0 (noted line.Crash turn) h)

  going_cmd_leave : IsOngoing sc (wanted sc turn.state.me) 0 rest (cmd_leave sc turn)
  unfolding cmd_leave
  going_cmd_leave =
      going_if (IsOngoing sc (wanted sc turn.state.me) 0 rest) (is_down turn.state) _ _
      (λ down. h)
      (λ up. going_departed sc (wanted sc turn.state.me) rest turn h)

  going_cmd_lookup : (asked : ℕ) → IsOngoing sc (wanted sc turn.state.me) 0 rest (cmd_lookup sc asked turn)
  unfolding cmd_lookup
  going_cmd_lookup asked =
      going_if (IsOngoing sc (wanted sc turn.state.me) 0 rest) (not (is_member turn.state)) _ _
      (λ other. h)
      (λ member. going_user_lookup sc (wanted sc turn.state.me) rest asked turn h)

-- The whole table

module _ (sc : Scenario) (rest : List (Event Body)) (ranges : IsInRange sc) (sender : ℕ) (key : Key) (target : ℕ) (turn : Turn)
    (here : target ≡ turn.state.me) (known : IsNodeState sc turn.state) where
  going_acted : (message : Body) → IsOngoing sc (wanted sc turn.state.me) 0 (event_of key target message ∷ rest) turn
      → IsOngoing sc (wanted sc turn.state.me) 0 rest (acted sc sender message turn)
  going_acted (body.CmdJoin via) h =
      going_cmd_join sc rest ranges turn known (going_past sc (wanted sc turn.state.me) rest (event_of key target (body.CmdJoin via)) turn
      (λ t number. refl) h) via
  going_acted body.CmdCrash h =
      going_cmd_crash sc rest ranges turn known (going_past sc (wanted sc turn.state.me) rest (event_of key target body.CmdCrash) turn (λ t number. refl) h)
  going_acted body.CmdLeave h =
      going_cmd_leave sc rest ranges turn known (going_past sc (wanted sc turn.state.me) rest (event_of key target body.CmdLeave) turn (λ t number. refl) h)
  going_acted (body.CmdLookup asked) h =
      going_cmd_lookup sc rest ranges turn known (going_past sc (wanted sc turn.state.me) rest (event_of key target (body.CmdLookup asked)) turn
      (λ t number. refl) h) asked
  going_acted (body.StabilizeTick epoch) h = going_stabilize_tick sc (wanted sc turn.state.me) rest key target epoch turn here h
  going_acted (body.FingerTick epoch) h = going_finger_tick sc (wanted sc turn.state.me) rest key target epoch turn here h
  going_acted (body.TrafficTick epoch) h = going_traffic_tick sc rest key target epoch turn here h
  going_acted (body.LifeEnd epoch) h = going_life_end sc rest key target epoch turn ranges here h
  going_acted (body.Rise epoch) h =
      going_rise sc rest ranges turn known (going_past sc (wanted sc turn.state.me) rest (event_of key target (body.Rise epoch)) turn
      (λ t number. refl) h) epoch
  going_acted (body.CheckTick epoch) h = going_check_tick sc rest key target epoch turn here h
  going_acted (body.Rejoin epoch) h = going_rejoin sc (wanted sc turn.state.me) rest key target epoch turn here h known
  going_acted (body.Timeout number) h = going_timeout sc (wanted sc turn.state.me) rest key target number turn here known h
  going_acted (body.Step number asked avoid) h =
      going_step_asked sc (wanted sc turn.state.me) rest sender number asked avoid turn
      (going_past sc (wanted sc turn.state.me) rest (event_of key target (body.Step number asked avoid)) turn (λ t n. refl) h)
  going_acted (body.GetState number) h =
      going_state_asked sc (wanted sc turn.state.me) rest sender number turn
      (going_past sc (wanted sc turn.state.me) rest (event_of key target (body.GetState number)) turn (λ t n. refl) h)
  going_acted (body.GetList number) h =
      going_list_asked sc (wanted sc turn.state.me) rest sender number turn
      (going_past sc (wanted sc turn.state.me) rest (event_of key target (body.GetList number)) turn (λ t n. refl) h)
  going_acted (body.Ping number) h =
      going_pinged sc (wanted sc turn.state.me) rest sender number turn
      (going_past sc (wanted sc turn.state.me) rest (event_of key target (body.Ping number)) turn (λ t n. refl) h)
  going_acted body.Notify h =
      going_notified sc (wanted sc turn.state.me) rest sender turn
      (going_past sc (wanted sc turn.state.me) rest (event_of key target body.Notify) turn (λ t n. refl) h)
  going_acted (body.Leave prdc list) h =
      going_leave_heard sc (wanted sc turn.state.me) rest sender prdc list turn known
      (going_past sc (wanted sc turn.state.me) rest (event_of key target (body.Leave prdc list)) turn (λ t n. refl) h)
  going_acted (body.StepReply number a) h =
      going_step_replied sc (wanted sc turn.state.me) rest sender number a turn known
      (going_past sc (wanted sc turn.state.me) rest (event_of key target (body.StepReply number a)) turn (λ t n. refl) h)
  going_acted (body.StateReply number prdc list) h =
      going_state_replied sc (wanted sc turn.state.me) rest sender number prdc list turn known
      (going_past sc (wanted sc turn.state.me) rest (event_of key target (body.StateReply number prdc list)) turn (λ t n. refl) h)
  going_acted (body.ListReply number list) h =
      going_list_replied sc (wanted sc turn.state.me) rest sender number list turn known
      (going_past sc (wanted sc turn.state.me) rest (event_of key target (body.ListReply number list)) turn (λ t n. refl) h)
  going_acted (body.Pong number) h =
      going_ponged sc (wanted sc turn.state.me) rest sender number turn known
      (going_past sc (wanted sc turn.state.me) rest (event_of key target (body.Pong number)) turn (λ t n. refl) h)

going_detailed : (sc : Scenario) (claim : Timer → ℕ) (rest : List (Event Body)) (turn : Turn) → IsOngoing sc claim 0 rest turn
    → IsOngoing sc claim 0 rest (detailed sc turn)
unfolding detailed
going_detailed sc claim rest turn h = going_if (IsOngoing sc claim 0 rest) sc.detail _ turn (λ tells. h) (λ silent. h)

-- what a node waits for stays pending, whatever event it acts on
pub going_effect : (sc : Scenario) (rest : List (Event Body)) (s : NodeState) (e : Event Body) → IsInRange sc → IsNodeState sc s → e.target ≡ s.me
    → IsOngoing sc (wanted sc s.me) 0 (e ∷ rest) (opening s e) → IsOngoing sc (wanted sc s.me) 0 rest (effect sc s e)
unfolding effect
going_effect sc rest s e ranges known here h =
    going_detailed sc (wanted sc s.me) rest (acted sc (e.key.origin - 2) e.body (opening s e))
    (going_acted sc rest ranges (e.key.origin - 2) e.key e.target (opening s e) here known e.body h)
