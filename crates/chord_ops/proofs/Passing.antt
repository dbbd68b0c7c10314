-- With `join_asks` a joining node becomes a member only when its first successor replies, or as it makes a ring.
use Rattle.std.proofs.Common.{◌≡◌, ◌==◌, ◌*◌, ◌⊎◌, inl, inr, ⊎_elim, ℕ, ◌+◌, ◌-◌, ◌&&◌, ◌||◌, not, Bool, true, false, List, [], ◌∷◌, nat_lt, Option, Some, None, refl, sym, ◌∙◌, ap}
use Rattle.std.specs.Prelude.{is_some, if◌then◌else◌}
use Rattle.chord_circle.specs.Circle.{between}
use Rattle.chord_event.specs.declared.body.Answer.{Answer}
use Rattle.chord_event.specs.declared.body.Answer.TheVariants as answer
use Rattle.chord_event.specs.declared.body.Body.{Body}
use Rattle.chord_event.specs.declared.body.Body.TheVariants as body
use Rattle.des_event.specs.declared.event.Event.{Event}
use Rattle.chord_event.specs.declared.line.CommandKind.TheVariants as command
use Rattle.chord_event.specs.declared.line.Line.TheVariants as line
use Rattle.chord_event.specs.declared.line.MessageKind.{MessageKind}
use Rattle.chord_event.specs.declared.line.MessageKind.TheVariants as kind
use Rattle.des_event.proofs.Members.{contains_here, contains_left, contains_right}
use Rattle.chord_scenario.specs.declared.scenario.Scenario.{Scenario}
use Rattle.chord_scenario.specs.Draws.{leave_number}
use Rattle.chord_scenario.specs.World.{ident_of, is_churn_node}
use Rattle.chord_node.specs.declared.state.Attempt.{Attempt}
use Rattle.chord_node.specs.declared.state.Call.{Call}
use Rattle.chord_node.specs.declared.state.NodeState.{NodeState}
use Rattle.chord_node.specs.declared.state.Purpose.{Purpose}
use Rattle.chord_node.specs.declared.state.Purpose.TheVariants as purpose
use Rattle.chord_node.specs.declared.state.Status.{Status}
use Rattle.chord_node.specs.declared.state.Status.TheVariants as status
use Rattle.chord_node.specs.Invariant.{IsNodeState, IsPurposeOf, is_for_join}
use Rattle.chord_node.specs.Limits.{most_failures, most_steps}
use Rattle.chord_ops.specs.Detail.{detailed, message_lines}
use Rattle.chord_ops.specs.Passages.{MakesRing, MeetsHead}
use Rattle.chord_ops.specs.declared.turn.Request.{Request}
use Rattle.chord_ops.specs.declared.turn.Request.TheVariants as request
use Rattle.chord_ops.specs.declared.turn.Turn.{Turn}
use Rattle.chord_ops.specs.Procedures.{call_of, check_armed, created, departed, finger_armed, for_attempt, fresh_attempt, gone_down, is_founder, join_begun, join_ended, join_failed, join_given_up, join_paused, join_retried, own_step, rise_armed, stabilize_armed, traffic_armed, via_moved, with_attempt, without_attempt, without_call}
use Rattle.chord_ops.specs.Rules.{acted, answered_call, answered_for, answers, asked_again, avoiding, call_given_up, call_repeated, call_timed_out, check_tick, cleaned, cmd_crash, cmd_join, cmd_leave, cmd_lookup, crashed, effect, finger_tick, has_finger_lookup, has_join_call, has_ping_call, has_repair_call, heard, is_down, is_down_status, is_joining, is_joining_status, is_member, is_member_status, is_void, join_answered, join_asked, join_followed, join_list_answered, join_list_taken, join_timed_out, leave_heard, life_end, life_over, list_answered_for, list_asked, list_replied, notified, opening, pinged, place_found, ponged, rejoin, replied, request_again, rise, sent_once_more, stabilize_tick, state_answered_for, state_asked, state_replied, step_asked, step_replied, timed_out, timeout, traffic_tick}
use Rattle.chord_ops.specs.Turns.{called, kind_of, noted, timer_made, when_some}
use Rattle.chord_ops.proofs.KeptJoins.{purpose_of_found, same_check_armed, same_traffic_armed}
use Rattle.chord_ops.proofs.KeptRules.{not_false, or_false}
use Rattle.chord_ops.proofs.KeptTable.{IsAnswered, answered_is}
use Rattle.chord_ops.proofs.Ongoing.{going_if, going_when}
use Rattle.chord_ops.proofs.Sending.{asked_as, called_as}

-- a turn after which a member has made a ring
abbrev IsFounded : Turn → Type 0
IsFounded turn = turn.state.status ≡ status.Member → MakesRing turn.lines

joins_still : (turn : Turn) → turn.state.status ≡ status.Joining → IsFounded turn
joins_still turn joining is = let both : status.Joining ≡ status.Member = sym joining ∙ is in absurd (cc)

down_still : (turn : Turn) → turn.state.status ≡ status.Down → IsFounded turn
down_still turn down is = let both : status.Down ≡ status.Member = sym down ∙ is in absurd (cc)

founded_called : (sc : Scenario) (to : ℕ) (request : Request) (wanted : Purpose) (turn : Turn) → turn.state.status ≡ status.Joining
    → IsFounded (called sc to request wanted turn)
founded_called sc to request wanted turn joining =
    called_as IsFounded sc to request wanted turn
    (λ delay place late near is. let both : status.Joining ≡ status.Member = sym joining ∙ is in absurd (cc))
    (λ place near is. let both : status.Joining ≡ status.Member = sym joining ∙ is in absurd (cc))

founded_created : (sc : Scenario) (turn : Turn) → IsFounded (created sc turn)
unfolding created
founded_created sc turn is = contains_right turn.lines (line.Create ∷ []) line.Create (contains_here line.Create [])

founded_join_begun : (sc : Scenario) (avoid : List ℕ) (via : ℕ) (turn : Turn) → turn.state.status ≡ status.Joining → IsFounded (join_begun sc avoid via turn)
unfolding join_begun
founded_join_begun sc avoid via turn joining =
    going_if IsFounded (via == turn.state.me) _ _ (λ own. founded_created sc turn)
    (λ other. founded_called sc via (own_step sc avoid turn.state) purpose.JoinStep turn joining)

founded_join_retried : (sc : Scenario) (attempt : Attempt) (turn : Turn) → turn.state.status ≡ status.Joining → IsFounded (join_retried sc attempt turn)
unfolding join_retried
founded_join_retried sc attempt turn joining =
    let kept : Turn = with_attempt (record attempt { steps = 0 }) turn in
    going_when IsFounded turn.state.via (join_begun sc attempt.avoid) kept (joins_still kept joining)
    (λ via found. founded_join_begun sc attempt.avoid via kept joining)

founded_join_paused : (sc : Scenario) (pause : ℕ) (attempt : Attempt) (turn : Turn) → turn.state.status ≡ status.Joining
    → IsFounded (join_paused sc pause attempt turn)
unfolding join_paused
founded_join_paused sc pause attempt turn joining =
    going_if IsFounded (pause == 0) _ _ (λ none. founded_join_retried sc attempt turn joining)
    (λ some is. let both : status.Joining ≡ status.Member = sym joining ∙ is in absurd (cc))

founded_rise_armed : (sc : Scenario) (turn : Turn) → (turn.state.status ≡ status.Member → ⊥) → IsFounded (rise_armed sc turn)
unfolding rise_armed timer_made
founded_rise_armed sc turn other =
    going_if IsFounded (is_churn_node sc turn.state.me) _ turn
    (λ churns. going_when IsFounded sc.churn _ turn (λ is. absurd (other is)) (λ churn found is. absurd (other is)))
    (λ stays is. absurd (other is))

founded_join_given_up : (sc : Scenario) (turn : Turn) → turn.state.status ≡ status.Joining → IsFounded (join_given_up sc turn)
unfolding join_given_up
founded_join_given_up sc turn joining =
    going_if IsFounded sc.join_forever _ _
    (λ forever. founded_join_paused sc ((most_failures + 1) * sc.join_pause) fresh_attempt turn joining)
    (λ over. founded_rise_armed sc (gone_down sc turn) (λ is. absurd (cc)))

founded_join_ended : (sc : Scenario) (attempt : Attempt) (turn : Turn) → turn.state.status ≡ status.Joining → IsFounded (join_ended sc attempt turn)
unfolding join_ended
founded_join_ended sc attempt turn joining =
    going_if IsFounded (is_founder sc turn.state.me attempt) _ _
    (λ founds. founded_created sc (noted line.JoinFailed turn))
    (λ others. founded_join_given_up sc (noted line.JoinFailed turn) joining)

founded_join_failed : (sc : Scenario) (attempt : Attempt) (turn : Turn) → turn.state.status ≡ status.Joining → IsFounded (join_failed sc attempt turn)
unfolding join_failed
founded_join_failed sc attempt turn joining =
    going_if IsFounded (nat_lt attempt.failures most_failures) _ _
    (λ again. founded_join_paused sc sc.join_pause (record attempt { failures = attempt.failures + 1 }) (via_moved sc turn) joining)
    (λ over. founded_join_ended sc attempt (via_moved sc turn) joining)

founded_for_attempt : (sc : Scenario) (step : Attempt → Turn → Turn) (turn : Turn) → turn.state.status ≡ status.Joining
    → ((attempt : Attempt) → IsFounded (step attempt (without_attempt turn))) → IsFounded (for_attempt step turn)
unfolding for_attempt
founded_for_attempt sc step turn joining go =
    going_when IsFounded turn.state.join (λ attempt. λ t. step attempt (without_attempt t)) turn (joins_still turn joining) (λ attempt found. go attempt)

-- Replies

founded_join_asked : (sc : Scenario) (next : ℕ) (attempt : Attempt) (turn : Turn) → turn.state.status ≡ status.Joining
    → IsFounded (join_asked sc next attempt turn)
unfolding join_asked
founded_join_asked sc next attempt turn joining =
    going_if IsFounded (nat_lt attempt.steps most_steps) _ _
    (λ few. founded_called sc next (own_step sc attempt.avoid turn.state) purpose.JoinStep (with_attempt
    (record attempt { steps = attempt.steps + 1 }) turn) joining)
    (λ many. founded_join_failed sc attempt turn joining)

founded_join_followed : (sc : Scenario) (to : ℕ) (a : Answer) (attempt : Attempt) (turn : Turn) → turn.state.status ≡ status.Joining
    → IsFounded (join_followed sc to a attempt turn)
unfolding join_followed
founded_join_followed sc to (answer.Owner owner) attempt turn joining =
    founded_called sc to request.GetList purpose.JoinList (with_attempt attempt turn) joining
founded_join_followed sc to (answer.Next next) attempt turn joining = founded_join_asked sc next attempt turn joining
founded_join_followed sc to answer.Stuck attempt turn joining = founded_join_failed sc attempt turn joining

founded_place_found : (sc : Scenario) (behind first : ℕ) (list : List ℕ) (attempt : Attempt) (turn : Turn) → sc.rules.join_asks ≡ true
    → turn.state.status ≡ status.Joining → IsFounded (place_found sc behind first list attempt turn)
unfolding place_found
founded_place_found sc behind first list attempt turn asks joining =
    going_if IsFounded _ _ _
    (λ test. founded_called sc first request.GetState (purpose.JoinHead behind) (with_attempt attempt turn) joining)
    (λ test. let both : true ≡ false = sym asks ∙ test in absurd (cc))

founded_join_list_taken : (sc : Scenario) (to : ℕ) (list : List ℕ) (attempt : Attempt) (turn : Turn) → sc.rules.join_asks ≡ true
    → turn.state.status ≡ status.Joining → IsFounded (join_list_taken sc to list attempt turn)
unfolding join_list_taken
founded_join_list_taken sc to [] attempt turn asks joining = founded_join_failed sc attempt turn joining
founded_join_list_taken sc to (first ∷ others) attempt turn asks joining =
    going_if IsFounded (between sc.bits (ident_of sc to) (ident_of sc turn.state.me) (ident_of sc first)) _ _
    (λ fits. founded_place_found sc to first (first ∷ others) attempt turn asks joining)
    (λ fails. founded_join_failed sc attempt turn joining)

founded_join_timed_out : (sc : Scenario) (silent : ℕ) (turn : Turn) → turn.state.status ≡ status.Joining → IsFounded (join_timed_out sc silent turn)
unfolding join_timed_out
founded_join_timed_out sc silent turn joining =
    founded_for_attempt sc (λ attempt. join_failed sc (avoiding silent turn.state attempt)) turn joining
    (λ attempt. founded_join_failed sc (avoiding silent turn.state attempt) (without_attempt turn) joining)

founded_timed_out : (sc : Scenario) (number silent : ℕ) (wanted : Purpose) (turn : Turn) → is_for_join wanted ≡ true → turn.state.status ≡ status.Joining
    → IsFounded (timed_out sc number silent wanted turn)
founded_timed_out sc number silent purpose.JoinStep turn is joining = founded_join_timed_out sc silent turn joining
founded_timed_out sc number silent purpose.JoinList turn is joining = founded_join_timed_out sc silent turn joining
founded_timed_out sc number silent (purpose.JoinHead behind) turn is joining = founded_join_timed_out sc silent turn joining
founded_timed_out sc number silent _ turn is joining = absurd (cc)

founded_call_repeated : (sc : Scenario) (number : ℕ) (call : Call) (turn : Turn) → turn.state.status ≡ status.Joining
    → IsFounded (call_repeated sc number call turn)
unfolding call_repeated
founded_call_repeated sc number call turn joining =
    going_when IsFounded (request_again sc number call.purpose turn.state) (asked_again sc number call) turn (joins_still turn joining)
    (λ request found. asked_as IsFounded sc request (sent_once_more number call) (noted (line.Again (kind_of request) call.to) (without_call number turn))
    (λ delay place late near is. let both : status.Joining ≡ status.Member = sym joining ∙ is in absurd (cc))
    (λ place near is. let both : status.Joining ≡ status.Member = sym joining ∙ is in absurd (cc)))

no_member : (s : Status) → s ≡ status.Joining → (b : Bool) → (b && is_member_status s) ≡ true → ⊥
no_member status.Down is b test = cc
no_member status.Joining is true test = cc
no_member status.Joining is false test = cc
no_member status.Member is b test = cc

-- the calls of a joining node are for its join
asks_to_join : (s : Status) (wanted : Purpose) → s ≡ status.Joining → IsPurposeOf s wanted → is_for_join wanted ≡ true
asks_to_join status.Down wanted is allowed = absurd allowed
asks_to_join status.Joining wanted is allowed = allowed
asks_to_join status.Member wanted is allowed = absurd (cc)

founded_timeout : (sc : Scenario) (number : ℕ) (turn : Turn) → IsNodeState sc turn.state → turn.state.status ≡ status.Joining
    → IsFounded (timeout sc number turn)
unfolding timeout call_given_up
founded_timeout sc number turn known joining =
    going_when IsFounded (call_of number turn.state) (call_timed_out sc number) turn (joins_still turn joining)
    (λ call found.
    let is : is_for_join call.purpose ≡ true = asks_to_join turn.state.status call.purpose joining
    (purpose_of_found sc number call turn.state found known.calls) in
    going_if IsFounded (nat_lt call.resent sc.retries) _ _
    (λ again. founded_call_repeated sc number call turn joining)
    (λ over. going_if IsFounded (sc.rules.drop_silent && is_member turn.state) _ _
    (λ drops. absurd (no_member turn.state.status joining sc.rules.drop_silent drops))
    (λ keeps. founded_timed_out sc number call.to call.purpose (without_call number (noted (line.Timeout call.to) turn)) is joining)))

module _ (sc : Scenario) (turn : Turn) (known : IsNodeState sc turn.state) (joining : turn.state.status ≡ status.Joining) where
  is_up : is_down turn.state ≡ false
  is_up = ap (λ (s : Status). is_down_status s) joining

  is_no_member : is_member turn.state ≡ false
  is_no_member = ap is_member_status joining

  is_joiner : is_joining turn.state ≡ true
  is_joiner = ap is_joining_status joining

  no_way : (b : Bool) → b ≡ true → b ≡ false → ⊥
  no_way b is other = let both : true ≡ false = sym is ∙ other in cc

  founded_at_member : (k : MessageKind) (sender : ℕ) (after : Turn) → IsFounded (if is_member turn.state then after else noted (line.Drop k sender) turn)
  founded_at_member k sender after =
      going_if IsFounded (is_member turn.state) _ _ (λ member. absurd (no_way (is_member turn.state) member is_no_member)) (λ other. joins_still (noted
      (line.Drop k sender) turn) joining)

  founded_replied : (k : MessageKind) (sender number : ℕ) (step : Call → Turn → Turn) (o : Option Call) → answered_call k number turn.state ≡ o
      → ((call : Call) → IsAnswered k number turn.state call → is_for_join call.purpose ≡ true → (n : ℕ) → IsFounded (step call (without_call n turn)))
      → IsFounded (replied k sender step o turn)
  founded_replied k sender number step None is go =
      going_if IsFounded (is_down turn.state) _ _ (λ down. joins_still (noted (line.Drop k sender) turn) joining) (λ up. joins_still (noted
      (line.Late k sender) turn) joining)
  founded_replied k sender number step (Some call) is go =
      let answered : IsAnswered k number turn.state call = answered_is k number turn.state call is in
      go call answered
      (asks_to_join turn.state.status call.purpose joining (purpose_of_found sc number call turn.state answered.found known.calls)) call.number

  founded_answered_for : (a : Answer) (call : Call) (wanted : Purpose) (n : ℕ) → answers kind.StepReply wanted ≡ true → is_for_join wanted ≡ true
      → IsFounded (answered_for sc a call wanted (without_call n turn))
  unfolding join_answered
  founded_answered_for a call purpose.JoinStep n replies joins =
      founded_for_attempt sc (λ attempt. join_followed sc call.to a (heard attempt)) (without_call n turn) joining
      (λ attempt. founded_join_followed sc call.to a (heard attempt) (without_attempt (without_call n turn)) joining)
  founded_answered_for a call purpose.Lookup n replies joins = absurd (cc)
  founded_answered_for a call _ n replies joins = absurd (cc)

  founded_list_answered_for : (list : List ℕ) (to : ℕ) (wanted : Purpose) (n : ℕ) → sc.rules.join_asks ≡ true → answers kind.ListReply wanted ≡ true
      → is_for_join wanted ≡ true → IsFounded (list_answered_for sc list to wanted (without_call n turn))
  unfolding join_list_answered
  founded_list_answered_for list to purpose.JoinList n asks replies joins =
      founded_for_attempt sc (λ attempt. join_list_taken sc to (cleaned sc turn.state.me to attempt.avoid list) (heard attempt)) (without_call n turn) joining
      (λ attempt. founded_join_list_taken sc to (cleaned sc turn.state.me to attempt.avoid list) (heard attempt) (without_attempt
      (without_call n turn)) asks joining)
  founded_list_answered_for list to purpose.List n asks replies joins = absurd (cc)
  founded_list_answered_for list to _ n asks replies joins = absurd (cc)

  founded_ponged : (wanted : Purpose) → answers kind.Pong wanted ≡ true → is_for_join wanted ≡ true → ⊥
  founded_ponged purpose.Check replies joins = cc
  founded_ponged (purpose.Ping notifier) replies joins = cc
  founded_ponged _ replies joins = cc

  founded_stabilize_tick : (epoch : ℕ) → IsFounded (stabilize_tick sc epoch turn)
  unfolding stabilize_tick stabilize_armed timer_made
  founded_stabilize_tick epoch =
      going_if IsFounded (is_void epoch turn.state) turn _ (λ void. joins_still turn joining)
      (λ fresh. going_if IsFounded (is_joining turn.state || has_repair_call turn.state) _ _
      (λ busy. joins_still (stabilize_armed sc turn) joining)
      (λ idle. absurd (no_way (is_joining turn.state) is_joiner (or_false (is_joining turn.state) (has_repair_call turn.state) idle).0)))

  founded_finger_tick : (epoch : ℕ) → IsFounded (finger_tick sc epoch turn)
  unfolding finger_tick finger_armed timer_made
  founded_finger_tick epoch =
      going_if IsFounded (is_void epoch turn.state) turn _ (λ void. joins_still turn joining)
      (λ fresh. going_if IsFounded (is_joining turn.state || has_finger_lookup turn.state) _ _
      (λ busy. joins_still (finger_armed sc turn) joining)
      (λ idle. absurd (no_way (is_joining turn.state) is_joiner (or_false (is_joining turn.state) (has_finger_lookup turn.state) idle).0)))

  founded_traffic_tick : (epoch : ℕ) → IsFounded (traffic_tick sc epoch turn)
  unfolding traffic_tick
  founded_traffic_tick epoch =
      going_if IsFounded (is_void epoch turn.state || not (is_some sc.lookups)) turn _ (λ void. joins_still turn joining)
      (λ fresh. going_if IsFounded (is_joining turn.state) _ _
      (λ busy. joins_still (traffic_armed sc turn) (same_traffic_armed (λ s. s.status) sc turn (λ s count place. refl) ∙ joining))
      (λ idle. absurd (no_way (is_joining turn.state) is_joiner idle)))

  founded_check_tick : (epoch : ℕ) → IsFounded (check_tick sc epoch turn)
  unfolding check_tick
  founded_check_tick epoch =
      going_if IsFounded (is_void epoch turn.state) turn _ (λ void. joins_still turn joining)
      (λ fresh. going_if IsFounded (is_joining turn.state || has_ping_call turn.state) _ _
      (λ busy. joins_still (check_armed sc turn) (same_check_armed (λ s. s.status) sc turn (λ s count place. refl) ∙ joining))
      (λ idle. absurd (no_way (is_joining turn.state) is_joiner (or_false (is_joining turn.state) (has_ping_call turn.state) idle).0)))

  founded_life_end : (epoch : ℕ) → IsFounded (life_end sc epoch turn)
  unfolding life_end departed
  founded_life_end epoch =
      going_if IsFounded (is_void epoch turn.state || not (is_churn_node sc turn.state.me)) turn _ (λ void. joins_still turn joining)
      (λ fresh. founded_rise_armed sc (when_some sc.churn (life_over sc epoch) turn)
      (going_when (λ t. t.state.status ≡ status.Member → ⊥) sc.churn (life_over sc epoch) turn
      (λ is. let both : status.Joining ≡ status.Member = sym joining ∙ is in cc)
      (λ churn found. going_if (λ t. t.state.status ≡ status.Member → ⊥) (churn.leave == 0) _ _
      (λ never is. cc)
      (λ draws. going_if (λ t. t.state.status ≡ status.Member → ⊥) (nat_lt (leave_number sc turn.state.me epoch) churn.leave) _ _ (λ leaves is. cc)
      (λ crashes is. cc)))))

  founded_rejoin : (epoch : ℕ) → IsFounded (rejoin sc epoch turn)
  unfolding rejoin
  founded_rejoin epoch =
      going_if IsFounded (not (turn.state.epoch == epoch) || not (is_joining turn.state) || has_join_call turn.state) turn _ (λ void. joins_still turn joining)
      (λ due. founded_for_attempt sc (join_retried sc) turn joining (λ attempt. founded_join_retried sc attempt (without_attempt turn) joining))

  founded_cmd_join : (via : ℕ) → IsFounded (cmd_join sc via turn)
  unfolding cmd_join
  founded_cmd_join via =
      going_if IsFounded (not (is_down turn.state)) _ _ (λ up. joins_still (noted (line.Ignored command.Join) turn) joining)
      (λ down. absurd (no_way (is_down turn.state) (not_false (is_down turn.state) down) is_up))

  founded_cmd_crash : IsFounded (cmd_crash sc turn)
  unfolding cmd_crash
  founded_cmd_crash =
      going_if IsFounded (is_down turn.state) _ _ (λ down. joins_still (noted (line.Ignored command.Crash) turn) joining) (λ up. down_still
      (crashed sc turn) refl)

  founded_cmd_leave : IsFounded (cmd_leave sc turn)
  unfolding cmd_leave departed
  founded_cmd_leave =
      going_if IsFounded (is_down turn.state) _ _ (λ down. joins_still (noted (line.Ignored command.Leave) turn) joining) (λ up. down_still
      (departed sc turn) refl)

  founded_cmd_lookup : (key : ℕ) → IsFounded (cmd_lookup sc key turn)
  unfolding cmd_lookup
  founded_cmd_lookup key =
      going_if IsFounded (not (is_member turn.state)) _ _ (λ other. joins_still (noted (line.Ignored command.Lookup) turn) joining)
      (λ member. absurd (no_way (is_member turn.state) (not_false (is_member turn.state) member) is_no_member))

  founded_rise : (epoch : ℕ) → IsFounded (rise sc epoch turn)
  unfolding rise
  founded_rise epoch =
      going_if IsFounded (not (turn.state.epoch == epoch) || not (is_down turn.state)) turn _ (λ void. joins_still turn joining)
      (λ due. absurd (no_way (is_down turn.state)
      (not_false (is_down turn.state) (or_false (not (turn.state.epoch == epoch)) (not (is_down turn.state)) due).1) is_up))

-- lines of messages come after all others
founded_detailed : (sc : Scenario) (turn : Turn) → IsFounded turn → IsFounded (detailed sc turn)
unfolding detailed
founded_detailed sc turn h =
    going_if IsFounded sc.detail _ turn (λ tells is. contains_left turn.lines (message_lines turn.state turn.events) line.Create (h is)) (λ silent. h)

module _ (sc : Scenario) (s : NodeState) (e : Event Body) (known : IsNodeState sc s) (joining : s.status ≡ status.Joining)
    (asks : sc.rules.join_asks ≡ true) where
  -- the reply of the first successor, and any other one
  head_replied : (number : ℕ) (prdc : Option ℕ) (list : List ℕ) (sender : ℕ) (o : Option Call) → e.body ≡ body.StateReply number prdc list
      → answered_call kind.StateReply number s ≡ o
      → MeetsHead s e ⊎ IsFounded (replied kind.StateReply sender (λ call. state_answered_for sc prdc list call call.purpose) o (opening s e))
  head_replied number prdc list sender None is answered =
      inr (going_if IsFounded (is_down s) _ _ (λ down. joins_still (noted (line.Drop kind.StateReply sender) (opening s e)) joining)
      (λ up. joins_still (noted (line.Late kind.StateReply sender) (opening s e)) joining))
  head_replied number prdc list sender (Some call) is answered =
      let found : IsAnswered kind.StateReply number s call = answered_is kind.StateReply number s call answered in
      inl (by call.purpose refl found.asked (asks_to_join s.status call.purpose joining
      (purpose_of_found sc number call s found.found known.calls)) found.found)
    where
      by : (wanted : Purpose) → call.purpose ≡ wanted → answers kind.StateReply wanted ≡ true → is_for_join wanted ≡ true → call_of number s ≡ Some call
          → MeetsHead s e
      by (purpose.JoinHead behind) asked replies joins found =
          record { number = number; prdc = prdc; list = list; behind = behind; call = call; is = is; found = found; asked = asked }
      by purpose.State asked replies joins found = absurd (cc)
      by _ asked replies joins found = absurd (cc)

  passes_acted : (message : Body) → e.body ≡ message → MeetsHead s e ⊎ IsFounded (acted sc (e.key.origin - 2) message (opening s e))
  unfolding step_asked state_asked list_asked pinged notified leave_heard step_replied state_replied list_replied ponged
  passes_acted (body.CmdJoin via) is = inr (founded_cmd_join sc (opening s e) known joining via)
  passes_acted body.CmdCrash is = inr (founded_cmd_crash sc (opening s e) known joining)
  passes_acted body.CmdLeave is = inr (founded_cmd_leave sc (opening s e) known joining)
  passes_acted (body.CmdLookup key) is = inr (founded_cmd_lookup sc (opening s e) known joining key)
  passes_acted (body.StabilizeTick epoch) is = inr (founded_stabilize_tick sc (opening s e) known joining epoch)
  passes_acted (body.FingerTick epoch) is = inr (founded_finger_tick sc (opening s e) known joining epoch)
  passes_acted (body.TrafficTick epoch) is = inr (founded_traffic_tick sc (opening s e) known joining epoch)
  passes_acted (body.LifeEnd epoch) is = inr (founded_life_end sc (opening s e) known joining epoch)
  passes_acted (body.Rise epoch) is = inr (founded_rise sc (opening s e) known joining epoch)
  passes_acted (body.CheckTick epoch) is = inr (founded_check_tick sc (opening s e) known joining epoch)
  passes_acted (body.Rejoin epoch) is = inr (founded_rejoin sc (opening s e) known joining epoch)
  passes_acted (body.Timeout number) is = inr (founded_timeout sc number (opening s e) known joining)
  passes_acted (body.Step number key avoid) is = inr (founded_at_member sc (opening s e) known joining kind.Step (e.key.origin - 2) _)
  passes_acted (body.GetState number) is = inr (founded_at_member sc (opening s e) known joining kind.GetState (e.key.origin - 2) _)
  passes_acted (body.GetList number) is = inr (founded_at_member sc (opening s e) known joining kind.GetList (e.key.origin - 2) _)
  passes_acted (body.Ping number) is = inr (founded_at_member sc (opening s e) known joining kind.Ping (e.key.origin - 2) _)
  passes_acted body.Notify is = inr (founded_at_member sc (opening s e) known joining kind.Notify (e.key.origin - 2) _)
  passes_acted (body.Leave prdc list) is = inr (founded_at_member sc (opening s e) known joining kind.Leave (e.key.origin - 2) _)
  passes_acted (body.StepReply number a) is =
      inr (founded_replied sc (opening s e) known joining kind.StepReply (e.key.origin - 2) number (λ call. answered_for sc a call call.purpose)
      (answered_call kind.StepReply number s) refl
      (λ call answered joins n. founded_answered_for sc (opening s e) known joining a call call.purpose n answered.asked joins))
  passes_acted (body.StateReply number prdc list) is =
      head_replied number prdc list (e.key.origin - 2) (answered_call kind.StateReply number s) is refl
  passes_acted (body.ListReply number list) is =
      inr (founded_replied sc (opening s e) known joining kind.ListReply (e.key.origin - 2) number (λ call. list_answered_for sc list call.to call.purpose)
      (answered_call kind.ListReply number s) refl
      (λ call answered joins n. founded_list_answered_for sc (opening s e) known joining list call.to call.purpose n asks answered.asked joins))
  passes_acted (body.Pong number) is =
      inr (founded_replied sc (opening s e) known joining kind.Pong (e.key.origin - 2) number (λ call. λ t. t) (answered_call kind.Pong number s) refl
      (λ call answered joins n. absurd (founded_ponged sc (opening s e) known joining call.purpose answered.asked joins)))

  pub members_met : (effect sc s e).state.status ≡ status.Member → MeetsHead s e ⊎ MakesRing (effect sc s e).lines
  unfolding effect
  members_met member =
      ⊎_elim (λ meets. inl meets) (λ h. inr (founded_detailed sc (acted sc (e.key.origin - 2) e.body (opening s e)) h member)) (passes_acted e.body refl)
