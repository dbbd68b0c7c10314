-- Each row of the rule table leaves lines of the scenario's nodes, and no more than a block has room for.
use Rattle.std.proofs.Common.{◌==◌, ℕ, ◌+◌, ◌-◌, ◌<◌, ◌≤◌, ◌&&◌, ◌||◌, not, List, [], ◌∷◌, ◌++◌, drop, length, map, max, nat_lt, replicate, Option, Some, None, refl, arith, ap}
use Rattle.std.proofs.lemmas.List.Elements.{All-append, All-cons, All-drop, All-head, All-replicate, All-take}
use Rattle.std.proofs.lemmas.List.Filters.{length-filter_both}
use Rattle.std.proofs.lemmas.List.Sums.{length-filter}
use Rattle.std.specs.List.{All}
use Rattle.std.specs.Prelude.{IfSome, is_some, slice_get, if◌then◌else◌}
use Rattle.chord_circle.specs.Circle.{between, finger_start}
use Rattle.chord_event.specs.declared.body.Answer.{Answer}
use Rattle.chord_event.specs.declared.body.Answer.TheVariants as answer
use Rattle.chord_event.specs.declared.body.Body.{Body}
use Rattle.chord_event.specs.declared.body.Body.TheVariants as body
use Rattle.des_event.specs.declared.event.Event.{Event}
use Rattle.chord_event.specs.declared.line.CommandKind.TheVariants as command
use Rattle.chord_event.specs.declared.line.MessageKind.{MessageKind}
use Rattle.chord_event.specs.declared.line.MessageKind.TheVariants as kind
use Rattle.chord_event.specs.declared.line.Line.{Line}
use Rattle.chord_event.specs.declared.line.Line.TheVariants as line
use Rattle.chord_scenario.specs.declared.scenario.Scenario.{Scenario}
use Rattle.chord_scenario.specs.declared.setting.Churn.{Churn}
use Rattle.chord_scenario.specs.Draws.{leave_number}
use Rattle.chord_ops.proofs.Heirs.{inherited_known, mended_known}
use Rattle.chord_node.specs.declared.state.Aim.TheVariants as aim
use Rattle.chord_node.specs.declared.state.Attempt.{Attempt}
use Rattle.chord_node.specs.declared.state.Call.{Call}
use Rattle.chord_node.specs.declared.state.Lookup.{Lookup}
use Rattle.chord_node.specs.declared.state.NodeState.{NodeState}
use Rattle.chord_node.specs.declared.state.Purpose.{Purpose}
use Rattle.chord_node.specs.declared.state.Purpose.TheVariants as purpose
use Rattle.chord_node.specs.Invariant.{AllNodes, AreLookups, IsCall, IsNodeState, NamesKnown, is_user}
use Rattle.chord_scenario.specs.Blocks.{IsBlockOf, IsLineOf, most_lines}
use Rattle.chord_node.specs.Limits.{most_steps}
use Rattle.chord_scenario.specs.Range.{IsInRange}
use Rattle.chord_scenario.specs.World.{ident_of, is_churn_node, node_count}
use Rattle.chord_ops.proofs.Telling.{HasDetail, noted_detailed}
use Rattle.chord_ops.proofs.KeptTable.{kept_acts}
use Rattle.chord_ops.proofs.GrowingRules.{grows_acted}
use Rattle.chord_ops.specs.Limits.{most_drawn, most_made}
use Rattle.chord_ops.specs.Growth.{Grows}
use Rattle.chord_ops.specs.Asked.{IsBody}
use Rattle.chord_ops.specs.declared.turn.Request.TheVariants as request
use Rattle.chord_ops.specs.declared.turn.Turn.{Turn}
use Rattle.chord_ops.specs.Procedures.{holds, call_of, finger_armed, own_step, stabilize_armed, stranded, traffic_armed, came_up, with_attempt, with_lookup, without_attempt, without_call, without_lookup, check_armed, join_retried}
use Rattle.chord_ops.specs.Rules.{
  acted,
  answered_call,
  answered_for,
  avoiding,
  block_of,
  cmd_crash,
  cmd_join,
  cmd_leave,
  cmd_lookup,
  crashed,
  leave_heard,
  life_over,
  with_heirs,
  effect,
  finger_after,
  finger_tick,
  finger_turned,
  has_finger_lookup,
  check_tick,
  check_timed_out,
  has_join_call,
  has_ping_call,
  has_repair_call,
  head,
  head_asked,
  head_notified,
  is_down,
  is_joining,
  is_member,
  is_void,
  join_answered,
  join_asked,
  join_followed,
  join_list_answered,
  join_list_taken,
  join_timed_out,
  cleaned,
  head_met,
  heard,
  joined,
  place_found,
  key_words,
  life_end,
  list_answered,
  list_answered_for,
  list_asked,
  list_replied,
  lookup_answered,
  lookup_timed_out,
  notified,
  notifier_met,
  predecessor_told,
  predecessor_weighed,
  rejoin,
  arrived,
  call_over,
  dropped,
  dropped_by,
  finger_rotated,
  first_in_turn,
  is_handed_over,
  is_stuck,
  list_after,
  list_left,
  near_covered,
  once_more,
  opening,
  owner_answered,
  rescue_lines,
  rescuer,
  state_answered_for,
  ping_timed_out,
  pinged,
  ponged,
  random_key,
  random_lookup,
  replied,
  rise,
  stabilize_tick,
  state_answered,
  state_asked,
  state_replied,
  state_timed_out,
  step_asked,
  step_replied,
  timed_out,
  timeout,
  traffic_tick,
  successors_taken,
  without_silent,
  list_without,
  call_given_up,
  call_repeated,
  request_again,
  sent_once_more,
}
use Rattle.chord_ops.specs.Search.{NamesNode}
use Rattle.chord_ops.specs.Sound.{IsSoundEvent}
use Rattle.chord_ops.specs.Turns.{after_words, kind_of, noted, timer_made, when_some}
use Rattle.chord_ops.proofs.Answered.{IfSome-answered_call}
use Rattle.chord_ops.proofs.Found.{IfSome-find}
use Rattle.chord_ops.proofs.Growing.{known}
use Rattle.chord_ops.proofs.Dropped.{list_known, put_known, rescuer_known, without_known}
use Rattle.chord_ops.proofs.KeptJoins.{cleaned_known}
use Rattle.chord_ops.proofs.KeptRules.{arrived_last, first_known, none_of}
use Rattle.chord_ops.proofs.Noted.{
  AreNotes,
  HasNoted,
  KnowsNodes,
  no_node,
  noted_asked,
  noted_called,
  noted_if,
  noted_line,
  noted_sent,
  noted_when_some,
  notes_lines,
  one_node,
  one_more,
  two_more,
  three_more,
}
use Rattle.chord_ops.proofs.NotedProcedures.{
  knows_check_armed,
  knows_traffic_armed,
  noted_lookup_asked,
  noted_lookup_begun,
  noted_lookup_diverted,
  noted_lookup_finished,
  noted_gone_down,
  noted_lookup_followed,
  noted_for_attempt,
  noted_check_armed,
  noted_join_failed,
  noted_join_retried,
  noted_rise_armed,
  noted_stranded,
  noted_traffic_armed,
  noted_came_up,
  noted_departed,
  noted_user_lookup,
  noted_with_lookup,
}

-- Commands

noted_cmd_join : (sc : Scenario) (n via : ℕ) (turn : Turn) → via < node_count sc → HasNoted sc n turn → HasNoted sc (n + 1 + 1) (cmd_join sc via turn)
unfolding cmd_join
noted_cmd_join sc n via turn at h =
    noted_if sc (n + 1 + 1) (not (is_down turn.state)) _ _
    (one_more sc (n + 1) (noted_line sc n (line.Ignored command.Join) turn (no_node sc) h))
    (noted_came_up sc n via turn at h)

noted_cmd_crash : (sc : Scenario) (n : ℕ) (turn : Turn) → HasNoted sc n turn → HasNoted sc (n + 1) (cmd_crash sc turn)
unfolding cmd_crash
noted_cmd_crash sc n turn h =
    noted_if sc (n + 1) (is_down turn.state) _ _
    (noted_line sc n (line.Ignored command.Crash) turn (no_node sc) h)
    (noted_gone_down sc (n + 1) (noted line.Crash turn) (noted_line sc n line.Crash turn (no_node sc) h))

noted_cmd_leave : (sc : Scenario) (n : ℕ) (turn : Turn) → KnowsNodes sc turn.state → HasNoted sc n turn → HasNoted sc (n + 1 + 1 + 1) (cmd_leave sc turn)
unfolding cmd_leave
noted_cmd_leave sc n turn knows h =
    noted_if sc (n + 1 + 1 + 1) (is_down turn.state) _ _
    (two_more sc (n + 1) (noted_line sc n (line.Ignored command.Leave) turn (no_node sc) h))
    (noted_departed sc n turn knows h)

noted_cmd_lookup : (sc : Scenario) (n key : ℕ) (turn : Turn) → KnowsNodes sc turn.state → HasNoted sc n turn
    → HasNoted sc (n + 1 + 1 + 1) (cmd_lookup sc key turn)
unfolding cmd_lookup
noted_cmd_lookup sc n key turn knows h =
    noted_if sc (n + 1 + 1 + 1) (not (is_member turn.state)) _ _
    (two_more sc (n + 1)
    (noted_line sc n (line.Ignored command.Lookup) turn (no_node sc) h))
    (noted_user_lookup sc n key turn knows h)

-- Timers

noted_rise : (sc : Scenario) (n epoch : ℕ) (turn : Turn) → IfSome turn.state.via (λ via. via < node_count sc) → HasNoted sc n turn
    → HasNoted sc (n + 1 + 1) (rise sc epoch turn)
unfolding rise
noted_rise sc n epoch turn at h =
    let still : HasNoted sc (n + 1 + 1) turn = two_more sc n h in
    noted_if sc (n + 1 + 1) (not (turn.state.epoch == epoch) || not (is_down turn.state)) turn _ still
    (noted_when_some sc (n + 1 + 1) (λ via. via < node_count sc) turn.state.via (came_up sc) turn at still
    (λ via known. noted_came_up sc n via turn known h))

noted_stabilize_tick : (sc : Scenario) (n epoch : ℕ) (turn : Turn) → KnowsNodes sc turn.state → HasNoted sc n turn
    → HasNoted sc (n + 1) (stabilize_tick sc epoch turn)
unfolding stabilize_tick stabilize_armed timer_made
noted_stabilize_tick sc n epoch turn knows h =
    let still : HasNoted sc (n + 1) turn = one_more sc n h in
    noted_if sc (n + 1) (is_void epoch turn.state) turn _ still
    (noted_if sc (n + 1) (is_joining turn.state || has_repair_call turn.state) _ _ still
    (noted_when_some sc (n + 1) (λ node. node < node_count sc) (head turn.state) _ (stabilize_armed sc turn)
    (first_known sc turn.state.succ knows.succ_known) still
    (λ first at. noted_called sc n first request.GetState purpose.State (stabilize_armed sc turn) at h)))

noted_check_tick : (sc : Scenario) (n epoch : ℕ) (turn : Turn) → KnowsNodes sc turn.state → HasNoted sc n turn
    → HasNoted sc (n + 1) (check_tick sc epoch turn)
unfolding check_tick
noted_check_tick sc n epoch turn knows h =
    let armed : HasNoted sc n (check_armed sc turn) = noted_check_armed sc n turn h in
    noted_if sc (n + 1) (is_void epoch turn.state) turn _ (one_more sc n h)
    (noted_if sc (n + 1) (is_joining turn.state || has_ping_call turn.state) _ _ (one_more sc n armed)
    (noted_when_some sc (n + 1) (λ node. node < node_count sc) (check_armed sc turn).state.prdc _ (check_armed sc turn)
    (knows_check_armed sc turn knows).prdc_known (one_more sc n armed)
    (λ prdc at. noted_called sc n prdc request.Ping purpose.Check (check_armed sc turn) at armed)))

noted_rejoin : (sc : Scenario) (n epoch : ℕ) (turn : Turn) → KnowsNodes sc turn.state → HasNoted sc n turn → HasNoted sc (n + 1 + 1) (rejoin sc epoch turn)
unfolding rejoin
noted_rejoin sc n epoch turn knows h =
    noted_if sc (n + 1 + 1) (not (turn.state.epoch == epoch) || not (is_joining turn.state) || has_join_call turn.state) turn _ (two_more sc n h)
    (noted_for_attempt sc n (join_retried sc) turn (λ attempt. one_more sc (n + 1) (noted_join_retried sc n attempt (without_attempt turn) knows h)) h)

noted_finger_turned : (sc : Scenario) (n index : ℕ) (turn : Turn) → KnowsNodes sc turn.state → HasNoted sc n turn
    → HasNoted sc (n + 1 + 1) (finger_turned sc index turn)
unfolding finger_turned
noted_finger_turned sc n index turn knows h =
    noted_lookup_begun sc n (finger_start sc.bits (ident_of sc turn.state.me) index) (aim.Finger index)
    (record turn { state = record turn.state { next_finger = finger_after sc.bits index } }) knows h

-- covered fingers are nodes that the node knows
knows_near_covered : (sc : Scenario) (first : ℕ) (turn : Turn) → KnowsNodes sc turn.state → KnowsNodes sc (near_covered first turn).state
unfolding near_covered
knows_near_covered sc first turn knows = by (head turn.state) (first_known sc turn.state.succ knows.succ_known)
  where
    by : (o : Option ℕ) → IfSome o (λ node. node < node_count sc)
        → KnowsNodes sc (when_some o (λ node. λ t. record t { state = record t.state { fingers = replicate (first - 2) node ++ drop (first - 2) t.state.fingers } }) turn).state
    by None known = knows
    by (Some node) known = record {
      own = knows.own;
      via_known = knows.via_known;
      prdc_known = knows.prdc_known;
      succ_known = knows.succ_known;
      fingers_known =
          All-append (λ x. x < node_count sc) (replicate (first - 2) node) (drop (first - 2) turn.state.fingers)
          (All-replicate (λ x. x < node_count sc) (first - 2) node known)
          (All-drop (λ x. x < node_count sc) (first - 2) turn.state.fingers knows.fingers_known);
      bootstraps = knows.bootstraps;
    }

noted_near_covered : (sc : Scenario) (n first : ℕ) (turn : Turn) → HasNoted sc n turn → HasNoted sc n (near_covered first turn)
unfolding near_covered
noted_near_covered sc n first turn h = noted_when_some sc n (λ _. Unit {0}) (head turn.state) _ turn (known _) h (λ node _. h)

noted_finger_rotated : (sc : Scenario) (n first : ℕ) (turn : Turn) → KnowsNodes sc turn.state → HasNoted sc n turn
    → HasNoted sc (n + 1 + 1) (finger_rotated sc first turn)
noted_finger_rotated sc n first turn knows h =
    let covered : HasNoted sc n (near_covered first turn) = noted_near_covered sc n first turn h in
    noted_if sc (n + 1 + 1) (nat_lt sc.bits (max turn.state.next_finger first)) _ _ (two_more sc n covered)
    (noted_finger_turned sc n (max turn.state.next_finger first) (near_covered first turn) (knows_near_covered sc first turn knows) covered)

noted_finger_tick : (sc : Scenario) (n epoch : ℕ) (turn : Turn) → KnowsNodes sc turn.state → HasNoted sc n turn
    → HasNoted sc (n + 1 + 1) (finger_tick sc epoch turn)
unfolding finger_tick finger_armed timer_made
noted_finger_tick sc n epoch turn knows h =
    let still : HasNoted sc (n + 1 + 1) turn = two_more sc n h in
    noted_if sc (n + 1 + 1) (is_void epoch turn.state) turn _ still
    (noted_if sc (n + 1 + 1) (is_joining turn.state || has_finger_lookup turn.state) _ _ still
    (noted_finger_rotated sc n (first_in_turn sc turn.state) (finger_armed sc turn) knows h))

noted_random_lookup : (sc : Scenario) (n : ℕ) (turn : Turn) → KnowsNodes sc turn.state → HasNoted sc n turn
    → HasNoted sc (n + 1 + 1 + 1) (random_lookup sc turn)
unfolding random_lookup
noted_random_lookup sc n turn knows h =
    noted_user_lookup sc n (random_key sc turn.time turn.state)
    (record turn { state = after_words (key_words sc.bits) turn.state }) knows h

noted_traffic_tick : (sc : Scenario) (n epoch : ℕ) (turn : Turn) → KnowsNodes sc turn.state → HasNoted sc n turn
    → HasNoted sc (n + 1 + 1 + 1) (traffic_tick sc epoch turn)
unfolding traffic_tick
noted_traffic_tick sc n epoch turn knows h =
    let still : HasNoted sc (n + 1 + 1 + 1) turn = three_more sc n h in
    noted_if sc (n + 1 + 1 + 1) (is_void epoch turn.state || not (is_some sc.lookups)) turn _ still
    (noted_if sc (n + 1 + 1 + 1) (is_joining turn.state) _ _
    (noted_traffic_armed sc (n + 1 + 1 + 1) turn still)
    (noted_random_lookup sc n (traffic_armed sc turn) (knows_traffic_armed sc turn knows) (noted_traffic_armed sc n turn h)))

noted_crashed : (sc : Scenario) (n : ℕ) (turn : Turn) → HasNoted sc n turn → HasNoted sc (n + 1) (crashed sc turn)
noted_crashed sc n turn h = noted_gone_down sc (n + 1) (noted line.Crash turn) (noted_line sc n line.Crash turn (no_node sc) h)

noted_life_over : (sc : Scenario) (n epoch : ℕ) (churn : Churn) (turn : Turn) → KnowsNodes sc turn.state → HasNoted sc n turn
    → HasNoted sc (n + 1 + 1 + 1) (life_over sc epoch churn turn)
noted_life_over sc n epoch churn turn knows h =
    let drawn : Turn = record turn { state = after_words 1 turn.state } in
    noted_if sc (n + 1 + 1 + 1) (churn.leave == 0) _ _ (two_more sc (n + 1) (noted_crashed sc n turn h))
    (noted_if sc (n + 1 + 1 + 1) (nat_lt (leave_number sc turn.state.me epoch) churn.leave) _ _
    (noted_departed sc n drawn knows h) (two_more sc (n + 1) (noted_crashed sc n drawn h)))

noted_life_end : (sc : Scenario) (n epoch : ℕ) (turn : Turn) → KnowsNodes sc turn.state → HasNoted sc n turn
    → HasNoted sc (n + 1 + 1 + 1) (life_end sc epoch turn)
unfolding life_end
noted_life_end sc n epoch turn knows h =
    noted_if sc (n + 1 + 1 + 1) (is_void epoch turn.state || not (is_churn_node sc turn.state.me)) turn _ (three_more sc n h)
    (noted_rise_armed sc (n + 1 + 1 + 1) (when_some sc.churn (life_over sc epoch) turn)
    (noted_when_some sc (n + 1 + 1 + 1) (λ _. Unit {0}) sc.churn (life_over sc epoch) turn (known _) (three_more sc n h)
    (λ churn _. noted_life_over sc n epoch churn turn knows h)))

-- Timeouts

-- a lookup goes on from a node of the scenario, if from any but the node itself
abbrev HasLast : Scenario → Lookup → Type 0
HasLast sc lookup = IfSome lookup.last (λ node. node < node_count sc)

noted_lookup_timed_out : (sc : Scenario) (n silent place : ℕ) (lookup : Lookup) (turn : Turn) → HasLast sc lookup → KnowsNodes sc turn.state
    → HasNoted sc n turn → HasNoted sc (n + 1 + 1) (lookup_timed_out sc silent place lookup turn)
unfolding lookup_timed_out
noted_lookup_timed_out sc n silent place lookup turn last knows h = noted_lookup_diverted sc n silent place (once_more lookup) turn last knows h

noted_join_timed_out : (sc : Scenario) (n silent : ℕ) (turn : Turn) → KnowsNodes sc turn.state → HasNoted sc n turn
    → HasNoted sc (n + 1 + 1) (join_timed_out sc silent turn)
unfolding join_timed_out
noted_join_timed_out sc n silent turn knows h =
    noted_for_attempt sc n _ turn
    (λ attempt. noted_join_failed sc n (avoiding silent turn.state attempt) (without_attempt turn) knows h) h

noted_head_asked : (sc : Scenario) (n : ℕ) (first : Option ℕ) (turn : Turn) → KnowsNodes sc turn.state
    → IfSome first (λ node. node < node_count sc) → HasNoted sc n turn → HasNoted sc (n + 1 + 1) (head_asked sc first turn)
noted_head_asked sc n None turn knows at h =
    noted_when_some sc (n + 1 + 1) (λ via. via < node_count sc) turn.state.via (stranded sc) turn knows.via_known
    (two_more sc n h)
    (λ via known. noted_stranded sc n via turn known knows h)
noted_head_asked sc n (Some first) turn knows at h =
    one_more sc (n + 1) (noted_called sc n first request.GetState purpose.State turn at h)

noted_state_timed_out : (sc : Scenario) (n silent : ℕ) (turn : Turn) → KnowsNodes sc turn.state → HasNoted sc n turn
    → HasNoted sc (n + 1 + 1) (state_timed_out sc silent turn)
unfolding state_timed_out
noted_state_timed_out sc n silent turn knows h =
    let others : AllNodes sc (list_without sc silent turn.state.succ) = without_known sc silent turn.state.succ knows.succ_known in
    noted_head_asked sc n (head (without_silent sc silent turn).state) (without_silent sc silent turn)
    (record {
      own = knows.own;
      via_known = knows.via_known;
      prdc_known = knows.prdc_known;
      succ_known = others;
      fingers_known = knows.fingers_known;
      bootstraps = knows.bootstraps;
    })
    (first_known sc (list_without sc silent turn.state.succ) others) h

noted_head_notified : (sc : Scenario) (n : ℕ) (turn : Turn) → KnowsNodes sc turn.state → HasNoted sc n turn → HasNoted sc (n + 1) (head_notified sc turn)
unfolding head_notified
noted_head_notified sc n turn knows h =
    noted_when_some sc (n + 1) (λ node. node < node_count sc) (head turn.state) _ turn (first_known sc turn.state.succ knows.succ_known)
    (one_more sc n h) (λ first at. noted_sent sc n kind.Notify first body.Notify turn at h)

noted_ping_timed_out : (sc : Scenario) (n silent notifier : ℕ) (turn : Turn) → HasNoted sc n turn → HasNoted sc n (ping_timed_out silent notifier turn)
unfolding ping_timed_out
noted_ping_timed_out sc n silent notifier turn h = noted_if sc n (holds turn.state.prdc silent) _ turn h h

noted_check_timed_out : (sc : Scenario) (n silent : ℕ) (turn : Turn) → silent < node_count sc → HasNoted sc n turn
    → HasNoted sc (n + 1) (check_timed_out silent turn)
unfolding check_timed_out
noted_check_timed_out sc n silent turn at h =
    noted_if sc (n + 1) (holds turn.state.prdc silent) _ turn
    (noted_line sc n (line.Forget silent) (record turn { state = record turn.state { prdc = None } }) (one_node sc silent at) h) (one_more sc n h)

noted_timeout_of_lookup : (sc : Scenario) (n number silent : ℕ) (turn : Turn) → All (HasLast sc) turn.state.lookups → KnowsNodes sc turn.state
    → HasNoted sc n turn → HasNoted sc (n + 1 + 1) (with_lookup number (lookup_timed_out sc silent) turn)
noted_timeout_of_lookup sc n number silent turn lasts knows h =
    noted_with_lookup sc (HasLast sc) n number (lookup_timed_out sc silent) turn
    (λ place lookup last g. noted_lookup_timed_out sc n silent place lookup (without_lookup place turn) last knows g) lasts h

noted_timed_out : (sc : Scenario) (n number silent : ℕ) (wanted : Purpose) (turn : Turn) → silent < node_count sc → All (HasLast sc) turn.state.lookups
    → KnowsNodes sc turn.state → HasNoted sc n turn → HasNoted sc (n + 1 + 1) (timed_out sc number silent wanted turn)
noted_timed_out sc n number silent purpose.Lookup turn at lasts knows h = noted_timeout_of_lookup sc n number silent turn lasts knows h
noted_timed_out sc n number silent purpose.Owner turn at lasts knows h = noted_timeout_of_lookup sc n number silent turn lasts knows h
noted_timed_out sc n number silent purpose.JoinStep turn at lasts knows h = noted_join_timed_out sc n silent turn knows h
noted_timed_out sc n number silent purpose.JoinList turn at lasts knows h = noted_join_timed_out sc n silent turn knows h
noted_timed_out sc n number silent (purpose.JoinHead behind) turn at lasts knows h = noted_join_timed_out sc n silent turn knows h
noted_timed_out sc n number silent purpose.State turn at lasts knows h = noted_state_timed_out sc n silent turn knows h
noted_timed_out sc n number silent purpose.List turn at lasts knows h =
    one_more sc (n + 1) (noted_head_notified sc n turn knows h)
noted_timed_out sc n number silent purpose.Check turn at lasts knows h = one_more sc (n + 1) (noted_check_timed_out sc n silent turn at h)
noted_timed_out sc n number silent (purpose.Ping notifier) turn at lasts knows h =
    two_more sc n (noted_ping_timed_out sc n silent notifier turn h)

noted_call_repeated : (sc : Scenario) (n number : ℕ) (call : Call) (turn : Turn) → call.to < node_count sc → HasNoted sc n turn
    → HasNoted sc (n + 1 + 1) (call_repeated sc number call turn)
unfolding call_repeated
noted_call_repeated sc n number call turn at h =
    noted_when_some sc (n + 1 + 1) (λ _. Unit {0}) (request_again sc number call.purpose turn.state) _ turn (known _) (two_more sc n h)
    (λ request _. noted_asked sc (n + 1) request (sent_once_more number call) (noted (line.Again (kind_of request) call.to) (without_call number turn)) at
    (noted_line sc n (line.Again (kind_of request) call.to) (without_call number turn) (one_node sc call.to at) h))

-- the line of a rescue, if there is one
notes_rescue : (sc : Scenario) (n : ℕ) (o : Option ℕ) (lines : List Line) (lookups : List Lookup) → IfSome o (λ node. node < node_count sc)
    → AreNotes sc n lines lookups → AreNotes sc (n + 1) (lines ++ rescue_lines o) lookups
notes_rescue sc n None lines lookups at h = notes_lines sc n 1 lines [] lookups (none_of (IsLineOf sc)) (omega arith) h
notes_rescue sc n (Some finger) lines lookups at h =
    notes_lines sc n 1 lines (line.Rescue finger ∷ []) lookups
    (All-cons (IsLineOf sc) (line.Rescue finger) [] (one_node sc finger at) (none_of (IsLineOf sc))) (omega arith) h

-- what drops a silent node, and then goes on with the same lookups
noted_dropped_by : (sc : Scenario) (n silent : ℕ) (step : Turn → Turn) (o : Option ℕ) (turn : Turn) → IfSome o (λ node. node < node_count sc)
    → KnowsNodes sc turn.state → HasNoted sc n turn
    → ((fingers : List ℕ) → AllNodes sc fingers → HasNoted sc (n + 1 + 1) (step (record turn { state = record turn.state { fingers = fingers } })))
    → HasNoted sc (n + 1 + 1) (dropped_by sc silent step o turn)
noted_dropped_by sc n silent step None turn at knows h noted =
    noted_when_some sc (n + 1 + 1) (λ via. via < node_count sc) turn.state.via (stranded sc) turn knows.via_known (two_more sc n h)
    (λ via known. noted_stranded sc n via turn known knows h)
noted_dropped_by sc n silent step (Some first) turn at knows h noted =
    noted (map (λ x. if x == silent then first else x) turn.state.fingers) (put_known sc silent first turn.state.fingers at knows.fingers_known)

noted_dropped : (sc : Scenario) (n silent : ℕ) (step : Turn → Turn) (turn : Turn) → KnowsNodes sc turn.state → HasNoted sc n turn
    → ((succ fingers : List ℕ) (lines : List Line) → AllNodes sc succ → AllNodes sc fingers → AreNotes sc (n + 1) lines turn.state.lookups
    → HasNoted sc (n + 1 + 1 + 1) (step (record turn { state = record turn.state { succ = succ; fingers = fingers }; lines = lines })))
    → HasNoted sc (n + 1 + 1 + 1) (dropped sc silent step turn)
unfolding dropped list_left
noted_dropped sc n silent step turn knows h noted =
    let list : AllNodes sc (list_after sc silent turn.state) = list_known sc silent turn.state knows.succ_known knows.fingers_known in
    let rescue = rescuer_known sc silent turn.state knows.fingers_known in
    let lines = notes_rescue sc n (rescuer sc silent turn.state) turn.lines turn.state.lookups rescue h in
    noted_dropped_by sc (n + 1) silent step (slice_get (list_after sc silent turn.state) 0) (list_left sc silent turn)
    (first_known sc (list_after sc silent turn.state) list)
    (record {
      own = knows.own;
      via_known = knows.via_known;
      prdc_known = knows.prdc_known;
      succ_known = list;
      fingers_known = knows.fingers_known;
      bootstraps = knows.bootstraps;
    })
    lines
    (λ fingers known. noted (list_after sc silent turn.state) fingers (turn.lines ++ rescue_lines (rescuer sc silent turn.state)) list known lines)

noted_call_given_up : (sc : Scenario) (n number : ℕ) (call : Call) (turn : Turn) → call.to < node_count sc → All (HasLast sc) turn.state.lookups
    → KnowsNodes sc turn.state → HasNoted sc n turn → HasNoted sc (n + 1 + 1 + 1 + 1) (call_given_up sc number call turn)
unfolding call_given_up
noted_call_given_up sc n number call turn at lasts knows h =
    let mid : Turn = noted (line.Timeout call.to) turn in
    let timed : HasNoted sc (n + 1) mid = noted_line sc n (line.Timeout call.to) turn (one_node sc call.to at) h in
    noted_if sc (n + 1 + 1 + 1 + 1) (sc.rules.drop_silent && is_member turn.state) _ _
    (noted_dropped sc (n + 1) call.to (call_over sc number call) mid knows timed
    (λ succ fingers lines list own notes.
    noted_timed_out sc (n + 1 + 1) number call.to call.purpose
    (without_call number (record mid { state = record mid.state { succ = succ; fingers = fingers }; lines = lines })) at lasts
    (record { own = knows.own; via_known = knows.via_known; prdc_known = knows.prdc_known; succ_known = list; fingers_known = own; bootstraps = knows.bootstraps })
    notes))
    (one_more sc (n + 1 + 1 + 1) (noted_timed_out sc (n + 1) number call.to call.purpose (without_call number mid) at lasts knows timed))

lasts_known : (sc : Scenario) (s : NodeState) → IsNodeState sc s → All (HasLast sc) s.lookups
lasts_known sc s is = λ k d within. (is.lookups.each k d within).last

noted_timeout : (sc : Scenario) (n number : ℕ) (turn : Turn) → IsNodeState sc turn.state → KnowsNodes sc turn.state → HasNoted sc n turn
    → HasNoted sc (n + 1 + 1 + 1 + 1) (timeout sc number turn)
unfolding timeout
noted_timeout sc n number turn is knows h =
    noted_when_some sc (n + 1 + 1 + 1 + 1) (IsCall sc) (call_of number turn.state) _ turn
    (IfSome-find (IsCall sc) (λ (call : Call). call.number == number) turn.state.calls is.calls.each)
    (one_more sc (n + 1 + 1 + 1) (three_more sc n h))
    (λ call out. noted_if sc (n + 1 + 1 + 1 + 1) (nat_lt call.resent sc.retries) _ _
    (two_more sc (n + 1 + 1) (noted_call_repeated sc n number call turn out.to h))
    (noted_call_given_up sc n number call turn out.to (lasts_known sc turn.state is) knows h))

-- Requests, and notifies

noted_at_member : (sc : Scenario) (n : ℕ) (k : MessageKind) (sender : ℕ) (turn after : Turn) → sender < node_count sc → HasNoted sc n turn
    → HasNoted sc (n + 1) after → HasNoted sc (n + 1) (if is_member turn.state then after else noted (line.Drop k sender) turn)
noted_at_member sc n k sender turn after at h g =
    noted_if sc (n + 1) (is_member turn.state) after _ g
    (noted_line sc n (line.Drop k sender) turn (one_node sc sender at) h)

noted_step_asked : (sc : Scenario) (n sender number key : ℕ) (avoid : List ℕ) (turn : Turn) → sender < node_count sc → HasNoted sc n turn
    → HasNoted sc (n + 1) (step_asked sc sender number key avoid turn)
unfolding step_asked
noted_step_asked sc n sender number key avoid turn at h =
    noted_at_member sc n kind.Step sender turn _ at h (noted_sent sc n kind.StepReply sender _ turn at h)

noted_state_asked : (sc : Scenario) (n sender number : ℕ) (turn : Turn) → sender < node_count sc → HasNoted sc n turn
    → HasNoted sc (n + 1) (state_asked sc sender number turn)
unfolding state_asked
noted_state_asked sc n sender number turn at h =
    noted_at_member sc n kind.GetState sender turn _ at h
    (noted_sent sc n kind.StateReply sender _ turn at h)

noted_list_asked : (sc : Scenario) (n sender number : ℕ) (turn : Turn) → sender < node_count sc → HasNoted sc n turn
    → HasNoted sc (n + 1) (list_asked sc sender number turn)
unfolding list_asked
noted_list_asked sc n sender number turn at h =
    noted_at_member sc n kind.GetList sender turn _ at h (noted_sent sc n kind.ListReply sender _ turn at h)

noted_pinged : (sc : Scenario) (n sender number : ℕ) (turn : Turn) → sender < node_count sc → HasNoted sc n turn
    → HasNoted sc (n + 1) (pinged sc sender number turn)
unfolding pinged
noted_pinged sc n sender number turn at h =
    noted_at_member sc n kind.Ping sender turn _ at h (noted_sent sc n kind.Pong sender _ turn at h)

noted_predecessor_weighed : (sc : Scenario) (n sender prdc : ℕ) (turn : Turn) → prdc < node_count sc → HasNoted sc n turn
    → HasNoted sc (n + 1) (predecessor_weighed sc sender prdc turn)
noted_predecessor_weighed sc n sender prdc turn at h =
    noted_if sc (n + 1) (between sc.bits (ident_of sc prdc) (ident_of sc sender) (ident_of sc turn.state.me)) _ _ (one_more sc n h)
    (noted_if sc (n + 1) (not (sender == prdc) && not (has_ping_call turn.state)) _ turn
    (noted_called sc n prdc request.Ping (purpose.Ping sender) turn at h) (one_more sc n h))

noted_notifier_met : (sc : Scenario) (n sender : ℕ) (o : Option ℕ) (turn : Turn) → IfSome o (λ node. node < node_count sc) → HasNoted sc n turn
    → HasNoted sc (n + 1) (notifier_met sc sender o turn)
noted_notifier_met sc n sender None turn known h = one_more sc n h
noted_notifier_met sc n sender (Some prdc) turn known h = noted_predecessor_weighed sc n sender prdc turn known h

noted_notified : (sc : Scenario) (n sender : ℕ) (turn : Turn) → sender < node_count sc → KnowsNodes sc turn.state → HasNoted sc n turn
    → HasNoted sc (n + 1) (notified sc sender turn)
unfolding notified
noted_notified sc n sender turn at knows h =
    noted_at_member sc n kind.Notify sender turn _ at h
    (noted_notifier_met sc n sender turn.state.prdc turn knows.prdc_known h)

noted_leave_heard : (sc : Scenario) (n sender : ℕ) (prdc : Option ℕ) (list : List ℕ) (turn : Turn) → sender < node_count sc
    → IfSome prdc (λ node. node < node_count sc) → AllNodes sc list → KnowsNodes sc turn.state → HasNoted sc n turn
    → HasNoted sc (n + 1 + 1 + 1) (leave_heard sc sender prdc list turn)
unfolding leave_heard
noted_leave_heard sc n sender prdc list turn at of_gone all knows h =
    let mid : Turn = with_heirs sc sender prdc list turn in
    noted_at_member sc (n + 1 + 1) kind.Leave sender turn _ at (two_more sc n h)
    (noted_dropped sc n sender (λ t. t) mid
    (record {
      own = knows.own;
      via_known = knows.via_known;
      prdc_known = inherited_known sc sender prdc turn.state.prdc of_gone knows.prdc_known;
      succ_known = mended_known sc sender list turn.state.succ at all knows.succ_known;
      fingers_known = knows.fingers_known;
      bootstraps = knows.bootstraps;
    })
    h (λ succ fingers lines of_list of_fingers notes. two_more sc (n + 1) notes))

-- Replies

noted_replied : (sc : Scenario) (n : ℕ) (k : MessageKind) (sender : ℕ) (step : Call → Turn → Turn) (o : Option Call) (turn : Turn)
    → sender < node_count sc → IfSome o (IsCall sc) → HasNoted sc n turn
    → ((call : Call) → IsCall sc call → HasNoted sc (n + 1) (step call (without_call call.number turn))) → HasNoted sc (n + 1) (replied k sender step o turn)
noted_replied sc n k sender step None turn at out h noted =
    noted_if sc (n + 1) (is_down turn.state) _ _
    (noted_line sc n (line.Drop k sender) turn (one_node sc sender at) h)
    (noted_line sc n (line.Late k sender) turn (one_node sc sender at) h)
noted_replied sc n k sender step (Some call) turn at out h noted = noted call out

-- the call that a reply belongs to is of a node of the scenario
call_answered : (sc : Scenario) (k : MessageKind) (number : ℕ) (s : NodeState) → IsNodeState sc s → IfSome (answered_call k number s) (IsCall sc)
call_answered sc k number s is = IfSome-answered_call (IsCall sc) k number s is.calls.each

noted_join_asked : (sc : Scenario) (n next : ℕ) (attempt : Attempt) (turn : Turn) → next < node_count sc → KnowsNodes sc turn.state
    → HasNoted sc n turn → HasNoted sc (n + 1 + 1) (join_asked sc next attempt turn)
unfolding join_asked
noted_join_asked sc n next attempt turn at knows h =
    noted_if sc (n + 1 + 1) (nat_lt attempt.steps most_steps) _ _
    (one_more sc (n + 1) (noted_called sc n next (own_step sc attempt.avoid turn.state) purpose.JoinStep
    (with_attempt (record attempt { steps = attempt.steps + 1 }) turn) at h))
    (noted_join_failed sc n attempt turn knows h)

noted_join_followed : (sc : Scenario) (n to : ℕ) (a : Answer) (attempt : Attempt) (turn : Turn) → to < node_count sc → NamesNode sc a
    → KnowsNodes sc turn.state → HasNoted sc n turn → HasNoted sc (n + 1 + 1) (join_followed sc to a attempt turn)
unfolding join_followed
noted_join_followed sc n to (answer.Owner owner) attempt turn at names knows h =
    one_more sc (n + 1) (noted_called sc n to request.GetList purpose.JoinList (with_attempt attempt turn) at h)
noted_join_followed sc n to (answer.Next next) attempt turn at names knows h = noted_join_asked sc n next attempt turn names knows h
noted_join_followed sc n to answer.Stuck attempt turn at names knows h = noted_join_failed sc n attempt turn knows h

noted_join_answered : (sc : Scenario) (n to : ℕ) (a : Answer) (turn : Turn) → to < node_count sc → NamesNode sc a → KnowsNodes sc turn.state
    → HasNoted sc n turn → HasNoted sc (n + 1 + 1) (join_answered sc to a turn)
unfolding join_answered
noted_join_answered sc n to a turn at names knows h =
    noted_for_attempt sc n (λ attempt. join_followed sc to a (heard attempt)) turn
    (λ attempt. noted_join_followed sc n to a (heard attempt) (without_attempt turn) at names knows h) h

noted_lookup_answered : (sc : Scenario) (n from : ℕ) (a : Answer) (place : ℕ) (lookup : Lookup) (turn : Turn) → from < node_count sc → NamesNode sc a
    → HasLast sc lookup → KnowsNodes sc turn.state → HasNoted sc n turn → HasNoted sc (n + 1 + 1) (lookup_answered sc from a place lookup turn)
unfolding lookup_answered
noted_lookup_answered sc n from a place lookup turn at names last knows h =
    noted_if sc (n + 1 + 1) (sc.rules.goes_on && is_stuck a) _ _
    (noted_lookup_diverted sc n from place (arrived sc from a lookup) turn
    (arrived_last sc (sc.rules.goes_on && not (is_stuck a)) from lookup.last at last) knows h)
    (noted_lookup_followed sc n place (arrived sc from a lookup) a turn names h)

noted_owner_answered : (sc : Scenario) (n owner : ℕ) (prdc : Option ℕ) (place : ℕ) (lookup : Lookup) (turn : Turn) → owner < node_count sc
    → IfSome prdc (λ node. node < node_count sc) → HasNoted sc n turn → HasNoted sc (n + 1 + 1) (owner_answered sc owner prdc place lookup turn)
unfolding owner_answered
noted_owner_answered sc n owner None place lookup turn at known h = one_more sc (n + 1) (noted_lookup_finished sc n lookup owner turn at h)
noted_owner_answered sc n owner (Some prdc) place lookup turn at known h =
    noted_if sc (n + 1 + 1) (is_handed_over sc lookup owner prdc) _ _
    (noted_lookup_asked sc n place lookup prdc purpose.Owner turn known h)
    (one_more sc (n + 1) (noted_lookup_finished sc n lookup owner turn at h))

noted_answered_for : (sc : Scenario) (n : ℕ) (a : Answer) (call : Call) (wanted : Purpose) (turn : Turn) → call.to < node_count sc → NamesNode sc a
    → All (HasLast sc) turn.state.lookups → KnowsNodes sc turn.state → HasNoted sc n turn → HasNoted sc (n + 1 + 1) (answered_for sc a call wanted turn)
noted_answered_for sc n a call purpose.Lookup turn at names lasts knows h =
    noted_with_lookup sc (HasLast sc) n call.number (lookup_answered sc call.to a) turn
    (λ place lookup last g. noted_lookup_answered sc n call.to a place lookup (without_lookup place turn) at names last knows g) lasts h
noted_answered_for sc n a call purpose.JoinStep turn at names lasts knows h =
    noted_join_answered sc n call.to a turn at names knows h
noted_answered_for sc n a call _ turn at names lasts knows h = two_more sc n h

noted_step_replied : (sc : Scenario) (n sender number : ℕ) (a : Answer) (turn : Turn) → sender < node_count sc → NamesNode sc a
    → IsNodeState sc turn.state → KnowsNodes sc turn.state → HasNoted sc n turn → HasNoted sc (n + 1 + 1) (step_replied sc sender number a turn)
unfolding step_replied
noted_step_replied sc n sender number a turn at names is knows h =
    noted_replied sc (n + 1) kind.StepReply sender (λ call. answered_for sc a call call.purpose) (answered_call kind.StepReply number turn.state) turn
    at (call_answered sc kind.StepReply number turn.state is)
    (one_more sc n h)
    (λ call out. noted_answered_for sc n a call call.purpose (without_call call.number turn) out.to names (lasts_known sc turn.state is) knows h)

-- a node that takes the successors of another knows the scenario's nodes
knows_successors_taken : (sc : Scenario) (to : ℕ) (list : List ℕ) (turn : Turn) → to < node_count sc → AllNodes sc list → KnowsNodes sc turn.state
    → KnowsNodes sc (successors_taken sc to list turn).state
knows_successors_taken sc to list turn at all knows =
    record {
      own = knows.own;
      via_known = knows.via_known;
      prdc_known = knows.prdc_known;
      succ_known = All-take (λ node. node < node_count sc) sc.list (to ∷ list) (All-cons (λ node. node < node_count sc) to list at all);
      fingers_known = knows.fingers_known;
      bootstraps = knows.bootstraps;
    }

noted_predecessor_told : (sc : Scenario) (n prdc : ℕ) (list : List ℕ) (call : Call) (turn : Turn) → prdc < node_count sc → AllNodes sc list
    → call.to < node_count sc → KnowsNodes sc turn.state → HasNoted sc n turn → HasNoted sc (n + 1) (predecessor_told sc prdc list call turn)
unfolding predecessor_told
noted_predecessor_told sc n prdc list call turn at all to_known knows h =
    let taken : Turn = successors_taken sc call.to list turn in
    noted_if sc (n + 1) (between sc.bits (ident_of sc turn.state.me) (ident_of sc prdc) (ident_of sc call.to)) _ _
    (noted_called sc n prdc request.GetList purpose.List taken at h)
    (noted_head_notified sc n taken (knows_successors_taken sc call.to list turn to_known all knows) h)

noted_state_answered : (sc : Scenario) (n : ℕ) (prdc : Option ℕ) (list : List ℕ) (call : Call) (turn : Turn)
    → IfSome prdc (λ node. node < node_count sc) → AllNodes sc list → call.to < node_count sc → KnowsNodes sc turn.state → HasNoted sc n turn
    → HasNoted sc (n + 1) (state_answered sc prdc list call turn)
unfolding state_answered
noted_state_answered sc n None list call turn at all to_known knows h =
    noted_head_notified sc n (successors_taken sc call.to list turn) (knows_successors_taken sc call.to list turn to_known all knows) h
noted_state_answered sc n (Some prdc) list call turn at all to_known knows h = noted_predecessor_told sc n prdc list call turn at all to_known knows h

-- the first successor of a joining node has replied
noted_head_met : (sc : Scenario) (n behind : ℕ) (prdc : Option ℕ) (list : List ℕ) (call : Call) (turn : Turn)
    → IfSome prdc (λ node. node < node_count sc) → AllNodes sc list → call.to < node_count sc → behind < node_count sc → KnowsNodes sc turn.state
    → HasNoted sc n turn → HasNoted sc (n + 1 + 1) (head_met sc behind prdc list call turn)
unfolding head_met
noted_head_met sc n behind prdc list call turn at all to_known behind_known knows h =
    let Known : ℕ → Type 0 = λ node. node < node_count sc in
    noted_state_answered sc (n + 1) prdc list call (joined sc behind call.to (call.to ∷ []) turn) at all to_known
    (record {
      own = knows.own;
      via_known = knows.via_known;
      prdc_known = behind_known;
      succ_known = All-take Known sc.list (call.to ∷ []) (All-cons Known call.to [] to_known (none_of Known));
      fingers_known = All-replicate Known (sc.bits - 1) call.to to_known;
      bootstraps = knows.bootstraps;
    })
    (noted_line sc n (line.Member behind) turn (one_node sc behind behind_known) h)

noted_state_answered_for : (sc : Scenario) (n : ℕ) (prdc : Option ℕ) (list : List ℕ) (call : Call) (wanted : Purpose) (turn : Turn)
    → IfSome prdc (λ node. node < node_count sc) → AllNodes sc list → call.to < node_count sc → NamesKnown sc wanted → All (HasLast sc) turn.state.lookups
    → KnowsNodes sc turn.state → HasNoted sc n turn → HasNoted sc (n + 1 + 1) (state_answered_for sc prdc list call wanted turn)
noted_state_answered_for sc n prdc list call purpose.State turn at all to_known named lasts knows h =
    one_more sc (n + 1) (noted_state_answered sc n prdc list call turn at all to_known knows h)
noted_state_answered_for sc n prdc list call purpose.Owner turn at all to_known named lasts knows h =
    noted_with_lookup sc (HasLast sc) n call.number (owner_answered sc call.to prdc) turn
    (λ place lookup last g. noted_owner_answered sc n call.to prdc place lookup (without_lookup place turn) to_known at g) lasts h
noted_state_answered_for sc n prdc list call (purpose.JoinHead behind) turn at all to_known behind_known lasts knows h =
    noted_head_met sc n behind prdc list call turn at all to_known behind_known knows h
noted_state_answered_for sc n prdc list call _ turn at all to_known named lasts knows h = two_more sc n h

noted_state_replied : (sc : Scenario) (n sender number : ℕ) (prdc : Option ℕ) (list : List ℕ) (turn : Turn) → sender < node_count sc
    → IfSome prdc (λ node. node < node_count sc)
    → AllNodes sc list → IsNodeState sc turn.state → KnowsNodes sc turn.state → HasNoted sc n turn
    → HasNoted sc (n + 1 + 1) (state_replied sc sender number prdc list turn)
unfolding state_replied
noted_state_replied sc n sender number prdc list turn at prdc_known all is knows h =
    noted_replied sc (n + 1) kind.StateReply sender (λ call. state_answered_for sc prdc list call call.purpose) (answered_call kind.StateReply number turn.state) turn
    at (call_answered sc kind.StateReply number turn.state is) (one_more sc n h)
    (λ call out. noted_state_answered_for sc n prdc list call call.purpose (without_call call.number turn) prdc_known all out.to out.named
    (lasts_known sc turn.state is) knows h)

noted_list_answered : (sc : Scenario) (n to : ℕ) (list : List ℕ) (turn : Turn) → to < node_count sc → AllNodes sc list → KnowsNodes sc turn.state
    → HasNoted sc n turn → HasNoted sc (n + 1) (list_answered sc to list turn)
unfolding list_answered
noted_list_answered sc n to list turn at all knows h =
    noted_head_notified sc n (successors_taken sc to list turn) (knows_successors_taken sc to list turn at all knows) h

noted_place_found : (sc : Scenario) (n behind first : ℕ) (list : List ℕ) (attempt : Attempt) (turn : Turn) → behind < node_count sc → first < node_count sc
    → HasNoted sc n turn → HasNoted sc (n + 1) (place_found sc behind first list attempt turn)
unfolding place_found
noted_place_found sc n behind first list attempt turn at known h =
    noted_if sc (n + 1) _ _ _
    (noted_called sc n first request.GetState (purpose.JoinHead behind) (with_attempt attempt turn) known h)
    (noted_line sc n (line.Member behind) turn (one_node sc behind at) h)

noted_join_list_taken : (sc : Scenario) (n to : ℕ) (list : List ℕ) (attempt : Attempt) (turn : Turn) → to < node_count sc → AllNodes sc list → KnowsNodes sc turn.state
    → HasNoted sc n turn → HasNoted sc (n + 1 + 1) (join_list_taken sc to list attempt turn)
unfolding join_list_taken
noted_join_list_taken sc n to [] attempt turn at all knows h = noted_join_failed sc n attempt turn knows h
noted_join_list_taken sc n to (first ∷ rest) attempt turn at all knows h =
    noted_if sc (n + 1 + 1) (between sc.bits (ident_of sc to) (ident_of sc turn.state.me) (ident_of sc first)) _ _
    (one_more sc (n + 1) (noted_place_found sc n to first (first ∷ rest) attempt turn at (All-head (λ node. node < node_count sc) first rest all) h))
    (noted_join_failed sc n attempt turn knows h)

noted_join_list_answered : (sc : Scenario) (n to : ℕ) (list : List ℕ) (turn : Turn) → to < node_count sc → AllNodes sc list → KnowsNodes sc turn.state → HasNoted sc n turn
    → HasNoted sc (n + 1 + 1) (join_list_answered sc to list turn)
unfolding join_list_answered
noted_join_list_answered sc n to list turn at all knows h =
    noted_for_attempt sc n (λ attempt. join_list_taken sc to (cleaned sc turn.state.me to attempt.avoid list) (heard attempt)) turn
    (λ attempt. noted_join_list_taken sc n to (cleaned sc turn.state.me to attempt.avoid list) (heard attempt) (without_attempt turn) at
    (cleaned_known sc turn.state.me to attempt.avoid list at all) knows h)
    h

noted_list_answered_for : (sc : Scenario) (n : ℕ) (list : List ℕ) (to : ℕ) (wanted : Purpose) (turn : Turn) → to < node_count sc → AllNodes sc list
    → KnowsNodes sc turn.state → HasNoted sc n turn → HasNoted sc (n + 1 + 1) (list_answered_for sc list to wanted turn)
noted_list_answered_for sc n list to purpose.List turn at all knows h = one_more sc (n + 1) (noted_list_answered sc n to list turn at all knows h)
noted_list_answered_for sc n list to purpose.JoinList turn at all knows h = noted_join_list_answered sc n to list turn at all knows h
noted_list_answered_for sc n list to _ turn at all knows h = two_more sc n h

noted_list_replied : (sc : Scenario) (n sender number : ℕ) (list : List ℕ) (turn : Turn) → sender < node_count sc → AllNodes sc list
    → IsNodeState sc turn.state → KnowsNodes sc turn.state → HasNoted sc n turn → HasNoted sc (n + 1 + 1) (list_replied sc sender number list turn)
unfolding list_replied
noted_list_replied sc n sender number list turn at all is knows h =
    noted_replied sc (n + 1) kind.ListReply sender (λ call. list_answered_for sc list call.to call.purpose) (answered_call kind.ListReply number turn.state)
    turn at (call_answered sc kind.ListReply number turn.state is) (one_more sc n h)
    (λ call out. noted_list_answered_for sc n list call.to call.purpose (without_call call.number turn) out.to all knows h)

noted_ponged : (sc : Scenario) (n sender number : ℕ) (turn : Turn) → sender < node_count sc → IsNodeState sc turn.state → HasNoted sc n turn
    → HasNoted sc (n + 1) (ponged sender number turn)
unfolding ponged
noted_ponged sc n sender number turn at is h =
    noted_replied sc n kind.Pong sender (λ call. λ t. t) (answered_call kind.Pong number turn.state) turn
    at (call_answered sc kind.Pong number turn.state is) h
    (λ call out. one_more sc n h)

-- The whole table

noted_acted : (sc : Scenario) (n sender : ℕ) (message : Body) (turn : Turn) → sender < node_count sc → IsBody sc message → IsNodeState sc turn.state
    → KnowsNodes sc turn.state → HasNoted sc n turn → HasNoted sc (n + 1 + 1 + 1 + 1) (acted sc sender message turn)
noted_acted sc n sender (body.CmdJoin via) turn at names is knows h =
    one_more sc (n + 1 + 1 + 1) (one_more sc (n + 1 + 1) (noted_cmd_join sc n via turn names h))
noted_acted sc n sender body.CmdCrash turn at names is knows h =
    one_more sc (n + 1 + 1 + 1) (two_more sc (n + 1) (noted_cmd_crash sc n turn h))
noted_acted sc n sender body.CmdLeave turn at names is knows h =
    one_more sc (n + 1 + 1 + 1) (noted_cmd_leave sc n turn knows h)
noted_acted sc n sender (body.CmdLookup key) turn at names is knows h =
    one_more sc (n + 1 + 1 + 1) (noted_cmd_lookup sc n key turn knows h)
noted_acted sc n sender (body.StabilizeTick epoch) turn at names is knows h =
    one_more sc (n + 1 + 1 + 1) (two_more sc (n + 1) (noted_stabilize_tick sc n epoch turn knows h))
noted_acted sc n sender (body.FingerTick epoch) turn at names is knows h =
    one_more sc (n + 1 + 1 + 1) (one_more sc (n + 1 + 1) (noted_finger_tick sc n epoch turn knows h))
noted_acted sc n sender (body.TrafficTick epoch) turn at names is knows h =
    one_more sc (n + 1 + 1 + 1) (noted_traffic_tick sc n epoch turn knows h)
noted_acted sc n sender (body.LifeEnd epoch) turn at names is knows h =
    one_more sc (n + 1 + 1 + 1) (noted_life_end sc n epoch turn knows h)
noted_acted sc n sender (body.Rise epoch) turn at names is knows h =
    one_more sc (n + 1 + 1 + 1) (one_more sc (n + 1 + 1) (noted_rise sc n epoch turn knows.via_known h))
noted_acted sc n sender (body.CheckTick epoch) turn at names is knows h =
    one_more sc (n + 1 + 1 + 1) (two_more sc (n + 1) (noted_check_tick sc n epoch turn knows h))
noted_acted sc n sender (body.Rejoin epoch) turn at names is knows h =
    one_more sc (n + 1 + 1 + 1) (one_more sc (n + 1 + 1) (noted_rejoin sc n epoch turn knows h))
noted_acted sc n sender (body.Timeout number) turn at names is knows h = noted_timeout sc n number turn is knows h
noted_acted sc n sender (body.Step number key avoid) turn at names is knows h =
    one_more sc (n + 1 + 1 + 1) (two_more sc (n + 1) (noted_step_asked sc n sender number key avoid turn at h))
noted_acted sc n sender (body.GetState number) turn at names is knows h =
    one_more sc (n + 1 + 1 + 1) (two_more sc (n + 1) (noted_state_asked sc n sender number turn at h))
noted_acted sc n sender (body.GetList number) turn at names is knows h =
    one_more sc (n + 1 + 1 + 1) (two_more sc (n + 1) (noted_list_asked sc n sender number turn at h))
noted_acted sc n sender (body.Ping number) turn at names is knows h =
    one_more sc (n + 1 + 1 + 1) (two_more sc (n + 1) (noted_pinged sc n sender number turn at h))
noted_acted sc n sender body.Notify turn at names is knows h =
    one_more sc (n + 1 + 1 + 1) (two_more sc (n + 1) (noted_notified sc n sender turn at knows h))
noted_acted sc n sender (body.Leave prdc list) turn at names is knows h =
    one_more sc (n + 1 + 1 + 1) (noted_leave_heard sc n sender prdc list turn at names.0 names.1 knows h)
noted_acted sc n sender (body.StepReply number a) turn at names is knows h =
    one_more sc (n + 1 + 1 + 1) (one_more sc (n + 1 + 1) (noted_step_replied sc n sender number a turn at names is knows h))
noted_acted sc n sender (body.StateReply number prdc list) turn at names is knows h =
    one_more sc (n + 1 + 1 + 1) (one_more sc (n + 1 + 1) (noted_state_replied sc n sender number prdc list turn at names.0 names.1 is knows h))
noted_acted sc n sender (body.ListReply number list) turn at names is knows h =
    one_more sc (n + 1 + 1 + 1) (one_more sc (n + 1 + 1) (noted_list_replied sc n sender number list turn at names is knows h))
noted_acted sc n sender (body.Pong number) turn at names is knows h =
    one_more sc (n + 1 + 1 + 1) (two_more sc (n + 1) (noted_ponged sc n sender number turn at is h))

-- a state has at most 60 lookups of users and one of a finger
lookups_few : (sc : Scenario) (fingers : ℕ) (lookups : List Lookup) → AreLookups sc fingers lookups → length lookups ≤ 61
lookups_few sc fingers lookups h =
    omega (
      arith,
      h.users,
      h.finger,
      length-filter is_user lookups,
      length-filter (λ lookup. not (is_user lookup)) lookups,
      length-filter_both is_user (λ lookup. not (is_user lookup)) (λ _. refl) lookups,
    )

-- what an event leaves by the rules
noted_acts : (sc : Scenario) (s : NodeState) (e : Event Body) → IsInRange sc → IsNodeState sc s → IsSoundEvent sc e
    → HasNoted sc (61 + 1 + 1 + 1 + 1) (acted sc (e.key.origin - 2) e.body (opening s e))
noted_acts sc s e ranges h is =
    noted_acted sc 61 (e.key.origin - 2) e.body (opening s e) (omega (arith, is.origin, h.me)) is.body h
    (record {
      own = h.me;
      via_known = h.neighbours.via_known;
      prdc_known = h.neighbours.prdc_known;
      succ_known = h.neighbours.succ_known;
      fingers_known = h.neighbours.fingers_known;
      bootstraps = ranges.nodes.bootstraps;
    })
    (record { named = none_of (IsLineOf sc); few = omega (arith, lookups_few sc (length s.fingers) s.lookups h.lookups) })

noted_effect : (sc : Scenario) (s : NodeState) (e : Event Body) → IsInRange sc → IsNodeState sc s → IsSoundEvent sc e
    → HasDetail sc (61 + 1 + 1 + 1 + 1) (effect sc s e)
unfolding effect
noted_effect sc s e ranges h is =
    let turn : Turn = opening s e in
    let done : Turn = acted sc (e.key.origin - 2) e.body turn in
    let g : Grows sc most_made most_drawn turn done = grows_acted sc (e.key.origin - 2) e.body turn ranges in
    let few : length done.events ≤ most_made = omega (arith, ap length g.appended, g.at_most) in
    noted_detailed sc (61 + 1 + 1 + 1 + 1) done few (kept_acts sc s e ranges h is) (noted_acts sc s e ranges h is)

pub block_known : (sc : Scenario) (s : NodeState) (e : Event Body) → IsInRange sc → IsNodeState sc s → IsSoundEvent sc e → IsBlockOf sc (block_of sc s e)
block_known sc s e ranges h is = record { target = is.target; lines = (noted_effect sc s e ranges h is).named }

pub block_few : (sc : Scenario) (s : NodeState) (e : Event Body) → IsInRange sc → IsNodeState sc s → IsSoundEvent sc e
    → length (block_of sc s e).lines ≤ most_lines
block_few sc s e ranges h is = omega (arith, (noted_effect sc s e ranges h is).few)
