-- Each procedure of the rule table leaves lines of the scenario's nodes, and few of them.
use Rattle.std.proofs.Common.{◌==◌, ℕ, ◌+◌, ◌<◌, List, [], ◌∷◌, ◌++◌, Option, Some, None, ◌≡◌, ◌&&◌, refl, length, nat_lt, arith, length-append, ◌*◌}
use Rattle.std.proofs.lemmas.List.Elements.{All-append, All-cons}
use Rattle.std.specs.List.{All, count_by, filter_map}
use Rattle.std.specs.Prelude.{IfSome, position, slice_get}
use Rattle.chord_event.specs.declared.body.Answer.{Answer}
use Rattle.chord_event.specs.declared.body.Answer.TheVariants as answer
use Rattle.chord_event.specs.declared.body.Body.{Body}
use Rattle.chord_event.specs.declared.body.Body.TheVariants as body
use Rattle.chord_event.specs.declared.line.Line.TheVariants as line
use Rattle.chord_event.specs.declared.line.MessageKind.TheVariants as kind
use Rattle.chord_scenario.specs.declared.scenario.Scenario.{Scenario}
use Rattle.chord_scenario.specs.declared.setting.Span.{Span}
use Rattle.chord_scenario.specs.Start.{timer_table, traffic_timer, check_timer}
use Rattle.chord_node.specs.declared.state.Aim.{Aim}
use Rattle.chord_node.specs.declared.state.Aim.TheVariants as aim
use Rattle.chord_node.specs.declared.state.Attempt.{Attempt}
use Rattle.chord_node.specs.declared.state.Lookup.{Lookup}
use Rattle.chord_node.specs.declared.state.Purpose.{Purpose}
use Rattle.chord_node.specs.declared.state.Purpose.TheVariants as purpose
use Rattle.chord_node.specs.Invariant.{is_user}
use Rattle.chord_scenario.specs.Blocks.{IsLineOf}
use Rattle.chord_node.specs.Limits.{most_failures, most_lookup_steps, most_user_lookups}
use Rattle.chord_scenario.specs.World.{is_churn_node, node_count}
use Rattle.chord_ops.specs.declared.turn.Turn.{Turn}
use Rattle.chord_ops.specs.Procedures.{
  alone,
  armed,
  lookup_asked,
  lookup_begun,
  lookup_diverted,
  lookup_led,
  lookup_request,
  lookup_resumed,
  past,
  created,
  departed,
  gone_down,
  head_told,
  holds,
  told,
  lookup_failed,
  lookup_finished,
  lookup_finished_for,
  lookup_followed,
  for_attempt,
  fresh_lookup,
  fresh_attempt,
  is_founder,
  join_begun,
  join_ended,
  join_given_up,
  join_failed,
  join_paused,
  join_retried,
  row_armed,
  rows_armed,
  lost_line,
  other_via,
  own_step,
  rise_armed,
  risen,
  stranded,
  stranded_lines,
  via_moved,
  traffic_armed,
  came_up,
  user_lookup,
  lookup_walked,
  with_attempt,
  with_lookup,
  without_attempt,
  without_lookup,
  check_armed,
}
use Rattle.chord_ops.specs.Search.{NamesNode, step_answer}
use Rattle.chord_ops.specs.Turns.{called, noted, timer_made, when_some}
use Rattle.chord_ops.proofs.Growing.{known}
use Rattle.chord_ops.proofs.Found.{at_index_known}
use Rattle.chord_ops.proofs.Vias.{moved_known, other_known}
use Rattle.chord_ops.proofs.KeptTurns.{last_known, step_answer_names}
use Rattle.chord_ops.proofs.KeptRules.{first_known}
use Rattle.chord_ops.proofs.Noted.{
  HasNoted,
  KnowsNodes,
  all_lost,
  few_lost,
  knows_when_some,
  no_node,
  noted_called,
  noted_if,
  noted_line,
  noted_sent,
  noted_when_some,
  notes_cleared,
  notes_inserted,
  notes_lost,
  notes_removed,
  one_node,
  one_more,
  two_more,
}

-- Timers

noted_row_armed : (sc : Scenario) (n : ℕ) (row : Option (Span × Body)) (turn : Turn) → HasNoted sc n turn → HasNoted sc n (row_armed sc row turn)
unfolding timer_made
noted_row_armed sc n row turn h = noted_when_some sc n (λ _. Unit {0}) row _ turn (known row) h (λ timer _. h)

noted_rows_armed : (sc : Scenario) (n : ℕ) (rows : List (Option (Span × Body))) (turn : Turn) → HasNoted sc n turn → HasNoted sc n (rows_armed sc rows turn)
noted_rows_armed sc n [] turn h = h
noted_rows_armed sc n (row ∷ rows) turn h = noted_rows_armed sc n rows (row_armed sc row turn) (noted_row_armed sc n row turn h)

pub noted_traffic_armed : (sc : Scenario) (n : ℕ) (turn : Turn) → HasNoted sc n turn → HasNoted sc n (traffic_armed sc turn)
unfolding traffic_armed
noted_traffic_armed sc n turn h = noted_row_armed sc n (traffic_timer sc turn.state.epoch) turn h

pub knows_traffic_armed : (sc : Scenario) (turn : Turn) → KnowsNodes sc turn.state → KnowsNodes sc (traffic_armed sc turn).state
unfolding traffic_armed timer_made
knows_traffic_armed sc turn h = knows_when_some sc (traffic_timer sc turn.state.epoch) _ turn h (λ timer. h)

pub noted_check_armed : (sc : Scenario) (n : ℕ) (turn : Turn) → HasNoted sc n turn → HasNoted sc n (check_armed sc turn)
unfolding check_armed
noted_check_armed sc n turn h = noted_row_armed sc n (check_timer sc turn.state.epoch) turn h

pub knows_check_armed : (sc : Scenario) (turn : Turn) → KnowsNodes sc turn.state → KnowsNodes sc (check_armed sc turn).state
unfolding check_armed timer_made
knows_check_armed sc turn h = knows_when_some sc (check_timer sc turn.state.epoch) _ turn h (λ timer. h)

pub noted_rise_armed : (sc : Scenario) (n : ℕ) (turn : Turn) → HasNoted sc n turn → HasNoted sc n (rise_armed sc turn)
unfolding rise_armed timer_made
noted_rise_armed sc n turn h =
    noted_if sc n (is_churn_node sc turn.state.me) _ turn
    (noted_when_some sc n (λ _. Unit {0}) sc.churn _ turn (known sc.churn) h (λ churn _. h)) h

noted_armed : (sc : Scenario) (n : ℕ) (turn : Turn) → HasNoted sc n turn → HasNoted sc n (armed sc turn)
unfolding armed
noted_armed sc n turn h = noted_rows_armed sc n (timer_table sc turn.state.me turn.state.epoch) turn h

-- Lookups

pub noted_lookup_failed : (sc : Scenario) (n : ℕ) (lookup : Lookup) (turn : Turn) → HasNoted sc n turn → HasNoted sc (n + 1) (lookup_failed lookup turn)
unfolding lookup_failed
noted_lookup_failed sc n lookup turn h = notes_lost sc n turn.time lookup turn.lines turn.state.lookups h

noted_lookup_finished_for : (sc : Scenario) (n : ℕ) (wanted : Aim) (lookup : Lookup) (owner : ℕ) (turn : Turn) → owner < node_count sc → HasNoted sc n turn
    → HasNoted sc (n + 1) (lookup_finished_for wanted lookup owner turn)
noted_lookup_finished_for sc n aim.User lookup owner turn at h = noted_line sc n _ turn (one_node sc owner at) h
noted_lookup_finished_for sc n (aim.Finger index) lookup owner turn at h = one_more sc n h

pub noted_lookup_finished : (sc : Scenario) (n : ℕ) (lookup : Lookup) (owner : ℕ) (turn : Turn) → owner < node_count sc → HasNoted sc n turn
    → HasNoted sc (n + 1) (lookup_finished lookup owner turn)
unfolding lookup_finished
noted_lookup_finished sc n lookup owner turn at h = noted_lookup_finished_for sc n lookup.aim lookup owner turn at h

pub noted_lookup_asked : (sc : Scenario) (n place : ℕ) (lookup : Lookup) (to : ℕ) (wanted : Purpose) (turn : Turn) → to < node_count sc → HasNoted sc n turn
    → HasNoted sc (n + 1 + 1) (lookup_asked sc place lookup to wanted turn)
unfolding lookup_asked
noted_lookup_asked sc n place lookup to wanted turn at h =
    let out : Turn = called sc to (lookup_request wanted lookup) wanted turn in
    noted_if sc (n + 1 + 1) (nat_lt lookup.steps (most_lookup_steps sc)) _ (lookup_failed lookup turn)
    (notes_inserted sc (n + 1) out.lines out.state.lookups place _
    (noted_called sc n to (lookup_request wanted lookup) wanted turn at h))
    (one_more sc (n + 1) (noted_lookup_failed sc n lookup turn h))

noted_lookup_led : (sc : Scenario) (n place : ℕ) (lookup : Lookup) (owner : ℕ) (turn : Turn) → owner < node_count sc → HasNoted sc n turn
    → HasNoted sc (n + 1 + 1) (lookup_led sc place lookup owner turn)
unfolding lookup_led
noted_lookup_led sc n place lookup owner turn at h =
    noted_if sc (n + 1 + 1) (sc.rules.ask_owner && is_user lookup) _ _
    (noted_lookup_asked sc n place lookup owner purpose.Owner turn at h)
    (one_more sc (n + 1) (noted_lookup_finished sc n lookup owner turn at h))

pub noted_lookup_followed : (sc : Scenario) (n place : ℕ) (lookup : Lookup) (a : Answer) (turn : Turn) → NamesNode sc a → HasNoted sc n turn
    → HasNoted sc (n + 1 + 1) (lookup_followed sc place lookup a turn)
unfolding lookup_followed
noted_lookup_followed sc n place lookup (answer.Owner owner) turn at h = noted_lookup_led sc n place lookup owner turn at h
noted_lookup_followed sc n place lookup (answer.Next next) turn at h = noted_lookup_asked sc n place lookup next purpose.Lookup turn at h
noted_lookup_followed sc n place lookup answer.Stuck turn at h = one_more sc (n + 1) (noted_lookup_failed sc n lookup turn h)

pub noted_lookup_walked : (sc : Scenario) (n place : ℕ) (lookup : Lookup) (turn : Turn) → KnowsNodes sc turn.state → HasNoted sc n turn
    → HasNoted sc (n + 1 + 1) (lookup_walked sc place lookup turn)
unfolding lookup_walked
noted_lookup_walked sc n place lookup turn knows h =
    noted_lookup_followed sc n place lookup (step_answer sc turn.state lookup.key lookup.avoid) turn
    (step_answer_names sc turn.state lookup.key lookup.avoid knows.own knows.succ_known knows.fingers_known) h

noted_lookup_resumed : (sc : Scenario) (n place : ℕ) (lookup : Lookup) (o : Option ℕ) (turn : Turn) → IfSome o (λ x. x < node_count sc)
    → KnowsNodes sc turn.state → HasNoted sc n turn → HasNoted sc (n + 1 + 1) (lookup_resumed sc place lookup o turn)
noted_lookup_resumed sc n place lookup None turn known knows h = noted_lookup_walked sc n place lookup turn knows h
noted_lookup_resumed sc n place lookup (Some last) turn known knows h = noted_lookup_asked sc n place lookup last purpose.Lookup turn known h

pub noted_lookup_diverted : (sc : Scenario) (n node place : ℕ) (lookup : Lookup) (turn : Turn) → IfSome lookup.last (λ x. x < node_count sc)
    → KnowsNodes sc turn.state → HasNoted sc n turn → HasNoted sc (n + 1 + 1) (lookup_diverted sc node place lookup turn)
unfolding lookup_diverted
noted_lookup_diverted sc n node place lookup turn known knows h =
    noted_if sc (n + 1 + 1) (nat_lt (length lookup.avoid) sc.rules.lookup_timeouts) _ _
    (noted_lookup_resumed sc n place (past node lookup) (past node lookup).last turn (last_known sc lookup.last node known) knows h)
    (one_more sc (n + 1) (noted_lookup_failed sc n lookup turn h))

pub noted_lookup_begun : (sc : Scenario) (n key : ℕ) (wanted : Aim) (turn : Turn) → KnowsNodes sc turn.state → HasNoted sc n turn
    → HasNoted sc (n + 1 + 1) (lookup_begun sc key wanted turn)
unfolding lookup_begun
noted_lookup_begun sc n key wanted turn knows h =
    noted_lookup_walked sc n (length turn.state.lookups) (fresh_lookup key wanted turn.time) turn knows h

pub noted_user_lookup : (sc : Scenario) (n key : ℕ) (turn : Turn) → KnowsNodes sc turn.state → HasNoted sc n turn
    → HasNoted sc (n + 1 + 1 + 1) (user_lookup sc key turn)
unfolding user_lookup
noted_user_lookup sc n key turn knows h =
    noted_if sc (n + 1 + 1 + 1) (nat_lt (count_by is_user turn.state.lookups) most_user_lookups) _ _
    (noted_lookup_begun sc (n + 1) key aim.User (noted (line.Lookup key) turn) knows
    (noted_line sc n (line.Lookup key) turn (no_node sc) h))
    (two_more sc (n + 1) (noted_line sc n (line.Busy key) turn (no_node sc) h))

-- what holds of each element holds of the one at a place, if there is one
at_place_known : {A : Type 0} (P : A → Type 0) (xs : List A) (place : ℕ) → All P xs → IfSome (slice_get xs place) P
at_place_known {A} P xs place all = by (slice_get xs place) refl
  where
    by : (o : Option A) → slice_get xs place ≡ o → IfSome o P
    by None at = tt
    by (Some x) at = at_index_known P xs place x all at

-- the step with the lookup of a call, which was taken out
pub noted_with_lookup : (sc : Scenario) (P : Lookup → Type 0) (n number : ℕ) (step : ℕ → Lookup → Turn → Turn) (turn : Turn)
    → ((place : ℕ) (lookup : Lookup) → P lookup → HasNoted sc n (without_lookup place turn)
    → HasNoted sc (n + 1 + 1) (step place lookup (without_lookup place turn))) → All P turn.state.lookups → HasNoted sc n turn
    → HasNoted sc (n + 1 + 1) (with_lookup number step turn)
unfolding with_lookup
noted_with_lookup sc P n number step turn noted all h =
    let still : HasNoted sc (n + 1 + 1) turn = two_more sc n h in
    noted_when_some sc (n + 1 + 1) (λ _. Unit {0}) (position (λ (lookup : Lookup). lookup.call == number) turn.state.lookups) _ turn (known _) still
    (λ place _. noted_when_some sc (n + 1 + 1) P (slice_get turn.state.lookups place) _ turn (at_place_known P turn.state.lookups place all) still
    (λ lookup is. noted place lookup is (notes_removed sc n turn.lines turn.state.lookups place h)))

-- Joins

-- a ring of one leaves a line
noted_created : (sc : Scenario) (n : ℕ) (turn : Turn) → HasNoted sc n turn → HasNoted sc (n + 1) (created sc turn)
unfolding created
noted_created sc n turn h = noted_line sc n line.Create turn (no_node sc) h

noted_join_begun : (sc : Scenario) (n : ℕ) (avoid : List ℕ) (via : ℕ) (turn : Turn) → via < node_count sc → HasNoted sc n turn
    → HasNoted sc (n + 1) (join_begun sc avoid via turn)
unfolding join_begun
noted_join_begun sc n avoid via turn at h =
    noted_if sc (n + 1) (via == turn.state.me) _ _
    (noted_created sc n turn h)
    (noted_called sc n via (own_step sc avoid turn.state) purpose.JoinStep turn at h)

pub noted_came_up : (sc : Scenario) (n via : ℕ) (turn : Turn) → via < node_count sc → HasNoted sc n turn → HasNoted sc (n + 1 + 1) (came_up sc via turn)
unfolding came_up
noted_came_up sc n via turn at h =
    let up : Turn = record (noted (line.Join via) turn) { state = risen via turn.state } in
    noted_join_begun sc (n + 1) [] via (armed sc up) at
    (noted_armed sc (n + 1) up (noted_line sc n (line.Join via) turn (one_node sc via at) h))

pub noted_gone_down : (sc : Scenario) (n : ℕ) (turn : Turn) → HasNoted sc n turn → HasNoted sc n (gone_down sc turn)
noted_gone_down sc n turn h = notes_cleared sc n turn.lines turn.state.lookups h

pub noted_join_retried : (sc : Scenario) (n : ℕ) (attempt : Attempt) (turn : Turn) → KnowsNodes sc turn.state → HasNoted sc n turn
    → HasNoted sc (n + 1) (join_retried sc attempt turn)
unfolding join_retried
noted_join_retried sc n attempt turn knows h =
    let kept : Turn = with_attempt (record attempt { steps = 0 }) turn in
    noted_when_some sc (n + 1) (λ via. via < node_count sc) turn.state.via _ kept knows.via_known (one_more sc n h)
    (λ via at. noted_join_begun sc n attempt.avoid via kept at h)

noted_join_paused : (sc : Scenario) (n pause : ℕ) (attempt : Attempt) (turn : Turn) → KnowsNodes sc turn.state → HasNoted sc n turn
    → HasNoted sc (n + 1) (join_paused sc pause attempt turn)
unfolding join_paused
noted_join_paused sc n pause attempt turn knows h =
    noted_if sc (n + 1) (pause == 0) _ _ (noted_join_retried sc n attempt turn knows h) (one_more sc n h)

noted_join_given_up : (sc : Scenario) (n : ℕ) (turn : Turn) → KnowsNodes sc turn.state → HasNoted sc n turn → HasNoted sc (n + 1) (join_given_up sc turn)
unfolding join_given_up
noted_join_given_up sc n turn knows h =
    noted_if sc (n + 1) sc.join_forever _ _
    (noted_join_paused sc n ((most_failures + 1) * sc.join_pause) fresh_attempt turn knows h)
    (one_more sc n (noted_rise_armed sc n (gone_down sc turn) (noted_gone_down sc n turn h)))

noted_join_ended : (sc : Scenario) (n : ℕ) (attempt : Attempt) (turn : Turn) → KnowsNodes sc turn.state → HasNoted sc n turn
    → HasNoted sc (n + 1 + 1) (join_ended sc attempt turn)
unfolding join_ended
noted_join_ended sc n attempt turn knows h =
    let ended : HasNoted sc (n + 1) (noted line.JoinFailed turn) = noted_line sc n line.JoinFailed turn (no_node sc) h in
    noted_if sc (n + 1 + 1) (is_founder sc turn.state.me attempt) _ _
    (noted_created sc (n + 1) (noted line.JoinFailed turn) ended)
    (noted_join_given_up sc (n + 1) (noted line.JoinFailed turn) knows ended)

pub noted_join_failed : (sc : Scenario) (n : ℕ) (attempt : Attempt) (turn : Turn) → KnowsNodes sc turn.state → HasNoted sc n turn
    → HasNoted sc (n + 1 + 1) (join_failed sc attempt turn)
unfolding join_failed
noted_join_failed sc n attempt turn knows h =
    let moved : KnowsNodes sc (via_moved sc turn).state = record {
      own = knows.own;
      via_known = moved_known sc knows.bootstraps turn.state.me turn.state.via knows.via_known;
      prdc_known = knows.prdc_known;
      succ_known = knows.succ_known;
      fingers_known = knows.fingers_known;
      bootstraps = knows.bootstraps;
    } in
    noted_if sc (n + 1 + 1) (nat_lt attempt.failures most_failures) _ _
    (one_more sc (n + 1) (noted_join_paused sc n sc.join_pause (record attempt { failures = attempt.failures + 1 }) (via_moved sc turn) moved h))
    (noted_join_ended sc n attempt (via_moved sc turn) moved h)

-- the step with the attempt to join, which was taken out
pub noted_for_attempt : (sc : Scenario) (n : ℕ) (step : Attempt → Turn → Turn) (turn : Turn)
    → ((attempt : Attempt) → HasNoted sc (n + 1 + 1) (step attempt (without_attempt turn))) → HasNoted sc n turn
    → HasNoted sc (n + 1 + 1) (for_attempt step turn)
unfolding for_attempt
noted_for_attempt sc n step turn noted h =
    noted_when_some sc (n + 1 + 1) (λ _. Unit {0}) turn.state.join _ turn (known turn.state.join)
    (two_more sc n h) (λ attempt _. noted attempt)

-- each abandoned lookup leaves its line
pub noted_stranded : (sc : Scenario) (n via : ℕ) (turn : Turn) → via < node_count sc → KnowsNodes sc turn.state → HasNoted sc n turn
    → HasNoted sc (n + 1 + 1) (stranded sc via turn)
unfolding stranded
noted_stranded sc n via turn at knows h =
    let next : ℕ = other_via sc turn.state.me via in
    let known : next < node_count sc = other_known sc knows.bootstraps turn.state.me via at in
    let left : Turn = record turn { state = alone next turn.state; lines = turn.lines ++ stranded_lines next turn.time turn.state.lookups } in
    noted_join_begun sc (n + 1) [] next left known
    (record {
      named =
          All-append (IsLineOf sc) turn.lines _ h.named
          (All-cons (IsLineOf sc) (line.Stranded next) (filter_map (lost_line turn.time) turn.state.lookups)
          (one_node sc next known) (all_lost sc turn.time turn.state.lookups));
      few =
          omega (
            arith,
            h.few,
            length-append turn.lines (line.Stranded next ∷ filter_map (lost_line turn.time) turn.state.lookups),
            few_lost turn.time turn.state.lookups,
          );
    })

-- Leaves

noted_told : (sc : Scenario) (n to : ℕ) (turn : Turn) → to < node_count sc → HasNoted sc n turn → HasNoted sc (n + 1) (told sc to turn)
noted_told sc n to turn at h =
    noted_if sc (n + 1) (to == turn.state.me) turn _ (one_more sc n h)
    (noted_sent sc n kind.Leave to (body.Leave turn.state.prdc turn.state.succ) turn at h)

noted_head_told : (sc : Scenario) (n to : ℕ) (turn : Turn) → to < node_count sc → HasNoted sc n turn → HasNoted sc (n + 1) (head_told sc to turn)
noted_head_told sc n to turn at h = noted_if sc (n + 1) (holds turn.state.prdc to) turn _ (one_more sc n h) (noted_told sc n to turn at h)

pub noted_departed : (sc : Scenario) (n : ℕ) (turn : Turn) → KnowsNodes sc turn.state → HasNoted sc n turn → HasNoted sc (n + 1 + 1 + 1) (departed sc turn)
unfolding departed
noted_departed sc n turn knows h =
    let leaving : Turn = noted line.Leave turn in
    let one : Turn = when_some turn.state.prdc (told sc) leaving in
    let left : HasNoted sc (n + 1) leaving = noted_line sc n line.Leave turn (no_node sc) h in
    let told_one : HasNoted sc (n + 1 + 1) one = noted_when_some sc (n + 1 + 1) (λ node. node < node_count sc) turn.state.prdc (told sc) leaving
    knows.prdc_known (one_more sc (n + 1) left) (λ prdc at. noted_told sc (n + 1) prdc leaving at left) in
    noted_gone_down sc (n + 1 + 1 + 1) (when_some (slice_get turn.state.succ 0) (head_told sc) one)
    (noted_when_some sc (n + 1 + 1 + 1) (λ node. node < node_count sc) (slice_get turn.state.succ 0) (head_told sc) one
    (first_known sc turn.state.succ knows.succ_known) (one_more sc (n + 1 + 1) told_one)
    (λ first at. noted_head_told sc (n + 1 + 1) first one at told_one))
