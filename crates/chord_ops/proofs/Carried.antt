-- What is carried through an event: a fact about the lines, the lookups and the calls of a node that each of the steps below keeps holds at the end.
use Rattle.std.proofs.Common.{◌≡◌, ◌==◌, ◌*◌, ℕ, ◌+◌, ◌-◌, ◌<◌, ◌&&◌, ◌||◌, not, Bool, true, false, cond, List, [], ◌∷◌, ◌++◌, get_or, length, map, max, nat_lt, Option, Some, None, refl, sym, ◌∙◌, ap, subst, arith}
use Rattle.std.proofs.lemmas.Option.{get_or_from_slice_get}
use Rattle.std.proofs.lemmas.List.Quantifiers.{position-Some}
use Rattle.std.proofs.lemmas.List.Sums.{sum_by-cons}
use Rattle.std.proofs.lemmas.List.Elements.{All-push}
use Rattle.std.specs.List.{All, AllByRecursion, cons_option, count_by, filter, find, insert, remove}
use Rattle.std.specs.Prelude.{IfSome, IsSome, is_some, option_and_then, option_map, option_to_list, position, slice_get, if◌then◌else◌}
use Rattle.chord_circle.specs.Circle.{between, finger_start}
use Rattle.chord_event.specs.declared.body.Answer.{Answer}
use Rattle.chord_event.specs.declared.body.Answer.TheVariants as answer
use Rattle.chord_event.specs.declared.body.Body.{Body}
use Rattle.chord_event.specs.declared.body.Body.TheVariants as body
use Rattle.des_event.specs.declared.event.Event.{Event}
use Rattle.chord_event.specs.declared.line.CommandKind.TheVariants as command
use Rattle.chord_event.specs.declared.line.MessageKind.{MessageKind}
use Rattle.chord_event.specs.declared.line.MessageKind.TheVariants as kind
use Rattle.chord_event.specs.declared.line.Line.{Line}
use Rattle.chord_event.specs.declared.line.Line.TheVariants as line
use Rattle.chord_scenario.specs.declared.scenario.Scenario.{Scenario}
use Rattle.chord_scenario.specs.declared.setting.Churn.{Churn}
use Rattle.chord_scenario.specs.declared.setting.Span.{Span}
use Rattle.chord_scenario.specs.Draws.{delay, leave_number}
use Rattle.chord_scenario.specs.Start.{jittered, check_timer, finger_timer, stabilize_timer, timer_table, traffic_timer}
use Rattle.chord_scenario.specs.World.{ident_of, is_churn_node}
use Rattle.chord_node.specs.declared.state.Aim.{Aim}
use Rattle.chord_node.specs.declared.state.Aim.TheVariants as aim
use Rattle.chord_node.specs.declared.state.Attempt.{Attempt}
use Rattle.chord_node.specs.declared.state.Call.{Call}
use Rattle.chord_node.specs.declared.state.Lookup.{Lookup}
use Rattle.chord_node.specs.declared.state.NodeState.{NodeState}
use Rattle.chord_node.specs.declared.state.Purpose.{Purpose}
use Rattle.chord_node.specs.declared.state.Purpose.TheVariants as purpose
use Rattle.chord_node.specs.declared.state.Status.{Status}
use Rattle.chord_node.specs.declared.state.Status.TheVariants as status
use Rattle.chord_node.specs.Invariant.{IsNodeState, is_for_join, is_user}
use Rattle.chord_node.specs.Limits.{most_failures, most_lookup_steps, most_steps, most_user_lookups}
use Rattle.chord_ops.specs.Ends.{concerns}
use Rattle.chord_ops.specs.Accounts.{tells_begun, tells_found, tells_lost}
use Rattle.chord_ops.specs.Detail.{detailed, line_for, message_lines, request_line}
use Rattle.chord_ops.specs.declared.turn.Request.{Request}
use Rattle.chord_ops.specs.declared.turn.Request.TheVariants as request
use Rattle.chord_ops.specs.declared.turn.Turn.{Turn}
use Rattle.chord_ops.specs.Procedures.{armed, call_of, came_up, check_armed, created, departed, finger_armed, for_attempt, fresh_attempt, fresh_lookup, gone_down, head_told, holds, is_founder, join_begun, join_ended, join_failed, join_given_up, join_paused, join_retried, lookup_asked, lookup_begun, lookup_diverted, lookup_failed, lookup_finished, lookup_finished_for, lookup_followed, lookup_led, lookup_request, lookup_resumed, lookup_walked, lost_line, other_via, own_step, past, rise_armed, risen, row_armed, rows_armed, stabilize_armed, stranded, stranded_lines, taken_time, told, traffic_armed, user_lookup, via_moved, with_attempt, with_lookup, with_lookup_at, without_attempt, without_call, without_lookup}
use Rattle.chord_ops.specs.Rules.{acted, answered_call, answered_for, answers, arrived, asked_again, avoiding, call_given_up, call_over, call_repeated, call_timed_out, check_tick, check_timed_out, cleaned, cmd_crash, cmd_join, cmd_leave, cmd_lookup, crashed, dropped, dropped_by, effect, finger_after, finger_rotated, finger_tick, finger_turned, first_in_turn, has_finger_lookup, has_join_call, has_ping_call, has_repair_call, head, head_asked, head_met, head_notified, heard, is_down, is_handed_over, is_joining, is_joining_status, is_member, is_stuck, is_void, join_answered, join_asked, join_followed, join_list_answered, join_list_taken, join_timed_out, joined, key_words, leave_heard, life_end, life_over, list_after, list_answered, list_answered_for, list_asked, list_left, list_replied, lookup_answered, lookup_timed_out, near_covered, notified, notifier_met, once_more, opening, owner_answered, ping_timed_out, pinged, place_found, ponged, predecessor_told, random_key, random_lookup, rejoin, replied, request_again, rescue_lines, rescuer, rise, sent_once_more, stabilize_tick, state_answered, state_answered_for, state_asked, state_replied, state_timed_out, step_asked, step_replied, successors_taken, timed_out, timeout, traffic_tick, with_heirs, without_silent}
use Rattle.chord_ops.specs.Search.{step_answer}
use Rattle.chord_ops.specs.Turns.{after_words, body_of, called, kind_of, noted, sent, timer_made, when_some}
use Rattle.chord_ops.proofs.Kept.{count_by-push}
use Rattle.chord_ops.proofs.KeptRules.{not_false, or_false}
use Rattle.chord_ops.proofs.KeptJoins.{down_by, joins_by, purpose_of_found, same_armed}
use Rattle.chord_ops.proofs.KeptTable.{IsAnswered, answered_is, found_number, member_is}
use Rattle.chord_ops.proofs.Ongoing.{going_if, going_when, same_node}
use Rattle.chord_ops.specs.Timers.{is_timer}
use Rattle.chord_ops.specs.Timers.Timer.{Timeout}
use Rattle.chord_ops.proofs.Growing.{known}
use Rattle.chord_ops.proofs.OngoingJoins.{HasTickOf, IsTickOf, table_of_life}
use Rattle.chord_ops.proofs.TimerTable.{IfSome-map}
use Rattle.chord_ops.proofs.OngoingRules.{IsAsked, asked_by, request_known}
use Rattle.chord_ops.proofs.Sending.{asked_as, called_as, new_call, sent_as}

-- what a turn has to do with lookups
pub record Facts : Type 0 where
  pub time : ℕ
  pub lines : List Line
  pub lookups : List Lookup
  pub calls : List Call
  pub count : ℕ
  pub is : Status
  pub events : List (Event Body)

abbrev pub facts : Turn → Facts
facts turn = record {
  time = turn.time;
  lines = turn.lines;
  lookups = turn.state.lookups;
  calls = turn.state.calls;
  count = turn.state.count;
  is = turn.state.status;
  events = turn.events;
}

-- whether a line tells of a user's lookup that begins or ends
abbrev pub tells : Line → Bool
tells text = tells_begun text || tells_found text || tells_lost text

-- how many lines do
abbrev pub telling : List Line → ℕ
telling lines = count_by tells lines

abbrev pub is_timeout : Body → Bool
is_timeout (body.Timeout n) = true
is_timeout _ = false

-- each timeout comes when its call has waited as long as the scenario says
abbrev pub IsTimely : Scenario → (time : ℕ) → Event Body → Type 0
IsTimely sc time x = is_timeout x.body ≡ true → x.key.time ≡ time + sc.timeout

abbrev pub AreTimely : Scenario → (time : ℕ) → List (Event Body) → Type 0
AreTimely sc time events = All (IsTimely sc time) events

-- a lookup for the same, that has gone as far
pub record IsSame (old new : Lookup) : Type 0 where
  pub key : new.key ≡ old.key
  pub aim : new.aim ≡ old.aim
  pub started : new.started ≡ old.started
  pub steps : new.steps ≡ old.steps

-- Each step of an event keeps Q. While a lookup is taken out of the list and worked on, R holds in its place. The event is of body
-- `message`, and found the node in state s. P holds at first, and if the event is the timeout of a call, until that call is taken out.
pub record Carries (sc : Scenario) (s : NodeState) (message : Body) (P Q : Facts → Type 0) (R : Lookup → Facts → Type 0) : Type 0 where
  pub opens : (f : Facts) → is_timeout message ≡ false → P f → Q f
  pub absent : (f : Facts) (number : ℕ) → message ≡ body.Timeout number → call_of number s ≡ None → P f → Q f
  pub noted : (f : Facts) (more : List Line) → telling more ≡ 0 → P f → P (record f { lines = f.lines ++ more })
  pub over : (f : Facts) (number : ℕ) → message ≡ body.Timeout number → P f → Q (record f { calls = filter (λ c. not (c.number == number)) f.calls })
  pub leaves : (f : Facts) (via : ℕ) → f.is ≡ status.Member → P f
      → Q (record f { is = status.Joining; lookups = []; calls = []; lines = f.lines ++ stranded_lines via f.time f.lookups })
  pub made : (f : Facts) (es : List (Event Body)) → (AreTimely sc f.time f.events → AreTimely sc f.time es) → Q f
      → Q (record f { count = f.count + 1; events = es })
  pub quiet : (f : Facts) (more : List Line) → telling more ≡ 0 → Q f → Q (record f { lines = f.lines ++ more })
  pub called : (f : Facts) (call : Call) (es : List (Event Body)) → (AreTimely sc f.time f.events → AreTimely sc f.time es)
      → call.number ≡ f.count + 1 → call.resent ≡ 0 → Q f
      → Q (record f { count = f.count + 1 + 1; calls = f.calls ++ call ∷ []; events = es })
  pub again : (f : Facts) (number : ℕ) (call : Call) (es : List (Event Body)) → (AreTimely sc f.time f.events → AreTimely sc f.time es)
      → message ≡ body.Timeout number → call_of number s ≡ Some call → P f
      → Q (record f { count = f.count + 1 + 1; calls = filter (λ c. not (c.number == number)) f.calls ++ sent_once_more number call ∷ []; events = es })
  pub without : (f : Facts) (number : ℕ) → Q f → Q (record f { calls = filter (λ c. not (c.number == number)) f.calls })
  pub member : (f : Facts) → f.is ≡ status.Joining → Q f → Q (record f { is = status.Member })
  pub rises : (f : Facts) → s.status ≡ status.Down → Q f → Q (record f { is = status.Joining })
  pub falls : (f : Facts) → telling f.lines ≡ 0 → Q f → Q (record f { is = status.Down; lookups = []; calls = [] })
  pub strands : (f : Facts) (via : ℕ) → f.is ≡ status.Member → Q f
      → Q (record f { is = status.Joining; lookups = []; calls = []; lines = f.lines ++ stranded_lines via f.time f.lookups })
  -- a lookup is begun, taken out, worked on, and put back or ended
  pub begun : (f : Facts) (key : ℕ) → Q f → R (fresh_lookup key aim.User f.time) (record f { lines = f.lines ++ line.Lookup key ∷ [] })
  pub turned : (f : Facts) (key index : ℕ) → Q f → R (fresh_lookup key (aim.Finger index) f.time) f
  pub taken : (f : Facts) (number place : ℕ) (lookup : Lookup) → f.lookups ≡ s.lookups → concerns message number ≡ true → (lookup.call == number) ≡ true
      → place < length f.lookups → lookup ≡ get_or f.lookups place lookup → Q f → R lookup (record f { lookups = remove f.lookups place })
  pub same : (f : Facts) (old new : Lookup) → IsSame old new → R old f → R new f
  pub asked : (f : Facts) (call : Call) (place : ℕ) (lookup : Lookup) (es : List (Event Body)) → (AreTimely sc f.time f.events → AreTimely sc f.time es)
      → call.number ≡ f.count + 1 → call.resent ≡ 0 → R lookup f
      → Q (record f {
        count = f.count + 1 + 1;
        calls = f.calls ++ call ∷ [];
        lookups = insert f.lookups place (record lookup { call = f.count + 1; steps = lookup.steps + 1 });
        events = es;
      })
  pub failed : (f : Facts) (lookup : Lookup) → R lookup f → Q (record f { lines = f.lines ++ option_to_list (lost_line f.time lookup) })
  pub found : (f : Facts) (lookup : Lookup) (owner : ℕ) → lookup.aim ≡ aim.User → R lookup f
      → Q (record f { lines = f.lines ++ line.Found lookup.key owner lookup.hops lookup.timeouts (taken_time f.time lookup) ∷ [] })
  pub fixed : (f : Facts) (lookup : Lookup) (index : ℕ) → lookup.aim ≡ aim.Finger index → R lookup f → Q f

-- an event that a turn makes
abbrev event_of : (delay target : ℕ) → Body → Turn → Event Body
event_of delay target message turn = record {
  key = record { time = turn.time + delay; origin = 2 + turn.state.me; number = turn.state.count + 1 };
  target = target;
  body = message;
}

-- the timeout of a call, after its request
abbrev timeout_of : Scenario → (number : ℕ) → Turn → Event Body
timeout_of sc number turn = record {
  key = record { time = turn.time + sc.timeout; origin = 2 + turn.state.me; number = turn.state.count + 1 + 1 };
  target = turn.state.me;
  body = body.Timeout number;
}

other_timely : (sc : Scenario) (time : ℕ) (events : List (Event Body)) (x : Event Body) → is_timeout x.body ≡ false → AreTimely sc time events
    → AreTimely sc time (events ++ x ∷ [])
other_timely sc time events x other all = All-push (IsTimely sc time) events x all (λ is. absurd (cc))

timeout_timely : (sc : Scenario) (number : ℕ) (turn : Turn) (events : List (Event Body)) → AreTimely sc turn.time events
    → AreTimely sc turn.time (events ++ timeout_of sc number turn ∷ [])
timeout_timely sc number turn events all = All-push (IsTimely sc turn.time) events (timeout_of sc number turn) all (λ is. refl)

no_timeout : (asked : Request) (number : ℕ) → is_timeout (body_of asked number) ≡ false
no_timeout (request.Step key avoid) number = refl
no_timeout request.GetState number = refl
no_timeout request.GetList number = refl
no_timeout request.Ping number = refl

-- one line more tells nothing
still_push : (lines : List Line) (text : Line) → telling lines ≡ 0 → tells text ≡ false → telling (lines ++ text ∷ []) ≡ 0
still_push lines text still other =
    let one : ◌≡◌ {A = ℕ} (cond (tells text) 1 0) 0 = ap (λ (b : Bool). cond b 1 0) other in omega (arith, count_by-push tells lines text, still, one)

no_place : (b : Bool) (place : ℕ) → cond b (Some place) None ≡ None → b ≡ false
no_place true place e = absurd (cc)
no_place false place e = refl

joining_is : (s : Status) → is_joining_status s ≡ true → s ≡ status.Joining
joining_is status.Down is = absurd (cc)
joining_is status.Joining is = refl
joining_is status.Member is = absurd (cc)

has_none : {A : Type 0} (o : Option A) → o ≡ None → IsSome o → ⊥
has_none None none some = cc
has_none (Some a) none some = cc

not_both : (s : Status) → s ≡ status.Joining → s ≡ status.Member → ⊥
not_both status.Down joining member = cc
not_both status.Joining joining member = cc
not_both status.Member joining member = cc

and_right : (a b : Bool) → (a && b) ≡ true → b ≡ true
and_right true b is = is
and_right false b is = absurd (cc)

-- detail tells nothing of a user's lookup that begins or ends

abbrev IsStill : Option Line → Type 0
IsStill None = Unit {0}
IsStill (Some text) = tells text ≡ false

seek_is_still : (k : MessageKind) (call : Call) (o : Option Lookup)
    → IsStill (option_map (λ (lookup : Lookup). line.Seek k call.to call.number lookup.key lookup.started) o)
seek_is_still k call None = tt
seek_is_still k call (Some lookup) = refl

request_is_still : (s : NodeState) (call : Call) (wanted : Purpose) → IsStill (request_line s call wanted)
request_is_still s call purpose.Lookup = seek_is_still kind.Step call (find (λ (lookup : Lookup). lookup.call == call.number) s.lookups)
request_is_still s call purpose.Owner = seek_is_still kind.GetState call (find (λ (lookup : Lookup). lookup.call == call.number) s.lookups)
request_is_still s call purpose.JoinStep = refl
request_is_still s call purpose.JoinList = refl
request_is_still s call (purpose.JoinHead behind) = refl
request_is_still s call purpose.State = refl
request_is_still s call purpose.List = refl
request_is_still s call purpose.Check = refl
request_is_still s call (purpose.Ping notifier) = refl

line_is_still : (s : NodeState) (target : ℕ) (message : Body) → IsStill (line_for s target message)
line_is_still s target (body.Timeout number) = asked (call_of number s)
  where
    asked : (o : Option Call) → IsStill (option_and_then (λ (call : Call). request_line s call call.purpose) o)
    asked None = tt
    asked (Some call) = request_is_still s call call.purpose
line_is_still s target (body.StepReply number answer) = refl
line_is_still s target (body.StateReply number prdc list) = refl
line_is_still s target (body.ListReply number list) = refl
line_is_still s target (body.Pong number) = refl
line_is_still s target body.Notify = refl
line_is_still s target (body.Leave prdc list) = refl
line_is_still s target _ = tt

detail_is_still : (s : NodeState) (made : List (Event Body)) → telling (message_lines s made) ≡ 0
detail_is_still s [] = refl
detail_is_still s (x ∷ xs) = with_first (line_for s x.target x.body) (line_is_still s x.target x.body) (detail_is_still s xs)
  where
    with_first : (o : Option Line) → IsStill o → telling (message_lines s xs) ≡ 0 → telling (cons_option o (message_lines s xs)) ≡ 0
    with_first None is still = still
    with_first (Some text) is still =
        let one : ◌≡◌ {A = ℕ} (cond (tells text) 1 0) 0 = ap (λ (b : Bool). cond b 1 0) is in
        omega (arith, sum_by-cons (λ (l : Line). cond (tells l) 1 0) text (message_lines s xs), still, one)

-- no timer of a life is the timeout of a call

tick_is_quiet : (epoch : ℕ) (message : Body) → IsTickOf epoch message → is_timeout message ≡ false
tick_is_quiet epoch message is = by (is_timeout message) refl message refl
  where
    by : (b : Bool) → is_timeout message ≡ b → (m : Body) → message ≡ m → is_timeout message ≡ false
    by false test m same = test
    by true test (body.Timeout n) same =
        let none : is_timer message Timeout n ≡ false = is.no_timeout n in
        let some : is_timer message Timeout n ≡ true = ap (λ (b : Body). is_timer b Timeout n) same ∙ same_node n in
        absurd (cc)
    by true test _ same = ap is_timeout same

traffic_is_quiet : (sc : Scenario) (epoch : ℕ) → IfSome (traffic_timer sc epoch) (λ timer. is_timeout timer.1 ≡ false)
traffic_is_quiet sc epoch =
    IfSome-map (λ _. Unit {0}) (λ timer. is_timeout timer.1 ≡ false) (λ gap. (gap, body.TrafficTick epoch)) sc.lookups (known sc.lookups) (λ gap _. refl)

check_is_quiet : (sc : Scenario) (epoch : ℕ) → IfSome (check_timer sc epoch) (λ timer. is_timeout timer.1 ≡ false)
check_is_quiet sc epoch = by (sc.check == 0)
  where
    by : (b : Bool) → IfSome {T = Span × Body} (if b then None else Some (jittered sc.check sc.jitters.check, body.CheckTick epoch))
        (λ timer. is_timeout timer.1 ≡ false)
    by true = tt
    by false = refl

quiet_rows : (epoch : ℕ) (rows : List (Option (Span × Body))) → AllByRecursion (HasTickOf epoch) rows
    → AllByRecursion (λ row. IfSome row (λ timer. is_timeout timer.1 ≡ false)) rows
quiet_rows epoch [] all = tt
quiet_rows epoch (None ∷ rows) all = (tt, quiet_rows epoch rows all.1)
quiet_rows epoch (Some row ∷ rows) all = (tick_is_quiet epoch row.1 all.0, quiet_rows epoch rows all.1)

table_is_quiet : (sc : Scenario) (n epoch : ℕ) → AllByRecursion (λ row. IfSome row (λ timer. is_timeout timer.1 ≡ false)) (timer_table sc n epoch)
table_is_quiet sc n epoch = quiet_rows epoch (timer_table sc n epoch) (table_of_life sc n epoch)

module _ (sc : Scenario) (s : NodeState) (e : Event Body) (P Q : Facts → Type 0) (R : Lookup → Facts → Type 0) (c : Carries sc s e.body P Q R) where
  abbrev Holds : Turn → Type 0
  Holds turn = Q (facts turn)

  -- Lines, messages and calls

  on_line : (text : Line) (turn : Turn) → telling (text ∷ []) ≡ 0 → Holds turn → Holds (noted text turn)
  on_line text turn other h = c.quiet (facts turn) (text ∷ []) other h

  on_made : (delay target : ℕ) (message : Body) (turn : Turn) → is_timeout message ≡ false → Holds turn
      → Q (record (facts turn) { count = turn.state.count + 1; events = turn.events ++ event_of delay target message turn ∷ [] })
  on_made delay target message turn other h =
      c.made (facts turn) (turn.events ++ event_of delay target message turn ∷ [])
      (other_timely sc turn.time turn.events (event_of delay target message turn) other) h

  on_sent : (k : MessageKind) (to : ℕ) (message : Body) (turn : Turn) → is_timeout message ≡ false → Holds turn → Holds (sent sc k to message turn)
  on_sent k to message turn other h =
      sent_as Holds sc k to message turn
      (λ delay place late near. on_made delay to message turn other h)
      (λ place near.
      c.quiet (record (facts turn) { count = turn.state.count + 1 }) (line.Lose k to ∷ []) refl (c.made (facts turn) turn.events (λ all. all) h))

  -- the events of a call whose request arrives, and of one whose request is lost
  abbrev arrived_events : (number delay to : ℕ) → Request → Turn → List (Event Body)
  arrived_events number delay to asked turn = (turn.events ++ event_of delay to (body_of asked number) turn ∷ []) ++ timeout_of sc number turn ∷ []

  abbrev lost_events : (number : ℕ) → Turn → List (Event Body)
  lost_events number turn = turn.events ++ timeout_of sc number turn ∷ []

  arrived_timely : (number delay to : ℕ) (asked : Request) (turn : Turn) → AreTimely sc turn.time turn.events
      → AreTimely sc turn.time (arrived_events number delay to asked turn)
  arrived_timely number delay to asked turn all =
      timeout_timely sc number turn (turn.events ++ event_of delay to (body_of asked number) turn ∷ [])
      (other_timely sc turn.time turn.events (event_of delay to (body_of asked number) turn) (no_timeout asked number) all)

  on_called : (to : ℕ) (asked : Request) (wanted : Purpose) (turn : Turn) → Holds turn → Holds (called sc to asked wanted turn)
  on_called to asked wanted turn h =
      let number : ℕ = turn.state.count + 1 in
      called_as Holds sc to asked wanted turn
      (λ delay place late near.
      c.called (facts turn) (new_call to wanted turn) (arrived_events number delay to asked turn) (arrived_timely number delay to asked turn) refl refl h)
      (λ place near.
      c.quiet
      (record (facts turn) {
        count = turn.state.count + 1 + 1;
        calls = turn.state.calls ++ new_call to wanted turn ∷ [];
        events = lost_events number turn;
      })
      (line.Lose (kind_of asked) to ∷ []) refl
      (c.called (facts turn) (new_call to wanted turn) (lost_events number turn) (timeout_timely sc number turn turn.events) refl refl h))

  -- Lookups

  on_lookup_failed : (lookup : Lookup) (turn : Turn) → R lookup (facts turn) → Holds (lookup_failed lookup turn)
  unfolding lookup_failed
  on_lookup_failed lookup turn r = c.failed (facts turn) lookup r

  on_lookup_finished_for : (wanted : Aim) (lookup : Lookup) (owner : ℕ) (turn : Turn) → lookup.aim ≡ wanted → R lookup (facts turn)
      → Holds (lookup_finished_for wanted lookup owner turn)
  on_lookup_finished_for aim.User lookup owner turn is r = c.found (facts turn) lookup owner is r
  on_lookup_finished_for (aim.Finger index) lookup owner turn is r = c.fixed (facts turn) lookup index is r

  on_lookup_finished : (lookup : Lookup) (owner : ℕ) (turn : Turn) → R lookup (facts turn) → Holds (lookup_finished lookup owner turn)
  unfolding lookup_finished
  on_lookup_finished lookup owner turn r = on_lookup_finished_for lookup.aim lookup owner turn refl r

  on_lookup_asked : (place : ℕ) (lookup : Lookup) (to : ℕ) (wanted : Purpose) (turn : Turn) → R lookup (facts turn)
      → Holds (lookup_asked sc place lookup to wanted turn)
  unfolding lookup_asked
  on_lookup_asked place lookup to wanted turn r =
      let number : ℕ = turn.state.count + 1 in
      let next : Lookup = record lookup { call = number; steps = lookup.steps + 1 } in
      let asked : Request = lookup_request wanted lookup in
      going_if Holds (nat_lt lookup.steps (most_lookup_steps sc)) _ (lookup_failed lookup turn)
      (λ few. called_as (λ out. Holds (with_lookup_at place next out)) sc to asked wanted turn
      (λ delay spot late near.
      c.asked (facts turn) (new_call to wanted turn) place lookup (arrived_events number delay to asked turn)
      (arrived_timely number delay to asked turn) refl refl r)
      (λ spot near.
      c.quiet
      (record (facts turn) {
        count = turn.state.count + 1 + 1;
        calls = turn.state.calls ++ new_call to wanted turn ∷ [];
        lookups = insert turn.state.lookups place next;
        events = lost_events number turn;
      })
      (line.Lose (kind_of asked) to ∷ []) refl
      (c.asked (facts turn) (new_call to wanted turn) place lookup (lost_events number turn) (timeout_timely sc number turn turn.events) refl refl r)))
      (λ many. on_lookup_failed lookup turn r)

  on_lookup_led : (place : ℕ) (lookup : Lookup) (owner : ℕ) (turn : Turn) → R lookup (facts turn) → Holds (lookup_led sc place lookup owner turn)
  unfolding lookup_led
  on_lookup_led place lookup owner turn r =
      going_if Holds (sc.rules.ask_owner && is_user lookup) _ _
      (λ asks. on_lookup_asked place lookup owner purpose.Owner turn r)
      (λ ends. on_lookup_finished lookup owner turn r)

  on_lookup_followed : (place : ℕ) (lookup : Lookup) (a : Answer) (turn : Turn) → R lookup (facts turn) → Holds (lookup_followed sc place lookup a turn)
  unfolding lookup_followed
  on_lookup_followed place lookup (answer.Owner owner) turn r = on_lookup_led place lookup owner turn r
  on_lookup_followed place lookup (answer.Next next) turn r = on_lookup_asked place lookup next purpose.Lookup turn r
  on_lookup_followed place lookup answer.Stuck turn r = on_lookup_failed lookup turn r

  on_lookup_walked : (place : ℕ) (lookup : Lookup) (turn : Turn) → R lookup (facts turn) → Holds (lookup_walked sc place lookup turn)
  unfolding lookup_walked
  on_lookup_walked place lookup turn r = on_lookup_followed place lookup (step_answer sc turn.state lookup.key lookup.avoid) turn r

  on_lookup_resumed : (place : ℕ) (lookup : Lookup) (o : Option ℕ) (turn : Turn) → R lookup (facts turn) → Holds (lookup_resumed sc place lookup o turn)
  on_lookup_resumed place lookup None turn r = on_lookup_walked place lookup turn r
  on_lookup_resumed place lookup (Some last) turn r = on_lookup_asked place lookup last purpose.Lookup turn r

  on_lookup_diverted : (node place : ℕ) (lookup : Lookup) (turn : Turn) → R lookup (facts turn) → Holds (lookup_diverted sc node place lookup turn)
  unfolding lookup_diverted
  on_lookup_diverted node place lookup turn r =
      let alike : IsSame lookup (past node lookup) = record { key = refl; aim = refl; started = refl; steps = refl } in
      going_if Holds (nat_lt (length lookup.avoid) sc.rules.lookup_timeouts) _ _
      (λ few. on_lookup_resumed place (past node lookup) (past node lookup).last turn (c.same (facts turn) lookup (past node lookup) alike r))
      (λ many. on_lookup_failed lookup turn r)

  on_lookup_begun : (key : ℕ) (wanted : Aim) (turn : Turn) → R (fresh_lookup key wanted turn.time) (facts turn) → Holds (lookup_begun sc key wanted turn)
  unfolding lookup_begun
  on_lookup_begun key wanted turn r = on_lookup_walked (length turn.state.lookups) (fresh_lookup key wanted turn.time) turn r

  on_user_lookup : (key : ℕ) (turn : Turn) → Holds turn → Holds (user_lookup sc key turn)
  unfolding user_lookup
  on_user_lookup key turn h =
      going_if Holds (nat_lt (count_by is_user turn.state.lookups) most_user_lookups) _ _
      (λ few. on_lookup_begun key aim.User (noted (line.Lookup key) turn) (c.begun (facts turn) key h))
      (λ many. on_line (line.Busy key) turn refl h)

  -- the step with the lookup of a call that the event is about
  on_with_lookup : (number : ℕ) (step : ℕ → Lookup → Turn → Turn) (turn : Turn) → turn.state.lookups ≡ s.lookups → concerns e.body number ≡ true
      → ((place : ℕ) (lookup : Lookup) (t : Turn) → R lookup (facts t) → Holds (step place lookup t)) → Holds turn → Holds (with_lookup number step turn)
  unfolding with_lookup
  on_with_lookup number step turn first is go h = by (position (λ (l : Lookup). l.call == number) turn.state.lookups) refl
    where
      spare : Lookup
      spare = fresh_lookup 0 aim.User 0

      by_lookup : (place : ℕ) → place < length turn.state.lookups → ((get_or turn.state.lookups place spare).call == number) ≡ true → (o : Option Lookup)
          → slice_get turn.state.lookups place ≡ o → Holds (when_some o (λ lookup. λ t. step place lookup (without_lookup place t)) turn)
      by_lookup place within its None at = h
      by_lookup place within its (Some lookup) at =
          go place lookup (without_lookup place turn)
          (c.taken (facts turn) number place lookup first is
          (ap (λ (l : Lookup). l.call == number) (sym (get_or_from_slice_get turn.state.lookups place lookup spare at)) ∙ its) within
          (sym (get_or_from_slice_get turn.state.lookups place lookup lookup at)) h)

      by : (o : Option ℕ) → position (λ (l : Lookup). l.call == number) turn.state.lookups ≡ o
          → Holds (when_some o (λ place. when_some (slice_get turn.state.lookups place) (λ lookup. λ t. step place lookup (without_lookup place t))) turn)
      by None at = h
      by (Some place) at =
          let stands = position-Some (λ (l : Lookup). l.call == number) turn.state.lookups place spare at in
          by_lookup place stands.0 stands.1 (slice_get turn.state.lookups place) refl

  -- Timers

  on_row_armed : (row : Option (Span × Body)) (turn : Turn) → IfSome row (λ timer. is_timeout timer.1 ≡ false) → Holds turn → Holds (row_armed sc row turn)
  unfolding timer_made
  on_row_armed None turn other h = h
  on_row_armed (Some timer) turn other h =
      on_made (delay sc turn.state.me turn.state.place turn.time timer.0 timer.1) turn.state.me timer.1
      (record turn { state = after_words 1 turn.state }) other h

  on_rows_armed : (rows : List (Option (Span × Body))) (turn : Turn) → AllByRecursion (λ row. IfSome row (λ timer. is_timeout timer.1 ≡ false)) rows
      → Holds turn → Holds (rows_armed sc rows turn)
  on_rows_armed [] turn others h = h
  on_rows_armed (row ∷ rows) turn others h = on_rows_armed rows (row_armed sc row turn) others.1 (on_row_armed row turn others.0 h)

  on_armed : (turn : Turn) → Holds turn → Holds (armed sc turn)
  unfolding armed
  on_armed turn h =
      on_rows_armed (timer_table sc turn.state.me turn.state.epoch) turn (table_is_quiet sc turn.state.me turn.state.epoch) h

  on_stabilize_armed : (turn : Turn) → Holds turn → Holds (stabilize_armed sc turn)
  unfolding stabilize_armed
  on_stabilize_armed turn h = on_row_armed (Some (stabilize_timer sc turn.state.epoch)) turn refl h

  on_finger_armed : (turn : Turn) → Holds turn → Holds (finger_armed sc turn)
  unfolding finger_armed
  on_finger_armed turn h = on_row_armed (Some (finger_timer sc turn.state.epoch)) turn refl h

  on_traffic_armed : (turn : Turn) → Holds turn → Holds (traffic_armed sc turn)
  unfolding traffic_armed
  on_traffic_armed turn h = on_row_armed (traffic_timer sc turn.state.epoch) turn (traffic_is_quiet sc turn.state.epoch) h

  on_check_armed : (turn : Turn) → Holds turn → Holds (check_armed sc turn)
  unfolding check_armed
  on_check_armed turn h = on_row_armed (check_timer sc turn.state.epoch) turn (check_is_quiet sc turn.state.epoch) h

  on_rise_armed : (turn : Turn) → Holds turn → Holds (rise_armed sc turn)
  unfolding rise_armed timer_made
  on_rise_armed turn h =
      going_if Holds (is_churn_node sc turn.state.me) _ turn
      (λ churns. going_when Holds sc.churn _ turn h
      (λ churn set.
      on_made (delay sc turn.state.me turn.state.place turn.time churn.down (body.Rise turn.state.epoch)) turn.state.me (body.Rise turn.state.epoch)
      (record turn { state = after_words 1 turn.state }) refl h))
      (λ stays. h)

  -- Joins

  on_created : (turn : Turn) → turn.state.status ≡ status.Joining → Holds turn → Holds (created sc turn)
  unfolding created
  on_created turn joining h =
      c.quiet (record (facts turn) { is = status.Member }) (line.Create ∷ []) refl (c.member (facts turn) joining h)

  on_join_begun : (avoid : List ℕ) (via : ℕ) (turn : Turn) → turn.state.status ≡ status.Joining → Holds turn → Holds (join_begun sc avoid via turn)
  unfolding join_begun
  on_join_begun avoid via turn joining h =
      going_if Holds (via == turn.state.me) _ _
      (λ own. on_created turn joining h)
      (λ other. on_called via (own_step sc avoid turn.state) purpose.JoinStep turn h)

  on_came_up : (via : ℕ) (turn : Turn) → s.status ≡ status.Down → Holds turn → Holds (came_up sc via turn)
  unfolding came_up
  on_came_up via turn down h =
      let up : Turn = record (noted (line.Join via) turn) { state = risen via turn.state } in
      on_join_begun [] via (armed sc up)
      (same_armed (λ t. t.status) sc up turn_is)
      (on_armed up (c.quiet (record (facts turn) { is = status.Joining }) (line.Join via ∷ []) refl (c.rises (facts turn) down h)))
    where
      turn_is : (t : NodeState) (count place : ℕ) → (record t { count = count; place = place }).status ≡ t.status
      turn_is t count place = refl

  on_join_retried : (attempt : Attempt) (turn : Turn) → turn.state.status ≡ status.Joining → Holds turn → Holds (join_retried sc attempt turn)
  unfolding join_retried
  on_join_retried attempt turn joining h =
      going_when Holds turn.state.via (join_begun sc attempt.avoid) (with_attempt (record attempt { steps = 0 }) turn) h
      (λ via set. on_join_begun attempt.avoid via (with_attempt (record attempt { steps = 0 }) turn) joining h)

  on_join_paused : (pause : ℕ) (attempt : Attempt) (turn : Turn) → turn.state.status ≡ status.Joining → Holds turn
      → Holds (join_paused sc pause attempt turn)
  unfolding join_paused
  on_join_paused pause attempt turn joining h =
      going_if Holds (pause == 0) _ _
      (λ at_once. on_join_retried attempt turn joining h)
      (λ after. on_made pause turn.state.me (body.Rejoin turn.state.epoch) turn refl h)

  on_down : (turn : Turn) → telling turn.lines ≡ 0 → Holds turn → Holds (gone_down sc turn)
  on_down turn still h = c.falls (facts turn) still h

  on_join_given_up : (turn : Turn) → turn.state.status ≡ status.Joining → telling turn.lines ≡ 0 → Holds turn → Holds (join_given_up sc turn)
  unfolding join_given_up
  on_join_given_up turn joining still h =
      going_if Holds sc.join_forever _ _
      (λ forever. on_join_paused ((most_failures + 1) * sc.join_pause) fresh_attempt turn joining h)
      (λ over. on_rise_armed (gone_down sc turn) (on_down turn still h))

  on_join_ended : (attempt : Attempt) (turn : Turn) → turn.state.status ≡ status.Joining → telling turn.lines ≡ 0 → Holds turn
      → Holds (join_ended sc attempt turn)
  unfolding join_ended
  on_join_ended attempt turn joining still h =
      let g : Holds (noted line.JoinFailed turn) = on_line line.JoinFailed turn refl h in
      going_if Holds (is_founder sc turn.state.me attempt) _ _
      (λ founds. on_created (noted line.JoinFailed turn) joining g)
      (λ others. on_join_given_up (noted line.JoinFailed turn) joining (still_push turn.lines line.JoinFailed still refl) g)

  on_join_failed : (attempt : Attempt) (turn : Turn) → turn.state.status ≡ status.Joining → telling turn.lines ≡ 0 → Holds turn
      → Holds (join_failed sc attempt turn)
  unfolding join_failed
  on_join_failed attempt turn joining still h =
      going_if Holds (nat_lt attempt.failures most_failures) _ _
      (λ again. on_join_paused sc.join_pause (record attempt { failures = attempt.failures + 1 }) (via_moved sc turn) joining h)
      (λ over. on_join_ended attempt (via_moved sc turn) joining still h)

  on_stranded : (X : Facts → Type 0)
      → ((f : Facts) (via : ℕ) → f.is ≡ status.Member → X f
      → Q (record f { is = status.Joining; lookups = []; calls = []; lines = f.lines ++ stranded_lines via f.time f.lookups }))
      → (via : ℕ) (turn : Turn) → turn.state.status ≡ status.Member → X (facts turn) → Holds (stranded sc via turn)
  unfolding stranded
  on_stranded X strands via turn member h =
      let next : ℕ = other_via sc turn.state.me via in on_join_begun [] next _ refl (strands (facts turn) next member h)

  -- the step with an attempt to join
  on_for_attempt : (step : Attempt → Turn → Turn) (turn : Turn) → Holds turn → ((attempt : Attempt) → Holds (step attempt (without_attempt turn)))
      → Holds (for_attempt step turn)
  unfolding for_attempt
  on_for_attempt step turn h go =
      going_when Holds turn.state.join (λ attempt. λ t. step attempt (without_attempt t)) turn h (λ attempt set. go attempt)

  -- Leaves

  on_told : (to : ℕ) (turn : Turn) → Holds turn → Holds (told sc to turn)
  on_told to turn h =
      going_if Holds (to == turn.state.me) turn _
      (λ own. h)
      (λ other. on_sent kind.Leave to (body.Leave turn.state.prdc turn.state.succ) turn refl h)

  still_told : (to : ℕ) (turn : Turn) → telling turn.lines ≡ 0 → telling (told sc to turn).lines ≡ 0
  still_told to turn still =
      let Still : Turn → Type 0 = λ t. telling t.lines ≡ 0 in
      going_if Still (to == turn.state.me) turn _
      (λ own. still)
      (λ other. sent_as Still sc kind.Leave to (body.Leave turn.state.prdc turn.state.succ) turn
      (λ delay place late near. still)
      (λ place near. still_push turn.lines (line.Lose kind.Leave to) still refl))

  on_departed : (turn : Turn) → telling turn.lines ≡ 0 → Holds turn → Holds (departed sc turn)
  unfolding departed
  on_departed turn still h =
      let Both : Turn → Type 0 = λ t. (telling t.lines ≡ 0) × Holds t in
      let leaving : Turn = noted line.Leave turn in
      let first : Turn = when_some turn.state.prdc (told sc) leaving in
      let left : Both leaving = (still_push turn.lines line.Leave still refl, on_line line.Leave turn refl h) in
      let one : Both first = going_when Both turn.state.prdc (told sc) leaving left
      (λ prdc set. (still_told prdc leaving left.0, on_told prdc leaving left.1)) in
      let all = going_when Both (slice_get turn.state.succ 0) (head_told sc) first one
      (λ node set. going_if Both (holds first.state.prdc node) first _
      (λ same. one) (λ other. (still_told node first one.0, on_told node first one.1))) in
      on_down (when_some (slice_get turn.state.succ 0) (head_told sc) first) all.0 all.1

  on_crashed : (turn : Turn) → telling turn.lines ≡ 0 → Holds turn → Holds (crashed sc turn)
  on_crashed turn still h = on_down (noted line.Crash turn) (still_push turn.lines line.Crash still refl) (on_line line.Crash turn refl h)

  -- Commands

  on_cmd_join : (via : ℕ) → Holds (opening s e) → Holds (cmd_join sc via (opening s e))
  unfolding cmd_join
  on_cmd_join via h =
      going_if Holds (not (is_down s)) _ _
      (λ up. on_line (line.Ignored command.Join) (opening s e) refl h)
      (λ down. on_came_up via (opening s e) (down_by s.status (not_false (is_down s) down)) h)

  on_cmd_crash : Holds (opening s e) → Holds (cmd_crash sc (opening s e))
  unfolding cmd_crash
  on_cmd_crash h =
      going_if Holds (is_down s) _ _
      (λ down. on_line (line.Ignored command.Crash) (opening s e) refl h)
      (λ up. on_crashed (opening s e) refl h)

  on_cmd_leave : Holds (opening s e) → Holds (cmd_leave sc (opening s e))
  unfolding cmd_leave
  on_cmd_leave h =
      going_if Holds (is_down s) _ _
      (λ down. on_line (line.Ignored command.Leave) (opening s e) refl h)
      (λ up. on_departed (opening s e) refl h)

  on_cmd_lookup : (key : ℕ) (turn : Turn) → Holds turn → Holds (cmd_lookup sc key turn)
  unfolding cmd_lookup
  on_cmd_lookup key turn h =
      going_if Holds (not (is_member turn.state)) _ _
      (λ other. on_line (line.Ignored command.Lookup) turn refl h)
      (λ member. on_user_lookup key turn h)

  -- Timers

  on_rise : (epoch : ℕ) → Holds (opening s e) → Holds (rise sc epoch (opening s e))
  unfolding rise
  on_rise epoch h =
      going_if Holds (not (s.epoch == epoch) || not (is_down s)) (opening s e) _
      (λ void. h)
      (λ due. going_when Holds s.via (came_up sc) (opening s e) h
      (λ via set. on_came_up via (opening s e)
      (down_by s.status (not_false (is_down s) (or_false (not (s.epoch == epoch)) (not (is_down s)) due).1)) h))

  on_stabilize_tick : (epoch : ℕ) (turn : Turn) → Holds turn → Holds (stabilize_tick sc epoch turn)
  unfolding stabilize_tick
  on_stabilize_tick epoch turn h =
      let armed : Turn = stabilize_armed sc turn in
      let g : Holds armed = on_stabilize_armed turn h in
      going_if Holds (is_void epoch turn.state) turn _
      (λ void. h)
      (λ fresh. going_if Holds (is_joining turn.state || has_repair_call turn.state) armed
      (when_some (head turn.state) (λ first. called sc first request.GetState purpose.State) armed)
      (λ busy. g)
      (λ idle. going_when Holds (head turn.state) _ armed g (λ first set. on_called first request.GetState purpose.State armed g)))

  on_near_covered : (first : ℕ) (turn : Turn) → Holds turn → Holds (near_covered first turn)
  unfolding near_covered
  on_near_covered first turn h = going_when Holds (head turn.state) _ turn h (λ node set. h)

  on_finger_turned : (index : ℕ) (turn : Turn) → Holds turn → Holds (finger_turned sc index turn)
  unfolding finger_turned
  on_finger_turned index turn h =
      on_lookup_begun (finger_start sc.bits (ident_of sc turn.state.me) index) (aim.Finger index)
      (record turn { state = record turn.state { next_finger = finger_after sc.bits index } })
      (c.turned (facts turn) (finger_start sc.bits (ident_of sc turn.state.me) index) index h)

  on_finger_rotated : (first : ℕ) (turn : Turn) → Holds turn → Holds (finger_rotated sc first turn)
  on_finger_rotated first turn h =
      going_if Holds (nat_lt sc.bits (max turn.state.next_finger first)) _ _
      (λ covers. on_near_covered first turn h)
      (λ goes. on_finger_turned (max turn.state.next_finger first) (near_covered first turn) (on_near_covered first turn h))

  on_finger_tick : (epoch : ℕ) (turn : Turn) → Holds turn → Holds (finger_tick sc epoch turn)
  unfolding finger_tick
  on_finger_tick epoch turn h =
      let armed : Turn = finger_armed sc turn in
      let g : Holds armed = on_finger_armed turn h in
      going_if Holds (is_void epoch turn.state) turn _
      (λ void. h)
      (λ fresh. going_if Holds (is_joining turn.state || has_finger_lookup turn.state) armed _
      (λ busy. g)
      (λ idle. on_finger_rotated (first_in_turn sc turn.state) armed g))

  on_random_lookup : (turn : Turn) → Holds turn → Holds (random_lookup sc turn)
  unfolding random_lookup
  on_random_lookup turn h =
      on_user_lookup (random_key sc turn.time turn.state) (record turn { state = after_words (key_words sc.bits) turn.state }) h

  on_traffic_tick : (epoch : ℕ) (turn : Turn) → Holds turn → Holds (traffic_tick sc epoch turn)
  unfolding traffic_tick
  on_traffic_tick epoch turn h =
      going_if Holds (is_void epoch turn.state || not (is_some sc.lookups)) turn _
      (λ void. h)
      (λ fresh. going_if Holds (is_joining turn.state) _ _
      (λ joining. on_traffic_armed turn h)
      (λ member. on_random_lookup (traffic_armed sc turn) (on_traffic_armed turn h)))

  on_life_over : (epoch : ℕ) (churn : Churn) (turn : Turn) → telling turn.lines ≡ 0 → Holds turn → Holds (life_over sc epoch churn turn)
  on_life_over epoch churn turn still h =
      let drawn : Turn = record turn { state = after_words 1 turn.state } in
      going_if Holds (churn.leave == 0) _ _
      (λ never. on_crashed turn still h)
      (λ may. going_if Holds (nat_lt (leave_number sc drawn.state.me epoch) churn.leave) _ _
      (λ leaves. on_departed drawn still h)
      (λ crashes. on_crashed drawn still h))

  on_life_end : (epoch : ℕ) → Holds (opening s e) → Holds (life_end sc epoch (opening s e))
  unfolding life_end
  on_life_end epoch h =
      going_if Holds (is_void epoch s || not (is_churn_node sc s.me)) (opening s e) _
      (λ void. h)
      (λ fresh. on_rise_armed (when_some sc.churn (life_over sc epoch) (opening s e))
      (going_when Holds sc.churn (life_over sc epoch) (opening s e) h (λ churn set. on_life_over epoch churn (opening s e) refl h)))

  on_check_tick : (epoch : ℕ) (turn : Turn) → Holds turn → Holds (check_tick sc epoch turn)
  unfolding check_tick
  on_check_tick epoch turn h =
      let armed : Turn = check_armed sc turn in
      let g : Holds armed = on_check_armed turn h in
      going_if Holds (is_void epoch turn.state) turn _
      (λ void. h)
      (λ fresh. going_if Holds (is_joining turn.state || has_ping_call turn.state) armed
      (when_some armed.state.prdc (λ prdc. called sc prdc request.Ping purpose.Check) armed)
      (λ busy. g)
      (λ idle. going_when Holds armed.state.prdc _ armed g (λ prdc set. on_called prdc request.Ping purpose.Check armed g)))

  on_rejoin : (epoch : ℕ) (turn : Turn) → Holds turn → Holds (rejoin sc epoch turn)
  unfolding rejoin
  on_rejoin epoch turn h =
      going_if Holds (not (turn.state.epoch == epoch) || not (is_joining turn.state) || has_join_call turn.state) turn _
      (λ void. h)
      (λ due.
      let fresh = or_false (not (turn.state.epoch == epoch) || not (is_joining turn.state)) (has_join_call turn.state) due in
      let joins = or_false (not (turn.state.epoch == epoch)) (not (is_joining turn.state)) fresh.0 in
      let joining : turn.state.status ≡ status.Joining = joining_is turn.state.status (not_false (is_joining turn.state) joins.1) in
      on_for_attempt (join_retried sc) turn h (λ attempt. on_join_retried attempt (without_attempt turn) joining h))

  -- Timeouts

  on_lookup_timed_out : (silent place : ℕ) (lookup : Lookup) (turn : Turn) → R lookup (facts turn) → Holds (lookup_timed_out sc silent place lookup turn)
  unfolding lookup_timed_out
  on_lookup_timed_out silent place lookup turn r =
      let alike : IsSame lookup (once_more lookup) = record { key = refl; aim = refl; started = refl; steps = refl } in
      on_lookup_diverted silent place (once_more lookup) turn (c.same (facts turn) lookup (once_more lookup) alike r)

  on_join_timed_out : (silent : ℕ) (turn : Turn) → turn.state.status ≡ status.Joining → telling turn.lines ≡ 0 → Holds turn
      → Holds (join_timed_out sc silent turn)
  unfolding join_timed_out
  on_join_timed_out silent turn joining still h =
      on_for_attempt (λ attempt. join_failed sc (avoiding silent turn.state attempt)) turn h
      (λ attempt. on_join_failed (avoiding silent turn.state attempt) (without_attempt turn) joining still h)

  on_head_asked : (first : Option ℕ) (turn : Turn) → turn.state.status ≡ status.Member → Holds turn → Holds (head_asked sc first turn)
  on_head_asked None turn member h = going_when Holds turn.state.via (stranded sc) turn h (λ via set. on_stranded Q c.strands via turn member h)
  on_head_asked (Some first) turn member h = on_called first request.GetState purpose.State turn h

  on_state_timed_out : (silent : ℕ) (turn : Turn) → turn.state.status ≡ status.Member → Holds turn → Holds (state_timed_out sc silent turn)
  unfolding state_timed_out
  on_state_timed_out silent turn member h = on_head_asked (head (without_silent sc silent turn).state) (without_silent sc silent turn) member h

  on_head_notified : (turn : Turn) → Holds turn → Holds (head_notified sc turn)
  unfolding head_notified
  on_head_notified turn h = going_when Holds (head turn.state) _ turn h (λ first set. on_sent kind.Notify first body.Notify turn refl h)

  on_ping_timed_out : (silent notifier : ℕ) (turn : Turn) → Holds turn → Holds (ping_timed_out silent notifier turn)
  unfolding ping_timed_out
  on_ping_timed_out silent notifier turn h = going_if Holds (holds turn.state.prdc silent) _ turn (λ same. h) (λ other. h)

  on_check_timed_out : (silent : ℕ) (turn : Turn) → Holds turn → Holds (check_timed_out silent turn)
  unfolding check_timed_out
  on_check_timed_out silent turn h =
      going_if Holds (holds turn.state.prdc silent) _ turn
      (λ same. on_line (line.Forget silent) (record turn { state = record turn.state { prdc = None } }) refl h)
      (λ other. h)

  on_timed_out : (number silent : ℕ) (wanted : Purpose) (turn : Turn) → turn.state.lookups ≡ s.lookups → concerns e.body number ≡ true
      → (is_for_join wanted ≡ true → turn.state.status ≡ status.Joining) → (is_for_join wanted ≡ false → turn.state.status ≡ status.Member)
      → (is_for_join wanted ≡ true → telling turn.lines ≡ 0) → Holds turn → Holds (timed_out sc number silent wanted turn)
  on_timed_out number silent purpose.Lookup turn first is joins others still h =
      on_with_lookup number (lookup_timed_out sc silent) turn first is (λ place lookup t. on_lookup_timed_out silent place lookup t) h
  on_timed_out number silent purpose.Owner turn first is joins others still h =
      on_with_lookup number (lookup_timed_out sc silent) turn first is (λ place lookup t. on_lookup_timed_out silent place lookup t) h
  on_timed_out number silent purpose.JoinStep turn first is joins others still h = on_join_timed_out silent turn (joins refl) (still refl) h
  on_timed_out number silent purpose.JoinList turn first is joins others still h = on_join_timed_out silent turn (joins refl) (still refl) h
  on_timed_out number silent (purpose.JoinHead behind) turn first is joins others still h = on_join_timed_out silent turn (joins refl) (still refl) h
  on_timed_out number silent purpose.State turn first is joins others still h = on_state_timed_out silent turn (others refl) h
  on_timed_out number silent purpose.List turn first is joins others still h = on_head_notified turn h
  on_timed_out number silent purpose.Check turn first is joins others still h = on_check_timed_out silent turn h
  on_timed_out number silent (purpose.Ping notifier) turn first is joins others still h = on_ping_timed_out silent notifier turn h

  -- a member drops a node, and goes on with a step
  on_dropped : (X : Facts → Type 0) → ((f : Facts) (more : List Line) → telling more ≡ 0 → X f → X (record f { lines = f.lines ++ more }))
      → ((f : Facts) (via : ℕ) → f.is ≡ status.Member → X f
      → Q (record f { is = status.Joining; lookups = []; calls = []; lines = f.lines ++ stranded_lines via f.time f.lookups }))
      → (silent : ℕ) (step : Turn → Turn) (turn : Turn) → turn.state.status ≡ status.Member
      → (turn.state.via ≡ None → X (facts (list_left sc silent turn)) → Holds (list_left sc silent turn)) → X (facts turn)
      → ((succ fingers : List ℕ) (lines : List Line)
      → X (facts (record turn { state = record turn.state { succ = succ; fingers = fingers }; lines = lines }))
      → Holds (step (record turn { state = record turn.state { succ = succ; fingers = fingers }; lines = lines })))
      → Holds (dropped sc silent step turn)
  unfolding dropped list_left
  on_dropped X notes strands silent step turn member none h go = by (slice_get (list_after sc silent turn.state) 0)
    where
      rescue : (o : Option ℕ) → X (record (facts turn) { lines = turn.lines ++ rescue_lines o })
      rescue None = notes (facts turn) [] refl h
      rescue (Some finger) = notes (facts turn) (line.Rescue finger ∷ []) refl h

      rescued : X (facts (list_left sc silent turn))
      rescued = rescue (rescuer sc silent turn.state)

      by_via : (o : Option ℕ) → turn.state.via ≡ o → Holds (when_some o (stranded sc) (list_left sc silent turn))
      by_via None is = none is rescued
      by_via (Some via) is = on_stranded X strands via (list_left sc silent turn) member rescued

      by : (o : Option ℕ) → Holds (dropped_by sc silent step o (list_left sc silent turn))
      by None = by_via turn.state.via refl
      by (Some first) =
          go (list_after sc silent turn.state) (map (λ x. if x == silent then first else x) turn.state.fingers)
          (turn.lines ++ rescue_lines (rescuer sc silent turn.state)) rescued

  on_call_repeated : (number : ℕ) (call : Call) → e.body ≡ body.Timeout number → call_of number s ≡ Some call → IsSome (request_again sc number call.purpose s)
      → P (facts (opening s e)) → Holds (call_repeated sc number call (opening s e))
  unfolding call_repeated
  on_call_repeated number call is found asks h = by (request_again sc number call.purpose s) asks
    where
      by : (o : Option Request) → IsSome o → Holds (when_some o (asked_again sc number call) (opening s e))
      by None has = absurd (cc)
      by (Some again) has =
          let out : Turn = noted (line.Again (kind_of again) call.to) (without_call number (opening s e)) in
          let sent : List (Event Body) → Facts = λ es. record (facts (opening s e)) {
            count = s.count + 1 + 1;
            calls = filter (λ c. not (c.number == number)) s.calls ++ sent_once_more number call ∷ [];
            events = es;
          } in
          let told : (es : List (Event Body)) → (AreTimely sc e.key.time [] → AreTimely sc e.key.time es)
          → Q (record (sent es) { lines = [] ++ line.Again (kind_of again) call.to ∷ [] }) = λ es timely.
          c.quiet (sent es) (line.Again (kind_of again) call.to ∷ []) refl (c.again (facts (opening s e)) number call es timely is found h) in
          asked_as Holds sc again (sent_once_more number call) out
          (λ delay place late near. told (arrived_events number delay call.to again out) (arrived_timely number delay call.to again out))
          (λ place near.
          c.quiet (record (sent (lost_events number out)) { lines = [] ++ line.Again (kind_of again) call.to ∷ [] })
          (line.Lose (kind_of again) call.to ∷ []) refl
          (told (lost_events number out) (timeout_timely sc number out [])))

  -- a call that is given up
  on_call_given_up : (number : ℕ) (call : Call) → e.body ≡ body.Timeout number → (is_for_join call.purpose ≡ true → s.status ≡ status.Joining)
      → (is_for_join call.purpose ≡ false → s.status ≡ status.Member) → (s.status ≡ status.Member → IsSome s.via) → P (facts (opening s e))
      → Holds (call_given_up sc number call (opening s e))
  unfolding call_given_up
  on_call_given_up number call is joins others has_via h =
      let its : concerns e.body number ≡ true = ap (λ (b : Body). concerns b number) is ∙ same_node number in
      let mid : Turn = noted (line.Timeout call.to) (opening s e) in
      let g : P (facts mid) = c.noted (facts (opening s e)) (line.Timeout call.to ∷ []) refl h in
      going_if Holds (sc.rules.drop_silent && is_member s) _ _
      (λ drops.
      let member : s.status ≡ status.Member = member_is s.status (and_right sc.rules.drop_silent (is_member s) drops) in
      on_dropped P c.noted c.leaves call.to (call_over sc number call) mid member (λ none. absurd (has_none s.via none (has_via member))) g
      (λ succ fingers lines k.
      on_timed_out number call.to call.purpose
      (without_call number (record mid { state = record mid.state { succ = succ; fingers = fingers }; lines = lines })) refl its joins others
      (λ join. absurd (not_both s.status (joins join) member))
      (c.over (record (facts mid) { lines = lines }) number is k)))
      (λ keeps. on_timed_out number call.to call.purpose (without_call number mid) refl its joins others (λ join. refl) (c.over (facts mid) number is g))

  -- Requests

  on_at_member : (k : MessageKind) (sender : ℕ) (turn after : Turn) → Holds after → Holds turn
      → Holds (if is_member turn.state then after else noted (line.Drop k sender) turn)
  on_at_member k sender turn after g h =
      going_if Holds (is_member turn.state) _ _ (λ member. g) (λ other. on_line (line.Drop k sender) turn refl h)

  on_step_asked : (sender number key : ℕ) (avoid : List ℕ) (turn : Turn) → Holds turn → Holds (step_asked sc sender number key avoid turn)
  unfolding step_asked
  on_step_asked sender number key avoid turn h = on_at_member kind.Step sender turn _ (on_sent kind.StepReply sender _ turn refl h) h

  on_state_asked : (sender number : ℕ) (turn : Turn) → Holds turn → Holds (state_asked sc sender number turn)
  unfolding state_asked
  on_state_asked sender number turn h = on_at_member kind.GetState sender turn _ (on_sent kind.StateReply sender _ turn refl h) h

  on_list_asked : (sender number : ℕ) (turn : Turn) → Holds turn → Holds (list_asked sc sender number turn)
  unfolding list_asked
  on_list_asked sender number turn h = on_at_member kind.GetList sender turn _ (on_sent kind.ListReply sender _ turn refl h) h

  on_pinged : (sender number : ℕ) (turn : Turn) → Holds turn → Holds (pinged sc sender number turn)
  unfolding pinged
  on_pinged sender number turn h = on_at_member kind.Ping sender turn _ (on_sent kind.Pong sender _ turn refl h) h

  on_notifier_met : (sender : ℕ) (o : Option ℕ) (turn : Turn) → Holds turn → Holds (notifier_met sc sender o turn)
  on_notifier_met sender None turn h = h
  on_notifier_met sender (Some prdc) turn h =
      going_if Holds (between sc.bits (ident_of sc prdc) (ident_of sc sender) (ident_of sc turn.state.me)) _ _
      (λ closer. h)
      (λ farther. going_if Holds (not (sender == prdc) && not (has_ping_call turn.state)) _ turn
      (λ asks. on_called prdc request.Ping (purpose.Ping sender) turn h)
      (λ waits. h))

  on_notified : (sender : ℕ) (turn : Turn) → Holds turn → Holds (notified sc sender turn)
  unfolding notified
  on_notified sender turn h = on_at_member kind.Notify sender turn _ (on_notifier_met sender turn.state.prdc turn h) h

  on_leave_heard : (sender : ℕ) (prdc : Option ℕ) (list : List ℕ) (turn : Turn) → Holds turn → Holds (leave_heard sc sender prdc list turn)
  unfolding leave_heard
  on_leave_heard sender prdc list turn h =
      going_if Holds (is_member turn.state) _ _
      (λ is.
      on_dropped Q c.quiet c.strands sender (λ t. t) (with_heirs sc sender prdc list turn) (member_is turn.state.status is) (λ none k. k) h
      (λ succ fingers lines k. k))
      (λ other. on_line (line.Drop kind.Leave sender) turn refl h)

  -- Replies

  on_join_asked : (next : ℕ) (attempt : Attempt) (turn : Turn) → turn.state.status ≡ status.Joining → telling turn.lines ≡ 0 → Holds turn
      → Holds (join_asked sc next attempt turn)
  unfolding join_asked
  on_join_asked next attempt turn joining still h =
      going_if Holds (nat_lt attempt.steps most_steps) _ _
      (λ few. on_called next (own_step sc attempt.avoid turn.state) purpose.JoinStep (with_attempt (record attempt { steps = attempt.steps + 1 }) turn) h)
      (λ many. on_join_failed attempt turn joining still h)

  on_join_followed : (to : ℕ) (a : Answer) (attempt : Attempt) (turn : Turn) → turn.state.status ≡ status.Joining → telling turn.lines ≡ 0 → Holds turn
      → Holds (join_followed sc to a attempt turn)
  unfolding join_followed
  on_join_followed to (answer.Owner owner) attempt turn joining still h =
      on_called to request.GetList purpose.JoinList (with_attempt attempt turn) h
  on_join_followed to (answer.Next next) attempt turn joining still h = on_join_asked next attempt turn joining still h
  on_join_followed to answer.Stuck attempt turn joining still h = on_join_failed attempt turn joining still h

  on_join_answered : (to : ℕ) (a : Answer) (turn : Turn) → turn.state.status ≡ status.Joining → telling turn.lines ≡ 0 → Holds turn
      → Holds (join_answered sc to a turn)
  unfolding join_answered
  on_join_answered to a turn joining still h =
      on_for_attempt (λ attempt. join_followed sc to a (heard attempt)) turn h
      (λ attempt. on_join_followed to a (heard attempt) (without_attempt turn) joining still h)

  on_lookup_answered : (from : ℕ) (a : Answer) (place : ℕ) (lookup : Lookup) (turn : Turn) → R lookup (facts turn)
      → Holds (lookup_answered sc from a place lookup turn)
  unfolding lookup_answered
  on_lookup_answered from a place lookup turn r =
      let alike : IsSame lookup (arrived sc from a lookup) = record { key = refl; aim = refl; started = refl; steps = refl } in
      let r2 = c.same (facts turn) lookup (arrived sc from a lookup) alike r in
      going_if Holds (sc.rules.goes_on && is_stuck a) _ _
      (λ stuck. on_lookup_diverted from place (arrived sc from a lookup) turn r2)
      (λ goes. on_lookup_followed place (arrived sc from a lookup) a turn r2)

  on_owner_answered : (owner : ℕ) (prdc : Option ℕ) (place : ℕ) (lookup : Lookup) (turn : Turn) → R lookup (facts turn)
      → Holds (owner_answered sc owner prdc place lookup turn)
  unfolding owner_answered
  on_owner_answered owner None place lookup turn r = on_lookup_finished lookup owner turn r
  on_owner_answered owner (Some prdc) place lookup turn r =
      going_if Holds (is_handed_over sc lookup owner prdc) _ _
      (λ hands. on_lookup_asked place lookup prdc purpose.Owner turn r)
      (λ keeps. on_lookup_finished lookup owner turn r)

  on_replied : (k : MessageKind) (sender number : ℕ) (step : Call → Turn → Turn) (o : Option Call) → answered_call k number s ≡ o
      → ((call : Call) → answers k call.purpose ≡ true → call_of number s ≡ Some call → call.number ≡ number
      → Holds (step call (without_call number (opening s e)))) → Holds (opening s e) → Holds (replied k sender step o (opening s e))
  on_replied k sender number step None is go h =
      going_if Holds (is_down s) _ _
      (λ down. on_line (line.Drop k sender) (opening s e) refl h)
      (λ up. on_line (line.Late k sender) (opening s e) refl h)
  on_replied k sender number step (Some call) is go h =
      let answered : IsAnswered k number s call = answered_is k number s call is in
      let same : call.number ≡ number = found_number number call s answered.found in
      subst (λ (n : ℕ). Holds (step call (without_call n (opening s e)))) (sym same) (go call answered.asked answered.found same)

  on_answered_for : (a : Answer) (call : Call) (wanted : Purpose) (turn : Turn) → answers kind.StepReply wanted ≡ true → turn.state.lookups ≡ s.lookups
      → concerns e.body call.number ≡ true → (is_for_join wanted ≡ true → turn.state.status ≡ status.Joining) → telling turn.lines ≡ 0 → Holds turn
      → Holds (answered_for sc a call wanted turn)
  on_answered_for a call purpose.Lookup turn replies first is joins still h =
      on_with_lookup call.number (lookup_answered sc call.to a) turn first is (λ place lookup t. on_lookup_answered call.to a place lookup t) h
  on_answered_for a call purpose.JoinStep turn replies first is joins still h = on_join_answered call.to a turn (joins refl) still h
  on_answered_for a call _ turn replies first is joins still h = absurd (cc)

  on_predecessor_told : (prdc : ℕ) (list : List ℕ) (call : Call) (turn : Turn) → Holds turn → Holds (predecessor_told sc prdc list call turn)
  unfolding predecessor_told
  on_predecessor_told prdc list call turn h =
      let taken : Turn = successors_taken sc call.to list turn in
      going_if Holds (between sc.bits (ident_of sc turn.state.me) (ident_of sc prdc) (ident_of sc call.to)) _ _
      (λ nearer. on_called prdc request.GetList purpose.List taken h)
      (λ farther. on_head_notified taken h)

  on_state_answered : (prdc : Option ℕ) (list : List ℕ) (call : Call) (turn : Turn) → Holds turn → Holds (state_answered sc prdc list call turn)
  unfolding state_answered
  on_state_answered None list call turn h = on_head_notified (successors_taken sc call.to list turn) h
  on_state_answered (Some prdc) list call turn h = on_predecessor_told prdc list call turn h

  on_joined : (behind first : ℕ) (list : List ℕ) (turn : Turn) → turn.state.status ≡ status.Joining → Holds turn
      → Holds (joined sc behind first list turn)
  on_joined behind first list turn joining h =
      c.quiet (record (facts turn) { is = status.Member }) (line.Member behind ∷ []) refl (c.member (facts turn) joining h)

  on_head_met : (behind : ℕ) (prdc : Option ℕ) (list : List ℕ) (call : Call) (turn : Turn) → turn.state.status ≡ status.Joining → Holds turn
      → Holds (head_met sc behind prdc list call turn)
  unfolding head_met
  on_head_met behind prdc list call turn joining h =
      on_state_answered prdc list call (joined sc behind call.to (call.to ∷ []) turn) (on_joined behind call.to (call.to ∷ []) turn joining h)

  on_state_answered_for : (prdc : Option ℕ) (list : List ℕ) (call : Call) (wanted : Purpose) (turn : Turn) → answers kind.StateReply wanted ≡ true
      → turn.state.lookups ≡ s.lookups → concerns e.body call.number ≡ true → (is_for_join wanted ≡ true → turn.state.status ≡ status.Joining)
      → Holds turn → Holds (state_answered_for sc prdc list call wanted turn)
  on_state_answered_for prdc list call purpose.State turn replies first is joins h = on_state_answered prdc list call turn h
  on_state_answered_for prdc list call purpose.Owner turn replies first is joins h =
      on_with_lookup call.number (owner_answered sc call.to prdc) turn first is (λ place lookup t. on_owner_answered call.to prdc place lookup t) h
  on_state_answered_for prdc list call (purpose.JoinHead behind) turn replies first is joins h = on_head_met behind prdc list call turn (joins refl) h
  on_state_answered_for prdc list call _ turn replies first is joins h = absurd (cc)

  on_place_found : (behind first : ℕ) (list : List ℕ) (attempt : Attempt) (turn : Turn) → turn.state.status ≡ status.Joining → Holds turn
      → Holds (place_found sc behind first list attempt turn)
  unfolding place_found
  on_place_found behind first list attempt turn joining h =
      going_if Holds _ _ _
      (λ asks. on_called first request.GetState (purpose.JoinHead behind) (with_attempt attempt turn) h)
      (λ joins. on_joined behind first list turn joining h)

  on_join_list_taken : (to : ℕ) (list : List ℕ) (attempt : Attempt) (turn : Turn) → turn.state.status ≡ status.Joining → telling turn.lines ≡ 0
      → Holds turn → Holds (join_list_taken sc to list attempt turn)
  unfolding join_list_taken
  on_join_list_taken to [] attempt turn joining still h = on_join_failed attempt turn joining still h
  on_join_list_taken to (first ∷ others) attempt turn joining still h =
      going_if Holds (between sc.bits (ident_of sc to) (ident_of sc turn.state.me) (ident_of sc first)) _ _
      (λ fits. on_place_found to first (first ∷ others) attempt turn joining h)
      (λ fails. on_join_failed attempt turn joining still h)

  on_join_list_answered : (to : ℕ) (list : List ℕ) (turn : Turn) → turn.state.status ≡ status.Joining → telling turn.lines ≡ 0 → Holds turn
      → Holds (join_list_answered sc to list turn)
  unfolding join_list_answered
  on_join_list_answered to list turn joining still h =
      on_for_attempt (λ attempt. join_list_taken sc to (cleaned sc turn.state.me to attempt.avoid list) (heard attempt)) turn h
      (λ attempt. on_join_list_taken to (cleaned sc turn.state.me to attempt.avoid list) (heard attempt) (without_attempt turn) joining still h)

  on_list_answered_for : (list : List ℕ) (to : ℕ) (wanted : Purpose) (turn : Turn) → answers kind.ListReply wanted ≡ true
      → (is_for_join wanted ≡ true → turn.state.status ≡ status.Joining) → telling turn.lines ≡ 0 → Holds turn
      → Holds (list_answered_for sc list to wanted turn)
  unfolding list_answered
  on_list_answered_for list to purpose.List turn replies joins still h = on_head_notified (successors_taken sc to list turn) h
  on_list_answered_for list to purpose.JoinList turn replies joins still h = on_join_list_answered to list turn (joins refl) still h
  on_list_answered_for list to _ turn replies joins still h = absurd (cc)

  -- The rules that act on the calls of a state that meets the invariant

  module _ (known : IsNodeState sc s) where
    joins_with : (number : ℕ) (call : Call) → call_of number s ≡ Some call → is_for_join call.purpose ≡ true → s.status ≡ status.Joining
    joins_with number call found is = joins_by s.status call.purpose is (purpose_of_found sc number call s found known.calls)

    on_timeout : (number : ℕ) → e.body ≡ body.Timeout number → P (facts (opening s e)) → Holds (timeout sc number (opening s e))
    unfolding timeout
    on_timeout number is h = by (call_of number s) refl
      where
        by : (o : Option Call) → call_of number s ≡ o → Holds (when_some o (call_timed_out sc number) (opening s e))
        by None found = c.absent (facts (opening s e)) number is found h
        by (Some call) found =
            let asked : IsAsked number call s.calls s.status s.via s.join = asked_by sc number call s found known in
            going_if Holds (nat_lt call.resent sc.retries) _ _
            (λ again. on_call_repeated number call is found (request_known sc number call call.purpose s refl asked known) h)
            (λ over. on_call_given_up number call is asked.joins asked.others (λ member. asked.has_via) h)

    on_step_replied : (sender number : ℕ) (a : Answer) → e.body ≡ body.StepReply number a → Holds (opening s e)
        → Holds (step_replied sc sender number a (opening s e))
    unfolding step_replied
    on_step_replied sender number a is h =
        on_replied kind.StepReply sender number (λ call. answered_for sc a call call.purpose) (answered_call kind.StepReply number s) refl
        (λ call replies found same.
        on_answered_for a call call.purpose (without_call number (opening s e)) replies refl
        (ap (λ (b : Body). concerns b call.number) is ∙ ap (λ (n : ℕ). number == n) same ∙ same_node number) (joins_with number call found) refl
        (c.without (facts (opening s e)) number h)) h

    on_state_replied : (sender number : ℕ) (prdc : Option ℕ) (list : List ℕ) → e.body ≡ body.StateReply number prdc list → Holds (opening s e)
        → Holds (state_replied sc sender number prdc list (opening s e))
    unfolding state_replied
    on_state_replied sender number prdc list is h =
        on_replied kind.StateReply sender number (λ call. state_answered_for sc prdc list call call.purpose) (answered_call kind.StateReply number s) refl
        (λ call replies found same.
        on_state_answered_for prdc list call call.purpose (without_call number (opening s e)) replies refl
        (ap (λ (b : Body). concerns b call.number) is ∙ ap (λ (n : ℕ). number == n) same ∙ same_node number) (joins_with number call found)
        (c.without (facts (opening s e)) number h)) h

    on_list_replied : (sender number : ℕ) (list : List ℕ) → Holds (opening s e) → Holds (list_replied sc sender number list (opening s e))
    unfolding list_replied
    on_list_replied sender number list h =
        on_replied kind.ListReply sender number (λ call. list_answered_for sc list call.to call.purpose) (answered_call kind.ListReply number s) refl
        (λ call replies found same.
        on_list_answered_for list call.to call.purpose (without_call number (opening s e)) replies (joins_with number call found) refl
        (c.without (facts (opening s e)) number h)) h

    on_ponged : (sender number : ℕ) → Holds (opening s e) → Holds (ponged sender number (opening s e))
    unfolding ponged
    on_ponged sender number h =
        on_replied kind.Pong sender number (λ call. λ t. t) (answered_call kind.Pong number s) refl
        (λ call replies found same. c.without (facts (opening s e)) number h) h

    -- The whole table

    on_acted : (sender : ℕ) (message : Body) → e.body ≡ message → (is_timeout message ≡ false → Holds (opening s e)) → P (facts (opening s e))
        → Holds (acted sc sender message (opening s e))
    on_acted sender (body.CmdJoin via) is h p = on_cmd_join via (h refl)
    on_acted sender body.CmdCrash is h p = on_cmd_crash (h refl)
    on_acted sender body.CmdLeave is h p = on_cmd_leave (h refl)
    on_acted sender (body.CmdLookup key) is h p = on_cmd_lookup key (opening s e) (h refl)
    on_acted sender (body.StabilizeTick epoch) is h p = on_stabilize_tick epoch (opening s e) (h refl)
    on_acted sender (body.FingerTick epoch) is h p = on_finger_tick epoch (opening s e) (h refl)
    on_acted sender (body.TrafficTick epoch) is h p = on_traffic_tick epoch (opening s e) (h refl)
    on_acted sender (body.LifeEnd epoch) is h p = on_life_end epoch (h refl)
    on_acted sender (body.Rise epoch) is h p = on_rise epoch (h refl)
    on_acted sender (body.CheckTick epoch) is h p = on_check_tick epoch (opening s e) (h refl)
    on_acted sender (body.Rejoin epoch) is h p = on_rejoin epoch (opening s e) (h refl)
    on_acted sender (body.Timeout number) is h p = on_timeout number is p
    on_acted sender (body.Step number key avoid) is h p = on_step_asked sender number key avoid (opening s e) (h refl)
    on_acted sender (body.GetState number) is h p = on_state_asked sender number (opening s e) (h refl)
    on_acted sender (body.GetList number) is h p = on_list_asked sender number (opening s e) (h refl)
    on_acted sender (body.Ping number) is h p = on_pinged sender number (opening s e) (h refl)
    on_acted sender body.Notify is h p = on_notified sender (opening s e) (h refl)
    on_acted sender (body.Leave prdc list) is h p = on_leave_heard sender prdc list (opening s e) (h refl)
    on_acted sender (body.StepReply number a) is h p = on_step_replied sender number a is (h refl)
    on_acted sender (body.StateReply number prdc list) is h p = on_state_replied sender number prdc list is (h refl)
    on_acted sender (body.ListReply number list) is h p = on_list_replied sender number list (h refl)
    on_acted sender (body.Pong number) is h p = on_ponged sender number (h refl)

    on_detailed : (turn : Turn) → Holds turn → Holds (detailed sc turn)
    unfolding detailed
    on_detailed turn h =
        going_if Holds sc.detail _ turn
        (λ tells. c.quiet (facts turn) (message_lines turn.state turn.events) (detail_is_still turn.state turn.events) h)
        (λ silent. h)

    -- what each step keeps holds at the end of the event
    pub on_effect : P (facts (opening s e)) → Q (facts (effect sc s e))
    unfolding effect
    on_effect h =
        on_detailed (acted sc (e.key.origin - 2) e.body (opening s e))
        (on_acted (e.key.origin - 2) e.body refl (λ other. c.opens (facts (opening s e)) other h) h)
