-- A member that has a predecessor keeps one, unless it forgets a silent one, the predecessor leaves, or the member is stranded.
use Rattle.std.proofs.Common.{◌≡◌, ◌==◌, ◌&&◌, ◌||◌, ◌⊎◌, inl, inr, not, Bool, true, false, ℕ, ◌-◌, ◌≤◌, nat_lt, length, map, max, List, [], ◌∷◌, ◌++◌, Option, Some, None, refl, sym, ◌∙◌, ap, subst, arith}
use Rattle.std.proofs.lemmas.Bool.Decides.{nat_tests}
use Rattle.std.specs.Prelude.{IsSome, is_some, position, slice_get, if◌then◌else◌}
use Rattle.std.specs.List.{Contains, count_by}
use Rattle.chord_circle.specs.Circle.{between, finger_start}
use Rattle.chord_event.specs.declared.body.Answer.{Answer}
use Rattle.chord_event.specs.declared.body.Answer.TheVariants as answer
use Rattle.chord_event.specs.declared.body.Body.{Body}
use Rattle.des_event.specs.declared.event.Event.{Event}
use Rattle.chord_event.specs.declared.body.Body.TheVariants as body
use Rattle.chord_event.specs.declared.line.CommandKind.TheVariants as command
use Rattle.chord_event.specs.declared.line.Line.{Line}
use Rattle.chord_event.specs.declared.line.Line.TheVariants as line
use Rattle.chord_event.specs.declared.line.MessageKind.{MessageKind}
use Rattle.chord_event.specs.declared.line.MessageKind.TheVariants as kind
use Rattle.des_event.proofs.Members.{contains_here, contains_left, contains_right}
use Rattle.chord_scenario.specs.declared.scenario.Scenario.{Scenario}
use Rattle.chord_scenario.specs.Draws.{leave_number}
use Rattle.chord_scenario.specs.World.{ident_of, is_churn_node}
use Rattle.chord_node.specs.declared.state.Aim.{Aim}
use Rattle.chord_node.specs.declared.state.Aim.TheVariants as aim
use Rattle.chord_node.specs.declared.state.Call.{Call}
use Rattle.chord_node.specs.declared.state.Lookup.{Lookup}
use Rattle.chord_node.specs.declared.state.NodeState.{NodeState}
use Rattle.chord_node.specs.declared.state.Status.{Status}
use Rattle.chord_node.specs.declared.state.Status.TheVariants as status
use Rattle.chord_node.specs.declared.state.Purpose.{Purpose}
use Rattle.chord_node.specs.declared.state.Purpose.TheVariants as purpose
use Rattle.chord_node.specs.Invariant.{IsNodeState, IsPurposeOf, is_for_join, is_user}
use Rattle.chord_node.specs.Limits.{most_lookup_steps, most_user_lookups}
use Rattle.chord_ops.specs.declared.turn.Request.{Request}
use Rattle.chord_ops.specs.declared.turn.Request.TheVariants as request
use Rattle.chord_ops.specs.declared.turn.Turn.{Turn}
use Rattle.chord_ops.specs.Procedures.{alone, call_of, check_armed, created, departed, finger_armed, fresh_lookup, holds, join_begun, other_via, own_step, rise_armed, stabilize_armed, stranded, stranded_lines, traffic_armed, without_call, lookup_asked, lookup_begun, lookup_diverted, lookup_failed, lookup_finished, lookup_finished_for, lookup_followed, lookup_led, lookup_request, lookup_resumed, lookup_walked, past, user_lookup, with_lookup, without_lookup}
use Rattle.chord_ops.specs.Search.{step_answer}
use Rattle.chord_ops.specs.Detail.{detailed, message_lines}
use Rattle.chord_ops.specs.Passages.{ForgetsSilent, IsStranded, PredecessorLeaves}
use Rattle.chord_ops.specs.Rules.{acted, answered_call, answered_for, arrived, asked_again, call_given_up, call_over, call_repeated, call_timed_out, check_tick, check_timed_out, cmd_crash, cmd_join, cmd_leave, cmd_lookup, dropped, dropped_by, effect, finger_after, finger_rotated, finger_tick, finger_turned, first_in_turn, has_finger_lookup, has_join_call, has_ping_call, has_repair_call, head, head_asked, head_notified, inherited, is_down, is_down_status, is_handed_over, is_joining, is_joining_status, is_member, is_stuck, is_void, key_words, leave_heard, life_end, life_over, list_after, list_answered, list_answered_for, list_asked, list_left, list_replied, lookup_answered, lookup_timed_out, near_covered, notified, notifier_met, once_more, opening, owner_answered, ping_timed_out, pinged, ponged, predecessor_told, predecessor_weighed, random_key, random_lookup, rejoin, replied, request_again, rescue_lines, rescuer, rise, sent_once_more, stabilize_tick, state_answered, state_answered_for, state_asked, state_replied, state_timed_out, step_asked, step_replied, successors_taken, taken_over, timed_out, timeout, traffic_tick, with_heirs, without_silent}
use Rattle.chord_ops.specs.Turns.{after_words, called, kind_of, noted, sent, timer_made, when_some}
use Rattle.chord_ops.proofs.KeptJoins.{purpose_of_found, same_check_armed, same_traffic_armed}
use Rattle.chord_ops.proofs.KeptRules.{not_false, or_false}
use Rattle.chord_ops.proofs.KeptTable.{answered_is}
use Rattle.chord_ops.proofs.Leavers.{not_inherited}
use Rattle.chord_ops.proofs.Ongoing.{going_if, going_when}
use Rattle.chord_ops.proofs.Sending.{asked_as, called_as, sent_as}

-- a member with a predecessor, or a node that is down
abbrev StaysWith : Status → Option ℕ → Type 0
StaysWith status.Down prdc = Unit {0}
StaysWith status.Joining prdc = ⊥
StaysWith status.Member prdc = IsSome prdc

abbrev HasPrdc : Turn → Type 0
HasPrdc turn = StaysWith turn.state.status turn.state.prdc

module _ (sc : Scenario) where
  stays_called : (to : ℕ) (request : Request) (wanted : Purpose) (turn : Turn) → HasPrdc turn → HasPrdc (called sc to request wanted turn)
  stays_called to request wanted turn h = called_as HasPrdc sc to request wanted turn (λ delay place late near. h) (λ place near. h)

  stays_sent : (k : MessageKind) (to : ℕ) (message : Body) (turn : Turn) → HasPrdc turn → HasPrdc (sent sc k to message turn)
  stays_sent k to message turn h = sent_as HasPrdc sc k to message turn (λ delay place late near. h) (λ place near. h)

  stays_lookup_failed : (lookup : Lookup) (turn : Turn) → HasPrdc turn → HasPrdc (lookup_failed lookup turn)
  unfolding lookup_failed
  stays_lookup_failed lookup turn h = h

  stays_lookup_finished_for : (aim : Aim) (lookup : Lookup) (owner : ℕ) (turn : Turn) → HasPrdc turn
      → HasPrdc (lookup_finished_for aim lookup owner turn)
  stays_lookup_finished_for aim.User lookup owner turn h = h
  stays_lookup_finished_for (aim.Finger index) lookup owner turn h = h

  stays_lookup_finished : (lookup : Lookup) (owner : ℕ) (turn : Turn) → HasPrdc turn
      → HasPrdc (lookup_finished lookup owner turn)
  unfolding lookup_finished
  stays_lookup_finished lookup owner turn h = stays_lookup_finished_for lookup.aim lookup owner turn h

  stays_lookup_asked : (place : ℕ) (lookup : Lookup) (to : ℕ) (wanted : Purpose) (turn : Turn) → HasPrdc turn
      → HasPrdc (lookup_asked sc place lookup to wanted turn)
  unfolding lookup_asked
  stays_lookup_asked place lookup to wanted turn h =
      going_if (HasPrdc) (nat_lt lookup.steps (most_lookup_steps sc)) _ (lookup_failed lookup turn)
      (λ few. stays_called to (lookup_request wanted lookup) wanted turn h)
      (λ many. stays_lookup_failed lookup turn h)

  stays_lookup_led : (place : ℕ) (lookup : Lookup) (owner : ℕ) (turn : Turn) → HasPrdc turn
      → HasPrdc (lookup_led sc place lookup owner turn)
  unfolding lookup_led
  stays_lookup_led place lookup owner turn h =
      going_if (HasPrdc) (sc.rules.ask_owner && is_user lookup) _ _
      (λ asks. stays_lookup_asked place lookup owner purpose.Owner turn h)
      (λ ends. stays_lookup_finished lookup owner turn h)

  stays_lookup_followed : (place : ℕ) (lookup : Lookup) (a : Answer) (turn : Turn) → HasPrdc turn
      → HasPrdc (lookup_followed sc place lookup a turn)
  unfolding lookup_followed
  stays_lookup_followed place lookup (answer.Owner owner) turn h = stays_lookup_led place lookup owner turn h
  stays_lookup_followed place lookup (answer.Next next) turn h = stays_lookup_asked place lookup next purpose.Lookup turn h
  stays_lookup_followed place lookup answer.Stuck turn h = stays_lookup_failed lookup turn h

  stays_lookup_walked : (place : ℕ) (lookup : Lookup) (turn : Turn) → HasPrdc turn
      → HasPrdc (lookup_walked sc place lookup turn)
  unfolding lookup_walked
  stays_lookup_walked place lookup turn h = stays_lookup_followed place lookup (step_answer sc turn.state lookup.key lookup.avoid) turn h

  stays_lookup_resumed : (place : ℕ) (lookup : Lookup) (o : Option ℕ) (turn : Turn) → HasPrdc turn
      → HasPrdc (lookup_resumed sc place lookup o turn)
  stays_lookup_resumed place lookup None turn h = stays_lookup_walked place lookup turn h
  stays_lookup_resumed place lookup (Some last) turn h = stays_lookup_asked place lookup last purpose.Lookup turn h

  stays_lookup_diverted : (node place : ℕ) (lookup : Lookup) (turn : Turn) → HasPrdc turn
      → HasPrdc (lookup_diverted sc node place lookup turn)
  unfolding lookup_diverted
  stays_lookup_diverted node place lookup turn h =
      going_if (HasPrdc) (nat_lt (length lookup.avoid) sc.rules.lookup_timeouts) _ _
      (λ few. stays_lookup_resumed place (past node lookup) (past node lookup).last turn h)
      (λ many. stays_lookup_failed lookup turn h)

  stays_lookup_begun : (key : ℕ) (wanted : Aim) (turn : Turn) → HasPrdc turn
      → HasPrdc (lookup_begun sc key wanted turn)
  unfolding lookup_begun
  stays_lookup_begun key wanted turn h = stays_lookup_walked (length turn.state.lookups) (fresh_lookup key wanted turn.time) turn h

  stays_user_lookup : (key : ℕ) (turn : Turn) → HasPrdc turn → HasPrdc (user_lookup sc key turn)
  unfolding user_lookup
  stays_user_lookup key turn h =
      going_if (HasPrdc) (nat_lt (count_by is_user turn.state.lookups) most_user_lookups) _ _
      (λ few. stays_lookup_begun key aim.User (noted (line.Lookup key) turn) h)
      (λ many. h)

  stays_with_lookup : (number : ℕ) (step : ℕ → Lookup → Turn → Turn) (turn : Turn)
      → ((place : ℕ) (lookup : Lookup) (t : Turn) → HasPrdc t → HasPrdc (step place lookup t))
      → HasPrdc turn → HasPrdc (with_lookup number step turn)
  unfolding with_lookup
  stays_with_lookup number step turn go h =
      going_when (HasPrdc) (position (λ lookup. lookup.call == number) turn.state.lookups) _ turn h
      (λ place found. going_when (HasPrdc) (slice_get turn.state.lookups place) _ turn h
      (λ lookup is. go place lookup (without_lookup place turn) h))

  -- Ticks, requests and replies

  stays_head_notified : (turn : Turn) → HasPrdc turn → HasPrdc (head_notified sc turn)
  unfolding head_notified
  stays_head_notified turn h = going_when HasPrdc (head turn.state) _ turn h (λ first found. stays_sent kind.Notify first body.Notify turn h)

  stays_near_covered : (first : ℕ) (turn : Turn) → HasPrdc turn → HasPrdc (near_covered first turn)
  unfolding near_covered
  stays_near_covered first turn h = going_when HasPrdc (head turn.state) _ turn h (λ node found. h)

  stays_finger_rotated : (first : ℕ) (turn : Turn) → HasPrdc turn → HasPrdc (finger_rotated sc first turn)
  unfolding finger_turned
  stays_finger_rotated first turn h =
      going_if HasPrdc (nat_lt sc.bits (max turn.state.next_finger first)) _ _
      (λ covers. stays_near_covered first turn h)
      (λ goes.
      let covered : Turn = near_covered first turn in
      let index : ℕ = max turn.state.next_finger first in
      stays_lookup_begun (finger_start sc.bits (ident_of sc covered.state.me) index) (aim.Finger index)
      (record covered { state = record covered.state { next_finger = finger_after sc.bits index } }) (stays_near_covered first turn h))

  stays_predecessor_weighed : (sender prdc : ℕ) (turn : Turn) → turn.state.status ≡ status.Member → HasPrdc turn
      → HasPrdc (predecessor_weighed sc sender prdc turn)
  stays_predecessor_weighed sender prdc turn member h =
      going_if HasPrdc (between sc.bits (ident_of sc prdc) (ident_of sc sender) (ident_of sc turn.state.me)) _ _
      (λ closer. subst (λ (s : Status). StaysWith s (Some sender)) (sym member) refl)
      (λ farther. going_if HasPrdc (not (sender == prdc) && not (has_ping_call turn.state)) _ turn
      (λ asks. stays_called prdc request.Ping (purpose.Ping sender) turn h)
      (λ idle. h))

  stays_notifier_met : (sender : ℕ) (o : Option ℕ) (turn : Turn) → turn.state.status ≡ status.Member → HasPrdc turn → HasPrdc (notifier_met sc sender o turn)
  stays_notifier_met sender None turn member h = subst (λ (s : Status). StaysWith s (Some sender)) (sym member) refl
  stays_notifier_met sender (Some prdc) turn member h = stays_predecessor_weighed sender prdc turn member h

  stays_lookup_answered : (from : ℕ) (a : Answer) (place : ℕ) (lookup : Lookup) (turn : Turn) → HasPrdc turn
      → HasPrdc (lookup_answered sc from a place lookup turn)
  unfolding lookup_answered
  stays_lookup_answered from a place lookup turn h =
      going_if HasPrdc (sc.rules.goes_on && is_stuck a) _ _
      (λ stuck. stays_lookup_diverted from place (arrived sc from a lookup) turn h)
      (λ goes. stays_lookup_followed place (arrived sc from a lookup) a turn h)

  stays_owner_answered : (owner : ℕ) (prdc : Option ℕ) (place : ℕ) (lookup : Lookup) (turn : Turn) → HasPrdc turn
      → HasPrdc (owner_answered sc owner prdc place lookup turn)
  unfolding owner_answered
  stays_owner_answered owner None place lookup turn h = stays_lookup_finished lookup owner turn h
  stays_owner_answered owner (Some prdc) place lookup turn h =
      going_if HasPrdc (is_handed_over sc lookup owner prdc) _ _
      (λ hands. stays_lookup_asked place lookup prdc purpose.Owner turn h)
      (λ keeps. stays_lookup_finished lookup owner turn h)

  stays_answered_for : (a : Answer) (call : Call) (wanted : Purpose) (turn : Turn) → is_for_join wanted ≡ false → HasPrdc turn
      → HasPrdc (answered_for sc a call wanted turn)
  stays_answered_for a call purpose.Lookup turn other h =
      stays_with_lookup call.number (lookup_answered sc call.to a) turn (λ place lookup t. stays_lookup_answered call.to a place lookup t) h
  stays_answered_for a call purpose.JoinStep turn other h = absurd (cc)
  stays_answered_for a call _ turn other h = h

  stays_state_answered : (prdc : Option ℕ) (list : List ℕ) (call : Call) (turn : Turn) → HasPrdc turn → HasPrdc (state_answered sc prdc list call turn)
  unfolding state_answered predecessor_told
  stays_state_answered None list call turn h = stays_head_notified (successors_taken sc call.to list turn) h
  stays_state_answered (Some prdc) list call turn h =
      going_if HasPrdc (between sc.bits (ident_of sc turn.state.me) (ident_of sc prdc) (ident_of sc call.to)) _ _
      (λ nearer. stays_called prdc request.GetList purpose.List (successors_taken sc call.to list turn) h)
      (λ farther. stays_head_notified (successors_taken sc call.to list turn) h)

  stays_state_answered_for : (prdc : Option ℕ) (list : List ℕ) (call : Call) (wanted : Purpose) (turn : Turn) → is_for_join wanted ≡ false → HasPrdc turn
      → HasPrdc (state_answered_for sc prdc list call wanted turn)
  stays_state_answered_for prdc list call purpose.State turn other h = stays_state_answered prdc list call turn h
  stays_state_answered_for prdc list call purpose.Owner turn other h =
      stays_with_lookup call.number (owner_answered sc call.to prdc) turn (λ place lookup t. stays_owner_answered call.to prdc place lookup t) h
  stays_state_answered_for prdc list call (purpose.JoinHead behind) turn other h = absurd (cc)
  stays_state_answered_for prdc list call _ turn other h = h

  stays_list_answered_for : (list : List ℕ) (to : ℕ) (wanted : Purpose) (turn : Turn) → is_for_join wanted ≡ false → HasPrdc turn
      → HasPrdc (list_answered_for sc list to wanted turn)
  unfolding list_answered
  stays_list_answered_for list to purpose.List turn other h = stays_head_notified (successors_taken sc to list turn) h
  stays_list_answered_for list to purpose.JoinList turn other h = absurd (cc)
  stays_list_answered_for list to _ turn other h = h

-- A member that may be stranded

-- it has a predecessor, or its lines say that it is stranded
abbrev Ends : Turn → Type 0
Ends turn = HasPrdc turn ⊎ IsStranded turn.lines

stranded_more : (lines more : List Line) → IsStranded lines → IsStranded (lines ++ more)
stranded_more lines more h = record { via = h.via; told = contains_left lines more (line.Stranded h.via) h.told }

stranded_begun : (sc : Scenario) (avoid : List ℕ) (via : ℕ) (turn : Turn) → IsStranded turn.lines → IsStranded (join_begun sc avoid via turn).lines
unfolding join_begun created
stranded_begun sc avoid via turn h =
    going_if (λ t. IsStranded t.lines) (via == turn.state.me) _ _
    (λ own. stranded_more turn.lines (line.Create ∷ []) h)
    (λ other. called_as (λ t. IsStranded t.lines) sc via (own_step sc avoid turn.state) purpose.JoinStep turn
    (λ delay place late near. h)
    (λ place near. stranded_more turn.lines _ h))

stranded_is : (sc : Scenario) (via : ℕ) (turn : Turn) → IsStranded (stranded sc via turn).lines
unfolding stranded
stranded_is sc via turn =
    let next : ℕ = other_via sc turn.state.me via in
    stranded_begun sc [] next (record turn { state = alone next turn.state; lines = turn.lines ++ stranded_lines next turn.time turn.state.lookups })
    (record {
      via = next;
      told = contains_right turn.lines (stranded_lines next turn.time turn.state.lookups) (line.Stranded next) (contains_here (line.Stranded next) _);
    })

module _ (sc : Scenario) where
  ends_head_asked : (first : Option ℕ) (turn : Turn) → HasPrdc turn → Ends (head_asked sc first turn)
  ends_head_asked None turn h = going_when Ends turn.state.via (stranded sc) turn (inl h) (λ via found. inr (stranded_is sc via turn))
  ends_head_asked (Some first) turn h = inl (stays_called sc first request.GetState purpose.State turn h)

  ends_dropped : (silent : ℕ) (step : Turn → Turn) (P : Turn → Type 0) (turn : Turn) → HasPrdc turn → ((t : Turn) → Ends t → P t)
      → ((succ fingers : List ℕ) (lines : List Line)
      → P (step (record turn { state = record turn.state { succ = succ; fingers = fingers }; lines = lines })))
      → P (dropped sc silent step turn)
  unfolding dropped list_left
  ends_dropped silent step P turn h ends go = by (slice_get (list_after sc silent turn.state) 0)
    where
      by : (o : Option ℕ) → P (dropped_by sc silent step o (list_left sc silent turn))
      by None =
          ends (when_some turn.state.via (stranded sc) (list_left sc silent turn))
          (going_when Ends turn.state.via (stranded sc) (list_left sc silent turn) (inl h) (λ via found. inr (stranded_is sc via (list_left sc silent turn))))
      by (Some first) =
          go (list_after sc silent turn.state) (map (λ x. if x == silent then first else x) turn.state.fingers)
          (turn.lines ++ rescue_lines (rescuer sc silent turn.state))

module _ (sc : Scenario) (s : NodeState) (e : Event Body) (prdc : ℕ) (known : IsNodeState sc s) (member : s.status ≡ status.Member)
    (has : s.prdc ≡ Some prdc) where
  -- the ways in which a member loses its predecessor
  abbrev Lost : List Line → Type 0
  Lost lines = ForgetsSilent sc s e lines prdc ⊎ PredecessorLeaves e prdc ⊎ IsStranded lines

  abbrev Out : Turn → Type 0
  Out turn = turn.state.status ≡ status.Member → turn.state.prdc ≡ None → Lost turn.lines

  stays_opening : StaysWith s.status s.prdc
  stays_opening = subst (λ (v : Status). StaysWith v s.prdc) (sym member) (subst (λ (o : Option ℕ). IsSome o) (sym has) refl)

  has_none : (v : Status) (o : Option ℕ) → StaysWith v o → v ≡ status.Member → o ≡ None → ⊥
  has_none status.Down o h is none = cc
  has_none status.Joining o h is none = h
  has_none status.Member None h is none = cc
  has_none status.Member (Some x) h is none = cc

  out_ends : (turn : Turn) → Ends turn → Out turn
  out_ends turn (inl h) is none = absurd (has_none turn.state.status turn.state.prdc h is none)
  out_ends turn (inr h) is none = inr (inr h)

  out_has : (turn : Turn) → HasPrdc turn → Out turn
  out_has turn h = out_ends turn (inl h)

  -- the turn with another list and other fingers
  abbrev over : (succ fingers : List ℕ) → List Line → Turn
  over succ fingers lines = record { time = e.key.time; state = record s { succ = succ; fingers = fingers }; events = []; lines = lines }

  else_member : (call : Call) (number : ℕ) → call_of number s ≡ Some call → is_for_join call.purpose ≡ false
  else_member call number found = subst (λ (v : Status). IsPurposeOf v call.purpose) member (purpose_of_found sc number call s found known.calls)

  out_check : (number : ℕ) (call : Call) (succ fingers : List ℕ) (lines : List Line) → e.body ≡ body.Timeout number → call_of number s ≡ Some call
      → sc.retries ≤ call.resent → call.purpose ≡ purpose.Check → Out (check_timed_out call.to (without_call number (over succ fingers lines)))
  unfolding check_timed_out
  out_check number call succ fingers lines is found last asked =
      going_if Out (holds s.prdc call.to) _ _
      (λ same forgets none.
      let to : (prdc == call.to) ≡ true = ap (λ (o : Option ℕ). holds o call.to) (sym has) ∙ same in
      inl (record {
        number = number;
        call = call;
        is = is;
        found = found;
        asked = asked;
        to = grind (arith, nat_tests);
        last = last;
        told = subst (λ (n : ℕ). Contains (lines ++ line.Forget call.to ∷ []) (line.Forget n)) (grind (arith, nat_tests))
            (contains_right lines (line.Forget call.to ∷ []) (line.Forget call.to) (contains_here (line.Forget call.to) []));
      }))
      (λ other. out_has (without_call number (over succ fingers lines)) stays_opening)

  out_timed_out : (number : ℕ) (call : Call) (wanted : Purpose) (succ fingers : List ℕ) (lines : List Line) → e.body ≡ body.Timeout number
      → call_of number s ≡ Some call → sc.retries ≤ call.resent → call.purpose ≡ wanted → is_for_join wanted ≡ false
      → Out (timed_out sc number call.to wanted (without_call number (over succ fingers lines)))
  unfolding state_timed_out ping_timed_out lookup_timed_out
  out_timed_out number call purpose.Lookup succ fingers lines is found last asked other =
      out_has (timed_out sc number call.to purpose.Lookup (without_call number (over succ fingers lines))) (stays_with_lookup sc number
      (lookup_timed_out sc call.to) (without_call number (over succ fingers lines))
      (λ place lookup t. stays_lookup_diverted sc call.to place (once_more lookup) t) stays_opening)
  out_timed_out number call purpose.Owner succ fingers lines is found last asked other =
      out_has (timed_out sc number call.to purpose.Owner (without_call number (over succ fingers lines))) (stays_with_lookup sc number
      (lookup_timed_out sc call.to) (without_call number (over succ fingers lines))
      (λ place lookup t. stays_lookup_diverted sc call.to place (once_more lookup) t) stays_opening)
  out_timed_out number call purpose.State succ fingers lines is found last asked other =
      let left : Turn = without_silent sc call.to (without_call number (over succ fingers lines)) in
      out_ends (head_asked sc (head left.state) left) (ends_head_asked sc (head left.state) left stays_opening)
  out_timed_out number call purpose.List succ fingers lines is found last asked other =
      out_has (timed_out sc number call.to purpose.List (without_call number (over succ fingers lines))) (stays_head_notified sc (without_call number
      (over succ fingers lines)) stays_opening)
  out_timed_out number call purpose.Check succ fingers lines is found last asked other = out_check number call succ fingers lines is found last asked
  out_timed_out number call (purpose.Ping notifier) succ fingers lines is found last asked other =
      going_if Out (holds s.prdc call.to) _ _
      (λ same as_member none. absurd (cc))
      (λ others. out_has (without_call number (over succ fingers lines)) stays_opening)
  out_timed_out number call _ succ fingers lines is found last asked other = absurd (cc)

  out_timeout : (number : ℕ) → e.body ≡ body.Timeout number → Out (timeout sc number (opening s e))
  unfolding timeout call_given_up call_repeated
  out_timeout number is =
      going_when Out (call_of number s) (call_timed_out sc number) (opening s e) (out_has (opening s e) stays_opening)
      (λ call found.
      going_if Out (nat_lt call.resent sc.retries) _ _
      (λ again. going_when Out (request_again sc number call.purpose s) (asked_again sc number call) (opening s e) (out_has (opening s e) stays_opening)
      (λ request asked. out_has (asked_again sc number call request (opening s e)) (asked_as HasPrdc sc request (sent_once_more number call)
      (noted (line.Again (kind_of request) call.to) (without_call number (opening s e))) (λ delay place late near. stays_opening)
      (λ place near. stays_opening))))
      (λ over.
      let last : sc.retries ≤ call.resent = grind (arith, nat_tests) in
      going_if Out (sc.rules.drop_silent && is_member s) _ _
      (λ drops. ends_dropped sc call.to (call_over sc number call) Out (noted (line.Timeout call.to) (opening s e)) stays_opening out_ends
      (λ succ fingers lines. out_timed_out number call call.purpose succ fingers lines is found last refl (else_member call number found)))
      (λ keeps. out_timed_out number call call.purpose s.succ s.fingers ([] ++ line.Timeout call.to ∷ []) is found last refl (else_member call number found))))

  out_leave_heard : (sender : ℕ) (heir : Option ℕ) (list : List ℕ) → e.body ≡ body.Leave heir list → sender ≡ e.key.origin - 2
      → Out (leave_heard sc sender heir list (opening s e))
  unfolding leave_heard
  out_leave_heard sender heir list is from =
      going_if Out (is_member s) _ _ (λ here. by (holds s.prdc sender) refl) (λ other. out_has (noted (line.Drop kind.Leave sender)
      (opening s e)) stays_opening)
    where
      by : (b : Bool) → holds s.prdc sender ≡ b → Out (taken_over sc sender heir list (opening s e))
      by true same =
          let to : (prdc == sender) ≡ true = ap (λ (o : Option ℕ). holds o sender) (sym has) ∙ same in
          let this : prdc ≡ sender = grind (arith, nat_tests) in
          λ forgets none. inr (inl (record { heir = heir; list = list; is = is; from = sym from ∙ sym this }))
      by false other =
          let g : StaysWith s.status (inherited sender heir s.prdc) =
          subst (λ (o : Option ℕ). StaysWith s.status o) (sym (not_inherited sender heir s.prdc other)) stays_opening in
          ends_dropped sc sender (λ t. t) Out (with_heirs sc sender heir list (opening s e)) g out_ends
          (λ succ fingers lines. out_has (record (with_heirs sc sender heir list (opening s e)) {
            state = record (with_heirs sc sender heir list
                (opening s e)).state { succ = succ; fingers = fingers };
            lines = lines;
          }) g)

  -- the rest of the table keeps a predecessor

  no_way : (b : Bool) → b ≡ true → b ≡ false → ⊥
  no_way b is other = let both : true ≡ false = sym is ∙ other in cc

  is_up : is_down s ≡ false
  is_up = ap is_down_status member

  no_joiner : is_joining s ≡ false
  no_joiner = ap is_joining_status member

  out_at_member : (k : MessageKind) (sender : ℕ) (after : Turn) → HasPrdc after → Out (if is_member s then after else noted (line.Drop k sender) (opening s e))
  out_at_member k sender after h =
      going_if Out (is_member s) _ _ (λ here. out_has after h) (λ other. out_has (noted (line.Drop k sender) (opening s e)) stays_opening)

  out_replied : (k : MessageKind) (sender number : ℕ) (step : Call → Turn → Turn) (o : Option Call) → answered_call k number s ≡ o
      → ((call : Call) → is_for_join call.purpose ≡ false → (n : ℕ) → HasPrdc (step call (without_call n (opening s e))))
      → Out (replied k sender step o (opening s e))
  out_replied k sender number step None is go =
      going_if Out (is_down s) _ _ (λ down. out_has (noted (line.Drop k sender) (opening s e)) stays_opening)
      (λ up. out_has (noted (line.Late k sender) (opening s e)) stays_opening)
  out_replied k sender number step (Some call) is go =
      out_has (step call (without_call call.number (opening s e)))
      (go call (else_member call number (answered_is k number s call is).found) call.number)

  out_stabilize_tick : (epoch : ℕ) → Out (stabilize_tick sc epoch (opening s e))
  unfolding stabilize_tick stabilize_armed timer_made
  out_stabilize_tick epoch =
      out_has (stabilize_tick sc epoch (opening s e)) (going_if HasPrdc (is_void epoch s) (opening s e) _ (λ void. stays_opening)
      (λ fresh. going_if HasPrdc (is_joining s || has_repair_call s) _ _ (λ busy. stays_opening)
      (λ idle. going_when HasPrdc (head s) _ (stabilize_armed sc (opening s e)) stays_opening
      (λ first found. stays_called sc first request.GetState purpose.State (stabilize_armed sc (opening s e)) stays_opening))))

  out_finger_tick : (epoch : ℕ) → Out (finger_tick sc epoch (opening s e))
  unfolding finger_tick finger_armed timer_made
  out_finger_tick epoch =
      out_has (finger_tick sc epoch (opening s e)) (going_if HasPrdc (is_void epoch s) (opening s e) _ (λ void. stays_opening)
      (λ fresh. going_if HasPrdc (is_joining s || has_finger_lookup s) _ _ (λ busy. stays_opening)
      (λ idle. stays_finger_rotated sc (first_in_turn sc s) (finger_armed sc (opening s e)) stays_opening)))

  traffic_stays : HasPrdc (traffic_armed sc (opening s e))
  traffic_stays =
      subst (λ (v : Status). StaysWith v (traffic_armed sc (opening s e)).state.prdc) (sym (same_traffic_armed (λ s. s.status) sc (opening s e)
      (λ s count place. refl)))
      (subst (λ (o : Option ℕ). StaysWith s.status o) (sym (same_traffic_armed (λ s. s.prdc) sc (opening s e) (λ s count place. refl))) stays_opening)

  check_stays : HasPrdc (check_armed sc (opening s e))
  check_stays =
      subst (λ (v : Status). StaysWith v (check_armed sc (opening s e)).state.prdc) (sym (same_check_armed (λ s. s.status) sc (opening s e)
      (λ s count place. refl)))
      (subst (λ (o : Option ℕ). StaysWith s.status o) (sym (same_check_armed (λ s. s.prdc) sc (opening s e) (λ s count place. refl))) stays_opening)

  out_traffic_tick : (epoch : ℕ) → Out (traffic_tick sc epoch (opening s e))
  unfolding traffic_tick random_lookup
  out_traffic_tick epoch =
      let armed : Turn = traffic_armed sc (opening s e) in
      out_has (traffic_tick sc epoch (opening s e)) (going_if HasPrdc (is_void epoch s || not (is_some sc.lookups)) (opening s e) _ (λ void. stays_opening)
      (λ fresh. going_if HasPrdc (is_joining s) _ _ (λ busy. traffic_stays)
      (λ idle. stays_user_lookup sc (random_key sc armed.time armed.state) (record armed {
        state = after_words
            (key_words sc.bits) armed.state;
      }) traffic_stays)))

  out_check_tick : (epoch : ℕ) → Out (check_tick sc epoch (opening s e))
  unfolding check_tick
  out_check_tick epoch =
      let armed : Turn = check_armed sc (opening s e) in
      out_has (check_tick sc epoch (opening s e)) (going_if HasPrdc (is_void epoch s) (opening s e) _ (λ void. stays_opening)
      (λ fresh. going_if HasPrdc (is_joining s || has_ping_call s) _ _ (λ busy. check_stays)
      (λ idle. going_when HasPrdc armed.state.prdc _ armed check_stays (λ prdc found. stays_called sc prdc request.Ping purpose.Check armed check_stays))))

  out_rise_armed : (turn : Turn) → HasPrdc turn → HasPrdc (rise_armed sc turn)
  unfolding rise_armed timer_made
  out_rise_armed turn h =
      going_if HasPrdc (is_churn_node sc turn.state.me) _ turn (λ churns. going_when HasPrdc sc.churn _ turn h (λ churn found. h)) (λ stays. h)

  out_life_end : (epoch : ℕ) → Out (life_end sc epoch (opening s e))
  unfolding life_end departed
  out_life_end epoch =
      out_has (life_end sc epoch (opening s e)) (going_if HasPrdc (is_void epoch s || not (is_churn_node sc s.me)) (opening s e) _ (λ void. stays_opening)
      (λ fresh. out_rise_armed (when_some sc.churn (life_over sc epoch) (opening s e))
      (going_when HasPrdc sc.churn (life_over sc epoch) (opening s e) stays_opening
      (λ churn found. going_if HasPrdc (churn.leave == 0) _ _ (λ never. tt)
      (λ draws. going_if HasPrdc (nat_lt (leave_number sc s.me epoch) churn.leave) _ _ (λ leaves. tt) (λ crashes. tt))))))

  out_rejoin : (epoch : ℕ) → Out (rejoin sc epoch (opening s e))
  unfolding rejoin
  out_rejoin epoch =
      going_if Out (not (s.epoch == epoch) || not (is_joining s) || has_join_call s) (opening s e) _ (λ void. out_has (opening s e) stays_opening)
      (λ due. absurd (no_way (is_joining s) (not_false (is_joining s)
      (or_false (not (s.epoch == epoch)) (not (is_joining s)) (or_false (not (s.epoch == epoch) || not (is_joining s)) (has_join_call s) due).0).1) no_joiner))

  out_cmd_join : (via : ℕ) → Out (cmd_join sc via (opening s e))
  unfolding cmd_join
  out_cmd_join via =
      going_if Out (not (is_down s)) _ _ (λ up. out_has (noted (line.Ignored command.Join) (opening s e)) stays_opening)
      (λ down. absurd (no_way (is_down s) (not_false (is_down s) down) is_up))

  out_rise : (epoch : ℕ) → Out (rise sc epoch (opening s e))
  unfolding rise
  out_rise epoch =
      going_if Out (not (s.epoch == epoch) || not (is_down s)) (opening s e) _ (λ void. out_has (opening s e) stays_opening)
      (λ due. absurd (no_way (is_down s) (not_false (is_down s) (or_false (not (s.epoch == epoch)) (not (is_down s)) due).1) is_up))

  out_cmd_crash : Out (cmd_crash sc (opening s e))
  unfolding cmd_crash
  out_cmd_crash =
      out_has (cmd_crash sc (opening s e)) (going_if HasPrdc (is_down s) _ _ (λ down. stays_opening) (λ up. tt))

  out_cmd_leave : Out (cmd_leave sc (opening s e))
  unfolding cmd_leave departed
  out_cmd_leave =
      out_has (cmd_leave sc (opening s e)) (going_if HasPrdc (is_down s) _ _ (λ down. stays_opening) (λ up. tt))

  out_cmd_lookup : (key : ℕ) → Out (cmd_lookup sc key (opening s e))
  unfolding cmd_lookup
  out_cmd_lookup key =
      out_has (cmd_lookup sc key (opening s e)) (going_if HasPrdc (not (is_member s)) _ _ (λ other. stays_opening) (λ here. stays_user_lookup sc key
      (opening s e) stays_opening))

  out_acted : (message : Body) → e.body ≡ message → Out (acted sc (e.key.origin - 2) message (opening s e))
  unfolding step_asked state_asked list_asked pinged notified step_replied state_replied list_replied ponged
  out_acted (body.CmdJoin via) is = out_cmd_join via
  out_acted body.CmdCrash is = out_cmd_crash
  out_acted body.CmdLeave is = out_cmd_leave
  out_acted (body.CmdLookup key) is = out_cmd_lookup key
  out_acted (body.StabilizeTick epoch) is = out_stabilize_tick epoch
  out_acted (body.FingerTick epoch) is = out_finger_tick epoch
  out_acted (body.TrafficTick epoch) is = out_traffic_tick epoch
  out_acted (body.LifeEnd epoch) is = out_life_end epoch
  out_acted (body.Rise epoch) is = out_rise epoch
  out_acted (body.CheckTick epoch) is = out_check_tick epoch
  out_acted (body.Rejoin epoch) is = out_rejoin epoch
  out_acted (body.Timeout number) is = out_timeout number is
  out_acted (body.Step number key avoid) is = out_at_member kind.Step (e.key.origin - 2) _ (stays_sent sc kind.StepReply (e.key.origin - 2) _
      (opening s e) stays_opening)
  out_acted (body.GetState number) is = out_at_member kind.GetState (e.key.origin - 2) _ (stays_sent sc kind.StateReply (e.key.origin - 2) _
      (opening s e) stays_opening)
  out_acted (body.GetList number) is = out_at_member kind.GetList (e.key.origin - 2) _ (stays_sent sc kind.ListReply (e.key.origin - 2) _
      (opening s e) stays_opening)
  out_acted (body.Ping number) is = out_at_member kind.Ping (e.key.origin - 2) _ (stays_sent sc kind.Pong (e.key.origin - 2) _ (opening s e) stays_opening)
  out_acted body.Notify is = out_at_member kind.Notify (e.key.origin - 2) _ (stays_notifier_met sc (e.key.origin - 2) s.prdc (opening s e) member stays_opening)
  out_acted (body.Leave heir list) is = out_leave_heard (e.key.origin - 2) heir list is refl
  out_acted (body.StepReply number a) is =
      out_replied kind.StepReply (e.key.origin - 2) number (λ call. answered_for sc a call call.purpose) (answered_call kind.StepReply number s) refl
      (λ call other n. stays_answered_for sc a call call.purpose (without_call n (opening s e)) other stays_opening)
  out_acted (body.StateReply number before list) is =
      out_replied kind.StateReply (e.key.origin - 2) number (λ call. state_answered_for sc before list call call.purpose)
      (answered_call kind.StateReply number s) refl
      (λ call other n. stays_state_answered_for sc before list call call.purpose (without_call n (opening s e)) other stays_opening)
  out_acted (body.ListReply number list) is =
      out_replied kind.ListReply (e.key.origin - 2) number (λ call. list_answered_for sc list call.to call.purpose) (answered_call kind.ListReply number s) refl
      (λ call other n. stays_list_answered_for sc list call.to call.purpose (without_call n (opening s e)) other stays_opening)
  out_acted (body.Pong number) is =
      out_replied kind.Pong (e.key.origin - 2) number (λ call. λ t. t) (answered_call kind.Pong number s) refl (λ call other n. stays_opening)

  -- lines of messages come after all others
  lost_more : (lines more : List Line) → Lost lines → Lost (lines ++ more)
  lost_more lines more (inl f) = inl (record {
    number = f.number;
    call = f.call;
    is = f.is;
    found = f.found;
    asked = f.asked;
    to = f.to;
    last = f.last;
    told = contains_left lines more (line.Forget prdc) f.told;
  })
  lost_more lines more (inr (inl f)) = inr (inl f)
  lost_more lines more (inr (inr f)) = inr (inr (stranded_more lines more f))

  pub predecessor_lost : (effect sc s e).state.status ≡ status.Member → (effect sc s e).state.prdc ≡ None → Lost (effect sc s e).lines
  unfolding effect detailed
  predecessor_lost =
      let done : Turn = acted sc (e.key.origin - 2) e.body (opening s e) in
      going_if Out sc.detail _ done
      (λ tells is none. lost_more done.lines (message_lines done.state done.events) (out_acted e.body refl is none)) (λ silent. out_acted e.body refl)
