-- What a node waits for stays pending while it looks up.
use Rattle.std.proofs.Common.{◌≡◌, ◌==◌, ◌&&◌, ℕ, false, cond, nat_lt, length, List, Option, Some, None, refl, sym, ap, subst}
use Rattle.std.specs.Prelude.{position, slice_get}
use Rattle.std.specs.List.{count_by}
use Rattle.chord_event.specs.declared.body.Answer.{Answer}
use Rattle.chord_event.specs.declared.body.Answer.TheVariants as answer
use Rattle.chord_event.specs.declared.body.Body.{Body}
use Rattle.des_event.specs.declared.event.Event.{Event}
use Rattle.chord_event.specs.declared.line.Line.TheVariants as line
use Rattle.chord_scenario.specs.declared.scenario.Scenario.{Scenario}
use Rattle.chord_node.specs.declared.state.Aim.{Aim}
use Rattle.chord_node.specs.declared.state.Aim.TheVariants as aim
use Rattle.chord_node.specs.declared.state.Lookup.{Lookup}
use Rattle.chord_node.specs.declared.state.Purpose.{Purpose}
use Rattle.chord_node.specs.declared.state.Purpose.TheVariants as purpose
use Rattle.chord_node.specs.Invariant.{is_for_join, is_user}
use Rattle.chord_node.specs.Limits.{most_lookup_steps, most_user_lookups}
use Rattle.chord_ops.specs.declared.turn.Request.{Request}
use Rattle.chord_ops.specs.declared.turn.Turn.{Turn}
use Rattle.chord_ops.specs.Procedures.{
  fresh_lookup,
  lookup_asked,
  lookup_begun,
  lookup_diverted,
  lookup_failed,
  lookup_finished,
  lookup_finished_for,
  lookup_followed,
  lookup_led,
  lookup_request,
  lookup_resumed,
  lookup_walked,
  past,
  user_lookup,
  with_lookup,
  without_lookup,
}
use Rattle.chord_ops.specs.Search.{step_answer}
use Rattle.chord_ops.specs.Timers.{Timer}
use Rattle.chord_ops.specs.Turns.{called, noted}
use Rattle.chord_ops.specs.Ongoing.{IsOngoing}
use Rattle.chord_ops.proofs.Ongoing.{going_called, going_if, going_when}

module _ (sc : Scenario) (claim : Timer → ℕ) (rest : List (Event Body)) where
  -- a call for something else than a join
  pub going_called_else : (to : ℕ) (request : Request) (wanted : Purpose) (turn : Turn) → is_for_join wanted ≡ false
      → IsOngoing sc claim 0 rest turn → IsOngoing sc claim 0 rest (called sc to request wanted turn)
  going_called_else to request wanted turn other h =
      going_called sc claim rest to request wanted turn
      (subst (λ (n : ℕ). IsOngoing sc claim n rest turn) (sym (ap (λ b. cond b 1 0) other)) h)

  going_lookup_failed : (lookup : Lookup) (turn : Turn) → IsOngoing sc claim 0 rest turn → IsOngoing sc claim 0 rest (lookup_failed lookup turn)
  unfolding lookup_failed
  going_lookup_failed lookup turn h = h

  going_lookup_finished_for : (aim : Aim) (lookup : Lookup) (owner : ℕ) (turn : Turn) → IsOngoing sc claim 0 rest turn
      → IsOngoing sc claim 0 rest (lookup_finished_for aim lookup owner turn)
  going_lookup_finished_for aim.User lookup owner turn h = h
  going_lookup_finished_for (aim.Finger index) lookup owner turn h = h

  pub going_lookup_finished : (lookup : Lookup) (owner : ℕ) (turn : Turn) → IsOngoing sc claim 0 rest turn
      → IsOngoing sc claim 0 rest (lookup_finished lookup owner turn)
  unfolding lookup_finished
  going_lookup_finished lookup owner turn h = going_lookup_finished_for lookup.aim lookup owner turn h

  pub going_lookup_asked : (place : ℕ) (lookup : Lookup) (to : ℕ) (wanted : Purpose) (turn : Turn) → is_for_join wanted ≡ false
      → IsOngoing sc claim 0 rest turn → IsOngoing sc claim 0 rest (lookup_asked sc place lookup to wanted turn)
  unfolding lookup_asked
  going_lookup_asked place lookup to wanted turn other h =
      going_if (IsOngoing sc claim 0 rest) (nat_lt lookup.steps (most_lookup_steps sc)) _ (lookup_failed lookup turn)
      (λ few. going_called_else to (lookup_request wanted lookup) wanted turn other h)
      (λ many. going_lookup_failed lookup turn h)

  going_lookup_led : (place : ℕ) (lookup : Lookup) (owner : ℕ) (turn : Turn) → IsOngoing sc claim 0 rest turn
      → IsOngoing sc claim 0 rest (lookup_led sc place lookup owner turn)
  unfolding lookup_led
  going_lookup_led place lookup owner turn h =
      going_if (IsOngoing sc claim 0 rest) (sc.rules.ask_owner && is_user lookup) _ _
      (λ asks. going_lookup_asked place lookup owner purpose.Owner turn refl h)
      (λ ends. going_lookup_finished lookup owner turn h)

  pub going_lookup_followed : (place : ℕ) (lookup : Lookup) (a : Answer) (turn : Turn) → IsOngoing sc claim 0 rest turn
      → IsOngoing sc claim 0 rest (lookup_followed sc place lookup a turn)
  unfolding lookup_followed
  going_lookup_followed place lookup (answer.Owner owner) turn h = going_lookup_led place lookup owner turn h
  going_lookup_followed place lookup (answer.Next next) turn h = going_lookup_asked place lookup next purpose.Lookup turn refl h
  going_lookup_followed place lookup answer.Stuck turn h = going_lookup_failed lookup turn h

  going_lookup_walked : (place : ℕ) (lookup : Lookup) (turn : Turn) → IsOngoing sc claim 0 rest turn
      → IsOngoing sc claim 0 rest (lookup_walked sc place lookup turn)
  unfolding lookup_walked
  going_lookup_walked place lookup turn h = going_lookup_followed place lookup (step_answer sc turn.state lookup.key lookup.avoid) turn h

  going_lookup_resumed : (place : ℕ) (lookup : Lookup) (o : Option ℕ) (turn : Turn) → IsOngoing sc claim 0 rest turn
      → IsOngoing sc claim 0 rest (lookup_resumed sc place lookup o turn)
  going_lookup_resumed place lookup None turn h = going_lookup_walked place lookup turn h
  going_lookup_resumed place lookup (Some last) turn h = going_lookup_asked place lookup last purpose.Lookup turn refl h

  pub going_lookup_diverted : (node place : ℕ) (lookup : Lookup) (turn : Turn) → IsOngoing sc claim 0 rest turn
      → IsOngoing sc claim 0 rest (lookup_diverted sc node place lookup turn)
  unfolding lookup_diverted
  going_lookup_diverted node place lookup turn h =
      going_if (IsOngoing sc claim 0 rest) (nat_lt (length lookup.avoid) sc.rules.lookup_timeouts) _ _
      (λ few. going_lookup_resumed place (past node lookup) (past node lookup).last turn h)
      (λ many. going_lookup_failed lookup turn h)

  pub going_lookup_begun : (key : ℕ) (wanted : Aim) (turn : Turn) → IsOngoing sc claim 0 rest turn
      → IsOngoing sc claim 0 rest (lookup_begun sc key wanted turn)
  unfolding lookup_begun
  going_lookup_begun key wanted turn h = going_lookup_walked (length turn.state.lookups) (fresh_lookup key wanted turn.time) turn h

  pub going_user_lookup : (key : ℕ) (turn : Turn) → IsOngoing sc claim 0 rest turn → IsOngoing sc claim 0 rest (user_lookup sc key turn)
  unfolding user_lookup
  going_user_lookup key turn h =
      going_if (IsOngoing sc claim 0 rest) (nat_lt (count_by is_user turn.state.lookups) most_user_lookups) _ _
      (λ few. going_lookup_begun key aim.User (noted (line.Lookup key) turn) h)
      (λ many. h)

  pub going_with_lookup : (number : ℕ) (step : ℕ → Lookup → Turn → Turn) (turn : Turn)
      → ((place : ℕ) (lookup : Lookup) (t : Turn) → IsOngoing sc claim 0 rest t → IsOngoing sc claim 0 rest (step place lookup t))
      → IsOngoing sc claim 0 rest turn → IsOngoing sc claim 0 rest (with_lookup number step turn)
  unfolding with_lookup
  going_with_lookup number step turn go h =
      going_when (IsOngoing sc claim 0 rest) (position (λ lookup. lookup.call == number) turn.state.lookups) _ turn h
      (λ place found. going_when (IsOngoing sc claim 0 rest) (slice_get turn.state.lookups place) _ turn h
      (λ lookup is. go place lookup (without_lookup place turn) h))
