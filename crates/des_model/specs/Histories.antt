-- Histories: which events a run takes, one at a time, and what it outputs. A history lists its events, the newest
-- first: it grows at its head, which is what inductions go by. Traces are oldest first.
use Rattle.std.specs.Prelude.{
  ℕ,
  zero,
  suc,
  ◌≡◌,
  ◌+◌,
  ◌<◌,
  List,
  [],
  ◌∷◌,
  ◌++◌,
  map,
  length,
  Option,
  None,
  Some,
  if◌then◌else◌,
  Bool,
  not,
  ◌==◌,
  nat_lt,
  nat_le,
  is_none,
  ⊤,
}
use Rattle.std.specs.List.{filter, list_any, list_all, cons_option, Contains}
use Rattle.des_event.specs.declared.key.Key.{Key}
use Rattle.des_event.specs.Keys.{IsAtMost, is_before, is_same_key}
use Rattle.des_event.specs.declared.event.Event.{Event}
use Rattle.des_model.specs.Machine.{Machine, Effect}

-- whether an event of the history has this key
abbrev pub has_key : {Body : Type 0} → Key → List (Event Body) → Bool
has_key k h = list_any (λ e. is_same_key e.key k) h

-- the one of the two events that comes first in the order of keys, or the only one
abbrev pub earlier : {Body : Type 0} → Event Body → Option (Event Body) → Event Body
earlier e None = e
earlier e (Some x) = if is_before x.key e.key then x else e

-- the event with the least key of a list in any order, and none if the list is empty
abbrev pub least : {Body : Type 0} → List (Event Body) → Option (Event Body)
least [] = None
least (e ∷ es) = Some (earlier e (least es))

-- the events with a time below t
abbrev pub below : {Body : Type 0} → ℕ → List (Event Body) → List (Event Body)
below t h = filter (λ e. nat_lt e.key.time t) h

module _ {State Body Piece : Type 0} (m : Machine State Body Piece) where
  -- the state of a node after a history
  abbrev pub state : List (Event Body) → ℕ → State
  state [] n = m.initial n
  state (e ∷ h) n = let s = state h n in if e.target == n then (m.effect s e).state else s

  -- the effect of an event that follows a history
  abbrev pub effect_after : List (Event Body) → Event Body → Effect State Body Piece
  effect_after h e = m.effect (state h e.target) e

  -- the events at the start and all that were made along a history
  abbrev pub all_events : List (Event Body) → List (Event Body)
  all_events [] = m.start_events
  all_events (e ∷ h) = (effect_after h e).events ++ all_events h

  -- the events, at the start or made along the history, that the history has not taken; a key identifies an event
  abbrev pub pending : List (Event Body) → List (Event Body)
  pending h = filter (λ e. not (has_key e.key h)) (all_events h)

  -- each event was pending when its turn came, in whatever order the turns came
  abbrev pub IsPossible : List (Event Body) → Type 0
  IsPossible [] = ⊤
  IsPossible (e ∷ h) = IsPossible h × Contains (pending h) e

  -- e is the one event that may follow: the least pending one, below the duration
  pub record IsNext (h : List (Event Body)) (e : Event Body) : Type 0 where
    pub waits : Contains (pending h) e
    pub first : (x : Event Body) → Contains (pending h) x → IsAtMost e.key x.key
    pub in_time : e.key.time < m.duration

  -- each event was the one that could follow those before it
  abbrev pub IsLegal : List (Event Body) → Type 0
  IsLegal [] = ⊤
  IsLegal (e ∷ h) = IsLegal h × IsNext h e

  -- the event that may follow, if there is one
  abbrev pub next : List (Event Body) → Option (Event Body)
  next h = least (below m.duration (pending h))

  -- the legal history of k events, or of as many as there are
  abbrev pub history : ℕ → List (Event Body)
  history zero = []
  history (suc k) = let h = history k in cons_option (next h) h

  -- the run has more events than it may have
  abbrev pub IsOverLimit : Type 0
  IsOverLimit = length (history (m.max_events + 1)) ≡ m.max_events + 1

  -- the whole run, if it is not over the limit
  abbrev pub full_history : List (Event Body)
  full_history = history m.max_events

  -- the history of the events below a time
  abbrev pub history_below : ℕ → List (Event Body)
  history_below t = below t (history (m.max_events + 1))

  -- an audit at t sees exactly the events below t
  abbrev pub audit_at : List (Event Body) → ℕ → Piece
  audit_at h t = m.audit t (state (below t h))

  -- the audits whose time no event of the history has reached
  abbrev pub open_audits : List (Event Body) → List ℕ
  open_audits h = filter (λ t. list_all (λ e. nat_lt e.key.time t) h) m.audit_times

  -- the pieces of a history; an audit comes before the first event of its time or later
  abbrev pub output : List (Event Body) → List Piece
  output [] = []
  output (e ∷ h) = output h ++ (map (audit_at h) (filter (λ t. nat_le t e.key.time) (open_audits h)) ++ (effect_after h e).piece ∷ [])

  -- if no event may follow, the remaining audits do
  abbrev pub trace : List (Event Body) → List Piece
  trace h = output h ++ (if is_none (next h) then map (audit_at h) (open_audits h) else [])
