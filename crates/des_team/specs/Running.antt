-- The run of a part in a window, event by event.
use Rattle.std.specs.Prelude.{◌≡◌, ◌≢◌, ◌⊎◌, ◌+◌, ◌<◌, ◌≤◌, ◌++◌, ◌∷◌, ◌↔◌, ◌==◌, ◌&&◌, not, nat_lt, ℕ, Bool, false, List, [], Option, None, Some, set, length, slice_index_or}
use Rattle.std.specs.List.{Contains, filter}
use Rattle.des_event.specs.declared.event.Event.{Event}
use Rattle.des_event.specs.KeyOrder.{InKeyOrder}
use Rattle.des_model.specs.Histories.{history}
use Rattle.des_model.specs.Machine.{Machine}
use Rattle.des_model.specs.PartRuns.{part_run}
use Rattle.des_model.specs.Windows.{Division, part_of, IsPartRun, made_since, pieces_since}
use Rattle.des_queue.specs.EventKey.{event_key}
use Rattle.des_team.specs.Chronicles.{Chronicle}
use Rattle.des_team.specs.Entries.{Entry, entries_of, entry_at}
use Rattle.des_team.specs.declared.layout.Layout.{Layout}
use Rattle.des_team.specs.declared.output.Output.{Output}
use Rattle.des_team.specs.declared.part.OwnedPart.{OwnedPart}
use Rattle.des_team.specs.Layouts.{IsLayout, slot_of}
use Rattle.des_team.specs.Mail.{all_of}
use Rattle.des_team.specs.Outputs.{IsText}
use Rattle.des_team.specs.Owned.{AreApart, HasTakenAll, IsOwned, LeastTimeIs}

module _ {M State Body Piece S : Type 0} where
  -- the state of a node, as the part has it
  abbrev pub state_at : Chronicle State Body Piece S → Layout → OwnedPart M S State Body Piece → ℕ → State
  state_at ch l p i = slice_index_or p.states.items (slot_of l i) (ch.machine.initial 0)

module _ {Body : Type 0} where
  -- whether an event of a part is for another one
  abbrev pub is_for_others : Division → (part : ℕ) → Event Body → Bool
  is_for_others d part x = not (part_of d x.target == part)

  -- of the events that a part makes, those that part q gets in its inbox
  abbrev pub sent_to : Division → (part q : ℕ) → List (Event Body) → List (Event Body)
  sent_to d part q made = filter (λ x. part_of d x.target == q && is_for_others d part x) made

module _ {M State Body Piece S : Type 0} where
  -- of the events that the part made, those for its own nodes are pending, the others are in the lists of their parts;
  -- the least time of the others is known
  pub record HasSent (d : Division) (made : List (Event Body)) (old new : OwnedPart M S State Body Piece) (soonest : Option ℕ) : Type 0 where
    pub kept : (x : Event Body) → Contains new.pending x ↔ (Contains old.pending x ⊎ (Contains made x × (part_of d x.target ≡ old.part)))
    pub ordered : InKeyOrder event_key new.pending
    pub out_long : length new.outbox ≡ length old.outbox
    pub sent : (q : ℕ) (v : List (Event Body)) → q < length old.outbox
        → (slice_index_or new.outbox q v) ≡ (slice_index_or old.outbox q v) ++ sent_to d old.part q made
    pub soonest_is : LeastTimeIs (filter (is_for_others d old.part) made) soonest

  -- the event may be handled: its target is a node of the part, and the machine may be asked about its state
  pub record CanHandle (ch : Chronicle State Body Piece S) (Sound : ℕ → State → Type 0) (Fit : Event Body → Type 0) (Room : State → Type 0) (l : Layout)
      (p : OwnedPart M S State Body Piece) (event : Event Body) : Type 0 where
    pub layout : IsLayout ch.machine.nodes l
    pub target : event.target < ch.machine.nodes
    pub in_part : part_of l.division event.target ≡ p.part
    pub place : slot_of l event.target < length p.states.items
    pub state_is_sound : Sound event.target (state_at ch l p event.target)
    pub room : Room (state_at ch l p event.target)
    pub event_is_sound : Fit event
    pub in_time : event.key.time < ch.machine.duration
    pub apart : AreApart (p.pending ++ (ch.machine.effect (state_at ch l p event.target) event).events)
    pub out_long : length p.outbox ≡ l.division.parts
    pub none_made : p.made.items ≡ []

  -- the part has handled the event: the event's target has acted on it
  pub record HasHandled (ch : Chronicle State Body Piece S) (l : Layout) (event : Event Body) (old new : OwnedPart M S State Body Piece) (before after : Output)
      (soonest : Option ℕ) : Type 0 where
    pub same_inbox : new.inbox ≡ old.inbox
    pub states_are : new.states.items ≡ set old.states.items (slot_of l event.target) (ch.machine.effect (state_at ch l old event.target) event).state
    pub sent : HasSent l.division (ch.machine.effect (state_at ch l old event.target) event).events old new soonest
    pub none_made : new.made.items ≡ []
    pub counted : (pieces : List Piece) → ch.HasCounted pieces old.scribe
        → ch.HasCounted (pieces ++ (ch.machine.effect (state_at ch l old event.target) event).piece ∷ []) new.scribe
    pub text_is : (entries : List Entry) → IsText entries before
        → IsText (entries ++ entry_at ch.text (event, (ch.machine.effect (state_at ch l old event.target) event).piece) ∷ []) after

module _ {State Body Piece : Type 0} where
  -- the first n events that a part runs in the window up to the horizon
  abbrev pub ran_first : Machine State Body Piece → Layout → (count horizon part n : ℕ) → List (Event Body)
  ran_first m l count horizon part n = part_run m l.division (history m count) horizon part n

module _ {M State Body Piece S : Type 0} where
  -- the part has run n events of its window
  pub record IsRunning (ch : Chronicle State Body Piece S) (l : Layout) (count horizon n : ℕ) (soonest : Option ℕ) (p : OwnedPart M S State Body Piece)
      (o : Output) : Type 0 where
    pub runs : IsPartRun ch.machine l.division (history ch.machine count) horizon p.part (ran_first ch.machine l count horizon p.part n)
    pub long : length (ran_first ch.machine l count horizon p.part n) ≡ n
    pub within : count + n ≤ ch.machine.max_events
    pub owned : IsOwned ch l (ran_first ch.machine l count horizon p.part n ++ history ch.machine count) p
    pub taken_in : HasTakenAll p
    pub sent : (q : ℕ) (v : List (Event Body)) (x : Event Body) → q < l.division.parts
        → Contains (slice_index_or p.outbox q v) x
        ↔ (Contains (made_since ch.machine (history ch.machine count) (ran_first ch.machine l count horizon p.part n)) x × (part_of l.division x.target ≡ q)
        × (q ≢ p.part))
    pub sent_apart : (q : ℕ) (v : List (Event Body)) → q < l.division.parts → AreApart (slice_index_or p.outbox q v)
    pub soonest_is : LeastTimeIs (all_of p.outbox) soonest
    pub text_is : IsText (entries_of ch.text (pieces_since ch.machine (history ch.machine count) (ran_first ch.machine l count horizon p.part n))) o

-- whether an event at this time is before the horizon; no event is not
abbrev pub is_due : Option ℕ → (horizon : ℕ) → Bool
is_due None horizon = false
is_due (Some time) horizon = nat_lt time horizon

module _ {M State Body Piece S : Type 0} where
  -- what the other parts made is pending
  pub record HasTakenIn (old new : OwnedPart M S State Body Piece) : Type 0 where
    pub same : (x : Event Body) → Contains new.pending x ↔ Contains (old.pending ++ old.inbox) x
    pub none_left : new.inbox ≡ []
    pub ordered : InKeyOrder event_key new.pending
    pub others : new ≡ record old { pending = new.pending; inbox = new.inbox }
