-- What a world is.
use Rattle.std.specs.Prelude.{◌≡◌, ◌≢◌, ◌<◌, ◌≤◌, ◌++◌, ◌↔◌, ℕ, List, Some, length, slice_index_or}
use Rattle.std.specs.List.{AllByRecursion, AllPairs, Contains}
use Rattle.des_event.specs.declared.event.Event.{Event}
use Rattle.des_event.specs.KeyOrder.{InKeyOrder}
use Rattle.des_model.specs.Histories.{history, open_audits, pending}
use Rattle.des_model.specs.Windows.{Division, Divides, part_of}
use Rattle.des_model.specs.Worlds.{AreStatesAfter}
use Rattle.des_queue.specs.EventKey.{event_key}
use Rattle.des_parts.specs.declared.world.PartEvents.{PartEvents}
use Rattle.des_parts.specs.declared.world.World.{World}
use Rattle.des_model.specs.Machine.{Machine}
use Rattle.des_window.specs.declared.opening.Opening.{Opening}
use Rattle.des_window.specs.Openings.{opening_after}

module _ {State Body Piece : Type 0} where
  -- the pending events of the part's nodes, in the order of their keys
  pub record HasEvents (m : Machine State Body Piece) (d : Division) (h : List (Event Body)) (part : ℕ) (events : List (Event Body)) : Type 0 where
    pub same : (x : Event Body) → Contains events x ↔ (Contains (pending m h) x × (part_of d x.target ≡ part))
    pub ordered : InKeyOrder event_key events

module _ {Body : Type 0} where
  -- all events of a part
  abbrev pub events_of : PartEvents Body → List (Event Body)
  events_of e = e.due.items ++ e.later

  -- the events of a part below the horizon are due, the others come later
  pub record IsSplit (horizon : ℕ) (e : PartEvents Body) : Type 0 where
    pub early : AllByRecursion (λ (x : Event Body). x.key.time < horizon) e.due.items
    pub late : AllByRecursion (λ (x : Event Body). horizon ≤ x.key.time) e.later

module _ {State Body Piece : Type 0} where
  -- the first `count` events of the run leave these states, these audits open, and these events pending, each once
  pub record StandAfter (m : Machine State Body Piece) (count : ℕ) (states : List State) (clock : List ℕ) (events : List (Event Body)) : Type 0 where
    pub within : count ≤ m.max_events
    pub long : length (history m count) ≡ count
    pub states_are : AreStatesAfter m (history m count) states
    pub clock_is : clock ≡ open_audits m (history m count)
    pub same : (x : Event Body) → Contains events x ↔ Contains (pending m (history m count)) x
    pub apart : AllPairs (λ (a b : Event Body). a.key ≢ b.key) events

  -- the world is what the first `count` events of the run leave, by its division
  pub record IsWorldOf (m : Machine State Body Piece) (w : World State Body) : Type 0 where
    pub divides : Divides w.division m.nodes
    pub within : w.count ≤ m.max_events
    pub long : length (history m w.count) ≡ w.count
    pub states_are : AreStatesAfter m (history m w.count) w.states.items
    pub clock_is : w.clock ≡ open_audits m (history m w.count)
    pub parts_are : length w.parts.items ≡ w.division.parts
    pub events_are : (part : ℕ) (e : PartEvents Body) → part < w.division.parts
        → HasEvents m w.division (history m w.count) part (events_of (slice_index_or w.parts.items part e))
    pub opening_is : w.opening ≡ opening_after m (history m w.count)
    pub split : (opening : Opening) (part : ℕ) (e : PartEvents Body) → w.opening ≡ Some opening → part < w.division.parts
        → IsSplit opening.horizon (slice_index_or w.parts.items part e)
