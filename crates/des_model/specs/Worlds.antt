-- What an engine has: lists of states and of events that are those after the first events of the run.
use Rattle.std.specs.Prelude.{ℕ, ◌≡◌, ◌≢◌, ◌<◌, ◌++◌, List, [], ◌∷◌, length, ◌↔◌, slice_index_or}
use Rattle.std.specs.List.{All, AllPairs, Contains}
use Rattle.des_event.specs.declared.event.Event.{Event}
use Rattle.des_event.specs.Keys.{IsAtMost}
use Rattle.des_model.specs.Machine.{Machine}
use Rattle.des_model.specs.Histories.{state, effect_after, pending, history}

-- the event at i is below the horizon, and none is before it
pub record IsFirstAt {Body : Type 0} (events : List (Event Body)) (horizon i : ℕ) : Type 0 where
  pub inside : i < length events
  pub in_time : (d : Event Body) → (slice_index_or events i d).key.time < horizon
  pub first : (d : Event Body) → All (λ (x : Event Body). IsAtMost (slice_index_or events i d).key x.key) events

module _ {State Body Piece : Type 0} (m : Machine State Body Piece) where
  -- the states, by node, are those after a history
  pub record AreStatesAfter (h : List (Event Body)) (states : List State) : Type 0 where
    pub nodes_are : length states ≡ m.nodes
    pub state_at : (n : ℕ) (d : State) → n < m.nodes → slice_index_or states n d ≡ state m h n

  -- what the events of a history add to the trace, without audits
  abbrev pub event_pieces : List (Event Body) → List Piece
  event_pieces [] = []
  event_pieces (e ∷ h) = event_pieces h ++ (effect_after m h e).piece ∷ []

  -- the states and the events are those after the first `count` events of the run
  pub record IsWorld (states : List State) (events : List (Event Body)) (count : ℕ) : Type 0 where
    pub long : length (history m count) ≡ count
    pub states_are : AreStatesAfter (history m count) states
    pub waits : (x : Event Body) → Contains events x ↔ Contains (pending m (history m count)) x
    pub apart : AllPairs (λ (a b : Event Body). a.key ≢ b.key) events
