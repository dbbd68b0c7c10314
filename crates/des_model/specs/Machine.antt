-- A sequential discrete-event model.
use Rattle.std.specs.Prelude.{ℕ, List}
use Rattle.des_event.specs.declared.event.Event.{Event}

-- what a node makes of an event: its new state, the events that it makes, and what it adds to the trace
pub record Effect (State Body Piece : Type 0) : Type 0 where
  pub state : State
  pub events : List (Event Body)
  pub piece : Piece

-- nodes, numbered from 0, with their first states; the events at the start; what an event does to the state of its target
pub record Machine (State Body Piece : Type 0) : Type 0 where
  pub nodes : ℕ
  pub initial : ℕ → State
  pub start_events : List (Event Body)
  pub effect : State → Event Body → Effect State Body Piece
  -- how many events a node in this state has made
  pub events_made : State → ℕ
  -- the least delay of an event for another node
  pub lookahead : ℕ
  -- only events below this time are taken, and at most this number of them
  pub duration : ℕ
  pub max_events : ℕ
  -- what an audit at one of these times adds to the trace, given the state of each node
  pub audit_times : List ℕ
  pub audit : ℕ → (ℕ → State) → Piece
