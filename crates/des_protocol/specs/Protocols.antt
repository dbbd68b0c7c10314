-- A protocol: what its nodes tell each other. Nobody numbers events.
use Rattle.std.specs.Prelude.{ℕ, List}
use Rattle.des_protocol.specs.declared.telling.Telling.{Telling}

-- what a node makes of what it was told: its new state, what it tells, in this order, and what it adds to the trace
pub record Outcome (State Body Piece : Type 0) : Type 0 where
  pub state : State
  pub tellings : List (Telling Body)
  pub piece : Piece

-- nodes, numbered from 0, with their first states; what they are told at the start; what a node in a state makes of what it
-- is told at a time
pub record Protocol (State Body Piece : Type 0) : Type 0 where
  pub nodes : ℕ
  pub initial : ℕ → State
  pub start : List (Telling Body)
  pub outcome : State → (node time : ℕ) → Body → Outcome State Body Piece
  -- the least delay of a telling for another node
  pub lookahead : ℕ
  -- only tellings that arrive below this time are taken, and at most this number of them
  pub duration : ℕ
  pub max_events : ℕ
  -- what an audit at one of these times adds to the trace, given the state of each node
  pub audit_times : List ℕ
  pub audit : ℕ → (ℕ → State) → Piece
