-- What a contract sees of a queue.
use Rattle.std.specs.Prelude.{ℕ, List}
use Rattle.des_event.specs.declared.event.Event.{Event}

-- the events that wait, in key order, and how many were pushed since it was made or emptied
pub record Queue (B : Type 0) : Type 0 where
  pub events : List (Event B)
  pub pushes : ℕ

-- a queue in which these events wait, in key order, after this many pushes since it was made or emptied
abbrev pub queue : {B : Type 0} → List (Event B) → ℕ → Queue B
queue es n = record { events = es; pushes = n }
