-- What holds of the states and of what is told.
use Rattle.std.specs.Prelude.{ℕ, ⊤}
use Rattle.rumour_rules.specs.declared.rules.Node.{Node}
use Rattle.rumour_rules.specs.declared.rules.Rumour.{Rumour}

-- nothing is asked of a state
abbrev pub IsSound : ℕ → Node → Type 0
IsSound n s = ⊤

-- nothing is asked of what a node is told
abbrev pub IsFit : ℕ → Rumour → Type 0
IsFit n body = ⊤
