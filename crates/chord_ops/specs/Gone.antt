-- A node that was dropped, and who rescues.
use Rattle.std.specs.Prelude.{All, Contains, ◌≡◌, ◌==◌, ℕ, ◌≤◌, Bool, not, ◌&&◌, false, true}
use Rattle.std.specs.List.{list_any}
use Rattle.chord_scenario.specs.declared.scenario.Scenario.{Scenario}
use Rattle.chord_node.specs.declared.state.NodeState.{NodeState}
use Rattle.chord_ops.specs.Search.{distance_to}

-- neither the list nor the fingers have the silent node
pub record IsGone (silent : ℕ) (s : NodeState) : Type 0 where
  pub from_list : list_any (λ x. x == silent) s.succ ≡ false
  pub from_fingers : list_any (λ x. x == silent) s.fingers ≡ false

-- whether a node is neither the node itself nor the silent one
abbrev pub is_another : NodeState → (silent : ℕ) → ℕ → Bool
is_another s silent x = not (x == s.me) && not (x == silent)

-- a finger to another node, than which no other such finger is nearer, clockwise
pub record IsNearestFinger (sc : Scenario) (s : NodeState) (silent x : ℕ) : Type 0 where
  pub among : Contains s.fingers x
  pub another : is_another s silent x ≡ true
  pub nearest : All (λ y. is_another s silent y ≡ true → distance_to sc s x ≤ distance_to sc s y) s.fingers
