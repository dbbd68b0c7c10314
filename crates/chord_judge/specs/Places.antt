-- The places of the nodes on the circle, and marks of nodes.
use Rattle.std.specs.Prelude.{◌≡◌, ℕ, ◌==◌, ◌<◌, Bool, false, true, cond, List, [], ◌∷◌, Option, Some, None, slice_index_or}
use Rattle.std.specs.List.{All, list_any}
use Rattle.std.specs.List.Sorted.{IsNonDecreasingBy}
use Rattle.chord_judge.specs.declared.places.Place.{Place}
use Rattle.chord_scenario.specs.Setup.{Setup}
use Rattle.chord_scenario.specs.World.{ident_of, node_count}

-- the place is that of one of the scenario's nodes
pub record IsPlaceOf (sc : Setup) (place : Place) : Type 0 where
  pub node : place.node < node_count sc
  pub ident : place.ident ≡ ident_of sc place.node

-- the places of all nodes, in the order of the identifiers
pub record AreAllPlaces (sc : Setup) (places : List Place) : Type 0 where
  pub each : All (IsPlaceOf sc) places
  pub ascend : IsNonDecreasingBy (λ (place : Place). place.ident) places
  pub all : (n : ℕ) → n < node_count sc → list_any (λ place. place.node == n) places ≡ true

-- whether the marks say that node n is a member
abbrev pub is_marked : List Bool → ℕ → Bool
is_marked marks n = slice_index_or marks n false

-- the node of the first of these places that is marked
abbrev pub first_marked : List Bool → List Place → Option ℕ
first_marked marks [] = None
first_marked marks (place ∷ places) = let rest = first_marked marks places in cond (is_marked marks place.node) (Some place.node) rest
