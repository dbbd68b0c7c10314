-- The order of nodes by their identifiers.
use Rattle.std.specs.Prelude.{◌≡◌, ℕ, ◌<◌, List, length, map, nat_lt, slice_index}
use Rattle.chord_scenario.specs.declared.order.Placed.{Placed}
use Rattle.chord_scenario.specs.declared.setting.Node.{Node}
use Rattle.chord_scenario.specs.Setup.{Setup}
use Rattle.chord_scenario.specs.World.{node_count, ident_of}

-- a rank of each of so many nodes, and the ranks ascend as the identifiers do
pub record AreRanksBy (count : ℕ) (ident : ℕ → ℕ) (ranks : List ℕ) : Type 0 where
  pub each : length ranks ≡ count
  pub within : (n : ℕ) → n < count → slice_index ranks n < count
  pub order : (n m : ℕ) → n < count → m < count → nat_lt (slice_index ranks n) (slice_index ranks m) ≡ nat_lt (ident n) (ident m)

-- a rank of each node of a scenario
abbrev pub AreRanks : Setup → (ranks : List ℕ) → Type 0
AreRanks sc ranks = AreRanksBy (node_count sc) (ident_of sc) ranks

-- the nodes at the ranks, each at its own
pub record AreInOrder (ranks nodes : List ℕ) : Type 0 where
  pub each : length nodes ≡ length ranks
  pub known : (k : ℕ) → k < length nodes → slice_index nodes k < length ranks
  pub own : (k : ℕ) → k < length nodes → slice_index ranks (slice_index nodes k) ≡ k

-- What follows is of a list of nodes.

-- the identifier of node n of the list
abbrev pub ident_in : List Node → ℕ → ℕ
ident_in nodes n = slice_index (map (λ node. node.ident) nodes) n

-- a rank of each node of the list
abbrev pub AreRanksOf : List Node → (ranks : List ℕ) → Type 0
AreRanksOf nodes ranks = AreRanksBy (length nodes) (ident_in nodes) ranks

-- no two nodes of the list have one identifier
abbrev pub AreApart : List Node → Type 0
AreApart nodes = (i j : ℕ) → i < length nodes → j < length nodes → ident_in nodes i ≡ ident_in nodes j → i ≡ j

-- node n of the list, with its identifier
abbrev pub placed : List Node → ℕ → Placed
placed nodes n = record { ident = ident_in nodes n; node = n }
