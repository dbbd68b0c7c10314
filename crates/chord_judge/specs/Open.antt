-- What is held of the lookups in progress.
use Rattle.std.specs.Prelude.{◌≡◌, ℕ, ◌<◌, List, [], ◌∷◌, Vec, filter, length, slice_index_or}
use Rattle.std.specs.Global.{Global}
use Rattle.std.specs.List.{All}
use Rattle.chord_judge.specs.Judged.{is_of}
use Rattle.chord_judge.specs.declared.open.OpenLookups.{OpenLookups}
use Rattle.chord_judge.specs.declared.row.Lookup.{Lookup}

-- the number of the nodes
abbrev pub nodes_of : OpenLookups → ℕ
nodes_of held = length held.lists.items

-- the list of each node has those of the lookups that are the node's, in their order
abbrev pub Holds : List Lookup → OpenLookups → Type 0
Holds lookups held =
    (n : ℕ) (d : Vec Lookup Global) → n < nodes_of held → (slice_index_or held.lists.items n d).items ≡ filter (is_of n) lookups

-- each lookup has a lower number than those behind it
abbrev pub Ascend : List Lookup → Type 0
Ascend [] = Unit {0}
Ascend (lookup ∷ lookups) = All (λ later. lookup.number < later.number) lookups × Ascend lookups

-- the lookups are of this number of nodes, and in the order of their numbers
pub record AreNumbered (nodes : ℕ) (lookups : List Lookup) : Type 0 where
  pub askers : All (λ lookup. lookup.asker < nodes) lookups
  pub ascend : Ascend lookups
