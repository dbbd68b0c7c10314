-- What a division is.
use Rattle.std.specs.Prelude.{◌*◌, ◌/◌, ◌%◌, ◌<◌, ◌≤◌, ◌==◌, nat_lt, nat_le, not, if◌then◌else◌, ℕ, List, Option, None, Some, length}
use Rattle.std.specs.List.{All, list_any}
use Rattle.des_window.specs.declared.division.TheConstants.{MOST_PARTS}
use Rattle.des_window.specs.declared.division.DivisionFault.{DivisionFault}
use Rattle.des_window.specs.declared.division.DivisionFault.TheVariants as fault

-- there are parts, and not too many, and the part of each node is one of them
pub record AreWithin (parts : ℕ) (of_node : List ℕ) : Type 0 where
  pub some : 0 < parts
  pub few : parts ≤ MOST_PARTS
  pub below : All (λ p. p < parts) of_node

-- the first reason why a list is no division of this number of nodes into this number of parts
abbrev pub first_fault : (nodes parts : ℕ) → List ℕ → Option DivisionFault
first_fault nodes parts of_node =
    if parts == 0 then Some fault.NoParts
    else if nat_lt MOST_PARTS parts then Some fault.TooManyParts
    else if not (length of_node == nodes) then Some fault.WrongLength
    else if list_any (λ p. nat_le parts p) of_node then Some fault.PartOutOfRange
    else None

-- the part of a node when the nodes are dealt to the parts in turn
abbrev pub dealt_part : (parts node : ℕ) → ℕ
dealt_part parts node = node % parts

-- the part of a node when each part has neighbouring nodes
abbrev pub block_part : (nodes parts node : ℕ) → ℕ
block_part nodes parts node = node * parts / nodes
