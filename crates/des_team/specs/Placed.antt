-- The states of all nodes, in the parts that have them.
use Rattle.std.specs.Prelude.{ℕ, List, Option, None, length, map, option_and_then, slice_get, slice_index_or}
use Rattle.std.specs.List.{range_with_len}
use Rattle.std.specs.Option.{some_prefix}
use Rattle.des_team.specs.declared.layout.Layout.{Layout}
use Rattle.des_team.specs.declared.part.Parcel.{Parcel}

module _ {M State Body Piece S : Type 0} where
  -- the state at a slot of a part, if the part is here
  abbrev pub state_at : List (Option (Parcel M S State Body Piece)) → (part slot : ℕ) → Option State
  state_at parcels part slot = option_and_then (λ (parcel : Parcel M S State Body Piece). slice_get parcel.part.value.states.items slot) (slice_index_or parcels part None)

  -- the state of a node, if its part is here
  abbrev pub state_of : Layout → List (Option (Parcel M S State Body Piece)) → (node : ℕ) → Option State
  state_of l parcels node = option_and_then (λ part. option_and_then (state_at parcels part) (slice_get l.slots.items node)) (slice_get l.division.of_node node)

  -- the states of all nodes, up to the first whose part is not here
  abbrev pub placed : Layout → List (Option (Parcel M S State Body Piece)) → List State
  placed l parcels = some_prefix (map (state_of l parcels) (range_with_len 0 (length l.slots.items)))
