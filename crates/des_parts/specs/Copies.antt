-- States that were copied at the first touch.
use Rattle.std.specs.Prelude.{◌≡◌, ◌⊎◌, ◌<◌, ℕ, List, [], Option, Some, None, length, slice_index_or}
use Rattle.des_model.specs.Windows.{Division, part_of}
use Rattle.des_parts.specs.declared.copies.Copies.{Copies}
use Rattle.des_parts.specs.declared.copies.Touched.{Touched}

module _ {State : Type 0} where
  -- a state, for whatever node
  abbrev pub touched_as : State → Touched State
  touched_as s = record { node = 0; state = s }

  -- the state in a slot of the copies, if there is one, or else the world's
  abbrev pub in_slot : State → Option ℕ → List (Touched State) → List State → ℕ → State
  in_slot other None copies states i = slice_index_or states i other
  in_slot other (Some k) copies states i = (slice_index_or copies k (touched_as other)).state

  -- the state of a node as a part sees it
  abbrev pub seen : State → List State → Copies State → ℕ → State
  seen other states c i = in_slot other (slice_index_or c.slots.items i None) c.states.items states i

  -- the slot is the node's
  pub record IsSlot (c : Copies State) (i k : ℕ) : Type 0 where
    pub slot : slice_index_or c.slots.items i None ≡ Some k
    pub inside : k < length c.states.items

  -- there is a slot for each node, or none at all; each slot has a state of its node, and each state is in the slot of
  -- its node, which is of the part
  pub record AreCopies (d : Division) (part : ℕ) (states : List State) (c : Copies State) : Type 0 where
    pub long : (length c.slots.items ≡ length states) ⊎ (c.slots.items ≡ [])
    pub filled : (i k : ℕ) → slice_index_or c.slots.items i None ≡ Some k → k < length c.states.items
    pub named : (i k : ℕ) (s : Touched State) → slice_index_or c.slots.items i None ≡ Some k → (slice_index_or c.states.items k s).node ≡ i
    pub placed : (k : ℕ) (s : Touched State) → k < length c.states.items → slice_index_or c.slots.items (slice_index_or c.states.items k s).node None ≡ Some k
    pub inside : (k : ℕ) (s : Touched State) → k < length c.states.items → ((slice_index_or c.states.items k s).node < length states)
        × (part_of d (slice_index_or c.states.items k s).node ≡ part)

  -- each node is seen in the same state
  pub record HaveSeen (states : List State) (old new : Copies State) : Type 0 where
    pub same : (i : ℕ) (s : State) → i < length states → seen s states new i ≡ seen s states old i
