-- Where the states of the nodes lie.
use Rattle.std.specs.Prelude.{◌≡◌, ◌<◌, ◌+◌, ◌^◌, ◌==◌, ℕ, zero, suc, if◌then◌else◌, length, slice_index}
use Rattle.des_model.specs.Windows.{Division, Divides, part_of}
use Rattle.des_team.specs.declared.layout.Layout.{Layout}

-- the place of a node's state in its part
abbrev pub slot_of : Layout → ℕ → ℕ
slot_of l i = slice_index l.slots.items i

-- how many of the first n nodes are in a part
abbrev pub nodes_before : Division → (part n : ℕ) → ℕ
nodes_before d part zero = 0
nodes_before d part (suc n) = let before = nodes_before d part n in if part_of d n == part then before + 1 else before

-- each node has a part, and in it a place of its own: a part counts its nodes in the order of their numbers
pub record IsLayout (nodes : ℕ) (l : Layout) : Type 0 where
  pub few : nodes < 2 ^ 32
  pub divides : Divides l.division nodes
  pub long : length l.slots.items ≡ nodes
  pub apart : (i j : ℕ) → i < nodes → j < nodes → part_of l.division i ≡ part_of l.division j → slot_of l i ≡ slot_of l j → i ≡ j
  pub counted : (i : ℕ) → i < nodes → slot_of l i ≡ nodes_before l.division (part_of l.division i) i
