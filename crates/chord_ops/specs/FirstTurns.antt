-- The turn in which a node becomes a member at the start of a run.
use Rattle.std.specs.Prelude.{◌≡◌, []}
use Rattle.chord_node.specs.declared.state.NodeState.{NodeState}
use Rattle.chord_ops.specs.declared.turn.Turn.{Turn}

-- a node in its first life that has neither drawn a word of its stream nor made an event
pub record IsNew (s : NodeState) : Type 0 where
  pub epoch : s.epoch ≡ 1
  pub place : s.place ≡ 0
  pub count : s.count ≡ 0

-- the turn of a node at time 0, before anything is done
abbrev pub first_turn : NodeState → Turn
first_turn s = record { time = 0; state = s; events = []; lines = [] }
