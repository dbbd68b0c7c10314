-- Blocks of a scenario's nodes.
use Rattle.std.specs.Prelude.{ℕ, ◌<◌, List, [], ◌∷◌, All}
use Rattle.chord_event.specs.declared.block.Block.{Block}
use Rattle.chord_event.specs.declared.line.Line.{Line}
use Rattle.chord_event.specs.declared.line.Line.TheVariants as line
use Rattle.chord_scenario.specs.Setup.{Setup}
use Rattle.chord_scenario.specs.World.{node_count}

-- the nodes that a line names, beside its own
abbrev pub nodes_named : Line → List ℕ
nodes_named (line.Join via) = via ∷ []
nodes_named (line.Member predecessor) = predecessor ∷ []
nodes_named (line.Stranded via) = via ∷ []
nodes_named (line.Drop kind sender) = sender ∷ []
nodes_named (line.Late kind sender) = sender ∷ []
nodes_named (line.Timeout silent) = silent ∷ []
nodes_named (line.Lose kind receiver) = receiver ∷ []
nodes_named (line.Again kind receiver) = receiver ∷ []
nodes_named (line.Forget predecessor) = predecessor ∷ []
nodes_named (line.Rescue finger) = finger ∷ []
nodes_named (line.Ask kind receiver call) = receiver ∷ []
nodes_named (line.Seek kind receiver call key since) = receiver ∷ []
nodes_named (line.Send kind receiver) = receiver ∷ []
nodes_named (line.Found key owner hops timeouts us) = owner ∷ []
nodes_named _ = []

-- the line names nodes of the scenario alone
abbrev pub IsLineOf : Setup → Line → Type 0
IsLineOf sc line = All (λ node. node < node_count sc) (nodes_named line)

-- the block is of one of the scenario's nodes, and its lines name no other nodes
pub record IsBlockOf (sc : Setup) (block : Block) : Type 0 where
  pub target : block.target < node_count sc
  pub lines : All (IsLineOf sc) block.lines

-- no event leaves more lines: the rules leave at most 65, and detail leaves at most one for each of the seven events
-- that an event makes
abbrev pub most_lines : ℕ
most_lines = 72
