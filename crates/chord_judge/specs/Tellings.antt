-- What a line may say that is told to a judge.
use Rattle.std.specs.Prelude.{◌<◌, ◌^◌}
use Rattle.chord_event.specs.declared.line.Line.{Line}
use Rattle.chord_event.specs.declared.line.Line.TheVariants as line
use Rattle.chord_judge.specs.declared.told.Told.{Told}
use Rattle.chord_scenario.specs.Blocks.{IsLineOf}
use Rattle.chord_scenario.specs.Setup.{Setup}
use Rattle.chord_scenario.specs.World.{node_count}

-- the key of an answer is on the circle
abbrev pub IsOnCircle : Setup → Line → Type 0
IsOnCircle sc (line.Found key owner hops timeouts us) = key < 2 ^ sc.bits
IsOnCircle sc _ = Unit {0}

-- the line is of one of the scenario's nodes, names no other nodes, and has a key on the circle
pub record IsToldOf (sc : Setup) (told : Told) : Type 0 where
  pub node : told.node < node_count sc
  pub line : IsLineOf sc told.line
  pub key : IsOnCircle sc told.line
