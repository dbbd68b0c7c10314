-- The lines that a run writes, as a judge is to be told them.
use Rattle.std.specs.Prelude.{◌≡◌, ℕ, ◌<◌, ◌^◌, ◌==◌, ◌||◌, Bool, false, true, List, Option, Some, None, if◌then◌else◌}
use Rattle.std.specs.List.{All, filter_map, flat_map}
use Rattle.chord_event.specs.declared.block.Block.{Block}
use Rattle.chord_event.specs.declared.line.Line.{Line}
use Rattle.chord_event.specs.declared.line.Line.TheVariants as line
use Rattle.chord_judge.specs.declared.lines.Said.{Said}
use Rattle.chord_judge.specs.declared.lines.Said.TheVariants as outcome
use Rattle.chord_judge.specs.declared.told.Told.{Told}
use Rattle.chord_scenario.specs.Blocks.{IsLineOf}
use Rattle.chord_scenario.specs.Setup.{Setup}
use Rattle.chord_scenario.specs.World.{name_of, node_count}
use Rattle.chord_trace.specs.Pieces.{blocks_of}
use Rattle.chord_trace.specs.declared.piece.Piece.{Piece}

-- the line is of a kind that a judge is to be told
abbrev pub is_judged : Line → Bool
is_judged (line.Member predecessor) = true
is_judged line.Create = true
is_judged line.Crash = true
is_judged line.Leave = true
is_judged (line.Stranded via) = true
is_judged (line.Lookup key) = true
is_judged (line.Found key owner hops timeouts us) = true
is_judged (line.Lost key hops timeouts us) = true
is_judged _ = false

-- the byte ends a word or a line: it is a space or a line feed
abbrev pub is_break : ℕ → Bool
is_break byte = byte == 32 || byte == 10

-- the names of the nodes are words, and no two nodes have the same name
pub record HasPlainNames (sc : Setup) : Type 0 where
  pub words : (i : ℕ) → i < node_count sc → All (λ byte. is_break byte ≡ false) (name_of sc i)
  pub apart : (i j : ℕ) → i < node_count sc → j < node_count sc → name_of sc i ≡ name_of sc j → i ≡ j

-- the key of a judged line is on the circle, and its numbers are of 32 and of 64 bits
pub record AreInRange (sc : Setup) (key hops timeouts us : ℕ) : Type 0 where
  pub on_circle : key < 2 ^ sc.bits
  pub few_hops : hops < 2 ^ 32
  pub few_timeouts : timeouts < 2 ^ 32
  pub short : us < 2 ^ 64

-- the numbers of a judged line are in their ranges
abbrev pub HasNumbers : Setup → Line → Type 0
HasNumbers sc (line.Lookup key) = key < 2 ^ sc.bits
HasNumbers sc (line.Found key owner hops timeouts us) = AreInRange sc key hops timeouts us
HasNumbers sc (line.Lost key hops timeouts us) = AreInRange sc key hops timeouts us
HasNumbers sc _ = Unit {0}

-- a run of the scenario can write this line of an event at this time and node
pub record IsWritable (sc : Setup) (time node : ℕ) (line : Line) : Type 0 where
  pub early : time < 2 ^ 64
  pub there : node < node_count sc
  pub names : IsLineOf sc line
  pub numbers : HasNumbers sc line

-- what the text of a line says: the line itself if it is to be judged, and otherwise only that it is of another kind
abbrev pub saying : (time node : ℕ) → Line → Said
saying time node line = if is_judged line then outcome.Told (record { time = time; node = node; line = line }) else outcome.Other

-- the line with its time and node, if it is to be judged
abbrev pub telling : (time node : ℕ) → Line → Option Told
telling time node line = if is_judged line then Some (record { time = time; node = node; line = line }) else None

-- the lines of an event that are to be judged
abbrev pub told_of_block : Block → List Told
told_of_block block = filter_map (telling block.key.time block.target) block.lines

-- the lines of a trace that are to be judged, in its order
abbrev pub told_of : List Piece → List Told
told_of pieces = flat_map told_of_block (blocks_of pieces)

-- a run of the scenario can write the lines of this event
abbrev pub IsWritableBlock : Setup → Block → Type 0
IsWritableBlock sc block = All (IsWritable sc block.key.time block.target) block.lines
