-- How a run is carried out.
use Rattle.std.specs.Prelude.{ℕ, map}
use Rattle.std.specs.List.{range_with_len}
use Rattle.des_model.specs.Windows.{Division}
use Rattle.chord_plan.specs.declared.plan.Plan.{Plan}
use Rattle.chord_plan.specs.declared.plan.Split.{Split}
use Rattle.chord_plan.specs.declared.plan.Split.TheVariants as split
use Rattle.des_window.specs.Divisions.{block_part, dealt_part}

-- the part of a node, of this number of nodes in this number of parts
abbrev pub part_by : Split → (nodes parts node : ℕ) → ℕ
part_by split.RoundRobin nodes parts = dealt_part parts
part_by split.Blocks nodes parts = block_part nodes parts

-- the division of this number of nodes that a plan asks for
abbrev pub planned : Plan → (nodes : ℕ) → Division
planned plan nodes = record { parts = plan.parts; of_node = map (part_by plan.split nodes plan.parts) (range_with_len 0 nodes) }
