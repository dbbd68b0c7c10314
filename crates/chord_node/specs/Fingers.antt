-- The fingers of a node as a list, and as runs of equal neighbours.
use Rattle.std.specs.Prelude.{ℕ, List, ◌∷◌, replicate}
use Rattle.std.specs.List.{flat_map}
use Rattle.chord_node.specs.declared.fingers.Run.{Run}

-- the fingers of a run: its node, and as many repeats of it as the run has
abbrev pub run_nodes : Run → List ℕ
run_nodes run = run.node ∷ replicate run.repeats run.node

-- the fingers of runs, one run after the other
abbrev pub expanded : List Run → List ℕ
expanded runs = flat_map run_nodes runs
