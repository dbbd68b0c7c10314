-- How many events each node has handled.
use Rattle.std.specs.Prelude.{ℕ, ◌+◌, ◌==◌, if◌then◌else◌, List, [], ◌∷◌}
use Rattle.des_parts.specs.declared.entries.Entry.{Entry}
use Rattle.des_parts.specs.declared.part_run.Done.{Done}

-- how many of these entries are of events at the node
abbrev pub events_of : {Piece : Type 0} → ℕ → List (Entry Piece) → ℕ
events_of node [] = 0
events_of node (entry ∷ entries) = (if entry.target == node then 1 else 0) + events_of node entries

-- how many events at the node the parts of a window have run
abbrev pub events_at : {State Body Piece : Type 0} → ℕ → List (Done State Body Piece) → ℕ
events_at node [] = 0
events_at node (done ∷ dones) = events_of node done.entries.items + events_at node dones
