use Rattle.std.proofs.Common.{◌≡◌, List, ℕ, [], map}
use Rattle.chord_scenario.specs.Latencies.{HasLeft, kept_link}
use Rattle.chord_scenario.specs.Rows.{Row}
use Rattle.chord_scenario.proofs.row.kept_links.Given as goal

-- what is kept so far is of the first rows of the text, and the reader, which is flexible, has the rest
abbrev pub invariant-loop-record : goal.invariant-loop-record
invariant-loop-record l =
    (text : List ℕ) → HasLeft text [] l.fn.records
    → (read : List Row) × (l.links.items ≡ map (kept_link l.names.nodes.now) read) × HasLeft text read l.records

abbrev pub decreases-loop-record : goal.decreases-loop-record
decreases-loop-record l = l.records.left
