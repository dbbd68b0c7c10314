use Rattle.std.proofs.Common.{◌+◌, ◌≤◌, List, ◌++◌, take}
use Rattle.std.specs.List.{filter_map}
use Rattle.chord_trace.specs.FoundLookups.{HasFound, found_len}
use Rattle.chord_trace.specs.Kinds.{found_in}
use Rattle.chord_trace.proofs.found_lookups.FoundLookups.add_lines.Given as goal
use Rattle.chord_trace.specs.declared.found_lookups.Found.{Found}

abbrev pub invariant-loop-line : goal.invariant-loop-line
invariant-loop-line l =
    ((seen : List Found) → HasFound seen l.initial.self → HasFound (seen ++ filter_map found_in (take l.line-index l.lines)) l.self)
    × (found_len l.self ≤ found_len l.initial.self + l.line-index)
