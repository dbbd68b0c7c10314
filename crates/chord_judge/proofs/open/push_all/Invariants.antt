use Rattle.std.proofs.Common.{◌≡◌, ◌++◌, map, take}
use Rattle.chord_judge.specs.Rows.{ends_by}
use Rattle.chord_judge.proofs.open.push_all.Given as goal

abbrev pub invariant-loop-lookup : goal.invariant-loop-lookup
invariant-loop-lookup l = l.rows.items ≡ l.initial.rows.items ++ map (ends_by l.end) (take l.lookup-index l.lookups)
