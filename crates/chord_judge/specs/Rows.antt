-- The rows of the table of lookups.
use Rattle.chord_judge.specs.declared.row.End.{End}
use Rattle.chord_judge.specs.declared.row.Lookup.{Lookup}
use Rattle.chord_judge.specs.declared.row.Row.{Row}

-- the row of a lookup that ends like this
abbrev pub ends_by : End → Lookup → Row
ends_by end lookup = record { lookup = lookup; end = end }
