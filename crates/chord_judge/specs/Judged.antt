-- What became of each lookup. Lists of lines have the newest line first.
use Rattle.std.specs.Prelude.{ℕ, ◌+◌, ◌==◌, ◌&&◌, Bool, true, not, cond, List, [], ◌∷◌, ◌++◌, count_by, filter, map, reverse}
use Rattle.std.specs.List.{list_any}
use Rattle.chord_event.specs.declared.line.Line.{Line}
use Rattle.chord_event.specs.declared.line.Line.TheVariants as line
use Rattle.chord_judge.specs.Members.{is_member_after}
use Rattle.chord_judge.specs.Owners.{is_right_owner, right_owner, was_right_owner}
use Rattle.chord_judge.specs.Rows.{ends_by}
use Rattle.chord_judge.specs.declared.row.Answer.{Answer}
use Rattle.chord_judge.specs.declared.row.End.TheVariants as ended
use Rattle.chord_judge.specs.declared.row.Lookup.{Lookup}
use Rattle.chord_judge.specs.declared.row.Row.{Row}
use Rattle.chord_judge.specs.declared.told.Told.{Told}
use Rattle.chord_scenario.specs.Setup.{Setup}
use Rattle.chord_trace.specs.Kinds.{is_lookup}

-- the lookup is of this node
abbrev pub is_of : (node : ℕ) → Lookup → Bool
is_of node lookup = lookup.asker == node

-- the lookup is of this node and key, and had begun this long before a time
abbrev pub is_ended_by : (node key time us : ℕ) → Lookup → Bool
is_ended_by node key time us lookup = lookup.asker == node && (lookup.key == key && lookup.begun + us == time)

-- the lookups without the first one that passes the test
abbrev pub without_first : (Lookup → Bool) → List Lookup → List Lookup
without_first test [] = []
without_first test (lookup ∷ lookups) = let rest = without_first test lookups in cond (test lookup) lookups (lookup ∷ rest)

-- the first lookup that passes the test, as a list of at most one
abbrev pub first_alone : (Lookup → Bool) → List Lookup → List Lookup
first_alone test [] = []
first_alone test (lookup ∷ lookups) = let rest = first_alone test lookups in cond (test lookup) (lookup ∷ []) rest

-- the line says that a lookup begins
abbrev pub is_begin : Told → Bool
is_begin told = is_lookup told.line

-- the lookups in progress after a line, of those before it; a lookup that begins has this number. An end of a lookup ends
-- the first one of its node, key and begin, and a crash or a leave cuts off all of the node
abbrev pub open_by : Line → (number time node : ℕ) → List Lookup → List Lookup
open_by (line.Lookup key) number time node lookups = lookups ++ record { number = number; asker = node; key = key; begun = time } ∷ []
open_by (line.Found key owner hops timeouts us) number time node lookups = without_first (is_ended_by node key time us) lookups
open_by (line.Lost key hops timeouts us) number time node lookups = without_first (is_ended_by node key time us) lookups
open_by line.Crash number time node lookups = filter (λ lookup. not (is_of node lookup)) lookups
open_by line.Leave number time node lookups = filter (λ lookup. not (is_of node lookup)) lookups
open_by _ number time node lookups = lookups

-- the line ends no lookup, or one of these
abbrev pub is_known : Line → (time node : ℕ) → List Lookup → Bool
is_known (line.Found key owner hops timeouts us) time node lookups = list_any (is_ended_by node key time us) lookups
is_known (line.Lost key hops timeouts us) time node lookups = list_any (is_ended_by node key time us) lookups
is_known _ time node lookups = true

-- the lookups in progress after these lines, in the order of their begins; the number of a lookup is how many have begun
-- before it
abbrev pub open_after : List Told → List Lookup
open_after [] = []
open_after (told ∷ before) = open_by told.line (count_by is_begin before) told.time told.node (open_after before)

-- an answer, and whether it is right after these lines and was at an instant since the lookup began
abbrev pub answer_of : Setup → List Told → (key begun named hops timeouts : ℕ) → Answer
answer_of sc lines key begun named hops timeouts = record {
  named = named;
  hops = hops;
  timeouts = timeouts;
  right_owner = right_owner sc (is_member_after sc lines) key;
  strict = is_right_owner sc (is_member_after sc lines) key named;
  defensible = was_right_owner sc begun key named lines;
}

-- the rows of the lookups that a line ends, of those in progress before it, after these lines
abbrev pub rows_by : Setup → List Told → List Lookup → Line → (time node : ℕ) → List Row
rows_by sc lines lookups (line.Found key owner hops timeouts us) time node =
    map (λ lookup. ends_by (ended.Found time (answer_of sc lines key lookup.begun owner hops timeouts)) lookup)
    (first_alone (is_ended_by node key time us) lookups)
rows_by sc lines lookups (line.Lost key hops timeouts us) time node =
    map (ends_by (ended.Lost time hops timeouts)) (first_alone (is_ended_by node key time us) lookups)
rows_by sc lines lookups line.Crash time node = map (ends_by (ended.Crash time)) (filter (is_of node) lookups)
rows_by sc lines lookups line.Leave time node = map (ends_by (ended.Leave time)) (filter (is_of node) lookups)
rows_by sc lines lookups _ time node = []

-- the rows of the lookups that these lines end, in the order of the ends
abbrev pub rows_after : Setup → List Told → List Row
rows_after sc [] = []
rows_after sc (told ∷ before) = rows_after sc before ++ rows_by sc before (open_after before) told.line told.time told.node

-- a row for each lookup of a trace with these lines, the oldest line first: those that ended, and then those that the end
-- of the trace cuts off
abbrev pub judged : Setup → List Told → List Row
judged sc lines = rows_after sc (reverse lines) ++ map (ends_by ended.Trace) (open_after (reverse lines))
