-- The number of lines of each kind.
use Rattle.std.specs.Prelude.{ℕ, ◌+◌, ◌≤◌, List, count_by}
use Rattle.chord_event.specs.declared.line.Line.{Line}
use Rattle.chord_trace.specs.Kinds.{
  is_member,
  is_join_failed,
  is_crash,
  is_stranded,
  is_drop,
  is_late,
  is_timeout,
  is_lookup,
  is_found,
  is_lost,
  is_busy,
  is_ignored,
  is_loss,
  is_again,
  is_forgotten,
  is_leave,
  is_rescue,
  is_create,
}
use Rattle.chord_trace.specs.declared.line_counts.LineCounts.{LineCounts}

-- the number of these lines of each kind
abbrev pub counts_in : List Line → LineCounts
counts_in lines = record {
  members = count_by is_member lines;
  join_failed = count_by is_join_failed lines;
  crashes = count_by is_crash lines;
  stranded = count_by is_stranded lines;
  drops = count_by is_drop lines;
  late = count_by is_late lines;
  timeouts = count_by is_timeout lines;
  lookups = count_by is_lookup lines;
  found = count_by is_found lines;
  lost = count_by is_lost lines;
  busy = count_by is_busy lines;
  ignored = count_by is_ignored lines;
  losses = count_by is_loss lines;
  again = count_by is_again lines;
  forgotten = count_by is_forgotten lines;
  leaves = count_by is_leave lines;
  rescues = count_by is_rescue lines;
  creates = count_by is_create lines;
}

-- two counts added, kind by kind
abbrev pub plus : LineCounts → LineCounts → LineCounts
plus a b = record {
  members = a.members + b.members;
  join_failed = a.join_failed + b.join_failed;
  crashes = a.crashes + b.crashes;
  stranded = a.stranded + b.stranded;
  drops = a.drops + b.drops;
  late = a.late + b.late;
  timeouts = a.timeouts + b.timeouts;
  lookups = a.lookups + b.lookups;
  found = a.found + b.found;
  lost = a.lost + b.lost;
  busy = a.busy + b.busy;
  ignored = a.ignored + b.ignored;
  losses = a.losses + b.losses;
  again = a.again + b.again;
  forgotten = a.forgotten + b.forgotten;
  leaves = a.leaves + b.leaves;
  rescues = a.rescues + b.rescues;
  creates = a.creates + b.creates;
}

-- no count is above the limit
pub record AreWithin (limit : ℕ) (c : LineCounts) : Type 0 where
  pub members : c.members ≤ limit
  pub join_failed : c.join_failed ≤ limit
  pub crashes : c.crashes ≤ limit
  pub stranded : c.stranded ≤ limit
  pub drops : c.drops ≤ limit
  pub late : c.late ≤ limit
  pub timeouts : c.timeouts ≤ limit
  pub lookups : c.lookups ≤ limit
  pub found : c.found ≤ limit
  pub lost : c.lost ≤ limit
  pub busy : c.busy ≤ limit
  pub ignored : c.ignored ≤ limit
  pub losses : c.losses ≤ limit
  pub again : c.again ≤ limit
  pub forgotten : c.forgotten ≤ limit
  pub leaves : c.leaves ≤ limit
  pub rescues : c.rescues ≤ limit
  pub creates : c.creates ≤ limit
