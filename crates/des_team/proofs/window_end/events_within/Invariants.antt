use Rattle.std.proofs.Common.{◌≡◌, ◌+◌, ◌≤◌, drop}
use Rattle.des_team.specs.Teams.{events_in}
use Rattle.des_team.proofs.window_end.events_within.Given as goal

abbrev pub invariant-loop-result : goal.invariant-loop-result
invariant-loop-result g l = record {
  sum : l.events + events_in (drop l.result-index l.results) ≡ events_in l.results;
  within : l.events ≤ l.room;
}
