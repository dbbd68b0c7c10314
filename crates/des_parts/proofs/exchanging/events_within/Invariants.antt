use Rattle.std.proofs.Common.{◌≡◌, ◌+◌, ◌≤◌, drop}
use Rattle.des_parts.specs.Exchanges.{events_in}
use Rattle.des_parts.proofs.exchanging.events_within.Given as goal

abbrev pub invariant-loop-done : goal.invariant-loop-done
invariant-loop-done g l = record {
  sum : l.events + events_in (drop l.done-index l.dones) ≡ events_in l.dones;
  within : l.events ≤ l.room;
}
