-- A Chord ring can be simulated.
use Rattle.std.proofs.Common.{◌+◌, ◌≤◌, ◌^◌, length, arith}
use Rattle.chord_machine.specs.AuditTimes.{audit_times, most_audits}
use Rattle.chord_machine.specs.Chord.{chord}
use Rattle.chord_machine.specs.Room.{HasRoom}
use Rattle.chord_machine.specs.Sound.{IsStateOf}
use Rattle.chord_machine.proofs.Audits.{audits-few, audits-in-time}
use Rattle.chord_machine.proofs.Room.{room_is_left}
use Rattle.chord_machine.proofs.WellFormed.{well_formed}
use Rattle.chord_ops.specs.Sound.{IsSoundEvent}
use Rattle.chord_scenario.specs.declared.scenario.Scenario.{Scenario}
use Rattle.chord_scenario.specs.Range.{IsInRange}
use Rattle.des_machine.specs.Simulable.{IsSimulable}

pub is_simulable : (sc : Scenario) → IsInRange sc → IsSimulable (chord sc) (IsStateOf sc) (IsSoundEvent sc) HasRoom
is_simulable sc ranges = record {
  well_formed = well_formed sc ranges;
  room_is_left = room_is_left sc ranges;
  few = let audits = audits-few sc ranges in omega (arith, audits, ranges.numbers.max_events_greatest);
  ascending = (audits-in-time sc ranges).ascending;
  in_time = (audits-in-time sc ranges).in_time;
}
