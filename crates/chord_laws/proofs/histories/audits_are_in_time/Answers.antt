use Rattle.chord_machine.proofs.Audits.{audits-in-time}
use Rattle.chord_laws.proofs.histories.audits_are_in_time.Goals as goal

pub returns : goal.returns
returns c sc ranges = audits-in-time sc ranges
