use Rattle.std.proofs.Common.{rules}
use Rattle.chord_play.proofs.session.tell.Goals as goal

pub returns-in_err-scenario-clause-faults : goal.returns-in_err-scenario-clause-faults
returns-in_err-scenario-clause-faults g c = search rules

pub returns-in_err-write_text-clause-beginning : goal.returns-in_err-write_text-clause-beginning
returns-in_err-write_text-clause-beginning g c = search rules

pub returns-clause-answered : goal.returns-clause-answered
returns-clause-answered g c = search rules

pub returns-clause-beginning : goal.returns-clause-beginning
returns-clause-beginning g c = search rules
