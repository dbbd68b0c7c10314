use Rattle.chord_laws.proofs.Accounts.{reports_add_up, unfinished_are_unended}
use Rattle.chord_laws.proofs.histories.reports_add_up.Goals as goal

pub returns-clause-unfinished : goal.returns-clause-unfinished
returns-clause-unfinished c = unfinished_are_unended

pub returns-clause-all : goal.returns-clause-all
returns-clause-all c = reports_add_up
