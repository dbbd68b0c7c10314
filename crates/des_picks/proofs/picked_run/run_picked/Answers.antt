use Rattle.des_picks.proofs.picked_run.run_picked.Goals as goal

pub run_windows-outcome-requires-clause-at : goal.run_windows-outcome-requires-clause-at
run_windows-outcome-requires-clause-at g c = c.in_ok-engine.ensures.at _

pub returns-clause-run : goal.returns-clause-run
returns-clause-run g c = c.run_windows-outcome.ensures.run

pub returns-clause-steps : goal.returns-clause-steps
returns-clause-steps g c = rw c.in_ok-engine.ensures.division at c.run_windows-outcome.ensures.steps

pub returns-clause-writer : goal.returns-clause-writer
returns-clause-writer g c = c.run_windows-outcome.ensures.writer
