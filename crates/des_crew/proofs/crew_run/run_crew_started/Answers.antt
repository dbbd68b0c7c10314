use Rattle.des_crew.proofs.crew_run.run_crew_started.Goals as goal

pub run_windows-outcome-requires-clause-at : goal.run_windows-outcome-requires-clause-at
run_windows-outcome-requires-clause-at g c _ _ = c.in_ok-engine.ensures.at _

pub returns-clause-run : goal.returns-clause-run
returns-clause-run g c = c.run_windows-outcome.ensures.run

pub returns-clause-writer : goal.returns-clause-writer
returns-clause-writer g c = c.run_windows-outcome.ensures.writer
