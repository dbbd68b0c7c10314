use Rattle.std.proofs.Common.{◌≡◌, refl, rules}
use Rattle.des_event.specs.declared.error.RunError.{RunError}
use Rattle.des_event.specs.declared.error.RunError.TheVariants as run
use Rattle.des_machine.proofs.Runs.{run_refused}
use Rattle.des_team.proofs.run.run_named.Goals as goal

memory_alone : {X : Type 0} (e : RunError) → e ≡ run.Memory → e ≡ run.TooManyEvents → X
memory_alone e is other = absurd cc

pub run_standing-requires-clause-at : goal.run_standing-requires-clause-at
run_standing-requires-clause-at g c _ _ = c.in_ok-team.ensures.at _

pub returns-in_err-parkers-clause-run : goal.returns-in_err-parkers-clause-run
returns-in_err-parkers-clause-run g c = run_refused (g.S.Scribe.text c.args.machine.now) (g.M.Machine.model c.args.machine.now)
    (g.S.Scribe.IsReport c.args.machine.now) _ _ run.Memory
    (search (rules, c.from_residual.ensures)) (memory_alone run.Memory refl)

pub start-requires : goal.start-requires
start-requires g c = c.requires.layout

pub returns-in_err-team-clause-run : goal.returns-in_err-team-clause-run
returns-in_err-team-clause-run g c = run_refused (g.S.Scribe.text c.args.machine.now) (g.M.Machine.model c.args.machine.now)
    (g.S.Scribe.IsReport c.args.machine.now) _ _ c.in_err-team.field-0.0
    (search (rules, c.from_residual-in_err-team.ensures)) (memory_alone c.in_err-team.field-0.0 c.in_err-team.ensures.only)

pub returns-clause-run : goal.returns-clause-run
returns-clause-run g c = c.run_standing.ensures.run

pub returns-clause-writer : goal.returns-clause-writer
returns-clause-writer g c = c.run_standing.ensures.writer

pub returns-clause-only : goal.returns-clause-only
returns-clause-only g c = c.run_standing.ensures.only
