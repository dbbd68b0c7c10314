use Rattle.std.specs.Prelude.{Some}
use Rattle.des_team.proofs.run.run_team_by.Given as goal

-- the run of this machine, by this layout
abbrev pub ghosts-run_named : goal.ghosts-run_named
ghosts-run_named g a = record { run = Some (a.machine.now, a.layout.now) }
