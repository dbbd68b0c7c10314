-- Which of several faults of a window is reported.
use Rattle.std.specs.Prelude.{ℕ}
use Rattle.des_event.specs.declared.error.RunError.{RunError}
use Rattle.des_event.specs.declared.error.RunError.TheVariants as run

-- the rank of a fault: the lowest is reported, a thread that could not be started first
abbrev pub rank_of : RunError → ℕ
rank_of run.Worker = 0
rank_of run.Memory = 1
rank_of run.TooManyEvents = 2
rank_of run.Write = 3
rank_of run.BadDivision = 4
