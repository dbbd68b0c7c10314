use Rattle.std.proofs.Common.{◌≡◌, ◌++◌}
use Rattle.phold_rules.specs.Rules.{jobs_of}
use Rattle.phold_rules.proofs.rules.push_jobs.Given as goal

abbrev pub invariant-loop-job : goal.invariant-loop-job
invariant-loop-job l = l.events.items ≡ l.initial.events.items ++ jobs_of l.settings l.node l.job
