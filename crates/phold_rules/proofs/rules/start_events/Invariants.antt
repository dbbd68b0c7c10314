use Rattle.std.proofs.Common.{◌≡◌}
use Rattle.phold_rules.specs.Rules.{all_jobs}
use Rattle.phold_rules.proofs.rules.start_events.Given as goal

abbrev pub invariant-loop-node : goal.invariant-loop-node
invariant-loop-node l = l.events.items ≡ all_jobs l.settings l.node
