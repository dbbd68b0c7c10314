use Rattle.std.proofs.Common.{rules}
use Rattle.chord_scenario.specs.World.{latency}
use Rattle.chord_scenario.proofs.scenario.Scenario.latency.Goals as goal

pub returns-then-from-to : goal.returns-then-from-to
unfolding latency
returns-then-from-to c = search rules
