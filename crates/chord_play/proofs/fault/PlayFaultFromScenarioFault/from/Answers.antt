use Rattle.std.proofs.Common.{rules}
use Rattle.chord_play.proofs.fault.PlayFaultFromScenarioFault.from.Goals as goal

pub returns-in-Memory : goal.returns-in-Memory
returns-in-Memory c = search rules
