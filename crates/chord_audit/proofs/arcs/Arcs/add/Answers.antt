use Rattle.std.proofs.Common.{rules}
use Rattle.chord_audit.proofs.arcs.Arcs.add.Goals as goal

pub returns-else-a-b-clause-covered : goal.returns-else-a-b-clause-covered
returns-else-a-b-clause-covered c = search rules
