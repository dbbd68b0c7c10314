use Rattle.std.proofs.Common.{arith}
use Rattle.std.proofs.lemmas.Grind.{common_steps}
use Rattle.chord_audit.proofs.Reaches.{none_reached}
use Rattle.chord_audit.proofs.arcs.Arcs.new.Goals as goal

pub returns-clause-none : goal.returns-clause-none
returns-clause-none c = λ k. none_reached k c.args.ranks c.resize.new.self.items (grind (arith, common_steps))
