use Rattle.des_team.specs.Starts.{AreEmptyParts}
use Rattle.des_team.proofs.start.empty_parts.Given as goal

abbrev pub invariant-loop-part : goal.invariant-loop-part
invariant-loop-part g l = AreEmptyParts (g.S.Scribe.HasCounted l.machine) l.parts l.part l.list.items
