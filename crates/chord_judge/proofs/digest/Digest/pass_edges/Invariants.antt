use Rattle.std.proofs.Common.{◌≡◌, []}
use Rattle.chord_judge.specs.Kept.{Adds}
use Rattle.chord_judge.proofs.digest.Digest.pass_edges.Given as goal

abbrev pub invariant-loop : goal.invariant-loop
invariant-loop l = (l.self.line ≡ l.fn.self.line) × Adds [] l.fn.self.text.items l.self.text.items
