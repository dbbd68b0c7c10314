use Rattle.std.proofs.Common.{rules}
use Rattle.chord_circle.proofs.ident.Ident.of.Goals as goal

pub returns : goal.returns
returns c = search rules
