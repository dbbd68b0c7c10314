use Rattle.std.proofs.Common.{rules}
use Rattle.chord_node.proofs.state.Lookup.try_clone.Goals as goal

pub returns : goal.returns
returns c = search rules
