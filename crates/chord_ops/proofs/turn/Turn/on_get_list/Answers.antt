use Rattle.std.proofs.Common.{rules}
use Rattle.chord_ops.specs.Rules.{list_asked}
use Rattle.chord_ops.proofs.turn.Turn.on_get_list.Goals as goal

pub returns : goal.returns
unfolding list_asked
returns c = search rules
