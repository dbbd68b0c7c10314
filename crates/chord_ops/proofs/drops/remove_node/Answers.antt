use Rattle.std.proofs.Common.{rules, ◌==◌, not}
use Rattle.std.proofs.lemmas.Fn.{filter_same}
use Rattle.chord_ops.proofs.drops.remove_node.Goals as goal

pub returns : goal.returns
returns c =
    filter_same _ (λ other. not (other == c.args.node)) _ (λ x b f' h. (search rules, search rules)) _ _ c.retain.ensures
