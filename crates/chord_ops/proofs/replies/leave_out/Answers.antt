use Rattle.std.proofs.Common.{rules, not}
use Rattle.std.proofs.lemmas.Fn.{filter_same}
use Rattle.chord_ops.specs.Search.{is_avoided}
use Rattle.chord_ops.proofs.replies.leave_out.Goals as goal

pub returns : goal.returns
returns c =
    filter_same _ (λ node. not (is_avoided c.args.avoid.now node)) _ (λ x b f' h. (search rules, search rules)) _ _ c.retain.ensures
