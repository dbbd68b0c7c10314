use Rattle.std.proofs.Common.{ℕ, ◌<◌, subst, sym}
use Rattle.std.specs.List.{All}
use Rattle.chord_judge.specs.Judged.{open_after}
use Rattle.chord_judge.specs.Open.{nodes_of}
use Rattle.chord_judge.proofs.InOrder.{are_numbered}
use Rattle.chord_judge.proofs.Streams.{on_ok}
use Rattle.chord_judge.proofs.judge.Judge.finish.Goals as goal

pub returns : goal.returns
returns c =
    on_ok _ _ c.finish.result (λ rows lines has.
    rows (open_after lines) has.lookups (are_numbered (nodes_of c.args.self.now.lookups) lines
    (subst (λ (n : ℕ). All (λ x. x.asker < n) (open_after lines)) (sym c.args.self.now.room) has.askers))) c.finish.ensures
