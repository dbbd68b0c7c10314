use Rattle.std.proofs.Common.{[]}
use Rattle.chord_judge.proofs.Digesting.{adds_both}
use Rattle.chord_judge.proofs.Streams.{on_ok}
use Rattle.chord_judge.proofs.counts.Counts.push_to.Goals as goal

pub returns : goal.returns
returns c =
    let asked = c.in_ok-push_counts.ensures in
    let sent = adds_both [] [] _ _ _ asked c.in_ok-push_counts-2.ensures in
    let dropped = adds_both [] [] _ _ _ sent c.in_ok-push_counts-3.ensures in
    on_ok _ _ c.push_count.result (λ lookups. adds_both [] [] _ _ _ dropped lookups) c.push_count.ensures
