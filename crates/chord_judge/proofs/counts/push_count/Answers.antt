use Rattle.std.proofs.Common.{◌∙◌}
use Rattle.chord_judge.proofs.Digesting.{adds_count}
use Rattle.chord_judge.proofs.Streams.{on_ok}
use Rattle.chord_judge.proofs.counts.push_count.Goals as goal

pub returns : goal.returns
returns c =
    on_ok _ _ c.push_line.result
    (λ added.
    adds_count c.args.since c.args.count c.args.word.now c.args.kind.now _ c.args.text.now.items _ c.ranges.since.fits
    c.requires.word c.requires.unkept c.requires.kind (c.as_bytes.ensures.value ∙ c.in_ok-line.ensures.ok) added)
    c.push_line.ensures
