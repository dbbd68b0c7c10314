-- The tally has the trace with the block at its end.
use Rattle.std.proofs.Common.{◌∙◌, ap, refl}
use Rattle.chord_trace.specs.Counts.{counts_in, plus}
use Rattle.chord_trace.proofs.Tallies.{with_block}
use Rattle.chord_trace.proofs.tally.Tally.add.Goals as goal

pub returns-clause-piece : goal.returns-clause-piece
returns-clause-piece c = λ profile pieces t. with_block profile pieces c.args.block.now c.args.self.now _ t refl refl
    (c.add.ensures ∙ ap (λ l. plus c.args.self.now.counts (counts_in l)) c.as_slice-lines.ensures)
    (λ seen s. rw c.as_slice-lines.ensures at (c.in_ok-add_lines.ensures.has seen s))
    refl
