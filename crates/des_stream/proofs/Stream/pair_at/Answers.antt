use Rattle.std.proofs.Common.{rules}
use Rattle.des_stream.specs.Word.{word}
use Rattle.des_stream.proofs.Stream.pair_at.Goals as goal

pub returns-then-at-lt15-clause-second : goal.returns-then-at-lt15-clause-second
unfolding word
returns-then-at-lt15-clause-second c = search rules

pub returns-else-at-lt15-clause-second : goal.returns-else-at-lt15-clause-second
unfolding word
returns-else-at-lt15-clause-second c = search rules
