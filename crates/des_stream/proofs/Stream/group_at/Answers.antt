use Rattle.std.proofs.Common.{rules}
use Rattle.des_stream.specs.Word.{word}
use Rattle.des_stream.proofs.Stream.group_at.Goals as goal

pub returns-clause-first : goal.returns-clause-first
unfolding word
returns-clause-first c = search rules

pub returns-clause-second : goal.returns-clause-second
unfolding word
returns-clause-second c = search rules

pub returns-clause-third : goal.returns-clause-third
unfolding word
returns-clause-third c = search rules

pub returns-clause-fourth : goal.returns-clause-fourth
unfolding word
returns-clause-fourth c = search rules
