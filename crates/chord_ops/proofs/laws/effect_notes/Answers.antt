use Rattle.chord_ops.proofs.NotedRules.{block_few, block_known}
use Rattle.chord_ops.proofs.laws.effect_notes.Goals as goal

pub returns-clause-known : goal.returns-clause-known
returns-clause-known c = λ sc s e ranges h is. block_known sc s e ranges h is

pub returns-clause-few : goal.returns-clause-few
returns-clause-few c = λ sc s e ranges h is. block_few sc s e ranges h is
