use Rattle.std.proofs.Common.{rules}
use Rattle.chord_play.proofs.questions.answer.Goals as goal

pub returns-in-Idents : goal.returns-in-Idents
returns-in-Idents c = search rules
