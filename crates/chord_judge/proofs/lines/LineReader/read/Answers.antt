use Rattle.std.proofs.Common.{◌∙◌, sym}
use Rattle.chord_judge.proofs.Readings.{told_fits}
use Rattle.chord_judge.proofs.lines.LineReader.read.Goals as goal

pub returns-in-Some-Some-Some-clause-told : goal.returns-in-Some-Some-Some-clause-told
returns-in-Some-Some-Some-clause-told c =
    let told = c.in-Some-Some-Some in
    told_fits c.args.self.now.scenario.now c.in-Some.kind told.time told.node told.line c.first_word-2.result.0.now c.first_word-3.result.1.now
    (sym c.node.ensures ∙ told.is-1) (sym c.line.ensures ∙ told.is-2)
