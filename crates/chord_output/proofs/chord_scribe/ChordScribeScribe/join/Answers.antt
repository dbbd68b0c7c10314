use Rattle.chord_output.proofs.chord_scribe.ChordScribeScribe.join.Goals as goal

pub returns-clause-counted : goal.returns-clause-counted
returns-clause-counted g c = λ mine others. c.in_ok-tally.ensures.pieces (g.R.RingMachine.scenario_of c.args._ring.now).profile mine others
