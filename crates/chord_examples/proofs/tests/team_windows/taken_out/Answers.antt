use Rattle.chord_examples.proofs.tests.team_windows.taken_out.Goals as goal

pub returns-clause-order : goal.returns-clause-order
returns-clause-order g c = c.in-Some.ensures.order.order
