use Rattle.chord_node.proofs.Tried.{tried_in_turn, tried_some}
use Rattle.chord_node.proofs.laws.bootstrap_nodes_are_tried.Goals as goal

pub returns-clause-in_turn : goal.returns-clause-in_turn
returns-clause-in_turn c = tried_in_turn

pub returns-clause-found : goal.returns-clause-found
returns-clause-found c = tried_some
