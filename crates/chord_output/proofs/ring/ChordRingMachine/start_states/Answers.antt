use Rattle.chord_output.proofs.Instance.{first_ring}
use Rattle.chord_output.proofs.ring.ChordRingMachine.start_states.Goals as goal

pub returns : goal.returns
returns c = first_ring c.args.self.now.scenario.now c.in_ok-states.states.items c.in_ok-states.ensures
