use Rattle.des_protocol.proofs.Firsts.{first_states}
use Rattle.des_protocol.proofs.numbered.NumberedMachine.start_states.Goals as goal

pub returns : goal.returns
returns g c = first_states (g.P.Protocol.rules c.args.self.now.protocol) c.in_ok-states.states.items c.in_ok-counted.counted.items
    c.in_ok-states.ensures c.in_ok-counted.ensures
