use Rattle.std.proofs.Common.{arith}
use Rattle.des_protocol.specs.declared.telling.Telling.{Telling}
use Rattle.des_protocol.proofs.Tellers.{one_longer, still_numbered}
use Rattle.des_protocol.proofs.teller.Teller.tell.Goals as goal

pub invariant_of-self-2 : goal.invariant_of-self-2
invariant_of-self-2 g c =
    let telling : Telling g.row.B.Denot = record { delay = c.args.delay; target = c.args.target; body = c.args.body } in
    record {
      counted = omega (
        arith,
        c.self.invariant.counted,
        one_longer c.self.inside.time c.self.inside.origin c.self.inside.made c.self.inside.events.items
            c.push.new.self.items telling c.self.invariant.counted c.self.invariant.are c.in_ok-push.ensures.items,
      );
      are = still_numbered c.self.inside.time c.self.inside.origin c.self.inside.made c.self.inside.events.items c.push.new.self.items telling
          c.self.invariant.counted c.self.invariant.are c.in_ok-push.ensures.items;
    }
