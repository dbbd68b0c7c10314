use Rattle.std.proofs.Common.{refl}
use Rattle.des_team.proofs.TeamOrders.{order_of, still_can_send}
use Rattle.des_team.proofs.team.Team.take_out.Goals as goal

pub returns-clause-order : goal.returns-clause-order
returns-clause-order g c = order_of _ c.args.course.now.layout.now c.args.self.now c.args.part c.in_ok-parcel.parcel c.index_mut.result.now
    c.requires.can_send c.requires.part
    c.index_mut.ensures.value c.in_ok-parcel.ensures.value

pub returns-clause-rest : goal.returns-clause-rest
returns-clause-rest g c = still_can_send _ c.args.course.now.layout.now c.args.self.now c.args.part c.replace.new.dest _ c.requires.can_send
    c.requires.part refl c.replace.ensures.after
