use Rattle.des_team.specs.Chronicles.{chronicle}
use Rattle.des_team.specs.Orders.{IsOrder}
use Rattle.des_team.proofs.Results.{to_name}
use Rattle.des_team.proofs.window_run.send_part.Goals as goal

pub new-requires : goal.new-requires
new-requires g c =
    let l = c.args.course.now.layout.now in
    to_name g.J.Named.run c.args.course.now.machine.now l
    (λ k e. IsOrder (chronicle (g.M.Machine.model k) (g.S.Scribe.text k) (g.S.Scribe.HasCounted k)) e c.in-Some.parcel) c.requires.named
    c.in-Some.ensures.order.order
