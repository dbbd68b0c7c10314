use Rattle.std.proofs.Common.{◌∙◌, ap, arith}
use Rattle.des_window.specs.Openings.{end_at}
use Rattle.des_window.proofs.Horizons.{ends_at}
use Rattle.des_window.proofs.opening.horizon_from.Goals as goal

pub returns : goal.returns
returns g c =
    let m = g.M.Machine.model c.args.machine.now in
    let end = ends_at m c.args.clock.now c.args.time (g.met.M.Machine.simulable c.args.machine.now c.recall.ensures).ascending c.requires.clock
    c.first_after.result c.first_after.ensures in
    let stop = c.end_at-stop.ensures ∙ ap (λ n. end_at n c.first_after.result) c.duration.ensures in
    omega (arith, end, stop, c.lesser.ensures, c.saturating_add.ensures, c.lookahead.ensures, c.end_at-stop.type_inv)
