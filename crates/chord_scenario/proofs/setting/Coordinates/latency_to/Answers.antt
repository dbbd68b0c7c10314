use Rattle.std.proofs.Common.{◌≤◌, arith}
use Rattle.chord_scenario.proofs.Roots.{square_below}
use Rattle.chord_scenario.proofs.setting.Coordinates.latency_to.Goals as goal

pub overflow_add-x-2 : goal.overflow_add-x-2
overflow_add-x-2 c =
    let x : c.apart-x.result ≤ 500000000 = omega (arith, c.apart-x.ensures, c.requires.here.x, c.requires.there.x) in
    let y : c.apart-y.result ≤ 500000000 = omega (arith, c.apart-y.ensures, c.requires.here.y, c.requires.there.y) in
    omega (arith, square_below c.apart-x.result 500000000 x, square_below c.apart-y.result 500000000 y)
