use Rattle.chord_circle.proofs.Distance.{distance-masked}
use Rattle.chord_circle.proofs.circle.Circle.distance.Goals as goal

pub returns : goal.returns
returns c =
    rw (c.raw.ensures, c.raw-2.ensures, ← c.self.view_is)
    (distance-masked c.self.inside.bits c.args.a c.args.b c.self.inside.last c.self.invariant.1 c.self.invariant.2 (rw (c.self.view_is) c.requires.a))
