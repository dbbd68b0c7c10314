use Rattle.des_parts.specs.Delivery.{LeastIs}
use Rattle.des_parts.proofs.world.first_time.Given as goal

abbrev pub invariant-loop-part : goal.invariant-loop-part
invariant-loop-part g l = LeastIs l.parts l.part l.least
