use Rattle.des_parts.specs.Delivery.{AreCut}
use Rattle.des_parts.proofs.world.open_window.Given as goal

abbrev pub invariant-loop-part : goal.invariant-loop-part
invariant-loop-part g l = AreCut l.horizon l.part l.initial.parts.items l.parts.items
