use Rattle.std.proofs.Common.{◌≡◌, find, map, take}
use Rattle.chord_audit.specs.Tables.{is_marked}
use Rattle.chord_audit.proofs.successors.add_best.Given as goal

abbrev pub invariant-loop-node : goal.invariant-loop-node
invariant-loop-node g l = l.best.items ≡ map (λ state. find (is_marked l.members) state.succ) (take l.node (g.V.States.list l.states))
