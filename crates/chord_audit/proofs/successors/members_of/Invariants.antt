use Rattle.std.proofs.Common.{◌≡◌, map, take}
use Rattle.chord_audit.specs.Audit.{is_member}
use Rattle.chord_audit.proofs.successors.members_of.Given as goal

abbrev pub invariant-loop-node : goal.invariant-loop-node
invariant-loop-node g l = l.members.items ≡ map is_member (take l.node (g.V.States.list l.states))
