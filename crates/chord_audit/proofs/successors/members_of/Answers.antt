use Rattle.std.proofs.Common.{rules, arith, sym}
use Rattle.std.proofs.lemmas.Option.{get_or_from_slice_get}
use Rattle.chord_audit.specs.Audit.{is_member}
use Rattle.chord_audit.proofs.Lists.{maps_more}
use Rattle.chord_audit.proofs.successors.members_of.Goals as goal

pub loop-node-preserved : goal.loop-node-preserved
loop-node-preserved g c =
    let states = g.V.States.list c.args.states.now in
    let state = c.of.result.now in
    maps_more is_member states c.loop-node.node state state c.eq.result c.loop-node.members.items c.push.new.self.items
    (omega (arith, c.loop-node-test.true, c.requires)) (sym (get_or_from_slice_get states c.loop-node.node state state c.of.ensures)) (search rules)
    c.loop-node.invariant c.in_ok-push.ensures.items
