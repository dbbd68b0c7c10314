use Rattle.std.proofs.Common.{arith}
use Rattle.des_window.specs.Divisions.{block_part}
use Rattle.des_window.proofs.Divided.{block_below, one_more}
use Rattle.des_window.proofs.division.Division.blocks.Goals as goal

pub loop-node-preserved : goal.loop-node-preserved
loop-node-preserved c =
    let more = one_more (block_part c.args.nodes c.args.parts) c.args.parts c.loop-node.node c.loop-node.of_node.items c.push.new.self.items
    c.loop-node.invariant.items c.loop-node.invariant.below c.in_ok-push.ensures.items
    (block_below c.args.nodes c.args.parts c.loop-node.node (omega (arith, c.loop-node-test.true)) c.requires.parts.0) in
    record { items = more.0; below = more.1 }
