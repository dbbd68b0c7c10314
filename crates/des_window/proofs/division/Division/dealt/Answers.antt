use Rattle.std.proofs.Math.Nat.{mod-lt}
use Rattle.des_window.specs.Divisions.{dealt_part}
use Rattle.des_window.proofs.Divided.{one_more}
use Rattle.des_window.proofs.division.Division.dealt.Goals as goal

pub loop-node-preserved : goal.loop-node-preserved
loop-node-preserved c =
    let more = one_more (dealt_part c.args.parts) c.args.parts c.loop-node.node c.loop-node.of_node.items c.push.new.self.items
    c.loop-node.invariant.items c.loop-node.invariant.below c.in_ok-push.ensures.items (mod-lt c.loop-node.node c.requires.parts.0) in
    record { items = more.0; below = more.1 }
