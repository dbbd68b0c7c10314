use Rattle.std.proofs.Common.{◌<◌, ◌∙◌, ℕ, length-set}
use Rattle.std.proofs.lemmas.List.Elements.{All-set}
use Rattle.des_dealt.proofs.balanced.deal_in_order.Goals as goal

pub loop-next-preserved : goal.loop-next-preserved
loop-next-preserved c =
    let before = c.loop-next.invariant in
    let put = c.in_ok-of_node-2.ensures in
    record {
      long = length-set c.loop-next.of_node.items _ _ ∙ before.long;
      below = All-set (λ (p : ℕ). p < c.args.parts) c.loop-next.of_node.items _ _ (put.part c.args.parts before.parts) before.below;
      many = put.many ∙ before.many;
      parts = put.below c.args.parts before.parts;
    }
