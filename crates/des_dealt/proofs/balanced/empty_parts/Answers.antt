use Rattle.std.proofs.Common.{◌<◌}
use Rattle.std.specs.declared.cmp.Reverse.{Reverse}
use Rattle.std.proofs.lemmas.List.Elements.{All-cons}
use Rattle.std.proofs.lemmas.List.Sorted.{All-permutation}
use Rattle.des_dealt.specs.declared.balanced.PartLoad.{PartLoad}
use Rattle.des_dealt.proofs.balanced.empty_parts.Goals as goal

pub loop-part-preserved : goal.loop-part-preserved
loop-part-preserved c =
    let P = λ (p : Reverse PartLoad). p.0.part < c.args.parts in
    record {
      many = search (c.in_ok-push.ensures.len, c.loop-part.invariant.many);
      below = All-permutation P _ _ c.in_ok-push.ensures.permutation (All-cons P _ _ c.loop-part-test.true c.loop-part.invariant.below);
    }
