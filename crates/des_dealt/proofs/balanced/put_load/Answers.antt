use Rattle.std.proofs.Common.{◌<◌}
use Rattle.std.specs.declared.cmp.Reverse.{Reverse}
use Rattle.std.proofs.lemmas.List.Elements.{All-cons, All-head, All-tail}
use Rattle.std.proofs.lemmas.List.Sorted.{All-permutation}
use Rattle.des_dealt.specs.declared.balanced.PartLoad.{PartLoad}
use Rattle.des_dealt.proofs.balanced.put_load.Goals as goal

pub returns-clause-below : goal.returns-clause-below
returns-clause-below c parts all =
    let P = λ (p : Reverse PartLoad). p.0.part < parts in
    let popped = All-permutation P _ _ c.in-Some.ensures.permutation all in
    All-permutation P _ _ c.in_ok-push.ensures.permutation (All-cons P _ _ (All-head P _ _ popped) (All-tail P _ _ popped))
