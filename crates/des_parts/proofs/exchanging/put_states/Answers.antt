use Rattle.std.proofs.Common.{◌<◌, ◌∙◌, List, ap, length, subst, sym}
use Rattle.std.proofs.lemmas.List.{length-set}
use Rattle.std.specs.List.{AllByRecursion}
use Rattle.std.specs.Vec.Iter.{into_iter_items}
use Rattle.des_parts.specs.declared.copies.Touched.{Touched}
use Rattle.des_parts.specs.Exchanges.{with_states}
use Rattle.des_parts.proofs.exchanging.put_states.Goals as goal

pub loop-touched-preserved : goal.loop-touched-preserved
loop-touched-preserved g c =
    let steps = c.in-Some.ensures.steps.0 in
    let states = c.loop-touched.states.items in
    let rest : List (Touched _) = into_iter_items c.next.new.self in
    let inside = subst (AllByRecursion (λ (s : Touched _). s.node < length states)) steps c.loop-touched.invariant.inside in
    record {
      can_next = tt;
      is_finite = tt;
      put = sym (ap (λ l. with_states l states) steps) ∙ c.loop-touched.invariant.put;
      inside = subst (λ n. AllByRecursion (λ (s : Touched _). s.node < n) rest)
          (sym (length-set states c.in-Some.touched.node c.in-Some.touched.state)) inside.1;
    }
