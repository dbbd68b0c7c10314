use Rattle.std.proofs.Common.{◌∙◌, ◌∷◌, ◌++◌, [], append_assoc, ap, arith, sym, subst}
use Rattle.std.specs.Vec.Iter.{into_iter_items}
use Rattle.chord_window.specs.Dones.{AreSame}
use Rattle.chord_window.proofs.Exchanged.{same_more}
use Rattle.chord_window.proofs.Lists.{all_yielded}
use Rattle.chord_window.proofs.exchanging.into_kernels.Goals as goal

pub loop-done-preserved : goal.loop-done-preserved
loop-done-preserved c = record {
  can_next = tt;
  is_finite = tt;
  whole = append_assoc c.loop-done.yielded (c.in-Some.done ∷ []) (into_iter_items c.next.new.self)
      ∙ ap (λ l. c.loop-done.yielded ++ l) (sym c.in-Some.ensures.steps.0) ∙ c.loop-done.invariant.whole;
  same = subst (λ ks. AreSame (c.loop-done.yielded ++ c.in-Some.done ∷ []) ks) (sym c.in_ok-push.ensures.items)
      (same_more c.loop-done.yielded c.loop-done.kernels.items c.in-Some.done _ c.loop-done.invariant.same c.in_ok-into_kernel.ensures);
}

pub returns : goal.returns
returns c = subst (λ ds. AreSame ds c.loop-done.kernels.items) (sym (all_yielded c.loop-done.yielded (into_iter_items c.loop-done.done-iterator)
    c.args.dones.items c.loop-done.invariant.whole (omega (arith, c.in-None.ensures.steps.0, c.loop-done.done-iterator.rest.ok.0)))) c.loop-done.invariant.same
