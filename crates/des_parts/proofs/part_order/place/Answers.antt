use Rattle.std.proofs.Common.{◌≡◌, ◌<◌, ◌∙◌, ◌⊎◌, List, None, Some, length, arith, inr, sym, subst, rules}
use Rattle.std.specs.Vec.Iter.{into_iter_items}
use Rattle.std.specs.Prelude.{slice_index_or}
use Rattle.des_parts.specs.declared.part_run.Done.{Done}
use Rattle.des_parts.specs.Ordering.{AreOf, IsFilled, IsToCome}
use Rattle.des_parts.proofs.Orders.{all_are_of, all_to_come, long_set, one_placed}
use Rattle.des_parts.proofs.part_order.place.Goals as goal

pub loop-done-init : goal.loop-done-init
loop-done-init g c =
    let items : into_iter_items c.into_iter-done-iterator.result ≡ c.args.dones.items = search (rules) in
    record {
      can_next = tt;
      is_finite = tt;
      long = c.in_ok-slots.ensures.long;
      inside = subst (AreOf c.args.dones.items c.args.parts) (sym items) (all_are_of c.args.parts c.args.dones.items c.requires.once);
      each = λ k below. inr (subst (IsToCome k) (sym items) (all_to_come c.args.parts c.args.dones.items c.requires.once k below));
    }

pub loop-done-preserved : goal.loop-done-preserved
loop-done-preserved g c =
    let steps = c.in-Some.ensures.steps.0 in
    let slots = c.loop-done.slots.items in
    let done = c.in-Some.done in
    let rest : List (Done _ _ _) = into_iter_items c.next.new.self in
    let among = subst (AreOf c.args.dones.items c.args.parts) steps c.loop-done.invariant.inside in
    let here : done.part < length slots = omega (arith, among.0.0, c.loop-done.invariant.long) in
    record {
      can_next = tt;
      is_finite = tt;
      long = long_set slots done.part (Some done) ∙ c.loop-done.invariant.long;
      inside = among.1;
      each = λ k below. one_placed c.args.dones.items slots done rest k here among.0.1
          (subst (λ l. IsFilled c.args.dones.items k (slice_index_or slots k None) ⊎ IsToCome k l) steps (c.loop-done.invariant.each k below));
    }

pub loop-done-preserved-in-Some : goal.loop-done-preserved-in-Some
loop-done-preserved-in-Some g c =
    let steps = c.in-Some.ensures.steps.0 in
    let slots = c.loop-done.slots.items in
    let done = c.in-Some.done in
    let rest : List (Done _ _ _) = into_iter_items c.next.new.self in
    let among = subst (AreOf c.args.dones.items c.args.parts) steps c.loop-done.invariant.inside in
    let here : done.part < length slots = omega (arith, among.0.0, c.loop-done.invariant.long) in
    record {
      can_next = tt;
      is_finite = tt;
      long = long_set slots done.part (Some done) ∙ c.loop-done.invariant.long;
      inside = among.1;
      each = λ k below. one_placed c.args.dones.items slots done rest k here among.0.1
          (subst (λ l. IsFilled c.args.dones.items k (slice_index_or slots k None) ⊎ IsToCome k l) steps (c.loop-done.invariant.each k below));
    }
