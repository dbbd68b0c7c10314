use Rattle.std.proofs.Common.{◌∙◌, ◌∷◌, ◌++◌, [], append_assoc, append-nil, ap, arith, subst, sym, List}
use Rattle.std.specs.Vec.Iter.{into_iter_items}
use Rattle.des_queue.proofs.Inserting.{empty}
use Rattle.des_team.specs.declared.part.OwnedPart.{OwnedPart}
use Rattle.des_team.specs.Starts.{AreParcelsOf}
use Rattle.des_team.proofs.Starts.{parcels_more}
use Rattle.des_team.proofs.start.parcels_of.Goals as goal

pub loop-part-preserved : goal.loop-part-preserved
loop-part-preserved g c = record {
  can_next = tt;
  is_finite = tt;
  whole = append_assoc c.loop-part.yielded (c.in-Some.part ∷ []) (into_iter_items c.next.new.self)
      ∙ ap (λ l. c.loop-part.yielded ++ l) (sym c.in-Some.ensures.steps.0) ∙ c.loop-part.invariant.whole;
  placed = parcels_more c.loop-part.yielded c.loop-part.parcels.items c.push.new.self.items c.in-Some.part _ c.loop-part.invariant.placed
      (record { part_is = c.in_ok-new.ensures.ok; no_text = c.new-in-loop-part.ensures }) c.in_ok-push.ensures.items;
}

pub returns : goal.returns
returns g c =
    let none = empty (into_iter_items c.loop-part.part-iterator) (omega (arith, c.in-None.ensures.steps.0, c.loop-part.part-iterator.rest.ok.0)) in
    let all = sym (append-nil c.loop-part.yielded) ∙ ap (λ l. c.loop-part.yielded ++ l) (sym none) ∙ c.loop-part.invariant.whole in
    subst (λ (l : List (OwnedPart _ _ _ _ _)). AreParcelsOf l c.loop-part.parcels.items) all c.loop-part.invariant.placed
