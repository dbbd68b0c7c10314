use Rattle.std.proofs.Common.{◌∙◌, ◌∷◌, ◌++◌, [], append_assoc, ap, sym}
use Rattle.std.proofs.lemmas.List.{map-append}
use Rattle.std.specs.Vec.Iter.{into_iter_items}
use Rattle.des_protocol.specs.Numbered.{uncounted}
use Rattle.des_protocol.proofs.numbered.uncounted.Goals as goal

pub loop-state-preserved : goal.loop-state-preserved
loop-state-preserved g c = record {
  can_next = tt;
  is_finite = tt;
  whole = append_assoc c.loop-state.yielded (c.in-Some.state ∷ []) (into_iter_items c.next.new.self)
      ∙ ap (λ l. c.loop-state.yielded ++ l) (sym c.in-Some.ensures.steps.0) ∙ c.loop-state.invariant.whole;
  counted = c.in_ok-push.ensures.items ∙ ap (λ l. l ++ uncounted c.in-Some.state ∷ []) c.loop-state.invariant.counted
      ∙ sym (map-append uncounted c.loop-state.yielded (c.in-Some.state ∷ []));
}
