use Rattle.std.proofs.Common.{◌∙◌, ◌∷◌, ◌++◌, [], append_assoc, ap, arith, sym, map}
use Rattle.std.proofs.lemmas.List.{map-append}
use Rattle.std.specs.Vec.Iter.{into_iter_items}
use Rattle.chord_window.specs.Dones.{touched_of}
use Rattle.chord_window.proofs.Lists.{all_yielded}
use Rattle.chord_window.proofs.part_done.nodes_of.Goals as goal

pub loop-state-preserved : goal.loop-state-preserved
loop-state-preserved c = record {
  can_next = tt;
  is_finite = tt;
  whole = append_assoc c.loop-state.yielded (c.in-Some.state ∷ []) (into_iter_items c.next.new.self)
      ∙ ap (λ l. c.loop-state.yielded ++ l) (sym c.in-Some.ensures.steps.0) ∙ c.loop-state.invariant.whole;
  same = c.in_ok-push.ensures.items ∙ ap (λ l. l ++ touched_of c.in-Some.state ∷ []) c.loop-state.invariant.same
      ∙ sym (map-append touched_of c.loop-state.yielded (c.in-Some.state ∷ []));
}

pub returns : goal.returns
returns c = c.loop-state.invariant.same ∙ ap (map touched_of) (sym (all_yielded c.loop-state.yielded (into_iter_items c.loop-state.state-iterator)
    c.args.states.items c.loop-state.invariant.whole (omega (arith, c.in-None.ensures.steps.0, c.loop-state.state-iterator.rest.ok.0))))
