use Rattle.std.proofs.Common.{◌∙◌, ◌∷◌, ◌++◌, [], append_assoc, ap, arith, sym, map}
use Rattle.std.proofs.lemmas.List.{map-append}
use Rattle.std.specs.Vec.Iter.{into_iter_items}
use Rattle.chord_window.specs.Dones.{IsOwn, touched_of}
use Rattle.chord_window.proofs.Lists.{all_yielded, next_of}
use Rattle.chord_window.proofs.part_done.states_of.Goals as goal

pub loop-touched-preserved : goal.loop-touched-preserved
loop-touched-preserved c =
    let whole = append_assoc c.loop-touched.yielded (c.in-Some.touched ∷ []) (into_iter_items c.next.new.self)
    ∙ ap (λ l. c.loop-touched.yielded ++ l) (sym c.in-Some.ensures.steps.0) ∙ c.loop-touched.invariant.whole in
    record {
      can_next = tt;
      is_finite = tt;
      whole = whole;
      same = ap (λ l. l ++ c.in-Some.touched ∷ []) c.loop-touched.invariant.same
          ∙ ap (λ t. map touched_of c.loop-touched.states.items ++ t ∷ [])
          (next_of IsOwn c.loop-touched.yielded (into_iter_items c.next.new.self) c.in-Some.touched c.args.nodes.items whole c.requires)
          ∙ sym (map-append touched_of c.loop-touched.states.items (c.in-Some.touched.state ∷ []))
          ∙ ap (map touched_of) (sym c.in_ok-push.ensures.items);
    }

pub returns : goal.returns
returns c = all_yielded c.loop-touched.yielded (into_iter_items c.loop-touched.touched-iterator) c.args.nodes.items c.loop-touched.invariant.whole
    (omega (arith, c.in-None.ensures.steps.0, c.loop-touched.touched-iterator.rest.ok.0)) ∙ c.loop-touched.invariant.same
