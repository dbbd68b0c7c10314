use Rattle.std.proofs.Common.{◌∙◌, ◌∷◌, ◌++◌, [], append_assoc, ap, arith, sym, map}
use Rattle.std.proofs.lemmas.List.{map-append}
use Rattle.std.specs.Vec.Iter.{into_iter_items}
use Rattle.chord_window.specs.Dones.{entry_of}
use Rattle.chord_window.proofs.Lists.{all_yielded}
use Rattle.chord_window.proofs.part_done.entries_of.Goals as goal

pub loop-block-preserved : goal.loop-block-preserved
loop-block-preserved c = record {
  can_next = tt;
  is_finite = tt;
  whole = append_assoc c.loop-block.yielded (c.in-Some.block ∷ []) (into_iter_items c.next.new.self)
      ∙ ap (λ l. c.loop-block.yielded ++ l) (sym c.in-Some.ensures.steps.0) ∙ c.loop-block.invariant.whole;
  same = c.in_ok-push.ensures.items ∙ ap (λ l. l ++ entry_of c.in-Some.block ∷ []) c.loop-block.invariant.same
      ∙ sym (map-append entry_of c.loop-block.yielded (c.in-Some.block ∷ []));
}

pub returns : goal.returns
returns c = c.loop-block.invariant.same ∙ ap (map entry_of) (sym (all_yielded c.loop-block.yielded (into_iter_items c.loop-block.block-iterator)
    c.args.blocks.items c.loop-block.invariant.whole (omega (arith, c.in-None.ensures.steps.0, c.loop-block.block-iterator.rest.ok.0))))
