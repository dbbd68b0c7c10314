use Rattle.std.proofs.Common.{◌∙◌, ◌∷◌, ◌++◌, [], append_assoc, ap, arith, sym, subst}
use Rattle.std.specs.Prelude.{Vec}
use Rattle.std.specs.Global.{Global}
use Rattle.std.specs.List.{All}
use Rattle.std.specs.Vec.Iter.{into_iter_items}
use Rattle.chord_trace.specs.declared.piece.Piece.{Piece}
use Rattle.chord_window.specs.Dones.{IsOfBlock}
use Rattle.chord_window.specs.Ordering.{AreEntriesOf}
use Rattle.chord_window.proofs.Exchanged.{entries_more}
use Rattle.chord_window.proofs.Lists.{all_yielded, next_of}
use Rattle.des_parts.specs.declared.entries.Entry.{Entry}
use Rattle.chord_window.proofs.exchanging.lists_of_blocks.Goals as goal

pub blocks_of-requires : goal.blocks_of-requires
blocks_of-requires c = next_of (λ (l : Vec (Entry Piece) Global). All IsOfBlock l.items) c.loop-entries.yielded (into_iter_items c.next.new.self) c.in-Some.entries
    c.args.lists.items
    (append_assoc c.loop-entries.yielded (c.in-Some.entries ∷ []) (into_iter_items c.next.new.self)
    ∙ ap (λ l. c.loop-entries.yielded ++ l) (sym c.in-Some.ensures.steps.0) ∙ c.loop-entries.invariant.whole)
    c.requires

pub loop-entries-preserved : goal.loop-entries-preserved
loop-entries-preserved c = record {
  can_next = tt;
  is_finite = tt;
  whole = append_assoc c.loop-entries.yielded (c.in-Some.entries ∷ []) (into_iter_items c.next.new.self)
      ∙ ap (λ l. c.loop-entries.yielded ++ l) (sym c.in-Some.ensures.steps.0) ∙ c.loop-entries.invariant.whole;
  are = subst (λ bs. AreEntriesOf bs (c.loop-entries.yielded ++ c.in-Some.entries ∷ [])) (sym c.in_ok-push.ensures.items)
      (entries_more c.loop-entries.blocks.items c.loop-entries.yielded _ c.in-Some.entries c.loop-entries.invariant.are c.in_ok-blocks_of.ensures);
}

pub returns : goal.returns
returns c = subst (λ ls. AreEntriesOf c.loop-entries.blocks.items ls) (sym (all_yielded c.loop-entries.yielded (into_iter_items c.loop-entries.entries-iterator)
    c.args.lists.items c.loop-entries.invariant.whole (omega (arith, c.in-None.ensures.steps.0, c.loop-entries.entries-iterator.rest.ok.0)))) c.loop-entries.invariant.are
