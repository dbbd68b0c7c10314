use Rattle.std.proofs.Common.{◌∙◌, ◌∷◌, ◌++◌, [], append_assoc, ap, sym, map}
use Rattle.std.proofs.lemmas.List.{map-append}
use Rattle.std.specs.Vec.Iter.{into_iter_items}
use Rattle.chord_trace.specs.declared.piece.Piece.{Piece}
use Rattle.chord_window.specs.Dones.{IsOfBlock, entry_of}
use Rattle.chord_window.proofs.Dones.{entry_is}
use Rattle.chord_window.proofs.Lists.{next_of}
use Rattle.des_parts.specs.declared.entries.Entry.{Entry}
use Rattle.chord_window.proofs.part_done.blocks_of.Goals as goal

pub loop-entry-preserved : goal.loop-entry-preserved
loop-entry-preserved c =
    let whole = append_assoc c.loop-entry.yielded (c.in-Some.entry ∷ []) (into_iter_items c.next.new.self)
    ∙ ap (λ l. c.loop-entry.yielded ++ l) (sym c.in-Some.ensures.steps.0) ∙ c.loop-entry.invariant.whole in
    let of = next_of IsOfBlock c.loop-entry.yielded (into_iter_items c.next.new.self) c.in-Some.entry c.args.entries.items whole c.requires in
    record {
      can_next = tt;
      is_finite = tt;
      whole = whole;
      same = ap (λ l. l ++ c.in-Some.entry ∷ []) c.loop-entry.invariant.same
          ∙ ap (λ x. map entry_of c.loop-entry.blocks.items ++ x ∷ []) (entry_is c.in-Some.entry c.in-OfEvent.block of c.in-OfEvent.is)
          ∙ sym (map-append entry_of c.loop-entry.blocks.items (c.in-OfEvent.block ∷ []))
          ∙ ap (λ b. map entry_of (c.loop-entry.blocks.items ++ b ∷ [])) (sym c.in-OfEvent.block-is)
          ∙ ap (map entry_of) (sym c.in_ok-push.ensures.items);
    }

pub unreachable-requires : goal.unreachable-requires
unreachable-requires c =
    let whole = append_assoc c.loop-entry.yielded (c.in-Some.entry ∷ []) (into_iter_items c.next.new.self)
    ∙ ap (λ l. c.loop-entry.yielded ++ l) (sym c.in-Some.ensures.steps.0) ∙ c.loop-entry.invariant.whole in
    let of = next_of IsOfBlock c.loop-entry.yielded (into_iter_items c.next.new.self) c.in-Some.entry c.args.entries.items whole c.requires in
    c.in_default.not-OfEvent of.0 (ap (λ (x : Entry Piece). x.piece) of.1)
