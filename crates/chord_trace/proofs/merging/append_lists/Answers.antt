use Rattle.std.proofs.Common.{◌++◌, List, ap, sym, ◌∙◌, append_assoc}
use Rattle.std.specs.Vec.Iter.{into_iter_items}
use Rattle.chord_event.specs.declared.block.Block.{Block}
use Rattle.chord_trace.specs.Merging.{all_blocks}
use Rattle.chord_trace.proofs.merging.append_lists.Goals as goal

pub loop-list-preserved : goal.loop-list-preserved
loop-list-preserved c =
    let rest : List Block = all_blocks (into_iter_items c.next.new.self) in
    record {
      can_next = tt;
      is_finite = tt;
      whole = ap (λ l. l ++ rest) c.in_ok-append.ensures.items ∙ append_assoc c.loop-list.all.items c.in-Some.list.items rest
          ∙ ap (λ l. c.loop-list.all.items ++ l) (sym (ap all_blocks c.in-Some.ensures.steps.0)) ∙ c.loop-list.invariant.whole;
    }
