use Rattle.std.proofs.Common.{◌++◌, List, ap, sym, ◌∙◌, append_assoc}
use Rattle.std.specs.List.{flat_map}
use Rattle.std.specs.Vec.Iter.{into_iter_items}
use Rattle.des_event.specs.declared.event.Event.{Event}
use Rattle.des_parts.specs.Worlds.{events_of}
use Rattle.des_redivide.proofs.events.all_events.Goals as goal

pub loop-part-preserved : goal.loop-part-preserved
loop-part-preserved g c =
    let rest : List (Event _) = flat_map events_of (into_iter_items c.next.new.self) in
    record {
      can_next = tt;
      is_finite = tt;
      whole = ap (λ l. l ++ rest) c.in_ok-moved.ensures ∙ append_assoc c.loop-part.list.items (events_of c.in-Some.part) rest
          ∙ ap (λ l. c.loop-part.list.items ++ l) (sym (ap (flat_map events_of) c.in-Some.ensures.steps.0)) ∙ c.loop-part.invariant.whole;
    }
