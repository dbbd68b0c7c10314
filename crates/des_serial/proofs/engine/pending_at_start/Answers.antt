-- The events at the start are put into an empty queue.
use Rattle.std.proofs.Common.{◌++◌, ◌∙◌, ◌↔◌, ap, List, subst, sym}
use Rattle.std.specs.List.{Contains}
use Rattle.des_event.specs.declared.event.Event.{Event}
use Rattle.des_queue.proofs.Inserting.{AreApart}
use Rattle.des_serial.proofs.engine.pending_at_start.Goals as goal

pub insert_all-requires : goal.insert_all-requires
insert_all-requires g c =
    subst (λ (es : List (Event _)). AreApart (es ++ c.in_ok-events.events.items)) (sym c.new-pending.ensures)
    (subst (λ (es : List (Event _)). AreApart es) (sym c.in_ok-events.ensures)
    (g.met.M.Machine.simulable c.args.machine.now c.recall.ensures).well_formed.starts_apart)

pub returns-clause-same : goal.returns-clause-same
returns-clause-same g c = λ x.
    subst (λ (es : List (Event _)). Contains c.insert_all.new.self x ↔ Contains es x)
    (ap (λ (es : List (Event _)). es ++ c.in_ok-events.events.items) c.new-pending.ensures ∙ c.in_ok-events.ensures)
    (c.in_ok-insert_all.ensures.same x)
