use Rattle.std.proofs.Common.{◌≡◌, [], sym, subst}
use Rattle.des_queue.proofs.Placed.{AreEmpty, PlaceList, all_push}
use Rattle.des_queue.proofs.days.empty_lists.Goals as goal

pub loop-day-init : goal.loop-day-init
loop-day-init c = subst AreEmpty (sym c.new-lists.ensures.items) tt

pub loop-day-preserved : goal.loop-day-preserved
loop-day-preserved c =
    subst AreEmpty (sym c.in_default.ensures.items)
    (all_push (λ (l : PlaceList). l.items ≡ []) c.loop-day.lists.items _ c.loop-day.invariant c.new.ensures.items)

pub returns-in-Err : goal.returns-in-Err
returns-in-Err c = subst AreEmpty (sym c.in-Err.ensures.items) c.loop-day.invariant

pub returns : goal.returns
returns c = c.loop-day.invariant
