use Rattle.std.proofs.Common.{◌≡◌, ◌∙◌, true, subst, sym}
use Rattle.chord_crew.proofs.Dones.{all_done}
use Rattle.chord_window.specs.PartRuns.{IsDone}
use Rattle.des_crew.specs.Shifts.{AreResults}
use Rattle.des_crew.proofs.Gathering.{from_none}
use Rattle.des_parts.specs.Ordering.{HasEachOnce}
use Rattle.chord_examples.proofs.examples.own_window.window_by_one.Goals as goal

pub returns-in-None : goal.returns-in-None
returns-in-None c =
    let sc = c.args.window.now.scenario.now in
    let w = c.args.window.now.world.now in
    let horizon = c.args.window.now.horizon in
    let shift = c.work-shift.result in
    let is = c.work-shift.ensures in
    let finished = from_none shift.fault (AreResults (IsDone sc w horizon) shift.seat.numbers shift.done.items) c.in-None.is is.finished in
    let exhausted = from_none shift.fault (shift.seat.is_exhausted ≡ true) c.in-None.is is.exhausted in
    let whole = is.same_seat.allowance ∙ (c.in-Ok.ensures.seat.2 ∙ sym c.in-Ok.ensures.draws.1) in
    let parts = c.in-Ok.ensures.draws.0 ∙ c.parts-parts.ensures in
    let once = subst (λ n. HasEachOnce n shift.seat.numbers) parts (c.close.ensures.whole whole (c.close.ensures.exhausted exhausted)) in
    all_done sc w horizon shift.done.items c.requires.next (record { numbers = shift.seat.numbers; once = once; results = finished })
