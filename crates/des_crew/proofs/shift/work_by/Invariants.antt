use Rattle.std.proofs.Common.{◌-◌, length}
use Rattle.des_crew.specs.Shifts.{AreResults, IsSameSeat}
use Rattle.des_crew.proofs.shift.work_by.Given as goal

abbrev pub invariant-loop-part : goal.invariant-loop-part
invariant-loop-part g l = record {
  same_seat : IsSameSeat l.fn.seat l.seat;
  results : AreResults (g.P.PartRunner.IsDone l.runner) l.seat.numbers l.done.items;
  tools : g.P.PartRunner.AreClean l.tools;
}

abbrev pub decreases-loop-part : goal.decreases-loop-part
decreases-loop-part g l = l.draws.parts - length l.seat.numbers
