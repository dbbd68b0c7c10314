use Rattle.std.proofs.Common.{◌-◌, ◌<◌, ◌≤◌, ℕ, get_or, length}
use Rattle.des_event.specs.Keys.{IsBefore}
use Rattle.des_team.specs.declared.output.Mark.{Mark}
use Rattle.des_team.proofs.output.run_end.Given as goal

abbrev pub invariant-loop-after : goal.invariant-loop-after
invariant-loop-after l = record {
  more : l.place < l.after;
  within : l.after ≤ length l.marks;
  below : (k : ℕ) (m : Mark) → l.place < k → k < l.after → IsBefore (get_or l.marks k m).key l.limit;
}

abbrev pub decreases-loop-after : goal.decreases-loop-after
decreases-loop-after l = length l.marks - l.after
