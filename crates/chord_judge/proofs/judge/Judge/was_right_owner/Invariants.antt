use Rattle.std.proofs.Common.{◌≡◌, ◌≤◌, List, length, take}
use Rattle.chord_judge.proofs.Walked.{HasWalked}
use Rattle.chord_judge.specs.Inside.{HoldMembers, changes_after}
use Rattle.chord_judge.specs.Members.{is_member_after}
use Rattle.chord_judge.specs.declared.told.Told.{Told}
use Rattle.chord_judge.proofs.judge.Judge.was_right_owner.Given as goal

abbrev pub invariant-loop-left : goal.invariant-loop-left
invariant-loop-left l = record {
  within : l.left ≤ length l.self.changes.items;
  walked : (lines : List Told) → HoldMembers l.self.members.scenario.now (is_member_after l.self.members.scenario.now lines) l.self.members
      → l.self.changes.items ≡ changes_after l.self.members.scenario.now lines
      → HasWalked l.self.members.scenario.now l.begun l.key l.node lines (take l.left l.self.changes.items) l.is_member l.nearer;
}

abbrev pub decreases-loop-left : goal.decreases-loop-left
decreases-loop-left l = l.left
