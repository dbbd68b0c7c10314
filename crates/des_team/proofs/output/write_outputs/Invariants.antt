use Rattle.std.proofs.Common.{◌≡◌, List, false}
use Rattle.std.specs.BinaryHeap.{IsHeap, heap_items}
use Rattle.des_output.specs.Watched.{wrapped, has_failed}
use Rattle.des_team.specs.Entries.{Entry}
use Rattle.des_team.proofs.Heads.{marks_left}
use Rattle.des_team.proofs.Runs.{IsWriting}
use Rattle.des_team.specs.Heads.{head_cmp}
use Rattle.des_team.specs.Outputs.{AreTexts}
use Rattle.des_team.proofs.output.write_outputs.Given as goal

abbrev pub invariant-loop-head : goal.invariant-loop-head
invariant-loop-head g l = record {
  heap : IsHeap head_cmp (heap_items l.heads);
  sound : has_failed l.writer ≡ false;
  writing : (lists : List (List Entry)) → AreTexts lists l.outputs
      → IsWriting lists (g.W.Write.contents (wrapped l.initial.writer)) (g.W.Write.contents (wrapped l.writer)) (heap_items l.heads);
}

abbrev pub decreases-loop-head : goal.decreases-loop-head
decreases-loop-head g l = marks_left l.outputs (heap_items l.heads)
