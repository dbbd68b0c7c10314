use Rattle.std.proofs.Common.{List}
use Rattle.std.specs.BinaryHeap.{IsHeap, heap_items}
use Rattle.des_team.specs.Entries.{Entry}
use Rattle.des_team.proofs.Heads.{AreHeads}
use Rattle.des_team.specs.Heads.{head_cmp}
use Rattle.des_team.specs.Outputs.{AreTexts}
use Rattle.des_team.proofs.output.heads_of.Given as goal

abbrev pub invariant-loop-part : goal.invariant-loop-part
invariant-loop-part l = record {
  heap : IsHeap head_cmp (heap_items l.heads);
  heads : (lists : List (List Entry)) → AreTexts lists l.outputs → AreHeads lists l.part (heap_items l.heads);
}
