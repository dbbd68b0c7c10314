use Rattle.std.proofs.Common.{◌≡◌, ◌++◌, drop, take}
use Rattle.chord_judge.specs.Judged.{first_alone, is_ended_by, without_first}
use Rattle.chord_judge.proofs.open.first_place.Given as goal

abbrev pub invariant-loop-place : goal.invariant-loop-place
invariant-loop-place l = record {
  first : first_alone (is_ended_by l.ended.node l.ended.key l.ended.time l.ended.us) l.lookups
      ≡ first_alone (is_ended_by l.ended.node l.ended.key l.ended.time l.ended.us) (drop l.place l.lookups);
  others : without_first (is_ended_by l.ended.node l.ended.key l.ended.time l.ended.us) l.lookups
      ≡ take l.place l.lookups ++ without_first (is_ended_by l.ended.node l.ended.key l.ended.time l.ended.us) (drop l.place l.lookups);
}
