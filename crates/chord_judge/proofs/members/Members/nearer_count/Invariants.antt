use Rattle.std.proofs.Common.{◌≡◌, count_by}
use Rattle.std.specs.List.{range_with_len}
use Rattle.chord_judge.proofs.Owned.{is_nearer}
use Rattle.chord_judge.specs.Inside.{holds}
use Rattle.chord_judge.proofs.members.Members.nearer_count.Given as goal

abbrev pub invariant-loop-other : goal.invariant-loop-other
invariant-loop-other l = l.count ≡ count_by (is_nearer l.self.scenario.now (holds l.self) l.key l.node) (range_with_len 0 l.other)
