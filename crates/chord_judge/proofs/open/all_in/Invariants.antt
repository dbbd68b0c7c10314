use Rattle.std.proofs.Common.{◌≡◌, take}
use Rattle.std.specs.List.{flat_map}
use Rattle.chord_judge.proofs.open.all_in.Given as goal

abbrev pub invariant-loop-list : goal.invariant-loop-list
invariant-loop-list l = l.lookups.items ≡ flat_map (λ list. list.items) (take l.list-index l.lists)
