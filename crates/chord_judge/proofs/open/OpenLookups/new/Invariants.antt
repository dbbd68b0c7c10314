use Rattle.std.proofs.Common.{◌≡◌, [], Vec, Global, length}
use Rattle.std.specs.List.{All}
use Rattle.chord_judge.specs.declared.row.Lookup.{Lookup}
use Rattle.chord_judge.proofs.open.OpenLookups.new.Given as goal

abbrev pub invariant-loop : goal.invariant-loop
invariant-loop l = record {
  many : length l.lists.items ≡ l.counter;
  empty : All (λ (list : Vec Lookup Global). list.items ≡ []) l.lists.items;
}
