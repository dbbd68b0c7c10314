use Rattle.std.proofs.Common.{◌≡◌, ◌++◌}
use Rattle.std.specs.Vec.Iter.{into_iter_items}
use Rattle.des_team.specs.Starts.{AreParcelsOf}
use Rattle.des_team.proofs.start.parcels_of.Given as goal

abbrev pub invariant-loop-part : goal.invariant-loop-part
invariant-loop-part g l = record {
  can_next : (goal.iterator-loop-part g).can_next l.part-iterator;
  is_finite : (goal.iterator-loop-part g).is_finite l.part-iterator;
  whole : l.yielded ++ into_iter_items l.part-iterator ≡ l.fn.parts.items;
  placed : AreParcelsOf l.yielded l.parcels.items;
}
