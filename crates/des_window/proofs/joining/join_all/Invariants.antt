use Rattle.std.proofs.Common.{◌≡◌, ℕ, ◌++◌, List, length}
use Rattle.std.specs.Vec.Iter.{into_iter_items}
use Rattle.des_window.specs.Shares.{HaveCountedShares, shares_to}
use Rattle.des_window.proofs.joining.join_all.Given as goal

abbrev pub invariant-loop-scribe : goal.invariant-loop-scribe
invariant-loop-scribe g l = record {
  can_next : (goal.iterator-loop-scribe g).can_next l.scribe-iterator;
  is_finite : (goal.iterator-loop-scribe g).is_finite l.scribe-iterator;
  whole : l.yielded ++ into_iter_items l.scribe-iterator ≡ l.fn.scribes.items;
  joined : (share : ℕ → List _) → HaveCountedShares (g.S.Scribe.HasCounted l.machine) share l.fn.scribes.items
      → g.S.Scribe.HasCounted l.machine (shares_to share (length l.yielded)) l.joined;
}
