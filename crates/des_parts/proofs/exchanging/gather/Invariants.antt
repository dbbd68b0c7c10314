use Rattle.std.proofs.Common.{◌≡◌, ◌++◌, length}
use Rattle.std.specs.Vec.Iter.{into_iter_items}
use Rattle.des_parts.specs.Exchanges.{NameNodes, entry_lists, mails, with_all}
use Rattle.des_parts.proofs.exchanging.gather.Given as goal

abbrev pub invariant-loop-done : goal.invariant-loop-done
invariant-loop-done g l = record {
  can_next : (goal.iterator-loop-done g).can_next l.done-iterator;
  is_finite : (goal.iterator-loop-done g).is_finite l.done-iterator;
  states : with_all (into_iter_items l.done-iterator) l.states.items ≡ with_all l.fn.dones.items l.initial.states.items;
  names : NameNodes (length l.states.items) (into_iter_items l.done-iterator);
  mail : l.mail.items ++ mails (into_iter_items l.done-iterator) ≡ mails l.fn.dones.items;
  entries : l.entries.items ++ entry_lists (into_iter_items l.done-iterator) ≡ entry_lists l.fn.dones.items;
}
