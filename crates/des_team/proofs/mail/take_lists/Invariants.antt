use Rattle.std.proofs.Common.{◌↔◌, ◌++◌, vec_len}
use Rattle.std.specs.List.{Contains}
use Rattle.des_event.specs.declared.event.Event.{Event}
use Rattle.des_team.specs.Mail.{AreEmpty, mail_in}
use Rattle.des_team.specs.Owned.{AreApart}
use Rattle.des_team.proofs.mail.take_lists.Given as goal

abbrev pub invariant-loop-list : goal.invariant-loop-list
invariant-loop-list g l = record {
  apart : AreApart (l.pending ++ mail_in l.came.items);
  same : (x : Event _) → Contains (l.pending ++ mail_in l.came.items) x ↔ Contains (l.initial.pending ++ mail_in l.initial.came.items) x;
  empty : AreEmpty l.empty.items;
}

abbrev pub decreases-loop-list : goal.decreases-loop-list
decreases-loop-list g l = vec_len l.came
