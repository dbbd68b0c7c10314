use Rattle.std.proofs.Common.{◌≡◌, length}
use Rattle.des_team.specs.Mail.{AreEmpty}
use Rattle.des_team.proofs.mail.Outbox.new.Given as goal

abbrev pub invariant-loop-part : goal.invariant-loop-part
invariant-loop-part g l = record {
  long : length l.lists.items ≡ l._part;
  empty : AreEmpty l.lists.items;
}
