use Rattle.des_team.specs.Mail.{AreNamed, lists_of}
use Rattle.des_team.proofs.MailLists.{IsDelivering}
use Rattle.des_team.proofs.mail.deliver_lists.Given as goal

abbrev pub invariant-loop-part : goal.invariant-loop-part
invariant-loop-part g l = record {
  named : AreNamed l.lists.items l.receivers.items;
  delivering : IsDelivering l.part-index l.receivers.items (lists_of l.initial.lists.items) (lists_of l.lists.items) l.initial.parcels.items l.parcels.items;
}
