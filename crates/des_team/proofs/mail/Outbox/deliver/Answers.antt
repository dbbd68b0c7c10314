use Rattle.std.proofs.Common.{◌∙◌, List, ap, length, subst, sym}
use Rattle.des_event.specs.declared.event.Event.{Event}
use Rattle.des_team.specs.Exchanges.{HaveDelivered}
use Rattle.des_team.specs.Mail.{AreNamed}
use Rattle.des_team.proofs.MailLists.{all_empty, lists_long, named_none}
use Rattle.des_team.proofs.mail.Outbox.deliver.Goals as goal

pub invariant_of-self-2 : goal.invariant_of-self-2
invariant_of-self-2 g c = subst (AreNamed c.deliver_lists.new.lists.items) (sym c.clear.ensures.items)
    (named_none c.deliver_lists.new.lists.items c.in_ok-deliver_lists.ensures.none_left)

pub returns-clause-none_left : goal.returns-clause-none_left
returns-clause-none_left g c = all_empty c.deliver_lists.new.lists.items c.in_ok-deliver_lists.ensures.none_left

pub invariant_of-self : goal.invariant_of-self
invariant_of-self g c = c.deliver_lists.ensures.named

pub deliver_lists-requires-clause-long : goal.deliver_lists-requires-clause-long
deliver_lists-requires-clause-long g c = c.requires ∙ ap (λ (l : List (List (Event _))). length l) (sym c.self.view_is) ∙ lists_long c.self.inside.lists.items

pub deliver_lists-requires-clause-named : goal.deliver_lists-requires-clause-named
deliver_lists-requires-clause-named g c = c.self.invariant

pub returns-clause-long : goal.returns-clause-long
returns-clause-long g c =
    lists_long c.deliver_lists.new.lists.items ∙ c.deliver_lists.ensures.long ∙ sym (lists_long c.self.inside.lists.items)
    ∙ ap (λ (l : List (List (Event _))). length l) c.self.view_is

pub returns-clause-delivered : goal.returns-clause-delivered
returns-clause-delivered g c =
    subst (λ (l : List (List (Event _))). HaveDelivered l c.args.parcels.now.items c.deliver_lists.new.parcels.items) c.self.view_is
    c.in_ok-deliver_lists.ensures.delivered
