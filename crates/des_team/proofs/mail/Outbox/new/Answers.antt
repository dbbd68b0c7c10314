use Rattle.std.proofs.Common.{◌∷◌, [], ap, arith, length, length-append, subst, sym}
use Rattle.des_team.specs.Mail.{AreNamed}
use Rattle.des_team.proofs.MailLists.{all_empty, empty_more, named_none}
use Rattle.des_team.proofs.mail.Outbox.new.Goals as goal

pub loop-part-preserved : goal.loop-part-preserved
loop-part-preserved g c = record {
  long = omega (arith, ap length c.in_ok-push.ensures.items, length-append c.loop-part.lists.items (c.new.result ∷ []), c.loop-part.invariant.long);
  empty = empty_more c.loop-part.lists.items c.push.new.self.items c.new.result c.in_ok-push.ensures.items c.loop-part.invariant.empty c.new.ensures.items;
}

pub invariant_of-result : goal.invariant_of-result
invariant_of-result g c = subst (AreNamed c.loop-part.lists.items) (sym c.new-2.ensures.items) (named_none c.loop-part.lists.items c.loop-part.invariant.empty)

pub returns-clause-none : goal.returns-clause-none
returns-clause-none g c = all_empty c.loop-part.lists.items c.loop-part.invariant.empty
