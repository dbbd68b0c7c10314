use Rattle.std.proofs.Common.{◌≡◌, ◌∙◌, ◌↔◌, ◌++◌, [], ap, arith, append-nil, subst}
use Rattle.std.specs.List.{Contains}
use Rattle.des_event.specs.declared.event.Event.{Event}
use Rattle.des_queue.proofs.Inserting.{empty}
use Rattle.des_team.specs.Mail.{mail_in}
use Rattle.des_team.proofs.MailLists.{empty_more, last_apart, still_apart, still_same}
use Rattle.des_team.proofs.mail.take_lists.Goals as goal

pub insert_from-requires : goal.insert_from-requires
insert_from-requires g c = last_apart c.loop-list.pending c.loop-list.came.items c.pop.new.self.items c.in-Some.list c.in-Some.ensures.items
    c.loop-list.invariant.apart

pub loop-list-preserved : goal.loop-list-preserved
loop-list-preserved g c = record {
  apart = still_apart c.loop-list.pending c.loop-list.came.items c.pop.new.self.items c.in-Some.list c.in-Some.ensures.items c.loop-list.invariant.apart
      c.insert_from.new.self c.in_ok-insert_from.ensures.same c.insert_from.ensures.ordered;
  same = λ x.
      let now = still_same c.loop-list.pending c.loop-list.came.items c.pop.new.self.items c.in-Some.list c.in-Some.ensures.items c.loop-list.invariant.apart
      c.insert_from.new.self c.in_ok-insert_from.ensures.same c.insert_from.ensures.ordered x in
      let before = c.loop-list.invariant.same x in
      (λ d. before.0 (now.0 d), λ d. now.1 (before.1 d));
  empty = c.loop-list.invariant.empty;
}

pub loop-list-preserved-in-Continue-branch-2 : goal.loop-list-preserved-in-Continue-branch-2
loop-list-preserved-in-Continue-branch-2 g c = record {
  apart = still_apart c.loop-list.pending c.loop-list.came.items c.pop.new.self.items c.in-Some.list c.in-Some.ensures.items c.loop-list.invariant.apart
      c.insert_from.new.self c.in_ok-insert_from.ensures.same c.insert_from.ensures.ordered;
  same = λ x.
      let now = still_same c.loop-list.pending c.loop-list.came.items c.pop.new.self.items c.in-Some.list c.in-Some.ensures.items c.loop-list.invariant.apart
      c.insert_from.new.self c.in_ok-insert_from.ensures.same c.insert_from.ensures.ordered x in
      let before = c.loop-list.invariant.same x in
      (λ d. before.0 (now.0 d), λ d. now.1 (before.1 d));
  empty = empty_more c.loop-list.empty.items c.push.new.self.items _ c.in_ok-push.ensures.items c.loop-list.invariant.empty c.in_ok-insert_from.ensures.emptied;
}

pub returns-clause-none_left : goal.returns-clause-none_left
returns-clause-none_left g c = ap mail_in (empty c.pop.new.self.items (omega (arith, c.in_default.ensures.cases.1, c.pop.new.self.ok.0)))

pub returns-clause-same : goal.returns-clause-same
returns-clause-same g c =
    let none : mail_in c.loop-list.came.items ≡ [] = ap mail_in (empty c.loop-list.came.items (omega
    (arith, c.in_default.ensures.cases.0, c.loop-list.came.ok.0))) in
    subst (λ es. (x : Event _) → Contains es x ↔ Contains (c.args.pending.now ++ mail_in c.args.came.now.items) x)
    (ap (λ es. c.loop-list.pending ++ es) none ∙ append-nil c.loop-list.pending) c.loop-list.invariant.same
