use Rattle.std.proofs.Common.{◌≡◌, ◌∙◌, ◌++◌, [], Vec, ap, arith, subst, sym}
use Rattle.std.proofs.lemmas.List.Elements.{All-nil}
use Rattle.std.specs.Global.{Global}
use Rattle.des_event.specs.declared.event.Event.{Event}
use Rattle.des_queue.proofs.Inserting.{empty}
use Rattle.des_team.specs.Mail.{AreEmpty}
use Rattle.des_team.proofs.MailLists.{empty_front, empty_last, mail_more}
use Rattle.des_team.proofs.mail.Inbox.put.Goals.{in-Some, in-None}
use Rattle.des_team.proofs.mail.Inbox.put.Goals as goal

pub returns-clause-came : goal.returns-clause-came
returns-clause-came g c =
    mail_more c.self.inside.came.items c.push.new.self.items c.replace.result c.in_ok-push.ensures.items
    ∙ ap (λ es. es ++ c.replace.result.items) c.self.view_is
    ∙ ap (λ (v : Vec (Event _) Global). c.args.self.now ++ v.items) c.replace.ensures.value

pub returns-clause-none_left : goal.returns-clause-none_left
returns-clause-none_left g c =
    let none : c.match-pop.empty.items ≡ [] = elim c.match-pop.branch [
      | in-Some w ↦ ap (λ (v : Vec (Event _) Global). v.items) w.empty-is
          ∙ empty_last c.self.inside.empty.items c.pop.new.self.items w.in-Some.empty w.in-Some.ensures.items c.self.invariant
      | in-None w ↦ ap (λ (v : Vec (Event _) Global). v.items) w.empty-is ∙ w.new-empty.ensures.items
    ] in
    ap (λ (v : Vec (Event _) Global). v.items) c.replace.ensures.after ∙ none

pub invariant_of-self : goal.invariant_of-self
invariant_of-self g c = elim c.match-pop.branch [
  | in-Some w ↦ empty_front c.self.inside.empty.items c.pop.new.self.items w.in-Some.empty w.in-Some.ensures.items c.self.invariant
  | in-None w ↦ subst AreEmpty (sym (empty c.pop.new.self.items (omega (arith, w.in-None.ensures.cases.1, c.pop.new.self.ok.0))))
      (All-nil (λ (v : Vec (Event _) Global). v.items ≡ []))
]

pub invariant_of-self-2 : goal.invariant_of-self-2
invariant_of-self-2 g c = elim c.match-pop.branch [
  | in-Some w ↦ empty_front c.self.inside.empty.items c.pop.new.self.items w.in-Some.empty w.in-Some.ensures.items c.self.invariant
  | in-None w ↦ subst AreEmpty (sym (empty c.pop.new.self.items (omega (arith, w.in-None.ensures.cases.1, c.pop.new.self.ok.0))))
      (All-nil (λ (v : Vec (Event _) Global). v.items ≡ []))
]
