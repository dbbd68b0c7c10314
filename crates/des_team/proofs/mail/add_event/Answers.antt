use Rattle.std.proofs.Common.{⊎_elim, inl, inr}
use Rattle.des_team.proofs.MailLists.{list_added, named_at, named_set}
use Rattle.des_team.proofs.mail.add_event.Goals as goal

pub note-requires : goal.note-requires
note-requires g c = named_at c.args.lists.now.items c.args.receivers.now.items c.args.part c.index_mut-list.result.now c.requires.named c.requires.part
    c.index_mut-list.ensures.value

pub returns-clause-named : goal.returns-clause-named
returns-clause-named g c = named_set c.args.lists.now.items c.args.receivers.now.items c.note.new.receivers.items c.args.part c.push.new.self c.requires.named
    c.note.ensures.kept (c.note.ensures.below _ c.requires.part c.requires.named.below) (inr c.in_default.ensures.noted)

pub returns-clause-added : goal.returns-clause-added
returns-clause-added g c = list_added c.args.lists.now.items c.args.part c.args.event c.index_mut-list.result.now c.push.new.self c.requires.part
    c.index_mut-list.ensures.value c.in_ok-push.ensures.items

pub returns-in-Err-clause-named : goal.returns-in-Err-clause-named
returns-in-Err-clause-named g c = named_set c.args.lists.now.items c.args.receivers.now.items c.note.new.receivers.items c.args.part c.index_mut-list.result.now
    c.requires.named c.note.ensures.kept (c.note.ensures.below _ c.requires.part c.requires.named.below)
    (⊎_elim (λ n. inl n) (λ k. inr (c.note.ensures.kept _ k)) (named_at c.args.lists.now.items c.args.receivers.now.items c.args.part
    c.index_mut-list.result.now c.requires.named c.requires.part c.index_mut-list.ensures.value))

pub returns-in_err-push-clause-named : goal.returns-in_err-push-clause-named
returns-in_err-push-clause-named g c = named_set c.args.lists.now.items c.args.receivers.now.items c.note.new.receivers.items c.args.part c.push.new.self
    c.requires.named c.note.ensures.kept (c.note.ensures.below _ c.requires.part c.requires.named.below) (inr c.in_default.ensures.noted)
