use Rattle.std.proofs.Common.{◌↔◌, ◌++◌, subst}
use Rattle.std.specs.List.{Contains}
use Rattle.des_event.specs.declared.event.Event.{Event}
use Rattle.des_team.proofs.mail.Inbox.empty_into.Goals as goal

pub returns-clause-same : goal.returns-clause-same
returns-clause-same g c = subst (λ es. (x : Event _) → Contains c.take_lists.new.pending x ↔ Contains (c.args.pending.now ++ es) x) c.self.view_is
    c.in_ok-take_lists.ensures.same
