use Rattle.chord_ops.proofs.NotedRules.{block_few, block_known}
use Rattle.chord_ops.specs.Rules.{effect}
use Rattle.chord_ops.proofs.actor.Actor.act.Goals as goal

pub returns-clause-known : goal.returns-clause-known
unfolding effect
returns-clause-known c =
    rw (c.replace-lines.ensures.value, c.in_ok-handle.ensures, c.saturating_sub-sender.ensures, c.replace-3.ensures.after, c.new-2.ensures, c.replace-2.ensures.after, c.from_vec-room.ensures, c.replace.ensures.value, c.requires.empty, c.self.view_is)
    (block_known c.args.scenario.now c.args.self.now c.args.event.now c.recall_range.ensures c.requires.invariant c.requires.event)

pub returns-clause-short : goal.returns-clause-short
unfolding effect
returns-clause-short c =
    rw (c.replace-lines.ensures.value, c.in_ok-handle.ensures, c.saturating_sub-sender.ensures, c.replace-3.ensures.after, c.new-2.ensures, c.replace-2.ensures.after, c.from_vec-room.ensures, c.replace.ensures.value, c.requires.empty, c.self.view_is)
    (block_few c.args.scenario.now c.args.self.now c.args.event.now c.recall_range.ensures c.requires.invariant c.requires.event)
