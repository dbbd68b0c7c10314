use Rattle.std.proofs.Common.{◌∙◌, ◌<◌, ℕ, IfSome, None, Option, ap, get_or, length, option_and_then, refl, subst, sym}
use Rattle.chord_audit.specs.Tables.{node_at}
use Rattle.chord_audit.proofs.Lists.{maps_more}
use Rattle.chord_audit.proofs.ring.twice.Goals as goal
use Rattle.chord_audit.proofs.ring.twice.Goals.{in-Some, in-None}

pub bounds-steps-node : goal.bounds-steps-node
bounds-steps-node c =
    subst (λ (o : Option ℕ). IfSome o (λ n. n < length c.args.steps.now)) c.in-Some.is (c.requires c.loop-way.way-index None c.loop-way-test.true)

pub loop-way-preserved : goal.loop-way-preserved
loop-way-preserved c =
    let steps = c.args.steps.now in let f = option_and_then (node_at steps) in
    maps_more f steps c.loop-way.way-index None (get_or steps c.loop-way.way-index None) c.match-way.on c.loop-way.twice.items c.push.new.self.items
    c.loop-way-test.true refl
    (elim c.match-way.branch [ in-Some w ↦ w.on-is ∙ ap f (sym w.in-Some.is) | in-None w ↦ w.on-is ∙ ap f (sym w.in-None.is) ])
    c.loop-way.invariant c.in_ok-push.ensures.items
