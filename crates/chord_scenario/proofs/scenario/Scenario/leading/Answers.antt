use Rattle.std.proofs.Common.{◌∙◌, ◌<◌, ap, subst, sym}
use Rattle.chord_circle.specs.Circle.{leading}
use Rattle.chord_scenario.specs.Setup.{Setup}
use Rattle.chord_scenario.specs.World.{ident_of, node_count}
use Rattle.chord_scenario.proofs.LeadingBits.{leading_at}
use Rattle.chord_scenario.proofs.scenario.Scenario.leading.Goals as goal

pub returns : goal.returns
unfolding ident_of
returns c =
    let s = c.self.inside in
    let within = subst (λ (sc : Setup). c.args.node < node_count sc) (sym c.self.view_is) c.requires in
    c.index.ensures ∙ leading_at s.circle s.nodes.items s.leading.items c.args.node c.index.result.now c.self.invariant.leading within
    ∙ ap (λ (sc : Setup). leading sc.bits (ident_of sc c.args.node)) c.self.view_is
