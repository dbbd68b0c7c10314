use Rattle.std.proofs.Common.{ℕ, ◌<◌, ◌^◌, subst, sym}
use Rattle.chord_scenario.proofs.scenario.Scenario.ident.Goals as goal

pub returns-clause-on_circle : goal.returns-clause-on_circle
returns-clause-on_circle c =
    subst (λ (n : ℕ). n < 2 ^ c.args.self.now.bits) (sym c.place_of.ensures) (c.recall_range.ensures.nodes.on_circle c.args.node c.requires)
