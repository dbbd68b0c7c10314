use Rattle.chord_audit.proofs.Reaches.{reaches_more}
use Rattle.chord_audit.proofs.arcs.Arcs.reach.Goals as goal

pub returns-clause-covered : goal.returns-clause-covered
returns-clause-covered c =
    λ k. reaches_more k c.args.self.now.first c.args.self.now.far.items c.args.a c.args.end c.index.result.now c.max.result c.requires c.index.ensures
    c.max.ensures
