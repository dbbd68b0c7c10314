use Rattle.std.proofs.Common.{refl, set}
use Rattle.chord_judge.proofs.InProgress.{cut_held}
use Rattle.chord_judge.proofs.open.OpenLookups.cut_off.Goals as goal

pub returns-clause-left : goal.returns-clause-left
returns-clause-left c = λ lookups held.
    let lists = c.args.self.now.lists.items in
    cut_held c.args.node lookups lists (set lists c.args.node c.clear.new.self) c.clear.new.self refl c.requires held c.clear.ensures.items
