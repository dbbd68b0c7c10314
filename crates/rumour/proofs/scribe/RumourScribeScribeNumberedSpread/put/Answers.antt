use Rattle.rumour_rules.proofs.Counted.{one_more}
use Rattle.rumour.proofs.scribe.RumourScribeScribeNumberedSpread.put.Goals as goal

pub returns-clause-counted : goal.returns-clause-counted
returns-clause-counted g c = λ pieces. one_more pieces c.args.piece.now c.args.self.now.counts c.count.new.self.counts
    c.count.ensures.heard c.count.ensures.told
