use Rattle.phold_rules.proofs.Counted.{one_more}
use Rattle.phold_machine.proofs.scribe.PholdScribeScribePhold.put.Goals as goal

pub returns-clause-counted : goal.returns-clause-counted
returns-clause-counted g c = λ pieces. one_more pieces c.args.hop.now c.args.self.now.counts c.count.new.self.counts
    c.count.ensures.events c.count.ensures.remote c.count.ensures.time_sum
