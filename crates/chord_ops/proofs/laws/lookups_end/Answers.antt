use Rattle.chord_ops.proofs.Ends.{all_proceed, few_requests}
use Rattle.chord_ops.proofs.laws.lookups_end.Goals as goal

pub returns-clause-proceeds : goal.returns-clause-proceeds
returns-clause-proceeds c = all_proceed

pub returns-clause-few : goal.returns-clause-few
returns-clause-few c = few_requests
