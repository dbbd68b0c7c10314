use Rattle.chord_judge.proofs.PlainNames.{plain_names}
use Rattle.chord_judge.proofs.laws.accepted_scenarios_have_plain_names.Goals as goal

pub returns : goal.returns
returns c = plain_names
