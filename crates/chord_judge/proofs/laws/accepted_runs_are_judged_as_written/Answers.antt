use Rattle.chord_judge.proofs.PlainNames.{accepted_trace_judged}
use Rattle.chord_judge.proofs.laws.accepted_runs_are_judged_as_written.Goals as goal

pub returns : goal.returns
returns c = accepted_trace_judged
