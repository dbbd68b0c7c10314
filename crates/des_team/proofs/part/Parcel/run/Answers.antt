use Rattle.std.proofs.Common.{rules}
use Rattle.des_team.proofs.part.Parcel.run.Goals as goal

pub run_events-ran-requires : goal.run_events-ran-requires
run_events-ran-requires g c = search rules
