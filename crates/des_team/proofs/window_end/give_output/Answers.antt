use Rattle.std.proofs.Common.{refl}
use Rattle.des_team.proofs.TeamMail.{only_output}
use Rattle.des_team.proofs.window_end.give_output.Goals as goal

pub returns-in-Some : goal.returns-in-Some
returns-in-Some g c = only_output c.args.place.now c.in-Some.parcel _ c.in-Some.is refl c.clear.ensures
