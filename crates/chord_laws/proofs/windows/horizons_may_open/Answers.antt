use Rattle.chord_machine.proofs.WellFormed.{well_formed}
use Rattle.chord_machine.specs.Chord.{chord}
use Rattle.des_model.proofs.Horizons.{horizon_may_open, no_audit_inside}
use Rattle.chord_laws.proofs.windows.horizons_may_open.Goals as goal

pub returns : goal.returns
returns c sc ranges = λ h e l s. (horizon_may_open (chord sc) (well_formed sc ranges) h e l s, no_audit_inside (chord sc) (well_formed sc ranges) e.key.time)
