use Rattle.std.proofs.Common.{rules}
use Rattle.chord_play.proofs.playing.play.Goals as goal

pub returns-in_err-loaded-clause-stopped : goal.returns-in_err-loaded-clause-stopped
returns-in_err-loaded-clause-stopped g c = search rules

pub returns-in_err-report-clause-writer : goal.returns-in_err-report-clause-writer
returns-in_err-report-clause-writer g c = search rules
