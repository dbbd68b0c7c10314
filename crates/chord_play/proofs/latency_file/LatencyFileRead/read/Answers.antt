use Rattle.std.proofs.Common.{rules}
use Rattle.chord_play.proofs.latency_file.LatencyFileRead.read.Goals as goal

pub returns-in-Given-clause-bytes : goal.returns-in-Given-clause-bytes
returns-in-Given-clause-bytes g c = search rules
