use Rattle.std.proofs.Common.{refl}
use Rattle.chord_judge.proofs.Digesting.{digest_more}
use Rattle.chord_judge.proofs.Streams.{on_ok}
use Rattle.chord_judge.proofs.digest.Digest.finish.Goals as goal

pub returns : goal.returns
returns c = on_ok _ _ c.push_to.result (λ adds text written has. digest_more text written _ _ has adds refl) c.push_to.ensures
