use Rattle.std.proofs.Common.{add-one, sym, subst}
use mathlib.Core.List.{IsPrefix}
use Rattle.chord_machine.specs.Chord.{chord}
use Rattle.des_model.specs.Histories.{history, trace}
use Rattle.des_model.proofs.Runs.{trace_grows}
use Rattle.chord_laws.proofs.histories.trace_grows.Goals as goal

pub returns : goal.returns
returns c sc ranges k = subst (λ n. IsPrefix (trace (chord sc) (history (chord sc) k)) (trace (chord sc) (history (chord sc) n))) (sym (add-one k))
    (trace_grows (chord sc) k)
