use Rattle.std.proofs.Common.{add-one, sym, subst}
use mathlib.Core.List.{IsPrefix}
use Rattle.des_model.specs.Histories.{history, trace}
use Rattle.des_model.proofs.Runs.{trace_grows}
use Rattle.des_laws.proofs.trace_grows.Goals as goal

pub returns : goal.returns
returns g c m k = subst (λ n. IsPrefix (trace m (history m k)) (trace m (history m n))) (sym (add-one k)) (trace_grows m k)
