-- Errors of a run.
use Rattle.std.proofs.Common.{◌≡◌, ◌≢◌, ◌⊎◌, ap, inl, inr, rules, Result, Ok, Err, IfErr}
use Rattle.des_event.specs.declared.error.RunError.{RunError}
use Rattle.des_event.specs.declared.error.RunError.TheVariants as run
use Rattle.chord_trace.specs.declared.report.Report.{Report}

-- the errors that are left if the division fits
pub other_errors : (e : RunError) → (e ≢ run.BadDivision) → (e ≡ run.Memory) ⊎ (e ≡ run.Worker) ⊎ (e ≡ run.TooManyEvents) ⊎ (e ≡ run.Write)
other_errors run.Memory fits = inl cc
other_errors run.Worker fits = inr (inl cc)
other_errors run.TooManyEvents fits = inr (inr (inl cc))
other_errors run.Write fits = inr (inr (inr cc))
other_errors run.BadDivision fits = absurd (fits cc)

pub errors_of : (r : Result Report RunError) → (r ≢ Err run.BadDivision)
    → IfErr r (λ e. (e ≡ run.Memory) ⊎ (e ≡ run.Worker) ⊎ (e ≡ run.TooManyEvents) ⊎ (e ≡ run.Write))
errors_of (Ok report) fits = search rules
errors_of (Err e) fits = other_errors e (λ is. fits (ap Err is))
