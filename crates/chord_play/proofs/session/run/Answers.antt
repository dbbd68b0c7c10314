use Rattle.std.proofs.Common.{◌≡◌, ◌≢◌, ◌∙◌, ◌⊎◌, rules, ℕ, false, List, Option, Result, Ok, Err, inl, inr, refl, subst, sym}
use Rattle.std.specs.Prelude.{IfErr, IfOk, IsErrAnd}
use Rattle.std.proofs.KnownBytes.{Appends-kept, Keeps-refl}
use Rattle.std.specs.Io.KnownBytes.{Keeps}
use Rattle.des_event.specs.declared.error.RunError.{RunError}
use Rattle.des_event.specs.declared.error.RunError.TheVariants as run
use Rattle.chord_play.specs.Faults.{is_of_run}
use Rattle.chord_play.specs.Played.{IsPlayed}
use Rattle.chord_play.specs.Readings.{IsFaultOf, reading}
use Rattle.chord_play.specs.declared.fault.PlayFault.{PlayFault}
use Rattle.chord_play.specs.declared.fault.PlayFault.TheVariants as fault
use Rattle.des_output.specs.Watched.{wrapped}
use Rattle.chord_trace.specs.declared.report.Report.{Report}
use Rattle.des_output.specs.declared.watched.Watched.{Watched}
use Rattle.chord_play.specs.Answers.{HasBegun, HasReported, IsOver}
use Rattle.chord_trace.specs.ReportText.{report_text}
use Rattle.des_output.specs.Writing.{AppendsFront}
use Rattle.chord_play.proofs.session.run.Goals as goal

-- a run has begun the trace, whatever its result, and a flush keeps it
begun_kept : (scenario latency old mid new : Option (List ℕ)) (result : Result Report RunError) → IsPlayed scenario latency old mid result
    → Keeps mid new → HasBegun scenario latency old new
begun_kept scenario latency old mid new result played keeps =
    let front = played.run.beginning.1 in
    let kept = Appends-kept old mid new _ front.1 keeps in
    record { setup = played.setup; given = played.given; beginning = (played.run.beginning.0, (front.0, kept)) }

-- nothing was written
same_kept : {X : Type 0} (contents : X → Option (List ℕ)) (old new : Watched X) → new ≡ old
    → Keeps (contents (wrapped old)) (contents (wrapped new))
same_kept {X = X} contents old new same =
    subst (λ (w : Watched X). Keeps (contents (wrapped old)) (contents (wrapped w))) (sym same) (Keeps-refl (contents (wrapped old)))

-- what a simulation that was stopped has left of the trace
stopped : {X : Type 0} (contents : X → Option (List ℕ)) (scenario latency : Option (List ℕ)) (old new : Watched X) (f : PlayFault)
    → ((e : RunError) → ◌≡◌ {A = Result Report PlayFault} (Err f) (Err (fault.Run e))
    → IsPlayed scenario latency (contents (wrapped old)) (contents (wrapped new)) (Err e) ⊎ ((e ≡ run.Memory) × (new ≡ old)))
    → (is_of_run f ≡ false → new ≡ old)
    → Keeps (contents (wrapped old)) (contents (wrapped new)) ⊎ HasBegun scenario latency (contents (wrapped old)) (contents (wrapped new))
stopped contents scenario latency old new (fault.Run e) of_run of_texts = elim (of_run e refl) [
  | inl played ↦ inr (begun_kept scenario latency _ _ _ (Err e) played (Keeps-refl (contents (wrapped new))))
  | inr memory ↦ inl (same_kept contents old new memory.1)
]
stopped contents scenario latency old new (fault.Scenario e) of_run of_texts = inl (same_kept contents old new (of_texts refl))
stopped contents scenario latency old new (fault.Read text) of_run of_texts = inl (same_kept contents old new (of_texts refl))
stopped contents scenario latency old new (fault.TooLong text) of_run of_texts = inl (same_kept contents old new (of_texts refl))

-- a simulation with too many events
over : {A : Type 0} (scenario latency old new : Option (List ℕ)) → IsPlayed scenario latency old new (Err run.TooManyEvents) ⊎ ((run.TooManyEvents ≡ run.Memory) × A)
    → IsOver scenario latency
over scenario latency old new (inl played) = record { setup = played.setup; given = played.given; over = played.run.over refl }
over scenario latency old new (inr memory) = absurd (cc)

-- what holds of a fault holds of the result that passes it on
passed_on : {X : Type 0} (r : Result X PlayFault) (f : PlayFault) (P : PlayFault → Type 0) → IsErrAnd r (λ e. e ≡ f) → P f → IfErr r P
passed_on (Ok x) f P is has = tt
passed_on (Err e) f P is has = subst P (sym is) has

-- a result with another fault has not too many events
not_over : {X A : Type 0} (r : Result X PlayFault) (f : PlayFault) → IsErrAnd r (λ e. e ≡ f) → f ≢ fault.Run run.TooManyEvents
    → r ≡ Err (fault.Run run.TooManyEvents) → A
not_over (Ok x) f is other over = cc
not_over (Err e) f is other over =
    let same : e ≡ fault.Run run.TooManyEvents = cc in
    absurd (other (sym is ∙ same))

-- the fault of a writer that failed
write_fault : {X E : Type 0} (outcome : Result X E) (f : PlayFault) → IfOk outcome (λ x. ◌≡◌ {A = Result X PlayFault} (Err f) (Ok x))
    → IfErr outcome (λ e. ◌≡◌ {A = Result X PlayFault} (Err f) (Err (fault.Run run.Write))) → f ≡ fault.Run run.Write
write_fault (Ok x) f ok err = cc
write_fault (Err e) f ok err = cc

-- the front of the report was written
report_begun : (scenario latency old new now later : Option (List ℕ)) (report : Report) → IsPlayed scenario latency old new (Ok report)
    → AppendsFront now later (report_text report) → HasReported scenario latency now later
report_begun scenario latency old new now later report played front =
    record { setup = played.setup; given = played.given; report = report; right = played.run.report; front = front }

pub returns-in_err-report-clause-beginning : goal.returns-in_err-report-clause-beginning
returns-in_err-report-clause-beginning g c =
    stopped g.V.Write.contents _ _ _ _ c.in_err-report.field-0.0 c.in_err-report.ensures.stopped c.in_err-report.ensures.untouched

pub returns-in_err-report-clause-over : goal.returns-in_err-report-clause-over
returns-in_err-report-clause-over g c = λ is.
    let f_is : c.in_err-report.field-0.0 ≡ fault.Run run.TooManyEvents = search (rules, is, c.from_residual.ensures) in
    over _ _ _ _ (c.in_err-report.ensures.stopped run.TooManyEvents (rw f_is refl))

pub returns-in_err-or_write_fault-clause-beginning : goal.returns-in_err-or_write_fault-clause-beginning
returns-in_err-or_write_fault-clause-beginning g c = inr (begun_kept _ _ _ _ _ _ c.in_ok-report.ensures.played c.flush.ensures.bytes)

pub returns-in_err-write-clause-beginning : goal.returns-in_err-write-clause-beginning
returns-in_err-write-clause-beginning g c = inr (begun_kept _ _ _ _ _ _ c.in_ok-report.ensures.played c.flush.ensures.bytes)

pub returns-clause-beginning : goal.returns-clause-beginning
returns-clause-beginning g c = inr (begun_kept _ _ _ _ _ _ c.in_ok-report.ensures.played c.flush.ensures.bytes)

pub returns-in_err-write-clause-writers : goal.returns-in_err-write-clause-writers
returns-in_err-write-clause-writers g c = search rules

pub returns-clause-writers : goal.returns-clause-writers
returns-clause-writers g c = search rules

pub returns-clause-reported : goal.returns-clause-reported
returns-clause-reported g c = search rules

pub returns-in_err-report-clause-faults : goal.returns-in_err-report-clause-faults
returns-in_err-report-clause-faults g c = passed_on c.from_residual.result _ _ c.from_residual.ensures.1 c.in_err-report.ensures.faults

pub returns-in_err-report-clause-untouched : goal.returns-in_err-report-clause-untouched
returns-in_err-report-clause-untouched g c =
    passed_on c.from_residual.result _ _ c.from_residual.ensures.1 (λ texts. (c.in_err-report.ensures.untouched texts, refl))

pub returns-in_err-or_write_fault-clause-over : goal.returns-in_err-or_write_fault-clause-over
returns-in_err-or_write_fault-clause-over g c =
    let write = write_fault c.flush.result _ c.in_err-or_write_fault.ensures.ok c.in_err-or_write_fault.ensures.err in
    not_over c.from_residual-in_err-or_write_fault.result _ c.from_residual-in_err-or_write_fault.ensures.1 (λ over. cc)

pub returns-in_err-or_write_fault-clause-faults : goal.returns-in_err-or_write_fault-clause-faults
returns-in_err-or_write_fault-clause-faults g c =
    let write = write_fault c.flush.result _ c.in_err-or_write_fault.ensures.ok c.in_err-or_write_fault.ensures.err in
    let read = c.in_ok-report.ensures.read in
    let scenario = reading g.R.Read.remaining c.args.scenario.now c.play.new.scenario in
    let latency = reading g.Q.Read.remaining c.args.latency.now c.play.new.latency in
    passed_on c.from_residual-in_err-or_write_fault.result _ (IsFaultOf scenario latency) c.from_residual-in_err-or_write_fault.ensures.1
    (subst (IsFaultOf scenario latency) (sym write) (inr read))

pub returns-in_err-or_write_fault-clause-untouched : goal.returns-in_err-or_write_fault-clause-untouched
returns-in_err-or_write_fault-clause-untouched g c =
    let write = write_fault c.flush.result _ c.in_err-or_write_fault.ensures.ok c.in_err-or_write_fault.ensures.err in
    passed_on c.from_residual-in_err-or_write_fault.result _ _ c.from_residual-in_err-or_write_fault.ensures.1 (rw write λ texts. cc)

pub returns-in_err-write-clause-over : goal.returns-in_err-write-clause-over
returns-in_err-write-clause-over g c =
    not_over c.from_residual-in_err-write.result _ c.from_residual-in_err-write.ensures.1
    (λ over. elim c.in_err-write.ensures.only [ inl memory ↦ cc | inr write ↦ cc ])

pub returns-in_err-write-clause-faults : goal.returns-in_err-write-clause-faults
returns-in_err-write-clause-faults g c =
    let read = c.in_ok-report.ensures.read in
    passed_on c.from_residual-in_err-write.result _ _ c.from_residual-in_err-write.ensures.1 (inr read)

pub returns-in_err-write-clause-report_beginning : goal.returns-in_err-write-clause-report_beginning
returns-in_err-write-clause-report_beginning g c = inr (report_begun _ _ _ _ _ _ _ c.in_ok-report.ensures.played c.write.ensures.front)

pub returns-clause-report_beginning : goal.returns-clause-report_beginning
returns-clause-report_beginning g c = inr (report_begun _ _ _ _ _ _ _ c.in_ok-report.ensures.played c.write.ensures.front)
