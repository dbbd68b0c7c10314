use Rattle.std.proofs.Common.{◌≡◌, ◌≢◌, ◌∙◌, ◌⊎◌, ℕ, ap, inl, inr, length, rules, Result, Ok, Err, IfErr}
use Rattle.std.proofs.lemmas.List.FromFn.{length-map-range_with_len}
use Rattle.des_event.specs.declared.error.RunError.{RunError}
use Rattle.des_event.specs.declared.error.RunError.TheVariants as run
use Rattle.des_model.specs.Windows.{Division}
use Rattle.des_machine.proofs.Runs.{run_refused}
use Rattle.chord_machine.specs.Chord.{chord}
use Rattle.chord_plan.specs.declared.plan.Plan.{Plan}
use Rattle.chord_play.specs.Plans.{part_by, planned}
use Rattle.chord_play.proofs.Runs.{errors_of}
use Rattle.chord_trace.specs.declared.report.Report.{Report}
use Rattle.chord_trace.specs.Report.{IsReportOf}
use Rattle.chord_trace.specs.Texts.{piece_text}
use Rattle.chord_play.proofs.running.run_planned.Goals as goal

-- the division of a plan has a part for each node
planned_long : (plan : Plan) (nodes : ℕ) → length (planned plan nodes).of_node ≡ nodes
planned_long plan nodes = length-map-range_with_len (part_by plan.split nodes plan.parts) 0 nodes

-- the errors of the serial engine are among those of a plan
serial_errors : (r : Result Report RunError) → IfErr r (λ e. (e ≡ run.Memory) ⊎ (e ≡ run.Write) ⊎ (e ≡ run.TooManyEvents))
    → IfErr r (λ e. (e ≡ run.Memory) ⊎ (e ≡ run.Worker) ⊎ (e ≡ run.TooManyEvents) ⊎ (e ≡ run.Write))
serial_errors (Ok report) only = tt
serial_errors (Err e) only = elim only [
  | inl memory ↦ inl memory
  | inr other ↦ elim other [ inl write ↦ inr (inr (inr write)) | inr many ↦ inr (inr (inl many)) ]
]

-- the serial engine starts no worker
serial_worker : {A : Type 0} (r : Result Report RunError) → IfErr r (λ e. (e ≡ run.Memory) ⊎ (e ≡ run.Write) ⊎ (e ≡ run.TooManyEvents))
    → r ≡ Err run.Worker → A
serial_worker (Ok report) only is = cc
serial_worker (Err e) only is = elim only [
  | inl memory ↦ cc
  | inr other ↦ elim other [ inl write ↦ cc | inr many ↦ cc ]
]

pub returns-in_ok-division-in-Crew-clause-only : goal.returns-in_ok-division-in-Crew-clause-only
returns-in_ok-division-in-Crew-clause-only g c =
    let long = ap (λ (d : Division). length d.of_node) c.in_ok-division-in-Crew.ensures ∙ planned_long c.args.plan.now c.nodes.result in
    errors_of c.run_crew_started.result (λ is. (c.run_crew_started.ensures.bad is).0 (long ∙ c.nodes.ensures))

pub returns-in_ok-division-in-Team-clause-only : goal.returns-in_ok-division-in-Team-clause-only
returns-in_ok-division-in-Team-clause-only g c =
    let long = ap (λ (d : Division). length d.of_node) c.in_ok-division-in-Team.ensures ∙ planned_long c.args.plan.now c.nodes-in-Team.result in
    errors_of c.run_team.result (λ is. (c.run_team.ensures.bad is).0 (long ∙ c.nodes-in-Team.ensures))

pub returns-in-Serial-clause-run : goal.returns-in-Serial-clause-run
returns-in-Serial-clause-run g c = c.run_serial.ensures.run

pub returns-in-Serial-clause-writer : goal.returns-in-Serial-clause-writer
returns-in-Serial-clause-writer g c = c.run_serial.ensures.writer

pub returns-in-Serial-clause-worker : goal.returns-in-Serial-clause-worker
returns-in-Serial-clause-worker g c = serial_worker c.run_serial.result c.run_serial.ensures.only

pub returns-in-Serial-clause-only : goal.returns-in-Serial-clause-only
returns-in-Serial-clause-only g c = serial_errors c.run_serial.result c.run_serial.ensures.only

pub returns-in_ok-division-in-Crew-clause-run : goal.returns-in_ok-division-in-Crew-clause-run
returns-in_ok-division-in-Crew-clause-run g c = c.run_crew_started.ensures.run

pub returns-in_ok-division-in-Crew-clause-writer : goal.returns-in_ok-division-in-Crew-clause-writer
returns-in_ok-division-in-Crew-clause-writer g c = c.run_crew_started.ensures.writer

pub returns-in_ok-division-in-Crew-clause-worker : goal.returns-in_ok-division-in-Crew-clause-worker
returns-in_ok-division-in-Crew-clause-worker g c = λ is serial.
    let crew = c.in-Crew.is in
    cc

pub returns-in_ok-division-in-Team-clause-worker : goal.returns-in_ok-division-in-Team-clause-worker
returns-in_ok-division-in-Team-clause-worker g c = λ is serial.
    let team = c.in-Team.is in
    cc

pub returns-in_ok-division-in-Team-clause-run : goal.returns-in_ok-division-in-Team-clause-run
returns-in_ok-division-in-Team-clause-run g c = c.run_team.ensures.run

pub returns-in_ok-division-in-Team-clause-writer : goal.returns-in_ok-division-in-Team-clause-writer
returns-in_ok-division-in-Team-clause-writer g c = c.run_team.ensures.writer

pub returns-in_err-division-in-Crew-clause-run : goal.returns-in_err-division-in-Crew-clause-run
returns-in_err-division-in-Crew-clause-run g c =
    run_refused (piece_text c.args.scenario.now) (chord c.args.scenario.now) (IsReportOf c.args.scenario.now.profile) _ _ run.Memory (search (rules, c.from_residual.ensures)) (λ over. cc)

pub returns-in_err-division-in-Team-clause-run : goal.returns-in_err-division-in-Team-clause-run
returns-in_err-division-in-Team-clause-run g c =
    run_refused (piece_text c.args.scenario.now) (chord c.args.scenario.now) (IsReportOf c.args.scenario.now.profile) _ _ run.Memory (search (rules, c.from_residual-in_err-division-in-Team.ensures)) (λ over. cc)
