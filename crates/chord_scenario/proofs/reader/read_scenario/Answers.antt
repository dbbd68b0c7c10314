-- What `document` and `scenario_of` return, as facts of the two texts.
use Rattle.std.proofs.Common.{◌≡◌, ◌∙◌, ◌⊎◌, sym, ap, ℕ, List, Result, Ok, Err, IfOk, Some, None, inl, inr, rules}
use Rattle.std.proofs.lemmas.Result.{IfErr-weaker}
use Rattle.toml.specs.Data.{Members}
use Rattle.toml.specs.View.{table_view}
use Rattle.chord_scenario.specs.declared.fault.ScenarioFault.{ScenarioFault}
use Rattle.chord_scenario.specs.declared.fault.ScenarioFault.TheVariants.{Memory, NotToml}
use Rattle.chord_scenario.specs.Accepted.{IsSetupOf, Accepts}
use Rattle.chord_scenario.specs.Faults.{document, file_fault, scenario_fault}
use Rattle.chord_scenario.specs.Rows.{rows_of}
use Rattle.chord_scenario.specs.Setup.{Setup}
use Rattle.chord_scenario.proofs.Scenarios.{scenario_fault-not, scenario_fault-file}
use Rattle.chord_scenario.proofs.reader.read_scenario.Goals as goal

module _ (toml csv : List ℕ) where
  -- a text that is no document
  not_document : (e : ScenarioFault) → (e ≡ Memory) ⊎ (e ≡ NotToml) × (document toml ≡ None) → (e ≡ Memory) ⊎ (scenario_fault toml csv ≡ Some e)
  not_document e (inl memory) = inl memory
  not_document e (inr fault) = inr (scenario_fault-not toml csv fault.1 ∙ ap Some (sym fault.0))

  module _ (top : Members) (is : document toml ≡ Some top) where
    -- a file with a fault
    of_file : (e : ScenarioFault) → (e ≡ Memory) ⊎ (file_fault top (rows_of csv) ≡ Some e) → (e ≡ Memory) ⊎ (scenario_fault toml csv ≡ Some e)
    of_file e (inl memory) = inl memory
    of_file e (inr fault) = inr (scenario_fault-file toml csv top is ∙ fault)

    -- and one without
    accepted : {E : Type 0} (r : Result Setup E) → IfOk r (λ _. file_fault top (rows_of csv) ≡ None) → IfOk r (IsSetupOf top (rows_of csv))
        → IfOk r (Accepts toml csv)
    accepted (Ok sc) none values = record { top = top; is_document = is; no_fault = scenario_fault-file toml csv top is ∙ none; is_setup = values }
    accepted (Err e) none values = tt

pub returns-in_err-top-clause-refused : goal.returns-in_err-top-clause-refused
returns-in_err-top-clause-refused c =
    let told = not_document c.args.toml.now c.args.csv.now c.in_err-top.field-0.0 c.in_err-top.ensures.refused in
    search (rules, told)

pub returns-clause-accepted : goal.returns-clause-accepted
returns-clause-accepted c =
    accepted c.args.toml.now c.args.csv.now (table_view c.in_ok-top.top) c.in_ok-top.ensures.ok
    c.scenario_of.result c.scenario_of.ensures.sound c.scenario_of.ensures.values

pub returns-clause-refused : goal.returns-clause-refused
returns-clause-refused c =
    IfErr-weaker c.scenario_of.result _ _ (of_file c.args.toml.now c.args.csv.now (table_view c.in_ok-top.top) c.in_ok-top.ensures.ok)
    c.scenario_of.ensures.refused
