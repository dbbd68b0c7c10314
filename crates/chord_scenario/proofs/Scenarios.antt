-- When a scenario is that of a file, and the fault of two texts.
use Rattle.std.proofs.Common.{◌≡◌, ◌≢◌, slice_get, ap, ℕ, List, [], Some, None, ne_eqb}
use Rattle.std.specs.Option.{option_or, option_map_or}
use Rattle.std.proofs.lemmas.Option.{slice_get_within}
use Rattle.toml.specs.Data.{Members}
use Rattle.chord_scenario.specs.declared.setting.Node.{Node}
use Rattle.chord_scenario.specs.Setup.{Setup}
use Rattle.chord_scenario.specs.declared.fault.ScenarioFault.TheVariants.{NotToml}
use Rattle.chord_scenario.specs.Sections.{Section}
use Rattle.chord_scenario.specs.Rows.{Row, rows_of}
use Rattle.chord_scenario.specs.Latencies.{HasLatencies}
use Rattle.chord_scenario.specs.Faults.{bad_name, same_name, same_id, bad_latency_row, first_answer, latency_by_rows, document, file_fault, scenario_fault}
use Rattle.chord_scenario.specs.Groups.{node_questions}
use Rattle.chord_scenario.specs.World.{latency}
use Rattle.chord_scenario.proofs.DistinctNames.{or_none}
use Rattle.chord_scenario.proofs.WindowCheckLemmas.{latency_in-between, at_place}

pub node_questions-distinct : (ss : List Section) (nodes : List Node) → first_answer (node_questions ss nodes) ≡ None → same_name nodes ≡ None
node_questions-distinct ss nodes h =
    let rest = (or_none (bad_name ss) (option_or (same_name nodes) (option_or (same_id nodes) None)) h).1 in
    (or_none (same_name nodes) (option_or (same_id nodes) None) rest).0

pub node_questions-idents : (ss : List Section) (nodes : List Node) → first_answer (node_questions ss nodes) ≡ None → same_id nodes ≡ None
node_questions-idents ss nodes h =
    let rest = (or_none (bad_name ss) (option_or (same_name nodes) (option_or (same_id nodes) None)) h).1 in
    let last = (or_none (same_name nodes) (option_or (same_id nodes) None) rest).1 in
    (or_none (same_id nodes) None last).0

-- the latency of two different nodes without coordinates is that of the rows
pub latency-between : (rows : List Row) (sc : Setup) (i j : ℕ) (x y : Node) → HasLatencies sc.nodes rows sc.latencies → bad_latency_row rows ≡ None
    → same_name sc.nodes ≡ None → sc.coordinates ≡ []
    → i ≢ j → slice_get sc.nodes i ≡ Some x → slice_get sc.nodes j ≡ Some y → latency sc i j ≡ latency_by_rows sc.latency rows x y
unfolding latency
latency-between rows sc i j x y has good distinct none apart hx hy =
    let wi = slice_get_within sc.nodes i x hx in
    let wj = slice_get_within sc.nodes j y hy in
    rw (ne_eqb i j apart, none) (latency_in-between sc.nodes rows sc.latencies sc.latency i j x y has good distinct wi wj (at_place sc.nodes i x hx wi)
    (at_place sc.nodes j y hy wj))

pub scenario_fault-not : (toml csv : List ℕ) → document toml ≡ None → scenario_fault toml csv ≡ Some NotToml
unfolding scenario_fault
scenario_fault-not toml csv h = ap (λ d. option_map_or (λ top. file_fault top (rows_of csv)) d (Some NotToml)) h

pub scenario_fault-file : (toml csv : List ℕ) (top : Members) → document toml ≡ Some top → scenario_fault toml csv ≡ file_fault top (rows_of csv)
unfolding scenario_fault
scenario_fault-file toml csv top h = ap (λ d. option_map_or (λ top. file_fault top (rows_of csv)) d (Some NotToml)) h
