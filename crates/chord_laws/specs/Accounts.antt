-- Each lookup that a user begins is found, lost, in progress or cut off, and no report leaves one out.
use Rattle.std.specs.Prelude.{ℕ, zero, suc, ◌≡◌, ◌==◌, ◌+◌, List, [], ◌∷◌, ◌++◌, if◌then◌else◌}
use Rattle.chord_event.specs.declared.body.Body.{Body}
use Rattle.des_event.specs.declared.event.Event.{Event}
use Rattle.chord_event.specs.declared.line.Line.{Line}
use Rattle.des_model.specs.Histories.{full_history, state}
use Rattle.chord_ops.specs.Accounts.{begun, cut_off, found, in_progress, lost}
use Rattle.chord_ops.specs.Rules.{effect}
use Rattle.chord_scenario.specs.declared.scenario.Scenario.{Scenario}
use Rattle.chord_scenario.specs.World.{node_count}
use Rattle.chord_trace.specs.declared.report.Report.{Report}
use Rattle.chord_machine.specs.Chord.{chord}
use Rattle.chord_laws.specs.Ongoing.{Always}
use Rattle.chord_machine.specs.Run.{IsReport}

-- the lines that node n leaves along a history
abbrev pub lines_along : Scenario → List (Event Body) → (n : ℕ) → List Line
lines_along sc [] n = []
lines_along sc (e ∷ h) n =
    let lines = lines_along sc h n in
    if e.target == n then lines ++ (effect sc (state (chord sc) h n) e).lines else lines

-- the users' lookups that node n cuts off along a history, each time that it goes down
abbrev pub cut_off_along : Scenario → List (Event Body) → (n : ℕ) → ℕ
cut_off_along sc [] n = 0
cut_off_along sc (e ∷ h) n =
    let before = state (chord sc) h n in
    let cut = cut_off_along sc h n in
    if e.target == n then cut + cut_off before (effect sc before e).state else cut

-- each user's lookup that a node has begun is found, lost, in progress or cut off
abbrev pub LookupsAreAccountedFor : Scenario → Type 0
LookupsAreAccountedFor sc = Always sc (λ h n s.
    let lines = lines_along sc h n in
    begun lines ≡ found lines + lost lines + in_progress s + cut_off_along sc h n)

-- the sum of a number of each node, over the first nodes
abbrev pub over_nodes : (nodes : ℕ) → (ℕ → ℕ) → ℕ
over_nodes zero f = 0
over_nodes (suc n) f = over_nodes n f + f n

-- the users' lookups of all nodes that are in progress after a history, or were cut off along it
abbrev pub unended : Scenario → List (Event Body) → ℕ
unended sc h = over_nodes (node_count sc) (λ n. in_progress (state (chord sc) h n) + cut_off_along sc h n)

-- the lookups that a report counts as found, as lost and as unfinished are those that it counts in all
abbrev pub ReportsAddUp : Scenario → Type 0
ReportsAddUp sc = (report : Report) → IsReport sc report → report.lines.found + report.lines.lost + report.unfinished ≡ report.lines.lookups

-- the lookups that a report counts as unfinished are in progress at the end of the run, or were cut off
abbrev pub UnfinishedAreUnended : Scenario → Type 0
UnfinishedAreUnended sc = (report : Report) → IsReport sc report → report.unfinished ≡ unended sc (full_history (chord sc))
