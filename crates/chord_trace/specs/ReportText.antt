-- The text of a report.
use Rattle.std.specs.Prelude.{ℕ, ◌==◌, List, [], ◌∷◌, ◌++◌, codes, decimal, nat_lt, if◌then◌else◌}
use Rattle.std.specs.List.{flat_map}
use Rattle.chord_trace.specs.declared.report.Report.{Report}

-- the names and numbers that every report has
abbrev pub numbers_of : Report → List (List ℕ × ℕ)
numbers_of r =
    (codes "events", r.events) ∷ (codes "members", r.lines.members) ∷ (codes "join-failed", r.lines.join_failed)
    ∷ (codes "crashes", r.lines.crashes) ∷ (codes "stranded", r.lines.stranded) ∷ (codes "drops", r.lines.drops)
    ∷ (codes "late", r.lines.late) ∷ (codes "timeouts", r.lines.timeouts) ∷ (codes "lookups", r.lines.lookups)
    ∷ (codes "found", r.lines.found) ∷ (codes "lost", r.lines.lost) ∷ (codes "busy", r.lines.busy)
    ∷ (codes "ignored", r.lines.ignored) ∷ (codes "unfinished", r.unfinished)
    ∷ (codes "hops-sum", r.hops_sum) ∷ (codes "hops-greatest", r.hops_greatest)
    ∷ (codes "us-sum", r.us_sum) ∷ (codes "us-least", r.us_least)
    ∷ (codes "us-median", r.us_median) ∷ (codes "us-greatest", r.us_greatest)
    ∷ (codes "audits", r.audits.audits) ∷ (codes "ringless", r.audits.ringless)
    ∷ (codes "unordered", r.audits.unordered) ∷ (codes "insufficient", r.audits.insufficient) ∷ []

-- the names and numbers that reports have from the second profile on
abbrev pub network_numbers_of : Report → List (List ℕ × ℕ)
network_numbers_of r = (codes "losses", r.lines.losses) ∷ []

-- the names and numbers that only the report of the extended profile has
abbrev pub extended_numbers_of : Report → List (List ℕ × ℕ)
extended_numbers_of r =
    (codes "again", r.lines.again) ∷ (codes "forgotten", r.lines.forgotten) ∷ (codes "leaves", r.lines.leaves)
    ∷ (codes "rescues", r.lines.rescues) ∷ (codes "creates", r.lines.creates) ∷ (codes "timeouts-sum", r.timeouts_sum) ∷ []

-- a line for each name and its number
abbrev pub number_text : List (List ℕ × ℕ) → List ℕ
number_text = flat_map (λ p. p.0 ++ codes " " ++ decimal p.1 ++ codes "\n")

-- the text of a report, a line for each of its numbers: the first profile has no losses, and only the extended one has
-- its own numbers
abbrev pub report_text : Report → List ℕ
report_text r =
    number_text (numbers_of r)
    ++ number_text (if nat_lt 1 r.profile then network_numbers_of r else [])
    ++ number_text (if r.profile == 4 then extended_numbers_of r else [])
