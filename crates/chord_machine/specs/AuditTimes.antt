-- When audits are made.
use Rattle.std.specs.Prelude.{ℕ, zero, suc, ◌≢◌, ◌+◌, ◌-◌, ◌*◌, ◌/◌, ◌≤◌, List, [], ◌∷◌, ◌++◌}
use Rattle.std.specs.List.{All, AllPairs}
use Rattle.chord_scenario.specs.declared.scenario.Scenario.{Scenario}
use Rattle.des_machine.specs.Times.{IsAscending}

-- the first n positive multiples of a period
abbrev pub multiples : (period n : ℕ) → List ℕ
multiples period zero = []
multiples period (suc n) = multiples period n ++ (n + 1) * period ∷ []

-- there is an audit at each positive multiple of the period below the duration, and at the duration
abbrev pub audit_times : Scenario → List ℕ
audit_times sc = multiples sc.audit ((sc.duration - 1) / sc.audit) ++ sc.duration ∷ []

-- the most audits of a run: a duration has at most 1,000,000 whole periods of the audits
abbrev pub most_audits : ℕ
most_audits = 1000001

-- the audits come one after another, none twice, and none after the end
pub record AreAuditsInTime (sc : Scenario) : Type 0 where
  pub ascending : IsAscending (audit_times sc)
  pub distinct : AllPairs (λ (t u : ℕ). t ≢ u) (audit_times sc)
  pub in_time : All (λ t. t ≤ sc.duration) (audit_times sc)
