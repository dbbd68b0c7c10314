-- The rumour can be run.
use Rattle.std.proofs.Common.{ℕ, zero, ◌+◌, ◌*◌, ◌<◌, ◌≤◌, Bool, true, false, [], ◌∷◌, length, arith}
use Rattle.std.specs.Prelude.{if◌then◌else◌}
use Rattle.std.proofs.Math.Nat.{mod-lt}
use Rattle.std.proofs.lemmas.List.Elements.{All-from_recursion, All-nil}
use Rattle.std.specs.List.{All}
use Rattle.des_protocol.specs.declared.telling.Telling.{Telling}
use Rattle.des_protocol.specs.Laws.{IsDelayed, IsFitTelling, IsRunnable}
use Rattle.rumour_rules.specs.Range.{IsInRange}
use Rattle.rumour_rules.specs.Rules.{first_telling, hears_again, hears_first, outcome_of, rumour, telling}
use Rattle.rumour_rules.specs.Sound.{IsFit, IsSound}
use Rattle.rumour_rules.specs.declared.settings.Settings.{Settings}
use Rattle.rumour_rules.specs.declared.rules.Node.{Node}
use Rattle.rumour_rules.specs.declared.rules.Rumour.{Rumour}

-- what holds of both tellings of a node holds of all that it tells, by both rules
tells : (p : Settings) (P : Telling Rumour → Type 0) (n : ℕ) → ((place : ℕ) → P (telling p n place))
    → (time : ℕ) (s : Node) → All P (outcome_of p s n time).tellings
tells p P n each time s = go s.heard
  where
    go : (heard : Bool) → All P (if heard then hears_again s n time else hears_first p n time).tellings
    go true = All-nil P
    go false = All-from_recursion P (telling p n 1 ∷ telling p n 2 ∷ []) (each 1, (each 2, tt))

few_told : (p : Settings) (n time : ℕ) (s : Node) → length (outcome_of p s n time).tellings ≤ 2
few_told p n time s = go s.heard
  where
    go : (heard : Bool) → length (if heard then hears_again s n time else hears_first p n time).tellings ≤ 2
    go true = omega arith
    go false = omega arith

pub is_runnable : (p : Settings) → IsInRange p → IsRunnable (rumour p) IsSound IsFit 2
is_runnable p ranges = record {
  looks_ahead = omega (arith, ranges.delay_least);
  starts_sound = λ n l. tt;
  starts_fit = All-from_recursion (IsFitTelling (rumour p) IsFit) (first_telling ∷ []) ((some, tt), tt);
  keeps_sound = λ n time s body l sound fit. tt;
  tells_fit = λ n time s body l sound fit. tells p (IsFitTelling (rumour p) IsFit) n (λ place. (mod-lt (2 * n + place) some, tt)) time s;
  tells_later = λ n time s body l sound fit. tells p (IsDelayed (rumour p) n) n (λ place. delayed n place) time s;
  tells_few = λ n time s body l sound fit. few_told p n time s;
  few_nodes = omega (arith, ranges.nodes_most);
  few_told = omega (arith, ranges.max_events_most);
  few = omega (arith, ranges.max_events_most);
  ascending = tt;
  in_time = All-nil (λ t. t ≤ p.duration);
}
  where
    some : zero < p.nodes
    some = omega (arith, ranges.nodes_least)

    delayed : (n place : ℕ) → IsDelayed (rumour p) n (telling p n place)
    delayed n place = record {
      later = omega (arith, ranges.delay_least);
      ahead = λ other. omega arith;
    }
