-- The nodes through which a node joins are the scenario's.
use Rattle.std.proofs.Common.{◌==◌, ℕ, ◌<◌, true, false, not, List, Option, Some, None, option_map, unwrap_or, refl}
use Rattle.std.specs.Prelude.{IfSome, IsSome, if◌then◌else◌}
use Rattle.chord_scenario.specs.declared.scenario.Scenario.{Scenario}
use Rattle.chord_scenario.specs.World.{node_count}
use Rattle.chord_node.specs.declared.state.NodeState.{NodeState}
use Rattle.chord_node.specs.Bootstraps.{first_other, next_bootstrap}
use Rattle.chord_node.specs.Invariant.{AllNodes}
use Rattle.chord_node.proofs.Found.{find-has, next_has}
use Rattle.chord_ops.specs.Procedures.{kept_via, other_via, via_after}

-- what is there, or n itself
unwrap_or-has : (P : ℕ → Type 0) (o : Option ℕ) (n : ℕ) → IfSome o P → P n → P (unwrap_or o n)
unwrap_or-has P None n h own = own
unwrap_or-has P (Some x) n h own = h

mapped : (P : ℕ → Type 0) (f : ℕ → ℕ) (o : Option ℕ) → ((x : ℕ) → P x → P (f x)) → IfSome o P → IfSome (option_map f o) P
mapped P f None keeps h = tt
mapped P f (Some x) keeps h = keeps x h

module _ (sc : Scenario) (all : AllNodes sc sc.bootstraps) where
  abbrev Known : ℕ → Type 0
  Known node = node < node_count sc

  pub after_known : (n via : ℕ) → Known via → Known (via_after sc n via)
  after_known n via h = unwrap_or-has Known (next_bootstrap sc n via) via (next_has sc Known n via all) h

  pub moved_known : (n : ℕ) (via : Option ℕ) → IfSome via Known → IfSome (option_map (via_after sc n) via) Known
  moved_known n via h = mapped Known (via_after sc n) via (after_known n) h

  pub other_known : (n via : ℕ) → Known via → Known (other_via sc n via)
  other_known n via h =
      elim (via == n) as (λ b. (if b then via_after sc n via else via) < node_count sc) [
        | true ↦ after_known n via h
        | false ↦ h
      ]

  kept_known : (n via : ℕ) (succ : List ℕ) → Known n → Known via → AllNodes sc succ → Known (kept_via sc n via succ)
  kept_known n via succ own h known =
      elim (other_via sc n via == n) as (λ b. (if b then unwrap_or (first_other n succ) n else other_via sc n via) < node_count sc) [
        | true ↦ unwrap_or-has Known (first_other n succ) n (find-has Known (λ x. not (x == n)) succ known) own
        | false ↦ other_known n via h
      ]

  pub left_known : (s : NodeState) → Known s.me → IfSome s.via Known → AllNodes sc s.succ → IfSome (option_map (λ via. kept_via sc s.me via s.succ) s.via) Known
  left_known s own h succ = mapped Known (λ via. kept_via sc s.me via s.succ) s.via (λ via known. kept_known s.me via s.succ own known succ) h

pub moved_some : (sc : Scenario) (n : ℕ) (via : Option ℕ) → IsSome via → IsSome (option_map (via_after sc n) via)
moved_some sc n None h = h
moved_some sc n (Some via) h = refl
