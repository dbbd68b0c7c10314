use Rattle.std.proofs.Common.{◌≡◌, ◌==◌, ◌∙◌, ℕ, ◌+◌, ◌<◌, true, false, nat_lt, sym, arith}
use Rattle.std.proofs.Math.Nat.{mod-lt}
use Rattle.std.proofs.lemmas.Bool.Decides.{nat_tests}
use Rattle.std.specs.Prelude.{if◌then◌else◌}
use Rattle.des_stream.proofs.Drawn.{second_below}
use Rattle.des_stream.specs.Draws.{own_stream, second_number}
use Rattle.chord_scenario.specs.Draws.{drawn, extra, message_purpose}
use Rattle.chord_scenario.specs.Setup.{Setup}
use Rattle.chord_scenario.proofs.scenario.Scenario.message_fate.Goals as goal

-- a message takes at most the spread longer
extra_below : (sc : Setup) (n place number : ℕ) → extra sc n place number < sc.spread + 1
extra_below sc n place number =
    elim (sc.profile == 4) as (λ b. (if b then second_number sc.seed (own_stream n message_purpose) number (sc.spread + 1)
    else drawn sc n (place + 1) (sc.spread + 1)) < sc.spread + 1) [
      | true ↦ second_below sc.seed (own_stream n message_purpose) number (sc.spread + 1) (omega arith)
      | false ↦ mod-lt _ (omega arith)
    ]

no_extra : (sc : Setup) (n place number : ℕ) → sc.spread ≡ 0 → 0 ≡ extra sc n place number
no_extra sc n place number none = none_below (extra sc n place number) sc.spread none (extra_below sc n place number)
  where
    none_below : (x spread : ℕ) → spread ≡ 0 → x < spread + 1 → 0 ≡ x
    none_below x spread none less = omega (arith, none, less)

never_lost : (x loss : ℕ) → loss ≡ 0 → nat_lt x loss ≡ false
never_lost x loss none = grind (arith, nat_tests)

pub returns-then-spread-eq0-clause-lost : goal.returns-then-spread-eq0-clause-lost
returns-then-spread-eq0-clause-lost c = sym (never_lost _ _ (sym c.loss-loss.ensures ∙ c.if-loss-eq0.true))

pub returns-then-spread-eq0-clause-extra : goal.returns-then-spread-eq0-clause-extra
returns-then-spread-eq0-clause-extra c =
    no_extra c.args.self.now c.args.drawer.node c.args.drawer.place c.args.number (sym c.spread-spread.ensures ∙ c.if-spread-eq0.true)
