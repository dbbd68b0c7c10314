use Rattle.std.proofs.Common.{◌*◌, ◌<◌, ℕ, zero, suc, arith}
use Rattle.chord_scenario.proofs.Roots.{newton_above, newton_below, root_one, square_below}
use Rattle.chord_scenario.proofs.coordinates.root_from.Goals as goal

-- a number whose square is above another is not 0
some : (n x : ℕ) → n < x * x → 0 < x
some n zero above = absurd (omega arith)
some n (suc x) above = omega arith

pub overflow_mul-root : goal.overflow_mul-root
overflow_mul-root c = omega (arith, square_below c.loop-root.root 1000000000 c.loop-root.invariant.small)

pub loop-root-init : goal.loop-root-init
loop-root-init c = record { above = c.requires.start; small = c.requires.small }

pub loop-root-smaller : goal.loop-root-smaller
loop-root-smaller c = newton_below c.args.square c.loop-root.root c.loop-root-test.true

pub loop-root-preserved : goal.loop-root-preserved
loop-root-preserved c =
    let less = newton_below c.args.square c.loop-root.root c.loop-root-test.true in
    record {
      above = newton_above c.args.square c.loop-root.root (some c.args.square c.loop-root.root c.loop-root-test.true);
      small = omega (arith, less, c.loop-root.invariant.small);
    }

pub returns-clause-value : goal.returns-clause-value
returns-clause-value c =
    root_one c.args.square c.loop-root.root (record { square = c.loop-root-test.false; next_square = c.loop-root.invariant.above })

pub returns-clause-is_root : goal.returns-clause-is_root
returns-clause-is_root c = record { square = c.loop-root-test.false; next_square = c.loop-root.invariant.above }
