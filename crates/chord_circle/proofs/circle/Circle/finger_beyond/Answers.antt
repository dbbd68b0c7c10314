use Rattle.std.proofs.Common.{ℕ, ◌≤◌, arith, subst, sym}
use Rattle.std.proofs.Math.Nat.{mod-lt}
use Rattle.std.proofs.lemmas.Nat.{pow_pos}
use Rattle.chord_circle.specs.Circle.{distance, digit_count}
use Rattle.chord_circle.proofs.Digits.{digits_most}
use Rattle.chord_circle.proofs.circle.Circle.finger_beyond.Goals as goal

pub returns-clause-greatest : goal.returns-clause-greatest
returns-clause-greatest c =
    let bits : ℕ = c.args.self.now in
    let most : bits ≤ 128 = omega (arith, c.self.view_is, c.self.invariant.1) in
    let way : ℕ = distance bits c.args.a c.args.b in
    let digits : digit_count way ≤ bits = digits_most bits way most (mod-lt _ (pow_pos bits)) in
    let count : c.digit_count-digits.result ≤ bits = subst (λ (n : ℕ). n ≤ bits) (sym (rw c.distance.ensures at c.digit_count-digits.ensures)) digits in
    omega (arith, c.max.ensures, count, c.self.view_is, c.self.invariant.0)
