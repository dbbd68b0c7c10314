use Rattle.std.proofs.Common.{arith, ℕ, ◌^◌, ◌-◌, ◌%◌, ◌*◌, ◌+◌, ◌≡◌, ◌<◌, ◌≤◌, ◌∙◌, subst, sym}
use Rattle.chord_circle.proofs.Powers.{way_within, way_shifted, finger-ahead, finger-past, finger-within}
use Rattle.chord_circle.proofs.circle.Circle.add_power.Goals as goal

pub overflow_sub-last : goal.overflow_sub-last
overflow_sub-last c =
    let view : c.self.inside.bits ≡ c.args.self.now = c.self.view_is in
    omega (
      arith,
      way_within c.args.self.now c.args.i c.requires.first c.requires.last,
      way_shifted c.args.self.now c.args.i c.requires.first
          c.requires.last (omega arith),
      subst (λ (n : ℕ). c.self.inside.last + 1 ≡ 2 ^ n) view c.self.invariant.2,
    )

pub returns-then-raw-last-clause-value : goal.returns-then-raw-last-clause-value
returns-then-raw-last-clause-value c =
    let view : c.self.inside.bits ≡ c.args.self.now = c.self.view_is in
    let top : c.self.inside.last + 1 ≡ 2 ^ c.args.self.now = subst (λ (n : ℕ). c.self.inside.last + 1 ≡ 2 ^ n) view c.self.invariant.2 in
    let way : 1 * 2 ^ (c.args.i - 1) % 340282366920938463463374607431768211456 ≡ 2 ^ (c.args.i - 1) = way_shifted c.args.self.now c.args.i c.requires.first
    c.requires.last (omega arith) in
    let inside : 2 ^ (c.args.i - 1) < 2 ^ c.args.self.now = way_within c.args.self.now c.args.i c.requires.first c.requires.last in
    let ahead : c.args.a + 2 ^ (c.args.i - 1) ≤ c.self.inside.last = omega arith in
    let sum : c.of.result ≡ c.args.a + 2 ^ (c.args.i - 1) = omega arith in
    sum ∙ finger-ahead c.args.self.now c.args.a c.args.i c.self.inside.last top ahead

pub returns-then-raw-last-clause-on_circle : goal.returns-then-raw-last-clause-on_circle
returns-then-raw-last-clause-on_circle c =
    subst (λ (n : ℕ). n < 2 ^ c.args.self.now) (sym (returns-then-raw-last-clause-value c)) (finger-within c.args.self.now c.args.a c.args.i)

pub returns-else-raw-last-clause-value : goal.returns-else-raw-last-clause-value
returns-else-raw-last-clause-value c =
    let view : c.self.inside.bits ≡ c.args.self.now = c.self.view_is in
    let top : c.self.inside.last + 1 ≡ 2 ^ c.args.self.now = subst (λ (n : ℕ). c.self.inside.last + 1 ≡ 2 ^ n) view c.self.invariant.2 in
    let way : 1 * 2 ^ (c.args.i - 1) % 340282366920938463463374607431768211456 ≡ 2 ^ (c.args.i - 1) = way_shifted c.args.self.now c.args.i c.requires.first
    c.requires.last (omega arith) in
    let inside : 2 ^ (c.args.i - 1) < 2 ^ c.args.self.now = way_within c.args.self.now c.args.i c.requires.first c.requires.last in
    let at : c.args.a ≤ c.self.inside.last = omega arith in
    let past : c.self.inside.last < c.args.a + 2 ^ (c.args.i - 1) = omega arith in
    let rest : c.of-else-raw-last.result ≡ 2 ^ (c.args.i - 1) - (c.self.inside.last - c.args.a) - 1 = omega arith in
    rest ∙ finger-past c.args.self.now c.args.a c.args.i c.self.inside.last top at (omega arith) past

pub returns-else-raw-last-clause-on_circle : goal.returns-else-raw-last-clause-on_circle
returns-else-raw-last-clause-on_circle c =
    subst (λ (n : ℕ). n < 2 ^ c.args.self.now) (sym (returns-else-raw-last-clause-value c)) (finger-within c.args.self.now c.args.a c.args.i)
