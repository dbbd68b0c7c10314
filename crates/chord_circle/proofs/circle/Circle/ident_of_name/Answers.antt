use Rattle.std.proofs.Common.{ℕ, ◌≡◌, ◌<◌, ◌^◌, ◌/◌, ◌-◌, subst, sym}
use Rattle.chord_circle.proofs.Powers.{leading_within}
use Rattle.chord_circle.proofs.circle.Circle.ident_of_name.Goals as goal

pub returns-clause-on_circle : goal.returns-clause-on_circle
returns-clause-on_circle c =
    let view : c.self.inside.bits ≡ c.args.self.now = c.self.view_is in
    let within : c.from_be_bytes-leading.result / 2 ^ (128 - c.self.inside.bits) < 2 ^ c.self.inside.bits = leading_within c.self.inside.bits
    c.from_be_bytes-leading.result c.self.invariant.1 c.from_be_bytes-leading.type_inv in
    subst (λ (n : ℕ). c.of.result < 2 ^ n) view (subst (λ (n : ℕ). n < 2 ^ c.self.inside.bits) (sym c.of.ensures) within)
