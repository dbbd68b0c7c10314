use Rattle.std.proofs.Common.{◌≤◌, sym, ap, ◌∙◌, arith, rules}
use Rattle.des_crew.proofs.Steps.{split_allowed}
use Rattle.des_crew.proofs.draws.Draws.split.Goals as goal

pub split_seat-token-requires : goal.split_seat-token-requires
split_seat-token-requires c =
    let seat = ap (λ s. s.table) c.seat.view_is ∙ (c.requires.of_this ∙ sym (ap (λ d. d.table) c.self.view_is)) in
    let enough : 2 ≤ c.seat.inside.token.me.0.allowance = rw (ap (λ s. s.allowance) c.seat.view_is) c.requires.enough in
    (seat, omega arith, split_allowed c.self.inside.table.shared.key c.seat.inside.token.id c.seat.inside.token.me.0 enough)

pub returns-clause-given : goal.returns-clause-given
returns-clause-given c = search rules

pub returns-clause-new : goal.returns-clause-new
returns-clause-new c = search rules
