use Rattle.std.proofs.Common.{sym, ap, ◌∙◌, arith}
use Rattle.des_crew.proofs.Steps.{join_allowed}
use Rattle.des_crew.proofs.draws.Draws.join.Goals as goal

pub join_seat-requires : goal.join_seat-requires
join_seat-requires c =
    let draws = ap (λ d. d.table) c.self.view_is in
    let seat = ap (λ s. s.table) c.seat.view_is ∙ (c.requires.of_this ∙ sym draws) in
    let other = ap (λ s. s.table) c.other.view_is ∙ (c.requires.other ∙ sym draws) in (
      seat,
      other,
      c.other.invariant.no_slot,
      omega arith,
      join_allowed c.self.inside.table.shared.key c.seat.inside.token.id c.seat.inside.token.me.0
          c.other.inside.token.id c.other.inside.token.me.0,
    )
