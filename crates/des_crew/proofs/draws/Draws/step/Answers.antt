use Rattle.std.proofs.Common.{◌≡◌, ◌+◌, ◌^◌, ◌<◌, sym, ap, ◌∙◌, arith}
use Rattle.des_crew.proofs.Steps.{draw_allowed}
use Rattle.des_crew.proofs.draws.Draws.step.Goals as goal

pub fetch_add-requires : goal.fetch_add-requires
fetch_add-requires g c =
    let here = c.self.invariant in
    let table = c.requires.token.0 ∙ sym (ap (λ d. d.table) c.self.view_is) in
    let fits : c.self.inside.table.shared.key.parts + c.self.inside.table.shared.key.seats < 2 ^ 64 = omega arith in
    let parts : g.P.DrawOf.parts ≡ c.self.inside.table.shared.key.parts = c.requires.of.0 ∙ (sym (ap (λ d. d.parts) c.self.view_is) ∙ sym here.same_parts) in
    let seats : g.P.DrawOf.seats ≡ c.self.inside.table.shared.key.seats = c.requires.of.1 ∙ sym (ap (λ d. d.seats) c.self.view_is) in (
      table,
      omega arith,
      rw (parts, seats, c.requires.of.2) (draw_allowed c.self.inside.table.shared.key c.self.inside.table.shared.table_id.slots c.args.token.now.id
          c.args.token.now.me c.requires.token.1 c.requires.token.2 fits),
    )
