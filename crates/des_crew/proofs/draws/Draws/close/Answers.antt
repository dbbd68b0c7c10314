use Rattle.std.proofs.Common.{◌≡◌, ℕ, List, ap, ◌∙◌, subst}
use mathlib.Core.Option.{some}
use lib.ListN.{get_elem?}
use Rattle.des_crew.specs.declared.draw_rule.View.{View}
use Rattle.des_crew.specs.Draws.{IsKept}
use Rattle.des_crew.specs.Seats.{Counter, SeatState, view_of}
use Rattle.des_crew.proofs.Knowledge.{whole_has_each}
use Rattle.des_crew.proofs.Lists.{slice_get-from_get_elem}
use Rattle.des_crew.proofs.draws.Draws.close.Goals as goal

-- the last state of the table is a moment of the seat
pub returns-clause-kept : goal.returns-clause-kept
returns-clause-kept c =
    let last = c.close_with.ensures.values.2 in
    let word : ℕ = last.1.0.0 in
    let views : List View = last.0.views in
    let seats : ℕ = c.self.inside.table.shared.key.seats in
    let kept : IsKept c.self.inside.parts seats word views = subst (λ (n : ℕ). IsKept n seats word views) c.self.invariant.same_parts last.1.0.2 in
    let v : View = c.seat.inside.token.me.0 in
    let same : v ≡ record {
      numbers = v.numbers;
      allowance = v.allowance;
      met_end = c.seat.inside.met_end;
    } = ap (λ b. record { numbers = v.numbers; allowance = v.allowance; met_end = b }) c.seat.invariant.same_end in (
      word,
      views,
      record {
        kept = subst (λ (d : Counter). IsKept d.parts d.seats word views) c.self.view_is kept;
        has_view = slice_get-from_get_elem views c.args.seat.place (view_of c.args.seat)
            (subst (λ (s : SeatState). get_elem? views s.place ≡ some (view_of s)) c.seat.view_is (last.1.1 ∙ ap some same));
      },
    )

pub returns-clause-whole : goal.returns-clause-whole
returns-clause-whole c whole ended = let moment = returns-clause-kept c in whole_has_each _ _ _ _ moment.2 ended whole
