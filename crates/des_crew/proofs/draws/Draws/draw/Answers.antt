use Rattle.std.proofs.Common.{◌≡◌, ◌<◌, ◌≤◌, ◌∙◌, refl, ap, sym, arith, true}
use Rattle.des_parts.specs.Ordering.{count_of}
use Rattle.des_crew.specs.declared.draw_rule.View.{View}
use Rattle.des_crew.proofs.Steps.{end_is_told, has_drawn, number_tells_no_end}
use Rattle.des_crew.proofs.Knowledge.{all_drawn, drawn_only_at, moment_of}
use Rattle.des_crew.proofs.draws.Draws.draw.Goals as goal

pub returns-then-seat-clause-all_drawn : goal.returns-then-seat-clause-all_drawn
returns-then-seat-clause-all_drawn c word views moment = all_drawn _ _ word views moment c.if-seat.true

pub returns-then-found-from-clause-by_no_other : goal.returns-then-found-from-clause-by_no_other
returns-then-found-from-clause-by_no_other c word views moment =
    let below : c.step-found.result < c.args.self.now.parts = rw (← ap (λ d. d.parts) c.self.view_is) (omega arith) in
    let drawn : 0 < count_of c.step-found.result c.step-found.new.token.me.0.numbers = rw c.step-found.ensures.drawn
    (has_drawn c.args.self.now.parts c.step-found.result c.seat.inside.token.me.0 below) in
    drawn_only_at _ _ word views moment c.step-found.result drawn

pub returns-else-found-from-clause-all_drawn : goal.returns-else-found-from-clause-all_drawn
returns-else-found-from-clause-all_drawn c word views moment = all_drawn _ _ word views moment refl

pub returns-then-found-from-clause-moment : goal.returns-then-found-from-clause-moment
returns-then-found-from-clause-moment c open_end =
    let below : c.step-found.result < c.args.self.now.parts = rw (← ap (λ d. d.parts) c.self.view_is) (omega arith) in
    let v : View = c.step-found.new.token.me.0 in
    let same : v.met_end ≡ c.seat.inside.met_end = ap (λ m. m.0.met_end) c.step-found.ensures.drawn
    ∙ (number_tells_no_end c.args.self.now.parts c.step-found.result c.seat.inside.token.me.0 below ∙ c.seat.invariant.same_end) in
    moment_of c.args.self.now _ _ v c.step-found.ensures.moment c.step-found.ensures.same_seat.1
    (ap (λ b. record { numbers = v.numbers; allowance = v.allowance; met_end = b }) (sym same))

pub returns-else-found-from-clause-moment : goal.returns-else-found-from-clause-moment
returns-else-found-from-clause-moment c open_end =
    let past : c.args.self.now.parts ≤ c.step-found.result = rw (← ap (λ d. d.parts) c.self.view_is) (omega arith) in
    let v : View = c.step-found.new.token.me.0 in
    let same : v.met_end ≡ true = ap (λ m. m.0.met_end) c.step-found.ensures.drawn
    ∙ end_is_told c.args.self.now.parts c.step-found.result c.seat.inside.token.me.0 past in
    moment_of c.args.self.now _ _ v c.step-found.ensures.moment c.step-found.ensures.same_seat.1
    (ap (λ b. record { numbers = v.numbers; allowance = v.allowance; met_end = b }) (sym same))
