use Rattle.std.proofs.Common.{◌≡◌, ◌||◌, None, true, ap, ◌∙◌, sym, arith}
use Rattle.std.proofs.lemmas.Grind.{common_steps}
use Rattle.chord_examples.proofs.tests.crews.draw_in_turn.Goals as goal

pub returns-clause-each_once : goal.returns-clause-each_once
returns-clause-each_once c none =
    let last : c.draw-e.result ≡ None = cc in
    let ended = rw last at c.draw-e.ensures.ended in
    let met : c.join.new.seat.met_end ≡ true = ap (λ s. s.met_end) c.join.ensures ∙ ap (λ s. s.met_end || c.draw-d.new.seat.met_end) ended in
    let all : c.join.new.seat.allowance ≡ c.in_ok-draws.draws.seats = grind (arith, common_steps) in
    let each = c.close.ensures.whole all met in
    rw (c.of-seat.ensures, sym c.in_ok-draws.ensures.draws.0) each
