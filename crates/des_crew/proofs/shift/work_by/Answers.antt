use Rattle.std.proofs.Common.{◌∙◌, ap, rules}
use Rattle.des_crew.specs.Seats.{SeatState}
use Rattle.des_crew.proofs.Results.{of_same}
use Rattle.des_crew.proofs.shift.work_by.Goals as goal

pub loop-part-preserved : goal.loop-part-preserved
loop-part-preserved g c =
    let drawn = c.in-Some.ensures.drawn in
    let inv = c.loop-part.invariant in
    record {
      same_seat = record {
        table = ap (λ (s : SeatState). s.table) drawn ∙ inv.same_seat.table;
        allowance = ap (λ (s : SeatState). s.allowance) drawn ∙ inv.same_seat.allowance;
      };
      results = of_same (g.P.PartRunner.IsDone c.args.runner.now) _ _ c.add_result.new.list.items (ap (λ (s : SeatState). s.numbers) drawn)
          (c.in_default-add_result.ensures.results c.loop-part.seat.numbers inv.results);
      tools = c.add_result.ensures.tools;
    }

pub returns : goal.returns
returns g c = search rules
