use Rattle.std.proofs.Common.{◌∙◌}
use Rattle.des_team.proofs.window_run.finish_part.Goals as goal

pub run-requires : goal.run-requires
run-requires g c = c.in-Some.ensures.order.order

pub returns-in-Some-clause-of : goal.returns-in-Some-clause-of
returns-in-Some-clause-of g c =
    let order = c.in-Some.ensures.order in
    record {
      part_is = c.run.ensures.part ∙ order.part_is;
      count_is = c.run.ensures.count ∙ order.count_is;
      horizon_is = c.run.ensures.horizon ∙ order.horizon_is;
      done = c.run.ensures.done;
    }

pub returns-in-Some-clause-can_send : goal.returns-in-Some-clause-can_send
returns-in-Some-clause-can_send g c = c.take_out.ensures.rest

pub returns-in-Some-clause-others : goal.returns-in-Some-clause-others
returns-in-Some-clause-others g c = c.take_out.ensures.others

pub returns-then-worker-eq0-clause-can_send : goal.returns-then-worker-eq0-clause-can_send
returns-then-worker-eq0-clause-can_send g c = c.take_out.ensures.rest

pub returns-then-worker-eq0-clause-others : goal.returns-then-worker-eq0-clause-others
returns-then-worker-eq0-clause-others g c = c.take_out.ensures.others

pub returns-clause-can_send : goal.returns-clause-can_send
returns-clause-can_send g c = c.take_out.ensures.rest

pub returns-clause-others : goal.returns-clause-others
returns-clause-others g c = c.take_out.ensures.others
