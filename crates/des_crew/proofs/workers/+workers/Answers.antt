use Rattle.std.proofs.Common.{rules}
use Rattle.std.proofs.lemmas.Result.{IfOk-weaker, IfErr-weaker}
use Rattle.des_crew.proofs.Gathering.{fault_of_either, shift_joined}
use Rattle.des_crew.specs.Shifts.{IsShift}
use Rattle.des_crew.proofs.workers.+workers.Goals as goal

pub scope-returns : goal.scope-returns
scope-returns g t c =
    let IsDone = g.P.PartRunner.IsDone c.captures.runner.now in
    let IsOver = g.P.PartRunner.IsOver c.captures.runner.now in
    let shift : IsShift IsDone IsOver c.captures.mine c.join.result = search (rules, c.join.ensures) in
    let others = c.run_workers-others.ensures in
    record {
      ok = IfOk-weaker _ _ _ (λ whole j. shift_joined IsDone IsOver _ _ _ _ whole others.ok shift j) c.gather.ensures.ok;
      fault = IfErr-weaker _ _ _ (λ fault which. fault_of_either IsDone IsOver c.captures.mine _ c.join.result fault others.fault shift which)
          c.gather.ensures.fault;
    }
