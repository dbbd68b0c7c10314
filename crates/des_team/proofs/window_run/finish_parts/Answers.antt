use Rattle.std.proofs.Common.{length, length-append, [], ◌∷◌, List, ap, sym, subst, arith, rules}
use Rattle.des_team.specs.Chronicles.{chronicle}
use Rattle.des_team.specs.declared.part.Done.{Done}
use Rattle.des_team.specs.Orders.{AreResultsFrom}
use Rattle.des_team.proofs.Results.{push_result}
use Rattle.des_team.proofs.window_run.finish_parts.Goals as goal

pub loop-part-preserved : goal.loop-part-preserved
loop-part-preserved g c =
    let ch = (chronicle (g.M.Machine.model c.args.course.now.machine.now) (g.S.Scribe.text c.args.course.now.machine.now)
    (g.S.Scribe.HasCounted c.args.course.now.machine.now)) in
    let l = c.args.course.now.layout.now in
    let old = c.loop-part.results.items in
    let f = c.in_ok-left.left in
    record {
      long = omega (arith, ap length c.in_ok-push.ensures.items, length-append old (f ∷ []), c.loop-part.invariant.long);
      each = subst (λ (fs : List (Done _ _ _ _ _)). AreResultsFrom ch l c.args.team.now.count c.args.team.now.window.horizon 0 fs)
          (sym c.in_ok-push.ensures.items)
          (push_result ch l c.args.team.now.count c.args.team.now.window.horizon 0 c.loop-part.part old f c.loop-part.invariant.each
          (omega (arith, c.loop-part.invariant.long)) (search (rules, c.in_ok-left.ensures.of)));
      can_send = search rules;
      others = search rules;
    }
