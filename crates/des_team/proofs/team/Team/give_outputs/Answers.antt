use Rattle.std.proofs.Common.{◌<◌, ◌∙◌, ap, arith, length}
use Rattle.std.specs.Vec.{with_item}
use Rattle.std.proofs.lemmas.List.{length-set}
use Rattle.des_team.proofs.TeamOrders.{cleared_one}
use Rattle.des_team.specs.declared.team.Team.{Team}
use Rattle.des_team.proofs.team.Team.give_outputs.Goals as goal

pub loop-output-preserved : goal.loop-output-preserved
loop-output-preserved g c =
    let inside : c.loop-output.at < length c.loop-output.self.parcels.items = omega (
      arith,
      c.loop-output.invariant.place,
      c.loop-output.invariant.long,
      c.requires,
      ap length c.in-Some.ensures.steps.0,
    ) in
    record {
      can_next = tt;
      is_finite = tt;
      place = omega (arith, c.loop-output.invariant.place, ap length c.in-Some.ensures.steps.0);
      cleared = cleared_one c.loop-output.at c.args.self.now.parcels.items c.loop-output.self.parcels.items c.index_mut.result.now c.give_output.new.place
          c.index_mut.ensures.value inside c.give_output.ensures c.loop-output.invariant.cleared;
      long = length-set c.loop-output.self.parcels.items c.loop-output.at c.give_output.new.place ∙ c.loop-output.invariant.long;
      others = ap (λ (t : Team _ _ _ _ _). record t { parcels = with_item c.loop-output.self.parcels c.loop-output.at c.give_output.new.place })
          c.loop-output.invariant.others;
    }
