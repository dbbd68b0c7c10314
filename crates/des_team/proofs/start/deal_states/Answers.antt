use Rattle.std.proofs.Common.{◌≡◌, ◌+◌, ◌<◌, ◌∙◌, ap, arith, length, set, get_or, subst, sym}
use Rattle.std.specs.Vec.Iter.{into_iter_items}
use Rattle.des_model.specs.Windows.{part_of}
use Rattle.des_queue.proofs.Inserting.{empty}
use Rattle.des_team.proofs.Starts.{AreDealt, dealt_all, dealt_one}
use Rattle.des_team.proofs.start.deal_states.Goals as goal

pub loop-state-preserved : goal.loop-state-preserved
loop-state-preserved g c =
    let d = c.args.layout.now.division in
    let node = c.loop-state.node in
    let next = into_iter_items c.next.new.self in
    let is : c.part_of-part.result ≡ part_of d node = c.part_of-part.ensures in
    let inside : part_of d node < length c.args.parts.now.items = omega (
      arith,
      c.requires.divides.in_range node 0 (omega (arith, c.requires.divides.whole, c.loop-state.invariant.place, ap length c.in-Some.ensures.steps.0)),
      c.requires.parts,
    ) in
    record {
      can_next = tt;
      is_finite = tt;
      place = omega (arith, c.loop-state.invariant.place, ap length c.in-Some.ensures.steps.0);
      dealt = subst (λ q. AreDealt d (node + 1) next c.args.states.items c.args.parts.now.items
          (set c.loop-state.parts.items q (record c.index_mut.result.now { states = c.push.new.self }))) (sym is)
          (dealt_one d node (into_iter_items c.loop-state.state-iterator) c.args.states.items c.args.parts.now.items c.loop-state.parts.items
          c.loop-state.invariant.dealt c.in-Some.state next c.in-Some.ensures.steps.0 inside c.index_mut.result.now
          (c.index_mut.ensures.value ∙ ap (λ q. get_or c.loop-state.parts.items q c.index_mut.result.now) is) c.push.new.self c.in_ok-push.ensures.items);
    }

pub returns : goal.returns
returns g c =
    dealt_all c.args.layout.now.division c.loop-state.node (into_iter_items c.loop-state.state-iterator) c.args.states.items c.args.parts.now.items
    c.loop-state.parts.items c.loop-state.invariant.dealt
    (empty (into_iter_items c.loop-state.state-iterator) (omega (arith, c.in-None.ensures.steps.0, c.loop-state.state-iterator.rest.ok.0)))
