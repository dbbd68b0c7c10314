use Rattle.std.proofs.Common.{arith, sym, subst, ◌≡◌, ◌<◌, length, List}
use Rattle.des_parts.specs.declared.world.PartEvents.{PartEvents}
use Rattle.des_parts.specs.Delivery.{IsAhead, OpensAt}
use Rattle.des_parts.proofs.Deliveries.{cut_one}
use Rattle.des_parts.proofs.world.open_window.Goals as goal

pub next_opening-opening-requires : goal.next_opening-opening-requires
next_opening-opening-requires g c =
    subst (λ (l : List (PartEvents _)). IsAhead (g.M.Machine.model c.args.machine.now) c.args.clock.now l) (sym c.as_slice.ensures.value) c.requires

pub loop-part-preserved : goal.loop-part-preserved
loop-part-preserved g c =
    let inside : c.loop-part.part < length c.args.parts.now.items = omega (arith, c.loop-part-test.true, c.len-part-end.ensures, c.args.parts.now.ok.0) in
    cut_one c.horizon_of-horizon.result c.loop-part.part c.args.parts.now.items c.loop-part.parts.items c.loop-part.invariant inside
    c.index_mut.result.now c.take_due.new.self c.index_mut.ensures.value
    (record { all = c.in_ok-take_due.ensures.all; early = c.in_ok-take_due.ensures.early; late = c.in_ok-take_due.ensures.late })

pub returns : goal.returns
returns g c =
    let last : c.loop-part.part ≡ length c.args.parts.now.items = omega
    (arith, c.loop-part-test.false, c.loop-part.auto.part-end, c.len-part-end.ensures, c.args.parts.now.ok.0) in
    record {
      opens = subst (λ (l : List (PartEvents _)). OpensAt (g.M.Machine.model c.args.machine.now) l c.next_opening-opening.result) c.as_slice.ensures.value
          c.next_opening-opening.ensures;
      cut = rw (sym c.horizon_of-horizon.ensures, sym last) c.loop-part.invariant;
    }
