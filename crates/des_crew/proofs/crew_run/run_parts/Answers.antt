use Rattle.std.proofs.Common.{subst, sym}
use Rattle.des_parts.specs.Ordering.{AreInOrder, HasEachOnce, parts_of}
use Rattle.des_parts.proofs.Orders.{parts_done}
use Rattle.des_crew.proofs.WindowResults.{all_done}
use Rattle.des_crew.proofs.crew_run.run_parts.Goals as goal

pub in_part_order-requires : goal.in_part_order-requires
in_part_order-requires g c =
    let k = c.args.window.now.machine.now in
    let w = c.args.window.now.world.now in
    record {
      once = subst (λ n. HasEachOnce n (parts_of c.in_ok-dones.dones.items)) (sym c.parts-parts.ensures)
          (all_done (g.M.Machine.model k) (g.M.Machine.Known k) w c.args.window.now.horizon c.in_ok-dones.dones.items c.requires.window.next
          c.in_ok-dones.ensures.done).once;
    }

pub returns-clause-done : goal.returns-clause-done
returns-clause-done g c =
    let k = c.args.window.now.machine.now in
    let w = c.args.window.now.world.now in
    parts_done (g.M.Machine.model k) (g.M.Machine.Known k) w c.args.window.now.horizon c.in_ok-dones.dones.items c.in_ok-in_part_order.field-0.items
    (all_done (g.M.Machine.model k) (g.M.Machine.Known k) w c.args.window.now.horizon c.in_ok-dones.dones.items c.requires.window.next
    c.in_ok-dones.ensures.done)
    (subst (λ n. AreInOrder c.in_ok-dones.dones.items n c.in_ok-in_part_order.field-0.items) c.parts-parts.ensures c.in_ok-in_part_order.ensures)
