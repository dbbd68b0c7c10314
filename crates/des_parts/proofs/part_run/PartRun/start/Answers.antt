use Rattle.std.proofs.Common.{refl}
use Rattle.des_parts.specs.declared.part_run.PartRun.{PartRun}
use Rattle.des_parts.proofs.Finishing.{has_begun}
use Rattle.des_parts.proofs.part_run.PartRun.start.Goals as goal

pub returns : goal.returns
returns g c =
    let k = c.args.window.now.machine.now in
    let run : PartRun _ _ _ = record { part = c.args.part; taken = 0; copies = c.new.result; mail = c.list_with_room.result; entries = c.list_with_room-2.result; pushes = 0 } in
    has_begun (g.M.Machine.model k) (g.met.M.Machine.simulable k c.recall.ensures) c.args.window.now.world.now c.requires.window.world c.args.window.now.horizon
    c.requires.window.next run c.requires.part
    refl c.new.ensures.slots c.new.ensures.states c.list_with_room.ensures c.list_with_room-2.ensures refl
