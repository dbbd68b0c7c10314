use Rattle.std.proofs.Common.{◌∙◌, ◌<◌, ℕ, Option, Vec, ap, arith, drop, length, subst}
use Rattle.std.specs.Global.{Global}
use Rattle.des_parts.specs.declared.part_run.Done.{Done}
use Rattle.des_picks.specs.declared.worker.Worker.{Worker}
use Rattle.des_parts.specs.Exchanges.{events_in}
use Rattle.des_picks.specs.Picked.{HasStepped}
use Rattle.des_parts.specs.Slots.{in_slots}
use Rattle.des_picks.proofs.PickedWindows.{turns_done, turns_idle, turns_stepped}
use Rattle.des_picks.proofs.picked_window.PickedWindow.run.Goals as goal

pub returns-clause-done : goal.returns-clause-done
returns-clause-done g c =
    let k = c.args.window.now.machine.now in
    let same = ap (λ (v : Vec (Worker _ _ _) Global). length v.items) c.in_ok-open.ensures.same_workers in
    let some : 0 < length c.open.new.self.workers.items = omega (arith, same, c.requires.workers.0) in
    turns_done (g.M.Machine.model k) (g.M.Machine.Known k) c.args.window.now.world.now c.args.window.now.horizon
    (g.met.M.Machine.simulable k c.recall.ensures) c.requires.window.world
    c.requires.window.next c.open.new.self
    c.take_turns.new.self _ _ _ _ some c.in_ok-take_turns.ensures.turns
    c.in_ok-dones.dones.items (c.in_ok-dones.ensures ∙ ap (λ (v : Vec (Option (Done _ _ _)) Global). in_slots v.items) c.replace-slots.ensures.value)

pub returns-clause-steps : goal.returns-clause-steps
returns-clause-steps g c =
    let k = c.args.window.now.machine.now in
    let m = g.M.Machine.model k in
    let same = ap (λ (v : Vec (Worker _ _ _) Global). length v.items) c.in_ok-open.ensures.same_workers in
    let some : 0 < length c.open.new.self.workers.items = omega (arith, same, c.requires.workers.0) in
    subst (λ (n : ℕ). HasStepped m c.args.window.now.world.now.division n c.args.window.now.world.now.count
    c.args.window.now.horizon
    (drop c.args.next.now c.args.picks.now) (drop c.take_turns.new.next c.args.picks.now) c.args.taken.now.items c.take_turns.new.taken.items
    (events_in c.in_ok-dones.dones.items)) same
    (turns_stepped m (g.M.Machine.Known k) c.args.window.now.world.now c.args.window.now.horizon
    (g.met.M.Machine.simulable k c.recall.ensures) c.requires.window.world
    c.requires.window.next c.open.new.self
    c.take_turns.new.self _ _ _ _ some c.in_ok-take_turns.ensures.turns
    c.in_ok-dones.dones.items (c.in_ok-dones.ensures ∙ ap (λ (v : Vec (Option (Done _ _ _)) Global). in_slots v.items) c.replace-slots.ensures.value))

pub returns-clause-idle : goal.returns-clause-idle
returns-clause-idle g c =
    let k = c.args.window.now.machine.now in
    let same = ap (λ (v : Vec (Worker _ _ _) Global). length v.items) c.in_ok-open.ensures.same_workers in
    let some : 0 < length c.open.new.self.workers.items = omega (arith, same, c.requires.workers.0) in
    turns_idle (g.M.Machine.model k) (g.M.Machine.Known k) c.args.window.now.world.now c.args.window.now.horizon
    (g.met.M.Machine.simulable k c.recall.ensures) c.requires.window.world
    c.requires.window.next c.open.new.self
    c.take_turns.new.self _ _ _ _ some c.in_ok-take_turns.ensures.turns
