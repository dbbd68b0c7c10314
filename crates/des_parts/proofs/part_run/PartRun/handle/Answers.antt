use Rattle.std.proofs.Common.{◌≡◌, ◌∙◌, ◌+◌, ap, arith, length, refl}
use Rattle.des_parts.proofs.Handling.{handled}
use Rattle.des_parts.proofs.part_run.PartRun.handle.Goals as goal

pub returns : goal.returns
returns g c = λ division ready.
    let k = c.args.machine.now in
    let long : c.len.result ≡ length c.act.new.made.items = omega (arith, c.len.ensures, c.act.new.made.ok.0) in
    handled (g.M.Machine.model k) (g.M.Machine.Sound k) (g.M.Machine.Fit k) (g.M.Machine.Room k) (g.M.Machine.Known k)
    division c.args.states.now c.args.event.now c.args.self.now ready
    c.touch.new.self c.in_ok-slot.ensures.same (c.in_ok-slot.ensures.copies division c.args.self.now.part ready.in_part ready.copies)
    c.in_ok-slot.slot c.in_ok-slot.ensures.slot
    c.index_mut-touched.result.now c.index_mut-touched.ensures.value
    _ _ c.in_ok-piece.piece c.act.new.made.items refl refl refl refl refl c.in_ok-push.ensures.items refl
    c.in_ok-piece.ensures.state c.in_ok-piece.ensures.events c.in_ok-piece.ensures.piece c.in_ok-piece.ensures.known
    (c.in_ok-self.ensures.0 ∙ ap (λ n. c.args.self.now.pushes + n) long, c.in_ok-self.ensures.1)
