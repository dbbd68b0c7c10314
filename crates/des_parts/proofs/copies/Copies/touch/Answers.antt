use Rattle.std.proofs.Common.{arith, sym, ap, ◌∙◌, None, Some, length, ◌≡◌, refl, set, Vec}
use Rattle.std.specs.Global.{Global}
use Rattle.des_model.proofs.Course.{same_read}
use Rattle.des_parts.proofs.CopyFacts.{copies_more, slots_made}
use Rattle.des_parts.proofs.copies.Copies.touch.Goals as goal

pub index-requires : goal.index-requires
index-requires g c = omega (arith, c.requires.node, c.in_ok-make_slots.ensures.long, c.make_slots.new.self.slots.ok.0)

pub returns-clause-copies : goal.returns-clause-copies
returns-clause-copies g c = λ d part in_part are.
    let ready = slots_made c.args.states.now c.args.self.now c.make_slots.new.self c.in_ok-make_slots.ensures.same
    (ap (λ (v : Vec _ Global). v.items) c.in_ok-make_slots.ensures.states) d part c.in_ok-make_slots.ensures.long are in
    let none = same_read c.make_slots.new.self.slots.items c.args.node None c.index.result.now
    (omega (arith, c.requires.node, c.in_ok-make_slots.ensures.long)) ∙ sym c.index.ensures ∙ c.in_default.is in
    let slot : c.len-slot.result ≡ length c.make_slots.new.self.states.items = omega (arith, c.len-slot.ensures, c.make_slots.new.self.states.ok.0) in
    copies_more d part c.args.states.now c.make_slots.new.self _ ready c.in_ok-make_slots.ensures.long c.args.node
    (record { node = c.args.node; state = c.in_ok-state.state }) c.requires.node
    (ap (λ z. set c.make_slots.new.self.slots.items c.args.node (Some z)) slot) c.in_ok-push.ensures.items none in_part refl
