use Rattle.std.proofs.Common.{◌++◌, sym, subst}
use Rattle.des_event.specs.declared.event.Event.{Event}
use Rattle.des_event.specs.KeyOrder.{IsNewKey}
use Rattle.des_queue.specs.EventKey.{event_key}
use Rattle.des_queue.proofs.Pendings.{HasPut, new_to_both, put_left, put_right}
use Rattle.des_queue.proofs.pending.Pending.put.Goals as goal

pub insert-requires : goal.insert-requires
insert-requires g c = let p = c.self.inside in (new_to_both c.args.event.key p.calendar p.rest c.args.self.now c.self.view_is c.requires).0

in_calendar : (g : _) (c : goal.In_default g) → HasPut (c.insert.new.self ++ c.self.inside.rest) c.args.event c.args.self.now
in_calendar g c =
    let p = c.self.inside in
    put_left p.calendar c.insert.new.self p.rest c.args.self.now c.args.event c.self.invariant c.self.view_is c.requires c.in_default.ensures.ok

pub invariant_of-self : goal.invariant_of-self
invariant_of-self g c = (in_calendar g c).0

pub returns-in_default : goal.returns-in_default
returns-in_default g c = (in_calendar g c).1

pub put_in_rest-requires : goal.put_in_rest-requires
put_in_rest-requires g c =
    let p = c.self.inside in
    subst (λ (e : Event _). IsNewKey event_key e.key p.rest) (sym c.in-Err.ensures.err.0)
    (new_to_both c.args.event.key p.calendar p.rest c.args.self.now c.self.view_is c.requires).1

in_rest : (g : _) (c : goal.In_ok-put_in_rest g) → HasPut (c.insert.new.self ++ c.put_in_rest.new.rest) c.args.event c.args.self.now
in_rest g c =
    let p = c.self.inside in
    put_right p.calendar c.insert.new.self p.rest c.put_in_rest.new.rest c.args.self.now c.args.event c.in-Err.back c.self.invariant c.self.view_is c.requires
    c.in-Err.ensures.err.1 c.in-Err.ensures.err.0 c.in_ok-put_in_rest.ensures.ok

pub invariant_of-self-2 : goal.invariant_of-self-2
invariant_of-self-2 g c = (in_rest g c).0

pub returns : goal.returns
returns g c = (in_rest g c).1
