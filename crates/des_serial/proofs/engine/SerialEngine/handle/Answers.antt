-- What was taken is the next event of the run, so the engine goes on to where the run is.
use Rattle.std.proofs.Common.{refl, sym, subst, arith, ap, set}
use Rattle.des_machine.specs.Simulable.{AreSound}
use Rattle.des_serial.proofs.Course.{
  audits_add,
  begin_audits,
  begin_front,
  begin_middle,
  event_is_fit,
  event_is_in_time,
  made_apart,
  next_at,
  state_has_room,
  state_is_sound,
  taken_few,
  taken_read,
  taken_sound,
  target_is_node,
}
use Rattle.des_serial.proofs.engine.SerialEngine.handle.Goals as goal

pub put_audits-requires-clause-states : goal.put_audits-requires-clause-states
put_audits-requires-clause-states g c =
    let k = c.args.machine.now in
    let m = g.M.Machine.model k in
    let sim = g.met.M.Machine.simulable k c.recall.ensures in
    subst (λ ss. AreSound m (g.M.Machine.Sound k) ss) (sym c.as_slice.ensures.value)
    (taken_sound (g.S.Scribe.text k) m (g.S.Scribe.HasCounted k) sim c.requires.taken.0 _ c.args.self.now c.args.event.now c.requires.taken.1)

pub put_audits-requires-clause-room : goal.put_audits-requires-clause-room
put_audits-requires-clause-room g c =
    let k = c.args.machine.now in
    let sim = g.met.M.Machine.simulable k c.recall.ensures in
    let few = taken_few (g.S.Scribe.text k) (g.M.Machine.model k) (g.S.Scribe.HasCounted k) sim c.requires.taken.0 _ c.args.self.now c.args.event.now
    c.requires.taken.1 g.S.Scribe.size (g.met.S.Scribe.sized k) in
    omega (arith, few)

pub returns-in_err-put_audits-clause-front : goal.returns-in_err-put_audits-clause-front
returns-in_err-put_audits-clause-front g c = λ old t.
    let k = c.args.machine.now in
    let text = g.S.Scribe.text k in
    let m = g.M.Machine.model k in
    let counted = g.S.Scribe.HasCounted k in
    let sim = g.met.M.Machine.simulable k c.recall.ensures in
    let s = taken_read text m counted sim old _ c.args.self.now c.args.event.now t in
    begin_audits text m counted sim old _ c.args.self.now c.args.event.now t s.0 s.1 _ c.as_slice.ensures.value _ c.in_err-put_audits.ensures.front

pub index_mut-requires : goal.index_mut-requires
index_mut-requires g c =
    let k = c.args.machine.now in
    let sim = g.met.M.Machine.simulable k c.recall.ensures in
    let target = target_is_node (g.S.Scribe.text k) (g.M.Machine.model k) (g.S.Scribe.HasCounted k) sim c.requires.taken.0 _ c.args.self.now c.args.event.now
    c.requires.taken.1 in
    omega (arith, target, c.args.self.now.states.ok.0)

pub act-requires-clause-sound : goal.act-requires-clause-sound
act-requires-clause-sound g c =
    let k = c.args.machine.now in
    let sim = g.met.M.Machine.simulable k c.recall.ensures in
    state_is_sound (g.S.Scribe.text k) (g.M.Machine.model k) (g.S.Scribe.HasCounted k) sim c.requires.taken.0 _ c.args.self.now c.args.event.now
    c.requires.taken.1 c.index_mut.result.now c.index_mut.ensures.value

pub act-requires-clause-fit : goal.act-requires-clause-fit
act-requires-clause-fit g c =
    let k = c.args.machine.now in
    let sim = g.met.M.Machine.simulable k c.recall.ensures in
    event_is_fit (g.S.Scribe.text k) (g.M.Machine.model k) (g.S.Scribe.HasCounted k) sim c.requires.taken.0 _ c.args.self.now c.args.event.now c.requires.taken.1

pub act-requires-clause-room : goal.act-requires-clause-room
act-requires-clause-room g c =
    let k = c.args.machine.now in
    let sim = g.met.M.Machine.simulable k c.recall.ensures in
    state_has_room (g.S.Scribe.text k) (g.M.Machine.model k) (g.S.Scribe.HasCounted k) sim c.requires.taken.0 _ c.args.self.now c.args.event.now
    c.requires.taken.1 c.index_mut.result.now c.index_mut.ensures.value

pub act-requires-clause-in_time : goal.act-requires-clause-in_time
act-requires-clause-in_time g c =
    let k = c.args.machine.now in
    let sim = g.met.M.Machine.simulable k c.recall.ensures in
    event_is_in_time (g.S.Scribe.text k) (g.M.Machine.model k) (g.S.Scribe.HasCounted k) sim c.requires.taken.0 _ c.args.self.now c.args.event.now
    c.requires.taken.1

pub returns-in_err-piece-clause-front : goal.returns-in_err-piece-clause-front
returns-in_err-piece-clause-front g c = λ old t.
    let k = c.args.machine.now in
    let sim = g.met.M.Machine.simulable k c.recall.ensures in
    begin_middle (g.S.Scribe.text k) (g.M.Machine.model k) (g.S.Scribe.HasCounted k) sim old _ c.args.self.now c.args.event.now t
    c.index_mut.result.now c.index_mut.ensures.value _ c.as_slice.ensures.value _ _ c.in_ok-put_audits.ensures.adds

pub insert_from-requires : goal.insert_from-requires
insert_from-requires g c =
    let k = c.args.machine.now in
    let e = c.args.self.now in
    let sim = g.met.M.Machine.simulable k c.recall.ensures in
    made_apart (g.S.Scribe.text k) (g.M.Machine.model k) (g.S.Scribe.HasCounted k) sim c.requires.taken.0 _ e c.args.event.now
    c.requires.taken.1 c.index_mut.result.now c.index_mut.ensures.value _ c.in_ok-piece.ensures.events

pub returns-in_err-insert_from-clause-front : goal.returns-in_err-insert_from-clause-front
returns-in_err-insert_from-clause-front g c = λ old t.
    let k = c.args.machine.now in
    let sim = g.met.M.Machine.simulable k c.recall.ensures in
    begin_middle (g.S.Scribe.text k) (g.M.Machine.model k) (g.S.Scribe.HasCounted k) sim old _ c.args.self.now c.args.event.now t
    c.index_mut.result.now c.index_mut.ensures.value _ c.as_slice.ensures.value _ _ c.in_ok-put_audits.ensures.adds

pub put-requires-clause-room : goal.put-requires-clause-room
put-requires-clause-room g c =
    let k = c.args.machine.now in
    let sim = g.met.M.Machine.simulable k c.recall.ensures in
    let few = taken_few (g.S.Scribe.text k) (g.M.Machine.model k) (g.S.Scribe.HasCounted k) sim c.requires.taken.0 _ c.args.self.now c.args.event.now
    c.requires.taken.1 g.S.Scribe.size (g.met.S.Scribe.sized k) in
    omega (arith, few, c.in_ok-put_audits.ensures.size)

pub returns-in_err-put-clause-front : goal.returns-in_err-put-clause-front
returns-in_err-put-clause-front g c = λ old t.
    let k = c.args.machine.now in
    let sim = g.met.M.Machine.simulable k c.recall.ensures in
    begin_front (g.S.Scribe.text k) (g.M.Machine.model k) (g.S.Scribe.HasCounted k) sim old _ c.args.self.now c.args.event.now t
    c.index_mut.result.now c.index_mut.ensures.value _ c.as_slice.ensures.value _ _ c.in_ok-put_audits.ensures.adds
    c.in_ok-piece.piece _ c.in_ok-piece.ensures.piece c.in_err-put.ensures.front

pub returns-clause-front : goal.returns-clause-front
returns-clause-front g c = λ old t.
    let k = c.args.machine.now in
    let sim = g.met.M.Machine.simulable k c.recall.ensures in
    begin_front (g.S.Scribe.text k) (g.M.Machine.model k) (g.S.Scribe.HasCounted k) sim old _ c.args.self.now c.args.event.now t
    c.index_mut.result.now c.index_mut.ensures.value _ c.as_slice.ensures.value _ _ c.in_ok-put_audits.ensures.adds
    c.in_ok-piece.piece _ c.in_ok-piece.ensures.piece c.in_ok-put.ensures.front

pub returns-clause-at : goal.returns-clause-at
returns-clause-at g c = λ old t.
    let k = c.args.machine.now in
    let text = g.S.Scribe.text k in
    let m = g.M.Machine.model k in
    let counted = g.S.Scribe.HasCounted k in
    let sim = g.met.M.Machine.simulable k c.recall.ensures in
    let e = c.args.self.now in
    let event = c.args.event.now in
    let read = c.index_mut.ensures.value in
    let s = c.index_mut.result.now in
    let audits = audits_add text m counted sim old _ e event t s read _ c.as_slice.ensures.value _ _ c.in_ok-put_audits.ensures.adds in
    next_at text m counted sim old _ e event t s read _ c.in_ok-piece.ensures.events
    _ _ _ c.put_audits.new.self.scribe c.in_ok-piece.piece c.in_ok-piece.ensures.piece (ap (λ z. set e.states.items event.target z) c.in_ok-piece.ensures.state)
    c.in_ok-insert_from.ensures.same c.in_ok-insert_from.ensures.ordered c.in_ok-insert_from.ensures.emptied c.in_ok-put_audits.ensures.left refl
    audits c.in_ok-put.ensures.written c.in_ok-put.ensures.counted
