use Rattle.std.proofs.Common.{arith}
use Rattle.chord_ops.proofs.Acting.{acts_on, goes_further, notes_on, when_ok}
use Rattle.chord_ops.proofs.turn.Turn.look_up.Goals as goal

pub begin_lookup-requires-clause-can_act : goal.begin_lookup-requires-clause-can_act
begin_lookup-requires-clause-can_act c =
    acts_on _ 2 2 0 0 2 2 _ _ c.requires.can_act (notes_on _ c.args.self.now c.note-2.new.self c.in_ok-note.ensures) (omega arith) (omega arith)

pub returns-clause-goes_on : goal.returns-clause-goes_on
returns-clause-goes_on c =
    let on = notes_on _ c.args.self.now c.note-2.new.self c.in_ok-note.ensures in
    when_ok _ (λ last. goes_further 0 0 2 2 2 2 _ _ _ on last (omega arith) (omega arith)) c.begin_lookup.ensures.goes_on
