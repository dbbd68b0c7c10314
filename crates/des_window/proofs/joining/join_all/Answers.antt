use Rattle.std.proofs.Common.{◌∙◌, ◌∷◌, ◌++◌, [], ap, sym, subst, arith, append_assoc, length}
use Rattle.std.specs.Vec.Iter.{into_iter_items}
use Rattle.des_window.proofs.Shares.{in_turn, joined_more, shares_up}
use Rattle.des_window.proofs.joining.join_all.Goals as goal

pub join-requires-clause-room : goal.join-requires-clause-room
join-requires-clause-room g c =
    let share = c.requires.room.0 in
    let are = c.requires.room.1 in
    let turn = in_turn c.loop-scribe.yielded (into_iter_items c.loop-scribe.scribe-iterator) c.args.scribes.items c.in-Some.scribe
    (into_iter_items c.next.new.self) c.loop-scribe.invariant.whole c.in-Some.ensures.steps.0 in
    let mine = c.loop-scribe.invariant.joined share are in
    let more = subst (λ z. g.S.Scribe.HasCounted c.args.machine.now (share (length c.loop-scribe.yielded)) z) (turn.1 c.in-Some.scribe)
    (are (length c.loop-scribe.yielded) c.in-Some.scribe turn.0) in
    omega (
      arith,
      g.met.S.Scribe.sized c.args.machine.now _ c.loop-scribe.joined mine,
      g.met.S.Scribe.sized c.args.machine.now _ c.in-Some.scribe more,
      shares_up share (length c.loop-scribe.yielded) (length c.args.scribes.items) turn.0,
      c.requires.room.2,
    )

pub join-requires-clause-mine : goal.join-requires-clause-mine
join-requires-clause-mine g c = (_, c.loop-scribe.invariant.joined c.requires.room.0 c.requires.room.1)

pub join-requires-clause-others : goal.join-requires-clause-others
join-requires-clause-others g c =
    let share = c.requires.room.0 in
    let are = c.requires.room.1 in
    let turn = in_turn c.loop-scribe.yielded (into_iter_items c.loop-scribe.scribe-iterator) c.args.scribes.items c.in-Some.scribe
    (into_iter_items c.next.new.self) c.loop-scribe.invariant.whole c.in-Some.ensures.steps.0 in (
      _,
      subst (λ z. g.S.Scribe.HasCounted c.args.machine.now (share (length c.loop-scribe.yielded)) z) (turn.1 c.in-Some.scribe)
          (are (length c.loop-scribe.yielded) c.in-Some.scribe turn.0),
    )

pub loop-scribe-preserved : goal.loop-scribe-preserved
loop-scribe-preserved g c =
    let turn = in_turn c.loop-scribe.yielded (into_iter_items c.loop-scribe.scribe-iterator) c.args.scribes.items c.in-Some.scribe
    (into_iter_items c.next.new.self) c.loop-scribe.invariant.whole c.in-Some.ensures.steps.0 in
    record {
      can_next = tt;
      is_finite = tt;
      whole = append_assoc c.loop-scribe.yielded (c.in-Some.scribe ∷ []) (into_iter_items c.next.new.self)
          ∙ ap (λ l. c.loop-scribe.yielded ++ l) (sym c.in-Some.ensures.steps.0) ∙ c.loop-scribe.invariant.whole;
      joined = λ share are. joined_more (g.S.Scribe.HasCounted c.args.machine.now) share c.loop-scribe.yielded c.args.scribes.items c.in-Some.scribe
          c.loop-scribe.joined c.in_ok-joined.joined are turn.0 turn.1 c.in_ok-joined.ensures.counted (c.loop-scribe.invariant.joined share are);
    }
