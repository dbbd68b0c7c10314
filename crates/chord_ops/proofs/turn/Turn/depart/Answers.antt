use Rattle.std.proofs.Common.{◌≡◌, ◌∙◌, ◌<◌, ap, arith, rules, subst, sym}
use Rattle.std.specs.Prelude.{IfSome, slice_get}
use Rattle.chord_event.specs.declared.line.Line.TheVariants as line
use Rattle.chord_scenario.specs.World.{node_count}
use Rattle.chord_ops.specs.declared.turn.Turn.{Turn}
use Rattle.chord_ops.specs.Procedures.{departed, gone_down, head_told, told}
use Rattle.chord_ops.specs.Turns.{GoesOn, noted, when_some}
use Rattle.chord_ops.proofs.Acting.{acts_on, goes_further, notes_on, with_none, with_some}
use Rattle.chord_ops.proofs.turn.Turn.depart.Goals.{in-Some+in_ok-tell_of_leave, in_default, in-Some-head+in_ok-tell_head, in_default-head}
use Rattle.chord_ops.proofs.turn.Turn.depart.Goals as goal

pub tell_of_leave-requires-clause-can_act : goal.tell_of_leave-requires-clause-can_act
tell_of_leave-requires-clause-can_act c =
    acts_on _ 2 4 0 0 1 2 _ _ c.requires.can_act (notes_on _ c.args.self.now c.note.new.self c.in_ok-note.ensures) (omega arith) (omega arith)

pub tell_head-requires-clause-can_act : goal.tell_head-requires-clause-can_act
tell_head-requires-clause-can_act c =
    let on = notes_on _ c.args.self.now c.note.new.self c.in_ok-note.ensures in
    let first : GoesOn 1 2 c.args.self.now c.match-self.self = elim c.match-self.branch [
      | in-Some+in_ok-tell_of_leave w ↦ rw w.self-is
          (goes_further 0 0 1 2 1 2 _ _ _ on w.in_ok-tell_of_leave.ensures.goes_on (omega arith) (omega arith))
      | in_default w ↦ rw w.self-is
          (record { time = on.time; me = on.me; room = omega (arith, on.room); place = omega (arith, on.place) })
    ] in
    acts_on _ 2 4 1 2 1 2 _ _ c.requires.can_act first (omega arith) (omega arith)

pub tell_of_leave-requires-clause-to : goal.tell_of_leave-requires-clause-to
tell_of_leave-requires-clause-to c =
    subst (λ o. IfSome o (λ node. node < node_count c.args.scenario.now))
    (sym (ap (λ (turn : Turn). turn.state.prdc) c.in_ok-note.ensures) ∙ c.in-Some.is) c.requires.prdc

pub returns-clause-value : goal.returns-clause-value
unfolding departed
returns-clause-value c =
    let sc = c.args.scenario.now in let old = c.args.self.now in
    let noticed : c.note.new.self ≡ noted line.Leave old = c.in_ok-note.ensures in
    let before : c.match-self.self ≡ when_some c.note.new.self.state.prdc (told sc) c.note.new.self = elim c.match-self.branch [
      | in-Some+in_ok-tell_of_leave w ↦ with_some _ w.in-Some.prdc (told sc) _ _ w.in-Some.is (w.self-is ∙ w.in_ok-tell_of_leave.ensures.value)
      | in_default w ↦ with_none _ (told sc) _ _ (search rules) w.self-is
    ] in
    let after : c.match-head.self ≡ when_some c.head_of-head.result (head_told sc) c.match-self.self = elim c.match-head.branch [
      | in-Some-head+in_ok-tell_head w ↦
          with_some _ w.in-Some-head.head (head_told sc) _ _ w.in-Some-head.is (w.self-is ∙ w.in_ok-tell_head.ensures.value)
      | in_default-head w ↦ with_none _ (head_told sc) _ _ (search rules) w.self-is
    ] in
    c.go_down.ensures
    ∙ ap (gone_down sc)
    (after
    ∙ ap (λ o. when_some o (head_told sc) c.match-self.self) c.head_of-head.ensures
    ∙ ap (when_some (slice_get old.state.succ 0) (head_told sc))
    (before ∙ ap (λ (turn : Turn). when_some turn.state.prdc (told sc) turn) noticed))

pub returns-clause-goes_on : goal.returns-clause-goes_on
returns-clause-goes_on c =
    let on = notes_on _ c.args.self.now c.note.new.self c.in_ok-note.ensures in
    let first : GoesOn 1 2 c.args.self.now c.match-self.self = elim c.match-self.branch [
      | in-Some+in_ok-tell_of_leave w ↦ rw w.self-is
          (goes_further 0 0 1 2 1 2 _ _ _ on w.in_ok-tell_of_leave.ensures.goes_on (omega arith) (omega arith))
      | in_default w ↦ rw w.self-is
          (record { time = on.time; me = on.me; room = omega (arith, on.room); place = omega (arith, on.place) })
    ] in
    let both : GoesOn 2 4 c.args.self.now c.match-head.self = elim c.match-head.branch [
      | in-Some-head+in_ok-tell_head w ↦ rw w.self-is
          (goes_further 1 2 1 2 2 4 _ _ _ first w.in_ok-tell_head.ensures.goes_on (omega arith) (omega arith))
      | in_default-head w ↦ rw w.self-is
          (record { time = first.time; me = first.me; room = omega (arith, first.room); place = omega (arith, first.place) })
    ] in
    rw c.go_down.ensures (record { time = both.time; me = both.me; room = both.room; place = both.place })
