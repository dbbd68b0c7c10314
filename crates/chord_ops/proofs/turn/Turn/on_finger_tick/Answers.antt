use Rattle.std.proofs.Common.{◌≡◌, ◌∙◌, ◌||◌, ap, arith, false, rules, sym}
use Rattle.chord_node.specs.Rotation.{rotation_start}
use Rattle.chord_ops.specs.Procedures.{finger_armed}
use Rattle.chord_ops.specs.Rules.{finger_rotated, finger_tick, first_in_turn, has_finger_lookup, is_joining, is_void}
use Rattle.chord_ops.proofs.Acting.{acts_on, equal_on_ok, second_way, third_way}
use Rattle.chord_ops.proofs.turn.Turn.on_finger_tick.Goals.{else-matches, in-Joining, in_default, then-matches}
use Rattle.chord_ops.proofs.turn.Turn.on_finger_tick.Goals as goal

pub rotate_finger-requires-clause-can_act : goal.rotate_finger-requires-clause-can_act
rotate_finger-requires-clause-can_act c = acts_on _ 3 3 1 1 2 2 _ _ c.requires.can_act c.in_ok-arm_finger.ensures.goes_on (omega arith) (omega arith)

pub returns : goal.returns
unfolding finger_tick
returns c =
    let sc = c.args.scenario.now in let s = c.args.self.now.state in
    let valid : is_void c.args.epoch s ≡ false = sym c.is_void_at.ensures ∙ c.if-is_void_at.false in
    let joins : is_joining s ≡ c.match-matches.matches =
    elim c.match-matches.branch [ in-Joining w ↦ search rules | in_default w ↦ search rules ] in
    let busy : (is_joining s || has_finger_lookup s) ≡ c.if-matches.is_busy =
    rw joins (elim c.if-matches.branch [ then-matches w ↦ search rules | else-matches w ↦ search rules ]) in
    let first : c.rotation_start-first.result ≡ first_in_turn sc s =
    c.rotation_start-first.ensures.value ∙ ap (rotation_start sc s.me) c.head_of.ensures in
    equal_on_ok c.rotate_finger.result c.rotate_finger.new.self _ _
    (ap (λ n. finger_rotated sc n c.arm_finger.new.self) first
    ∙ ap (finger_rotated sc (first_in_turn sc s)) c.in_ok-arm_finger.ensures.value
    ∙ sym (third_way _ _ c.args.self.now (finger_armed sc c.args.self.now) _ valid (busy ∙ c.if-is_busy.false)))
    c.rotate_finger.ensures

pub returns-then-is_busy : goal.returns-then-is_busy
unfolding finger_tick
returns-then-is_busy c =
    let sc = c.args.scenario.now in let old = c.args.self.now in let s = old.state in
    let valid : is_void c.args.epoch s ≡ false = sym c.is_void_at.ensures ∙ c.if-is_void_at.false in
    let joins : is_joining s ≡ c.match-matches.matches =
    elim c.match-matches.branch [ in-Joining w ↦ search rules | in_default w ↦ search rules ] in
    let busy : (is_joining s || has_finger_lookup s) ≡ c.if-matches.is_busy =
    rw joins (elim c.if-matches.branch [ then-matches w ↦ search rules | else-matches w ↦ search rules ]) in
    c.in_ok-arm_finger.ensures.value ∙ sym (second_way _ _ old (finger_armed sc old) _ valid (busy ∙ c.if-is_busy.true))
