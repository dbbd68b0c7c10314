use Rattle.std.proofs.Common.{◌≡◌, ◌∙◌, ◌||◌, None, Some, ap, arith, false, rules, sym}
use Rattle.chord_node.specs.declared.state.Purpose.TheVariants as purpose
use Rattle.chord_ops.specs.declared.turn.Request.TheVariants as request
use Rattle.chord_ops.specs.Procedures.{stabilize_armed}
use Rattle.chord_ops.specs.Rules.{has_repair_call, head, is_joining, is_void, stabilize_tick}
use Rattle.chord_ops.specs.Turns.{called}
use Rattle.chord_ops.proofs.Acting.{acts_on, equal_on_ok, second_way, third_way, with_none, with_some}
use Rattle.chord_ops.proofs.turn.Turn.on_stabilize_tick.Goals.{else-matches, in-Joining, in_default, then-matches}
use Rattle.chord_ops.proofs.turn.Turn.on_stabilize_tick.Goals as goal

pub call-requires-clause-can_act : goal.call-requires-clause-can_act
call-requires-clause-can_act c = acts_on _ 3 3 1 1 2 2 _ _ c.requires.can_act c.in_ok-arm_stabilize.ensures.goes_on (omega arith) (omega arith)

pub returns-in-Some : goal.returns-in-Some
unfolding stabilize_tick
returns-in-Some c =
    let sc = c.args.scenario.now in let old = c.args.self.now in let s = old.state in
    let valid : is_void c.args.epoch s ≡ false = sym c.is_void_at.ensures ∙ c.if-is_void_at.false in
    let joins : is_joining s ≡ c.match-matches.matches =
    elim c.match-matches.branch [ in-Joining w ↦ search rules | in_default w ↦ search rules ] in
    let busy : (is_joining s || has_repair_call s) ≡ c.if-matches.is_busy =
    rw joins (elim c.if-matches.branch [ then-matches w ↦ search rules | else-matches w ↦ search rules ]) in
    let first : head s ≡ Some c.in-Some.head = sym c.head_of-head.ensures ∙ c.in-Some.is in
    equal_on_ok c.call.result c.call.new.self _ _
    (with_some _ c.in-Some.head (λ head. called sc head request.GetState purpose.State) (stabilize_armed sc old) _ first
    (ap (called sc c.in-Some.head request.GetState purpose.State) c.in_ok-arm_stabilize.ensures.value)
    ∙ sym (third_way _ _ old (stabilize_armed sc old) _ valid (busy ∙ c.if-is_busy.false)))
    c.call.ensures.value

pub returns-in-None : goal.returns-in-None
unfolding stabilize_tick
returns-in-None c =
    let sc = c.args.scenario.now in let old = c.args.self.now in let s = old.state in
    let valid : is_void c.args.epoch s ≡ false = sym c.is_void_at.ensures ∙ c.if-is_void_at.false in
    let joins : is_joining s ≡ c.match-matches.matches =
    elim c.match-matches.branch [ in-Joining w ↦ search rules | in_default w ↦ search rules ] in
    let busy : (is_joining s || has_repair_call s) ≡ c.if-matches.is_busy =
    rw joins (elim c.if-matches.branch [ then-matches w ↦ search rules | else-matches w ↦ search rules ]) in
    let first : head s ≡ None = sym c.head_of-head.ensures ∙ c.in-None.is in
    with_none _ (λ head. called sc head request.GetState purpose.State) (stabilize_armed sc old) _ first c.in_ok-arm_stabilize.ensures.value
    ∙ sym (third_way _ _ old (stabilize_armed sc old) _ valid (busy ∙ c.if-is_busy.false))

pub returns-then-is_busy : goal.returns-then-is_busy
unfolding stabilize_tick
returns-then-is_busy c =
    let sc = c.args.scenario.now in let old = c.args.self.now in let s = old.state in
    let valid : is_void c.args.epoch s ≡ false = sym c.is_void_at.ensures ∙ c.if-is_void_at.false in
    let joins : is_joining s ≡ c.match-matches.matches =
    elim c.match-matches.branch [ in-Joining w ↦ search rules | in_default w ↦ search rules ] in
    let busy : (is_joining s || has_repair_call s) ≡ c.if-matches.is_busy =
    rw joins (elim c.if-matches.branch [ then-matches w ↦ search rules | else-matches w ↦ search rules ]) in
    c.in_ok-arm_stabilize.ensures.value ∙ sym (second_way _ _ old (stabilize_armed sc old) _ valid (busy ∙ c.if-is_busy.true))
