use Rattle.std.proofs.Common.{◌≡◌, ◌∙◌, ◌&&◌, ◌+◌, ℕ, Bool, cond, nat_lt, count_by, ap, arith}
use Rattle.std.specs.List.{range_with_len}
use Rattle.chord_audit.proofs.Lists.{count_same}
use Rattle.chord_judge.proofs.Counting.{count_most, count_next}
use Rattle.chord_judge.proofs.Owned.{is_nearer}
use Rattle.chord_judge.specs.Inside.{holds}
use Rattle.chord_judge.specs.Owners.{way}
use Rattle.chord_scenario.specs.World.{node_count}
use Rattle.chord_judge.proofs.members.Members.nearer_count.Goals as goal

pub overflow_add-count : goal.overflow_add-count
overflow_add-count c =
    let p = is_nearer c.args.self.now.scenario.now (holds c.args.self.now) c.args.key c.args.node in
    omega (arith, c.loop-other.invariant, count_most p c.loop-other.other, c.count_if_nearer-count.ensures.greatest, c.loop-other-test.true, c.nodes-other-end.ensures)

pub loop-other-preserved : goal.loop-other-preserved
loop-other-preserved c =
    let sc = c.args.self.now.scenario.now in let member = holds c.args.self.now in let n = c.loop-other.other in
    let p = is_nearer sc member c.args.key c.args.node in
    let one : c.count_if_nearer-count.result ≡ cond (p n) 1 0 =
    c.count_if_nearer-count.ensures.count ∙ ap (λ (w : ℕ). cond {A = ℕ} (member n && nat_lt (way sc c.args.key n) w) 1 0) c.way-way.ensures in
    let next : count_by p (range_with_len 0 (n + 1)) ≡ count_by p (range_with_len 0 n) + cond (p n) 1 0 = count_next p n in
    omega (arith, c.loop-other.invariant, one, next)

pub returns : goal.returns
returns c = λ member hold.
    let sc = c.args.self.now.scenario.now in
    let end : c.loop-other.other ≡ node_count sc = omega (arith, c.loop-other-test.false, c.loop-other.auto.other-end, c.nodes-other-end.ensures) in
    let p = is_nearer sc (holds c.args.self.now) c.args.key c.args.node in
    let q = is_nearer sc member c.args.key c.args.node in
    c.loop-other.invariant ∙ ap (λ (k : ℕ). count_by p (range_with_len 0 k)) end
    ∙ count_same p q 0 (node_count sc) (λ x le lt. ap (λ (b : Bool). b && nat_lt (way sc c.args.key x) (way sc c.args.key c.args.node)) (hold x (omega (arith, lt))))
