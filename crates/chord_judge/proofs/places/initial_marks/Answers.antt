use Rattle.std.proofs.Common.{◌≡◌, ◌∙◌, ◌∷◌, [], ◌++◌, ℕ, Bool, List, length, map, ap, sym, get_or, false, zero-add, arith}
use Rattle.std.specs.List.{range_with_len}
use Rattle.std.proofs.lemmas.List.FromFn.{map-range_with_len_more, length-map-range_with_len, get_or-map-range_with_len}
use Rattle.chord_scenario.specs.World.{is_initial, node_count}
use Rattle.chord_judge.proofs.places.initial_marks.Goals as goal

pub loop-node-preserved : goal.loop-node-preserved
loop-node-preserved c =
    let sc = c.args.scenario.now in let node = c.loop-node.node in
    let pushed : c.push.new.self.items ≡ c.loop-node.marks.items ++ c.initial.result ∷ [] = c.in_ok-push.ensures.items in
    pushed ∙ ap (λ (b : Bool). c.loop-node.marks.items ++ b ∷ []) c.initial.ensures ∙ ap (λ (l : List Bool). l ++ is_initial sc node ∷ []) c.loop-node.invariant
    ∙ sym (map-range_with_len_more (is_initial sc) 0 node node (zero-add node))

pub returns-clause-length : goal.returns-clause-length
returns-clause-length c =
    let sc = c.args.scenario.now in
    let end : c.loop-node.node ≡ node_count sc = omega (arith, c.loop-node-test.false, c.loop-node.auto.node-end, c.nodes-node-end.ensures) in
    let is : c.loop-node.marks.items ≡ map (is_initial sc) (range_with_len 0 (node_count sc)) = c.loop-node.invariant ∙ ap (λ (k : ℕ). map (is_initial sc) (range_with_len 0 k)) end in
    ap (λ (l : List Bool). length l) is ∙ length-map-range_with_len (is_initial sc) 0 (node_count sc)

pub returns-clause-marks : goal.returns-clause-marks
returns-clause-marks c = λ n lt.
    let sc = c.args.scenario.now in
    let end : c.loop-node.node ≡ node_count sc = omega (arith, c.loop-node-test.false, c.loop-node.auto.node-end, c.nodes-node-end.ensures) in
    let is : c.loop-node.marks.items ≡ map (is_initial sc) (range_with_len 0 (node_count sc)) = c.loop-node.invariant ∙ ap (λ (k : ℕ). map (is_initial sc) (range_with_len 0 k)) end in
    ap (λ (l : List Bool). get_or l n false) is ∙ get_or-map-range_with_len (is_initial sc) 0 (node_count sc) n n false lt (zero-add n)
