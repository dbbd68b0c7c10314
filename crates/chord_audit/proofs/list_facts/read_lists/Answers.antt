use Rattle.std.proofs.Common.{◌≡◌, ◌∙◌, ◌<◌, ◌≤◌, List, ℕ, Option, ap, arith, find, length, length-take-le, map, subst, sym, take, take_all}
use Rattle.std.proofs.lemmas.List.{length-map}
use Rattle.std.specs.List.{All, list_any, range_with_len}
use Rattle.chord_node.specs.declared.state.NodeState.{NodeState}
use Rattle.chord_audit.specs.Tables.{is_marked, is_passing}
use Rattle.chord_audit.proofs.Reaches.{marked_covered, length-covered}
use Rattle.chord_audit.proofs.list_facts.read_lists.Goals as goal

-- what is found in the lists of the first nodes is as many as these
many_found : (find_in : NodeState → Option ℕ) (states : List NodeState) (end : ℕ) (best : List (Option ℕ)) → end ≤ length states
    → best ≡ map find_in (take end states) → length best ≡ end
many_found find_in states end best inside made =
    ap (λ (l : List (Option ℕ)). length l) made ∙ length-map (take end states) find_in ∙ length-take-le end states inside

pub returns-clause-each : goal.returns-clause-each
returns-clause-each g c =
    let arcs = c.loop-best.arcs in
    length-covered arcs.first (length c.args.order.now.ranks.now) arcs.far.items c.in_ok-passed.passed.items c.loop-best.invariant.each
    c.in_ok-passed.ensures

pub returns-clause-passed : goal.returns-clause-passed
returns-clause-passed g c = λ k lt.
    let arcs = c.loop-best.arcs in let ranks = c.args.order.now.ranks.now in
    let all : length c.loop-best.best.items ≡ length ranks = omega (arith, c.loop-best-test.false, c.loop-best.invariant.within, c.len.ensures) in
    marked_covered arcs.first k (length ranks) arcs.far.items c.in_ok-passed.passed.items c.loop-best.invariant.each c.in_ok-passed.ensures lt
    ∙ c.loop-best.invariant.covered k lt
    ∙ ap (λ n. list_any (is_passing ranks c.args.members.now (g.V.States.list c.args.states.now) k) (range_with_len 0 n)) all

pub add_best-requires-clause-few : goal.add_best-requires-clause-few
add_best-requires-clause-few g c = omega (arith, c.requires.few, c.requires.states)

pub add_best-requires-clause-succ : goal.add_best-requires-clause-succ
add_best-requires-clause-succ g c =
    subst (λ (k : ℕ). All (λ (state : NodeState). All (λ n. n < k) state.succ) (g.V.States.list c.args.states.now)) (sym c.requires.members) c.requires.succ

pub add_best-requires-clause-before : goal.add_best-requires-clause-before
add_best-requires-clause-before g c = c.loop-best.invariant.best

pub add_passed-requires-clause-few : goal.add_passed-requires-clause-few
add_passed-requires-clause-few g c = c.requires.few

pub add_passed-requires-clause-ranks : goal.add_passed-requires-clause-ranks
add_passed-requires-clause-ranks g c = c.requires.ranks

pub add_passed-requires-clause-nodes : goal.add_passed-requires-clause-nodes
add_passed-requires-clause-nodes g c = c.requires.nodes

pub add_passed-requires-clause-marks : goal.add_passed-requires-clause-marks
add_passed-requires-clause-marks g c = c.requires.members

pub add_passed-requires-clause-states : goal.add_passed-requires-clause-states
add_passed-requires-clause-states g c = c.requires.states

pub add_passed-requires-clause-succ : goal.add_passed-requires-clause-succ
add_passed-requires-clause-succ g c = c.requires.succ

pub add_passed-requires-clause-each : goal.add_passed-requires-clause-each
add_passed-requires-clause-each g c = c.loop-best.invariant.each

pub add_passed-requires-clause-before : goal.add_passed-requires-clause-before
add_passed-requires-clause-before g c = λ k lt.
    let first : length c.loop-best.best.items ≡ c.len-first.result = omega (arith, c.len-first.ensures) in
    c.loop-best.invariant.covered k lt
    ∙ ap (λ n. list_any (is_passing c.args.order.now.ranks.now c.args.members.now (g.V.States.list c.args.states.now) k) (range_with_len 0 n)) first

pub loop-best-preserved : goal.loop-best-preserved
loop-best-preserved g c =
    let states = g.V.States.list c.args.states.now in let ranks = c.args.order.now.ranks.now in let end = c.min-end.result in
    let find_in = λ (state : NodeState). find (is_marked c.args.members.now) state.succ in
    let made : c.add_best.new.best.items ≡ map find_in (take end states) = c.in_ok-add_best.ensures in
    let inside : end ≤ length states = omega (arith, c.min-end.ensures, c.requires.states) in
    let many : length c.add_best.new.best.items ≡ end = many_found find_in states end c.add_best.new.best.items inside made in
    record {
      within = omega (arith, many, inside, c.requires.states);
      best = made ∙ ap (λ n. map find_in (take n states)) (sym many);
      each = c.add_passed.ensures.each;
      covered = λ k lt.
          c.add_passed.ensures.covered k lt ∙ ap (λ n. list_any (is_passing ranks c.args.members.now states k) (range_with_len 0 n)) (sym many);
    }

pub loop-best-smaller : goal.loop-best-smaller
loop-best-smaller g c =
    let states = g.V.States.list c.args.states.now in let end = c.min-end.result in
    let find_in = λ (state : NodeState). find (is_marked c.args.members.now) state.succ in
    let made : c.add_best.new.best.items ≡ map find_in (take end states) = c.in_ok-add_best.ensures in
    let inside : end ≤ length states = omega (arith, c.min-end.ensures, c.requires.states) in
    let many : length c.add_best.new.best.items ≡ end = many_found find_in states end c.add_best.new.best.items inside made in
    omega (arith, many, c.min-end.ensures, c.len-first.ensures, c.len.ensures, c.loop-best-test.true)

pub returns-clause-best : goal.returns-clause-best
returns-clause-best g c =
    let states = g.V.States.list c.args.states.now in
    let all : length states ≤ length c.loop-best.best.items = omega (
      arith,
      c.loop-best-test.false,
      c.loop-best.invariant.within,
      c.len.ensures,
      c.requires.states,
    ) in
    c.loop-best.invariant.best
    ∙ ap (map (λ (state : NodeState). find (is_marked c.args.members.now) state.succ)) (take_all (length c.loop-best.best.items) states all)
