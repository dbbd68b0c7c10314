use Rattle.std.proofs.Common.{◌≡◌, ◌∙◌, ◌<◌, ◌≤◌, ◌↔◌, ℕ, Bool, List, Option, Some, find, length, map, sym, ap, subst, true}
use Rattle.std.proofs.lemmas.List.{length-map}
use Rattle.std.specs.List.{All}
use Rattle.chord_scenario.specs.World.{node_count}
use Rattle.chord_node.specs.declared.state.NodeState.{NodeState}
use Rattle.chord_audit.specs.Audit.{after, is_member}
use Rattle.chord_audit.specs.Tables.{is_marked, is_passed_rank, is_skipped_rank, node_at}
use Rattle.chord_audit.proofs.Agreement.{best_leads, each_mapped, same_lead, ranks_below}
use Rattle.chord_audit.proofs.tables.Tables.of.Goals as goal

pub ring_of-requires-clause-lead : goal.ring_of-requires-clause-lead
ring_of-requires-clause-lead g c =
    let sc = c.args.scenario.now in let states = (g.V.States.list c.args.states.now) in let best = c.deref-2.result.now in
    let p = is_marked c.deref.result.now in let first = λ (s : NodeState). find p s.succ in
    let is : best ≡ map first states = c.deref-2.ensures.value ∙ c.in_ok-best.ensures.best in
    same_lead (length best) (node_count sc) best (map first states) (each_mapped first sc states best c.requires.each is) is
    (best_leads (node_count sc) p states c.requires.succ)

pub skipped_ranks-requires-clause-ranks : goal.skipped_ranks-requires-clause-ranks
skipped_ranks-requires-clause-ranks g c = ranks_below c.args.scenario.now c.order-order.result.ranks.now c.order-order.ensures.ranks

pub skipped_ranks-requires-clause-lead : goal.skipped_ranks-requires-clause-lead
skipped_ranks-requires-clause-lead g c =
    let sc = c.args.scenario.now in let states = (g.V.States.list c.args.states.now) in
    let p = is_marked c.deref.result.now in let first = λ (s : NodeState). find p s.succ in
    same_lead (length c.order-order.result.ranks.now) (node_count sc) c.deref-4.result.now (map first states)
    c.order-order.ensures.ranks.each (c.deref-4.ensures.value ∙ c.in_ok-best.ensures.best)
    (best_leads (node_count sc) p states c.requires.succ)

pub read_lists-requires-clause-ranks : goal.read_lists-requires-clause-ranks
read_lists-requires-clause-ranks g c = ranks_below c.args.scenario.now c.order-order.result.ranks.now c.order-order.ensures.ranks

pub read_lists-requires-clause-nodes : goal.read_lists-requires-clause-nodes
read_lists-requires-clause-nodes g c = c.order-order.ensures.nodes

pub read_lists-requires-clause-members : goal.read_lists-requires-clause-members
read_lists-requires-clause-members g c =
    ap (λ (l : List Bool). length l) (c.deref.ensures.value ∙ c.in_ok-members.ensures) ∙ length-map (g.V.States.list c.args.states.now) is_member
    ∙ c.requires.each ∙ sym c.order-order.ensures.ranks.each

pub read_lists-requires-clause-states : goal.read_lists-requires-clause-states
read_lists-requires-clause-states g c = c.requires.each ∙ sym c.order-order.ensures.ranks.each

pub read_lists-requires-clause-succ : goal.read_lists-requires-clause-succ
read_lists-requires-clause-succ g c =
    subst (λ (k : ℕ). All (λ (s : NodeState). All (λ n. n < k) s.succ) (g.V.States.list c.args.states.now)) (sym c.order-order.ensures.ranks.each)
    c.requires.succ

pub returns : goal.returns
returns g c =
    let states = g.V.States.list c.args.states.now in let ranks = c.order-order.result.ranks.now in
    let ring = c.in_ok-ring.ring.items in let skipped = c.in_ok-skipped.skipped.items in let passed = c.in_ok-best.field-0.passed.items in
    record {
      range = c.recall_range.ensures;
      each = c.requires.each;
      succ = c.requires.succ;
      members_are = c.in_ok-members.ensures;
      best_are = c.in_ok-best.ensures.best ∙ ap (λ (l : List Bool). map (λ (s : NodeState). find (is_marked l) s.succ) states) c.deref.ensures.value;
      ring_each = c.in_ok-ring.ensures.length ∙ ap (λ (l : List (Option ℕ)). length l) c.deref-2.ensures.value;
      ring_are = subst
          (λ (l : List (Option ℕ)). (n : ℕ) → n < length l → (is_marked ring n ≡ true) ↔ ((steps : ℕ) × (1 ≤ steps) × (after (node_at l) steps n ≡ Some n)))
          c.deref-2.ensures.value c.in_ok-ring.ensures.back;
      ranks_are = c.order-order.ensures.ranks;
      skipped_are = λ k lt.
          c.in_ok-skipped.ensures.skipped k lt
          ∙ ap (λ (l : List Bool). is_skipped_rank ranks l c.deref-4.result.now k) c.deref-3.ensures.value
          ∙ ap (λ (l : List (Option ℕ)). is_skipped_rank ranks ring l k) c.deref-4.ensures.value;
      skipped_each = c.in_ok-skipped.ensures.length;
      passed_each = c.in_ok-best.ensures.each;
      passed_are = λ k lt. c.in_ok-best.ensures.passed k lt ∙ ap (λ (l : List Bool). is_passed_rank ranks l states k) c.deref.ensures.value;
    }
