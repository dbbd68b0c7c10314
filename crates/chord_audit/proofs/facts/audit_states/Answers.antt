use Rattle.std.proofs.Common.{◌≡◌, ◌∙◌, ◌&&◌, ◌==◌, ℕ, Bool, List, Option, count_by, is_none, not, nat_lt, length, sym, ap, lt-ltb, le-ltb, true, false, arith}
use Rattle.std.specs.List.{list_any, range_with_len}
use Rattle.chord_audit.specs.Tables.{is_marked, is_marked_rank, node_at}
use Rattle.chord_audit.proofs.Agreement.{few_nodes, many_best, many_members, many_ring, ranks_within, members_count, dead_are, ring_count, any_is, principals_are, line_is}
use Rattle.chord_audit.proofs.Lists.{first_false}
use Rattle.chord_audit.proofs.facts.audit_states.Goals as goal
use Rattle.chord_audit.proofs.facts.audit_states.Goals.{then-list-principals, else-list-principals}

pub count_dead-dead-requires-clause-few : goal.count_dead-dead-requires-clause-few
count_dead-dead-requires-clause-few g c =
    let are = c.in_ok-tables.ensures in
    few_nodes c.args.scenario.now (length c.deref.result.now) are.range (ap (λ (l : List Bool). length l) c.deref.ensures.value ∙ many_members are)

pub count_dead-dead-requires-clause-best : goal.count_dead-dead-requires-clause-best
count_dead-dead-requires-clause-best g c =
    let are = c.in_ok-tables.ensures in
    ap (λ (l : List (Option ℕ)). length l) c.deref-2.ensures.value ∙ many_best are
    ∙ sym (ap (λ (l : List Bool). length l) c.deref.ensures.value ∙ many_members are)

pub count_principals-principals-requires-clause-few : goal.count_principals-principals-requires-clause-few
count_principals-principals-requires-clause-few g c =
    let are = c.in_ok-tables.ensures in
    few_nodes c.args.scenario.now (length c.deref-3.result.now) are.range (ap (λ (l : List Bool). length l) c.deref-3.ensures.value ∙ many_members are)

pub count_principals-principals-requires-clause-ranks : goal.count_principals-principals-requires-clause-ranks
count_principals-principals-requires-clause-ranks g c =
    let are = c.in_ok-tables.ensures in
    are.ranks_are.each
    ∙ sym (ap (λ (l : List Bool). length l) c.deref-3.ensures.value ∙ many_members are)

pub count_principals-principals-requires-clause-within : goal.count_principals-principals-requires-clause-within
count_principals-principals-requires-clause-within g c =
    let are = c.in_ok-tables.ensures in
    ranks_within c.args.scenario.now c.in_ok-tables.tables.ranks.now (length c.deref-4.result.now) are.ranks_are
    (ap (λ (l : List Bool). length l) c.deref-4.ensures.value ∙ are.passed_each)

pub count_marked-requires : goal.count_marked-requires
count_marked-requires g c =
    let are = c.in_ok-tables.ensures in
    few_nodes c.args.scenario.now (length c.deref-5.result.now) are.range (ap (λ (l : List Bool). length l) c.deref-5.ensures.value ∙ many_members are)

pub count_marked-requires-2 : goal.count_marked-requires-2
count_marked-requires-2 g c =
    let are = c.in_ok-tables.ensures in
    few_nodes c.args.scenario.now (length c.deref-6.result.now) are.range (ap (λ (l : List Bool). length l) c.deref-6.ensures.value ∙ many_ring are)

pub any_skipped-requires-clause-ranks : goal.any_skipped-requires-clause-ranks
any_skipped-requires-clause-ranks g c =
    let are = c.in_ok-tables.ensures in
    are.ranks_are.each
    ∙ sym (ap (λ (l : List Bool). length l) c.deref-7.ensures.value ∙ many_ring are)

pub any_skipped-requires-clause-within : goal.any_skipped-requires-clause-within
any_skipped-requires-clause-within g c =
    let are = c.in_ok-tables.ensures in
    ranks_within c.args.scenario.now c.in_ok-tables.tables.ranks.now (length c.deref-8.result.now) are.ranks_are
    (ap (λ (l : List Bool). length l) c.deref-8.ensures.value ∙ are.skipped_each)

pub returns : goal.returns
returns g c = λ state agree.
    let sc = c.args.scenario.now in let states = (g.V.States.list c.args.states.now) in let tables = c.in_ok-tables.tables in let are = c.in_ok-tables.ensures in
    let members = tables.members.items in let best = tables.best.items in let ring = tables.ring.items in let ranks = tables.ranks.now in
    let skipped = tables.skipped.items in let passed = tables.passed.items in
    line_is sc state c.args.time c.count_marked.result c.count_dead-dead.result c.count_marked-2.result (not c.any_skipped.result)
    c.count_principals-principals.result c.if-list-principals.result
    (c.count_marked.ensures ∙ ap (λ (l : List Bool). count_by (is_marked l) (range_with_len 0 (length l))) c.deref-5.ensures.value
    ∙ members_count sc states members best ring ranks skipped passed are state agree)
    (c.count_dead-dead.ensures
    ∙ ap (λ (l : List Bool). count_by (λ n. is_marked l n && is_none (node_at c.deref-2.result.now n)) (range_with_len 0 (length l))) c.deref.ensures.value
    ∙ ap (λ (l : List (Option ℕ)). count_by (λ n. is_marked members n && is_none (node_at l n)) (range_with_len 0 (length members))) c.deref-2.ensures.value
    ∙ dead_are sc states members best ring ranks skipped passed are state agree)
    (c.count_marked-2.ensures ∙ ap (λ (l : List Bool). count_by (is_marked l) (range_with_len 0 (length l))) c.deref-6.ensures.value
    ∙ ring_count sc states members best ring ranks skipped passed are state agree)
    (ap not (c.any_skipped.ensures
    ∙ ap (λ (l : List Bool). list_any (λ n. is_marked l n && is_marked_rank ranks c.deref-8.result.now n)
    (range_with_len 0 (length l))) c.deref-7.ensures.value
    ∙ ap (λ (l : List Bool). list_any (λ n. is_marked ring n && is_marked_rank ranks l n) (range_with_len 0 (length ring))) c.deref-8.ensures.value
    ∙ any_is sc states members best ring ranks skipped passed are state agree))
    (c.count_principals-principals.ensures
    ∙ ap (λ (l : List Bool). count_by (λ n. is_marked l n && not (is_marked_rank ranks c.deref-4.result.now n))
    (range_with_len 0 (length l))) c.deref-3.ensures.value
    ∙ ap (λ (l : List Bool). count_by (λ n. is_marked members n && not (is_marked_rank ranks l n)) (range_with_len 0 (length members))) c.deref-4.ensures.value
    ∙ principals_are sc states members best ring ranks skipped passed are state agree)
    (elim c.if-list-principals.branch [
      | then-list-principals w ↦
          let more : nat_lt sc.list c.count_principals-principals.result
          ≡ true = lt-ltb sc.list c.count_principals-principals.result (omega (arith, c.list.ensures)) in
          w.result-is ∙ sym (ap (λ b. b && (c.count_dead-dead.result == 0)) more)
      | else-list-principals w ↦
          let less : nat_lt sc.list c.count_principals-principals.result
          ≡ false = le-ltb sc.list c.count_principals-principals.result (omega (arith, c.list.ensures)) in
          w.result-is ∙ ap (λ k. nat_lt k c.count_principals-principals.result) c.list.ensures ∙ less
          ∙ sym (first_false (nat_lt sc.list c.count_principals-principals.result) (c.count_dead-dead.result == 0) less)
    ])
