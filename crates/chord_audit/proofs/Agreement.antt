-- What the tables of an audit say of the states of the nodes.
use Rattle.std.proofs.Common.{
  ◌≡◌,
  ℕ,
  zero,
  suc,
  ◌+◌,
  ◌<◌,
  ◌≤◌,
  ◌^◌,
  Bool,
  true,
  false,
  cond,
  ◌&&◌,
  ◌||◌,
  List,
  [],
  ◌∷◌,
  map,
  filter,
  length,
  get_or,
  slice_index,
  Option,
  Some,
  None,
  IfSome,
  find,
  count_by,
  is_none,
  not,
  nat_lt,
  ◌==◌,
  refl,
  sym,
  ap,
  ◌∙◌,
  subst,
  arith,
  option_and_then,
}
use Rattle.std.specs.List.{All, list_any, range_with_len}
use Rattle.std.proofs.Math.Dec.{eqb}
use Rattle.std.proofs.lemmas.Bool.{eq-eqb}
use Rattle.std.proofs.lemmas.List.{get_or-map, get_or_default, length-map}
use Rattle.std.proofs.lemmas.List.Sums.{length-filter}
use Rattle.chord_scenario.specs.Order.{AreRanks}
use Rattle.chord_scenario.specs.Range.{IsInRange}
use Rattle.chord_scenario.specs.Setup.{Setup}
use Rattle.chord_scenario.specs.World.{node_count}
use Rattle.chord_node.specs.declared.state.NodeState.{NodeState}
use Rattle.chord_audit.specs.Audit.{
  AreStates,
  nodes,
  is_dead,
  is_member,
  is_ordered,
  is_principal,
  dead_count,
  principal_count,
  audit_facts,
  best_successor,
  after,
  comes_back,
  is_at,
  member_count,
  is_on_ring,
  lies_between,
  lies_before,
  is_skipped,
  is_passed,
  is_passed_over,
}
use Rattle.chord_audit.specs.Tables.{
  AreTables,
  LeadBelow,
  is_marked,
  node_at,
  list_of,
  is_marked_rank,
  is_inside_before,
  is_inside_list,
  is_skipping,
  is_passing,
}
use Rattle.chord_audit.proofs.Lists.{any_same, count_same, any_found, any_at, same_test, both_true, second_true}
use Rattle.chord_audit.proofs.Places.{lies_inside}
use Rattle.chord_audit.proofs.Powers.{is_at-true, at-is_at}
use Rattle.chord_audit.proofs.Rings.{Leads, after_below, after_same, comes_later, comes_back_within}

-- the first entry that passes

pub find_below : (most : ℕ) (p : ℕ → Bool) (xs : List ℕ) → All (λ m. m < most) xs → IfSome (find p xs) (λ m. m < most)
find_below most p [] all = tt
find_below most p (x ∷ xs) all = first (p x) (find_below most p xs (λ k d lt. all (suc k) d (omega arith)))
  where
    first : (b : Bool) → IfSome (find p xs) (λ m. m < most) → IfSome (cond b (Some x) (find p xs)) (λ m. m < most)
    first true rest = all 0 0 (omega arith)
    first false rest = rest

pub find_same : (most : ℕ) (p q : ℕ → Bool) (xs : List ℕ) → All (λ m. m < most) xs → ((x : ℕ) → x < most → p x ≡ q x) → find p xs ≡ find q xs
find_same most p q [] all same = refl
find_same most p q (x ∷ xs) all same =
    ap (λ b. cond b (Some x) (find p xs)) (same x (all 0 0 (omega arith)))
    ∙ ap (λ o. cond (q x) (Some x) o) (find_same most p q xs (λ k d lt. all (suc k) d (omega arith)) same)

pub find_passes : (p : ℕ → Bool) (xs : List ℕ) (m : ℕ) → find p xs ≡ Some m → p m ≡ true
find_passes p [] m h = absurd cc
find_passes p (x ∷ xs) m h = first (p x) refl h (λ r. find_passes p xs m r)
  where
    first : (b : Bool) → p x ≡ b → cond b (Some x) (find p xs) ≡ Some m → (find p xs ≡ Some m → p m ≡ true) → p m ≡ true
    first true e s rest = let same : x ≡ m = cc in sym (ap p same) ∙ e
    first false e s rest = rest s

pub best_leads : (most : ℕ) (p : ℕ → Bool) (states : List NodeState) → All (λ s. All (λ m. m < most) s.succ) states
    → LeadBelow most (map (λ s. find p s.succ) states)
best_leads most p [] all k d lt = absurd (omega arith)
best_leads most p (s ∷ ss) all zero d lt = find_below most p s.succ (all 0 s (omega arith))
best_leads most p (s ∷ ss) all (suc k) d lt = best_leads most p ss (λ i e l. all (suc i) e (omega arith)) k d (omega arith)

any_filtered : (test p : ℕ → Bool) (xs : List ℕ) → list_any test (filter p xs) ≡ list_any (λ x. p x && test x) xs
any_filtered test p [] = refl
any_filtered test p (x ∷ xs) = one (p x) ∙ ap (λ b. (p x && test x) || b) (any_filtered test p xs)
  where
    one : (b : Bool) → list_any test (cond b (x ∷ filter p xs) (filter p xs)) ≡ ((b && test x) || list_any test (filter p xs))
    one true = refl
    one false = refl

any_filter : (test p : ℕ → Bool) (n q : ℕ) → q < n → test q ≡ true → p q ≡ true → list_any test (filter p (range_with_len 0 n)) ≡ true
any_filter test p n q lt found passes =
    any_filtered test p (range_with_len 0 n) ∙ any_at (λ x. p x && test x) 0 n q (omega arith) (omega arith) (both_true (p q) (test q) passes found)

pub ranks_below : (sc : Setup) (ranks : List ℕ) → AreRanks sc ranks → All (λ rank. rank < length ranks) ranks
ranks_below sc ranks are k d lt =
    let low : slice_index ranks k < node_count sc = are.within k (omega (arith, are.each)) in
    let same : get_or ranks k d ≡ slice_index ranks k = get_or_default ranks k d 0 lt in
    omega (arith, are.each)

pub ranks_within : (sc : Setup) (ranks : List ℕ) (n : ℕ) → AreRanks sc ranks → n ≡ length ranks → All (λ rank. rank < n) ranks
ranks_within sc ranks n are each = subst (λ k. All (λ rank. rank < k) ranks) (sym each) (ranks_below sc ranks are)

-- a table of what a function makes of each state has an entry of each node
pub each_mapped : {A : Type 0} (f : NodeState → A) (sc : Setup) (states : List NodeState) (table : List A)
    → length states ≡ node_count sc → table ≡ map f states → length table ≡ node_count sc
each_mapped f sc states table each is = ap (λ (l : List _). length l) is ∙ length-map states f ∙ each

pub few_nodes : (sc : Setup) (n : ℕ) → IsInRange sc → n ≡ node_count sc → n < 2 ^ 32
few_nodes sc n range each = omega (arith, range.nodes.greatest, each)

-- the lists of the states name nodes below a number, which is that of the nodes
pub succ_within : (sc : Setup) (states : List NodeState) (n : ℕ) → n ≡ node_count sc
    → All (λ s. All (λ m. m < node_count sc) s.succ) states → All (λ s. All (λ m. m < n) s.succ) states
succ_within sc states n each all = subst (λ k. All (λ (s : NodeState). All (λ m. m < k) s.succ) states) (sym each) all

-- how many entries the tables have
pub many_members : {sc : Setup} {states : List NodeState} {members : List Bool} {best : List (Option ℕ)} {ring : List Bool} {ranks : List ℕ}
    {skipped passed : List Bool} → AreTables sc states members best ring ranks skipped passed → length members ≡ node_count sc
many_members {sc} {states} {members} t = each_mapped is_member sc states members t.each t.members_are

pub many_best : {sc : Setup} {states : List NodeState} {members : List Bool} {best : List (Option ℕ)} {ring : List Bool} {ranks : List ℕ}
    {skipped passed : List Bool} → AreTables sc states members best ring ranks skipped passed → length best ≡ node_count sc
many_best {sc} {states} {members} {best} t = each_mapped (λ s. find (is_marked members) s.succ) sc states best t.each t.best_are

pub many_ring : {sc : Setup} {states : List NodeState} {members : List Bool} {best : List (Option ℕ)} {ring : List Bool} {ranks : List ℕ}
    {skipped passed : List Bool} → AreTables sc states members best ring ranks skipped passed → length ring ≡ node_count sc
many_ring t = t.ring_each ∙ many_best t

module _ (sc : Setup) (states : List NodeState) (members : List Bool) (best : List (Option ℕ)) (ring : List Bool) (ranks : List ℕ)
    (skipped passed : List Bool) (t : AreTables sc states members best ring ranks skipped passed) (state : ℕ → NodeState)
    (agree : AreStates sc states state) where
  here : (n : ℕ) → n < node_count sc → n < length states
  here n lt = omega (arith, t.each)

  pub member_is : (n : ℕ) → n < node_count sc → is_marked members n ≡ is_member (state n)
  member_is n lt =
      ap (λ l. is_marked l n) t.members_are ∙ get_or-map is_member states n (state n) false (here n lt) ∙ ap is_member (agree n lt)

  succ_below : (n : ℕ) → n < node_count sc → All (λ m. m < node_count sc) (state n).succ
  succ_below n lt = subst (λ (s : NodeState). All (λ m. m < node_count sc) s.succ) (agree n lt) (t.succ n (state n) (here n lt))

  pub best_is : (n : ℕ) → n < node_count sc → node_at best n ≡ best_successor state n
  best_is n lt =
      ap (λ l. node_at l n) t.best_are
      ∙ get_or-map (λ (s : NodeState). find (is_marked members) s.succ) states n (state n) None (here n lt)
      ∙ ap (λ (s : NodeState). find (is_marked members) s.succ) (agree n lt)
      ∙ find_same (node_count sc) (is_marked members) (λ m. is_member (state m)) (state n).succ (succ_below n lt) member_is

  list_is : (n : ℕ) → n < node_count sc → list_of states n ≡ (state n).succ
  list_is n lt = get_or-map (λ (s : NodeState). s.succ) states n (state n) [] (here n lt) ∙ ap (λ (s : NodeState). s.succ) (agree n lt)

  leads : Leads (node_count sc) (best_successor state)
  leads n m lt h =
      subst (λ (o : Option ℕ). IfSome o (λ m. m < node_count sc)) h (find_below (node_count sc) (λ m. is_member (state m)) (state n).succ (succ_below n lt))

  led_member : (n : ℕ) (o : Option ℕ) (m : ℕ) → option_and_then (best_successor state) o ≡ Some m → is_member (state m) ≡ true
  led_member n None m h = absurd cc
  led_member n (Some q) m h = find_passes (λ k. is_member (state k)) (state q).succ m h

  pub ring_is : (n : ℕ) → n < node_count sc → is_marked ring n ≡ is_on_ring sc state n
  ring_is n lt = same_test (is_marked ring n) (is_on_ring sc state n) on off
    where
      same : (k : ℕ) → after (best_successor state) k n ≡ after (node_at best) k n
      same k = after_same (node_count sc) (best_successor state) (node_at best) leads (λ m low. sym (best_is m low)) k n lt

      member_in : (i q : ℕ) → after (best_successor state) (suc i) n ≡ Some q → list_any (eqb q) (filter (λ m. is_member (state m)) (nodes sc)) ≡ true
      member_in i q e =
          let low : q < node_count sc = after_below (node_count sc) (best_successor state) leads (suc i) n q lt e in
          let member : is_member (state q) ≡ true = led_member n (after (best_successor state) i n) q e in
          any_filter (eqb q) (λ m. is_member (state m)) (node_count sc) q low (eq-eqb q q refl) member

      on : is_marked ring n ≡ true → is_on_ring sc state n ≡ true
      on h =
          let back = (t.ring_are n (omega (arith, many_best t))).0 h in
          let round : after (best_successor state) back.0 n ≡ Some n = same back.0 ∙ back.2 in
          let later = comes_later (best_successor state) back.0 n back.1 round (suc (member_count sc state)) in
          let many : length (filter (λ m. is_member (state m)) (nodes sc)) ≡ member_count sc state = length-filter (λ m. is_member (state m)) (nodes sc) in
          let short = comes_back_within (best_successor state) (filter (λ m. is_member (state m)) (nodes sc)) later.0 n n member_in
          (omega (arith, many, later.1)) later.2 in
          let some : 1 ≤ short.0 = short.1 in
          let few : short.0 ≤ length (filter (λ m. is_member (state m)) (nodes sc)) = short.2 in
          both_true (is_member (state n)) (comes_back (best_successor state) (member_count sc state) n)
          (came short.0 some short.3)
          (any_at (λ k. is_at (after (best_successor state) k n) n) 1 (member_count sc state) short.0 some (omega (arith, many))
          (at-is_at (after (best_successor state) short.0 n) n short.3))
        where
          came : (d : ℕ) → 1 ≤ d → after (best_successor state) d n ≡ Some n → is_member (state n) ≡ true
          came zero some e = absurd (omega arith)
          came (suc d) some e = led_member n (after (best_successor state) d n) n e

      off : is_on_ring sc state n ≡ true → is_marked ring n ≡ true
      off h =
          let back = second_true (is_member (state n)) (comes_back (best_successor state) (member_count sc state) n) h in
          let steps = any_found (λ k. is_at (after (best_successor state) k n) n) 1 (member_count sc state) back in
          let round : after (node_at best) steps.0 n ≡ Some n = sym (same steps.0) ∙ is_at-true (after (best_successor state) steps.0 n) n steps.3 in
          (t.ring_are n (omega (arith, many_best t))).1 (steps.0, steps.1, round)

  before_is : (n x : ℕ) → n < node_count sc → x < node_count sc → (o : Option ℕ) → IfSome o (λ m. m < node_count sc)
      → is_inside_before ranks (slice_index ranks x) n o ≡ lies_before sc n x o
  before_is n x ln lx None low = refl
  before_is n x ln lx (Some b) low = sym (lies_inside sc ranks t.range t.ranks_are n x b ln lx low)

  list_inside : (a x : ℕ) (xs : List ℕ) → a < node_count sc → x < node_count sc → All (λ m. m < node_count sc) xs
      → is_inside_list ranks (slice_index ranks x) a xs ≡ is_passed sc x a xs
  list_inside a x [] la lx all = refl
  list_inside a x (b ∷ rest) la lx all =
      let lb : b < node_count sc = all 0 0 (omega arith) in
      ap (λ c. c || is_inside_list ranks (slice_index ranks x) b rest) (sym (lies_inside sc ranks t.range t.ranks_are a x b la lx lb))
      ∙ ap (λ c. lies_between sc a x b || c) (list_inside b x rest lb lx (λ k d lt. all (suc k) d (omega arith)))

  pub skipped_is : (x : ℕ) → x < node_count sc → is_marked_rank ranks skipped x ≡ is_skipped sc state x
  skipped_is x lx =
      let each : length ranks ≡ node_count sc = t.ranks_are.each in
      t.skipped_are (slice_index ranks x) (omega (arith, each, t.ranks_are.within x lx))
      ∙ ap (λ n. list_any (is_skipping ranks ring best (slice_index ranks x)) (range_with_len 0 n)) each
      ∙ any_same (is_skipping ranks ring best (slice_index ranks x)) (λ n. is_on_ring sc state n && lies_before sc n x (best_successor state n)) 0
      (node_count sc) one
    where
      one : (n : ℕ) → 0 ≤ n → n < 0 + node_count sc → is_skipping ranks ring best (slice_index ranks x) n
          ≡ (is_on_ring sc state n && lies_before sc n x (best_successor state n))
      one n low lt =
          let ln : n < node_count sc = omega arith in
          ap (λ b. b && is_inside_before ranks (slice_index ranks x) n (node_at best n)) (ring_is n ln)
          ∙ ap (λ o. is_on_ring sc state n && is_inside_before ranks (slice_index ranks x) n o) (best_is n ln)
          ∙ ap (λ b. is_on_ring sc state n && b) (before_is n x ln lx (best_successor state n)
          (find_below (node_count sc) (λ m. is_member (state m)) (state n).succ (succ_below n ln)))

  pub passed_is : (x : ℕ) → x < node_count sc → is_marked_rank ranks passed x ≡ is_passed_over sc state x
  passed_is x lx =
      let each : length ranks ≡ node_count sc = t.ranks_are.each in
      t.passed_are (slice_index ranks x) (omega (arith, each, t.ranks_are.within x lx))
      ∙ ap (λ n. list_any (is_passing ranks members states (slice_index ranks x)) (range_with_len 0 n)) each
      ∙ any_same (is_passing ranks members states (slice_index ranks x)) (λ n. is_member (state n) && is_passed sc x n (state n).succ) 0 (node_count sc) one
    where
      one : (n : ℕ) → 0 ≤ n → n < 0 + node_count sc → is_passing ranks members states (slice_index ranks x) n
          ≡ (is_member (state n) && is_passed sc x n (state n).succ)
      one n low lt =
          let ln : n < node_count sc = omega arith in
          ap (λ b. b && is_inside_list ranks (slice_index ranks x) n (list_of states n)) (member_is n ln)
          ∙ ap (λ l. is_member (state n) && is_inside_list ranks (slice_index ranks x) n l) (list_is n ln)
          ∙ ap (λ b. is_member (state n) && b) (list_inside n x (state n).succ ln lx (succ_below n ln))

  -- the counts of the nodes

  pub members_count : count_by (is_marked members) (range_with_len 0 (length members)) ≡ member_count sc state
  members_count =
      ap (λ n. count_by (is_marked members) (range_with_len 0 n)) (many_members t)
      ∙ count_same (is_marked members) (λ n. is_member (state n)) 0 (node_count sc) (λ n low lt. member_is n (omega arith))

  pub dead_are : count_by (λ n. is_marked members n && is_none (node_at best n)) (range_with_len 0 (length members)) ≡ dead_count sc state
  dead_are =
      ap (λ n. count_by (λ n. is_marked members n && is_none (node_at best n)) (range_with_len 0 n)) (many_members t)
      ∙ count_same (λ n. is_marked members n && is_none (node_at best n)) (is_dead state) 0 (node_count sc) (λ n low lt.
      ap (λ b. b && is_none (node_at best n)) (member_is n (omega arith)) ∙ ap (λ o. is_member (state n) && is_none o) (best_is n (omega arith)))

  pub ring_count : count_by (is_marked ring) (range_with_len 0 (length ring)) ≡ count_by (is_on_ring sc state) (nodes sc)
  ring_count =
      ap (λ n. count_by (is_marked ring) (range_with_len 0 n)) (many_ring t)
      ∙ count_same (is_marked ring) (is_on_ring sc state) 0 (node_count sc) (λ n low lt. ring_is n (omega arith))

  pub any_is : list_any (λ n. is_marked ring n && is_marked_rank ranks skipped n) (range_with_len 0 (length ring))
      ≡ list_any (λ x. is_on_ring sc state x && is_skipped sc state x) (nodes sc)
  any_is =
      ap (λ n. list_any (λ n. is_marked ring n && is_marked_rank ranks skipped n) (range_with_len 0 n)) (many_ring t)
      ∙ any_same (λ n. is_marked ring n && is_marked_rank ranks skipped n) (λ x. is_on_ring sc state x && is_skipped sc state x) 0 (node_count sc) (λ n low lt.
      ap (λ b. b && is_marked_rank ranks skipped n) (ring_is n (omega arith)) ∙ ap (λ b. is_on_ring sc state n && b) (skipped_is n (omega arith)))

  pub principals_are : count_by (λ n. is_marked members n && not (is_marked_rank ranks passed n)) (range_with_len 0 (length members)) ≡ principal_count sc state
  principals_are =
      ap (λ n. count_by (λ n. is_marked members n && not (is_marked_rank ranks passed n)) (range_with_len 0 n)) (many_members t)
      ∙ count_same (λ n. is_marked members n && not (is_marked_rank ranks passed n)) (is_principal sc state) 0 (node_count sc) (λ n low lt.
      ap (λ b. b && not (is_marked_rank ranks passed n)) (member_is n (omega arith)) ∙ ap (λ b. is_member (state n) && not b) (passed_is n (omega arith)))

-- a line is that of the facts if its fields are
pub line_is : (sc : Setup) (state : ℕ → NodeState) (time m d r : ℕ) (o : Bool) (p : ℕ) (s : Bool)
    → m ≡ member_count sc state → d ≡ dead_count sc state → r ≡ count_by (is_on_ring sc state) (nodes sc) → o ≡ is_ordered sc state
    → p ≡ principal_count sc state
    → s ≡ (nat_lt sc.list p && (d == 0)) → record {
      time = time;
      members = m;
      dead = d;
      ring = r;
      ordered = o;
      principals = p;
      sufficient = s;
    } ≡ audit_facts sc state time
unfolding audit_facts
line_is sc state time m d r o p s em ed er eo ep es =
    let both : s ≡ (nat_lt sc.list (principal_count sc state) && (dead_count sc state == 0)) =
    es ∙ ap (λ k. nat_lt sc.list k && (d == 0)) ep ∙ ap (λ k. nat_lt sc.list (principal_count sc state) && (k == 0)) ed in
    λ i. record { time = time; members = em i; dead = ed i; ring = er i; ordered = eo i; principals = ep i; sufficient = both i }

pub same_lead : (n m : ℕ) (xs ys : List (Option ℕ)) → n ≡ m → xs ≡ ys → LeadBelow m ys → LeadBelow n xs
same_lead n m xs ys e f h = subst (λ k. LeadBelow k xs) (sym e) (subst (LeadBelow m) (sym f) h)
