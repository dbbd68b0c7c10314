-- A node that is looked at twice in a row counts once, in the search for the closest preceding node.
use Rattle.std.proofs.Common.{◌≡◌, ℕ, ◌+◌, ◌&&◌, Bool, true, false, not, List, [], ◌∷◌, ◌++◌, ◌∙◌, ◌-◌, arith, refl, sym, nat_le, nat_lt, Some, None}
use Rattle.std.proofs.lemmas.Bool.Decides.{nat_tests}
use Rattle.std.specs.List.{filter, fold}
use Rattle.std.specs.Prelude.{if◌then◌else◌}
use Rattle.chord_scenario.specs.declared.scenario.Scenario.{Scenario}
use Rattle.chord_circle.proofs.Distance.{distance-ahead}
use Rattle.chord_circle.specs.Circle.{distance}
use Rattle.chord_scenario.specs.World.{ident_of}
use Rattle.chord_node.specs.declared.state.NodeState.{NodeState}
use Rattle.chord_ops.specs.declared.search.Way.{Way}
use Rattle.chord_ops.specs.Search.{IsWay, closest_preceding, farther, is_avoided, is_closer, list_nodes, precedes, routing_nodes, successor_in_use, visited}

-- how far a node is from node n
abbrev far : Scenario → (n x : ℕ) → ℕ
far sc n x = distance sc.bits (ident_of sc n) (ident_of sc x)

-- a node is no farther than the farther of itself and another
farther_again : (sc : Scenario) (n c x : ℕ) (b : Bool) → nat_lt (far sc n c) (far sc n x) ≡ b → farther sc n (if b then x else c) x ≡ (if b then x else c)
farther_again sc n c x true e = elim (nat_lt (far sc n x) (far sc n x)) as (λ t. (if t then x else x) ≡ x) [ true ↦ refl | false ↦ refl ]
farther_again sc n c x false e = rw (e) refl

-- to look at a node again changes nothing
pub visited_again : (sc : Scenario) (n key : ℕ) (avoid : List ℕ) (c x : ℕ) → visited sc n key avoid (visited sc n key avoid c x) x ≡ visited sc n key avoid c x
visited_again sc n key avoid c x =
    elim (precedes sc n key avoid x) as (λ p. (if p then farther sc n (if p then farther sc n c x else c) x else (if p then farther sc n c x else c))
    ≡ (if p then farther sc n c x else c)) [
      | true ↦ farther_again sc n c x (nat_lt (far sc n c) (far sc n x)) refl
      | false ↦ refl
    ]

-- to search among the nodes that precede the key is to look at all nodes one after the other
pub visited_all : (sc : Scenario) (n key : ℕ) (avoid : List ℕ) (c : ℕ) (xs : List ℕ)
    → fold (farther sc n) c (filter (precedes sc n key avoid) xs) ≡ fold (visited sc n key avoid) c xs
visited_all sc n key avoid c [] = refl
visited_all sc n key avoid c (x ∷ xs) =
    elim (precedes sc n key avoid x) as (λ p. fold (farther sc n) c (if p then x ∷ filter (precedes sc n key avoid) xs else filter (precedes sc n key avoid) xs)
    ≡ fold (visited sc n key avoid) (if p then farther sc n c x else c) xs) [
      | true ↦ visited_all sc n key avoid (farther sc n c x) xs
      | false ↦ visited_all sc n key avoid c xs
    ]

-- to look at nodes and then at more
looked_on : (f : ℕ → ℕ → ℕ) (c : ℕ) (xs ys : List ℕ) → fold f (fold f c xs) ys ≡ fold f c (xs ++ ys)
looked_on f c [] ys = refl
looked_on f c (x ∷ xs) ys = looked_on f (f c x) xs ys

-- the closest preceding node, by looking at the successor in use, then at the list if it routes, and then at the fingers
pub closest_after_some : (sc : Scenario) (s : NodeState) (key : ℕ) (avoid : List ℕ) (x : ℕ) → Some x ≡ successor_in_use s avoid
    → fold (visited sc s.me key avoid) (fold (visited sc s.me key avoid) (visited sc s.me key avoid s.me x) (list_nodes sc s)) s.fingers
    ≡ closest_preceding sc s key avoid
unfolding closest_preceding
closest_after_some sc s key avoid x found =
    let step : ℕ → ℕ → ℕ = visited sc s.me key avoid in
    looked_on step (step s.me x) (list_nodes sc s) s.fingers ∙ rw (visited_all sc s.me key avoid s.me (routing_nodes sc s avoid), ← found) refl

-- the closest preceding node without a successor in use, by looking at the others
pub closest_after_none : (sc : Scenario) (s : NodeState) (key : ℕ) (avoid : List ℕ) → None ≡ successor_in_use s avoid
    → fold (visited sc s.me key avoid) (fold (visited sc s.me key avoid) s.me (list_nodes sc s)) s.fingers ≡ closest_preceding sc s key avoid
unfolding closest_preceding
closest_after_none sc s key avoid found =
    looked_on (visited sc s.me key avoid) s.me (list_nodes sc s) s.fingers
    ∙ rw (visited_all sc s.me key avoid s.me (routing_nodes sc s avoid), ← found) refl

-- what is chosen of c and x: `closer`, `before`, `free` and `moves` say that x is farther than c, that it lies before the key,
-- that it is not to be avoided, and that it is at any distance at all
chosen : (free moves before closer : Bool) (c x : ℕ) → (closer ≡ true → moves ≡ true)
    → (if free && (moves && before) then (if closer then x else c) else c) ≡ (if closer && before && free then x else c)
chosen true true true true c x h = refl
chosen true true true false c x h = refl
chosen true true false true c x h = refl
chosen true true false false c x h = refl
chosen true false before true c x h = let never : false ≡ true = h refl in absurd (cc)
chosen true false before false c x h = refl
chosen false moves true true c x h = refl
chosen false moves true false c x h = refl
chosen false moves false true c x h = refl
chosen false moves false false c x h = refl

-- below the next number, or up to this one
lt_next : (m n : ℕ) → nat_lt m (n + 1) ≡ nat_le m n
lt_next m n = by (nat_lt m (n + 1)) (nat_le m n) refl refl
  where
    by : (below upto : Bool) → nat_lt m (n + 1) ≡ below → nat_le m n ≡ upto → below ≡ upto
    by true true below reached = refl
    by true false below reached = grind (arith, nat_tests)
    by false true below reached = grind (arith, nat_tests)
    by false false below reached = refl

-- to look at a node is to take it if it is closer, by distances that are known
pub visited_closer : (sc : Scenario) (way : Way) (avoid : List ℕ) (c x so_far there : ℕ) → IsWay sc way
    → so_far ≡ distance sc.bits way.home (ident_of sc c) → there ≡ distance sc.bits way.home (ident_of sc x)
    → visited sc way.me way.key avoid c x ≡ (if is_closer way avoid so_far there x then x else c)
visited_closer sc way avoid c x so_far there h is_c is_x =
    let moves : nat_lt so_far there ≡ true → nat_lt 0 there ≡ true = λ farther. grind (arith, nat_tests) in
    rw (← h.home, ← h.last, ← is_c, ← is_x, lt_next there way.last) (chosen (not (is_avoided avoid x)) (nat_lt 0 there) (nat_le there way.last) (nat_lt so_far there) c x moves)

-- a node that is closer is taken
pub taken : (look : ℕ → ℕ → ℕ) (c x : ℕ) (closer : Bool) → look c x ≡ (if closer then x else c) → closer ≡ true → look c x ≡ x
taken look c x closer is passes = is ∙ rw (passes) refl

-- and another one is not
pub kept : (look : ℕ → ℕ → ℕ) (c x : ℕ) (closer : Bool) → look c x ≡ (if closer then x else c) → closer ≡ false → look c x ≡ c
kept look c x closer is fails = is ∙ rw (fails) refl

-- a node is at no distance from itself
pub at_home : (sc : Scenario) (way : Way) → IsWay sc way → 0 ≡ distance sc.bits way.home (ident_of sc way.me)
at_home sc way h =
    let none : way.home - way.home ≡ 0 = omega arith in
    rw (← h.home) (sym (distance-ahead sc.bits way.home way.home (omega arith) h.on_circle ∙ none))
