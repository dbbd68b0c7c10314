-- The ranks of nodes, while they are noted in their order.
use Rattle.std.proofs.Common.{
  ◌≡◌,
  ◌≢◌,
  ℕ,
  ◌+◌,
  ◌<◌,
  ◌≤◌,
  ◌⊎◌,
  inl,
  inr,
  nat_lt,
  List,
  [],
  ◌∷◌,
  ◌++◌,
  map,
  take,
  length,
  get_or,
  slice_index,
  slice_set,
  refl,
  sym,
  ap,
  ◌∙◌,
  subst,
  arith,
  zero-add,
  lt-ltb,
  le-ltb,
}
use Rattle.std.specs.Prelude.{◌==◌, Bool, true, false}
use Rattle.std.specs.List.{AllPairs, Contains, range_with_len}
use Rattle.std.specs.List.Sorted.{IsNonDecreasingBy, IsPermutation}
use Rattle.std.proofs.lemmas.Bool.{cases_lt}
use Rattle.std.proofs.lemmas.Bool.Decides.{Decides-eqb, nat_tests}
use Rattle.std.proofs.lemmas.List.{get_or-map, get_or_default, length-map, length-set, get_or-set_same, get_or-set_other, map_more}
use Rattle.std.proofs.lemmas.List.FromFn.{get_or-map-range_with_len, get_or-range_with_len, length-range_with_len, length-map-range_with_len}
use Rattle.std.proofs.lemmas.List.Sorted.{Contains-permutation, IsPermutation-map, IsPermutation-sym, length_permutation}
use Rattle.std.proofs.lemmas.Map.Keys.{IsDistinct-IsPermutation}
use Rattle.std.proofs.lemmas.Map.Made.{AllPairs-from_IsDistinct, IsDistinct-from_AllPairs}
use Rattle.chord_scenario.specs.declared.order.Placed.{Placed}
use Rattle.chord_scenario.specs.declared.setting.Node.{Node}
use Rattle.chord_scenario.specs.Order.{AreApart, AreInOrder, AreRanks, AreRanksOf, ident_in, placed}
use Rattle.chord_scenario.specs.Setup.{Setup}
use Rattle.chord_scenario.specs.World.{ident_of}

-- a node at no place of an order
abbrev pub nowhere : Placed
nowhere = record { ident = 0; node = 0 }

-- the node at a place, with its identifier
abbrev pub at : List Placed → ℕ → Placed
at order k = get_or order k nowhere

-- the identifier at a place
abbrev pub ident_at : List Placed → ℕ → ℕ
ident_at order k = (at order k).ident

-- all nodes with their identifiers, in any order
pub record ArePlaced (nodes : List Node) (order : List Placed) : Type 0 where
  pub each : length order ≡ length nodes
  pub known : (k : ℕ) → k < length order → (at order k).node < length nodes
  pub own : (k : ℕ) → k < length order → (at order k).ident ≡ ident_in nodes (at order k).node
  pub all : (n : ℕ) → n < length nodes → (k : ℕ) × (k < length order) × ((at order k).node ≡ n)
  pub apart : (i j : ℕ) → i < j → j < length order → (at order i).node ≢ (at order j).node

-- the ranks of the first k nodes of the order are noted
pub record AreNoted (order : List Placed) (ranks : List ℕ) (k : ℕ) : Type 0 where
  pub each : length ranks ≡ length order
  pub own : (i : ℕ) → i < k → slice_index ranks (at order i).node ≡ i

numbers_of : (nodes : List Node) (ns : List ℕ) → map (λ (p : Placed). p.node) (map (placed nodes) ns) ≡ ns
numbers_of nodes [] = refl
numbers_of nodes (n ∷ ns) = ap (λ rest. n ∷ rest) (numbers_of nodes ns)

-- the nodes by their numbers, moved
pub placed_are : (nodes : List Node) (order : List Placed) → IsPermutation (map (placed nodes) (range_with_len 0 (length nodes))) order → ArePlaced nodes order
placed_are nodes order moved = record {
  each = length_permutation from order moved ∙ many;
  known = λ k lt.
      let c = behind k lt in
      let place : placed nodes c.0 ≡ at order k = sym (is c.0 (omega (arith, c.1, many)) (at order k)) ∙ c.2 in
      subst (λ (x : ℕ). x < length nodes) (ap (λ (p : Placed). p.node) place) (omega (arith, c.1, many));
  own = λ k lt.
      let c = behind k lt in
      let place : placed nodes c.0 ≡ at order k = sym (is c.0 (omega (arith, c.1, many)) (at order k)) ∙ c.2 in
      subst (λ (p : Placed). p.ident ≡ ident_in nodes p.node) place refl;
  all = λ n lt.
      let c : Contains order (placed nodes n) = Contains-permutation from order (placed nodes n) moved (n, omega (arith, lt, many), is n lt (placed nodes n)) in
      (c.0, c.1, ap (λ (p : Placed). p.node) (get_or_default order c.0 nowhere (placed nodes n) c.1 ∙ c.2));
  apart = λ i j less lt same.
      let number = λ (k : ℕ) (l : k < length order). get_or-map (λ (p : Placed). p.node) order k nowhere 0 l in
      different i j 0 less (omega (arith, lt, length-map order (λ (p : Placed). p.node))) (number i (omega (arith, less, lt)) ∙ same ∙ sym (number j lt));
}
  where
    from : List Placed
    from = map (placed nodes) (range_with_len 0 (length nodes))

    many : length from ≡ length nodes
    many = length-map-range_with_len (placed nodes) 0 (length nodes)

    is : (n : ℕ) → n < length nodes → (d : Placed) → get_or from n d ≡ placed nodes n
    is n lt d = get_or-map-range_with_len (placed nodes) 0 (length nodes) n n d lt (zero-add n)

    -- the numbers of the nodes are moved as the nodes are, and no two are equal
    numbers : map (λ (p : Placed). p.node) from ≡ range_with_len 0 (length nodes)
    numbers = numbers_of nodes (range_with_len 0 (length nodes))

    different : AllPairs (λ x y. x ≢ y) (map (λ (p : Placed). p.node) order)
    different = AllPairs-from_IsDistinct Decides-eqb (map (λ (p : Placed). p.node) order)
        (IsDistinct-IsPermutation (λ x y. x == y) (λ x y. grind (arith, nat_tests)) (range_with_len 0 (length nodes)) (map (λ (p : Placed). p.node) order)
        (subst (λ ns. IsPermutation ns (map (λ (p : Placed). p.node) order)) numbers (IsPermutation-map (λ (p : Placed). p.node) from order moved))
        (IsDistinct-from_AllPairs Decides-eqb (range_with_len 0 (length nodes)) (λ i j d less lt same.
        let below : j < length nodes = omega (arith, lt, length-range_with_len 0 (length nodes)) in
        omega (
          arith,
          less,
          same,
          get_or-range_with_len 0 (length nodes) i d (omega (arith, less, below)),
          get_or-range_with_len 0 (length nodes) j d below,
        ))))

    behind : (k : ℕ) → k < length order → Contains from (at order k)
    behind k lt = Contains-permutation order from (at order k) (IsPermutation-sym from order moved)
        (k, lt, get_or_default order k (at order k) nowhere lt)

-- the same of the list that lends them
pub placed_lent : (nodes : List Node) (made moved order : List Placed) → made ≡ map (placed nodes) (range_with_len 0 (length nodes)) → IsPermutation made moved
    → order ≡ moved → ArePlaced nodes order
placed_lent nodes made moved order is moves lent = subst (ArePlaced nodes) (sym lent) (placed_are nodes moved (subst (λ l. IsPermutation l moved) is moves))

-- one rank more is noted
pub noted-more : (nodes : List Node) (order : List Placed) (ranks : List ℕ) (k : ℕ) → ArePlaced nodes order → k < length order → AreNoted order ranks k
    → AreNoted order (slice_set ranks (at order k).node k) (k + 1)
noted-more nodes order ranks k all_placed lt noted = record { each = length-set ranks (at order k).node k ∙ noted.each; own = λ i l. go i l (i == k) refl }
  where
    known : (at order k).node < length ranks
    known = omega (arith, all_placed.known k lt, all_placed.each, noted.each)

    go : (i : ℕ) → i < k + 1 → (b : Bool) → (i == k) ≡ b → slice_index (slice_set ranks (at order k).node k) (at order i).node ≡ i
    go i l true e =
        let same : i ≡ k = grind (arith, nat_tests) in
        ap (λ j. slice_index (slice_set ranks (at order k).node k) (at order j).node) same ∙ get_or-set_same ranks (at order k).node k 0 known ∙ sym same
    go i l false e =
        let other : i ≢ k = grind (arith, nat_tests) in
        let before : i < k = omega (arith, l, other) in
        get_or-set_other ranks (at order k).node (at order i).node k 0 (all_placed.apart i k before lt) ∙ noted.own i before

-- the numbers of the nodes of the order up to one more
pub numbers-more : (order : List Placed) (k n : ℕ) (before after : List ℕ) → k < length order → n ≡ (at order k).node
    → before ≡ map (λ (p : Placed). p.node) (take k order) → after ≡ before ++ n ∷ [] → after ≡ map (λ (p : Placed). p.node) (take (k + 1) order)
numbers-more order k n before after lt is so_far pushed =
    let number = λ (p : Placed). p.node in
    pushed ∙ ap (λ l. l ++ n ∷ []) so_far ∙ ap (λ e. map number (take k order) ++ e ∷ []) is ∙ sym (map_more number order k nowhere lt)

-- once all ranks are noted, they are those of the nodes
pub noted-ranks : (nodes : List Node) (order : List Placed) (ranks : List ℕ) → AreApart nodes → ArePlaced nodes order
    → IsNonDecreasingBy (λ p. p.ident) order
    → AreNoted order ranks (length order) → AreRanksOf nodes ranks
noted-ranks nodes order ranks apart all_placed up noted = record { each = noted.each ∙ all_placed.each; within = within; order = ascend }
  where
    within : (n : ℕ) → n < length nodes → slice_index ranks n < length nodes
    within n lt =
        let c = all_placed.all n lt in
        omega (arith, ap (slice_index ranks) c.2, noted.own c.0 c.1, c.1, all_placed.each)

    found : (n : ℕ) → n < length nodes → ident_at order (slice_index ranks n) ≡ ident_in nodes n
    found n lt =
        let c = all_placed.all n lt in
        let rank : slice_index ranks n ≡ c.0 = ap (slice_index ranks) (sym c.2) ∙ noted.own c.0 c.1 in
        ap (ident_at order) rank ∙ all_placed.own c.0 c.1 ∙ ap (ident_in nodes) c.2

    upward : (i j : ℕ) → i ≤ j → j < length nodes → ident_at order i ≤ ident_at order j
    upward i j le lt = up i j nowhere le (omega (arith, lt, all_placed.each))

    ascend : (n m : ℕ) → n < length nodes → m < length nodes → nat_lt (slice_index ranks n) (slice_index ranks m) ≡ nat_lt (ident_in nodes n) (ident_in nodes m)
    ascend n m ln lm = by_rank (cases_lt (slice_index ranks n) (slice_index ranks m))
      where
        by_rank : (slice_index ranks n < slice_index ranks m) ⊎ (slice_index ranks m ≤ slice_index ranks n)
            → nat_lt (slice_index ranks n) (slice_index ranks m) ≡ nat_lt (ident_in nodes n) (ident_in nodes m)
        by_rank (inl less) =
            let rise : ident_at order (slice_index ranks n) ≤ ident_at order (slice_index ranks m) = upward (slice_index ranks n) (slice_index ranks m) (omega arith)
            (within m lm) in
            let different : ident_in nodes n ≡ ident_in nodes m → ⊥ = λ e. let same : n ≡ m = apart n m ln lm e
            in let tie : slice_index ranks n ≡ slice_index ranks m = ap (slice_index ranks) same in omega arith in
            let below : ident_in nodes n < ident_in nodes m = omega (arith, rise, different, found n ln, found m lm) in
            lt-ltb (slice_index ranks n) (slice_index ranks m) less ∙ sym (lt-ltb (ident_in nodes n) (ident_in nodes m) below)
        by_rank (inr more) =
            let fall : ident_at order (slice_index ranks m) ≤ ident_at order (slice_index ranks n) = upward (slice_index ranks m) (slice_index ranks n) more
            (within n ln) in
            let above : ident_in nodes m ≤ ident_in nodes n = omega (arith, fall, found n ln, found m lm) in
            le-ltb (slice_index ranks n) (slice_index ranks m) more ∙ sym (le-ltb (ident_in nodes n) (ident_in nodes m) above)

-- and each node of the order has its own place as its rank
pub noted-order : (nodes : List Node) (order : List Placed) (ranks numbers : List ℕ) → ArePlaced nodes order → AreNoted order ranks (length order)
    → numbers ≡ map (λ (p : Placed). p.node) order → AreInOrder ranks numbers
noted-order nodes order ranks numbers all_placed noted same = record {
  each = ap length same ∙ length-map order (λ (p : Placed). p.node) ∙ sym noted.each;
  known = λ k lt.
      let inside = there k lt in
      omega (arith, number k inside, all_placed.known k inside, all_placed.each, noted.each);
  own = λ k lt.
      let inside = there k lt in
      ap (slice_index ranks) (number k inside) ∙ noted.own k inside;
}
  where
    there : (k : ℕ) → k < length numbers → k < length order
    there k lt = omega (arith, lt, ap length same, length-map order (λ (p : Placed). p.node))

    number : (k : ℕ) → k < length order → slice_index numbers k ≡ (at order k).node
    number k inside = ap (λ ns. slice_index ns k) same ∙ get_or-map (λ (p : Placed). p.node) order k nowhere 0 inside

-- the ranks of the nodes of a scenario are those of its list of nodes
pub ranks_of_setup : (sc : Setup) (ranks : List ℕ) → AreRanksOf sc.nodes ranks → AreRanks sc ranks
unfolding ident_of
ranks_of_setup sc ranks are = are
