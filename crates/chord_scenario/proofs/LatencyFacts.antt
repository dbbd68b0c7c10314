-- What a file without faults says of its latencies.
use Rattle.std.proofs.Common.{
  ◌≡◌,
  ◌≢◌,
  ◌∙◌,
  sym,
  ap,
  refl,
  ℕ,
  zero,
  suc,
  ◌+◌,
  ◌*◌,
  ◌<◌,
  ◌≤◌,
  Bool,
  true,
  false,
  List,
  [],
  ◌∷◌,
  length,
  find,
  get_or,
  slice_get,
  nat_lt,
  ne_eqb,
  ◌==◌,
  Option,
  Some,
  None,
  option_map,
  unwrap_or,
  inl,
  inr,
  arith,
}
use Rattle.std.specs.List.{All}
use Rattle.std.specs.Option.{option_and_then}
use Rattle.std.proofs.lemmas.Bool.{cases_Bool, eqb-false}
use Rattle.std.proofs.lemmas.Bool.Decides.{nat_tests}
use Rattle.std.proofs.lemmas.List.Elements.{All-get_or}
use Rattle.std.proofs.lemmas.Option.{same_Some, slice_get-get_or, slice_get_within}
use native.Mathlib.Decide.{dec_lt, ℕ_discrete as dec_eq}
use Rattle.chord_scenario.specs.declared.setting.Coordinates.{Coordinates}
use Rattle.chord_scenario.specs.declared.setting.Node.{Node}
use Rattle.chord_scenario.specs.declared.fault.ScenarioFault.TheVariants.{LatencyBelowWindow}
use Rattle.chord_scenario.specs.Search.{first_meeting}
use Rattle.chord_scenario.specs.Rows.{Row, Link, link_of, names_pair, row_latency}
use Rattle.chord_scenario.specs.Latencies.{HasLatencies}
use Rattle.chord_scenario.specs.Distances.{IsPlace, apart, root, squared_distance, latency_by_coordinates}
use Rattle.chord_scenario.specs.Faults.{latency_by_rows, latency_below_window, low_pair, heights_below_window, below_window, bad_latency_row, same_name}
use Rattle.chord_scenario.specs.Range.{LatenciesInRange, CoordinatesInRange}
use Rattle.chord_scenario.specs.Setup.{Setup}
use Rattle.chord_scenario.specs.World.{node_count, latency, latency_between}
use Rattle.chord_scenario.proofs.DistinctNames.{or_none}
use Rattle.chord_scenario.proofs.FirstRepeat.{mapped_none}
use Rattle.chord_scenario.proofs.Heights.{lowest-least}
use Rattle.chord_scenario.proofs.Roots.{root_below, square_below}
use Rattle.chord_scenario.proofs.LatencyLemmas.{AreGood, find-good, find-swap, row_latency-none, row_latency-found}
use Rattle.chord_scenario.proofs.RowScans.{bad_latency_row-none}
use Rattle.chord_scenario.proofs.Scenarios.{latency-between}

-- a node of a list that has one
pub first_of : (nodes : List Node) (n : ℕ) → n < length nodes → Node
first_of [] n h = absurd (omega arith)
first_of (x ∷ xs) n h = x

passed : (test : Node → Bool) (ys : List Node) (d : Node) (k : ℕ) → find test ys ≡ None → k < length ys → test (get_or ys k d) ≡ false
passed test [] d k h within = absurd (omega arith)
passed test (y ∷ ys) d zero h within =
    elim (cases_Bool (test y)) [
      | inl here ↦ absurd (cc (rw here at h))
      | inr other ↦ other
    ]
passed test (y ∷ ys) d (suc k) h within =
    elim (cases_Bool (test y)) [
      | inl here ↦ absurd (cc (rw here at h))
      | inr other ↦ passed test ys d k (rw other at h) (omega arith)
    ]

-- none of a list meets a later one
no_meeting : (meets : Node → Node → Bool) (nodes : List Node) (d : Node) → first_meeting meets nodes ≡ None → (i j : ℕ) → i < j → j < length nodes
    → meets (get_or nodes i d) (get_or nodes j d) ≡ false
no_meeting meets [] d h i j less within = absurd (omega arith)
no_meeting meets (x ∷ xs) d h i zero less within = absurd (omega arith)
no_meeting meets (x ∷ xs) d h zero (suc j) less within =
    let (here, rest) = or_none (option_map (λ y. (x, y)) (find (meets x) xs)) (first_meeting meets xs) h in
    passed (meets x) xs d j (mapped_none (λ y. (x, y)) (find (meets x) xs) here) (omega arith)
no_meeting meets (x ∷ xs) d h (suc i) (suc j) less within =
    let (here, rest) = or_none (option_map (λ y. (x, y)) (find (meets x) xs)) (first_meeting meets xs) h in
    no_meeting meets xs d rest i j (omega arith) (omega arith)

-- rows give two names one latency both ways
row_latency-swap : (a b : List ℕ) (rows : List Row) → row_latency a b rows ≡ row_latency b a rows
row_latency-swap a b rows = ap (λ o. option_and_then (λ (l : Link). l.latency) (option_and_then link_of o)) (find-swap a b rows)

-- a latency that rows give is one that a row may have
row_latency-bounded : (default : ℕ) (rows : List Row) (x y : Node) → AreGood rows → default ≤ 1000000000 → latency_by_rows default rows x y ≤ 1000000000
row_latency-bounded default rows x y good most = by_case (find (names_pair x.name y.name) rows) refl
  where
    by_case : (o : Option Row) → find (names_pair x.name y.name) rows ≡ o → latency_by_rows default rows x y ≤ 1000000000
    by_case None e = rw (row_latency-none x.name y.name rows e) most
    by_case (Some r) e =
        let g = find-good (names_pair x.name y.name) rows r good e in
        rw (row_latency-found x.name y.name rows r g e) g.bounded

itself : (sc : Setup) (i j : ℕ) → (i == j) ≡ true → latency sc i j ≡ 1
unfolding latency
itself sc i j same = rw same

-- The latencies of nodes without coordinates.

module _ (sc : Setup) (rows : List Row) (has : HasLatencies sc.nodes rows sc.latencies) (good : bad_latency_row rows ≡ None)
    (distinct : same_name sc.nodes ≡ None) (none : sc.coordinates ≡ [])
    (near : latency_below_window sc.window sc.latency sc.nodes rows ≡ None) (least : 1 ≤ sc.latency) (most : sc.latency ≤ 1000000000) where
  between : (i j : ℕ) (d : Node) → i ≢ j → i < node_count sc → j < node_count sc
      → latency sc i j ≡ latency_by_rows sc.latency rows (get_or sc.nodes i d) (get_or sc.nodes j d)
  between i j d apart hi hj =
      latency-between rows sc i j (get_or sc.nodes i d) (get_or sc.nodes j d) has good distinct none apart (slice_get-get_or sc.nodes i d hi)
      (slice_get-get_or sc.nodes j d hj)

  far_from : (i j : ℕ) (d : Node) → i < j → j < node_count sc → sc.window ≤ latency_by_rows sc.latency rows (get_or sc.nodes i d) (get_or sc.nodes j d)
  unfolding latency_below_window
  far_from i j d less within =
      let meets = λ (x y : Node). nat_lt (latency_by_rows sc.latency rows x y) sc.window in
      let far = no_meeting meets sc.nodes d (mapped_none (λ (p : Node × Node). LatencyBelowWindow p.0.name p.1.name) (first_meeting meets sc.nodes)
      near) i j less within in
      grind (arith, nat_tests)

  windows : (i j : ℕ) (d : Node) → i < node_count sc → j < node_count sc → i ≢ j → sc.window ≤ latency sc i j
  windows i j d hi hj apart =
      elim (dec_lt i j) [
        | yes less ↦ rw (between i j d apart hi hj) (far_from i j d less hj)
        | no not_less ↦
            let more : j < i = omega arith in
            let swapped : latency_by_rows sc.latency rows (get_or sc.nodes i d) (get_or sc.nodes j d)
            ≡ latency_by_rows sc.latency rows (get_or sc.nodes j d) (get_or sc.nodes i d)
            = ap (λ o. unwrap_or o sc.latency) (row_latency-swap (get_or sc.nodes i d).name (get_or sc.nodes j d).name rows) in
            rw (between i j d apart hi hj, swapped) (far_from j i d more hi)
      ]

  symmetric : (i j : ℕ) (d : Node) → i < node_count sc → j < node_count sc → latency sc i j ≡ latency sc j i
  symmetric i j d hi hj =
      elim (dec_eq i j) [
        | yes same ↦ rw same refl
        | no apart ↦
            between i j d apart hi hj
            ∙ ap (λ o. unwrap_or o sc.latency) (row_latency-swap (get_or sc.nodes i d).name (get_or sc.nodes j d).name rows)
            ∙ sym (between j i d (λ same. apart (sym same)) hj hi)
      ]

  bounded : (i j : ℕ) (d : Node) → i < node_count sc → j < node_count sc → latency sc i j ≤ 1000000000
  bounded i j d hi hj =
      elim (cases_Bool (i == j)) [
        | inl same ↦ rw (itself sc i j same) (omega arith)
        | inr apart ↦
            rw (between i j d (eqb-false i j apart) hi hj) (row_latency-bounded sc.latency rows (get_or sc.nodes i d) (get_or sc.nodes j d)
            (bad_latency_row-none rows good) most)
      ]

-- The latencies of nodes with coordinates.

origin : Coordinates
origin = record { x = 0; y = 0; height = 0 }

-- the latency of two different nodes with coordinates is that by coordinates
pub placed : (sc : Setup) (i j : ℕ) (a b : Coordinates) → i ≢ j → slice_get sc.coordinates i ≡ Some a → slice_get sc.coordinates j ≡ Some b
    → latency sc i j ≡ latency_by_coordinates a b
unfolding latency
placed sc i j a b apart ia jb = rw (ne_eqb i j apart, ia, jb) refl

-- two lowest nodes are as high as the window is long
low_pair-none : (window : ℕ) (nodes : List Node) (one other : ℕ × ℕ) → low_pair window nodes one other ≡ None → window ≤ one.1 + other.1
low_pair-none window nodes one other h =
    elim (cases_Bool (nat_lt (one.1 + other.1) window)) [
      | inl less ↦ absurd (cc (rw less at h))
      | inr not_less ↦ grind (arith, nat_tests)
    ]

heights_far : (window : ℕ) (nodes : List Node) (cs : List Coordinates) → heights_below_window window nodes cs ≡ None → (i j : ℕ) → i < length cs → j < length cs
    → i ≢ j → window ≤ (get_or cs i origin).height + (get_or cs j origin).height
unfolding heights_below_window
heights_far window nodes cs h i j hi hj apart =
    let (one, is_one, least_i) = lowest-least (length cs) 0 cs i origin hi (λ same. omega arith) in
    let (again, is_again, least_j) = lowest-least (length cs) 0 cs j origin hj (λ same. omega arith) in
    let same : again ≡ one = same_Some _ _ (sym is_again ∙ is_one) in
    let height_j : one.1 ≤ (get_or cs j origin).height = rw (← same) least_j in
    elim (dec_eq i one.0) [
      | yes here ↦
          let (other, is_other, least) = lowest-least one.0 0 cs j origin hj (λ same. apart (omega arith)) in
          omega (arith, low_pair-none window nodes one other (rw (is_one, is_other) at h), least_i, least)
      | no elsewhere ↦
          let (other, is_other, least) = lowest-least one.0 0 cs i origin hi (λ same. elsewhere (omega arith)) in
          omega (arith, low_pair-none window nodes one other (rw (is_one, is_other) at h), height_j, least)
    ]

place_bounded : (a b : Coordinates) → IsPlace a → IsPlace b → latency_by_coordinates a b ≤ 1000000000
unfolding latency_by_coordinates
place_bounded a b pa pb =
    let x : apart a.x b.x ≤ 500000000 = omega (arith, pa.x, pb.x) in
    let y : apart a.y b.y ≤ 500000000 = omega (arith, pa.y, pb.y) in
    let squares : squared_distance a b ≤ 500000000000000000 = omega (arith, square_below (apart a.x b.x) 500000000 x, square_below (apart a.y b.y) 500000000 y) in
    omega (arith, root_below (squared_distance a b) squares, pa.height, pb.height)

place_swap : (a b : Coordinates) → latency_by_coordinates a b ≡ latency_by_coordinates b a
unfolding latency_by_coordinates
place_swap a b =
    let x : apart a.x b.x ≡ apart b.x a.x = omega arith in
    let y : apart a.y b.y ≡ apart b.y a.y = omega arith in
    let squares : squared_distance a b ≡ squared_distance b a = rw (x, y) refl in
    omega (arith, ap root squares)

at_least_heights : (a b : Coordinates) → a.height + b.height ≤ latency_by_coordinates a b
unfolding latency_by_coordinates
at_least_heights a b = omega arith

module _ (sc : Setup) (rows : List Row) (near : below_window sc.window sc.latency sc.nodes sc.coordinates rows ≡ None) where
  high : (i : ℕ) → i < length sc.coordinates → heights_below_window sc.window sc.nodes sc.coordinates ≡ None
  unfolding below_window
  high i hi = let some : (length sc.coordinates == 0) ≡ false = ne_eqb (length sc.coordinates) 0 (λ same. omega arith) in rw some at near

  place_far : (i j : ℕ) (a b : Coordinates) → i ≢ j → slice_get sc.coordinates i ≡ Some a → slice_get sc.coordinates j ≡ Some b
      → sc.window ≤ latency_by_coordinates a b
  place_far i j a b apart ia jb =
      let hi = slice_get_within sc.coordinates i a ia in
      let hj = slice_get_within sc.coordinates j b jb in
      let is_a : get_or sc.coordinates i origin ≡ a = same_Some _ _ (sym (slice_get-get_or sc.coordinates i origin hi) ∙ ia) in
      let is_b : get_or sc.coordinates j origin ≡ b = same_Some _ _ (sym (slice_get-get_or sc.coordinates j origin hj) ∙ jb) in
      let far = heights_far sc.window sc.nodes sc.coordinates (high i hi) i j hi hj apart in
      omega (arith, rw (is_a, is_b) at far, at_least_heights a b)

  positive : 1 ≤ sc.window → 1 ≤ sc.latency → (i j : ℕ) → 1 ≤ latency sc i j
  unfolding latency
  positive long least i j =
      elim (cases_Bool (i == j)) [
        | inl same ↦ rw same (omega arith)
        | inr apart ↦ rw apart (by_places (slice_get sc.coordinates i) (slice_get sc.coordinates j) refl refl (eqb-false i j apart))
      ]
    where
      between : 1 ≤ latency_between sc i j
      between =
          elim (cases_Bool (get_or sc.latencies (i * length sc.nodes + j) 0 == 0)) [
            | inl none ↦ rw none least
            | inr given ↦ rw given (grind (arith, nat_tests))
          ]

      by_places : (o p : Option Coordinates) → slice_get sc.coordinates i ≡ o → slice_get sc.coordinates j ≡ p → i ≢ j
          → 1 ≤ unwrap_or (option_and_then (λ here. option_map (latency_by_coordinates here) p) o) (latency_between sc i j)
      by_places None p ia jb apart = between
      by_places (Some a) None ia jb apart = between
      by_places (Some a) (Some b) ia jb apart = omega (arith, place_far i j a b apart ia jb, long)

module _ (sc : Setup) (rows : List Row) (has : HasLatencies sc.nodes rows sc.latencies) (good : bad_latency_row rows ≡ None)
    (distinct : same_name sc.nodes ≡ None)
    (near : below_window sc.window sc.latency sc.nodes sc.coordinates rows ≡ None) (long : 1 ≤ sc.window) (least : 1 ≤ sc.latency)
    (most : sc.latency ≤ 1000000000) where
  by_rows : sc.coordinates ≡ [] → latency_below_window sc.window sc.latency sc.nodes rows ≡ None
  unfolding below_window
  by_rows none = rw none at near

  without : sc.coordinates ≡ [] → LatenciesInRange sc
  without none = record {
    square = has.size;
    positive = positive sc rows near long least;
    symmetric = λ i j hi hj. symmetric sc rows has good distinct none (by_rows none) least most i j (first_of sc.nodes i hi) hi hj;
    bounded = λ i j hi hj. bounded sc rows has good distinct none (by_rows none) least most i j (first_of sc.nodes i hi) hi hj;
    window = λ i j hi hj apart. windows sc rows has good distinct none (by_rows none) least most i j (first_of sc.nodes i hi) hi hj apart;
  }

  module _ (all : length sc.coordinates ≡ node_count sc) (places : All IsPlace sc.coordinates) where
    there : (i : ℕ) → i < node_count sc → slice_get sc.coordinates i ≡ Some (get_or sc.coordinates i origin)
    there i hi = slice_get-get_or sc.coordinates i origin (rw all hi)

    place : (i : ℕ) → i < node_count sc → IsPlace (get_or sc.coordinates i origin)
    place i hi = All-get_or IsPlace sc.coordinates i origin (rw all hi) places

    place_latency-bounded : (i j : ℕ) → i < node_count sc → j < node_count sc → latency sc i j ≤ 1000000000
    place_latency-bounded i j hi hj =
        elim (cases_Bool (i == j)) [
          | inl same ↦ rw (itself sc i j same) (omega arith)
          | inr apart ↦
              rw (placed sc i j (get_or sc.coordinates i origin) (get_or sc.coordinates j origin) (eqb-false i j apart) (there i hi) (there j hj))
              (place_bounded (get_or sc.coordinates i origin) (get_or sc.coordinates j origin) (place i hi) (place j hj))
        ]

    place_latency-symmetric : (i j : ℕ) → i < node_count sc → j < node_count sc → latency sc i j ≡ latency sc j i
    place_latency-symmetric i j hi hj =
        elim (dec_eq i j) [
          | yes same ↦ rw same refl
          | no apart ↦
              placed sc i j (get_or sc.coordinates i origin) (get_or sc.coordinates j origin) apart (there i hi) (there j hj)
              ∙ place_swap (get_or sc.coordinates i origin) (get_or sc.coordinates j origin)
              ∙ sym (placed sc j i (get_or sc.coordinates j origin) (get_or sc.coordinates i origin) (λ same. apart (sym same)) (there j hj) (there i hi))
        ]

    with_places : LatenciesInRange sc
    with_places = record {
      square = has.size;
      positive = positive sc rows near long least;
      symmetric = place_latency-symmetric;
      bounded = place_latency-bounded;
      window = λ i j hi hj apart.
          rw (placed sc i j (get_or sc.coordinates i origin) (get_or sc.coordinates j origin) apart (there i hi) (there j hj))
          (place_far sc rows near i j (get_or sc.coordinates i origin) (get_or sc.coordinates j origin) apart (there i hi) (there j hj));
    }

  pub latencies_fit : CoordinatesInRange sc → LatenciesInRange sc
  latencies_fit coordinates =
      elim coordinates.all_or_none [
        | inl none ↦ without none
        | inr all ↦ with_places all coordinates.places
      ]
