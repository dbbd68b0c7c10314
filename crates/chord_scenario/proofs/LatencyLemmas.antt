-- How a square of latencies grows by one row.
use Rattle.std.proofs.Common.{
  ◌≡◌,
  ◌∙◌,
  sym,
  ap,
  subst,
  ℕ,
  ◌+◌,
  ◌*◌,
  ◌<◌,
  ◌≤◌,
  Bool,
  true,
  false,
  ◌&&◌,
  ◌||◌,
  List,
  [],
  ◌∷◌,
  ◌++◌,
  length,
  get_or,
  set,
  find,
  Option,
  Some,
  None,
  bytes_eq,
  option_and_then,
  unwrap_or,
  inl,
  inr,
  ◌⊎◌,
  ◌==◌,
  arith,
  refl,
}
use Rattle.std.specs.Option.{option_or, option_map_or}
use Rattle.std.proofs.lemmas.Bool.{cases_Bool, and_parts, false≢true, eqb-true, eqb-false}
use Rattle.std.proofs.lemmas.Option.{same_Some}
use Rattle.std.proofs.lemmas.List.{get_or-set_same, get_or-set_other, length-set}
use Rattle.std.proofs.lemmas.List.Folds.{find-append}
use Rattle.std.proofs.lemmas.Slice.Eq.{bytes_eq-Decides}
use native.Mathlib.Decide.{dec_lt}
use Rattle.std.proofs.Math.Nat.{mul-le-mul_right}
use Rattle.std.specs.Option.{is_none}
use Rattle.std.specs.List.{AllByRecursion}
use Rattle.chord_scenario.proofs.Links.{link_latency-range}
use Rattle.chord_scenario.specs.declared.setting.Node.{Node}
use Rattle.chord_scenario.specs.declared.latency.Ends.{Ends}
use Rattle.chord_scenario.specs.Settings.{index_from, index_of}
use Rattle.chord_scenario.specs.Rows.{Row, Link, link_of, joins, names_pair, row_latency, is_bad_row}
use Rattle.chord_scenario.specs.Latencies.{HasLatencies}

-- the row links the nodes of these numbers
pub record IsEndsOf (nodes : List Node) (r : Row) (e : Ends) : Type 0 where
  pub link : Link
  pub is : link_of r ≡ Some link
  pub first : index_of link.first nodes ≡ Some e.first
  pub second : index_of link.second nodes ≡ Some e.second
  pub latency : link.latency ≡ Some e.latency
  pub some : 1 ≤ e.latency

-- a number that a name has lies among the nodes
pub index_from-range : (nodes : List Node) (n i : ℕ) (name : List ℕ) → index_from n name nodes ≡ Some i → (n ≤ i) × (i < n + length nodes)
index_from-range [] n i name h = absurd (cc)
index_from-range (x ∷ xs) n i name h =
    elim (cases_Bool (bytes_eq name x.name)) [
      | inl here ↦ let same : n ≡ i = same_Some _ _ (rw here at h) in (omega arith, omega arith)
      | inr more ↦ let rest = index_from-range xs (n + 1) i name (rw more at h) in (omega (arith, rest.0), omega (arith, rest.1))
    ]

pub index_of-below : (nodes : List Node) (i : ℕ) (name : List ℕ) → index_of name nodes ≡ Some i → i < length nodes
index_of-below nodes i name h = omega (arith, (index_from-range nodes 0 i name h).1)

equal_bytes : (a b : List ℕ) → bytes_eq a b ≡ true → a ≡ b
equal_bytes a b h = (bytes_eq-Decides a b).0 h

-- two names of one number are one
pub index_from-one : (nodes : List Node) (n i : ℕ) (a b : List ℕ) → index_from n a nodes ≡ Some i → index_from n b nodes ≡ Some i → a ≡ b
index_from-one [] n i a b ha hb = absurd (cc)
index_from-one (x ∷ xs) n i a b ha hb =
    elim (cases_Bool (bytes_eq a x.name)) [
      | inl first ↦
          elim (cases_Bool (bytes_eq b x.name)) [
            | inl second ↦ equal_bytes a x.name first ∙ sym (equal_bytes b x.name second)
            | inr later ↦
                let same : n ≡ i = same_Some _ _ (rw first at ha) in
                let range = index_from-range xs (n + 1) i b (rw later at hb) in
                absurd (omega (arith, range.0))
          ]
      | inr apart ↦
          elim (cases_Bool (bytes_eq b x.name)) [
            | inl second ↦
                let same : n ≡ i = same_Some _ _ (rw second at hb) in
                let range = index_from-range xs (n + 1) i a (rw apart at ha) in
                absurd (omega (arith, range.0))
            | inr later ↦ index_from-one xs (n + 1) i a b (rw apart at ha) (rw later at hb)
          ]
    ]

-- a cell of a square
pub cell-within : (n i j : ℕ) → i < n → j < n → i * n + j < n * n
cell-within n i j hi hj =
    let rows : (i + 1) * n ≤ n * n = mul-le-mul_right n (omega arith) in
    omega (arith, rows)

-- two cells of one place are one
pub cell-one : (n i j p q : ℕ) → j < n → q < n → i * n + j ≡ p * n + q → (i ≡ p) × (j ≡ q)
cell-one n i j p q hj hq h =
    elim (dec_lt i p) [
      | yes less ↦ let rows : (i + 1) * n ≤ p * n = mul-le-mul_right n (omega arith) in absurd (omega (arith, rows))
      | no some ↦
          elim (dec_lt p i) [
            | yes more ↦ let rows : (p + 1) * n ≤ i * n = mul-le-mul_right n (omega arith) in absurd (omega (arith, rows))
            | no none ↦ let same : i ≡ p = omega arith in (same, left p i j q n same h)
          ]
    ]
  where
    left : (p i j q n : ℕ) → i ≡ p → i * n + j ≡ p * n + q → j ≡ q
    left p i j q n same h = let rows : i * n ≡ p * n = ap (λ k. k * n) same in omega (arith, rows)

-- a row that is not bad has a link with a latency
pub record IsGood (r : Row) : Type 0 where
  pub link : Link
  pub latency : ℕ
  pub is : link_of r ≡ Some link
  pub has : link.latency ≡ Some latency
  pub some : 1 ≤ latency
  pub bounded : latency ≤ 1000000000

pub good-not_bad : (r : Row) → is_bad_row r ≡ false → IsGood r
good-not_bad r h = good_link (link_of r) refl h
  where
    good_latency : (l : Link) (o : Option ℕ) → link_of r ≡ Some l → l.latency ≡ o → is_none o ≡ false → IsGood r
    good_latency l None e f g = absurd (false≢true (sym g))
    good_latency l (Some n) e f g = let (low, high) = link_latency-range r l n e f in record {
      link = l;
      latency = n;
      is = e;
      has = f;
      some = low;
      bounded = high;
    }

    good_link : (o : Option Link) → link_of r ≡ o → option_map_or (λ l. is_none l.latency) o true ≡ false → IsGood r
    good_link None e g = absurd (false≢true (sym g))
    good_link (Some l) e g = good_latency l l.latency e refl g

abbrev pub AreGood : List Row → Type 0
AreGood = AllByRecursion IsGood

pub find-good : (p : Row → Bool) (rows : List Row) (r : Row) → AreGood rows → find p rows ≡ Some r → IsGood r
find-good p [] r g h = absurd (cc)
find-good p (x ∷ xs) r g h =
    elim (cases_Bool (p x)) [
      | inl here ↦ let same : x ≡ r = same_Some _ _ (rw here at h) in subst IsGood same g.0
      | inr more ↦ find-good p xs r g.1 (rw more at h)
    ]

-- rows give two names no latency exactly if none names the pair
pub row_latency-none : (a b : List ℕ) (rows : List Row) → find (names_pair a b) rows ≡ None → row_latency a b rows ≡ None
row_latency-none a b rows h = ap (λ o. option_and_then (λ (l : Link). l.latency) (option_and_then link_of o)) h

pub row_latency-found : (a b : List ℕ) (rows : List Row) (r : Row) (g : IsGood r) → find (names_pair a b) rows ≡ Some r → row_latency a b rows ≡ Some g.latency
row_latency-found a b rows r g h =
    ap (λ o. option_and_then (λ (l : Link). l.latency) (option_and_then link_of o)) h ∙ ap (option_and_then (λ (l : Link). l.latency)) g.is ∙ g.has

pub unnamed-zero : (a b : List ℕ) (rows : List Row) → AreGood rows → unwrap_or (row_latency a b rows) 0 ≡ 0 → find (names_pair a b) rows ≡ None
unnamed-zero a b rows good h = by_case (find (names_pair a b) rows) refl
  where
    by_case : (o : Option Row) → find (names_pair a b) rows ≡ o → o ≡ None
    by_case None e = refl
    by_case (Some r) e =
        let g = find-good (names_pair a b) rows r good e in
        let zero_latency : g.latency ≡ 0 = ap (λ o. unwrap_or o 0) (sym (row_latency-found a b rows r g e)) ∙ h in
        absurd (omega (arith, zero_latency, g.some))

-- a pair in either order
or_swap : (x y : Bool) → (x || y) ≡ (y || x)
or_swap true true = refl
or_swap true false = refl
or_swap false true = refl
or_swap false false = refl

pub names_pair-swap : (a b : List ℕ) (r : Row) → names_pair a b r ≡ names_pair b a r
names_pair-swap a b r = swap (link_of r)
  where
    swap : (o : Option Link) → option_map_or (joins a b) o false ≡ option_map_or (joins b a) o false
    swap None = refl
    swap (Some l) = or_swap (bytes_eq l.first a && bytes_eq l.second b) (bytes_eq l.first b && bytes_eq l.second a)

pub find-swap : (a b : List ℕ) (rows : List Row) → find (names_pair a b) rows ≡ find (names_pair b a) rows
find-swap a b rows = ap (λ p. find p rows) (λ i r. names_pair-swap a b r i)

same_bytes : (a : List ℕ) → bytes_eq a a ≡ true
same_bytes a = (bytes_eq-Decides a a).1 refl

-- two writes of one value
writes-first : (cells : List ℕ) (p q v : ℕ) → p < length cells → get_or (set (set cells p v) q v) p 0 ≡ v
writes-first cells p q v hp =
    elim (cases_Bool (p == q)) [
      | inl same ↦ subst (λ k. get_or (set (set cells p v) k v) p 0 ≡ v) (eqb-true p q same) (get_or-set_same (set cells p v) p v 0 (rw length-set hp))
      | inr apart ↦ get_or-set_other (set cells p v) q p v 0 (eqb-false p q apart) ∙ get_or-set_same cells p v 0 hp
    ]

writes-other : (cells : List ℕ) (p q v k : ℕ) → (k ≡ p → ⊥) → (k ≡ q → ⊥) → get_or (set (set cells p v) q v) k 0 ≡ get_or cells k 0
writes-other cells p q v k np nq = get_or-set_other (set cells p v) q k v 0 nq ∙ get_or-set_other cells p k v 0 np

-- a pair that a link names
joins-cases : (a b : List ℕ) (l : Link) → joins a b l ≡ true → ((l.first ≡ a) × (l.second ≡ b)) ⊎ ((l.first ≡ b) × (l.second ≡ a))
joins-cases a b l h =
    elim (cases_Bool (bytes_eq l.first a && bytes_eq l.second b)) [
      | inl one ↦ let (f, s) = and_parts (bytes_eq l.first a) (bytes_eq l.second b) one in inl (equal_bytes l.first a f, equal_bytes l.second b s)
      | inr other ↦ let (f, s) = and_parts (bytes_eq l.first b) (bytes_eq l.second a) (rw other at h) in inr (equal_bytes l.first b f, equal_bytes l.second a s)
    ]

joins-itself : (l : Link) → joins l.first l.second l ≡ true
joins-itself l = rw (same_bytes l.first, same_bytes l.second)

joins-itself-back : (l : Link) → joins l.second l.first l ≡ true
joins-itself-back l = or_swap (bytes_eq l.first l.second && bytes_eq l.second l.first) (bytes_eq l.first l.first && bytes_eq l.second l.second)
    ∙ rw (same_bytes l.first, same_bytes l.second)

module _ (nodes : List Node) (rows : List Row) (r : Row) (e : Ends) (cells : List ℕ) (has : HasLatencies nodes rows cells) (ends : IsEndsOf nodes r e) where
  abbrev n : ℕ
  n = length nodes

  abbrev written : List ℕ
  written = set (set cells (e.first * n + e.second) e.latency) (e.second * n + e.first) e.latency

  named-new : (a b : List ℕ) → find (names_pair a b) rows ≡ None → names_pair a b r ≡ true → unwrap_or (row_latency a b (rows ++ r ∷ [])) 0 ≡ e.latency
  named-new a b none named =
      let found : find (names_pair a b) (rows ++ r ∷ []) ≡ Some r = find-append (names_pair a b) rows (r ∷ []) ∙ rw (none, named) in
      ap (λ o. unwrap_or (option_and_then (λ (l : Link). l.latency) (option_and_then link_of o)) 0) found
      ∙ ap (λ o. unwrap_or (option_and_then (λ (l : Link). l.latency) o) 0) ends.is
      ∙ ap (λ o. unwrap_or o 0) ends.latency

  unnamed-old : (a b : List ℕ) → names_pair a b r ≡ false → row_latency a b (rows ++ r ∷ []) ≡ row_latency a b rows
  unnamed-old a b other =
      let kept : find (names_pair a b) (rows ++ r ∷ []) ≡ find (names_pair a b) rows = find-append (names_pair a b) rows (r ∷ [])
      ∙ rw other (or_none (find (names_pair a b) rows)) in
      ap (λ o. option_and_then (λ (l : Link). l.latency) (option_and_then link_of o)) kept
    where
      or_none : (o : Option Row) → option_or o None ≡ o
      or_none None = refl
      or_none (Some x) = refl

  pub latencies-more : find (names_pair ends.link.first ends.link.second) rows ≡ None → HasLatencies nodes (rows ++ r ∷ []) written
  latencies-more none = record {
    size = rw (length-set, length-set) has.size;
    cell = λ a b i j ia ib. cell_is a b i j ia ib (cases_Bool (names_pair a b r));
  }
    where
      first_below : e.first < n
      first_below = index_of-below nodes e.first ends.link.first ends.first

      second_below : e.second < n
      second_below = index_of-below nodes e.second ends.link.second ends.second

      cell_is : (a b : List ℕ) (i j : ℕ) → index_of a nodes ≡ Some i → index_of b nodes ≡ Some j → (names_pair a b r ≡ true) ⊎ (names_pair a b r ≡ false)
          → get_or written (i * n + j) 0 ≡ unwrap_or (row_latency a b (rows ++ r ∷ [])) 0
      cell_is a b i j ia ib (inl named) = named_cell (joins-cases a b ends.link (sym (ap (λ o. option_map_or (joins a b) o false) ends.is) ∙ named))
        where
          named_cell : ((ends.link.first ≡ a) × (ends.link.second ≡ b)) ⊎ ((ends.link.first ≡ b) × (ends.link.second ≡ a))
              → get_or written (i * n + j) 0 ≡ unwrap_or (row_latency a b (rows ++ r ∷ [])) 0
          named_cell (inl (one, two)) =
              let row : i ≡ e.first = same_Some _ _ (sym ia ∙ ap (λ x. index_of x nodes) (sym one) ∙ ends.first) in
              let column : j ≡ e.second = same_Some _ _ (sym ib ∙ ap (λ x. index_of x nodes) (sym two) ∙ ends.second) in
              let within : e.first * n + e.second < length cells = rw has.size (cell-within n e.first e.second first_below second_below) in
              let unnamed : find (names_pair a b) rows ≡ None = rw (← one, ← two) none in
              rw (row, column) (writes-first cells (e.first * n + e.second) (e.second * n + e.first) e.latency within) ∙ sym (named-new a b unnamed named)
          named_cell (inr (one, two)) =
              let row : i ≡ e.second = same_Some _ _ (sym ia ∙ ap (λ x. index_of x nodes) (sym two) ∙ ends.second) in
              let column : j ≡ e.first = same_Some _ _ (sym ib ∙ ap (λ x. index_of x nodes) (sym one) ∙ ends.first) in
              let within : e.second * n + e.first < length (set cells (e.first * n + e.second) e.latency) = rw (length-set, has.size)
              (cell-within n e.second e.first second_below first_below) in
              let unnamed : find (names_pair a b) rows ≡ None = find-swap a b rows ∙ rw (← one, ← two) none in
              rw (row, column) (get_or-set_same (set cells (e.first * n + e.second) e.latency) (e.second * n + e.first) e.latency 0 within)
              ∙ sym (named-new a b unnamed named)
      cell_is a b i j ia ib (inr other) =
          writes-other cells (e.first * n + e.second) (e.second * n + e.first) e.latency (i * n + j) not_first not_second
          ∙ has.cell a b i j ia ib ∙ sym (ap (λ o. unwrap_or o 0) (unnamed-old a b other))
        where
          joined : joins a b ends.link ≡ true → ⊥
          joined h = false≢true (sym other ∙ ap (λ o. option_map_or (joins a b) o false) ends.is ∙ h)

          not_first : i * n + j ≡ e.first * n + e.second → ⊥
          not_first h =
              let (row, column) = cell-one n i j e.first e.second (index_of-below nodes j b ib) second_below h in
              let one : ends.link.first ≡ a = index_from-one nodes 0 i ends.link.first a (ends.first ∙ ap Some (sym row)) ia in
              let two : ends.link.second ≡ b = index_from-one nodes 0 j ends.link.second b (ends.second ∙ ap Some (sym column)) ib in
              joined (subst (λ x. joins x b ends.link ≡ true) one (subst (λ y. joins ends.link.first y ends.link ≡ true) two (joins-itself ends.link)))

          not_second : i * n + j ≡ e.second * n + e.first → ⊥
          not_second h =
              let (row, column) = cell-one n i j e.second e.first (index_of-below nodes j b ib) first_below h in
              let one : ends.link.first ≡ b = index_from-one nodes 0 j ends.link.first b (ends.first ∙ ap Some (sym column)) ib in
              let two : ends.link.second ≡ a = index_from-one nodes 0 i ends.link.second a (ends.second ∙ ap Some (sym row)) ia in
              joined (subst (λ x. joins x b ends.link ≡ true) two (subst (λ y. joins ends.link.second y ends.link ≡ true) one (joins-itself-back ends.link)))
