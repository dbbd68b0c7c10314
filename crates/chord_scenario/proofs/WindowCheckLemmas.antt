-- What a square says of two nodes is the latency between them.
use Rattle.std.proofs.Common.{
  ◌≡◌,
  ◌∙◌,
  sym,
  ap,
  refl,
  ℕ,
  ◌+◌,
  ◌*◌,
  ◌<◌,
  ◌≤◌,
  Bool,
  true,
  false,
  ◌==◌,
  cond,
  List,
  ◌∷◌,
  length,
  drop,
  get_or,
  find,
  Option,
  Some,
  None,
  unwrap_or,
  arith,
}
use Rattle.std.specs.Prelude.{slice_get}
use Rattle.std.proofs.lemmas.Bool.Decides.{nat_tests}
use Rattle.std.proofs.lemmas.List.{drop_more}
use Rattle.std.proofs.lemmas.Option.{same_Some, slice_get-get_or}
use Rattle.chord_scenario.specs.declared.setting.Node.{Node}
use Rattle.chord_scenario.specs.Settings.{index_of}
use Rattle.chord_scenario.specs.Rows.{Row, names_pair, row_latency}
use Rattle.chord_scenario.specs.Latencies.{HasLatencies, latency_in}
use Rattle.chord_scenario.specs.Search.{first_meeting}
use Rattle.chord_scenario.specs.Faults.{bad_latency_row, same_name, latency_by_rows}
use Rattle.chord_scenario.proofs.LatencyLemmas.{AreGood, find-good, row_latency-none, row_latency-found}
use Rattle.chord_scenario.proofs.RowScans.{bad_latency_row-none}
use Rattle.chord_scenario.proofs.DistinctNames.{index_of-own}

not_zero : (v n : ℕ) → v ≡ n → 1 ≤ n → (v == 0) ≡ false
not_zero v n e h = grind (arith, nat_tests)

-- a cell of 0 means the default
zero_default : (a b : List ℕ) (rows : List Row) (v default : ℕ) → AreGood rows → v ≡ unwrap_or (row_latency a b rows) 0
    → cond (v == 0) default v ≡ unwrap_or (row_latency a b rows) default
zero_default a b rows v default good is = by_case (find (names_pair a b) rows) refl
  where
    by_case : (o : Option Row) → find (names_pair a b) rows ≡ o → cond (v == 0) default v ≡ unwrap_or (row_latency a b rows) default
    by_case None e =
        let none = row_latency-none a b rows e in
        let zero_cell : v ≡ 0 = is ∙ ap (λ o. unwrap_or o 0) none in
        rw (zero_cell, none)
    by_case (Some r) e =
        let g = find-good (names_pair a b) rows r good e in
        let found = row_latency-found a b rows r g e in
        let cell : v ≡ g.latency = is ∙ ap (λ o. unwrap_or o 0) found in
        let some : (v == 0) ≡ false = not_zero v g.latency cell g.some in
        rw (some, found) cell

pub latency_in-between : (nodes : List Node) (rows : List Row) (cells : List ℕ) (default i j : ℕ) (x y : Node) → HasLatencies nodes rows cells
    → bad_latency_row rows ≡ None → same_name nodes ≡ None
    → i < length nodes → j < length nodes → x ≡ get_or nodes i x → y ≡ get_or nodes j y
    → latency_in cells (length nodes) default i j ≡ latency_by_rows default rows x y
latency_in-between nodes rows cells default i j x y has good distinct hi hj ix iy =
    let own_x : index_of x.name nodes ≡ Some i = ap (λ (n : Node). index_of n.name nodes) ix ∙ index_of-own nodes i x distinct hi in
    let own_y : index_of y.name nodes ≡ Some j = ap (λ (n : Node). index_of n.name nodes) iy ∙ index_of-own nodes j y distinct hj in
    zero_default x.name y.name rows (get_or cells (i * length nodes + j) 0) default (bad_latency_row-none rows good) (has.cell x.name y.name i j own_x own_y)

-- one turn of a search
pub find-here : (test : Node → Bool) (nodes : List Node) (j : ℕ) (y : Node) (all : Option Node) → find test (drop j nodes) ≡ all → j < length nodes
    → y ≡ get_or nodes j y → test y ≡ true → Some y ≡ all
find-here test nodes j y all before within is here = sym (ap (find test) (drop_more nodes j y within ∙ ap (λ z. z ∷ drop (j + 1) nodes) (sym is))
    ∙ rw here) ∙ before

pub find-next : (test : Node → Bool) (nodes : List Node) (j : ℕ) (y : Node) (all : Option Node) → find test (drop j nodes) ≡ all → j < length nodes
    → y ≡ get_or nodes j y → test y ≡ false → find test (drop (j + 1) nodes) ≡ all
find-next test nodes j y all before within is other = sym (ap (find test) (drop_more nodes j y within ∙ ap (λ z. z ∷ drop (j + 1) nodes) (sym is))
    ∙ rw other) ∙ before

pub at_place : (nodes : List Node) (i : ℕ) (x : Node) → slice_get nodes i ≡ Some x → i < length nodes → x ≡ get_or nodes i x
at_place nodes i x h within = same_Some _ _ (sym h ∙ slice_get-get_or nodes i x within)

-- a node that meets a later one is the first, if none before it does
pub meeting-here : (meets : Node → Node → Bool) (nodes : List Node) (i : ℕ) (x y : Node)
    → first_meeting meets (drop i nodes) ≡ first_meeting meets nodes → i < length nodes → x ≡ get_or nodes i x
    → find (meets x) (drop (i + 1) nodes) ≡ Some y → Some (x, y) ≡ first_meeting meets nodes
meeting-here meets nodes i x y before within is here =
    let turn : first_meeting meets (drop i nodes) ≡ first_meeting meets (x ∷ drop (i + 1) nodes) = ap (first_meeting meets)
    (drop_more nodes i x within ∙ ap (λ z. z ∷ drop (i + 1) nodes) (sym is)) in
    sym (turn ∙ rw here) ∙ before

-- and the one after which no node meets it is passed over
pub meeting-next : (meets : Node → Node → Bool) (nodes : List Node) (i : ℕ) (x : Node)
    → first_meeting meets (drop i nodes) ≡ first_meeting meets nodes → i < length nodes → x ≡ get_or nodes i x
    → find (meets x) (drop (i + 1) nodes) ≡ None → first_meeting meets (drop (i + 1) nodes) ≡ first_meeting meets nodes
meeting-next meets nodes i x before within is none =
    let turn : first_meeting meets (drop i nodes) ≡ first_meeting meets (x ∷ drop (i + 1) nodes) = ap (first_meeting meets)
    (drop_more nodes i x within ∙ ap (λ z. z ∷ drop (i + 1) nodes) (sym is)) in
    sym (turn ∙ rw none) ∙ before
