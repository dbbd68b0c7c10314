-- A loop over tables, or over numbered rows, that stops at the first of which a test holds.
use Rattle.std.proofs.Common.{
  ◌≡◌,
  ◌∙◌,
  sym,
  ap,
  refl,
  ℕ,
  ◌+◌,
  ◌<◌,
  Bool,
  true,
  false,
  List,
  ◌∷◌,
  map,
  length,
  drop,
  get_or,
  find,
  Option,
  Some,
  option_map,
}
use Rattle.std.specs.List.{enumerate_from}
use Rattle.std.proofs.lemmas.List.{drop_more}
use Rattle.chord_scenario.specs.declared.key.Place.{Place}
use Rattle.chord_scenario.specs.declared.key.Place.TheVariants as place
use Rattle.chord_scenario.specs.declared.fault.ScenarioFault.{ScenarioFault}
use Rattle.chord_scenario.specs.declared.section.PlacedTable.{PlacedTable}
use Rattle.chord_scenario.specs.Search.{section_fault, row_fault}
use Rattle.chord_scenario.specs.Sections.{Section, section_of}

module _ {A B : Type 0} (answer : Option A → B) (test : A → Bool) (l : List A) (y : A) (ys : List A) (all : B) where
  here : answer (find test l) ≡ all → l ≡ y ∷ ys → test y ≡ true → answer (Some y) ≡ all
  here before is h =
      let first : find test (y ∷ ys) ≡ Some y = rw h refl in
      sym (ap answer (ap (find test) is ∙ first)) ∙ before

  later : answer (find test l) ≡ all → l ≡ y ∷ ys → test y ≡ false → answer (find test ys) ≡ all
  later before is h =
      let rest : find test (y ∷ ys) ≡ find test ys = rw h refl in
      sym (ap answer (ap (find test) is ∙ rest)) ∙ before

module _ (fault : Place → ScenarioFault) (test : Section → Bool) (ts : List PlacedTable) (i : ℕ) (t : PlacedTable) where
  next : i < length ts → t ≡ get_or ts i t → map section_of (drop i ts) ≡ section_of t ∷ map section_of (drop (i + 1) ts)
  next within is = ap (map section_of) (drop_more ts i t within) ∙ ap (λ x. section_of x ∷ map section_of (drop (i + 1) ts)) (sym is)

  pub table-here : section_fault fault test (map section_of (drop i ts)) ≡ section_fault fault test (map section_of ts) → i < length ts → t ≡ get_or ts i t
      → test (section_of t) ≡ true
      → Some (fault t.at) ≡ section_fault fault test (map section_of ts)
  table-here before within is = here (option_map (λ s. fault s.at)) test _ (section_of t) _ _ before (next within is)

  pub table-later : section_fault fault test (map section_of (drop i ts)) ≡ section_fault fault test (map section_of ts) → i < length ts → t ≡ get_or ts i t
      → test (section_of t) ≡ false
      → section_fault fault test (map section_of (drop (i + 1) ts)) ≡ section_fault fault test (map section_of ts)
  table-later before within is = later (option_map (λ s. fault s.at)) test _ (section_of t) _ _ before (next within is)

module _ {A : Type 0} (test : A → Bool) (rows : List A) (i : ℕ) (d : A) where
  pub row-here : (fault : Place → ScenarioFault)
      → find (λ p. test p.1) (enumerate_from (i + 1) (drop i rows)) ≡ find (λ p. test p.1) (enumerate_from 1 rows) → i < length rows
      → test (get_or rows i d) ≡ true
      → Some (fault (place.Row (i + 1))) ≡ row_fault fault test rows
  row-here fault before within =
      here (option_map (λ p. fault (place.Row p.0))) (λ p. test p.1) _ (i + 1, get_or rows i d) _ _ (ap (option_map (λ p. fault (place.Row p.0))) before)
      (ap (enumerate_from (i + 1)) (drop_more rows i d within))

  pub row-later : find (λ p. test p.1) (enumerate_from (i + 1) (drop i rows)) ≡ find (λ p. test p.1) (enumerate_from 1 rows) → i < length rows
      → test (get_or rows i d) ≡ false
      → find (λ p. test p.1) (enumerate_from (i + 1 + 1) (drop (i + 1) rows)) ≡ find (λ p. test p.1) (enumerate_from 1 rows)
  row-later before within = later (λ o. o) (λ p. test p.1) _ (i + 1, get_or rows i d) _ _ before (ap (enumerate_from (i + 1)) (drop_more rows i d within))
