-- How the first fault is found among many.
use Rattle.std.specs.Prelude.{ℕ, ◌+◌, Bool, List, [], ◌∷◌, ◌++◌, length, find, Option, Some, None, option_map, if◌then◌else◌}
use Rattle.std.specs.Option.{option_or}
use Rattle.std.specs.List.{enumerate_from}
use Rattle.chord_scenario.specs.declared.key.Place.{Place}
use Rattle.chord_scenario.specs.declared.key.Place.TheVariants as place
use Rattle.chord_scenario.specs.declared.fault.ScenarioFault.{ScenarioFault}
use Rattle.chord_scenario.specs.Sections.{Section}

-- the first result of a question asked of each item in turn
abbrev pub first_some : {A B : Type 0} → (A → Option B) → List A → Option B
first_some ask [] = None
first_some ask (x ∷ xs) = option_or (ask x) (first_some ask xs)

-- the number, counted from n, of the first item of which the test holds
abbrev pub first_number : {A : Type 0} → (A → Bool) → (n : ℕ) → List A → Option ℕ
first_number test n [] = None
first_number test n (x ∷ xs) = if test x then Some n else first_number test (n + 1) xs

-- two items of a list that are alike, and their numbers, from 1
pub record Repeat (A : Type 0) : Type 0 where
  pub first : A
  pub first_number : ℕ
  pub second : A
  pub second_number : ℕ

-- the item of this number, and a numbered one before it
abbrev pub repeat_of : {A : Type 0} → A → (number : ℕ) → ℕ × A → Repeat A
repeat_of y number x = record { first = x.1; first_number = x.0; second = y; second_number = number }

-- the first that is like one of those before it, with the first such one
abbrev pub first_repeat : {A : Type 0} → (A → A → Bool) → List A → List A → Option (Repeat A)
first_repeat alike before [] = None
first_repeat alike before (y ∷ ys) =
    option_or (option_map (repeat_of y (length before + 1)) (find (λ x. alike x.1 y) (enumerate_from 1 before)))
    (first_repeat alike (before ++ y ∷ []) ys)

-- the first that meets one of those after it, with the first such one
abbrev pub first_meeting : {A : Type 0} → (A → A → Bool) → List A → Option (A × A)
first_meeting meets [] = None
first_meeting meets (x ∷ xs) = option_or (option_map (λ y. (x, y)) (find (meets x) xs)) (first_meeting meets xs)

-- the fault at the first table of which the test holds
abbrev pub section_fault : (Place → ScenarioFault) → (Section → Bool) → List Section → Option ScenarioFault
section_fault fault test ss = option_map (λ s. fault s.at) (find test ss)

-- the fault at the first row of which the test holds; rows are counted from 1
abbrev pub row_fault : {A : Type 0} → (Place → ScenarioFault) → (A → Bool) → List A → Option ScenarioFault
row_fault fault test rows = option_map (λ p. fault (place.Row p.0)) (find (λ p. test p.1) (enumerate_from 1 rows))
