-- Numbers that seats draw from one word, which counts the draws: each number below `parts` goes to one seat, and no other
-- number to any. A view is what one seat knows: the numbers that it has drawn, its share of the allowance, which is the
-- number of seats that there can be, and whether it has met the end.
use Rattle.std.specs.Prelude.{◌≡◌, ℕ, ◌+◌, ◌-◌, ◌<◌, ◌≤◌, min, true, false, ◌||◌, nat_lt, if◌then◌else◌, List, [], ◌∷◌, ◌++◌, All, Some, slice_get, sum_by}
use Rattle.atomic_table.specs.Table.{State}
use Rattle.des_crew.specs.declared.draw_rule.Counts.{Counts}
use Rattle.des_crew.specs.declared.draw_rule.View.{View}
use Rattle.des_parts.specs.Ordering.{count_of}

-- how often a number was drawn, by all seats together
abbrev pub draws_of : ℕ → List View → ℕ
draws_of x views = sum_by (λ v. count_of x v.numbers) views

-- how many draws past the end are left to a seat and to those that will be split off it
abbrev pub draws_past_end : View → ℕ
draws_past_end v = if v.met_end then 0 else v.allowance

-- The rule of the word and the views of all seats. It holds between any two steps, whichever threads have the seats.
pub record IsKept (parts seats word : ℕ) (views : List View) : Type 0 where
  pub each_once : (x : ℕ) → x < min word parts → draws_of x views ≡ 1
  pub no_other : (x : ℕ) → min word parts ≤ x → draws_of x views ≡ 0
  pub whole_allowance : sum_by (λ v. v.allowance) views ≡ seats
  pub spent_is_empty : All (λ v. v.allowance ≡ 0 → v.numbers ≡ []) views
  pub end_is_met : All (λ v. v.met_end ≡ true → parts ≤ word) views
  pub never_wraps : word + sum_by draws_past_end views ≤ parts + seats

-- at some moment the rule holds, and the seat at this place has this view
abbrev pub HasMoment : (parts seats place : ℕ) → View → Type 0
HasMoment parts seats place v = (word : ℕ) × (views : List View) × IsKept parts seats word views × (slice_get views place ≡ Some v)

-- a table of one word, under the rule
abbrev pub IsCounting : {S : Type 0} → Counts → State S View → Type 0
IsCounting counts state = (word : ℕ) × (state.words ≡ word ∷ []) × IsKept counts.parts counts.seats word state.views

-- the first seat, which has drawn nothing and has the whole allowance
abbrev pub first_view : ℕ → View
first_view seats = record { numbers = []; allowance = seats; met_end = false }

-- a seat after it found a number in the word: it has drawn the number, or has met the end
abbrev pub after_draw : ℕ → View → ℕ → View
after_draw parts v found = if nat_lt found parts then record v { numbers = v.numbers ++ found ∷ [] } else record v { met_end = true }

-- a seat after it gave 1 of its allowance to a new seat
abbrev pub after_split : View → View
after_split v = record v { allowance = v.allowance - 1 }

-- the new seat that a seat is split into, which knows of the end if the old one does
abbrev pub split_off : View → View
split_off v = record { numbers = []; allowance = 1; met_end = v.met_end }

-- a seat after it was joined with another
abbrev pub joined : View → View → View
joined v w = record { numbers = v.numbers ++ w.numbers; allowance = v.allowance + w.allowance; met_end = v.met_end || w.met_end }

-- what is left of a seat that was joined to another
abbrev pub spent : View
spent = record { numbers = []; allowance = 0; met_end = false }
