-- What contracts see of a `Draws` and of a `Seat`, and what a seat knows of all seats.
use Rattle.std.specs.Prelude.{◌≡◌, ℕ, ◌<◌, Bool, false, ◌==◌, if◌then◌else◌, List, [], slice_get, Some}
use Rattle.atomic_table.specs.Seated.{TableId}
use Rattle.des_crew.specs.declared.draw_rule.View.{View}
use Rattle.des_crew.specs.Draws.{IsKept, draws_of}
use Rattle.des_parts.specs.Ordering.{count_of}

-- a counter: which one it is, how many numbers it has, and its whole allowance
pub record Counter : Type 0 where
  pub table : TableId
  pub parts : ℕ
  pub seats : ℕ

-- a seat: its counter, its place among all seats, its view, and whether it knows of the end
pub record SeatState : Type 0 where
  pub table : TableId
  pub place : ℕ
  pub numbers : List ℕ
  pub allowance : ℕ
  pub met_end : Bool
  pub is_exhausted : Bool

-- what the rule knows of a seat
abbrev pub view_of : SeatState → View
view_of s = record { numbers = s.numbers; allowance = s.allowance; met_end = s.met_end }

-- the seat has drawn nothing, and does not know of the end
abbrev pub IsFresh : SeatState → Type 0
IsFresh s = (s.numbers ≡ []) × (s.is_exhausted ≡ false)

-- a moment, by the word and all views, at which the rule holds and the seat has the view that it has now
pub record IsMomentOf (counter : Counter) (seat : SeatState) (word : ℕ) (views : List View) : Type 0 where
  pub kept : IsKept counter.parts counter.seats word views
  pub has_view : slice_get views seat.place ≡ Some (view_of seat)

-- the fact holds of all views from now on, until this seat's next step
abbrev pub Knows : Counter → SeatState → (List View → Type 0) → Type 0
Knows counter seat fact = (word : ℕ) (views : List View) → IsMomentOf counter seat word views → fact views

-- the seat at this place has drawn the number once, and no other seat has drawn it
abbrev pub IsDrawnOnlyAt : ℕ → ℕ → List View → Type 0
IsDrawnOnlyAt place x views = (k : ℕ) (v : View) → slice_get views k ≡ Some v → count_of x v.numbers ≡ (if k == place then 1 else 0)

-- each number below `parts` was drawn once
abbrev pub AllAreDrawn : ℕ → List View → Type 0
AllAreDrawn parts views = (x : ℕ) → x < parts → draws_of x views ≡ 1

-- the seat is of this counter, and has its whole allowance
pub record IsWholeSeat (draws : Counter) (seat : SeatState) : Type 0 where
  pub of_this : seat.table ≡ draws.table
  pub whole : seat.allowance ≡ draws.seats
