-- What a seat's view implies for all views.
use Rattle.std.proofs.Common.{◌≡◌, ℕ, ◌<◌, ◌≤◌, min, true, cond, eqb, List, [], get_or, sym, ap, ◌∙◌, eq-eqb, ne_eqb, arith}
use Rattle.std.proofs.Math.Decide.{dec_lt, ℕ_discrete}
use mathlib.Core.Option.{some, some-injective}
use lib.ListN.{get_elem?}
use Rattle.des_crew.specs.declared.draw_rule.View.{View}
use Rattle.std.specs.Prelude.{Some, slice_get}
use Rattle.des_crew.specs.Draws.{HasMoment, draws_of}
use Rattle.des_parts.specs.Ordering.{HasEachOnce, count_of}
use Rattle.des_crew.specs.Seats.{Counter, SeatState, view_of, IsMomentOf, IsDrawnOnlyAt, AllAreDrawn}
use Rattle.des_crew.proofs.Counts.{counted_at}
use Rattle.des_crew.proofs.Lists.{All-at, sum_by-at, sum_by-two, sum_by-whole, get_elem-from_slice_get}

-- a moment at which the seat at this place has the view that this seat has
pub moment_of : (counter : Counter) (seat : SeatState) (place : ℕ) (v : View) → HasMoment counter.parts counter.seats place v → seat.place ≡ place
    → view_of seat ≡ v → (word : ℕ) × (views : List View) × IsMomentOf counter seat word views
moment_of counter seat place v moment here is = (
  moment.0,
  moment.1,
  record {
    kept = moment.2;
    has_view = ap (slice_get moment.1) here ∙ (moment.3 ∙ ap (λ (w : View). Some w) (sym is));
  },
)

module _ (counter : Counter) (seat : SeatState) (word : ℕ) (views : List View) (moment : IsMomentOf counter seat word views) where
  at : get_elem? views seat.place ≡ some (view_of seat)
  at = get_elem-from_slice_get views seat.place (view_of seat) moment.has_view

  at_most_once : (x : ℕ) → draws_of x views ≤ 1
  at_most_once x = by_word (dec_lt x (min word counter.parts))
    where
      by_word : Dec (x < min word counter.parts) → draws_of x views ≤ 1
      by_word (yes below) = omega (arith, moment.kept.each_once x below)
      by_word (no past) = omega (arith, moment.kept.no_other x (omega arith))

  -- what is in its list is in no other
  pub drawn_only_at : (x : ℕ) → 0 < count_of x seat.numbers → IsDrawnOnlyAt seat.place x views
  drawn_only_at x some_times k u e = by_place (ℕ_discrete k seat.place)
    where
      there : get_elem? views k ≡ some u
      there = get_elem-from_slice_get views k u e

      by_place : Dec (k ≡ seat.place) → count_of x u.numbers ≡ cond (eqb k seat.place) 1 0
      by_place (yes same) =
          let is : u ≡ view_of seat = some-injective u (view_of seat) (sym there ∙ ap (λ (j : ℕ). get_elem? views j) same ∙ at) in
          let count : count_of x u.numbers ≡ count_of x seat.numbers = ap (λ (y : View). count_of x y.numbers) is in
          rw (eq-eqb k seat.place same) (omega (arith, sum_by-at (λ y. count_of x y.numbers) views k u there, at_most_once x))
      by_place (no apart) = rw (ne_eqb k seat.place apart) (omega (
        arith,
        sum_by-two (λ y. count_of x y.numbers) views seat.place k (view_of seat) u
            at there apart,
        at_most_once x,
      ))

  -- if it has met the end, each number was drawn
  pub all_drawn : seat.met_end ≡ true → AllAreDrawn counter.parts views
  all_drawn ended x below = moment.kept.each_once x (omega (
    arith,
    All-at (λ u. u.met_end ≡ true → counter.parts ≤ word) views seat.place
        (view_of seat) at moment.kept.end_is_met ended,
  ))

  -- if it has the whole allowance too, each number is in its list
  pub whole_has_each : seat.met_end ≡ true → seat.allowance ≡ counter.seats → HasEachOnce counter.parts seat.numbers
  whole_has_each ended whole =
      let count : (x : ℕ) → draws_of x views ≡ count_of x seat.numbers = λ x. sum_by-whole (λ u. count_of x u.numbers) (λ u. u.allowance) views
      seat.place (view_of seat) at (moment.kept.whole_allowance ∙ sym whole)
      (λ k u e none. rw (All-at (λ y. y.allowance ≡ 0 → y.numbers ≡ []) views k u e moment.kept.spent_is_empty none)) in
      record {
        each_once = λ x below. sym (count x) ∙ all_drawn ended x below;
        no_other = λ k d in_range. below_parts (get_or seat.numbers k d) (counted_at seat.numbers k d in_range) (count (get_or seat.numbers k d));
      }
    where
      below_parts : (x : ℕ) → 0 < count_of x seat.numbers → draws_of x views ≡ count_of x seat.numbers → x < counter.parts
      below_parts x some_times same = by_parts (dec_lt x counter.parts)
        where
          by_parts : Dec (x < counter.parts) → x < counter.parts
          by_parts (yes below) = below
          by_parts (no past) = absurd (omega (arith, moment.kept.no_other x (omega arith)))
