-- Where a window ends.
use Rattle.std.proofs.Common.{◌≡◌, ◌∙◌, ℕ, ◌+◌, ◌<◌, Bool, true, false, cond, List, [], ◌∷◌, Option, slice_get, nat_lt, ap, sym, refl, arith}
use Rattle.std.specs.Prelude.{min}
use Rattle.std.specs.List.{AllByRecursion, filter}
use Rattle.des_model.specs.Machine.{Machine}
use Rattle.des_model.specs.Schedules.{horizon_from, least_above}
use Rattle.des_machine.specs.Times.{IsAscending}
use Rattle.des_window.specs.Openings.{end_at}

-- times after the first change nothing
later_ones : (t n x : ℕ) (xs : List ℕ) → AllByRecursion (λ u. x < u) xs → min x (least_above t n xs) ≡ min x n
later_ones t n x [] late = refl
later_ones t n x (y ∷ xs) late = go (nat_lt t y) (later_ones t n x xs late.1)
  where
    go : (b : Bool) → min x (least_above t n xs) ≡ min x n → min x (cond b (min y (least_above t n xs)) (least_above t n xs)) ≡ min x n
    go true rest = let after : x < y = late.0 in omega (arith, after, rest)
    go false rest = rest

-- the first of ascending times above another one is the least
pub first_is_least : (t n : ℕ) (xs : List ℕ) → IsAscending xs → least_above t n xs ≡ end_at n (slice_get (filter (λ u. nat_lt t u) xs) 0)
first_is_least t n [] up = refl
first_is_least t n (x ∷ xs) up = go (nat_lt t x) (first_is_least t n xs up.1)
  where
    go : (b : Bool) → least_above t n xs ≡ end_at n (slice_get (filter (λ u. nat_lt t u) xs) 0)
        → cond b (min x (least_above t n xs)) (least_above t n xs) ≡ end_at n (slice_get (cond b (x ∷ filter (λ u. nat_lt t u) xs)
        (filter (λ u. nat_lt t u) xs)) 0)
    go true rest = later_ones t n x xs up.0
    go false rest = rest

module _ {State Body Piece : Type 0} (m : Machine State Body Piece) where
  -- the end by a clock that has all audits after a time
  pub ends_at : (clock : List ℕ) (time : ℕ) → IsAscending m.audit_times → filter (λ t. nat_lt time t) clock ≡ filter (λ t. nat_lt time t) m.audit_times
      → (first : Option ℕ) → first ≡ slice_get (filter (λ t. nat_lt time t) clock) 0 → horizon_from m time ≡ min (time + m.lookahead) (end_at m.duration first)
  ends_at clock time up same first is = ap (λ z. min (time + m.lookahead) z) (first_is_least time m.duration m.audit_times up
      ∙ ap (λ ts. end_at m.duration (slice_get ts 0)) (sym same) ∙ ap (end_at m.duration) (sym is))
