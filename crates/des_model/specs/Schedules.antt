-- Whole runs by windows: each closed window is followed by the next, and a list of worker numbers says whose turn it
-- is. That one list has one run is the law `runs_are_unique`.
use Rattle.std.specs.Prelude.{ℕ, zero, suc, ◌≡◌, ◌+◌, min, List, [], ◌∷◌, Option, None, Some, if◌then◌else◌, Bool, true, ◌&&◌, nat_lt, is_some}
use Rattle.std.specs.Option.{option_or}
use Rattle.des_event.specs.declared.event.Event.{Event}
use Rattle.des_model.specs.Machine.{Machine}
use Rattle.des_model.specs.Histories.{next}
use Rattle.des_model.specs.Windows.{Division, Window, Step, opened, next_step, after_step, ran_by, left_by}

-- the least of n and those of the numbers that are above t
abbrev pub least_above : ℕ → ℕ → List ℕ → ℕ
least_above t n [] = n
least_above t n (x ∷ xs) = if nat_lt t x then min x (least_above t n xs) else least_above t n xs

-- a run in progress, with the number of its window, or the history of one that has ended
pub data Run (Body : Type 0) : Type 0 where
  Within : (number : ℕ) → (window : Window Body) → Run Body
  Ended : (history : List (Event Body)) → Run Body

-- the first n parts are done
abbrev pub all_sealed : {Body : Type 0} → Window Body → ℕ → Bool
all_sealed w zero = true
all_sealed w (suc p) = (w.part p).sealed && all_sealed w p

module _ {State Body Piece : Type 0} (m : Machine State Body Piece) where
  -- a window whose first event is at t ends a lookahead later, at the next audit or with the run, whichever is first
  abbrev pub horizon_from : ℕ → ℕ
  horizon_from t = min (t + m.lookahead) (least_above t m.duration m.audit_times)

  -- the next window, as long as an event may follow
  abbrev pub begun_at : ℕ → List (Event Body) → Option (Event Body) → Run Body
  begun_at number h None = Ended h
  begun_at number h (Some e) = Within number (opened h (horizon_from e.key.time))

  -- the run after this history: it opens the window of this number, or has ended if no event may follow
  abbrev pub begun : ℕ → List (Event Body) → Run Body
  begun number h = begun_at number h (next m h)

  -- the worker holds a part, or some part is not drawn yet
  abbrev pub can_step : Division → Window Body → ℕ → Bool
  can_step d w worker = is_some (next_step m d w (w.held worker))

  -- the lowest of the first n workers that can take a step
  abbrev pub lowest : Division → Window Body → ℕ → Option ℕ
  lowest d w zero = None
  lowest d w (suc n) = option_or (lowest d w n) (if can_step d w n then Some n else None)

  -- whose turn it is, and what is left of the list: numbers of no worker, or of one that can take no step, are skipped
  abbrev pub turn : ℕ → Division → Window Body → List ℕ → Option ℕ × List ℕ
  turn workers d w [] = (lowest d w workers, [])
  turn workers d w (i ∷ picks) = if nat_lt i workers && can_step d w i then (Some i, picks) else turn workers d w picks

  -- each window has its own division
  module _ (deals : ℕ → Division) where
    -- a window closes by itself once all parts are sealed
    abbrev pub settled : ℕ → Window Body → Run Body
    settled number w = if all_sealed w (deals number).parts then begun (number + 1) (left_by (deals number) w.history (ran_by w)) else Within number w

    -- the run goes on from here to its end by these steps, each with its worker
    pub data Goes (workers : ℕ) : Run Body → List ℕ → List (ℕ × Step Body) → List (Event Body) → Type 0 where
      ends : {h : List (Event Body)} {picks : List ℕ} → Goes workers (Ended h) picks [] h
      steps : {number : ℕ} {w : Window Body} {picks rest : List ℕ} {worker : ℕ} {step : Step Body} {taken : List (ℕ × Step Body)} {h : List (Event Body)}
          → turn workers (deals number) w picks ≡ (Some worker, rest) → next_step m (deals number) w (w.held worker) ≡ Some step
          → Goes workers (settled number (after_step w worker step)) rest taken h → Goes workers (Within number w) picks ((worker, step) ∷ taken) h
