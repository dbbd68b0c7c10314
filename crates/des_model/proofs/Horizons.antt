-- The horizon of the next window, and whole runs by windows.
use Rattle.std.proofs.Common.{
  ◌≡◌,
  ◌≢◌,
  ℕ,
  zero,
  suc,
  ◌+◌,
  ◌-◌,
  ◌<◌,
  ◌≤◌,
  min,
  Bool,
  true,
  false,
  cond,
  Option,
  None,
  Some,
  List,
  [],
  ◌∷◌,
  ◌++◌,
  length,
  get_or,
  All,
  refl,
  ap,
  sym,
  subst,
  arith,
  inl,
  inr,
  ◌⊎◌,
  ⊎_elim,
  length-append,
}
use Rattle.std.proofs.lemmas.Bool.{cases_lt, cases_eq, cond-true, cond-false, le-ltb, lt-ltb, and_parts}
use Rattle.std.specs.List.{cons_option}
use Rattle.des_event.specs.declared.event.Event.{Event}
use Rattle.des_model.specs.Machine.{Machine}
use Rattle.des_model.specs.Histories.{next, IsNext, IsLegal, history, full_history, IsOverLimit}
use Rattle.des_model.specs.WellFormed.{IsWellFormed}
use Rattle.des_model.specs.Windows.{Division, Divides, Window, Step, after_step, next_step, left_by, ran_by, after_option}
use Rattle.des_model.specs.Schedules.{least_above, Run, all_sealed, horizon_from, begun, begun_at, settled, Goes}
use Rattle.des_model.specs.Schedules.Run.{Within, Ended}
use Rattle.des_model.specs.Schedules.Goes.{ends, steps}
use Rattle.des_model.specs.Laws.{MayOpen, Commutes, IsWhole}
use Rattle.des_model.proofs.Runs.{next-Some, legal_is_history, history_is_whole, history_is_legal}
use Rattle.des_model.proofs.Below.{length_history, goes_on, next_of_rest}
use Rattle.des_model.proofs.Steps.{sealed_from_sound, IsSound, sound_opened, sound_pick, kept_step}
use Rattle.des_model.proofs.Commuting.{commutes}

least_above_more : (t n : ℕ) (xs : List ℕ) → t < n → t < least_above t n xs
least_above_more t n [] l = l
least_above_more t n (x ∷ xs) l = go (cases_lt t x) (least_above_more t n xs l)
  where
    go : (t < x) ⊎ (x ≤ t) → t < least_above t n xs → t < least_above t n (x ∷ xs)
    go (inl lt) ih = rw (cond-true _ (min x (least_above t n xs)) (least_above t n xs) (lt-ltb t x lt)) (omega arith)
    go (inr ge) ih = rw (cond-false _ (min x (least_above t n xs)) (least_above t n xs) (le-ltb t x ge)) ih

-- no number lies between
least_above_next : (t n : ℕ) (xs : List ℕ) (i : ℕ) (d : ℕ) → i < length xs → (get_or xs i d ≤ t) ⊎ (least_above t n xs ≤ get_or xs i d)
least_above_next t n [] i d l = absurd (omega (arith, l))
least_above_next t n (x ∷ xs) zero d l = go (cases_lt t x)
  where
    go : (t < x) ⊎ (x ≤ t) → (x ≤ t) ⊎ (least_above t n (x ∷ xs) ≤ x)
    go (inl lt) = inr (rw (cond-true _ (min x (least_above t n xs)) (least_above t n xs) (lt-ltb t x lt)) (omega arith))
    go (inr ge) = inl ge
least_above_next t n (x ∷ xs) (suc i) d l = go (cases_lt t x) (least_above_next t n xs i d (omega (arith, l)))
  where
    go : (t < x) ⊎ (x ≤ t) → (get_or xs i d ≤ t) ⊎ (least_above t n xs ≤ get_or xs i d) → (get_or xs i d ≤ t) ⊎ (least_above t n (x ∷ xs) ≤ get_or xs i d)
    go c (inl late) = inl late
    go (inl lt) (inr next) = inr (rw (cond-true _ (min x (least_above t n xs)) (least_above t n xs) (lt-ltb t x lt)) (omega (arith, next)))
    go (inr ge) (inr next) = inr (rw (cond-false _ (min x (least_above t n xs)) (least_above t n xs) (le-ltb t x ge)) next)

least_above_within : (t n : ℕ) (xs : List ℕ) → least_above t n xs ≤ n
least_above_within t n [] = omega arith
least_above_within t n (x ∷ xs) = go (cases_lt t x) (least_above_within t n xs)
  where
    go : (t < x) ⊎ (x ≤ t) → least_above t n xs ≤ n → least_above t n (x ∷ xs) ≤ n
    go (inl lt) ih = rw (cond-true _ (min x (least_above t n xs)) (least_above t n xs) (lt-ltb t x lt)) (omega arith)
    go (inr ge) ih = rw (cond-false _ (min x (least_above t n xs)) (least_above t n xs) (le-ltb t x ge)) ih

pub all_sealed-true : {Body : Type 0} (v : Window Body) (n : ℕ) → all_sealed v n ≡ true → (p : ℕ) → p < n → (v.part p).sealed ≡ true
all_sealed-true v zero t p l = absurd (omega arith)
all_sealed-true v (suc n) t p l =
    let b = and_parts (v.part n).sealed (all_sealed v n) t in
    ⊎_elim (λ e. subst (λ z. (v.part z).sealed ≡ true) (sym e) b.0) (λ ne. let differ : p ≢ n = ne in all_sealed-true v n b.1 p (omega arith)) (cases_eq p n)

module _ {State Body Piece : Type 0} (m : Machine State Body Piece) {Sound : ℕ → State → Type 0} {Fit : Event Body → Type 0}
    (w : IsWellFormed m Sound Fit) where
  pub horizon_may_open : (h : List (Event Body)) (e : Event Body) → IsLegal m h → next m h ≡ Some e → MayOpen m h e.key.time (horizon_from m e.key.time)
  horizon_may_open h e l s =
      let n : IsNext m h e = next-Some m h e s in
      let more : e.key.time < least_above e.key.time m.duration m.audit_times = least_above_more e.key.time m.duration m.audit_times n.in_time in
      record {
        legal = l;
        reached = (e, n.waits, refl);
        earliest = λ x c. (n.first x c).time;
        above = omega (arith, more, w.looks_ahead);
        ahead = omega arith;
        in_time = omega (arith, least_above_within e.key.time m.duration m.audit_times);
      }

  pub no_audit_inside : (time : ℕ) → All (λ t. (t ≤ time) ⊎ (horizon_from m time ≤ t)) m.audit_times
  no_audit_inside time i d l = go (least_above_next time m.duration m.audit_times i d l)
    where
      go : (get_or m.audit_times i d ≤ time) ⊎ (least_above time m.duration m.audit_times ≤ get_or m.audit_times i d)
          → (get_or m.audit_times i d ≤ time) ⊎ (horizon_from m time ≤ get_or m.audit_times i d)
      go (inl late) = inl late
      go (inr next) = inr (omega (arith, next))

  -- a legal history after which nothing follows is the whole run
  pub whole_from : (h : List (Event Body)) → IsLegal m h → next m h ≡ None → IsWhole m h
  whole_from h l s = record { legal = l; ended = s; within_limit = within; over_limit = over }
    where
      at_length : (n : ℕ) → length h ≡ n → history m n ≡ h
      at_length n e = subst (λ k. history m k ≡ h) e (sym (legal_is_history m w h l))

      after_length : (n : ℕ) → history m n ≡ h → history m (suc n) ≡ h
      after_length n e = subst (λ z. cons_option (next m z) z ≡ h) (sym e) (ap (λ o. cons_option o h) s)

      stays : (k n : ℕ) → n ≡ k + length h → history m n ≡ h
      stays zero n e = at_length n (omega arith)
      stays (suc k) zero e = absurd (omega arith)
      stays (suc k) (suc n) e = after_length n (stays k n (omega arith))

      within : length h ≤ m.max_events → (h ≡ full_history m) × (IsOverLimit m → ⊥)
      within few = (
        sym (stays (m.max_events - length h) m.max_events (omega arith)),
        λ over. omega (arith, ap length (stays (m.max_events + 1 - length h) (m.max_events + 1) (omega arith))),
      )

      over : m.max_events < length h → IsOverLimit m
      over many = ⊎_elim (λ e. e) exact (history_is_whole m (m.max_events + 1))
        where
          u : List (Event Body)
          u = history m (m.max_events + 1)

          short : ((e : Event Body) → IsNext m u e → ⊥) → (g : List (Event Body)) × (h ≡ g ++ u) → length u < length h → ⊥
          short stuck r lt =
              let n = next_of_rest m r.0 u (subst (λ z. IsLegal m z) r.1 l) (omega (arith, ap length r.1, length-append r.0 u)) in
              stuck n.0 n.1

          exact : ((e : Event Body) → IsNext m u e → ⊥) → IsOverLimit m
          exact stuck =
              ⊎_elim (λ lt. absurd (short stuck (goes_on m w u h (history_is_legal m (m.max_events + 1)) l (omega arith)) lt))
              (λ ge. omega (arith, ge, length_history m (m.max_events + 1))) (cases_lt (length u) (length h))

  module _ (deals : ℕ → Division) (whole : (number : ℕ) → Divides (deals number) m.nodes) where
    -- where a run by windows has come to
    abbrev pub IsOnCourse : Run Body → Type 0
    IsOnCourse (Within number v) = IsSound m (deals number) v × ((time : ℕ) × MayOpen m v.history time v.horizon)
    IsOnCourse (Ended h) = IsLegal m h × (next m h ≡ None)

    pub begun_on_course : (number : ℕ) (h : List (Event Body)) → IsLegal m h → IsOnCourse (begun m number h)
    begun_on_course number h l = go (next m h) refl
      where
        go : (o : Option (Event Body)) → next m h ≡ o → IsOnCourse (begun_at m number h o)
        go None s = (l, s)
        go (Some e) s = (sound_opened m (deals number) h (horizon_from m e.key.time), (e.key.time, horizon_may_open h e l s))

    settled_on_course : (number : ℕ) (v : Window Body) → IsSound m (deals number) v → (time : ℕ) → MayOpen m v.history time v.horizon
        → IsOnCourse (settled m deals number v)
    settled_on_course number v s time o = go (all_sealed v (deals number).parts) refl
      where
        left : List (Event Body)
        left = left_by (deals number) v.history (ran_by v)

        go : (b : Bool) → all_sealed v (deals number).parts ≡ b → IsOnCourse
            (cond b (begun m (number + 1) (left_by (deals number) v.history (ran_by v))) (Within number v))
        go false e = (s, (time, o))
        go true e =
            let c : Commutes m (deals number) v.history v.horizon (ran_by v) =
            commutes m w (deals number) (whole number) v.history time v.horizon o (ran_by v)
            (λ p l. sealed_from_sound m (deals number) v s p (all_sealed-true v (deals number).parts e p l)) in
            begun_on_course (number + 1) left (subst (λ z. IsLegal m z) (sym c.left) c.legal)

    step_on_course : (number : ℕ) (v : Window Body) (worker : ℕ) (step : Step Body) → IsOnCourse (Within number v)
        → next_step m (deals number) v (v.held worker) ≡ Some step → IsOnCourse (settled m deals number (after_step v worker step))
    step_on_course number v worker step c s =
        let next_window : IsSound m (deals number) (after_step v worker step) = subst (λ o. IsSound m (deals number) (after_option m v worker o)) s
        (sound_pick m (deals number) v worker c.0) in
        let kept = kept_step m (deals number) v worker (Some step) in
        settled_on_course number (after_step v worker step) next_window (c.1).0
        (subst (λ z. MayOpen m z (c.1).0 (after_step v worker step).horizon) (sym kept.0) (subst (λ z. MayOpen m v.history (c.1).0 z) (sym kept.1) (c.1).1))

    pub goes_to_whole : (workers : ℕ) (r : Run Body) (picks : List ℕ) (taken : List (ℕ × Step Body)) (h : List (Event Body))
        → Goes m deals workers r picks taken h → IsOnCourse r → IsWhole m h
    goes_to_whole workers r picks taken h ends c = whole_from h c.0 c.1
    goes_to_whole workers r picks taken h (steps {number = number} {w = v} {worker = worker} {step = step} t s g) c = goes_to_whole workers _ _ _ h g
        (step_on_course number v worker step c s)
