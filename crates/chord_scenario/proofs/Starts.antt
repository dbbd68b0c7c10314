-- The start events, node by node.
use Rattle.std.proofs.Common.{◌≡◌, ◌∙◌, sym, ap, refl, ℕ, suc, ◌+◌, ◌-◌, ◌<◌, ◌≤◌, ◌==◌, Bool, true, false, List, [], ◌∷◌, ◌++◌, map, filter, length, drop, get_or, Option, Some, None, option_map, inl, inr, append_assoc, arith}
use Rattle.std.specs.List.{enumerate_from, filter_map, flat_map, range_with_len}
use Rattle.std.proofs.lemmas.Bool.{cases_Bool}
use Rattle.std.proofs.lemmas.Option.{same_Some}
use Rattle.std.specs.Prelude.{if◌then◌else◌}
use Rattle.std.proofs.lemmas.List.{append-nil, drop_more, drop_all}
use Rattle.chord_event.specs.declared.body.Body.{Body}
use Rattle.chord_event.specs.declared.body.Body.TheVariants as body
use Rattle.des_event.specs.declared.event.Event.{Event}
use Rattle.chord_scenario.specs.declared.setting.Churn.{Churn}
use Rattle.chord_scenario.specs.declared.setting.Span.{Span}
use Rattle.chord_scenario.specs.Setup.{Setup}
use Rattle.chord_scenario.specs.Start.{at_first, first_span, jittered, timer_event, life_timer, check_timer}
use Rattle.chord_scenario.specs.World.{is_churn_node}

-- the numbers from one on
range-turn : (a n : ℕ) → a < n → range_with_len a (n - a) ≡ a ∷ range_with_len (a + 1) (n - (a + 1))
range-turn a n h = let more : n - a ≡ suc (n - (a + 1)) = omega arith in rw more

module _ {A : Type 0} (f : ℕ → List A) (p : ℕ → Bool) (done : List A) (a n : ℕ) (within : a < n) where
  abbrev left_from : ℕ → List A
  left_from k = flat_map f (filter p (range_with_len k (n - k)))

  -- a node that passes gives its own, and another one nothing
  pub pass : (next all : List A) → p a ≡ true → next ≡ done ++ f a → done ++ left_from a ≡ all → next ++ left_from (a + 1) ≡ all
  pass next all here is h =
      ap (λ l. l ++ left_from (a + 1)) is
      ∙ append_assoc done (f a) (left_from (a + 1))
      ∙ sym (ap (λ l. done ++ flat_map f (filter p l)) (range-turn a n within) ∙ rw here)
      ∙ h

  pub pass_over : (next all : List A) → p a ≡ false → next ≡ done → done ++ left_from a ≡ all → next ++ left_from (a + 1) ≡ all
  pass_over next all other is h =
      ap (λ l. l ++ left_from (a + 1)) is
      ∙ sym (ap (λ l. done ++ flat_map f (filter p l)) (range-turn a n within) ∙ rw other)
      ∙ h

module _ {X B : Type 0} (make : ℕ × X → B) (xs : List X) (i : ℕ) (done all : List B) where
  abbrev numbered_from : ℕ → List B
  numbered_from k = map make (enumerate_from (k + 1) (drop k xs))

  -- a numbered item is added
  pub numbered-more : (x : X) (y : B) → i < length xs → x ≡ get_or xs i x → y ≡ make (i + 1, x) → done ++ numbered_from i ≡ all
      → (done ++ y ∷ []) ++ numbered_from (i + 1) ≡ all
  numbered-more x y within is same h =
      append_assoc done (y ∷ []) (numbered_from (i + 1))
      ∙ ap (λ z. done ++ z ∷ numbered_from (i + 1)) (same ∙ ap (λ w. make (i + 1, w)) is)
      ∙ ap (λ l. done ++ l) (sym (ap (λ l. map make (enumerate_from (i + 1) l)) (drop_more xs i x within)))
      ∙ h

  -- and none is left
  pub numbered-end : length xs ≤ i → done ++ numbered_from i ≡ all → done ≡ all
  numbered-end end h = sym (ap (λ l. done ++ map make (enumerate_from (i + 1) l)) (drop_all i xs end) ∙ append-nil done) ∙ h

module _ (sc : Setup) where
  -- the timer of a check, or none
  pub no_check : None ≡ option_map (λ timer. timer.0) (check_timer sc 0) → option_map (at_first sc) (check_timer sc 1) ≡ None
  no_check = by (sc.check == 0)
    where
      by : (b : Bool) → None ≡ option_map (λ (timer : Span × Body). timer.0) (if b then None else Some (jittered sc.check sc.jitters.check, body.CheckTick 0))
          → option_map (at_first sc) (if b then None else Some (jittered sc.check sc.jitters.check, body.CheckTick 1)) ≡ None
      by true is = refl
      by false is = absurd (cc)

  pub some_check : (span first : Span) → Some span ≡ option_map (λ timer. timer.0) (check_timer sc 0) → first ≡ first_span sc span
      → option_map (at_first sc) (check_timer sc 1) ≡ Some (first, body.CheckTick 1)
  some_check span first = by (sc.check == 0)
    where
      by : (b : Bool) → Some span ≡ option_map (λ (timer : Span × Body). timer.0) (if b then None else Some (jittered sc.check sc.jitters.check, body.CheckTick 0))
          → first ≡ first_span sc span
          → option_map (at_first sc) (if b then None else Some (jittered sc.check sc.jitters.check, body.CheckTick 1)) ≡ Some (first, body.CheckTick 1)
      by true is at = absurd (cc)
      by false is at =
          let same : span ≡ jittered sc.check sc.jitters.check = same_Some span (jittered sc.check sc.jitters.check) is in
          sym (ap (λ (s : Span). Some (s, body.CheckTick 1)) (at ∙ ap (first_span sc) same))

module _ (sc : Setup) (n : ℕ) where
  -- the timers of these rows as events, from this place on
  abbrev pub timers_from : (place : ℕ) → List (Option (Span × Body)) → List (Event Body)
  timers_from place rows = map (λ p. timer_event sc n p.0 p.1) (enumerate_from place (filter_map (λ row. row) rows))

  module _ (rows : List (Option (Span × Body))) (row : Option (Span × Body)) (place next_place : ℕ) (done next all : List (Event Body)) where
    -- a row that has a timer adds it, and another one nothing
    pub row-some : (timer : Span × Body) → row ≡ Some timer → next_place ≡ place + 1 → next ≡ done ++ timer_event sc n place timer ∷ []
        → done ++ timers_from place (row ∷ rows) ≡ all
        → next ++ timers_from next_place rows ≡ all
    row-some timer is more added h =
        rw (more, added)
        (append_assoc done (timer_event sc n place timer ∷ []) (timers_from (place + 1) rows)
        ∙ sym (ap (λ r. done ++ timers_from place (r ∷ rows)) is)
        ∙ h)

    pub row-none : row ≡ None → next_place ≡ place → next ≡ done → done ++ timers_from place (row ∷ rows) ≡ all → next ++ timers_from next_place rows ≡ all
    row-none is same kept h = rw (same, kept) (sym (ap (λ r. done ++ timers_from place (r ∷ rows)) is) ∙ h)

  -- the timer of a life, or none
  pub no_life : is_churn_node sc n ≡ false → life_timer sc n 1 ≡ None
  no_life other = rw other refl

  pub no_span : sc.churn ≡ None → life_timer sc n 1 ≡ None
  no_span is =
      elim (cases_Bool (is_churn_node sc n)) [
        | inl here ↦ rw (here, is) refl
        | inr other ↦ rw other refl
      ]

  pub some_life : (churn : Churn) → is_churn_node sc n ≡ true → sc.churn ≡ Some churn → life_timer sc n 1 ≡ Some (churn.life, body.LifeEnd 1)
  some_life churn here is = rw (here, is) refl
