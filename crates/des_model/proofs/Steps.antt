-- What the steps of the workers keep.
use Rattle.std.proofs.Common.{◌≡◌, ◌≢◌, ℕ, Bool, true, false, cond, Option, None, Some, List, [], ◌∷◌, refl, sym, ◌∙◌, subst, ⊎_elim, eq-eqb}
use Rattle.std.proofs.lemmas.Bool.{cases_eq, cond-true, cond-false, ne_eqb, false≢true}
use Rattle.std.specs.Prelude.{nat_lt}
use Rattle.des_event.specs.declared.event.Event.{Event}
use Rattle.des_model.specs.Machine.{Machine}
use Rattle.des_model.specs.Histories.{least}
use Rattle.des_model.specs.Windows.{
  Division,
  Part,
  Window,
  Step,
  put,
  opened,
  after_step,
  after_option,
  after_pick,
  after_picks,
  next_step,
  running,
  waiting,
  IsPartRun,
  IsSealedRun,
}
use Rattle.des_model.specs.Windows.Step.{Drew, Ran, Sealed}

pub put_same : {A : Type 0} (f : ℕ → A) (i : ℕ) (v : A) (j : ℕ) → j ≡ i → put f i v j ≡ v
put_same f i v j e = cond-true _ _ _ (eq-eqb j i e)

pub put_other : {A : Type 0} (f : ℕ → A) (i : ℕ) (v : A) (j : ℕ) → j ≢ i → put f i v j ≡ f j
put_other f i v j e = cond-false _ _ _ (ne_eqb j i e)

module _ {State Body Piece : Type 0} (m : Machine State Body Piece) (d : Division) where
  -- the part ran what waited there, the least first, and is sealed only if nothing waits
  pub record IsGood (h : List (Event Body)) (horizon p : ℕ) (part : Part Body) : Type 0 where
    pub runs : IsPartRun m d h horizon p part.ran
    pub done : part.sealed ≡ true → least (waiting m d h horizon p part.ran) ≡ None

  abbrev pub IsSound : Window Body → Type 0
  IsSound w = (p : ℕ) → IsGood w.history w.horizon p (w.part p)

  put_good : (h : List (Event Body)) (horizon : ℕ) (f : ℕ → Part Body) (p : ℕ) (v : Part Body) → ((q : ℕ) → IsGood h horizon q (f q))
      → IsGood h horizon p v → (q : ℕ) → IsGood h horizon q (put f p v q)
  put_good h horizon f p v all one q =
      ⊎_elim (λ e. subst (λ z. IsGood h horizon q z) (sym (put_same f p v q e)) (subst (λ z. IsGood h horizon z v) (sym e) one))
      (λ e. subst (λ z. IsGood h horizon q z) (sym (put_other f p v q e)) (all q)) (cases_eq q p)

  pub sound_opened : (h : List (Event Body)) (horizon : ℕ) → IsSound (opened h horizon)
  sound_opened h horizon p = record { runs = tt; done = λ e. absurd (false≢true e) }

  pub sound_pick : (w : Window Body) (i : ℕ) → IsSound w → IsSound (after_pick m d w i)
  sound_pick w i s = go (w.held i)
    where
      drawn : (b : Bool) → IsSound (after_option m w i (cond b (Some (Drew w.drawn)) None))
      drawn true = s
      drawn false = s

      ran : (p : ℕ) (o : Option (Event Body)) → least (waiting m d w.history w.horizon p (w.part p).ran) ≡ o → IsSound (after_step w i (running m p o))
      ran p None e = put_good w.history w.horizon w.part p (record (w.part p) { sealed = true }) s (record { runs = (s p).runs; done = λ t. e })
      ran p (Some x) e = put_good w.history w.horizon w.part p (record (w.part p) { ran = x ∷ (w.part p).ran }) s
          (record { runs = ((s p).runs, e); done = λ t. absurd (cc ((s p).done t, e)) })

      go : (o : Option ℕ) → IsSound (after_option m w i (next_step m d w o))
      go None = drawn (nat_lt w.drawn d.parts)
      go (Some p) = ran p (least (waiting m d w.history w.horizon p (w.part p).ran)) refl

  pub sound_picks : (picks : List ℕ) (w : Window Body) → IsSound w → IsSound (after_picks m d w picks)
  sound_picks [] w s = s
  sound_picks (i ∷ picks) w s = sound_picks picks (after_pick m d w i) (sound_pick w i s)

  -- the steps leave the history and the horizon alone
  pub kept_step : (w : Window Body) (i : ℕ) (o : Option (Step Body)) → ((after_option m w i o).history ≡ w.history)
      × ((after_option m w i o).horizon ≡ w.horizon)
  kept_step w i None = (refl, refl)
  kept_step w i (Some (Drew p)) = (refl, refl)
  kept_step w i (Some (Ran p e)) = (refl, refl)
  kept_step w i (Some (Sealed p)) = (refl, refl)

  pub kept_picks : (picks : List ℕ) (w : Window Body) → ((after_picks m d w picks).history ≡ w.history) × ((after_picks m d w picks).horizon ≡ w.horizon)
  kept_picks [] w = (refl, refl)
  kept_picks (i ∷ picks) w =
      let r = kept_picks picks (after_pick m d w i) in
      let k = kept_step w i (next_step m d w (w.held i)) in
      (r.0 ∙ k.0, r.1 ∙ k.1)

  nothing_waits : {xs : List (Event Body)} → least xs ≡ None → xs ≡ []
  nothing_waits {xs} e = go xs e
    where
      go : (ys : List (Event Body)) → least ys ≡ None → ys ≡ []
      go [] e = refl
      go (y ∷ ys) e = absurd cc

  pub sealed_from_sound : (w : Window Body) → IsSound w → (p : ℕ) → (w.part p).sealed ≡ true → IsSealedRun m d w.history w.horizon p (w.part p).ran
  sealed_from_sound w s p t = record { runs = (s p).runs; done = nothing_waits ((s p).done t) }

  pub steps_run_parts : (h : List (Event Body)) (horizon : ℕ) (picks : List ℕ) (p : ℕ)
      → IsPartRun m d h horizon p ((after_picks m d (opened h horizon) picks).part p).ran
      × (((after_picks m d (opened h horizon) picks).part p).sealed ≡ true
      → IsSealedRun m d h horizon p ((after_picks m d (opened h horizon) picks).part p).ran)
  steps_run_parts h horizon picks p = (good.runs, λ t. record { runs = good.runs; done = nothing_waits (good.done t) })
    where
      v : Window Body
      v = after_picks m d (opened h horizon) picks

      kept : (v.history ≡ h) × (v.horizon ≡ horizon)
      kept = kept_picks picks (opened h horizon)

      good : IsGood h horizon p (v.part p)
      good = subst (λ z. IsGood z horizon p (v.part p)) kept.0 (subst (λ z. IsGood v.history z p (v.part p)) kept.1
          (sound_picks picks (opened h horizon) (sound_opened h horizon) p))
