-- One list of worker numbers has one run.
use Rattle.std.proofs.Common.{◌≡◌, ℕ, Some, List, ◌∷◌, refl, ap, sym, ◌∙◌, subst}
use Rattle.des_event.specs.declared.event.Event.{Event}
use Rattle.des_model.specs.Machine.{Machine}
use Rattle.des_model.specs.Windows.{Division, Step, next_step, after_step}
use Rattle.des_model.specs.Schedules.{Run, settled, Goes}
use Rattle.des_model.specs.Schedules.Goes.{ends, steps}

same_some : {A : Type 0} (a b : A) → Some a ≡ Some b → a ≡ b
same_some a b e = cc

module _ {State Body Piece : Type 0} (m : Machine State Body Piece) (deals : ℕ → Division) (workers : ℕ) where
  pub runs_unique : (r : Run Body) (picks : List ℕ) (taken : List (ℕ × Step Body)) (h : List (Event Body)) → Goes m deals workers r picks taken h
      → (taken' : List (ℕ × Step Body)) (h' : List (Event Body)) → Goes m deals workers r picks taken' h' → (taken ≡ taken') × (h ≡ h')
  runs_unique r picks taken h ends taken' h' ends = (refl, refl)
  runs_unique r picks taken h (steps {number = number} {w = v} {rest = rest} {worker = worker} {step = step} {taken = after} t s g) taken' h'
      (steps {rest = rest'} {worker = worker'} {step = step'} {taken = after'} t' s' g') =
      let turns : (Some worker, rest) ≡ (Some worker', rest') = sym t ∙ t' in
      let workers_same : worker ≡ worker' = same_some worker worker' (ap (λ q. q.0) turns) in
      let rests_same : rest ≡ rest' = ap (λ q. q.1) turns in
      let steps_same : step ≡ step' = same_some step step' (sym s ∙ (ap (λ i. next_step m (deals number) v (v.held i)) workers_same ∙ s')) in
      let windows_same : after_step v worker step ≡ after_step v worker' step' = ap (λ i. after_step v i step) workers_same
      ∙ ap (after_step v worker') steps_same in
      let q = runs_unique _ rest after h g after' h'
      (subst (λ z. Goes m deals workers (settled m deals number z) rest after' h') (sym windows_same)
      (subst (λ z. Goes m deals workers (settled m deals number (after_step v worker' step')) z after' h') (sym rests_same) g')) in
      (ap (λ i. (i, step) ∷ after) workers_same ∙ (ap (λ z. (worker', z) ∷ after) steps_same ∙ ap (λ z. (worker', step') ∷ z) q.0), q.1)
