-- Until a window is closed, some worker can take a step.
use Rattle.std.proofs.Common.{
  ◌≡◌,
  ◌≢◌,
  ℕ,
  zero,
  suc,
  ◌<◌,
  ◌≤◌,
  Bool,
  true,
  false,
  cond,
  Option,
  None,
  Some,
  List,
  [],
  ◌∷◌,
  refl,
  ap,
  sym,
  ◌∙◌,
  subst,
  arith,
  inl,
  inr,
  ◌⊎◌,
  ⊎_elim,
  ltb-false,
}
use Rattle.std.proofs.lemmas.Bool.{cases_eq, and_from}
use Rattle.std.specs.Prelude.{nat_lt, is_some, IsSome, if◌then◌else◌}
use Rattle.std.specs.Option.{option_or}
use Rattle.std.specs.List.{All}
use Rattle.des_event.specs.declared.event.Event.{Event}
use Rattle.des_model.specs.Machine.{Machine}
use Rattle.des_model.specs.Histories.{least}
use Rattle.des_model.specs.Windows.{Division, Part, Window, Step, opened, after_step, after_option, after_pick, after_picks, next_step, running, waiting}
use Rattle.des_model.specs.Windows.Step.{Drew}
use Rattle.des_model.specs.Schedules.{all_sealed, can_step, lowest}
use Rattle.std.proofs.lemmas.List.Elements.{All-head, All-tail}
use Rattle.des_model.proofs.Steps.{put_same, put_other}

or_none : {A : Type 0} (a b : Option A) → option_or a b ≡ None → (a ≡ None) × (b ≡ None)
or_none None b e = (refl, e)
or_none (Some x) b e = absurd cc

none_from_if : {A : Type 0} (b : Bool) (x : A) → (if b then Some x else None) ≡ None → b ≡ false
none_from_if true x e = absurd cc
none_from_if false x e = refl

pub sealed_from_each : {Body : Type 0} (v : Window Body) (n : ℕ) → ((p : ℕ) → p < n → (v.part p).sealed ≡ true) → all_sealed v n ≡ true
sealed_from_each v zero h = refl
sealed_from_each v (suc n) h = and_from (v.part n).sealed (all_sealed v n) (h n (omega arith)) (sealed_from_each v n (λ p l. h p (omega arith)))

module _ {State Body Piece : Type 0} (m : Machine State Body Piece) (d : Division) (workers : ℕ) where
  -- each part that was drawn is done, or one of the workers has it
  abbrev pub IsHeld : Window Body → Type 0
  IsHeld v = (p : ℕ) → p < v.drawn → ((v.part p).sealed ≡ true) ⊎ ((i : ℕ) × (i < workers) × (v.held i ≡ Some p))

  pub held_pick : (v : Window Body) (i : ℕ) → i < workers → IsHeld v → IsHeld (after_pick m d v i)
  held_pick v i worker k = go (v.held i) refl
    where
      drawn : v.held i ≡ None → (b : Bool) → IsHeld (after_option m v i (cond b (Some (Drew v.drawn)) None))
      drawn e false p l = k p l
      drawn e true p l = ⊎_elim
          (λ s. inr (i, worker, put_same v.held i (Some v.drawn) i refl ∙ ap Some (sym s)))
          (λ ne. let differ : p ≢ v.drawn = ne in
          ⊎_elim (λ s. inl s) (λ r. inr (r.0, r.1, put_other v.held i (Some v.drawn) r.0 (λ s. cc (ap v.held s, e, r.2)) ∙ r.2)) (k p (omega arith)))
          (cases_eq p v.drawn)

      ran : (q : ℕ) → v.held i ≡ Some q → (o : Option (Event Body)) → IsHeld (after_step v i (running m q o))
      ran q e (Some x) p l = ⊎_elim
          (λ s. inl (⊎_elim
          (λ t. ap (λ (z : Part Body). z.sealed) (put_same v.part q (record (v.part q) { ran = x ∷ (v.part q).ran }) p t)
          ∙ (ap (λ z. (v.part z).sealed) (sym t) ∙ s))
          (λ t. ap (λ (z : Part Body). z.sealed) (put_other v.part q (record (v.part q) { ran = x ∷ (v.part q).ran }) p t) ∙ s) (cases_eq p q)))
          (λ r. inr r) (k p l)
      ran q e None p l = ⊎_elim
          (λ t. inl (ap (λ (z : Part Body). z.sealed) (put_same v.part q (record (v.part q) { sealed = true }) p t)))
          (λ t. ⊎_elim
          (λ s. inl (ap (λ (z : Part Body). z.sealed) (put_other v.part q (record (v.part q) { sealed = true }) p t) ∙ s))
          (λ r. inr (r.0, r.1, put_other v.held i None r.0 (λ s. t (same p q (sym r.2 ∙ (ap v.held s ∙ e)))) ∙ r.2)) (k p l)) (cases_eq p q)
        where
          same : (a b : ℕ) → Some a ≡ Some b → a ≡ b
          same a b h = cc

      go : (o : Option ℕ) → v.held i ≡ o → IsHeld (after_option m v i (next_step m d v o))
      go None e = drawn e (nat_lt v.drawn d.parts)
      go (Some q) e = ran q e (least (waiting m d v.history v.horizon q (v.part q).ran))

  held_picks : (picks : List ℕ) → All (λ i. i < workers) picks → (v : Window Body) → IsHeld v → IsHeld (after_picks m d v picks)
  held_picks [] all v k = k
  held_picks (i ∷ picks) all v k = held_picks picks (All-tail (λ i. i < workers) i picks all) (after_pick m d v i)
      (held_pick v i (All-head (λ i. i < workers) i picks all) k)

  pub lowest_none : (v : Window Body) (n : ℕ) → lowest m d v n ≡ None → (i : ℕ) → i < n → can_step m d v i ≡ false
  lowest_none v zero e i l = absurd (omega arith)
  lowest_none v (suc n) e i l =
      let b = or_none (lowest m d v n) (if can_step m d v n then Some n else None) e in
      ⊎_elim (λ s. subst (λ z. can_step m d v z ≡ false) (sym s) (none_from_if (can_step m d v n) n b.1))
      (λ ne. let differ : i ≢ n = ne in lowest_none v n b.0 i (omega arith)) (cases_eq i n)

  pub held_none : (v : Window Body) (i : ℕ) → can_step m d v i ≡ false → v.held i ≡ None
  held_none v i f = go (v.held i) refl f
    where
      go : (o : Option ℕ) → v.held i ≡ o → is_some (next_step m d v o) ≡ false → o ≡ None
      go None e f = refl
      go (Some p) e f = absurd cc

  pub none_left : (v : Window Body) → can_step m d v 0 ≡ false → v.held 0 ≡ None → d.parts ≤ v.drawn
  none_left v f e = go (nat_lt v.drawn d.parts) refl (subst (λ o. is_some (next_step m d v o) ≡ false) e f)
    where
      go : (b : Bool) → nat_lt v.drawn d.parts ≡ b → is_some {T = Step Body} (if b then Some (Drew v.drawn) else None) ≡ false → d.parts ≤ v.drawn
      go true t g = absurd cc
      go false t g = ltb-false v.drawn d.parts t

  pub someone_can_step : (v : Window Body) → 0 < workers → IsHeld v → all_sealed v d.parts ≡ false → IsSome (lowest m d v workers)
  someone_can_step v some k unfinished = go (lowest m d v workers) refl
    where
      closed : lowest m d v workers ≡ None → all_sealed v d.parts ≡ true
      closed e = sealed_from_each v d.parts (λ p l.
          let left : d.parts ≤ v.drawn = none_left v (lowest_none v workers e 0 some) (held_none v 0 (lowest_none v workers e 0 some)) in
          ⊎_elim (λ s. s) (λ r. absurd (cc (held_none v r.0 (lowest_none v workers e r.0 r.1), r.2))) (k p (omega arith)))

      go : (o : Option ℕ) → lowest m d v workers ≡ o → IsSome o
      go None e = absurd (cc (closed e, unfinished))
      go (Some i) e = refl

  pub windows_progress : (h : List (Event Body)) (horizon : ℕ) → 0 < workers → (picks : List ℕ) → All (λ i. i < workers) picks
      → all_sealed (after_picks m d (opened h horizon) picks) d.parts ≡ false → IsSome (lowest m d (after_picks m d (opened h horizon) picks) workers)
  windows_progress h horizon some picks all unfinished =
      someone_can_step (after_picks m d (opened h horizon) picks) some (held_picks picks all (opened h horizon) (λ p l. absurd (omega arith))) unfinished
