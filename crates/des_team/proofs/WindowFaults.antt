-- The gravest of the faults of a window.
use Rattle.std.proofs.Common.{◌≡◌, ◌∙◌, ◌+◌, ◌<◌, ◌≤◌, ◌⊎◌, ⊎_elim, inl, inr, ℕ, List, [], ◌∷◌, Option, None, Some, ap, arith, get_or, length, subst, sym, take, take_all, refl, suc, ◌++◌}
use Rattle.std.specs.Prelude.{IfSome, ⊤}
use Rattle.std.specs.List.{All, Contains}
use Rattle.std.proofs.lemmas.List.{take_more}
use Rattle.std.proofs.lemmas.List.Elements.{All-cons, All-more, All-nil, All-weaker}
use Rattle.des_event.specs.declared.error.RunError.{RunError}
use Rattle.des_event.specs.declared.error.RunError.TheVariants as run
use Rattle.des_event.proofs.Members.{All_at, contains_here, contains_left, contains_right}
use Rattle.des_output.specs.Faults.{rank_of}
use Rattle.des_model.specs.Histories.{IsOverLimit}
use Rattle.des_team.specs.Chronicles.{Chronicle}
use Rattle.des_team.specs.declared.layout.Layout.{Layout}
use Rattle.des_team.specs.declared.part.Done.{Done}
use Rattle.des_team.specs.Faults.{IsGravestOf}
use Rattle.des_team.specs.Orders.{AreResultsFrom, HaveNoFault, IsFault}

module _ {M State Body Piece S : Type 0} where
  -- the fault is at least as grave as that of the result, if it has one
  abbrev pub IsGraver : RunError → Done M S State Body Piece → Type 0
  IsGraver e f = IfSome f.fault (λ g. rank_of e ≤ rank_of g)

  -- no result has a fault that is graver than this, and none has one if there is none
  pub record IsGravest (fs : List (Done M S State Body Piece)) (gravest : Option RunError) : Type 0 where
    pub none : gravest ≡ None → HaveNoFault fs
    pub first : (e : RunError) → gravest ≡ Some e → All (IsGraver e) fs
    pub whose : (e : RunError) → gravest ≡ Some e → (f : Done M S State Body Piece) × Contains fs f × (f.fault ≡ Some e)

  pub gravest_at_start : IsGravest [] None
  gravest_at_start = record {
    none = λ is. All-nil (λ (f : Done M S State Body Piece). f.fault ≡ None);
    first = λ e is. All-nil (IsGraver e);
    whose = λ e is. absurd (subst is_none is tt);
  }
    where
      is_none : Option RunError → Type 0
      is_none None = ⊤
      is_none (Some e) = ⊥

if_some : {X : Type 0} (o : Option X) (P : X → Type 0) (x : X) → o ≡ Some x → IfSome o P → P x
if_some o P x is fact = rw is at fact

module _ {M State Body Piece S : Type 0} where
  no_graver : (e : RunError) (f : Done M S State Body Piece) → f.fault ≡ None → IsGraver e f
  no_graver e f is = subst (λ o. IfSome o (λ g. rank_of e ≤ rank_of g)) (sym is) tt

  still_graver : (e old : RunError) (f : Done M S State Body Piece) → rank_of e ≤ rank_of old → IsGraver old f → IsGraver e f
  still_graver e old f le is = go f.fault is
    where
      go : (o : Option RunError) → IfSome o (λ g. rank_of old ≤ rank_of g) → IfSome o (λ g. rank_of e ≤ rank_of g)
      go None h = tt
      go (Some g) h = omega (arith, le, h)

  -- the graver of this fault and that of one result more
  pub gravest_more : (fs : List (Done M S State Body Piece)) (i : ℕ) (f : Done M S State Body Piece) (old new : Option RunError) → i < length fs
      → f ≡ get_or fs i f → IsGravest (take i fs) old
      → (new ≡ None → (old ≡ None) × (f.fault ≡ None))
      → IfSome new (λ e. (old ≡ Some e) ⊎ (f.fault ≡ Some e))
      → IfSome new (λ e. IfSome old (λ g. rank_of e ≤ rank_of g)) → IfSome new (λ e. IfSome f.fault (λ g. rank_of e ≤ rank_of g))
      → IsGravest (take (i + 1) fs) new
  gravest_more fs i f old new lt is before none either first second = record {
    none = λ n. All-more (λ (g : Done M S State Body Piece). g.fault ≡ None) fs i f lt (before.none (none n).0)
        (ap (λ (g : Done M S State Body Piece). g.fault) (sym is) ∙ (none n).1);
    first = λ e n. All-more (IsGraver e) fs i f lt (rest e n old refl) (subst (IsGraver e) is (if_some new (λ x. IsGraver x f) e n second));
    whose = λ e n. ⊎_elim
        (λ o. let w = before.whose e o in (w.0, subst (λ l. Contains l w.0) (sym longer) (contains_left (take i fs) (f ∷ []) w.0 w.1), w.2))
        (λ o. (f, subst (λ l. Contains l f) (sym longer) (contains_right (take i fs) (f ∷ []) f (contains_here f [])), o))
        (if_some new (λ x. (old ≡ Some x) ⊎ (f.fault ≡ Some x)) e n either);
  }
    where
      longer : take (i + 1) fs ≡ take i fs ++ f ∷ []
      longer = take_more fs i f lt ∙ ap (λ g. take i fs ++ g ∷ []) (sym is)

      rest : (e : RunError) → new ≡ Some e → (o : Option RunError) → old ≡ o → All (IsGraver e) (take i fs)
      rest e n None o = All-weaker (λ (g : Done M S State Body Piece). g.fault ≡ None) (IsGraver e) (λ g is. no_graver e g is) (take i fs) (before.none o)
      rest e n (Some g) o = All-weaker (IsGraver g) (IsGraver e)
          (λ x h. still_graver e g x (if_some old (λ y. rank_of e ≤ rank_of y) g o (if_some new (λ z. IfSome old (λ y. rank_of z ≤ rank_of y)) e n first)) h)
          (take i fs) (before.first g o)

  -- when all results were looked at
  pub gravest_of_all : (fs : List (Done M S State Body Piece)) (k : ℕ) → length fs ≤ k → (gravest : Option RunError) → IsGravest (take k fs) gravest
      → IfSome gravest (IsGravestOf fs)
  gravest_of_all fs k all None g = tt
  gravest_of_all fs k all (Some e) g =
      subst (λ l. IsGravestOf l e) (take_all k fs all) (record { whose = g.whose e refl; none_graver = g.first e refl })

  -- the faults of all results are of the machine
  faults_are : (ch : Chronicle State Body Piece S) (l : Layout) (count horizon k : ℕ) (fs : List (Done M S State Body Piece))
      → AreResultsFrom ch l count horizon k fs
      → All (λ (f : Done M S State Body Piece). IfSome f.fault (IsFault ch.machine)) fs
  faults_are ch l count horizon k [] each = All-nil (λ (f : Done M S State Body Piece). IfSome f.fault (IsFault ch.machine))
  faults_are ch l count horizon k (f ∷ fs) each =
      All-cons (λ (f : Done M S State Body Piece). IfSome f.fault (IsFault ch.machine)) f fs each.0.done.failed (faults_are ch l count horizon (suc
      k) fs each.1)

  -- so the gravest is of the machine
  pub gravest_is : (ch : Chronicle State Body Piece S) (l : Layout) (count horizon : ℕ) (fs : List (Done M S State Body Piece)) (e : RunError)
      → AreResultsFrom ch l count horizon 0 fs
      → IsGravestOf fs e → IsFault ch.machine e
  gravest_is ch l count horizon fs e each g =
      let w = g.whose in
      if_some w.0.fault (IsFault ch.machine) e w.2 (All_at (λ (f : Done M S State Body Piece). IfSome f.fault (IsFault ch.machine)) fs w.0 (faults_are ch
      l count horizon 0 fs each) w.1)

module _ {State Body Piece S : Type 0} where
  -- a fault of the machine is memory or too many events
  pub too_many_from : (ch : Chronicle State Body Piece S) (e : RunError) → IsFault ch.machine e → e ≡ run.TooManyEvents → IsOverLimit ch.machine
  too_many_from ch e (inl m) is = absurd (told (sym m ∙ is))
    where
      told : run.Memory ≡ run.TooManyEvents → ⊥
      told same = cc
  too_many_from ch e (inr t) is = t.1

  pub memory_or_many : (ch : Chronicle State Body Piece S) (e : RunError) → IsFault ch.machine e → (e ≡ run.Memory) ⊎ (e ≡ run.TooManyEvents)
  memory_or_many ch e (inl m) = inl m
  memory_or_many ch e (inr t) = inr t.0
