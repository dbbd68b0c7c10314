-- What the events of a window make, and for whom.
use Rattle.std.proofs.Common.{◌≡◌, ◌≢◌, ℕ, ◌+◌, ◌≤◌, List, [], ◌∷◌, ◌++◌, refl, sym, subst, inl, inr, ◌⊎◌, ⊎_elim}
use Rattle.std.proofs.lemmas.Bool.{cases_eq}
use Rattle.std.specs.List.{Contains}
use Rattle.des_event.specs.declared.event.Event.{Event}
use Rattle.des_model.specs.Machine.{Machine}
use Rattle.des_model.specs.Histories.{IsPossible, all_events, effect_after}
use Rattle.des_model.specs.WellFormed.{IsWellFormed}
use Rattle.des_model.specs.Windows.{Division, part_of, restrict, made_since}
use Rattle.des_model.specs.Laws.{MayOpen}
use Rattle.des_event.proofs.Members.{contains_none, contains_here, contains_there, contains_left, contains_right, contains_append}
use Rattle.des_model.proofs.Pending.{waits_from}
use Rattle.des_model.proofs.Distinct.{made_origin}
use Rattle.des_model.proofs.Parts.{restrict_in, restrict_out, effect-restrict, made_for_others}

module _ {State Body Piece : Type 0} (m : Machine State Body Piece) (h : List (Event Body)) where
  pub known_from_since : (ran : List (Event Body)) (x : Event Body) → Contains (made_since m h ran) x → Contains (all_events m (ran ++ h)) x
  known_from_since [] x c = absurd (contains_none x c)
  known_from_since (e ∷ ran) x c =
      ⊎_elim (λ k. contains_left (effect_after m (ran ++ h) e).events (all_events m (ran ++ h)) x k)
      (λ k. contains_right (effect_after m (ran ++ h) e).events (all_events m (ran ++ h)) x (known_from_since ran x k))
      (contains_append (effect_after m (ran ++ h) e).events (made_since m h ran) x c)

  pub known_before : (ran : List (Event Body)) (x : Event Body) → Contains (all_events m h) x → Contains (all_events m (ran ++ h)) x
  known_before [] x c = c
  known_before (e ∷ ran) x c = contains_right (effect_after m (ran ++ h) e).events (all_events m (ran ++ h)) x (known_before ran x c)

  module _ (d : Division) where
    -- what was made along g was made before it, or along the events of one of the parts
    pub made_by_part : (g : List (Event Body)) (x : Event Body) → Contains (all_events m (g ++ h)) x
        → Contains (all_events m h) x ⊎ ((e : Event Body) × Contains g e × Contains (made_since m h (restrict d (part_of d e.target) g)) x)
    made_by_part [] x c = inl c
    made_by_part (e ∷ g) x c = go (contains_append (effect_after m (g ++ h) e).events (all_events m (g ++ h)) x c) (made_by_part g x)
      where
        p : ℕ
        p = part_of d e.target

        later : (q : ℕ) → Contains (made_since m h (restrict d q g)) x → Contains (made_since m h (restrict d q (e ∷ g))) x
        later q k =
            ⊎_elim (λ s. subst (λ z. Contains (made_since m h z) x) (sym (restrict_in d q e g s))
            (contains_right (effect_after m (restrict d q g ++ h) e).events (made_since m h (restrict d q g)) x k))
            (λ s. subst (λ z. Contains (made_since m h z) x) (sym (restrict_out d q e g s)) k) (cases_eq (part_of d e.target) q)

        go : Contains (effect_after m (g ++ h) e).events x ⊎ Contains (all_events m (g ++ h)) x
            → (Contains (all_events m (g ++ h)) x → Contains (all_events m h) x
            ⊎ ((e : Event Body) × Contains g e × Contains (made_since m h (restrict d (part_of d e.target) g)) x))
            → Contains (all_events m h) x ⊎ ((y : Event Body) × Contains (e ∷ g) y × Contains (made_since m h (restrict d (part_of d y.target) (e ∷ g))) x)
        go (inl k) ih = inr (
          e,
          contains_here e g,
          subst (λ z. Contains (made_since m h z) x) (sym (restrict_in d p e g refl))
              (contains_left (effect_after m (restrict d p g ++ h) e).events (made_since m h (restrict d p g)) x
              (subst (λ z. Contains z.events x) (effect-restrict m d h p g e refl) k)),
        )
        go (inr k) ih = ⊎_elim (λ old. inl old) (λ r. inr (r.0, contains_there r.0 e g r.1, later (part_of d r.0.target) r.2)) (ih k)

    -- who made an event of a window: its origin says so, and one made for another node is due at the horizon or later
    pub record IsMaker (horizon : ℕ) (ran : List (Event Body)) (x e : Event Body) : Type 0 where
      pub among : Contains ran e
      pub origin : x.key.origin ≡ 2 + e.target
      pub others : x.target ≢ e.target → horizon ≤ x.key.time

    pub maker : {Sound : ℕ → State → Type 0} {Fit : Event Body → Type 0} (w : IsWellFormed m Sound Fit) (time horizon : ℕ)
        (o : MayOpen m h time horizon) (ran : List (Event Body)) (x : Event Body) → IsPossible m (ran ++ h) → Contains (made_since m h ran) x
        → (e : Event Body) × IsMaker horizon ran x e
    maker w time horizon o [] x t c = absurd (contains_none x c)
    maker w time horizon o (e ∷ ran) x t c =
        ⊎_elim (λ k. (
          e,
          record {
            among = contains_here e ran;
            origin = made_origin m w (ran ++ h) t.0 e (waits_from m (ran ++ h) e t.1).known x k;
            others = made_for_others m h w time horizon o ran e x t k;
          },
        ))
        (λ k. let r = maker w time horizon o ran x t.0 k in (
          r.0,
          record {
            among = contains_there r.0 e ran (r.1).among;
            origin = (r.1).origin;
            others = (r.1).others;
          },
        ))
        (contains_append (effect_after m (ran ++ h) e).events (made_since m h ran) x c)
