-- What is pending, what may follow, and what an audit sees.
use Rattle.std.proofs.Common.{
  ◌≡◌,
  ◌≢◌,
  ℕ,
  ◌<◌,
  Bool,
  true,
  Some,
  List,
  [],
  ◌∷◌,
  ◌++◌,
  refl,
  ap,
  sym,
  ◌∙◌,
  subst,
  ⊎_elim,
  ◌⊎◌,
  inl,
  inr,
  ltb-true,
  lt-ltb,
  eq-eqb,
  ◌↔◌,
}
use Rattle.std.specs.Prelude.{nat_lt, ◌&&◌, ◌==◌}
use Rattle.std.proofs.lemmas.Bool.{and_parts, and_from}
use Rattle.std.specs.List.{Contains, list_all}
use Rattle.des_event.specs.declared.event.Event.{Event}
use Rattle.des_model.specs.Machine.{Machine}
use Rattle.des_model.specs.Histories.{state, all_events, pending, effect_after, IsPossible, IsNext, next, below, open_audits, audit_at}
use Rattle.des_model.specs.WellFormed.{IsWellFormed}
use Rattle.des_event.proofs.Members.{contains_none, contains_here, contains_cons, contains_left, contains_right, contains_filter, filter_contains}
use Rattle.des_model.proofs.Pending.{Waits, waits_from, pending_from, waits_before, waits_after}
use Rattle.des_model.proofs.Distinct.{one_event, made_fresh}
use Rattle.des_model.proofs.Runs.{next-Some, next_is}
use Rattle.des_model.specs.Windows.{Division, part_of, waiting, IsPartRun}
use Rattle.des_model.proofs.Parts.{waiting_parts, possible_from_part_run}
use Rattle.des_model.proofs.Below.{below_in}

module _ {State Body Piece : Type 0} (m : Machine State Body Piece) where
  pub possible_known : (h : List (Event Body)) → IsPossible m h → (x : Event Body) → Contains h x → Contains (all_events m h) x
  possible_known [] p x c = absurd (contains_none x c)
  possible_known (e ∷ h) p x c =
      contains_right (effect_after m h e).events (all_events m h) x
      (⊎_elim (λ s. subst (λ z. Contains (all_events m h) z) s (waits_from m h e p.1).known) (λ r. possible_known h p.0 x r) (contains_cons x e h c))

  below_whole : (t : ℕ) (h : List (Event Body)) → list_all (λ (e : Event Body). nat_lt e.key.time t) h ≡ true → below t h ≡ h
  below_whole t [] a = refl
  below_whole t (e ∷ h) a =
      let b = and_parts (nat_lt e.key.time t) (list_all (λ (e : Event Body). nat_lt e.key.time t) h) a in
      below_in t e h (ltb-true e.key.time t b.0) ∙ ap (λ z. e ∷ z) (below_whole t h b.1)

  pub audits_see_all : (h : List (Event Body)) (t : ℕ) → Contains (open_audits m h) t → audit_at m h t ≡ m.audit t (state m h)
  audits_see_all h t c =
      ap (λ z. m.audit t (state m z)) (below_whole t h (filter_contains (λ t. list_all (λ (e : Event Body). nat_lt e.key.time t) h) m.audit_times t c).1)

  module _ {Sound : ℕ → State → Type 0} {Fit : Event Body → Type 0} (w : IsWellFormed m Sound Fit) where
    pub pending_is_rest : (h : List (Event Body)) → IsPossible m h → (x : Event Body)
        → Contains (pending m h) x ↔ (Contains (all_events m h) x × (Contains h x → ⊥))
    pending_is_rest h p x = (
      λ c. let v = waits_from m h x c in (v.known, λ k. v.free x k refl),
      λ r. pending_from m h x (record {
        known = r.0;
        free = λ y k s. r.1 (subst (λ z. Contains h z) (one_event m w h p y x (possible_known h p y k) r.0 s) k);
      }),
    )

    pub next_is_found : (h : List (Event Body)) → IsPossible m h → (e : Event Body) → (next m h ≡ Some e) ↔ IsNext m h e
    next_is_found h p e = (next-Some m h e, next_is m w h e p)

    pub pending_moves : (h : List (Event Body)) (e : Event Body) → IsPossible m (e ∷ h) → (x : Event Body)
        → Contains (pending m (e ∷ h)) x ↔ ((Contains (pending m h) x × (x ≢ e)) ⊎ Contains (effect_after m h e).events x)
    pending_moves h e p x = (there, back)
      where
        turn : Waits m h e
        turn = waits_from m h e p.1

        there : Contains (pending m (e ∷ h)) x → (Contains (pending m h) x × (x ≢ e)) ⊎ Contains (effect_after m h e).events x
        there c =
            let v : Waits m (e ∷ h) x = waits_from m (e ∷ h) x c in
            ⊎_elim (λ k. inr k) (λ k. inl (pending_from m h x k, λ s. v.free e (contains_here e h) (ap (λ (z : Event Body). z.key) (sym s))))
            (waits_before m e h x v)

        back : (Contains (pending m h) x × (x ≢ e)) ⊎ Contains (effect_after m h e).events x → Contains (pending m (e ∷ h)) x
        back (inl k) =
            let v : Waits m h x = waits_from m h x k.0 in
            pending_from m (e ∷ h) x (waits_after m e h x v (λ s. k.1 (sym (one_event m w h p.0 e x turn.known v.known s))))
        back (inr k) = pending_from m (e ∷ h) x (record {
          known = contains_left (effect_after m h e).events (all_events m h) x k;
          free = λ y c s. made_fresh m w h p.0 e turn.known x y k (⊎_elim (λ q. subst (λ z. Contains (all_events m h) z) q turn.known)
              (λ q. possible_known h p.0 y q) (contains_cons y e h c)) (sym s);
        })

    pub waiting_moves : (d : Division) (h : List (Event Body)) (horizon p : ℕ) (ran : List (Event Body)) (e : Event Body) → IsPossible m h
        → IsPartRun m d h horizon p (e ∷ ran) → (x : Event Body)
        → Contains (waiting m d h horizon p (e ∷ ran)) x
        ↔ ((Contains (waiting m d h horizon p ran) x × (x ≢ e)) ⊎ (Contains (effect_after m (ran ++ h) e).events x × (part_of d x.target ≡ p)
        × (x.key.time < horizon)))
    waiting_moves d h horizon p ran e o r x = (there, back)
      where
        here : Event Body → Bool
        here e = part_of d e.target == p && nat_lt e.key.time horizon

        moves : Contains (pending m (e ∷ (ran ++ h))) x ↔ ((Contains (pending m (ran ++ h)) x × (x ≢ e)) ⊎ Contains (effect_after m (ran ++ h) e).events x)
        moves = pending_moves (ran ++ h) e (possible_from_part_run m d h horizon o p (e ∷ ran) r) x

        there : Contains (waiting m d h horizon p (e ∷ ran)) x
            → ((Contains (waiting m d h horizon p ran) x × (x ≢ e)) ⊎ (Contains (effect_after m (ran ++ h) e).events x × (part_of d x.target ≡ p)
            × (x.key.time < horizon)))
        there c =
            let f = filter_contains (λ (e : Event Body). part_of d e.target == p && nat_lt e.key.time horizon) (pending m (e ∷ (ran ++ h))) x c in
            let q = waiting_parts m d h horizon p (e ∷ ran) x c in
            ⊎_elim (λ k. inl (contains_filter (λ (e : Event Body). part_of d e.target == p && nat_lt e.key.time horizon) (pending m (ran ++ h)) x k.0 f.1, k.1))
            (λ k. inr (k, q.1, q.2)) (moves.0 f.0)

        back : ((Contains (waiting m d h horizon p ran) x × (x ≢ e)) ⊎ (Contains (effect_after m (ran ++ h) e).events x × (part_of d x.target ≡ p)
            × (x.key.time < horizon)))
            → Contains (waiting m d h horizon p (e ∷ ran)) x
        back (inl k) =
            let f = filter_contains (λ (e : Event Body). part_of d e.target == p && nat_lt e.key.time horizon) (pending m (ran ++ h)) x k.0 in
            contains_filter (λ (e : Event Body). part_of d e.target == p && nat_lt e.key.time horizon) (pending m (e ∷ (ran ++ h))) x
            (moves.1 (inl (f.0, k.1))) f.1
        back (inr k) =
            contains_filter (λ (e : Event Body). part_of d e.target == p && nat_lt e.key.time horizon) (pending m (e ∷ (ran ++ h))) x (moves.1 (inr k.0))
            (and_from (part_of d x.target == p) (nat_lt x.key.time horizon) (eq-eqb (part_of d x.target) p k.1) (lt-ltb x.key.time horizon k.2))
