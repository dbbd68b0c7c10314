-- The events of the run below a time.
use Rattle.std.proofs.Common.{
  ◌≡◌,
  ◌≢◌,
  ℕ,
  zero,
  suc,
  ◌<◌,
  ◌≤◌,
  Option,
  None,
  Some,
  List,
  [],
  ◌∷◌,
  ◌++◌,
  length,
  refl,
  ap,
  sym,
  ◌∙◌,
  subst,
  arith,
  inl,
  inr,
  ◌⊎◌,
  ⊎_elim,
  lt-ltb,
  ltb-true,
}
use Rattle.std.proofs.lemmas.Bool.{cases_lt, cases_eq, cond-true, cond-false, le-ltb}
use Rattle.std.specs.Prelude.{nat_lt}
use Rattle.std.specs.List.{Contains, cons_option}
use Rattle.des_event.specs.Keys.{IsBefore}
use Rattle.des_event.specs.declared.event.Event.{Event}
use Rattle.des_model.specs.Machine.{Machine}
use Rattle.des_model.specs.Histories.{pending, below, next, IsNext, IsLegal, history}
use Rattle.des_model.specs.WellFormed.{IsWellFormed}
use Rattle.des_event.proofs.Members.{contains_none, contains_here, contains_there, contains_cons, filter_contains}
use Rattle.des_model.proofs.Pending.{Waits, waits_from, pending_from}
use Rattle.des_model.proofs.Runs.{history_is_legal, history_is_whole, legal_is_history, taken_before, none_next, legal_rest}

module _ {Body : Type 0} (t : ℕ) where
  pub below_in : (e : Event Body) (h : List (Event Body)) → e.key.time < t → below t (e ∷ h) ≡ e ∷ below t h
  below_in e h l = cond-true _ _ _ (lt-ltb e.key.time t l)

  pub below_out : (e : Event Body) (h : List (Event Body)) → t ≤ e.key.time → below t (e ∷ h) ≡ below t h
  below_out e h l = cond-false _ _ _ (le-ltb e.key.time t l)

  pub below_all : (h : List (Event Body)) → ((x : Event Body) → Contains h x → x.key.time < t) → below t h ≡ h
  below_all [] a = refl
  below_all (e ∷ h) a = below_in e h (a e (contains_here e h)) ∙ ap (λ z. e ∷ z) (below_all h (λ x c. a x (contains_there x e h c)))

  pub below_contains : (h : List (Event Body)) (x : Event Body) → Contains (below t h) x → x.key.time < t
  below_contains h x c = let f = filter_contains (λ (e : Event Body). nat_lt e.key.time t) h x c in ltb-true x.key.time t f.1

  pub length_below : (h : List (Event Body)) → length (below t h) ≤ length h
  length_below [] = omega arith
  length_below (e ∷ h) = ⊎_elim (λ l. omega (arith, length_below h, ap length (below_in e h l)))
      (λ l. omega (arith, length_below h, ap length (below_out e h l))) (cases_lt e.key.time t)

module _ {State Body Piece : Type 0} (m : Machine State Body Piece) where
  pub length_history : (k : ℕ) → length (history m k) ≤ k
  length_history zero = omega arith
  length_history (suc k) = go (next m (history m k)) (length_history k)
    where
      go : (o : Option (Event Body)) → length (history m k) ≤ k → length (cons_option o (history m k)) ≤ suc k
      go None l = omega arith
      go (Some e) l = omega arith

  -- a legal history that goes on after h took the next event of h
  pub next_of_rest : (v h : List (Event Body)) → IsLegal m (v ++ h) → 0 < length v → (e : Event Body) × IsNext m h e × Contains v e
  next_of_rest [] h l more = absurd (omega arith)
  next_of_rest (e ∷ []) h l more = (e, l.1, contains_here e [])
  next_of_rest (e ∷ (y ∷ v)) h l more = let r = next_of_rest (y ∷ v) h l.0 (omega arith) in (r.0, r.1, contains_there r.0 e (y ∷ v) r.2)

  module _ {Sound : ℕ → State → Type 0} {Fit : Event Body → Type 0} (w : IsWellFormed m Sound Fit) where
    -- of two legal histories the longer goes on after the shorter
    pub goes_on : (h t : List (Event Body)) → IsLegal m h → IsLegal m t → length h ≤ length t → (g : List (Event Body)) × (t ≡ g ++ h)
    goes_on h [] l k s = ([], same)
      where
        same : [] ≡ h
        same = legal_is_history m w [] k ∙ (ap (λ n. history m n) (none h s) ∙ sym (legal_is_history m w h l))
          where
            none : (h : List (Event Body)) → length h ≤ 0 → 0 ≡ length h
            none h s = omega arith
    goes_on h (e ∷ t) l k s = go (cases_eq (length h) (length (e ∷ t))) (goes_on h t l k.0)
      where
        go : (length h ≡ length (e ∷ t)) ⊎ (length h ≡ length (e ∷ t) → ⊥) → (length h ≤ length t → (g : List (Event Body)) × (t ≡ g ++ h))
            → (g : List (Event Body)) × (e ∷ t ≡ g ++ h)
        go (inl same) ih = ([], legal_is_history m w (e ∷ t) k ∙ (ap (λ n. history m n) (sym same) ∙ sym (legal_is_history m w h l)))
        go (inr other) ih =
            let differ : length h ≢ length (e ∷ t) = other in
            let r = ih (omega arith) in (e ∷ r.0, ap (λ z. e ∷ z) r.1)

    -- the events below t come first, and the others follow
    pub below_splits : (t : ℕ) (h : List (Event Body)) → IsLegal m h → (v : List (Event Body)) × (h ≡ v ++ below t h)
        × ((x : Event Body) → Contains v x → t ≤ x.key.time)
    below_splits t [] l = ([], refl, λ x c. absurd (contains_none x c))
    below_splits t (e ∷ h) l = go (cases_lt e.key.time t) (below_splits t h l.0)
      where
        go : (e.key.time < t) ⊎ (t ≤ e.key.time) → (v : List (Event Body)) × (h ≡ v ++ below t h) × ((x : Event Body) → Contains v x → t ≤ x.key.time)
            → (v : List (Event Body)) × (e ∷ h ≡ v ++ below t (e ∷ h)) × ((x : Event Body) → Contains v x → t ≤ x.key.time)
        go (inl early) ih = ([], sym (below_all t (e ∷ h) all), λ x c. absurd (contains_none x c))
          where
            all : (x : Event Body) → Contains (e ∷ h) x → x.key.time < t
            all x c = ⊎_elim (λ s. subst (λ (z : Event Body). z.key.time < t) s early)
                (λ r. let q : IsBefore x.key e.key = taken_before m w h l.0 x e r (waits_from m h e (l.1).waits) in omega arith) (contains_cons x e h c)
        go (inr late) ih = (
          e ∷ ih.0,
          subst (λ z. e ∷ h ≡ e ∷ (ih.0 ++ z)) (sym (below_out t e h late)) (ap (λ z. e ∷ z) ih.1),
          λ x c. ⊎_elim (λ s. subst (λ (z : Event Body). t ≤ z.key.time) s late) (λ r. ih.2 x r) (contains_cons x e ih.0 c),
        )

    -- the run below t is legal, and if it has room left nothing is pending below t after it
    pub below_is_legal : (t k : ℕ) → IsLegal m (below t (history m k))
    below_is_legal t k =
        let s = below_splits t (history m k) (history_is_legal m k) in
        legal_rest m (below t (history m k)) s.0 (subst (λ z. IsLegal m z) s.1 (history_is_legal m k))

    pub below_is_done : (t k : ℕ) → t ≤ m.duration → length (below t (history m k)) < k → (x : Event Body) → Waits m (below t (history m k)) x
        → x.key.time < t → ⊥
    below_is_done t k in_time few x v early = go s.0 s.1 s.2
      where
        s : (v : List (Event Body)) × (history m k ≡ v ++ below t (history m k)) × ((x : Event Body) → Contains v x → t ≤ x.key.time)
        s = below_splits t (history m k) (history_is_legal m k)

        go : (v : List (Event Body)) → history m k ≡ v ++ below t (history m k) → ((x : Event Body) → Contains v x → t ≤ x.key.time) → ⊥
        go [] e late =
            ⊎_elim (λ l. omega (arith, ap length e, l))
            (λ stuck. let c : Contains (pending m (history m k)) x = subst (λ z. Contains (pending m z) x) (sym e)
            (pending_from m (below t (history m k)) x v) in omega (arith, none_next m (history m k) stuck x c))
            (history_is_whole m k)
        go (y ∷ u) e late =
            let r = next_of_rest (y ∷ u) (below t (history m k)) (subst (λ z. IsLegal m z) e (history_is_legal m k)) (omega arith) in
            omega (arith, late r.0 r.2, (r.1).first x (pending_from m (below t (history m k)) x v))
