-- What a part runs by itself is what the one run takes of it.
use Rattle.std.proofs.Common.{
  ◌≡◌,
  ◌≢◌,
  ℕ,
  ◌<◌,
  ◌≤◌,
  None,
  Some,
  List,
  [],
  ◌∷◌,
  ◌++◌,
  length,
  refl,
  ap,
  sym,
  ◌∙◌,
  subst,
  arith,
  inl,
  inr,
  ◌⊎◌,
  ⊎_elim,
  lt-ltb,
  ltb-true,
  eq-eqb,
}
use Rattle.std.proofs.lemmas.Bool.{cases_eq, cond-true, cond-false, ne_eqb, eqb-true, and_parts, and_from}
use Rattle.std.specs.Prelude.{nat_lt, ◌==◌, ◌&&◌}
use Rattle.std.specs.List.{Contains}
use Rattle.des_event.specs.declared.event.Event.{Event}
use Rattle.des_model.specs.Machine.{Machine}
use Rattle.des_model.specs.Histories.{IsPossible, state, all_events, pending, effect_after, least, IsLegal}
use Rattle.des_model.specs.WellFormed.{IsWellFormed}
use Rattle.des_model.specs.Windows.{Division, part_of, restrict, waiting, IsPartRun}
use Rattle.des_model.specs.Laws.{MayOpen}
use Rattle.des_event.proofs.Members.{
  contains_none,
  contains_here,
  contains_there,
  contains_cons,
  contains_filter,
  filter_contains,
  contains_left,
  contains_right,
  contains_append,
}
use Rattle.des_model.proofs.Least.{IsLeast, least-Some, least_is, least_none}
use Rattle.des_model.proofs.Pending.{Waits, waits_from, pending_from, waits_before}
use Rattle.des_model.proofs.Distinct.{made_later, made_ahead, state_here, state_other, one_event}
use Rattle.des_model.proofs.Runs.{legal_known, possible_from_legal}

module _ {Body : Type 0} (d : Division) (p : ℕ) where
  pub restrict_in : (e : Event Body) (g : List (Event Body)) → part_of d e.target ≡ p → restrict d p (e ∷ g) ≡ e ∷ restrict d p g
  restrict_in e g s = cond-true _ _ _ (eq-eqb (part_of d e.target) p s)

  pub restrict_out : (e : Event Body) (g : List (Event Body)) → part_of d e.target ≢ p → restrict d p (e ∷ g) ≡ restrict d p g
  restrict_out e g s = cond-false _ _ _ (ne_eqb (part_of d e.target) p s)

  pub contains_restrict : (g : List (Event Body)) (x : Event Body) → Contains g x → part_of d x.target ≡ p → Contains (restrict d p g) x
  contains_restrict g x c s = contains_filter (λ (e : Event Body). part_of d e.target == p) g x c (eq-eqb (part_of d x.target) p s)

  pub restrict_contains : (g : List (Event Body)) (x : Event Body) → Contains (restrict d p g) x → Contains g x × (part_of d x.target ≡ p)
  restrict_contains g x c =
      let f = filter_contains (λ (e : Event Body). part_of d e.target == p) g x c in (f.0, eqb-true (part_of d x.target) p f.1)

module _ {State Body Piece : Type 0} (m : Machine State Body Piece) (h : List (Event Body)) {Sound : ℕ → State → Type 0} {Fit : Event Body → Type 0}
    (w : IsWellFormed m Sound Fit)
    (time horizon : ℕ) (o : MayOpen m h time horizon) where
  -- nothing is pending ahead of the window's first time
  pub from_time : (g : List (Event Body)) → IsPossible m (g ++ h) → (x : Event Body) → Waits m (g ++ h) x → time ≤ x.key.time
  from_time [] t x v = o.earliest x (pending_from m h x v)
  from_time (e ∷ g) t x v =
      let now : Waits m (g ++ h) e = waits_from m (g ++ h) e t.1 in
      let e_late : time ≤ e.key.time = from_time g t.0 e now in
      ⊎_elim (λ c. let after : e.key.time < x.key.time = made_later m w (g ++ h) t.0 e now.known x c in omega arith)
      (λ k. from_time g t.0 x k) (waits_before m e (g ++ h) x v)

  -- what an event of the window makes for another node is due at the horizon or later
  pub made_for_others : (g : List (Event Body)) (e x : Event Body) → IsPossible m (e ∷ (g ++ h)) → Contains (effect_after m (g ++ h) e).events x
      → x.target ≢ e.target → horizon ≤ x.key.time
  made_for_others g e x t c ne =
      let now : Waits m (g ++ h) e = waits_from m (g ++ h) e t.1 in
      omega (arith, from_time g t.0 e now, o.ahead, made_ahead m w (g ++ h) t.0 e now.known x c ne)

module _ {State Body Piece : Type 0} (m : Machine State Body Piece) (d : Division) (h : List (Event Body)) where
  -- the nodes of a part are where the events of that part leave them
  pub state-restrict : (p : ℕ) (g : List (Event Body)) (n : ℕ) → part_of d n ≡ p → state m (g ++ h) n ≡ state m (restrict d p g ++ h) n
  state-restrict p [] n s = refl
  state-restrict p (e ∷ g) n s = go (cases_eq (part_of d e.target) p) (cases_eq e.target n) (state-restrict p g n s)
    where
      go : (part_of d e.target ≡ p) ⊎ (part_of d e.target ≡ p → ⊥) → (e.target ≡ n) ⊎ (e.target ≡ n → ⊥) → state m (g ++ h) n ≡ state m (restrict d p g ++ h) n
          → state m (e ∷ (g ++ h)) n ≡ state m (restrict d p (e ∷ g) ++ h) n
      go (inl t) (inl u) ih = subst (λ z. state m (e ∷ (g ++ h)) n ≡ state m (z ++ h) n) (sym (restrict_in d p e g t))
          (state_here m e (g ++ h) n u ∙ (ap (λ z. (m.effect z e).state) ih ∙ sym (state_here m e (restrict d p g ++ h) n u)))
      go (inl t) (inr u) ih = subst (λ z. state m (e ∷ (g ++ h)) n ≡ state m (z ++ h) n) (sym (restrict_in d p e g t))
          (state_other m e (g ++ h) n u ∙ (ih ∙ sym (state_other m e (restrict d p g ++ h) n u)))
      go (inr t) q ih = subst (λ z. state m (e ∷ (g ++ h)) n ≡ state m (z ++ h) n) (sym (restrict_out d p e g t))
          (state_other m e (g ++ h) n (λ u. t (ap (part_of d) u ∙ s)) ∙ ih)

  pub effect-restrict : (p : ℕ) (g : List (Event Body)) (e : Event Body) → part_of d e.target ≡ p
      → effect_after m (g ++ h) e ≡ effect_after m (restrict d p g ++ h) e
  effect-restrict p g e s = ap (λ z. m.effect z e) (state-restrict p g e.target s)

  -- what a part's events made, they made in the whole too
  pub made_in_whole : (p : ℕ) (g : List (Event Body)) (x : Event Body) → Contains (all_events m (restrict d p g ++ h)) x → Contains (all_events m (g ++ h)) x
  made_in_whole p [] x c = c
  made_in_whole p (e ∷ g) x c = go (cases_eq (part_of d e.target) p) (made_in_whole p g x)
    where
      go : (part_of d e.target ≡ p) ⊎ (part_of d e.target ≡ p → ⊥) → (Contains (all_events m (restrict d p g ++ h)) x
          → Contains (all_events m (g ++ h)) x) → Contains (all_events m (e ∷ (g ++ h))) x
      go (inl t) ih =
          let c2 : Contains (all_events m (e ∷ (restrict d p g ++ h))) x = subst (λ z. Contains (all_events m (z ++ h)) x) (restrict_in d p e g t) c in
          ⊎_elim (λ k. contains_left (effect_after m (g ++ h) e).events (all_events m (g ++ h)) x
          (subst (λ z. Contains z.events x) (sym (effect-restrict p g e t)) k))
          (λ k. contains_right (effect_after m (g ++ h) e).events (all_events m (g ++ h)) x (ih k))
          (contains_append (effect_after m (restrict d p g ++ h) e).events (all_events m (restrict d p g ++ h)) x c2)
      go (inr t) ih = contains_right (effect_after m (g ++ h) e).events (all_events m (g ++ h)) x
          (ih (subst (λ z. Contains (all_events m (z ++ h)) x) (restrict_out d p e g t) c))

  module _ (horizon : ℕ) where
    pub waiting_parts : (p : ℕ) (ran : List (Event Body)) (x : Event Body) → Contains (waiting m d h horizon p ran) x
        → Waits m (ran ++ h) x × (part_of d x.target ≡ p) × (x.key.time < horizon)
    waiting_parts p ran x c =
        let f = filter_contains (λ (e : Event Body). part_of d e.target == p && nat_lt e.key.time horizon) (pending m (ran ++ h)) x c in
        let b = and_parts (part_of d x.target == p) (nat_lt x.key.time horizon) f.1 in
        (waits_from m (ran ++ h) x f.0, eqb-true (part_of d x.target) p b.0, ltb-true x.key.time horizon b.1)

    pub possible_from_part_run : IsPossible m h → (p : ℕ) (ran : List (Event Body)) → IsPartRun m d h horizon p ran → IsPossible m (ran ++ h)
    possible_from_part_run o p [] r = o
    possible_from_part_run o p (e ∷ ran) r =
        let l : IsLeast (waiting m d h horizon p ran) e = least-Some (waiting m d h horizon p ran) e r.1 in
        (possible_from_part_run o p ran r.0, pending_from m (ran ++ h) e (waiting_parts p ran e l.among).0)

    pub part_run_in : (p : ℕ) (ran : List (Event Body)) → IsPartRun m d h horizon p ran → (x : Event Body) → Contains ran x → part_of d x.target ≡ p
    part_run_in p [] r x c = absurd (contains_none x c)
    part_run_in p (e ∷ ran) r x c =
        let l : IsLeast (waiting m d h horizon p ran) e = least-Some (waiting m d h horizon p ran) e r.1 in
        ⊎_elim (λ s. subst (λ (z : Event Body). part_of d z.target ≡ p) s (waiting_parts p ran e l.among).1) (λ k. part_run_in p ran r.0 x k)
        (contains_cons x e ran c)

    -- two lists of one length are one list
    pub one_part_run : (p : ℕ) (a b : List (Event Body)) → IsPartRun m d h horizon p a → IsPartRun m d h horizon p b → length a ≡ length b → a ≡ b
    one_part_run p [] [] r s e = refl
    one_part_run p [] (y ∷ b) r s e = absurd (omega arith)
    one_part_run p (x ∷ a) [] r s e = absurd (omega arith)
    one_part_run p (x ∷ a) (y ∷ b) r s e =
        let rest : a ≡ b = one_part_run p a b r.0 s.0 (omega arith) in
        let found : Some x ≡ Some y = sym r.1 ∙ (ap (λ z. least (waiting m d h horizon p z)) rest ∙ s.1) in
        cc (found, rest)

    -- none is longer than one after which nothing waits
    pub no_longer : (p : ℕ) (a b : List (Event Body)) → IsPartRun m d h horizon p a → least (waiting m d h horizon p a) ≡ None
        → IsPartRun m d h horizon p b → length b ≤ length a
    no_longer p a [] r none s = omega arith
    no_longer p a (y ∷ b) r none s =
        let shorter : length b ≤ length a = no_longer p a b r none s.0 in
        ⊎_elim (λ e. absurd (let same : b ≡ a = one_part_run p b a s.0 r e in cc (s.1, none, ap (λ z. least (waiting m d h horizon p z)) same)))
        (λ ne. let differ : length b ≢ length a = ne in omega arith) (cases_eq (length b) (length a))

    pub done_is_one : (p : ℕ) (a b : List (Event Body)) → IsPartRun m d h horizon p a → least (waiting m d h horizon p a) ≡ None
        → IsPartRun m d h horizon p b → least (waiting m d h horizon p b) ≡ None → a ≡ b
    done_is_one p a b r none s stop = one_part_run p a b r s (omega (arith, no_longer p a b r none s, no_longer p b a s stop r))

  module _ {Sound : ℕ → State → Type 0} {Fit : Event Body → Type 0} (w : IsWellFormed m Sound Fit) (time horizon : ℕ) (o : MayOpen m h time horizon) where
    -- what is made for a part below the horizon, its own events made
    pub made_in_part : (p : ℕ) (g : List (Event Body)) → IsPossible m (g ++ h) → (x : Event Body) → part_of d x.target ≡ p → x.key.time < horizon
        → Contains (all_events m (g ++ h)) x → Contains (all_events m (restrict d p g ++ h)) x
    made_in_part p [] t x s early c = c
    made_in_part p (e ∷ g) t x s early c =
        go (cases_eq (part_of d e.target) p) (contains_append (effect_after m (g ++ h) e).events (all_events m (g ++ h)) x c) (made_in_part p g t.0 x s early)
      where
        go : (part_of d e.target ≡ p) ⊎ (part_of d e.target ≡ p → ⊥) → Contains (effect_after m (g ++ h) e).events x ⊎ Contains (all_events m (g ++ h)) x
            → (Contains (all_events m (g ++ h)) x → Contains (all_events m (restrict d p g ++ h)) x) → Contains (all_events m (restrict d p (e ∷ g) ++ h)) x
        go (inl q) (inl k) ih = subst (λ z. Contains (all_events m (z ++ h)) x) (sym (restrict_in d p e g q))
            (contains_left (effect_after m (restrict d p g ++ h) e).events (all_events m (restrict d p g ++ h)) x
            (subst (λ z. Contains z.events x) (effect-restrict p g e q) k))
        go (inl q) (inr k) ih = subst (λ z. Contains (all_events m (z ++ h)) x) (sym (restrict_in d p e g q))
            (contains_right (effect_after m (restrict d p g ++ h) e).events (all_events m (restrict d p g ++ h)) x (ih k))
        go (inr q) (inl k) ih = absurd (let late : horizon ≤ x.key.time = made_for_others m h w time horizon o g e x t k
            (λ u. q (ap (part_of d) (sym u) ∙ s)) in omega arith)
        go (inr q) (inr k) ih = subst (λ z. Contains (all_events m (z ++ h)) x) (sym (restrict_out d p e g q)) (ih k)

    pub waiting_from : (p : ℕ) (g : List (Event Body)) → IsPossible m (g ++ h) → (x : Event Body) → Waits m (g ++ h) x → part_of d x.target ≡ p
        → x.key.time < horizon → Contains (waiting m d h horizon p (restrict d p g)) x
    waiting_from p g t x v s early =
        contains_filter (λ (e : Event Body). part_of d e.target == p && nat_lt e.key.time horizon) (pending m (restrict d p g ++ h)) x
        (pending_from m (restrict d p g ++ h) x (record {
          known = made_in_part p g t x s early v.known;
          free = λ y c. v.free y (⊎_elim (λ k. contains_left g h y (restrict_contains d p g y k).0) (λ k. contains_right g h y k)
              (contains_append (restrict d p g) h y c));
        }))
        (and_from (part_of d x.target == p) (nat_lt x.key.time horizon) (eq-eqb (part_of d x.target) p s) (lt-ltb x.key.time horizon early))

    pub waits_in_whole : (p : ℕ) (g : List (Event Body)) → IsLegal m (g ++ h) → (x : Event Body) → part_of d x.target ≡ p
        → Waits m (restrict d p g ++ h) x → Waits m (g ++ h) x
    waits_in_whole p g l x s v = record {
      known = made_in_whole p g x v.known;
      free = λ y c u.
          let same : y ≡ x = one_event m w (g ++ h) (possible_from_legal m (g ++ h) l) y x (legal_known m (g ++ h) l y c) (made_in_whole p g x v.known) u in
          v.free y (⊎_elim (λ k. contains_left (restrict d p g) h y (contains_restrict d p g y k
          (ap (λ (z : Event Body). part_of d z.target) same ∙ s))) (λ k. contains_right (restrict d p g) h y k) (contains_append g h y c)) u;
    }

    -- of a legal history the events of a part are such a list
    pub restrict_runs : (p : ℕ) (g : List (Event Body)) → IsLegal m (g ++ h) → ((x : Event Body) → Contains g x → x.key.time < horizon)
        → IsPartRun m d h horizon p (restrict d p g)
    restrict_runs p [] l early = tt
    restrict_runs p (e ∷ g) l early = go (cases_eq (part_of d e.target) p) (restrict_runs p g l.0 (λ x c. early x (contains_there x e g c)))
      where
        t : IsPossible m (g ++ h)
        t = possible_from_legal m (g ++ h) l.0

        first : part_of d e.target ≡ p → IsPartRun m d h horizon p (restrict d p g) → least (waiting m d h horizon p (restrict d p g)) ≡ Some e
        first s ih = least_is (waiting m d h horizon p (restrict d p g)) e
            (λ x y c k. one_event m w (restrict d p g ++ h) (possible_from_part_run horizon (possible_from_legal m h o.legal) p (restrict d p g) ih) x
            y (waiting_parts horizon p (restrict d p g) x c).0.known (waiting_parts horizon p (restrict d p g) y k).0.known)
            (record {
              among = waiting_from p g t e (waits_from m (g ++ h) e (l.1).waits) s (early e (contains_here e g));
              first = λ x c. let q = waiting_parts horizon p (restrict d p g) x c
                  in (l.1).first x (pending_from m (g ++ h) x (waits_in_whole p g l.0 x q.1 q.0));
            })

        go : (part_of d e.target ≡ p) ⊎ (part_of d e.target ≡ p → ⊥) → IsPartRun m d h horizon p (restrict d p g)
            → IsPartRun m d h horizon p (restrict d p (e ∷ g))
        go (inl s) ih = subst (λ z. IsPartRun m d h horizon p z) (sym (restrict_in d p e g s)) (ih, first s ih)
        go (inr s) ih = subst (λ z. IsPartRun m d h horizon p z) (sym (restrict_out d p e g s)) ih

    -- if nothing is pending below the horizon, nothing waits at a part
    pub restrict_done : (p : ℕ) (g : List (Event Body)) → IsLegal m (g ++ h) → ((x : Event Body) → Waits m (g ++ h) x → x.key.time < horizon → ⊥)
        → least (waiting m d h horizon p (restrict d p g)) ≡ None
    restrict_done p g l done = least_none (waiting m d h horizon p (restrict d p g))
        (λ x c. let q = waiting_parts horizon p (restrict d p g) x c in done x (waits_in_whole p g l x q.1 q.0) q.2)
