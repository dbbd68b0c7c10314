-- No two events that are ever made have the same key.
use Rattle.std.proofs.Math.Nat.{mul-suc}
use Rattle.std.proofs.Common.{length, ◌*◌, ⊎_elim, ◌≡◌, ◌≢◌, ℕ, ◌+◌, ◌<◌, ◌≤◌, List, [], ◌∷◌, ap, sym, ◌∙◌, subst, arith, inl, inr, ◌⊎◌, eq-eqb}
use Rattle.std.proofs.lemmas.Bool.{ne_eqb, cond-true, cond-false, cases_eq}
use Rattle.std.specs.List.{Contains, AllPairs}
use Rattle.des_event.specs.declared.key.Key.{Key}
use Rattle.des_event.specs.declared.event.Event.{Event}
use Rattle.des_model.specs.Machine.{Machine}
use Rattle.des_model.specs.Histories.{state, effect_after, all_events, IsPossible}
use Rattle.des_model.specs.WellFormed.{IsWellFormed}
use Rattle.des_model.specs.Laws.{Meets}
use Rattle.des_model.proofs.Pending.{waits_from}
use Rattle.des_event.proofs.Members.{All_from, All_at, contains_append, AllPairs_append, same_by_key}

module _ {State Body Piece : Type 0} (m : Machine State Body Piece) where
  pub state_here : (e : Event Body) (h : List (Event Body)) (n : ℕ) → e.target ≡ n → state m (e ∷ h) n ≡ (m.effect (state m h n) e).state
  state_here e h n s = cond-true _ _ _ (eq-eqb e.target n s)

  pub state_other : (e : Event Body) (h : List (Event Body)) (n : ℕ) → e.target ≢ n → state m (e ∷ h) n ≡ state m h n
  state_other e h n s = cond-false _ _ _ (ne_eqb e.target n s)

  module _ {Sound : ℕ → State → Type 0} {Fit : Event Body → Type 0} (w : IsWellFormed m Sound Fit) where
    meets_more : (e : Event Body) (h : List (Event Body)) → Contains (all_events m h) e → Meets m Sound Fit h → Meets m Sound Fit (e ∷ h)
    meets_more e h c k = record {
      sound = λ n l. ⊎_elim
          (λ s. subst (λ z. Sound n z) (sym (state_here e h n s)) (subst (λ q. Sound q (m.effect (state m h q) e).state) s after))
          (λ s. subst (λ z. Sound n z) (sym (state_other e h n s)) (k.sound n l)) (cases_eq e.target n);
      fit = All_from Fit (all_events m (e ∷ h)) (λ x r. ⊎_elim (λ q. All_at Fit _ x (w.makes_fit (state m h e.target) e here good) q)
          (λ q. All_at Fit (all_events m h) x k.fit q) (contains_append (effect_after m h e).events (all_events m h) x r));
    }
      where
        good : Fit e
        good = All_at Fit (all_events m h) e k.fit c

        here : Sound e.target (state m h e.target)
        here = k.sound e.target (w.in_range e (All_at Fit (all_events m h) e k.fit c))

        after : Sound e.target (m.effect (state m h e.target) e).state
        after = w.keeps_sound (state m h e.target) e (k.sound e.target (w.in_range e (All_at Fit (all_events m h) e k.fit c)))
            (All_at Fit (all_events m h) e k.fit c)

    pub meets : (h : List (Event Body)) → IsPossible m h → Meets m Sound Fit h
    meets [] p = record { sound = w.starts_sound; fit = w.starts_fit }
    meets (e ∷ h) p = meets_more e h (waits_from m h e p.1).known (meets h p.0)

    -- what holds of what a sound state makes of a fit event
    module _ (h : List (Event Body)) (p : IsPossible m h) (e : Event Body) (c : Contains (all_events m h) e) where
      pub fit_event : Fit e
      fit_event = All_at Fit (all_events m h) e (meets h p).fit c

      pub sound_state : Sound e.target (state m h e.target)
      sound_state = (meets h p).sound e.target (w.in_range e fit_event)

      pub made_later : (x : Event Body) → Contains (effect_after m h e).events x → e.key.time < x.key.time
      made_later x k = All_at (λ (x : Event Body). e.key.time < x.key.time) _ x (w.later (state m h e.target) e sound_state fit_event) k

      pub made_ahead : (x : Event Body) → Contains (effect_after m h e).events x → x.target ≢ e.target → e.key.time + m.lookahead ≤ x.key.time
      made_ahead x k = All_at (λ (x : Event Body). x.target ≢ e.target → e.key.time + m.lookahead ≤ x.key.time) _ x
          (w.ahead (state m h e.target) e sound_state fit_event) k

      pub made_origin : (x : Event Body) → Contains (effect_after m h e).events x → x.key.origin ≡ 2 + e.target
      made_origin x k = All_at (λ (x : Event Body). x.key.origin ≡ 2 + e.target) _ x (w.origin (state m h e.target) e sound_state fit_event) k

      made_unused : (x : Event Body) → Contains (effect_after m h e).events x → m.events_made (state m h e.target) < x.key.number
      made_unused x k = All_at (λ (x : Event Body). m.events_made (state m h e.target) < x.key.number) _ x
          (w.unused (state m h e.target) e sound_state fit_event) k

      made_counted : (x : Event Body) → Contains (effect_after m h e).events x → x.key.number ≤ m.events_made (effect_after m h e).state
      made_counted x k = All_at (λ (x : Event Body). x.key.number ≤ m.events_made (m.effect (state m h e.target) e).state) _ x
          (w.counted (state m h e.target) e sound_state fit_event) k

      pub made_apart : AllPairs (λ (a b : Event Body). a.key ≢ b.key) (effect_after m h e).events
      made_apart = w.apart (state m h e.target) e sound_state fit_event

      counts_more : (n : ℕ) → e.target ≡ n → m.events_made (state m h n) ≤ m.events_made (m.effect (state m h n) e).state
      counts_more n s = subst (λ q. m.events_made (state m h q) ≤ m.events_made (m.effect (state m h q) e).state) s
          (w.counts_up (state m h e.target) e sound_state fit_event)

    -- a node has counted the events that it made
    counted : (h : List (Event Body)) → IsPossible m h → (x : Event Body) → Contains (all_events m h) x → (n : ℕ) → x.key.origin ≡ 2 + n
        → x.key.number ≤ m.events_made (state m h n)
    counted [] p x c n o = All_at (λ (x : Event Body). x.key.origin ≡ 2 + n → x.key.number ≤ m.events_made (m.initial n)) m.start_events x
        (w.starts_counted n) c o
    counted (e ∷ h) p x c n o = go (contains_append (effect_after m h e).events (all_events m h) x c) (counted h p.0 x) (cases_eq e.target n)
      where
        known : Contains (all_events m h) e
        known = (waits_from m h e p.1).known

        here : Contains (effect_after m h e).events x → x.key.number ≤ m.events_made (state m (e ∷ h) n)
        here k =
            let o2 : x.key.origin ≡ 2 + e.target = made_origin h p.0 e known x k in
            let s : e.target ≡ n = omega arith in
            let num : x.key.number ≤ m.events_made (m.effect (state m h e.target) e).state = made_counted h p.0 e known x k in
            subst (λ z. x.key.number ≤ m.events_made z) (sym (state_here e h n s))
            (subst (λ z. x.key.number ≤ m.events_made (m.effect (state m h z) e).state) s num)

        go : Contains (effect_after m h e).events x ⊎ Contains (all_events m h) x
            → (Contains (all_events m h) x → (n : ℕ) → x.key.origin ≡ 2 + n → x.key.number ≤ m.events_made (state m h n))
            → (e.target ≡ n) ⊎ (e.target ≡ n → ⊥) → x.key.number ≤ m.events_made (state m (e ∷ h) n)
        go (inl k) ih q = here k
        go (inr k) ih (inl s) = rw (state_here e h n s) (omega (arith, ih k n o, counts_more h p.0 e known n s))
        go (inr k) ih (inr s) = rw (state_other e h n s) (ih k n o)

    -- what is made has no key that was there before
    pub made_fresh : (h : List (Event Body)) → IsPossible m h → (e : Event Body) → Contains (all_events m h) e → (x y : Event Body)
        → Contains (effect_after m h e).events x → Contains (all_events m h) y → x.key ≡ y.key → ⊥
    made_fresh h p e known x y c k s =
        let o : x.key.origin ≡ 2 + e.target = made_origin h p e known x c in
        let u : m.events_made (state m h e.target) < x.key.number = made_unused h p e known x c in
        let v : y.key.number ≤ m.events_made (state m h e.target) = counted h p y k e.target (ap (λ (q : Key). q.origin) (sym s) ∙ o) in
        omega (arith, ap (λ (q : Key). q.number) s)

    pub distinct : (h : List (Event Body)) → IsPossible m h → AllPairs (λ (a b : Event Body). a.key ≢ b.key) (all_events m h)
    distinct [] p = w.starts_apart
    distinct (e ∷ h) p = AllPairs_append (λ (a b : Event Body). a.key ≢ b.key) (effect_after m h e).events (all_events m h) (made_apart h p.0 e known)
        (distinct h p.0) (made_fresh h p.0 e known)
      where
        known : Contains (all_events m h) e
        known = (waits_from m h e p.1).known

    -- one key, one event
    pub one_event : (h : List (Event Body)) → IsPossible m h → (x y : Event Body) → Contains (all_events m h) x → Contains (all_events m h) y
        → x.key ≡ y.key → x ≡ y
    one_event h p = same_by_key (λ (x : Event Body). x.key) (all_events m h) (distinct h p)

    pub counts_bounded : (measure : State → ℕ) (most : ℕ) → ((s : State) (e : Event Body) → Sound e.target s → Fit e
        → measure (m.effect s e).state ≤ measure s + most)
        → (h : List (Event Body)) → IsPossible m h → (n : ℕ) → n < m.nodes → measure (state m h n) ≤ measure (m.initial n) + most * length h
    counts_bounded measure most each [] p n l = omega arith
    counts_bounded measure most each (e ∷ h) p n l = go (cases_eq e.target n) (counts_bounded measure most each h p.0 n l)
      where
        known : Contains (all_events m h) e
        known = (waits_from m h e p.1).known

        step : e.target ≡ n → measure (m.effect (state m h n) e).state ≤ measure (state m h n) + most
        step s = subst (λ q. measure (m.effect (state m h q) e).state ≤ measure (state m h q) + most) s
            (each (state m h e.target) e (sound_state h p.0 e known) (fit_event h p.0 e known))

        go : (e.target ≡ n) ⊎ (e.target ≡ n → ⊥) → measure (state m h n) ≤ measure (m.initial n) + most * length h
            → measure (state m (e ∷ h) n) ≤ measure (m.initial n) + most * length (e ∷ h)
        go (inl s) ih = rw (state_here e h n s) (omega (arith, ih, step s, mul-suc most (length h)))
        go (inr s) ih = rw (state_other e h n s) (omega (arith, ih, mul-suc most (length h)))
