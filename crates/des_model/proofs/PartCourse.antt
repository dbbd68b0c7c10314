-- How a part goes on from event to event.
use Rattle.std.proofs.Common.{
  ◌≡◌,
  ◌≢◌,
  ℕ,
  zero,
  suc,
  ◌+◌,
  ◌<◌,
  ◌≤◌,
  Some,
  List,
  [],
  ◌∷◌,
  ◌++◌,
  length,
  map,
  reverse,
  Bool,
  true,
  false,
  not,
  nat_lt,
  refl,
  ap,
  sym,
  ◌∙◌,
  subst,
  arith,
  inl,
  inr,
  ◌⊎◌,
  ⊎_elim,
  ◌↔◌,
  cond,
}
use Rattle.std.proofs.lemmas.Bool.{cases_eq, not-true, not_from_false, le-ltb, ltb-false}
use mathlib.Core.List.{reverse-cons}
use Rattle.std.specs.List.{Contains, AllPairs, cons_option, filter}
use Rattle.des_event.specs.Keys.{IsAtMost}
use Rattle.des_event.specs.declared.event.Event.{Event}
use Rattle.des_model.specs.Machine.{Machine}
use Rattle.des_model.specs.Histories.{state, effect_after, least, IsPossible, IsOverLimit}
use Rattle.des_model.specs.WellFormed.{IsWellFormed}
use Rattle.des_model.specs.Windows.{Division, part_of, Divides, put, waiting, IsPartRun, IsSealedRun, made_since, pieces_since, events_run}
use Rattle.des_model.specs.Laws.{MayOpen}
use Rattle.des_model.specs.PartRuns.{part_run, IsPartAt}
use Rattle.des_event.proofs.Members.{
  contains_none,
  contains_here,
  contains_left,
  contains_right,
  contains_append,
  contains_filter,
  filter_contains,
  AllPairs_none,
  AllPairs_cons,
  AllPairs_at,
  AllPairs_rest,
  AllPairs_append,
}
use Rattle.des_model.proofs.Least.{least_is}
use Rattle.des_model.proofs.Distinct.{one_event, made_fresh, made_ahead, state_here, state_other, sound_state, fit_event, made_apart}
use Rattle.des_model.proofs.Pending.{Waits}
use Rattle.des_model.proofs.Runs.{possible_from_legal}
use Rattle.des_model.proofs.Parts.{from_time, waiting_parts, possible_from_part_run}
use Rattle.des_model.proofs.Steps.{put_same, put_other}
use Rattle.des_model.proofs.Made.{known_from_since}
use Rattle.des_model.proofs.Rest.{waiting_moves}
use Rattle.des_model.proofs.Commuting.{limit_found}

pub AllPairs_filter : {A : Type 0} (R : A → A → Type 0) (p : A → Bool) (xs : List A) → AllPairs R xs → AllPairs R (filter p xs)
AllPairs_filter R p [] all = AllPairs_none R
AllPairs_filter R p (x ∷ xs) all = go (p x) (AllPairs_filter R p xs (AllPairs_rest R x xs all))
  where
    go : (b : Bool) → AllPairs R (filter p xs) → AllPairs R (cond b (x ∷ filter p xs) (filter p xs))
    go true ih = AllPairs_cons R x (filter p xs) (λ y c. AllPairs_at R x xs all y (filter_contains p xs y c).0) ih
    go false ih = ih

empty_from : {A : Type 0} (xs : List A) → ((x : A) → Contains xs x → ⊥) → xs ≡ []
empty_from [] h = refl
empty_from (x ∷ xs) h = absurd (h x (contains_here x xs))

events_run_at : {Body : Type 0} (ran : ℕ → List (Event Body)) (n p : ℕ) → p < n → length (ran p) ≤ events_run ran n
events_run_at ran zero p l = absurd (omega arith)
events_run_at ran (suc n) p l = ⊎_elim (λ e. omega (arith, ap (λ z. length (ran z)) e))
    (λ ne. let differ : p ≢ n = ne in omega (arith, events_run_at ran n p (omega arith))) (cases_eq p n)

module _ {State Body Piece : Type 0} (m : Machine State Body Piece) {Sound : ℕ → State → Type 0} {Fit : Event Body → Type 0} (w : IsWellFormed m Sound Fit)
    (d : Division) (whole : Divides d m.nodes) (h : List (Event Body)) (time horizon : ℕ) (o : MayOpen m h time horizon) (p : ℕ) where
  -- whether an event is for the horizon or later
  abbrev pub is_later : Event Body → Bool
  is_later x = not (nat_lt x.key.time horizon)

  pub part_at_start : (seen : ℕ → State) (wait : List (Event Body)) → ((i : ℕ) → i < m.nodes → part_of d i ≡ p → seen i ≡ state m h i)
      → ((x : Event Body) → Contains wait x ↔ Contains (waiting m d h horizon p []) x) → AllPairs (λ (a b : Event Body). a.key ≢ b.key) wait
      → IsPartAt m d h horizon p 0 seen wait [] []
  part_at_start seen wait states same apart = record {
    runs = tt;
    long = refl;
    seen_are = states;
    waits = same;
    apart = apart;
    mail_is = λ x. (λ c. absurd (contains_none x c), λ c. absurd (contains_none x c.0));
    mail_apart = AllPairs_none (λ (a b : Event Body). a.key ≢ b.key);
    pieces_are = refl;
  }

  possible : (ran : List (Event Body)) → IsPartRun m d h horizon p ran → IsPossible m (ran ++ h)
  possible ran r = possible_from_part_run m d h horizon (possible_from_legal m h o.legal) p ran r

  module _ (n : ℕ) (seen : ℕ → State) (wait mail : List (Event Body)) (pieces : List Piece) (r : IsPartAt m d h horizon p n seen wait mail pieces) where
    abbrev ran : List (Event Body)
    ran = part_run m d h horizon p n

    here : IsPossible m (part_run m d h horizon p n ++ h)
    here = possible (part_run m d h horizon p n) r.runs

    pub part_sealed : ((x : Event Body) → Contains wait x → ⊥) → IsSealedRun m d h horizon p (part_run m d h horizon p n)
    part_sealed none = record { runs = r.runs; done = empty_from (waiting m d h horizon p (part_run m d h horizon p n)) (λ x c. none x ((r.waits x).1 c)) }

    module _ (e : Event Body) (among : Contains wait e) (first : (x : Event Body) → Contains wait x → IsAtMost e.key x.key) where
      waits_now : Contains (waiting m d h horizon p (part_run m d h horizon p n)) e
      waits_now = (r.waits e).0 among

      facts : Waits m (part_run m d h horizon p n ++ h) e × (part_of d e.target ≡ p) × (e.key.time < horizon)
      facts = waiting_parts m d h horizon p (part_run m d h horizon p n) e waits_now

      least_found : least (waiting m d h horizon p (part_run m d h horizon p n)) ≡ Some e
      least_found = least_is (waiting m d h horizon p (part_run m d h horizon p n)) e
          (λ x y c k. one_event m w (part_run m d h horizon p n ++ h) here x y
          (waiting_parts m d h horizon p (part_run m d h horizon p n) x c).0.known (waiting_parts m d h horizon p (part_run m d h horizon p n) y k).0.known)
          (record { among = waits_now; first = λ x c. first x ((r.waits x).1 c) })

      pub part_goes_on : part_run m d h horizon p (suc n) ≡ e ∷ part_run m d h horizon p n
      part_goes_on = ap (λ z. cons_option z (part_run m d h horizon p n)) least_found

      pub part_event_fit : Fit e
      part_event_fit = fit_event m w (part_run m d h horizon p n ++ h) here e (facts.0).known

      pub part_target : e.target < m.nodes
      part_target = w.in_range e part_event_fit

      pub part_event_in : part_of d e.target ≡ p
      part_event_in = facts.1

      pub part_event_early : e.key.time < horizon
      part_event_early = facts.2

      pub part_seen : seen e.target ≡ state m (part_run m d h horizon p n ++ h) e.target
      part_seen = r.seen_are e.target part_target facts.1

      pub part_sound : Sound e.target (seen e.target)
      part_sound = subst (λ z. Sound e.target z) (sym part_seen) (sound_state m w (part_run m d h horizon p n ++ h) here e (facts.0).known)

      pub part_possible : IsPossible m (part_run m d h horizon p n ++ h)
      part_possible = here

      same_effect : m.effect (seen e.target) e ≡ effect_after m (part_run m d h horizon p n ++ h) e
      same_effect = ap (λ z. m.effect z e) part_seen

      abbrev made : List (Event Body)
      made = (m.effect (seen e.target) e).events

      made_is : (x : Event Body) → Contains (m.effect (seen e.target) e).events x → Contains (effect_after m (part_run m d h horizon p n ++ h) e).events x
      made_is x c = subst (λ z. Contains z.events x) same_effect c

      made_from : (x : Event Body) → Contains (effect_after m (part_run m d h horizon p n ++ h) e).events x → Contains (m.effect (seen e.target) e).events x
      made_from x c = subst (λ z. Contains z.events x) (sym same_effect) c

      -- what is due in the window is for the same node
      made_here : (x : Event Body) → Contains (effect_after m (part_run m d h horizon p n ++ h) e).events x → x.key.time < horizon → part_of d x.target ≡ p
      made_here x c early = ⊎_elim (λ s. ap (part_of d) s ∙ facts.1)
          (λ ne. absurd (omega (
            arith,
            early,
            o.ahead,
            made_ahead m w (part_run m d h horizon p n ++ h) here e (facts.0).known x c ne,
            from_time m h w time horizon o (part_run m d h horizon p n) here e facts.0,
          )))
          (cases_eq x.target e.target)

      -- no other event has its key
      pub made_new : (x y : Event Body) → Contains (m.effect (seen e.target) e).events x → Contains wait y → x.key ≢ y.key
      made_new x y c k = made_fresh m w (part_run m d h horizon p n ++ h) here e (facts.0).known x y (made_is x c)
          (waiting_parts m d h horizon p (part_run m d h horizon p n) y ((r.waits y).0 k)).0.known

      pub made_all_apart : AllPairs (λ (a b : Event Body). a.key ≢ b.key) (m.effect (seen e.target) e).events
      made_all_apart = subst (λ z. AllPairs (λ (a b : Event Body). a.key ≢ b.key) z.events) (sym same_effect)
          (made_apart m w (part_run m d h horizon p n ++ h) here e (facts.0).known)

      longer : IsPartRun m d h horizon p (e ∷ part_run m d h horizon p n)
      longer = (r.runs, least_found)

      pub part_over : p < d.parts → m.max_events ≤ length h + n → IsOverLimit m
      part_over inside full =
          limit_found m w d whole h time horizon o lists runs
          (omega (arith, full, events_run_at lists d.parts p inside, ap length (put_same (λ q. []) p (e ∷ part_run m d h horizon p n) p refl), r.long))
        where
          lists : ℕ → List (Event Body)
          lists = put (λ q. []) p (e ∷ part_run m d h horizon p n)

          runs : (q : ℕ) → q < d.parts → IsPartRun m d h horizon q (lists q)
          runs q l2 = ⊎_elim (λ s. subst (λ z. IsPartRun m d h horizon q z) (sym (put_same (λ q. []) p (e ∷ part_run m d h horizon p n) q s))
              (subst (λ z. IsPartRun m d h horizon z (e ∷ part_run m d h horizon p n)) (sym s) longer))
              (λ s. subst (λ z. IsPartRun m d h horizon q z) (sym (put_other (λ q. []) p (e ∷ part_run m d h horizon p n) q s)) tt) (cases_eq q p)

      pub part_more : (seen' : ℕ → State) (wait' mail' : List (Event Body)) (pieces' : List Piece)
          → seen' e.target ≡ (m.effect (seen e.target) e).state → ((i : ℕ) → i < m.nodes → i ≢ e.target → seen' i ≡ seen i)
          → ((x : Event Body) → Contains wait' x ↔ ((Contains wait x × (x ≢ e)) ⊎ (Contains (m.effect (seen e.target) e).events x × (x.key.time < horizon))))
          → AllPairs (λ (a b : Event Body). a.key ≢ b.key) wait'
          → mail' ≡ mail ++ filter (λ (x : Event Body). not (nat_lt x.key.time horizon)) (m.effect (seen e.target) e).events
          → pieces' ≡ pieces ++ (m.effect (seen e.target) e).piece ∷ []
          → IsPartAt m d h horizon p (suc n) seen' wait' mail' pieces'
      part_more seen' wait' mail' pieces' changed kept wait_is wait_apart mail_at pieces_at = record {
        runs = subst (λ z. IsPartRun m d h horizon p z) (sym part_goes_on) longer;
        long = omega (arith, ap length part_goes_on, r.long);
        seen_are = λ i l s. subst (λ z. seen' i ≡ state m (z ++ h) i) (sym part_goes_on) (state_after i l s);
        waits = λ x. (
          λ c. subst (λ z. Contains (waiting m d h horizon p z) x) (sym part_goes_on) ((moves x).1 (there x ((wait_is x).0 c))),
          λ c. (wait_is x).1 (back x ((moves x).0 (subst (λ z. Contains (waiting m d h horizon p z) x) part_goes_on c))),
        );
        apart = wait_apart;
        mail_is = λ x. (
          λ c. subst (λ z. Contains (made_since m h z) x × (horizon ≤ x.key.time)) (sym part_goes_on) (sent x (subst (λ z. Contains z x) mail_at c)),
          λ c. subst (λ z. Contains z x) (sym mail_at) (post x (subst (λ z. Contains (made_since m h z) x × (horizon ≤ x.key.time)) part_goes_on c)),
        );
        mail_apart = subst (λ z. AllPairs (λ (a b : Event Body). a.key ≢ b.key) z) (sym mail_at)
            (AllPairs_append (λ (a b : Event Body). a.key ≢ b.key) mail (filter is_later (m.effect (seen e.target) e).events) r.mail_apart
            (AllPairs_filter (λ (a b : Event Body). a.key ≢ b.key) is_later (m.effect (seen e.target) e).events made_all_apart)
            (λ x y c z s. made_fresh m w (part_run m d h horizon p n ++ h) here e (facts.0).known y x
            (made_is y (filter_contains is_later (m.effect (seen e.target) e).events y z).0)
            (known_from_since m h (part_run m d h horizon p n) x ((r.mail_is x).0 c).0) (sym s)));
        pieces_are = pieces_at ∙ (ap (λ z. z ++ (m.effect (seen e.target) e).piece ∷ []) r.pieces_are
            ∙ (ap (λ z. reverse (map (λ b. b.1) (pieces_since m h (part_run m d h horizon p n))) ++ z ∷ []) (ap (λ z. z.piece) same_effect)
            ∙ (sym (reverse-cons (effect_after m (part_run m d h horizon p n ++ h) e).piece (map (λ b. b.1) (pieces_since m h (part_run m d h horizon p n))))
            ∙ ap (λ z. reverse (map (λ b. b.1) (pieces_since m h z))) (sym part_goes_on))));
      }
        where
          state_after : (i : ℕ) → i < m.nodes → part_of d i ≡ p → seen' i ≡ state m (e ∷ (part_run m d h horizon p n ++ h)) i
          state_after i l s = ⊎_elim
              (λ t. subst (λ z. seen' z ≡ state m (e ∷ (part_run m d h horizon p n ++ h)) z) t
              (changed ∙ (ap (λ z. z.state) same_effect ∙ sym (state_here m e (part_run m d h horizon p n ++ h) e.target refl))))
              (λ t. kept i l (λ z. t (sym z)) ∙ (r.seen_are i l s ∙ sym (state_other m e (part_run m d h horizon p n ++ h) i t))) (cases_eq e.target i)

          moves : (x : Event Body) → Contains (waiting m d h horizon p (e ∷ part_run m d h horizon p n)) x
              ↔ ((Contains (waiting m d h horizon p (part_run m d h horizon p n)) x × (x ≢ e))
              ⊎ (Contains (effect_after m (part_run m d h horizon p n ++ h) e).events x × (part_of d x.target ≡ p) × (x.key.time < horizon)))
          moves x = waiting_moves m w d h horizon p (part_run m d h horizon p n) e (possible_from_legal m h o.legal) longer x

          there : (x : Event Body) → (Contains wait x × (x ≢ e)) ⊎ (Contains (m.effect (seen e.target) e).events x × (x.key.time < horizon))
              → (Contains (waiting m d h horizon p (part_run m d h horizon p n)) x × (x ≢ e))
              ⊎ (Contains (effect_after m (part_run m d h horizon p n ++ h) e).events x × (part_of d x.target ≡ p) × (x.key.time < horizon))
          there x (inl k) = inl ((r.waits x).0 k.0, k.1)
          there x (inr k) = inr (made_is x k.0, made_here x (made_is x k.0) k.1, k.1)

          back : (x : Event Body) → (Contains (waiting m d h horizon p (part_run m d h horizon p n)) x × (x ≢ e))
              ⊎ (Contains (effect_after m (part_run m d h horizon p n ++ h) e).events x × (part_of d x.target ≡ p) × (x.key.time < horizon))
              → (Contains wait x × (x ≢ e)) ⊎ (Contains (m.effect (seen e.target) e).events x × (x.key.time < horizon))
          back x (inl k) = inl ((r.waits x).1 k.0, k.1)
          back x (inr k) = inr (made_from x k.0, k.2)

          sent : (x : Event Body) → Contains (mail ++ filter is_later (m.effect (seen e.target) e).events) x
              → Contains (made_since m h (e ∷ part_run m d h horizon p n)) x × (horizon ≤ x.key.time)
          sent x c = ⊎_elim
              (λ z. let g = (r.mail_is x).0 z in (
                contains_right (effect_after m (part_run m d h horizon p n ++ h) e).events
                    (made_since m h (part_run m d h horizon p n)) x g.0,
                g.1,
              ))
              (λ z. let g = filter_contains is_later (m.effect (seen e.target) e).events x z in (
                contains_left (effect_after m (part_run m d h horizon p n ++ h) e).events (made_since m h (part_run m d h horizon p n)) x (made_is x g.0),
                ltb-false x.key.time horizon (not-true (nat_lt x.key.time horizon) g.1),
              ))
              (contains_append mail (filter is_later (m.effect (seen e.target) e).events) x c)

          post : (x : Event Body) → Contains (made_since m h (e ∷ part_run m d h horizon p n)) x × (horizon ≤ x.key.time)
              → Contains (mail ++ filter is_later (m.effect (seen e.target) e).events) x
          post x c = ⊎_elim
              (λ z. contains_right mail (filter is_later (m.effect (seen e.target) e).events) x
              (contains_filter is_later (m.effect (seen e.target) e).events x (made_from x z)
              (not_from_false (nat_lt x.key.time horizon) (le-ltb x.key.time horizon c.1))))
              (λ z. contains_left mail (filter is_later (m.effect (seen e.target) e).events) x ((r.mail_is x).1 (z, c.1)))
              (contains_append (effect_after m (part_run m d h horizon p n ++ h) e).events (made_since m h (part_run m d h horizon p n)) x c.0)
