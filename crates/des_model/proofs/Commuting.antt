-- A closed window leaves what one event at a time leaves.
use Rattle.std.proofs.Common.{
  None,
  ◌≡◌,
  ◌≢◌,
  ℕ,
  zero,
  suc,
  ◌+◌,
  ◌<◌,
  ◌≤◌,
  List,
  ◌++◌,
  length,
  refl,
  ap,
  sym,
  ◌∙◌,
  subst,
  arith,
  inl,
  inr,
  ◌⊎◌,
  ⊎_elim,
  length-append,
}
use Rattle.std.proofs.lemmas.Bool.{cases_lt, cases_eq}
use Rattle.std.specs.List.{Contains}
use Rattle.des_event.specs.declared.key.Key.{Key}
use Rattle.des_event.specs.Keys.{IsBefore}
use Rattle.des_event.specs.declared.event.Event.{Event}
use Rattle.des_model.specs.Machine.{Machine}
use Rattle.des_model.specs.Histories.{least, IsPossible, state, all_events, pending, IsLegal, below, history, IsOverLimit}
use Rattle.des_model.specs.WellFormed.{IsWellFormed}
use Rattle.des_model.specs.Windows.{
  Division,
  part_of,
  Divides,
  restrict,
  waiting,
  IsPartRun,
  IsSealedRun,
  made_since,
  pieces_since,
  opened,
  after_picks,
  IsClosed,
  ran_by,
  left_by,
  merged,
  events_run,
}
use Rattle.des_model.specs.Laws.{MayOpen, Commutes}
use Rattle.des_event.proofs.Members.{All_at, All_from, AllPairs_front, contains_left, contains_right, contains_append}
use Rattle.des_model.proofs.Pending.{Waits, waits_from, pending_from}
use Rattle.des_model.proofs.Runs.{none_next, history_is_whole, legal_is_history, legal_known, possible_from_legal, legal_ascends, taken_before}
use Rattle.des_model.proofs.Below.{below_contains, length_below, next_of_rest, goes_on, length_history, below_is_legal, below_is_done}
use Rattle.des_model.proofs.Parts.{
  possible_from_part_run,
  part_run_in,
  restrict_contains,
  state-restrict,
  restrict_runs,
  restrict_done,
  no_longer,
  done_is_one,
  made_in_whole,
  waits_in_whole,
}
use Rattle.des_model.proofs.Distinct.{meets}
use Rattle.des_model.proofs.Steps.{steps_run_parts}
use Rattle.des_model.proofs.Merged.{length-merged, among_none, among, among_all, merged_is, length_among}
use Rattle.des_model.proofs.Ascending.{pieces_merge}
use Rattle.std.specs.List.{AllPairs}
use Rattle.std.proofs.Common.{◌↔◌, reverse}
use Rattle.des_model.proofs.Pieces.{pieces-restrict}
use Rattle.des_model.proofs.Made.{known_from_since, known_before, made_by_part, IsMaker, maker}

module _ {State Body Piece : Type 0} (m : Machine State Body Piece) {Sound : ℕ → State → Type 0} {Fit : Event Body → Type 0}
    (w : IsWellFormed m Sound Fit) where
  -- what the one run takes from h up to the horizon
  pub record IsWindowRun (h : List (Event Body)) (horizon : ℕ) (g : List (Event Body)) : Type 0 where
    pub legal : IsLegal m (g ++ h)
    pub early : (x : Event Body) → Contains g x → x.key.time < horizon
    pub done : (x : Event Body) → Waits m (g ++ h) x → x.key.time < horizon → ⊥

  -- an event of h comes before the first that is pending after it
  taken_early : (h : List (Event Body)) (time horizon : ℕ) → MayOpen m h time horizon → (x : Event Body) → Contains h x → x.key.time < horizon
  taken_early h time horizon o x c =
      let q : IsBefore x.key (o.reached).0.key = taken_before m w h o.legal x (o.reached).0 c (waits_from m h (o.reached).0 (o.reached).1) in
      omega (arith, q.time, (o.reached).2, o.above)

  -- a legal history of events below the horizon has no more of them than one after which none is pending there
  no_more : (u v : List (Event Body)) (horizon : ℕ) → IsLegal m u → ((x : Event Body) → Waits m u x → x.key.time < horizon → ⊥)
      → IsLegal m v → ((x : Event Body) → Contains v x → x.key.time < horizon) → length v ≤ length u
  no_more u v horizon lu done lv early = ⊎_elim (λ lt. absurd (longer (goes_on m w u v lu lv (omega arith)) lt)) (λ ge. ge) (cases_lt (length u) (length v))
    where
      longer : (c : List (Event Body)) × (v ≡ c ++ u) → length u < length v → ⊥
      longer s lt =
          let n = next_of_rest m s.0 u (subst (λ z. IsLegal m z) s.1 lv) (omega (arith, ap length s.1, length-append s.0 u)) in
          done n.0 (waits_from m u n.0 (n.1).waits) (early n.0 (subst (λ z. Contains z n.0) (sym s.1) (contains_left s.0 u n.0 n.2)))

  -- the events below the horizon, as far as k of the run go
  pub window_run : (h : List (Event Body)) (time horizon k : ℕ) → MayOpen m h time horizon → length (below horizon (history m k)) < k
      → (g : List (Event Body)) × (below horizon (history m k) ≡ g ++ h) × IsWindowRun h horizon g
  window_run h time horizon k o few = (
    r.0,
    r.1,
    record {
      legal = subst (λ z. IsLegal m z) r.1 legal;
      early = λ x c. below_contains horizon (history m k) x (subst (λ z. Contains z x) (sym r.1) (contains_left r.0 h x c));
      done = λ x v. done x (subst (λ z. Waits m z x) (sym r.1) v);
    },
  )
    where
      legal : IsLegal m (below horizon (history m k))
      legal = below_is_legal m w horizon k

      done : (x : Event Body) → Waits m (below horizon (history m k)) x → x.key.time < horizon → ⊥
      done = below_is_done m w horizon k o.in_time few

      r : (g : List (Event Body)) × (below horizon (history m k) ≡ g ++ h)
      r = goes_on m w h (below horizon (history m k)) o.legal legal (no_more (below horizon (history m k)) h horizon legal done o.legal
          (taken_early h time horizon o))

  -- there is one such run
  one_window_run : (h : List (Event Body)) (time horizon : ℕ) → MayOpen m h time horizon → (f g : List (Event Body)) → IsWindowRun h horizon f
      → IsWindowRun h horizon g → f ++ h ≡ g ++ h
  one_window_run h time horizon o f g r s =
      legal_is_history m w (f ++ h) r.legal ∙ (ap (λ n. history m n) same ∙ sym (legal_is_history m w (g ++ h) s.legal))
    where
      early : (g : List (Event Body)) → IsWindowRun h horizon g → (x : Event Body) → Contains (g ++ h) x → x.key.time < horizon
      early g s x c = ⊎_elim (λ k. s.early x k) (λ k. taken_early h time horizon o x k) (contains_append g h x c)

      same : length (f ++ h) ≡ length (g ++ h)
      same = omega (
        arith,
        no_more (f ++ h) (g ++ h) horizon r.legal r.done s.legal (early g s),
        no_more (g ++ h) (f ++ h) horizon s.legal s.done
            r.legal (early f r),
      )

  module _ (d : Division) (whole : Divides d m.nodes) where
    pub node_in_range : (n : ℕ) → n < m.nodes → part_of d n < d.parts
    node_in_range n l = whole.in_range n 0 (omega (arith, l, whole.whole))

    pub known_in_range : (h : List (Event Body)) → IsPossible m h → (x : Event Body) → Contains (all_events m h) x → part_of d x.target < d.parts
    known_in_range h p x c = node_in_range x.target (w.in_range x (All_at Fit (all_events m h) x (meets m w h p).fit c))

    -- what a part's list made for another part is due at the horizon or later
    pub made_late : (h : List (Event Body)) (time horizon : ℕ) → MayOpen m h time horizon → (p : ℕ) (ran : List (Event Body))
        → IsPartRun m d h horizon p ran → (x : Event Body) → Contains (made_since m h ran) x → part_of d x.target ≢ p → horizon ≤ x.key.time
    made_late h time horizon o p ran r x c ne =
        let k = maker m h d w time horizon o ran x (possible_from_part_run m d h horizon (possible_from_legal m h o.legal) p ran r) c in
        (k.1).others (λ s. ne (ap (part_of d) s ∙ part_run_in m d h horizon p ran r k.0 (k.1).among))

    -- an event that is pending after the whole window waits at its part, or was made for it by another one
    pending_there : (h : List (Event Body)) (g : List (Event Body)) → IsLegal m (g ++ h) → (x : Event Body) → Waits m (g ++ h) x
        → Contains (pending m (restrict d (part_of d x.target) g ++ h)) x
        ⊎ ((p : ℕ) × (p < d.parts) × (p ≢ part_of d x.target) × Contains (made_since m h (restrict d p g)) x)
    pending_there h g l x v =
        ⊎_elim (λ old. inl (at_part (known_before m h ran x old)))
        (λ s. ⊎_elim (λ e. inl (at_part (known_from_since m h ran x (subst (λ q. Contains (made_since m h (restrict d q g)) x) e s.2))))
        (λ ne. inr (
          part_of d s.0.target,
          known_in_range (g ++ h) (possible_from_legal m (g ++ h) l) s.0
              (legal_known m (g ++ h) l s.0 (contains_left g h s.0 s.1)),
          ne,
          s.2,
        ))
        (cases_eq (part_of d s.0.target) (part_of d x.target)))
        (made_by_part m h d g x v.known)
      where
        ran : List (Event Body)
        ran = restrict d (part_of d x.target) g

        at_part : Contains (all_events m (ran ++ h)) x → Contains (pending m (ran ++ h)) x
        at_part known = pending_from m (ran ++ h) x (record {
          known = known;
          free = λ y c. v.free y (⊎_elim (λ k. contains_left g h y (restrict_contains d (part_of d x.target) g y k).0) (λ k. contains_right g h y k)
              (contains_append ran h y c));
        })

    pending_back : (h : List (Event Body)) (time horizon : ℕ) → MayOpen m h time horizon → (g : List (Event Body)) → IsWindowRun h horizon g → (x : Event Body)
        → Contains (pending m (restrict d (part_of d x.target) g ++ h)) x
        ⊎ ((p : ℕ) × (p < d.parts) × (p ≢ part_of d x.target) × Contains (made_since m h (restrict d p g)) x)
        → Waits m (g ++ h) x
    pending_back h time horizon o g r x (inl c) = waits_in_whole m d h w time horizon o (part_of d x.target) g r.legal x refl
        (waits_from m (restrict d (part_of d x.target) g ++ h) x c)
    pending_back h time horizon o g r x (inr s) = record {
      known = made_in_whole m d h s.0 g x (known_from_since m h (restrict d s.0 g) x s.3);
      free = λ y c k. ⊎_elim (λ q. omega (arith, late, r.early y q, ap (λ (z : Key). z.time) k))
          (λ q. omega (arith, late, old y q, ap (λ (z : Key). z.time) k)) (contains_append g h y c);
    }
      where
        late : horizon ≤ x.key.time
        late = made_late h time horizon o s.0 (restrict d s.0 g) (restrict_runs m d h w time horizon o s.0 g r.legal r.early) x s.3 (λ e. s.2 (sym e))

        old : (y : Event Body) → Contains h y → y.key.time < horizon
        old = taken_early h time horizon o

    among_whole : (h g : List (Event Body)) → IsLegal m (g ++ h) → among d d.parts g ≡ g
    among_whole h g l = among_all d g (λ x c. known_in_range (g ++ h) (possible_from_legal m (g ++ h) l) x (legal_known m (g ++ h) l x (contains_left g h x c)))

    -- lists of the parts in one window
    module _ (h : List (Event Body)) (time horizon : ℕ) (o : MayOpen m h time horizon) (ran : ℕ → List (Event Body)) where
      -- unsealed, they run no more than the one run takes
      run_within_taken : ((p : ℕ) → p < d.parts → IsPartRun m d h horizon p (ran p)) → (g : List (Event Body)) → IsWindowRun h horizon g → (n : ℕ)
          → n ≤ d.parts → events_run ran n ≤ length (among d n g)
      run_within_taken runs g r zero within = omega arith
      run_within_taken runs g r (suc p) within =
          let each : length (ran p) ≤ length (restrict d p g) =
          no_longer m d h horizon p (restrict d p g) (ran p) (restrict_runs m d h w time horizon o p g r.legal r.early)
          (restrict_done m d h w time horizon o p g r.legal r.done) (runs p within) in
          omega (arith, run_within_taken runs g r p (omega arith), each, length_among d p g)

      pub limit_found : ((p : ℕ) → p < d.parts → IsPartRun m d h horizon p (ran p)) → m.max_events < length h + events_run ran d.parts → IsOverLimit m
      limit_found runs many = ⊎_elim (λ over. over) (λ under. absurd (within under)) (cases_eq (length (history m (m.max_events + 1))) (m.max_events + 1))
        where
          within : (length (history m (m.max_events + 1)) ≡ m.max_events + 1 → ⊥) → ⊥
          within under =
              let differ : length (history m (m.max_events + 1)) ≢ m.max_events + 1 = under in
              let few : length (history m (m.max_events + 1)) ≤ m.max_events = omega (arith, length_history m (m.max_events + 1)) in
              let f = window_run h time horizon (m.max_events + 1) o (omega (arith, few, length_below horizon (history m (m.max_events + 1)))) in
              omega (
                arith,
                many,
                run_within_taken runs f.0 f.2 d.parts (omega arith),
                ap length (among_whole h f.0 (f.2).legal),
                ap length f.1,
                length-append f.0 h,
                length_below horizon (history m (m.max_events + 1)),
                few,
              )

      module _ (sealed : (p : ℕ) → p < d.parts → IsSealedRun m d h horizon p (ran p)) where
        done : (p : ℕ) → p < d.parts → least (waiting m d h horizon p (ran p)) ≡ None
        done p l = ap least (sealed p l).done

        -- sealed, they run no less than a legal history takes below the horizon
        taken_within_run : (g : List (Event Body)) → IsLegal m (g ++ h) → ((x : Event Body) → Contains g x → x.key.time < horizon) → (n : ℕ)
            → n ≤ d.parts → length (among d n g) ≤ events_run ran n
        taken_within_run g l early zero within = omega (arith, ap length (among_none d g))
        taken_within_run g l early (suc p) within =
            let each : length (restrict d p g) ≤ length (ran p) =
            no_longer m d h horizon p (ran p) (restrict d p g) (sealed p within).runs (done p within) (restrict_runs m d h w time horizon o p g l early) in
            omega (arith, taken_within_run g l early p (omega arith), each, length_among d p g)

        -- so the one run comes to the horizon
        found : (g : List (Event Body)) × IsWindowRun h horizon g
        found = (r.0, r.2)
          where
            k : ℕ
            k = length h + events_run ran d.parts + 1

            full : k ≤ length (below horizon (history m k)) → (g : List (Event Body)) × (below horizon (history m k) ≡ g ++ h) → ⊥
            full ge s =
                let legal : IsLegal m (s.0 ++ h) = subst (λ z. IsLegal m z) s.1 (below_is_legal m w horizon k) in
                let early : (x : Event Body) → Contains s.0 x → x.key.time < horizon = λ x c. below_contains horizon (history m k) x
                (subst (λ z. Contains z x) (sym s.1) (contains_left s.0 h x c)) in
                omega (
                  arith,
                  ge,
                  taken_within_run s.0 legal early d.parts (omega arith),
                  ap length (among_whole h s.0 legal),
                  ap length s.1,
                  length-append s.0 h,
                )

            few : length (below horizon (history m k)) < k
            few = ⊎_elim (λ lt. lt) (λ ge. absurd (full ge (goes_on m w h (below horizon (history m k)) o.legal (below_is_legal m w horizon k)
                (omega (arith, ge))))) (cases_lt (length (below horizon (history m k))) k)

            r : (g : List (Event Body)) × (below horizon (history m k) ≡ g ++ h) × IsWindowRun h horizon g
            r = window_run h time horizon k o few

        g : List (Event Body)
        g = found.0

        r : IsWindowRun h horizon g
        unfolding g
        r = found.1

        parts : (p : ℕ) → p < d.parts → ran p ≡ restrict d p g
        parts p l =
            done_is_one m d h horizon p (ran p) (restrict d p g) (sealed p l).runs (done p l)
            (restrict_runs m d h w time horizon o p g r.legal r.early) (restrict_done m d h w time horizon o p g r.legal r.done)

        in_parts : (x : Event Body) → Contains g x → part_of d x.target < d.parts
        in_parts x c = known_in_range (g ++ h) (possible_from_legal m (g ++ h) r.legal) x (legal_known m (g ++ h) r.legal x (contains_left g h x c))

        states : (n : ℕ) → n < m.nodes → state m (ran (part_of d n) ++ h) n ≡ state m (g ++ h) n
        states n l = ap (λ z. state m (z ++ h) n) (parts (part_of d n) (node_in_range n l)) ∙ sym (state-restrict m d h (part_of d n) g n refl)

        there : (x : Event Body) → x.target < m.nodes → Contains (pending m (g ++ h)) x
            → (Contains (pending m (ran (part_of d x.target) ++ h)) x ⊎ ((p : ℕ) × (p < d.parts) × (p ≢ part_of d x.target)
            × Contains (made_since m h (ran p)) x))
        there x node c =
            ⊎_elim (λ k. inl (subst (λ z. Contains (pending m (z ++ h)) x) (sym (parts (part_of d x.target) (node_in_range x.target node))) k))
            (λ k. inr (k.0, k.1, k.2, subst (λ z. Contains (made_since m h z) x) (sym (parts k.0 k.1)) k.3))
            (pending_there h g r.legal x (waits_from m (g ++ h) x c))

        back : (x : Event Body) → x.target < m.nodes
            → (Contains (pending m (ran (part_of d x.target) ++ h)) x ⊎ ((p : ℕ) × (p < d.parts) × (p ≢ part_of d x.target)
            × Contains (made_since m h (ran p)) x))
            → Contains (pending m (g ++ h)) x
        back x node c =
            pending_from m (g ++ h) x (pending_back h time horizon o g r x
            (⊎_elim (λ k. inl (subst (λ z. Contains (pending m (z ++ h)) x) (parts (part_of d x.target) (node_in_range x.target node)) k))
            (λ k. inr (k.0, k.1, k.2, subst (λ z. Contains (made_since m h z) x) (parts k.0 k.1) k.3)) c))

        older : (x : Event Body) → Contains (g ++ h) x → x.key.time < horizon
        older x c = ⊎_elim (λ k. r.early x k) (λ k. taken_early h time horizon o x k) (contains_append g h x c)

        to_mail : (x : Event Body) → Contains (pending m (g ++ h)) x
            → (Contains (pending m h) x ⊎ ((p : ℕ) × (p < d.parts) × Contains (made_since m h (ran p)) x)) × (horizon ≤ x.key.time)
        to_mail x c = (
          ⊎_elim (λ old. inl (pending_from m h x (record { known = old; free = λ y k. v.free y (contains_right g h y k) })))
              (λ s. inr (
                part_of d s.0.target,
                in_parts s.0 s.1,
                subst (λ z. Contains (made_since m h z) x)
                    (sym (parts (part_of d s.0.target) (in_parts s.0 s.1))) s.2,
              ))
              (made_by_part m h d g x v.known),
          ⊎_elim (λ lt. absurd (r.done x v lt)) (λ ge. ge) (cases_lt x.key.time horizon),
        )
          where
            v : Waits m (g ++ h) x
            v = waits_from m (g ++ h) x c

        from_mail : (x : Event Body) → (Contains (pending m h) x ⊎ ((p : ℕ) × (p < d.parts) × Contains (made_since m h (ran p)) x))
            × (horizon ≤ x.key.time) → Contains (pending m (g ++ h)) x
        from_mail x c = pending_from m (g ++ h) x (record {
          known = ⊎_elim (λ old. known_before m h g x (waits_from m h x old).known)
              (λ s. made_in_whole m d h s.0 g x (known_from_since m h (restrict d s.0 g) x
              (subst (λ z. Contains (made_since m h z) x) (parts s.0 s.1) s.2))) c.0;
          free = λ y k e. omega (arith, older y k, c.1, ap (λ (z : Key). z.time) e);
        })

        pub commutes : Commutes m d h horizon ran
        commutes = record {
          taken = g;
          legal = r.legal;
          below = All_from (λ (x : Event Body). x.key.time < horizon) g r.early;
          whole = All_from (λ (x : Event Body). horizon ≤ x.key.time) (pending m (g ++ h))
              (λ x c. ⊎_elim (λ lt. absurd (r.done x (waits_from m (g ++ h) x c) lt)) (λ ge. ge) (cases_lt x.key.time horizon));
          within_limit = λ few. let f = window_run h time horizon (m.max_events + 1) o (omega (arith, few)) in f.1
              ∙ one_window_run h time horizon o f.0 g f.2 r;
          parts = parts;
          left = ap (λ z. z ++ h) (merged_is d ran g (AllPairs_front (λ (a b : Event Body). IsBefore b.key a.key) g h
              (legal_ascends m w (g ++ h) r.legal)) in_parts parts);
          states = states;
          pieces = λ p l. ap (pieces_since m h) (parts p l) ∙ pieces-restrict m d h p g;
          mail = λ x. (to_mail x, from_mail x);
          waits = λ x node. (there x node, back x node);
        }

    pub pieces_in_order : (h : List (Event Body)) (horizon : ℕ) (ran : ℕ → List (Event Body)) (c : Commutes m d h horizon ran)
        → (pieces : List (Event Body × Piece)) → AllPairs (λ (a b : Event Body × Piece). IsBefore a.0.key b.0.key) pieces
        → ((x : Event Body × Piece) → Contains pieces x ↔ ((p : ℕ) × (p < d.parts) × Contains (pieces_since m h (ran p)) x))
        → pieces ≡ reverse (pieces_since m h c.taken)
    pieces_in_order h horizon ran c = pieces_merge m w d h horizon ran c
        (λ x k. known_in_range (c.taken ++ h) (possible_from_legal m (c.taken ++ h) c.legal) x
        (legal_known m (c.taken ++ h) c.legal x (contains_left c.taken h x k)))

    pub windows_leave_histories : (k time horizon : ℕ) → MayOpen m (history m k) time horizon → (ran : ℕ → List (Event Body))
        → ((p : ℕ) → p < d.parts → IsSealedRun m d (history m k) horizon p (ran p)) → left_by d (history m k) ran ≡ history m (k + events_run ran d.parts)
    windows_leave_histories k time horizon o ran sealed =
        legal_is_history m w (left_by d (history m k) ran) (subst (λ z. IsLegal m z) (sym c.left) c.legal) ∙ ap (λ n. history m n) long
      where
        c : Commutes m d (history m k) horizon ran
        c = commutes (history m k) time horizon o ran sealed

        -- an event is pending below the duration, so there were k events
        k_events : length (history m k) ≡ k
        k_events = ⊎_elim (λ e. e) (λ stuck. absurd (omega (
          arith,
          none_next m (history m k) stuck (o.reached).0 (o.reached).1,
          (o.reached).2,
          o.above,
          o.in_time,
        ))) (history_is_whole m k)

        long : length (left_by d (history m k) ran) ≡ k + events_run ran d.parts
        long = omega (arith, k_events, length-merged ran d.parts, length-append (merged ran d.parts) (history m k))

    pub windows_commute : (h : List (Event Body)) (time horizon : ℕ) → MayOpen m h time horizon
        → (picks : List ℕ) → IsClosed d (after_picks m d (opened h horizon) picks) → Commutes m d h horizon (ran_by (after_picks m d (opened h horizon) picks))
    windows_commute h time horizon o picks closed = commutes h time horizon o (ran_by (after_picks m d (opened h horizon) picks))
        (λ p l. (steps_run_parts m d h horizon picks p).1 (closed p l))

  pub others_later : (d : Division) (h : List (Event Body)) (time horizon : ℕ) → MayOpen m h time horizon
      → (p : ℕ) (ran : List (Event Body)) → IsPartRun m d h horizon p ran → (x : Event Body) → Contains (made_since m h ran) x
      → (x.key.origin ≢ 2 + x.target → horizon ≤ x.key.time) × (x.key.origin ≡ 2 + x.target → part_of d x.target ≡ p)
  others_later d h time horizon o p ran runs x c = (far, stays)
    where
      k : (e : Event Body) × IsMaker m h d horizon ran x e
      k = maker m h d w time horizon o ran x (possible_from_part_run m d h horizon (possible_from_legal m h o.legal) p ran runs) c

      far : x.key.origin ≢ 2 + x.target → horizon ≤ x.key.time
      far ne = (k.1).others (λ s. ne ((k.1).origin ∙ ap (λ z. 2 + z) (sym s)))

      stays : x.key.origin ≡ 2 + x.target → part_of d x.target ≡ p
      stays e =
          let o2 : x.key.origin ≡ 2 + k.0.target = (k.1).origin in
          let s : x.target ≡ k.0.target = omega arith in
          ap (part_of d) s ∙ part_run_in m d h horizon p ran runs k.0 (k.1).among
