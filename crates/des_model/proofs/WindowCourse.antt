-- What the parts of a window leave together.
use Rattle.std.proofs.Common.{
  ◌≡◌,
  ◌≢◌,
  ℕ,
  zero,
  suc,
  ◌+◌,
  ◌<◌,
  ◌≤◌,
  List,
  [],
  ◌∷◌,
  ◌++◌,
  length,
  map,
  reverse,
  refl,
  ap,
  sym,
  ◌∙◌,
  subst,
  arith,
  inl,
  inr,
  ◌⊎◌,
  ⊎_elim,
  ◌↔◌,
  length-append,
  eq-eqb,
}
use Rattle.std.specs.Prelude.{nat_le, nat_lt, ◌==◌}
use Rattle.std.proofs.lemmas.Bool.{cases_eq, cases_lt}
use mathlib.Core.List.{reverse-cons}
use Rattle.std.specs.List.{Contains, All, AllPairs, filter}
use Rattle.des_event.specs.declared.key.Key.{Key}
use Rattle.des_event.specs.Keys.{IsBefore}
use Rattle.des_event.specs.KeyOrder.{InKeyOrder}
use Rattle.des_event.specs.declared.event.Event.{Event}
use Rattle.des_model.specs.Machine.{Machine}
use Rattle.des_model.specs.Histories.{state, all_events, effect_after, pending, IsPossible, history, IsOverLimit, audit_at, open_audits, output}
use Rattle.des_model.specs.WellFormed.{IsWellFormed}
use Rattle.des_model.specs.Windows.{Division, part_of, Divides, IsPartRun, IsSealedRun, made_since, pieces_since, events_run, merged, left_by}
use Rattle.des_model.specs.Laws.{MayOpen, Commutes}
use Rattle.des_event.proofs.KeyLists.{IsIn, all_from, all_in, same_list, Contains-from_IsIn, IsIn-from_Contains}
use Rattle.des_event.proofs.Members.{
  contains_none,
  contains_left,
  contains_append,
  contains_filter,
  filter_contains,
  AllPairs_at,
  AllPairs_rest,
  AllPairs_front,
  All_at,
}
use Rattle.des_model.proofs.Distinct.{made_fresh}
use Rattle.des_model.proofs.Pending.{waits_from}
use Rattle.des_model.proofs.Runs.{legal_ascends, legal_known, possible_from_legal}
use Rattle.des_model.proofs.Parts.{possible_from_part_run, part_run_in}
use Rattle.des_model.proofs.Made.{maker, known_before}
use Rattle.des_model.proofs.Merged.{length-merged}
use Rattle.des_model.proofs.PartCourse.{AllPairs_filter}
use Rattle.des_model.proofs.Outputs.{open_more, output_more}
use Rattle.des_model.proofs.Commuting.{commutes, known_in_range, limit_found, windows_leave_histories}

in_map : {A B : Type 0} (f : A → B) (xs : List A) (z : B) → IsIn z (map f xs) → (x : A) × IsIn x xs × (z ≡ f x)
in_map f [] z c = absurd c
in_map f (x ∷ xs) z (inl e) = (x, inl refl, e)
in_map f (x ∷ xs) z (inr r) = let q = in_map f xs z r in (q.0, inr q.1, q.2)

map_in : {A B : Type 0} (f : A → B) (xs : List A) (x : A) → IsIn x xs → IsIn (f x) (map f xs)
map_in f [] x c = absurd c
map_in f (y ∷ xs) x (inl e) = inl (ap f e)
map_in f (y ∷ xs) x (inr r) = inr (map_in f xs x r)

in_push : {A : Type 0} (xs : List A) (y z : A) → IsIn z (xs ++ y ∷ []) → IsIn z xs ⊎ (z ≡ y)
in_push [] y z (inl e) = inr e
in_push [] y z (inr r) = absurd r
in_push (x ∷ xs) y z (inl e) = inl (inl e)
in_push (x ∷ xs) y z (inr r) = ⊎_elim (λ k. inl (inr k)) (λ k. inr k) (in_push xs y z r)

push_in : {A : Type 0} (xs : List A) (y z : A) → IsIn z xs ⊎ (z ≡ y) → IsIn z (xs ++ y ∷ [])
push_in [] y z c = ⊎_elim (λ k. absurd k) (λ e. inl e) c
push_in (x ∷ xs) y z (inl (inl e)) = inl e
push_in (x ∷ xs) y z (inl (inr r)) = inr (push_in xs y z (inl r))
push_in (x ∷ xs) y z (inr e) = inr (push_in xs y z (inr e))

pub in_reverse : {A : Type 0} (xs : List A) (z : A) → IsIn z (reverse xs) → IsIn z xs
in_reverse [] z c = c
in_reverse (x ∷ xs) z c = ⊎_elim (λ k. inr (in_reverse xs z k)) (λ e. inl e) (in_push (reverse xs) x z (subst (λ l. IsIn z l) (reverse-cons x xs) c))

reverse_in : {A : Type 0} (xs : List A) (z : A) → IsIn z xs → IsIn z (reverse xs)
reverse_in [] z c = c
reverse_in (x ∷ xs) z (inl e) = subst (λ l. IsIn z l) (sym (reverse-cons x xs)) (push_in (reverse xs) x z (inr e))
reverse_in (x ∷ xs) z (inr r) = subst (λ l. IsIn z l) (sym (reverse-cons x xs)) (push_in (reverse xs) x z (inl (reverse_in xs z r)))

ordered_push : {B : Type 0} (key_of : B → Key) (ys : List B) (x : B) → InKeyOrder key_of ys → ((y : B) → IsIn y ys → IsBefore (key_of y) (key_of x))
    → InKeyOrder key_of (ys ++ x ∷ [])
ordered_push key_of [] x o all = (tt, tt)
ordered_push key_of (y ∷ ys) x o all = (
  all_from (λ z. IsBefore (key_of y) (key_of z)) (ys ++ x ∷ []) (λ z c. ⊎_elim
      (λ k. all_in (λ z. IsBefore (key_of y) (key_of z)) ys o.0 z k)
      (λ e. subst (λ v. IsBefore (key_of y) (key_of v)) (sym e) (all y (inl refl))) (in_push ys x z c)),
  ordered_push key_of ys x o.1 (λ z k. all z (inr k)),
)

-- the sum of the first k of these numbers
abbrev pub sum_to : (ℕ → ℕ) → ℕ → ℕ
sum_to n zero = 0
sum_to n (suc k) = n k + sum_to n k

pub events_run_is : {Body : Type 0} (ran : ℕ → List (Event Body)) (n : ℕ → ℕ) (k : ℕ) → ((q : ℕ) → q < k → length (ran q) ≡ n q) → events_run ran k ≡ sum_to n k
events_run_is ran n zero each = refl
events_run_is ran n (suc k) each = omega (arith, each k (omega arith), events_run_is ran n k (λ q l. each q (omega arith)))

events_run_up : {Body : Type 0} (f : ℕ → List (Event Body)) (n k : ℕ) → n ≤ k → events_run f n ≤ events_run f k
events_run_up f n zero l = subst (λ z. events_run f z ≤ 0) (same n l) (omega arith)
  where
    same : (n : ℕ) → n ≤ 0 → 0 ≡ n
    same n l = omega arith
events_run_up f n (suc k) l = ⊎_elim (λ e. subst (λ z. events_run f n ≤ events_run f z) e (omega arith))
    (λ ne. let differ : n ≢ suc k = ne in omega (arith, events_run_up f n k (omega arith))) (cases_eq n (suc k))

module _ {State Body Piece : Type 0} (m : Machine State Body Piece) {Sound : ℕ → State → Type 0} {Fit : Event Body → Type 0} (w : IsWellFormed m Sound Fit)
    (d : Division) (whole : Divides d m.nodes) (count time horizon : ℕ) (o : MayOpen m (history m count) time horizon) where
  abbrev past : List (Event Body)
  past = history m count

  -- what is made in a window has no key that was there before
  pub since_fresh : (ran : List (Event Body)) → IsPossible m (ran ++ history m count) → (x y : Event Body)
      → Contains (all_events m (history m count)) x → Contains (made_since m (history m count) ran) y → x.key ≡ y.key → ⊥
  since_fresh [] p x y c k s = contains_none y k
  since_fresh (e ∷ ran) p x y c k s =
      ⊎_elim (λ z. made_fresh m w (ran ++ history m count) p.0 e (waits_from m (ran ++ history m count) e p.1).known y x z
      (known_before m (history m count) ran x c) (sym s))
      (λ z. since_fresh ran p.0 x y c z s) (contains_append (effect_after m (ran ++ history m count) e).events (made_since m (history m count) ran) y k)

  pub possible_run : (p : ℕ) (ran : List (Event Body)) → IsPartRun m d (history m count) horizon p ran → IsPossible m (ran ++ history m count)
  possible_run p ran r = possible_from_part_run m d (history m count) horizon (possible_from_legal m (history m count) o.legal) p ran r

  -- nor one of another part
  pub since_apart : (p q : ℕ) (a b : List (Event Body)) → IsPartRun m d (history m count) horizon p a → IsPartRun m d (history m count) horizon q b → p ≢ q
      → (x y : Event Body) → Contains (made_since m (history m count) a) x → Contains (made_since m (history m count) b) y → x.key ≡ y.key → ⊥
  since_apart p q a b r s ne x y c k e =
      let f = maker m (history m count) d w time horizon o a x (possible_run p a r) c in
      let g = maker m (history m count) d w time horizon o b y (possible_run q b s) k in
      let same : f.0.target ≡ g.0.target = omega (arith, (f.1).origin, (g.1).origin, ap (λ (z : Key). z.origin) e) in
      ne (sym (part_run_in m d (history m count) horizon p a r f.0 (f.1).among)
      ∙ (ap (part_of d) same ∙ part_run_in m d (history m count) horizon q b s g.0 (g.1).among))

  -- too many events, up to some part
  pub window_over : (lists : ℕ → List (Event Body)) → ((p : ℕ) → p < d.parts → IsPartRun m d (history m count) horizon p (lists p)) → (k : ℕ) → k ≤ d.parts
      → length (history m count) ≡ count → m.max_events < count + events_run lists k → IsOverLimit m
  window_over lists runs k l long many = limit_found m w d whole (history m count) time horizon o lists runs
      (omega (arith, many, long, events_run_up lists k d.parts l))

  module _ (long : length (history m count) ≡ count) (lists : ℕ → List (Event Body))
      (sealed : (p : ℕ) → p < d.parts → IsSealedRun m d (history m count) horizon p (lists p)) where
    pub window_commutes : Commutes m d (history m count) horizon lists
    window_commutes = commutes m w d whole (history m count) time horizon o lists sealed

    abbrev pub total : ℕ
    total = events_run lists d.parts

    left_is : left_by d (history m count) lists ≡ history m (count + events_run lists d.parts)
    left_is = windows_leave_histories m w d whole count time horizon o lists sealed

    pub window_history : window_commutes.taken ++ history m count ≡ history m (count + events_run lists d.parts)
    window_history = sym window_commutes.left ∙ left_is

    pub window_long : length (history m (count + events_run lists d.parts)) ≡ count + events_run lists d.parts
    window_long = omega (arith, ap length (sym left_is), length-append (merged lists d.parts) (history m count), length-merged lists d.parts, long)

    pub window_state : (i : ℕ) → i < m.nodes → state m (lists (part_of d i) ++ history m count) i ≡ state m (history m (count + events_run lists d.parts)) i
    window_state i l = window_commutes.states i l ∙ ap (λ z. state m z i) window_history

    pub window_pending : (x : Event Body) → Contains (pending m (history m (count + events_run lists d.parts))) x
        ↔ ((Contains (pending m (history m count)) x ⊎ ((p : ℕ) × (p < d.parts) × Contains (made_since m (history m count) (lists p)) x))
        × (horizon ≤ x.key.time))
    window_pending x = subst (λ z. Contains (pending m z) x ↔ ((Contains (pending m (history m count)) x
        ⊎ ((p : ℕ) × (p < d.parts) × Contains (made_since m (history m count) (lists p)) x)) × (horizon ≤ x.key.time))) window_history
        (window_commutes.mail x)

    -- the first event of the window was run
    pub window_some : 0 < events_run lists d.parts
    window_some = ⊎_elim (λ lt. lt) (λ ge. absurd (still (omega (arith, ge)))) (cases_lt 0 (events_run lists d.parts))
      where
        still : events_run lists d.parts ≡ 0 → ⊥
        still e =
            let same : count + events_run lists d.parts ≡ count = omega (arith, e) in
            let all : All (λ (x : Event Body). horizon ≤ x.key.time) (pending m (history m count)) = subst
            (λ z. All (λ (x : Event Body). horizon ≤ x.key.time) (pending m z)) (window_history ∙ ap (history m) same) window_commutes.whole in
            omega (
              arith,
              All_at (λ (x : Event Body). horizon ≤ x.key.time) (pending m (history m count)) (o.reached).0 all (o.reached).1,
              (o.reached).2,
              o.above,
            )

    taken_long : 0 < length window_commutes.taken
    taken_long = omega (arith, window_some, ap length window_history, window_long, length-append window_commutes.taken (history m count), long)

    -- what it adds to the output
    pub window_output : All (λ t. (t ≤ time) ⊎ (horizon ≤ t)) m.audit_times
        → output m (history m (count + events_run lists d.parts)) ≡ output m (history m count)
        ++ (map (audit_at m (history m count)) (filter (λ t. nat_le t time) (open_audits m (history m count)))
        ++ reverse (map (λ b. b.1) (pieces_since m (history m count) window_commutes.taken)))
    window_output clear = ap (output m) (sym window_history)
        ∙ output_more m w (history m count) time horizon o clear window_commutes.taken taken_long window_commutes.legal
        (λ x c. All_at (λ (x : Event Body). x.key.time < horizon) window_commutes.taken x window_commutes.below c)

    -- the parts' pieces, in the order of their keys, are those of the window
    module _ {B : Type 0} (f : Event Body × Piece → B) (key_of : B → Key)
        (same_key : (h : List (Event Body)) (e : Event Body) → key_of (f (e, (effect_after m h e).piece)) ≡ e.key) where
      in_pieces : (ran : List (Event Body)) (x : Event Body × Piece) → IsIn x (pieces_since m (history m count) ran) → IsIn x.0 ran × (key_of (f x) ≡ x.0.key)
      in_pieces [] x c = absurd c
      in_pieces (e ∷ ran) x (inl s) = (
        inl (ap (λ z. z.0) s),
        subst (λ (z : Event Body × Piece). key_of (f z) ≡ z.0.key) (sym s)
            (same_key (ran ++ history m count) e),
      )
      in_pieces (e ∷ ran) x (inr r) = let q = in_pieces ran x r in (inr q.0, q.1)

      ordered_pieces : (ran : List (Event Body)) → AllPairs (λ (a b : Event Body). IsBefore b.key a.key) ran
          → InKeyOrder key_of (reverse (map f (pieces_since m (history m count) ran)))
      ordered_pieces [] all = tt
      ordered_pieces (e ∷ ran) all =
          subst (λ l. InKeyOrder key_of l) (sym (reverse-cons (f (e, (effect_after m (ran ++ history m count) e).piece))
          (map f (pieces_since m (history m count) ran))))
          (ordered_push key_of (reverse (map f (pieces_since m (history m count) ran))) (f (e, (effect_after m (ran ++ history m count) e).piece))
          (ordered_pieces ran (AllPairs_rest (λ (a b : Event Body). IsBefore b.key a.key) e ran all))
          (λ y c.
          let q = in_map f (pieces_since m (history m count) ran) y (in_reverse (map f (pieces_since m (history m count) ran)) y c) in
          let k = in_pieces ran q.0 q.1 in
          let before : IsBefore (q.0).0.key e.key =
          AllPairs_at (λ (a b : Event Body). IsBefore b.key a.key) e ran all (q.0).0 (Contains-from_IsIn ran (q.0).0 k.0) in
          let key_is : key_of y ≡ (q.0).0.key = ap key_of q.2 ∙ k.1 in
          subst (λ z. IsBefore z (key_of (f (e, (effect_after m (ran ++ history m count) e).piece)))) (sym key_is)
          (subst (λ z. IsBefore (q.0).0.key z) (sym (same_key (ran ++ history m count) e)) before)))

      taken_ascends : AllPairs (λ (a b : Event Body). IsBefore b.key a.key) window_commutes.taken
      taken_ascends = AllPairs_front (λ (a b : Event Body). IsBefore b.key a.key) window_commutes.taken (history m count)
          (legal_ascends m w (window_commutes.taken ++ history m count) window_commutes.legal)

      -- the pieces of a part are in the order of their keys
      pub part_in_order : (p : ℕ) → p < d.parts → InKeyOrder key_of (reverse (map f (pieces_since m (history m count) (lists p))))
      part_in_order p l = ordered_pieces (lists p) (subst (λ z. AllPairs (λ (a b : Event Body). IsBefore b.key a.key) z) (sym (window_commutes.parts p l))
          (AllPairs_filter (λ (a b : Event Body). IsBefore b.key a.key) (λ (e : Event Body). part_of d e.target == p) window_commutes.taken taken_ascends))

      -- those of all parts, put in order
      pub blocks_merge : (bs : List B) → InKeyOrder key_of bs
          → ((y : B) → Contains bs y ↔ ((p : ℕ) × (p < d.parts) × Contains (reverse (map f (pieces_since m (history m count) (lists p)))) y))
          → bs ≡ reverse (map f (pieces_since m (history m count) window_commutes.taken))
      blocks_merge bs ordered same = same_list key_of bs (reverse (map f (pieces_since m (history m count) window_commutes.taken))) ordered
          (ordered_pieces window_commutes.taken taken_ascends) there back
        where
          there : (z : B) → IsIn z bs → IsIn z (reverse (map f (pieces_since m (history m count) window_commutes.taken)))
          there z c =
              let q = (same z).0 (Contains-from_IsIn bs z c) in
              let x = in_map f (pieces_since m (history m count) (lists q.0)) z
              (in_reverse (map f (pieces_since m (history m count) (lists q.0))) z
              (IsIn-from_Contains (reverse (map f (pieces_since m (history m count) (lists q.0)))) z q.2)) in
              let among : Contains (pieces_since m (history m count) window_commutes.taken) x.0 =
              (filter_contains (λ b. part_of d b.0.target == q.0) (pieces_since m (history m count) window_commutes.taken) x.0
              (subst (λ l. Contains l x.0) (window_commutes.pieces q.0 q.1) (Contains-from_IsIn (pieces_since m (history m count) (lists q.0)) x.0 x.1))).0 in
              subst (λ v. IsIn v (reverse (map f (pieces_since m (history m count) window_commutes.taken)))) (sym x.2)
              (reverse_in (map f (pieces_since m (history m count) window_commutes.taken)) (f x.0)
              (map_in f (pieces_since m (history m count) window_commutes.taken) x.0
              (IsIn-from_Contains (pieces_since m (history m count) window_commutes.taken) x.0 among)))

          back : (z : B) → IsIn z (reverse (map f (pieces_since m (history m count) window_commutes.taken))) → IsIn z bs
          back z c =
              let x = in_map f (pieces_since m (history m count) window_commutes.taken) z
              (in_reverse (map f (pieces_since m (history m count) window_commutes.taken)) z c) in
              let event : IsIn (x.0).0 window_commutes.taken = (in_pieces window_commutes.taken x.0 x.1).0 in
              let inside : part_of d (x.0).0.target < d.parts =
              known_in_range m w d whole (window_commutes.taken ++ history m count)
              (possible_from_legal m (window_commutes.taken ++ history m count) window_commutes.legal) (x.0).0
              (legal_known m (window_commutes.taken ++ history m count) window_commutes.legal (x.0).0
              (contains_left window_commutes.taken (history m count) (x.0).0 (Contains-from_IsIn window_commutes.taken (x.0).0 event))) in
              let among : Contains (pieces_since m (history m count) (lists (part_of d (x.0).0.target))) x.0 =
              subst (λ l. Contains l x.0) (sym (window_commutes.pieces (part_of d (x.0).0.target) inside))
              (contains_filter (λ b. part_of d b.0.target == part_of d (x.0).0.target) (pieces_since m (history m count) window_commutes.taken) x.0
              (Contains-from_IsIn (pieces_since m (history m count) window_commutes.taken) x.0 x.1)
              (eq-eqb (part_of d (x.0).0.target) (part_of d (x.0).0.target) refl)) in
              IsIn-from_Contains bs z ((same z).1 (
                part_of d (x.0).0.target,
                inside,
                Contains-from_IsIn (reverse (map f (pieces_since m (history m count) (lists (part_of d (x.0).0.target))))) z
                    (subst (λ v. IsIn v (reverse (map f (pieces_since m (history m count) (lists (part_of d (x.0).0.target)))))) (sym x.2)
                    (reverse_in (map f (pieces_since m (history m count) (lists (part_of d (x.0).0.target)))) (f x.0)
                    (map_in f (pieces_since m (history m count) (lists (part_of d (x.0).0.target))) x.0
                    (IsIn-from_Contains (pieces_since m (history m count) (lists (part_of d (x.0).0.target))) x.0 among)))),
              ))

    -- the audits that are open after it
    pub window_open : All (λ t. (t ≤ time) ⊎ (horizon ≤ t)) m.audit_times
        → open_audits m (history m (count + events_run lists d.parts)) ≡ filter (λ t. nat_lt time t) (open_audits m (history m count))
    window_open clear = ap (open_audits m) (sym window_history)
        ∙ open_more m w (history m count) time horizon o clear window_commutes.taken taken_long window_commutes.legal
        (λ x c. All_at (λ (x : Event Body). x.key.time < horizon) window_commutes.taken x window_commutes.below c)
