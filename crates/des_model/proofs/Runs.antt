-- Legal histories: the one run, its order and its trace.
use Rattle.std.proofs.Common.{
  ◌≡◌,
  ℕ,
  zero,
  suc,
  ◌<◌,
  ◌≤◌,
  Option,
  None,
  Some,
  List,
  [],
  ◌∷◌,
  ◌++◌,
  length,
  map,
  refl,
  ap,
  sym,
  ◌∙◌,
  subst,
  arith,
  inl,
  inr,
  ◌⊎◌,
  ⊎_elim,
  lt-ltb,
  ltb-true,
  append_assoc,
}
use Rattle.std.proofs.lemmas.Bool.{cases_lt}
use Rattle.std.proofs.lemmas.List.{append-nil}
use Rattle.std.specs.Prelude.{nat_lt, nat_le, is_none, if◌then◌else◌}
use Rattle.std.specs.List.{Contains, AllPairs, cons_option, filter}
use mathlib.Core.List.{IsPrefix}
use Rattle.des_event.specs.Keys.{IsBefore}
use Rattle.des_event.specs.declared.event.Event.{Event}
use Rattle.des_model.specs.Machine.{Machine}
use Rattle.des_model.specs.Histories.{
  all_events,
  pending,
  effect_after,
  below,
  next,
  IsPossible,
  IsNext,
  IsLegal,
  history,
  output,
  trace,
  open_audits,
  audit_at,
}
use Rattle.des_model.specs.WellFormed.{IsWellFormed}
use Rattle.des_event.proofs.Members.{contains_here, contains_cons, contains_filter, filter_contains, contains_right, AllPairs_none, AllPairs_cons}
use Rattle.des_event.proofs.Order.{before_trans, before_from_at_most}
use Rattle.des_model.proofs.Least.{least_none, IsLeast, least-None, least-Some, least_is}
use Rattle.des_model.proofs.Pending.{Waits, waits_from, pending_from, waits_before}
use Rattle.des_model.proofs.Distinct.{one_event, made_later}

module _ {State Body Piece : Type 0} (m : Machine State Body Piece) where
  -- the event that `next` finds is the next one
  pub next-Some : (h : List (Event Body)) (e : Event Body) → next m h ≡ Some e → IsNext m h e
  next-Some h e s =
      let l : IsLeast (below m.duration (pending m h)) e = least-Some (below m.duration (pending m h)) e s in
      let f = filter_contains (λ (x : Event Body). nat_lt x.key.time m.duration) (pending m h) e l.among in
      let early : e.key.time < m.duration = ltb-true e.key.time m.duration f.1 in
      record {
        waits = f.0;
        in_time = early;
        first = λ x c. ⊎_elim (λ lt. l.first x (contains_filter (λ (x : Event Body). nat_lt x.key.time m.duration) (pending m h) x c
            (lt-ltb x.key.time m.duration lt)))
            (λ (ge : m.duration ≤ x.key.time). omega arith) (cases_lt x.key.time m.duration);
      }

  pub next-None : (h : List (Event Body)) → next m h ≡ None → (x : Event Body) → Contains (pending m h) x → m.duration ≤ x.key.time
  next-None h s x c =
      ⊎_elim (λ lt. absurd (least-None (below m.duration (pending m h)) s x
      (contains_filter (λ (x : Event Body). nat_lt x.key.time m.duration) (pending m h) x c (lt-ltb x.key.time m.duration lt))))
      (λ ge. ge) (cases_lt x.key.time m.duration)

  pub none_from_late : (h : List (Event Body)) → ((x : Event Body) → Contains (pending m h) x → m.duration ≤ x.key.time) → next m h ≡ None
  none_from_late h late = least_none (below m.duration (pending m h))
      (λ x c.
      let f = filter_contains (λ (x : Event Body). nat_lt x.key.time m.duration) (pending m h) x c in
      omega (arith, late x f.0, ltb-true x.key.time m.duration f.1))

  -- if no event may follow, none is pending below the duration
  pub none_next : (h : List (Event Body)) → ((e : Event Body) → IsNext m h e → ⊥) → (x : Event Body) → Contains (pending m h) x → m.duration ≤ x.key.time
  none_next h stuck x c = go (next m h) refl
    where
      go : (o : Option (Event Body)) → next m h ≡ o → m.duration ≤ x.key.time
      go None s = next-None h s x c
      go (Some e) s = absurd (stuck e (next-Some h e s))

  -- what a legal history began with is legal
  pub legal_rest : (h g : List (Event Body)) → IsLegal m (g ++ h) → IsLegal m h
  legal_rest h [] l = l
  legal_rest h (e ∷ g) l = legal_rest h g l.0

  pub history_is_legal : (k : ℕ) → IsLegal m (history m k)
  history_is_legal zero = tt
  history_is_legal (suc k) = go (next m (history m k)) refl (history_is_legal k)
    where
      go : (o : Option (Event Body)) → next m (history m k) ≡ o → IsLegal m (history m k) → IsLegal m (cons_option o (history m k))
      go None s l = l
      go (Some e) s l = (l, next-Some (history m k) e s)

  pub history_is_whole : (k : ℕ) → (length (history m k) ≡ k) ⊎ ((e : Event Body) → IsNext m (history m k) e → ⊥)
  history_is_whole zero = inl refl
  history_is_whole (suc k) = go (next m (history m k)) refl (history_is_whole k)
    where
      Whole : List (Event Body) → ℕ → Type 0
      Whole h n = (length h ≡ n) ⊎ ((e : Event Body) → IsNext m h e → ⊥)

      go : (o : Option (Event Body)) → next m (history m k) ≡ o → (length (history m k) ≡ k) ⊎ ((e : Event Body) → IsNext m (history m k) e → ⊥)
          → (length (cons_option o (history m k)) ≡ suc k) ⊎ ((e : Event Body) → IsNext m (cons_option o (history m k)) e → ⊥)
      go None s w = inr (λ e n. omega (arith, next-None (history m k) s e n.waits, n.in_time))
      go (Some e) s (inl l) = inl (ap suc l)
      go (Some e) s (inr stuck) = absurd (stuck e (next-Some (history m k) e s))

  pub possible_from_legal : (h : List (Event Body)) → IsLegal m h → IsPossible m h
  possible_from_legal [] l = tt
  possible_from_legal (e ∷ h) l = (possible_from_legal h l.0, (l.1).waits)

  -- what a legal history took was made
  pub legal_known : (h : List (Event Body)) → IsLegal m h → (x : Event Body) → Contains h x → Contains (all_events m h) x
  legal_known [] l x c = absurd (omega (arith, c.1))
  legal_known (e ∷ h) l x c =
      contains_right (effect_after m h e).events (all_events m h) x
      (⊎_elim (λ s. subst (λ z. Contains (all_events m h) z) s (waits_from m h e (l.1).waits).known) (λ r. legal_known h l.0 x r) (contains_cons x e h c))

  module _ {Sound : ℕ → State → Type 0} {Fit : Event Body → Type 0} (w : IsWellFormed m Sound Fit) where
    pub next_is : (h : List (Event Body)) (e : Event Body) → IsPossible m h → IsNext m h e → next m h ≡ Some e
    next_is h e p n = least_is (below m.duration (pending m h)) e
        (λ x y c d s. one_event m w h p x y (waits_from m h x (filter_contains (λ (x : Event Body). nat_lt x.key.time m.duration) (pending m h) x
        c).0).known (waits_from m h y (filter_contains (λ (x : Event Body). nat_lt x.key.time m.duration) (pending m h) y d).0).known s)
        (record {
          among = contains_filter (λ (x : Event Body). nat_lt x.key.time m.duration) (pending m h) e n.waits (lt-ltb e.key.time m.duration n.in_time);
          first = λ x c. n.first x (filter_contains (λ (x : Event Body). nat_lt x.key.time m.duration) (pending m h) x c).0;
        })

    pub legal_is_history : (h : List (Event Body)) → IsLegal m h → h ≡ history m (length h)
    legal_is_history [] l = refl
    legal_is_history (e ∷ h) l =
        let before : h ≡ history m (length h) = legal_is_history h l.0 in
        let one : next m h ≡ Some e = next_is h e (possible_from_legal h l.0) l.1 in
        subst (λ z. e ∷ h ≡ cons_option (next m z) z) before (ap (λ o. cons_option o h) (sym one))

    -- what a legal history took comes before what is pending after it
    pub taken_before : (h : List (Event Body)) → IsLegal m h → (x y : Event Body) → Contains h x → Waits m h y → IsBefore x.key y.key
    taken_before [] l x y c v = absurd (omega (arith, c.1))
    taken_before (e ∷ h) l x y c v = go (contains_cons x e h c) (λ r. taken_before h l.0 x e r (waits_from m h e (l.1).waits))
      where
        now : IsBefore e.key y.key
        now = ⊎_elim (λ made. let later : e.key.time < y.key.time = made_later m w h (possible_from_legal h l.0) e
            (waits_from m h e (l.1).waits).known y made in omega arith)
            (λ old. before_from_at_most e.key y.key ((l.1).first y (pending_from m h y old)) (λ s. v.free e (contains_here e h) s)) (waits_before m e h y v)

        go : (e ≡ x) ⊎ Contains h x → (Contains h x → IsBefore x.key e.key) → IsBefore x.key y.key
        go (inl s) k = subst (λ (z : Event Body). IsBefore z.key y.key) s now
        go (inr r) k = before_trans x.key e.key y.key (k r) now

    pub legal_ascends : (h : List (Event Body)) → IsLegal m h → AllPairs (λ (a b : Event Body). IsBefore b.key a.key) h
    legal_ascends [] l = AllPairs_none (λ (a b : Event Body). IsBefore b.key a.key)
    legal_ascends (e ∷ h) l = AllPairs_cons (λ (a b : Event Body). IsBefore b.key a.key) e h
        (λ x c. taken_before h l.0 x e c (waits_from m h e (l.1).waits)) (legal_ascends h l.0)

  pub trace_grows : (k : ℕ) → IsPrefix (trace m (history m k)) (trace m (history m (suc k)))
  trace_grows k = go (next m (history m k)) refl
    where
      rest : Option (Event Body) → List Piece
      rest o = if is_none o then map (audit_at m (history m k)) (open_audits m (history m k)) else []

      go : (o : Option (Event Body)) → next m (history m k) ≡ o → IsPrefix (output m (history m k) ++ rest o) (trace m (cons_option o (history m k)))
      go None s = ([], append-nil (output m (history m k) ++ rest None) ∙ ap (λ o. output m (history m k) ++ rest o) (sym s))
      go (Some e) s =
          let h = history m k in
          let Q = map (audit_at m h) (filter (λ t. nat_le t e.key.time) (open_audits m h)) ++ (effect_after m h e).piece ∷ [] in
          let R = if is_none (next m (e ∷ h)) then map (audit_at m (e ∷ h)) (open_audits m (e ∷ h)) else [] in
          (Q ++ R, ap (λ z. z ++ (Q ++ R)) (append-nil (output m h)) ∙ sym (append_assoc (output m h) Q R))
