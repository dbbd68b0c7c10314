-- What a window adds to the output.
use Rattle.std.proofs.Common.{
  ◌≡◌,
  ℕ,
  ◌<◌,
  ◌≤◌,
  Bool,
  false,
  cond,
  List,
  [],
  ◌∷◌,
  ◌++◌,
  length,
  map,
  reverse,
  refl,
  ap,
  sym,
  ◌∙◌,
  arith,
  ◌⊎◌,
  ⊎_elim,
  append_assoc,
  ltb-true,
  lt-ltb,
  true,
}
use Rattle.std.proofs.lemmas.Bool.{cases_lt, cond-true, cond-false, le-leb, lt-leb, le-ltb, and_parts}
use mathlib.Core.List.{reverse-cons}
use Rattle.std.specs.Prelude.{nat_lt, nat_le}
use Rattle.std.specs.List.{All, Contains, filter, list_all}
use Rattle.des_event.specs.declared.event.Event.{Event}
use Rattle.des_model.specs.Machine.{Machine}
use Rattle.des_model.specs.Histories.{effect_after, audit_at, open_audits, output, IsLegal}
use Rattle.des_model.specs.WellFormed.{IsWellFormed}
use Rattle.des_model.specs.Windows.{pieces_since}
use Rattle.des_model.specs.Laws.{MayOpen}
use Rattle.des_event.proofs.Members.{contains_here, contains_there, filter_contains, All_at}
use Rattle.des_model.proofs.Audits.{open_after}
use Rattle.des_model.proofs.Pending.{waits_from}
use Rattle.des_model.proofs.Runs.{possible_from_legal}
use Rattle.des_model.proofs.Parts.{from_time}

filter_same : {A : Type 0} (p q : A → Bool) (xs : List A) → ((x : A) → Contains xs x → p x ≡ q x) → filter p xs ≡ filter q xs
filter_same p q [] h = refl
filter_same p q (x ∷ xs) h =
    ap (λ b. cond b (x ∷ filter p xs) (filter p xs)) (h x (contains_here x xs))
    ∙ ap (λ z. cond (q x) (x ∷ z) z) (filter_same p q xs (λ y c. h y (contains_there y x xs c)))

filter_nothing : {A : Type 0} (p : A → Bool) (xs : List A) → ((x : A) → Contains xs x → p x ≡ false) → filter p xs ≡ []
filter_nothing p [] h = refl
filter_nothing p (x ∷ xs) h = cond-false _ _ _ (h x (contains_here x xs)) ∙ filter_nothing p xs (λ y c. h y (contains_there y x xs c))

module _ {State Body Piece : Type 0} (m : Machine State Body Piece) {Sound : ℕ → State → Type 0} {Fit : Event Body → Type 0} (w : IsWellFormed m Sound Fit)
    (h : List (Event Body)) (time horizon : ℕ) (o : MayOpen m h time horizon) (clear : All (λ t. (t ≤ time) ⊎ (horizon ≤ t)) m.audit_times) where
  -- the audits that are due at the window's first time
  due : List Piece
  due = map (audit_at m h) (filter (λ t. nat_le t time) (open_audits m h))

  audit_time : (ran : List (Event Body)) (t : ℕ) → Contains (open_audits m ran) t → (t ≤ time) ⊎ (horizon ≤ t)
  audit_time ran t c = All_at (λ t. (t ≤ time) ⊎ (horizon ≤ t)) m.audit_times t clear
      (filter_contains (λ t. list_all (λ (e : Event Body). nat_lt e.key.time t) ran) m.audit_times t c).0

  pub output_more : (ran : List (Event Body)) → 0 < length ran → IsLegal m (ran ++ h) → ((x : Event Body) → Contains ran x → x.key.time < horizon)
      → output m (ran ++ h) ≡ output m h ++ (map (audit_at m h) (filter (λ t. nat_le t time) (open_audits m h))
      ++ reverse (map (λ b. b.1) (pieces_since m h ran)))
  output_more [] some l early = absurd (omega arith)
  output_more (e ∷ []) some l early = ap (λ z. output m h ++ (map (audit_at m h) z ++ (effect_after m h e).piece ∷ []))
      (filter_same (λ t. nat_le t e.key.time) (λ t. nat_le t time) (open_audits m h) same)
    where
      late : time ≤ e.key.time
      late = from_time m h w time horizon o [] (possible_from_legal m h l.0) e (waits_from m h e (l.1).waits)

      same : (t : ℕ) → Contains (open_audits m h) t → nat_le t e.key.time ≡ nat_le t time
      same t c = ⊎_elim (λ le. le-leb t e.key.time (omega (arith, le, late)) ∙ sym (le-leb t time le))
          (λ ge. lt-leb t e.key.time (omega (arith, ge, early e (contains_here e []))) ∙ sym (lt-leb t time (omega (arith, ge, o.above)))) (audit_time h t c)
  output_more (e ∷ (y ∷ ran)) some l early =
      ap (λ z. z ++ (map (audit_at m (y ∷ (ran ++ h))) (filter (λ t. nat_le t e.key.time) (open_audits m (y ∷ (ran ++ h))))
      ++ (effect_after m (y ∷ (ran ++ h)) e).piece ∷ []))
      (output_more (y ∷ ran) (omega arith) l.0 (λ x c. early x (contains_there x e (y ∷ ran) c)))
      ∙ (ap (λ z. (output m h ++ (map (audit_at m h) (filter (λ t. nat_le t time) (open_audits m h)) ++ reverse pieces))
      ++ (map (audit_at m (y ∷ (ran ++ h))) z ++ piece ∷ [])) none
      ∙ (append_assoc (output m h) (map (audit_at m h) (filter (λ t. nat_le t time) (open_audits m h)) ++ reverse pieces) (piece ∷ [])
      ∙ (ap (λ z. output m h ++ z) (append_assoc (map (audit_at m h) (filter (λ t. nat_le t time) (open_audits m h))) (reverse pieces) (piece ∷ []))
      ∙ ap (λ z. output m h ++ (map (audit_at m h) (filter (λ t. nat_le t time) (open_audits m h)) ++ z)) (sym (reverse-cons piece pieces)))))
    where
      piece : Piece
      piece = (effect_after m (y ∷ (ran ++ h)) e).piece

      pieces : List Piece
      pieces = map (λ b. b.1) (pieces_since m h (y ∷ ran))

      late : time ≤ y.key.time
      late = from_time m h w time horizon o ran (possible_from_legal m (ran ++ h) (l.0).0) y (waits_from m (ran ++ h) y ((l.0).1).waits)

      none : filter (λ t. nat_le t e.key.time) (open_audits m (y ∷ (ran ++ h))) ≡ []
      none = filter_nothing (λ t. nat_le t e.key.time) (open_audits m (y ∷ (ran ++ h))) (λ t c.
          let f = filter_contains (λ t. list_all (λ (e : Event Body). nat_lt e.key.time t) (y ∷ (ran ++ h))) m.audit_times t c in
          let before : y.key.time < t = ltb-true y.key.time t (and_parts (nat_lt y.key.time t)
          (list_all (λ (e : Event Body). nat_lt e.key.time t) (ran ++ h)) f.1).0 in
          ⊎_elim (λ le. absurd (omega (arith, le, late, before))) (λ ge. lt-leb t e.key.time (omega (arith, ge, early e (contains_here e (y ∷ ran)))))
          (audit_time (y ∷ (ran ++ h)) t c))

  filter_twice : {A : Type 0} (p : A → Bool) (xs : List A) → filter p (filter p xs) ≡ filter p xs
  filter_twice p [] = refl
  filter_twice p (x ∷ xs) = go (p x) refl (filter_twice p xs)
    where
      go : (b : Bool) → p x ≡ b → filter p (filter p xs) ≡ filter p xs
          → filter p (cond b (x ∷ filter p xs) (filter p xs)) ≡ cond b (x ∷ filter p xs) (filter p xs)
      go true e ih = cond-true _ _ _ e ∙ ap (λ z. x ∷ z) ih
      go false e ih = ih

  -- the audits that are open after it
  pub open_more : (ran : List (Event Body)) → 0 < length ran → IsLegal m (ran ++ h) → ((x : Event Body) → Contains ran x → x.key.time < horizon)
      → open_audits m (ran ++ h) ≡ filter (λ t. nat_lt time t) (open_audits m h)
  open_more [] some l early = absurd (omega arith)
  open_more (e ∷ ran) some l early = open_after m e (ran ++ h) ∙ ⊎_elim
      (λ more. ap (filter (λ t. nat_lt e.key.time t)) (open_more ran more l.0 (λ x c. early x (contains_there x e ran c)))
      ∙ filter_same (λ t. nat_lt e.key.time t) (λ t. nat_lt time t) (filter (λ t. nat_lt time t) (open_audits m h))
      (λ t c. same t (audit_time h t (filter_contains (λ t. nat_lt time t) (open_audits m h) t c).0))
      ∙ filter_twice (λ t. nat_lt time t) (open_audits m h))
      (λ none. ap (λ g. filter (λ t. nat_lt e.key.time t) (open_audits m (g ++ h))) (nothing ran none)
      ∙ filter_same (λ t. nat_lt e.key.time t) (λ t. nat_lt time t) (open_audits m h) (λ t c. same t (audit_time h t c)))
      (cases_lt 0 (length ran))
    where
      nothing : (xs : List (Event Body)) → length xs ≤ 0 → xs ≡ []
      nothing [] z = refl
      nothing (x ∷ xs) z = absurd (omega (arith, z))

      late : time ≤ e.key.time
      late = from_time m h w time horizon o ran (possible_from_legal m (ran ++ h) l.0) e (waits_from m (ran ++ h) e (l.1).waits)

      same : (t : ℕ) → (t ≤ time) ⊎ (horizon ≤ t) → nat_lt e.key.time t ≡ nat_lt time t
      same t c = ⊎_elim
          (λ le. le-ltb e.key.time t (omega (arith, le, late)) ∙ sym (le-ltb time t le))
          (λ ge. lt-ltb e.key.time t (omega (arith, ge, early e (contains_here e ran))) ∙ sym (lt-ltb time t (omega (arith, ge, o.above)))) c
