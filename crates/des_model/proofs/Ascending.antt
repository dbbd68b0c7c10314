-- Lists in the order of keys are determined by what they contain.
use Rattle.std.proofs.Common.{◌≡◌, ◌≢◌, ℕ, suc, ◌<◌, List, [], ◌∷◌, ◌++◌, reverse, refl, ap, sym, ◌∙◌, subst, arith, ⊎_elim, ◌↔◌}
use mathlib.Core.List.{reverse-cons}
use Rattle.std.specs.Prelude.{◌==◌}
use Rattle.std.specs.List.{Contains, All, AllPairs}
use Rattle.std.proofs.Common.{eq-eqb}
use Rattle.des_event.specs.declared.key.Key.{Key}
use Rattle.des_event.specs.Keys.{IsBefore}
use Rattle.des_event.specs.declared.event.Event.{Event}
use Rattle.des_model.specs.Machine.{Machine}
use Rattle.des_model.specs.Histories.{state, effect_after}
use Rattle.des_model.specs.WellFormed.{IsWellFormed}
use Rattle.des_model.specs.Windows.{Division, part_of, pieces_since}
use Rattle.des_model.specs.Laws.{Commutes}
use Rattle.des_event.proofs.Members.{
  contains_none,
  contains_here,
  contains_there,
  contains_cons,
  contains_left,
  contains_right,
  contains_append,
  contains_filter,
  filter_contains,
  All_at,
  AllPairs_none,
  AllPairs_cons,
  AllPairs_at,
  AllPairs_rest,
  AllPairs_append,
  AllPairs_front,
}
use Rattle.des_model.proofs.Distinct.{state_other}
use Rattle.des_model.proofs.Runs.{legal_ascends}

before_both : (a b : Key) → IsBefore a b → IsBefore b a → ⊥
before_both a b p q =
    let t : a.time ≡ b.time = omega arith in
    let o : a.origin ≡ b.origin = omega (arith, p.origin t, q.origin (sym t)) in
    omega (arith, p.number t o, q.number (sym t) (sym o))

module _ {A : Type 0} (key : A → Key) where
  Ascends : List A → Type 0
  Ascends xs = AllPairs (λ (a b : A). IsBefore (key a) (key b)) xs

  same_head : (x y : A) (xs ys : List A) → AllPairs (λ (a b : A). IsBefore (key a) (key b)) (x ∷ xs) → AllPairs (λ (a b : A). IsBefore (key a) (key b)) (y ∷ ys)
      → Contains (x ∷ xs) y → Contains (y ∷ ys) x → x ≡ y
  same_head x y xs ys up vp c d =
      ⊎_elim (λ e. e) (λ later. ⊎_elim (λ e. sym e) (λ after. absurd (before_both (key x) (key y)
      (AllPairs_at (λ (a b : A). IsBefore (key a) (key b)) x xs up y later) (AllPairs_at (λ (a b : A). IsBefore (key a) (key b)) y ys vp x after)))
      (contains_cons x y ys d)) (contains_cons y x xs c)

  -- what comes after the head is no head
  in_tail : (x : A) (xs ys : List A) → AllPairs (λ (a b : A). IsBefore (key a) (key b)) (x ∷ xs) → (z : A) → Contains xs z → Contains (x ∷ ys) z → Contains ys z
  in_tail x xs ys up z c d =
      ⊎_elim (λ e. absurd (let b : IsBefore (key x) (key z) = AllPairs_at (λ (a b : A). IsBefore (key a) (key b)) x xs up z c
      in before_both (key z) (key z) (subst (λ q. IsBefore (key q) (key z)) e b) (subst (λ q. IsBefore (key q) (key z)) e b)))
      (λ r. r) (contains_cons z x ys d)

  pub ascending_same : (xs ys : List A) → AllPairs (λ (a b : A). IsBefore (key a) (key b)) xs → AllPairs (λ (a b : A). IsBefore (key a) (key b)) ys
      → ((x : A) → Contains xs x → Contains ys x) → ((x : A) → Contains ys x → Contains xs x) → xs ≡ ys
  ascending_same [] [] up vp to from = refl
  ascending_same [] (y ∷ ys) up vp to from = absurd (contains_none y (from y (contains_here y ys)))
  ascending_same (x ∷ xs) [] up vp to from = absurd (contains_none x (to x (contains_here x xs)))
  ascending_same (x ∷ xs) (y ∷ ys) up vp to from =
      let head : x ≡ y = same_head x y xs ys up vp (from y (contains_here y ys)) (to x (contains_here x xs)) in
      let rest : xs ≡ ys = ascending_same xs ys (AllPairs_rest (λ (a b : A). IsBefore (key a) (key b)) x xs up)
      (AllPairs_rest (λ (a b : A). IsBefore (key a) (key b)) y ys vp)
      (λ z c. in_tail x xs ys up z c (subst (λ q. Contains (q ∷ ys) z) (sym head) (to z (contains_there z x xs c))))
      (λ z c. in_tail y ys xs vp z c (subst (λ q. Contains (q ∷ xs) z) head (from z (contains_there z y ys c)))) in
      cc (head, rest)

pub reverse_contains : {A : Type 0} (xs : List A) (x : A) → Contains (reverse xs) x → Contains xs x
reverse_contains [] x c = c
reverse_contains (y ∷ xs) x c =
    ⊎_elim (λ k. contains_there x y xs (reverse_contains xs x k)) (λ k. ⊎_elim (λ e. subst (λ z. Contains (y ∷ xs) z) e (contains_here y xs))
    (λ r. absurd (contains_none x r)) (contains_cons x y [] k))
    (contains_append (reverse xs) (y ∷ []) x (subst (λ z. Contains z x) (reverse-cons y xs) c))

pub contains_reverse : {A : Type 0} (xs : List A) (x : A) → Contains xs x → Contains (reverse xs) x
contains_reverse [] x c = c
contains_reverse (y ∷ xs) x c =
    subst (λ z. Contains z x) (sym (reverse-cons y xs))
    (⊎_elim (λ e. contains_right (reverse xs) (y ∷ []) x (subst (λ z. Contains (y ∷ []) z) e (contains_here y [])))
    (λ k. contains_left (reverse xs) (y ∷ []) x (contains_reverse xs x k)) (contains_cons x y xs c))

pub AllPairs_reverse : {A : Type 0} (R : A → A → Type 0) (xs : List A) → AllPairs (λ a b. R b a) xs → AllPairs R (reverse xs)
AllPairs_reverse R [] all = AllPairs_none R
AllPairs_reverse R (y ∷ xs) all =
    subst (λ z. AllPairs R z) (sym (reverse-cons y xs))
    (AllPairs_append R (reverse xs) (y ∷ []) (AllPairs_reverse R xs (AllPairs_rest (λ a b. R b a) y xs all))
    (AllPairs_cons R y [] (λ z c. absurd (contains_none z c)) (AllPairs_none R))
    (λ a b c k. ⊎_elim (λ e. subst (λ z. R a z) e (AllPairs_at (λ a b. R b a) y xs all a (reverse_contains xs a c))) (λ r. absurd (contains_none b r))
    (contains_cons b y [] k)))

module _ {State Body Piece : Type 0} (m : Machine State Body Piece) where
  pub state_kept : (h ran : List (Event Body)) (n : ℕ) → All (λ (e : Event Body). e.target ≢ n) ran → state m (ran ++ h) n ≡ state m h n
  state_kept h [] n all = refl
  state_kept h (e ∷ ran) n all =
      state_other m e (ran ++ h) n (All_at (λ (e : Event Body). e.target ≢ n) (e ∷ ran) e all (contains_here e ran))
      ∙ state_kept h ran n (λ k d l. all (suc k) d (omega arith))

  -- the events of the pieces are the list
  pieces_event : (h ran : List (Event Body)) (x : Event Body × Piece) → Contains (pieces_since m h ran) x → Contains ran x.0
  pieces_event h [] x c = absurd (contains_none x c)
  pieces_event h (e ∷ ran) x c =
      ⊎_elim (λ s. subst (λ z. Contains (e ∷ ran) z) (ap (λ (z : Event Body × Piece). z.0) s) (contains_here e ran))
      (λ r. contains_there x.0 e ran (pieces_event h ran x r))
      (contains_cons x (e, (effect_after m (ran ++ h) e).piece) (pieces_since m h ran) c)

  pieces_descend : (h ran : List (Event Body)) → AllPairs (λ (a b : Event Body). IsBefore b.key a.key) ran
      → AllPairs (λ (a b : Event Body × Piece). IsBefore b.0.key a.0.key) (pieces_since m h ran)
  pieces_descend h [] all = AllPairs_none (λ (a b : Event Body × Piece). IsBefore b.0.key a.0.key)
  pieces_descend h (e ∷ ran) all =
      AllPairs_cons (λ (a b : Event Body × Piece). IsBefore b.0.key a.0.key) (e, (effect_after m (ran ++ h) e).piece) (pieces_since m h ran)
      (λ x c. AllPairs_at (λ (a b : Event Body). IsBefore b.key a.key) e ran all x.0 (pieces_event h ran x c))
      (pieces_descend h ran (AllPairs_rest (λ (a b : Event Body). IsBefore b.key a.key) e ran all))

  pub pieces_merge : {Sound : ℕ → State → Type 0} {Fit : Event Body → Type 0} (w : IsWellFormed m Sound Fit) (d : Division) (h : List (Event Body))
      (horizon : ℕ)
      (ran : ℕ → List (Event Body)) (c : Commutes m d h horizon ran) → ((x : Event Body) → Contains c.taken x → part_of d x.target < d.parts)
      → (pieces : List (Event Body × Piece)) → AllPairs (λ (a b : Event Body × Piece). IsBefore a.0.key b.0.key) pieces
      → ((x : Event Body × Piece) → Contains pieces x ↔ ((p : ℕ) × (p < d.parts) × Contains (pieces_since m h (ran p)) x))
      → pieces ≡ reverse (pieces_since m h c.taken)
  pieces_merge w d h horizon ran c in_parts pieces up all =
      ascending_same (λ (x : Event Body × Piece). x.0.key) pieces (reverse (pieces_since m h c.taken)) up
      (AllPairs_reverse (λ (a b : Event Body × Piece). IsBefore a.0.key b.0.key) (pieces_since m h c.taken)
      (pieces_descend h c.taken (AllPairs_front (λ (a b : Event Body). IsBefore b.key a.key) c.taken h (legal_ascends m w (c.taken ++ h) c.legal))))
      (λ x k. let r = (all x).0 k in contains_reverse (pieces_since m h c.taken) x
      (filter_contains (λ (b : Event Body × Piece). part_of d b.0.target == r.0) (pieces_since m h c.taken) x
      (subst (λ z. Contains z x) (c.pieces r.0 r.1) r.2)).0)
      (λ x k.
      let q : Contains (pieces_since m h c.taken) x = reverse_contains (pieces_since m h c.taken) x k in
      let l : part_of d x.0.target < d.parts = in_parts x.0 (pieces_event h c.taken x q) in
      (all x).1 (
        part_of d x.0.target,
        l,
        subst (λ z. Contains z x) (sym (c.pieces (part_of d x.0.target) l))
            (contains_filter (λ (b : Event Body × Piece). part_of d b.0.target == part_of d x.0.target) (pieces_since m h c.taken) x q
            (eq-eqb (part_of d x.0.target) (part_of d x.0.target) refl)),
      ))
