-- The least time of the events of two lists.
use Rattle.std.proofs.Common.{◌≡◌, ◌↔◌, ◌⊎◌, ⊎_elim, inl, inr, ℕ, ◌<◌, ◌≤◌, Bool, true, false, cond, nat_lt, List, [], ◌∷◌, ◌++◌, Option, None, Some, refl, ap, sym, subst, ◌∙◌, arith, ltb-true}
use Rattle.std.proofs.lemmas.Bool.{ltb-false}
use Rattle.std.specs.List.{Contains}
use Rattle.std.specs.Prelude.{option_map, slice_get}
use Rattle.des_event.specs.declared.event.Event.{Event}
use Rattle.des_event.specs.KeyOrder.{InKeyOrder}
use Rattle.des_event.proofs.Members.{contains_append, contains_cons, contains_here, contains_left, contains_none, contains_right}
use Rattle.des_queue.specs.EventKey.{event_key}
use Rattle.des_window.specs.Openings.{sooner}
use Rattle.des_window.proofs.EventLists.{head_first}
use Rattle.des_team.specs.Owned.{LeastTimeIs}
use Rattle.des_team.specs.Running.{is_due}
use Rattle.des_team.proofs.PartLists.{none_contained}

pub least_of_none : {Body : Type 0} → LeastTimeIs {Body = Body} [] None
least_of_none = refl

module _ {Body : Type 0} where
  pub least_of_one : (e : Event Body) → LeastTimeIs (e ∷ []) (Some e.key.time)
  least_of_one e = (
    λ x c. ⊎_elim (λ s. omega (arith, ap (λ (z : Event Body). z.key.time) s)) (λ k. absurd (contains_none x k)) (contains_cons x e [] c),
    (e, contains_here e [], refl),
  )

  -- the earlier of two least times is that of both lists
  pub least_of_both : (xs ys all : List (Event Body)) (a b : Option ℕ) → LeastTimeIs xs a → LeastTimeIs ys b
      → ((x : Event Body) → Contains all x ↔ (Contains xs x ⊎ Contains ys x)) → LeastTimeIs all (sooner a b)
  least_of_both xs ys all None None a b same = none_contained all
      (λ x c. ⊎_elim (λ k. contains_none x (subst (λ es. Contains es x) a k)) (λ k. contains_none x (subst (λ es. Contains es x) b k)) ((same x).0 c))
  least_of_both xs ys all (Some s) None a b same = (
    λ x c. ⊎_elim (λ k. a.0 x k) (λ k. absurd (contains_none x (subst (λ es. Contains es x) b k))) ((same x).0 c),
    (a.1.0, (same a.1.0).1 (inl a.1.1), a.1.2),
  )
  least_of_both xs ys all None (Some t) a b same = (
    λ x c. ⊎_elim (λ k. absurd (contains_none x (subst (λ es. Contains es x) a k))) (λ k. b.0 x k) ((same x).0 c),
    (b.1.0, (same b.1.0).1 (inr b.1.1), b.1.2),
  )
  least_of_both xs ys all (Some s) (Some t) a b same = go (nat_lt t s) refl
    where
      go : (c : Bool) → nat_lt t s ≡ c → LeastTimeIs all (cond c (Some t) (Some s))
      go true e = let lt : t < s = ltb-true t s e in (
        λ x c. ⊎_elim (λ k. omega (arith, lt, a.0 x k)) (λ k. b.0 x k) ((same x).0 c),
        (b.1.0, (same b.1.0).1 (inr b.1.1), b.1.2),
      )
      go false e = let ge : s ≤ t = ltb-false t s e in (
        λ x c. ⊎_elim (λ k. a.0 x k) (λ k. omega (arith, ge, b.0 x k)) ((same x).0 c),
        (a.1.0, (same a.1.0).1 (inl a.1.1), a.1.2),
      )

  pub least_of_more : (es : List (Event Body)) (e : Event Body) (least : Option ℕ) → LeastTimeIs es least
      → LeastTimeIs (es ++ e ∷ []) (sooner least (Some e.key.time))
  least_of_more es e least is = least_of_both es (e ∷ []) (es ++ e ∷ []) least (Some e.key.time) is (least_of_one e)
      (λ x. (contains_append es (e ∷ []) x, ⊎_elim (contains_left es (e ∷ []) x) (contains_right es (e ∷ []) x)))

  pub least_of_joined : (xs ys : List (Event Body)) (a b : Option ℕ) → LeastTimeIs xs a → LeastTimeIs ys b → LeastTimeIs (ys ++ xs) (sooner a b)
  least_of_joined xs ys a b is at = least_of_both xs ys (ys ++ xs) a b is at (λ x. (
    λ c. ⊎_elim (λ k. inr k) (λ k. inl k) (contains_append ys xs x c),
    ⊎_elim (contains_right ys xs x) (contains_left ys xs x),
  ))

  -- of events in the order of their keys the first has the least time
  pub least_of_ordered : (es : List (Event Body)) → InKeyOrder event_key es → LeastTimeIs es (option_map (λ (e : Event Body). e.key.time) (slice_get es 0))
  least_of_ordered [] ordered = refl
  least_of_ordered (e ∷ es) ordered = (
    λ x c. let first = head_first e es ordered x c in omega (arith, first),
    (e, contains_here e es, refl),
  )

  -- what the test of a first time says
  pub as_tested : (es : List (Event Body)) (horizon : ℕ) {first : Option ℕ} {answer due : Bool}
      → first ≡ option_map (λ (e : Event Body). e.key.time) (slice_get es 0) → answer ≡ is_due first horizon → answer ≡ due
      → is_due (option_map (λ (e : Event Body). e.key.time) (slice_get es 0)) horizon ≡ due
  as_tested es horizon first_is says is = ap (λ t. is_due t horizon) (sym first_is) ∙ sym says ∙ is

  -- if the first of them is not due none is
  pub none_due : (es : List (Event Body)) → InKeyOrder event_key es → (horizon : ℕ)
      → is_due (option_map (λ (e : Event Body). e.key.time) (slice_get es 0)) horizon ≡ false → (x : Event Body) → Contains es x → horizon ≤ x.key.time
  none_due [] ordered horizon no_one x c = absurd (contains_none x c)
  none_due (e ∷ es) ordered horizon no_one x c =
      let first = head_first e es ordered x c in
      let late : horizon ≤ e.key.time = ltb-false e.key.time horizon no_one in
      omega (arith, first, late)

  -- the first of them is due
  pub record HasDue (es : List (Event Body)) (horizon : ℕ) : Type 0 where
    pub event : Event Body
    pub rest : List (Event Body)
    pub is : es ≡ event ∷ rest
    pub early : event.key.time < horizon

  pub first_due : (es : List (Event Body)) (horizon : ℕ) → is_due (option_map (λ (e : Event Body). e.key.time) (slice_get es 0)) horizon ≡ true
      → HasDue es horizon
  first_due [] horizon due = absurd cc
  first_due (e ∷ es) horizon due = record { event = e; rest = es; is = refl; early = ltb-true e.key.time horizon due }

  pub due_is_early : (es : List (Event Body)) (e : Event Body) (rest : List (Event Body)) (horizon : ℕ) → es ≡ e ∷ rest
      → is_due (option_map (λ (e : Event Body). e.key.time) (slice_get es 0)) horizon ≡ true → e.key.time < horizon
  due_is_early es e rest horizon is due = ltb-true e.key.time horizon
      (subst (λ es. is_due (option_map (λ (e : Event Body). e.key.time) (slice_get es 0)) horizon ≡ true) is due)
