-- Who rescues a node that has nobody left in its list.
use Rattle.std.proofs.Common.{◌≡◌, ◌==◌, ◌&&◌, ◌||◌, ℕ, Bool, true, false, not, List, [], ◌∷◌, Option, Some, None, refl, cond, inl, inr, nat_lt}
use Rattle.std.proofs.lemmas.Bool.{cases_Bool}
use Rattle.std.specs.List.{filter, fold, list_all, list_any}
use Rattle.std.specs.Prelude.{IfSome, if◌then◌else◌}
use Rattle.chord_circle.specs.Circle.{distance}
use Rattle.chord_scenario.specs.declared.scenario.Scenario.{Scenario}
use Rattle.chord_scenario.specs.World.{ident_of}
use Rattle.chord_node.specs.declared.state.NodeState.{NodeState}
use Rattle.chord_ops.specs.Gone.{is_another}
use Rattle.chord_ops.specs.Rules.{nearer, nearest_finger, others_left, rescuer}

-- the nearest of the nodes that pass a test passes it
pub nearest_passes : (sc : Scenario) (n : ℕ) (p : ℕ → Bool) (o : Option ℕ) (xs : List ℕ) → IfSome o (λ x. p x ≡ true)
    → IfSome (fold (nearer sc n) o (filter p xs)) (λ x. p x ≡ true)
nearest_passes sc n p o [] known = known
nearest_passes sc n p o (x ∷ xs) known = by (λ start is. nearest_passes sc n p start xs is) (p x) refl
  where
    closer : (o : Option ℕ) → IfSome o (λ y. p y ≡ true) → p x ≡ true → IfSome (nearer sc n o x) (λ y. p y ≡ true)
    closer None known passes = passes
    closer (Some y) known passes =
        elim (cases_Bool (nat_lt (distance sc.bits (ident_of sc n) (ident_of sc x)) (distance sc.bits (ident_of sc n) (ident_of sc y)))) [
          | inl less ↦ rw less passes
          | inr more ↦ rw more known
        ]

    by : ((start : Option ℕ) → IfSome start (λ y. p y ≡ true) → IfSome (fold (nearer sc n) start (filter p xs)) (λ y. p y ≡ true)) → (b : Bool) → p x ≡ b
        → IfSome (fold (nearer sc n) o (cond b (x ∷ filter p xs) (filter p xs))) (λ y. p y ≡ true)
    by rest true is = rest (nearer sc n o x) (closer o known is)
    by rest false is = rest o known

-- a search for the nearest finds one if there is one
finds_one : (sc : Scenario) (n x : ℕ) (xs : List ℕ) → fold (nearer sc n) (Some x) xs ≡ None → ⊥
finds_one sc n x [] none = cc
finds_one sc n x (y ∷ ys) none =
    elim (cases_Bool (nat_lt (distance sc.bits (ident_of sc n) (ident_of sc y)) (distance sc.bits (ident_of sc n) (ident_of sc x)))) [
      | inl less ↦ finds_one sc n y ys (rw less at none)
      | inr more ↦ finds_one sc n x ys (rw more at none)
    ]

pub none_left : (sc : Scenario) (n silent : ℕ) (xs : List ℕ) → fold (nearer sc n) None (filter (λ x. not (x == n) && not (x == silent)) xs) ≡ None
    → list_all (λ x. x == n || x == silent) xs ≡ true
none_left sc n silent [] none = refl
none_left sc n silent (x ∷ xs) none = by (λ empty. none_left sc n silent xs empty) (x == n) (x == silent) none
  where
    rest : List ℕ
    rest = filter (λ y. not (y == n) && not (y == silent)) xs

    by : (fold (nearer sc n) None rest ≡ None → list_all (λ y. y == n || y == silent) xs ≡ true) → (a b : Bool)
        → fold (nearer sc n) None (cond (not a && not b) (x ∷ rest) rest) ≡ None → ((a || b) && list_all (λ y. y == n || y == silent) xs) ≡ true
    by others true b none = others none
    by others false true none = others none
    by others false false none = absurd (finds_one sc n x rest none)

-- who rescues is neither the node itself nor the silent one
pub rescuer_passes : (sc : Scenario) (silent : ℕ) (s : NodeState) → IfSome (rescuer sc silent s) (λ x. is_another s silent x ≡ true)
unfolding rescuer nearest_finger
rescuer_passes sc silent s = by (list_any (λ x. not (x == s.me)) (others_left silent s.succ))
  where
    by : (b : Bool) → IfSome (if b then None else fold (nearer sc s.me) None (filter (is_another s silent) s.fingers)) (λ x. is_another s silent x ≡ true)
    by true = tt
    by false = nearest_passes sc s.me (is_another s silent) None s.fingers tt
