-- What a joining node leaves out of the list that it takes over.
use Rattle.std.proofs.Common.{◌≡◌, ◌==◌, ◌≢◌, ℕ, Bool, true, false, not, cond, List, [], ◌∷◌, filter, refl, ap}
use Rattle.std.specs.List.{All, list_any}
use Rattle.std.proofs.lemmas.Bool.{ne_eqb}
use Rattle.std.proofs.lemmas.List.Elements.{All-cons, All-filter, All-nil}
use Rattle.std.proofs.lemmas.List.Folds.{list_any_none}
use Rattle.std.proofs.lemmas.Map.Views.{any-filter_same}
use Rattle.chord_scenario.specs.declared.scenario.Scenario.{Scenario}
use Rattle.chord_node.specs.Ring.{or_itself}
use Rattle.chord_ops.specs.Rules.{cleaned, others_left}
use Rattle.chord_ops.specs.Search.{is_avoided}

pub cleaned_of_silent : (sc : Scenario) (n asked : ℕ) (avoid list : List ℕ) → sc.rules.clean_lists ≡ true
    → list_any (is_avoided avoid) (cleaned sc n asked avoid list) ≡ false
unfolding cleaned
cleaned_of_silent sc n asked avoid list clean =
    rw clean (any-filter_same (is_avoided avoid) (λ x. not (is_avoided avoid x)) false (λ x avoided. ap not avoided) (or_itself asked (others_left n list)))

-- a list without a node
without : (n : ℕ) (xs : List ℕ) → All (λ x. (x == n) ≡ false) (others_left n xs)
without n [] = All-nil (λ x. (x == n) ≡ false)
without n (x ∷ xs) = go (x == n) refl (without n xs)
  where
    go : (b : Bool) → (x == n) ≡ b → All (λ y. (y == n) ≡ false) (others_left n xs)
        → All (λ y. (y == n) ≡ false) (cond (not b) (x ∷ others_left n xs) (others_left n xs))
    go true is rest = rest
    go false is rest = All-cons (λ y. (y == n) ≡ false) x (others_left n xs) is rest

or_another : (n asked : ℕ) (xs : List ℕ) → asked ≢ n → All (λ x. (x == n) ≡ false) xs → All (λ x. (x == n) ≡ false) (or_itself asked xs)
or_another n asked [] other all = All-cons (λ x. (x == n) ≡ false) asked [] (ne_eqb asked n other) all
or_another n asked (x ∷ xs) other all = all

pub cleaned_of_itself : (sc : Scenario) (n asked : ℕ) (avoid list : List ℕ) → sc.rules.clean_lists ≡ true → asked ≢ n
    → list_any (λ x. x == n) (cleaned sc n asked avoid list) ≡ false
unfolding cleaned
cleaned_of_itself sc n asked avoid list clean other =
    rw clean (list_any_none (λ x. x == n) (filter (λ x. not (is_avoided avoid x)) (or_itself asked (others_left n list)))
    (All-filter (λ x. not (is_avoided avoid x)) (λ x. (x == n) ≡ false) (or_itself asked (others_left n list))
    (or_another n asked (others_left n list) other (without n list))))
