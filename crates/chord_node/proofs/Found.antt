-- Bootstrap nodes are nodes.
use Rattle.std.proofs.Common.{ℕ, ◌<◌, ◌==◌, Bool, true, false, cond, List, [], ◌∷◌, find, not, Option, Some, None}
use Rattle.std.specs.Prelude.{IfSome, ◌&&◌, nat_lt}
use Rattle.std.specs.Option.{option_or}
use Rattle.std.specs.List.{All}
use Rattle.std.proofs.lemmas.List.Elements.{All-head, All-tail}
use Rattle.chord_scenario.specs.declared.scenario.Scenario.{Scenario}
use Rattle.chord_scenario.specs.Range.{IsInRange}
use Rattle.chord_scenario.specs.World.{node_count}
use Rattle.chord_node.specs.Bootstraps.{first_bootstrap, later_bootstrap, next_bootstrap}

-- what is found in a list has what all its elements have
pub find-has : (P : ℕ → Type 0) (p : ℕ → Bool) (xs : List ℕ) → All P xs → IfSome (find p xs) P
find-has P p [] all = tt
find-has P p (x ∷ xs) all = go (p x) (find-has P p xs (All-tail P x xs all))
  where
    go : (b : Bool) → IfSome (find p xs) P → IfSome (cond b (Some x) (find p xs)) P
    go true rest = All-head P x xs all
    go false rest = rest

pub first_known : (sc : Scenario) (n : ℕ) → IsInRange sc → IfSome (first_bootstrap sc n) (λ node. node < node_count sc)
first_known sc n ranges = find-has (λ node. node < node_count sc) (λ x. not (x == n)) sc.bootstraps ranges.nodes.bootstraps

-- whether a node other than node n follows another one in the order of the file
abbrev pub is_later : (n before x : ℕ) → Bool
is_later n before x = nat_lt before x && not (x == n)

pub later_known : (sc : Scenario) (n before : ℕ) → IsInRange sc → IfSome (later_bootstrap sc n before) (λ node. node < node_count sc)
later_known sc n before ranges =
    find-has (λ node. node < node_count sc) (λ x. is_later n before x) sc.bootstraps ranges.nodes.bootstraps

pub or-has : (P : ℕ → Type 0) (one other : Option ℕ) → IfSome one P → IfSome other P → IfSome (option_or one other) P
or-has P None other h rest = rest
or-has P (Some x) other h rest = h

pub next_has : (sc : Scenario) (P : ℕ → Type 0) (n before : ℕ) → All P sc.bootstraps → IfSome (next_bootstrap sc n before) P
unfolding next_bootstrap
next_has sc P n before all =
    or-has P (later_bootstrap sc n before) (first_bootstrap sc n)
    (find-has P (λ x. is_later n before x) sc.bootstraps all)
    (find-has P (λ x. not (x == n)) sc.bootstraps all)
