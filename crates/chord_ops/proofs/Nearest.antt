-- A search for the nearest of the fingers finds the nearest.
use Rattle.std.proofs.Common.{◌≡◌, ℕ, ◌≤◌, Bool, true, false, List, [], ◌∷◌, Some, None, suc, refl, subst, arith, nat_lt}
use Rattle.std.proofs.lemmas.Bool.Decides.{nat_tests}
use Rattle.std.proofs.lemmas.List.Elements.{All-cons, All-head, All-nil, All-tail}
use Rattle.std.proofs.lemmas.Option.{same_Some}
use Rattle.std.specs.List.{All, Contains, filter, fold}
use Rattle.std.specs.Prelude.{if◌then◌else◌}
use Rattle.des_event.proofs.Members.{filter_contains}
use Rattle.chord_scenario.specs.declared.scenario.Scenario.{Scenario}
use Rattle.chord_node.specs.declared.state.NodeState.{NodeState}
use Rattle.chord_ops.specs.Gone.{IsNearestFinger, is_another}
use Rattle.chord_ops.specs.Rules.{nearer}
use Rattle.chord_ops.specs.Search.{distance_to}
use Rattle.chord_ops.proofs.Farthest.{all_passing, within}

-- x is the nearest of these
record IsNearest (sc : Scenario) (s : NodeState) (xs : List ℕ) (x : ℕ) : Type 0 where
  among : Contains xs x
  nearest : All (λ y. distance_to sc s x ≤ distance_to sc s y) xs

-- the nearest of the nearer of two and the rest is the nearest of all
nearest_step : (sc : Scenario) (s : NodeState) (a x r : ℕ) (xs : List ℕ) (b : Bool) → nat_lt (distance_to sc s x) (distance_to sc s a) ≡ b
    → IsNearest sc s ((if b then x else a) ∷ xs) r → IsNearest sc s (a ∷ x ∷ xs) r
nearest_step sc s a x r xs true test h =
    let far : distance_to sc s r ≤ distance_to sc s x = All-head (λ y. distance_to sc s r ≤ distance_to sc s y) x xs h.nearest in
    let above : distance_to sc s r ≤ distance_to sc s a = grind (arith, nat_tests) in
    record {
      among = (suc h.among.0, omega (arith, h.among.1), h.among.2);
      nearest = All-cons (λ y. distance_to sc s r ≤ distance_to sc s y) a (x ∷ xs) above h.nearest;
    }
nearest_step sc s a x r xs false test h =
    let far : distance_to sc s r ≤ distance_to sc s a = All-head (λ y. distance_to sc s r ≤ distance_to sc s y) a xs h.nearest in
    let above : distance_to sc s r ≤ distance_to sc s x = grind (arith, nat_tests) in
    record {
      among = within a x xs r h.among.0 h.among.1 h.among.2;
      nearest =
          All-cons (λ y. distance_to sc s r ≤ distance_to sc s y) a (x ∷ xs) far
          (All-cons (λ y. distance_to sc s r ≤ distance_to sc s y) x xs above (All-tail (λ y. distance_to sc s r ≤ distance_to sc s y) a xs h.nearest));
    }

is_nearest : (sc : Scenario) (s : NodeState) (a r : ℕ) (xs : List ℕ) → fold (nearer sc s.me) (Some a) xs ≡ Some r → IsNearest sc s (a ∷ xs) r
is_nearest sc s a r [] is = subst (IsNearest sc s (a ∷ [])) (same_Some a r is) (record {
  among = (0, omega arith, refl);
  nearest = All-cons (λ y. distance_to sc s a ≤ distance_to sc s y) a [] (omega arith) (All-nil (λ y. distance_to sc s a ≤ distance_to sc s y));
})
is_nearest sc s a r (x ∷ xs) is = by (λ y found. is_nearest sc s y r xs found) (nat_lt (distance_to sc s x) (distance_to sc s a)) refl is
  where
    by : ((y : ℕ) → fold (nearer sc s.me) (Some y) xs ≡ Some r → IsNearest sc s (y ∷ xs) r) → (b : Bool) → nat_lt (distance_to sc s x) (distance_to sc s a) ≡ b
        → fold (nearer sc s.me) (if b then Some x else Some a) xs ≡ Some r → IsNearest sc s (a ∷ x ∷ xs) r
    by rest true test is = nearest_step sc s a x r xs true test (rest x is)
    by rest false test is = nearest_step sc s a x r xs false test (rest a is)

nearest_of : (sc : Scenario) (s : NodeState) (r : ℕ) (xs : List ℕ) → fold (nearer sc s.me) None xs ≡ Some r → IsNearest sc s xs r
nearest_of sc s r [] is = absurd (cc)
nearest_of sc s r (x ∷ xs) is = is_nearest sc s x r xs is

pub nearest_found : (sc : Scenario) (s : NodeState) (silent r : ℕ) → fold (nearer sc s.me) None (filter (is_another s silent) s.fingers) ≡ Some r
    → IsNearestFinger sc s silent r
nearest_found sc s silent r is =
    let h : IsNearest sc s (filter (is_another s silent) s.fingers) r = nearest_of sc s r (filter (is_another s silent) s.fingers) is in
    let parts = filter_contains (is_another s silent) s.fingers r h.among in
    record {
      among = parts.0;
      another = parts.1;
      nearest = all_passing (is_another s silent) (λ y. distance_to sc s r ≤ distance_to sc s y) s.fingers h.nearest;
    }
