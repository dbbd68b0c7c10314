-- Which bootstrap node a node tries next.
use Rattle.std.proofs.Common.{◌≡◌, ◌∙◌, ◌==◌, ◌≢◌, ⊎_elim, inl, inr, ℕ, suc, ◌<◌, ◌≤◌, ◌+◌, ◌-◌, Bool, true, false, not, cond, List, [], ◌∷◌, find, Option, Some, None, refl, sym, ap, subst, arith}
use Rattle.std.specs.Prelude.{IfSome, IsSome, nat_lt}
use Rattle.std.specs.List.{AllPairs, Contains}
use Rattle.std.specs.Option.{is_some, option_or}
use Rattle.std.proofs.lemmas.Bool.{and_parts, cases_Bool, false≢true, ne_eqb}
use Rattle.std.proofs.lemmas.Bool.Decides.{nat_tests}
use Rattle.std.proofs.lemmas.List.Kept.{AllPairs-from_increasing}
use Rattle.des_event.proofs.Members.{All_at, contains_cons, contains_here, contains_none, contains_there}
use Rattle.chord_scenario.specs.declared.scenario.Scenario.{Scenario}
use Rattle.chord_scenario.specs.Range.{IsInRange}
use Rattle.chord_scenario.specs.World.{node_count}
use Rattle.chord_node.proofs.Found.{is_later}
use Rattle.chord_node.specs.Bootstraps.{IsNextBootstrap, first_bootstrap, later_bootstrap, next_bootstrap, turns_to}

-- what is found in an ascending list: it is in the list, it passes the test, and no less one does
record IsLeast (p : ℕ → Bool) (xs : List ℕ) (y : ℕ) : Type 0 where
  inside : Contains xs y
  passes : p y ≡ true
  least : (x : ℕ) → Contains xs x → p x ≡ true → y ≤ x

-- what there is to find, and that it is not there if nothing is found
abbrev Finds : (p : ℕ → Bool) → List ℕ → Option ℕ → Type 0
Finds p xs (Some y) = IsLeast p xs y
Finds p xs None = (x : ℕ) → Contains xs x → p x ≡ false

finds : (p : ℕ → Bool) (xs : List ℕ) → AllPairs (λ x y. x < y) xs → Finds p xs (find p xs)
finds p [] pairs = λ x c. absurd (contains_none x c)
finds p (x ∷ xs) pairs = go (p x) refl (find p xs) (finds p xs (λ i j d l k. pairs (suc i) (suc j) d (omega (arith, l)) (omega (arith, k))))
  where
    above : (y : ℕ) → Contains xs y → x < y
    above y c = subst (λ z. x < z) c.2 (pairs 0 (suc c.0) y (omega arith) (omega (arith, c.1)))

    go : (b : Bool) → p x ≡ b → (o : Option ℕ) → Finds p xs o → Finds p (x ∷ xs) (cond b (Some x) o)
    go true passes o rest = record {
      inside = contains_here x xs;
      passes = passes;
      least = λ y c _. ⊎_elim (λ e. omega (arith, e)) (λ r. omega (arith, above y r)) (contains_cons y x xs c);
    }
    go false fails None rest = λ y c. ⊎_elim (λ e. subst (λ z. p z ≡ false) e fails) (λ r. rest y r) (contains_cons y x xs c)
    go false fails (Some y) rest = record {
      inside = contains_there y x xs rest.inside;
      passes = rest.passes;
      least = λ z c good.
          ⊎_elim (λ e. absurd (false≢true (sym fails ∙ ap p e ∙ good))) (λ r. rest.least z r good) (contains_cons z x xs c);
    }

turns_on : (sc : Scenario) (from to : ℕ) → nat_lt from to ≡ true → turns_to sc from to ≡ to - from
turns_on sc from to later = rw later refl

turns_round : (sc : Scenario) (from to : ℕ) → nat_lt from to ≡ false → turns_to sc from to ≡ to + node_count sc - from
turns_round sc from to earlier = rw earlier refl

is_another : (n x : ℕ) → not (x == n) ≡ true → x ≢ n
is_another n x h = λ e. grind (arith, nat_tests, h, e)

abbrev is_other : (n x : ℕ) → Bool
is_other n x = not (x == n)

other_passes : (n x : ℕ) → x ≢ n → is_other n x ≡ true
other_passes n x ne = ap not (ne_eqb x n ne)

-- another node that fails the test does not follow
not_later : (n before x : ℕ) → x ≢ n → is_later n before x ≡ false → nat_lt before x ≡ false
not_later n before x ne fails =
    elim (cases_Bool (nat_lt before x)) [
      | inl later ↦ absurd (false≢true (sym fails ∙ rw (later, other_passes n x ne) refl))
      | inr earlier ↦ earlier
    ]

module _ (sc : Scenario) (n before : ℕ) (ranges : IsInRange sc) (within : before < node_count sc) where
  abbrev xs : List ℕ
  xs = sc.bootstraps

  known : (x : ℕ) → Contains xs x → x < node_count sc
  known x c = All_at (λ y. y < node_count sc) xs x ranges.nodes.bootstraps c

  next_is_later : (y : ℕ) → IsLeast (is_later n before) xs y → IsNextBootstrap sc n before y
  next_is_later y found =
      let parts = and_parts (nat_lt before y) (is_other n y) found.passes in
      record {
        another = is_another n y parts.1;
        bootstrap = found.inside;
        none_passed = λ x c ne.
            elim (cases_Bool (nat_lt before x)) [
              | inl later ↦
                  let le = found.least x c (rw (later, other_passes n x ne) refl) in
                  omega (arith, le, turns_on sc before y parts.0, turns_on sc before x later)
              | inr earlier ↦ omega (arith, known y found.inside, within, turns_on sc before y parts.0, turns_round sc before x earlier)
            ];
      }

  next_is_first : (y : ℕ) → ((x : ℕ) → Contains xs x → is_later n before x ≡ false) → IsLeast (is_other n) xs y → IsNextBootstrap sc n before y
  next_is_first y none found =
      let round : (x : ℕ) → Contains xs x → x ≢ n → turns_to sc before x ≡ x + node_count sc - before = λ x c ne.
      turns_round sc before x (not_later n before x ne (none x c)) in
      record {
        another = is_another n y found.passes;
        bootstrap = found.inside;
        none_passed = λ x c ne.
            omega (arith, within, found.least x c (other_passes n x ne), round x c ne, round y found.inside (is_another n y found.passes));
      }

  pub tried_in_turn : IfSome (next_bootstrap sc n before) (IsNextBootstrap sc n before)
  unfolding next_bootstrap
  tried_in_turn =
      let pairs = AllPairs-from_increasing xs ranges.nodes.in_order in
      go (later_bootstrap sc n before) (first_bootstrap sc n) (finds (is_later n before) xs pairs) (finds (is_other n) xs pairs)
    where
      go : (one other : Option ℕ) → Finds (is_later n before) xs one → Finds (is_other n) xs other
          → IfSome (option_or one other) (IsNextBootstrap sc n before)
      go (Some y) other found rest = next_is_later y found
      go None (Some y) none found = next_is_first y none found
      go None None none nobody = tt

-- what is there to find is found
found_some : (p : ℕ → Bool) (xs : List ℕ) (x : ℕ) → Contains xs x → p x ≡ true → IsSome (find p xs)
found_some p [] x c good = absurd (contains_none x c)
found_some p (y ∷ xs) x c good = go (p y) refl (found_some p xs x)
  where
    go : (b : Bool) → p y ≡ b → (Contains xs x → p x ≡ true → IsSome (find p xs)) → is_some (cond b (Some y) (find p xs)) ≡ true
    go true passes later = refl
    go false fails later = ⊎_elim (λ e. absurd (false≢true (sym fails ∙ ap p e ∙ good))) (λ r. later r good) (contains_cons x y xs c)

pub tried_some : (sc : Scenario) (n before other : ℕ) → Contains sc.bootstraps other → other ≢ n → IsSome (next_bootstrap sc n before)
unfolding next_bootstrap
tried_some sc n before other c ne = go (later_bootstrap sc n before) (first_bootstrap sc n) (found_some (is_other n) sc.bootstraps other c (other_passes n other ne))
  where
    go : (one other : Option ℕ) → IsSome other → IsSome (option_or one other)
    go None other h = h
    go (Some x) other h = refl
