-- The states that a run starts with meet the invariant.
use Rattle.std.proofs.Common.{◌≡◌, ⊎_elim, ℕ, zero, suc, ◌-◌, ◌<◌, ◌≤◌, Bool, true, false, cond, List, [], ◌∷◌, map, length, refl, ap, subst, arith}
use Rattle.std.specs.Prelude.{◌^◌, Option, Some, None, IfSome, find, nat_le, slice_get, take, unwrap_or}
use Rattle.std.specs.Option.{option_or}
use Rattle.std.specs.List.{All, Contains, range_with_len}
use Rattle.std.proofs.lemmas.List.{length-take}
use Rattle.std.proofs.lemmas.List.FromFn.{length-map-range_with_len}
use Rattle.std.proofs.lemmas.List.Elements.{All-cons, All-take}
use Rattle.des_event.proofs.Members.{contains_none, contains_here, contains_there, contains_cons, All_from}
use Rattle.chord_node.specs.declared.state.Status.TheVariants as status
use Rattle.chord_node.specs.Invariant.{IsNodeState}
use Rattle.chord_node.specs.Ring.{clockwise, finger, first_member, first_met, first_via, initial_state, never_up, or_itself, others, way}
use Rattle.chord_node.specs.Bootstraps.{first_bootstrap}
use Rattle.chord_node.proofs.Found.{first_known}
use Rattle.chord_node.proofs.Rings.{clockwise-known, other-known, timers-few}
use Rattle.chord_node.proofs.RotationStart.{first_within}
use Rattle.chord_ops.proofs.KeptRules.{no_calls, no_lookups, none_of}
use Rattle.chord_scenario.specs.declared.scenario.Scenario.{Scenario}
use Rattle.chord_scenario.specs.Range.{IsInRange}
use Rattle.chord_scenario.specs.Start.{most_timers, timers}
use Rattle.chord_scenario.specs.World.{is_initial, node_count}
use Rattle.chord_machine.specs.Sound.{IsStateOf}

-- What the first states name is there

got : (P : ℕ → Type 0) (xs : List ℕ) (i : ℕ) → ((x : ℕ) → Contains xs x → P x) → IfSome (slice_get xs i) P
got P [] i h = tt
got P (x ∷ xs) zero h = h x (contains_here x xs)
got P (x ∷ xs) (suc i) h = got P xs i (λ y c. h y (contains_there y x xs c))

found_or : (P : ℕ → Type 0) (test : ℕ → Bool) (xs : List ℕ) (n : ℕ) → P n → ((x : ℕ) → Contains xs x → P x) → P (unwrap_or (find test xs) n)
found_or P test [] n here h = here
found_or P test (x ∷ xs) n here h = go (test x) (found_or P test xs n here (λ y c. h y (contains_there y x xs c)))
  where
    go : (b : Bool) → P (unwrap_or (find test xs) n) → P (unwrap_or (cond b (Some x) (find test xs)) n)
    go true rest = h x (contains_here x xs)
    go false rest = rest

mapped : (P : ℕ → Type 0) (f : ℕ → ℕ) (xs : List ℕ) → ((x : ℕ) → P (f x)) → All P (map f xs)
mapped P f xs h = All_from P (map f xs) (λ y c. go xs y c)
  where
    go : (xs : List ℕ) (y : ℕ) → Contains (map f xs) y → P y
    go [] y c = absurd (contains_none y c)
    go (x ∷ xs) y c = ⊎_elim (λ e. subst P e (h x)) (λ r. go xs y r) (contains_cons y (f x) (map f xs) c)

-- what is got, or node n itself
got_or : (P : ℕ → Type 0) (xs : List ℕ) (i n : ℕ) → P n → ((x : ℕ) → Contains xs x → P x) → P (unwrap_or (slice_get xs i) n)
got_or P [] i n own h = own
got_or P (x ∷ xs) zero n own h = h x (contains_here x xs)
got_or P (x ∷ xs) (suc i) n own h = got_or P xs i n own (λ y c. h y (contains_there y x xs c))

abbrev Known : Scenario → ℕ → Type 0
Known sc x = x < node_count sc

via_is_known : (sc : Scenario) (n : ℕ) → IsInRange sc → n < node_count sc → first_via sc n < node_count sc
via_is_known sc n ranges known =
    by (first_bootstrap sc n) (slice_get (others sc n) 0) (first_known sc n ranges) (got (Known sc) (others sc n) 0 (other-known sc n))
  where
    by : (one other : Option ℕ) → IfSome one (Known sc) → IfSome other (Known sc) → unwrap_or (option_or one other) n < node_count sc
    by (Some x) other h rest = h
    by None (Some x) h rest = rest
    by None None h rest = known

-- a list or the node itself: at least one of the scenario's nodes, and no more than before
record IsList (sc : Scenario) (xs : List ℕ) : Type 0 where
  all : All (λ x. x < node_count sc) xs
  some : 1 ≤ length xs
  few : length xs ≤ sc.list

or_itself-fits : (sc : Scenario) (n : ℕ) (xs : List ℕ) → IsInRange sc → n < node_count sc → All (λ x. x < node_count sc) xs → length xs ≤ sc.list
    → IsList sc (or_itself n xs)
or_itself-fits sc n [] ranges known all few = record {
  all = All-cons (λ x. x < node_count sc) n [] known (none_of (λ x. x < node_count sc));
  some = omega arith;
  few = ranges.numbers.list_least;
}
or_itself-fits sc n (x ∷ xs) ranges known all few = record { all = all; some = omega arith; few = few }

member-sound : (sc : Scenario) (n : ℕ) → IsInRange sc → n < node_count sc → IsNodeState sc (first_member sc n)
unfolding first_member
member-sound sc n ranges known =
    let list = or_itself-fits sc n (take sc.list (clockwise sc n)) ranges known
    (All-take (Known sc) sc.list (clockwise sc n) (All_from (Known sc) (clockwise sc n) (clockwise-known sc n)))
    (omega (arith, length-take sc.list (clockwise sc n))) in
    let few = timers-few sc n in
    record {
      me = known;
      epoch = omega (arith, few.0);
      next_finger = first_within sc n (Some (first_met sc n)) ranges;
      neighbours = record {
        via_known = via_is_known sc n ranges known;
        prdc_known = got_or (Known sc) (clockwise sc n) (length (clockwise sc n) - 1) n known (clockwise-known sc n);
        succ_known = list.all;
        fingers_known = mapped (Known sc) (finger sc n) (range_with_len 2 (sc.bits - 1))
            (λ i. found_or (Known sc) (λ x. nat_le (2 ^ (i - 1)) (way sc n x)) (clockwise sc n) n known (clockwise-known sc n));
        list = list.few;
      };
      status = record {
        has_successor = list.some;
        has_via = refl;
        has_fingers = omega (arith, length-map-range_with_len (finger sc n) 2 (sc.bits - 1), ranges.numbers.bits_least);
      };
      attempt = tt;
      calls = no_calls sc status.Member (length (timers sc n));
      lookups = no_lookups sc _;
      matched = λ number. refl;
    }

down-sound : (sc : Scenario) (n : ℕ) → IsInRange sc → n < node_count sc → IsNodeState sc (never_up n)
down-sound sc n ranges known = record {
  me = known;
  epoch = omega arith;
  next_finger = (omega arith, omega (arith, ranges.numbers.bits_least));
  neighbours = record {
    via_known = tt;
    prdc_known = tt;
    succ_known = none_of (λ x. x < node_count sc);
    fingers_known = none_of (λ x. x < node_count sc);
    list = omega arith;
  };
  status = tt;
  attempt = tt;
  calls = no_calls sc status.Down 0;
  lookups = no_lookups sc 0;
  matched = λ number. refl;
}

pub starts_sound : (sc : Scenario) (n : ℕ) → IsInRange sc → n < node_count sc → IsStateOf sc n (initial_state sc n)
unfolding initial_state first_member
starts_sound sc n ranges known = go (is_initial sc n)
  where
    me_of : (first_member sc n).me ≡ n
    me_of = refl

    go : (b : Bool) → IsStateOf sc n (cond b (first_member sc n) (never_up n))
    go true = record { me = me_of; invariant = member-sound sc n ranges known }
    go false = record { me = refl; invariant = down-sound sc n ranges known }

-- the counters at the start are small
pub starts_low : (sc : Scenario) (n : ℕ) → ((initial_state sc n).count ≤ 8) × ((initial_state sc n).place ≤ 8)
unfolding initial_state first_member
starts_low sc n = go (is_initial sc n)
  where
    few : length (timers sc n) ≤ most_timers
    few = (timers-few sc n).1

    go : (b : Bool) → ((cond b (first_member sc n) (never_up n)).count ≤ 8) × ((cond b (first_member sc n) (never_up n)).place ≤ 8)
    go true = (omega (arith, few), omega (arith, few))
    go false = (omega arith, omega arith)

-- a member at the start has counted its timers
pub starts_count : (sc : Scenario) (n : ℕ) → is_initial sc n ≡ true → (initial_state sc n).count ≡ length (timers sc n)
unfolding initial_state first_member
starts_count sc n h = ap (λ (b : Bool). (cond b (first_member sc n) (never_up n)).count) h
