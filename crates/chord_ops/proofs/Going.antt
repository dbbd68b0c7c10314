-- A silent node is gone after it was dropped, who knows another node is rescued, and a hand-over comes nearer to the key.
use Rattle.std.proofs.Common.{◌≡◌, ◌==◌, ◌&&◌, ◌||◌, ℕ, ◌<◌, ◌≤◌, ◌^◌, zero, suc, Bool, true, false, not, List, [], ◌∷◌, ◌++◌, map, take, Option, Some, None, refl, subst, arith, cond}
use Rattle.std.proofs.lemmas.Option.{same_Some}
use Rattle.std.specs.List.{filter, fold, list_all, list_any}
use Rattle.std.specs.Prelude.{IfSome, slice_get, if◌then◌else◌}
use Rattle.chord_circle.proofs.Meeting.{met_first}
use Rattle.chord_circle.specs.Circle.{distance, in_half_open}
use Rattle.chord_scenario.specs.declared.scenario.Scenario.{Scenario}
use Rattle.chord_scenario.specs.Range.{IsInRange}
use Rattle.chord_scenario.specs.World.{ident_of, node_count}
use Rattle.chord_node.specs.declared.state.Lookup.{Lookup}
use Rattle.chord_node.specs.declared.state.NodeState.{NodeState}
use Rattle.chord_ops.specs.Gone.{IsGone, IsNearestFinger, is_another}
use Rattle.chord_ops.specs.declared.turn.Turn.{Turn}
use Rattle.chord_ops.specs.Rules.{dropped, dropped_by, is_handed_over, led_by, list_after, list_left, nearer, nearest_finger, others_left, rescuer}
use Rattle.chord_ops.specs.Search.{is_avoided}
use Rattle.chord_ops.proofs.Nearest.{nearest_found}
use Rattle.chord_ops.proofs.Rescuers.{nearest_passes, none_left, rescuer_passes}

-- Hand-overs

both_false : (a b : Bool) → (not a && not b) ≡ true → b ≡ false
both_false true b h = absurd (cc)
both_false false true h = absurd (cc)
both_false false false h = refl

pub comes_nearer : (sc : Scenario) (lookup : Lookup) (owner prdc : ℕ) → IsInRange sc → lookup.key < 2 ^ sc.bits → owner < node_count sc → prdc < node_count sc
    → is_handed_over sc lookup owner prdc ≡ true → distance sc.bits lookup.key (ident_of sc prdc) < distance sc.bits lookup.key (ident_of sc owner)
comes_nearer sc lookup owner prdc ranges key at before handed =
    met_first sc.bits (ident_of sc prdc) lookup.key (ident_of sc owner) (ranges.nodes.on_circle prdc before) key (ranges.nodes.on_circle owner at)
    (both_false (is_avoided lookup.avoid prdc) (in_half_open sc.bits (ident_of sc prdc) lookup.key (ident_of sc owner)) handed)

-- Dropped nodes

module _ (silent : ℕ) where
  abbrev lacks : List ℕ → Type 0
  lacks xs = list_any (λ x. x == silent) xs ≡ false

  lacks_tail : (x : ℕ) (xs : List ℕ) → lacks (x ∷ xs) → ((x == silent) ≡ false) × lacks xs
  lacks_tail x xs h = by (x == silent) h
    where
      by : (b : Bool) → (b || list_any (λ y. y == silent) xs) ≡ false → (b ≡ false) × lacks xs
      by true h = absurd (cc)
      by false h = (refl, h)

  lacks_cons : (x : ℕ) (xs : List ℕ) → (x == silent) ≡ false → lacks xs → lacks (x ∷ xs)
  lacks_cons x xs other rest = rw other rest

  lacks_take : (n : ℕ) (xs : List ℕ) → lacks xs → lacks (take n xs)
  lacks_take zero xs h = refl
  lacks_take (suc n) [] h = refl
  lacks_take (suc n) (x ∷ xs) h = let parts = lacks_tail x xs h in lacks_cons x (take n xs) parts.0 (lacks_take n xs parts.1)

  lacks_others : (xs : List ℕ) → lacks (others_left silent xs)
  lacks_others [] = refl
  lacks_others (x ∷ xs) = by (x == silent) refl (lacks_others xs)
    where
      by : (b : Bool) → (x == silent) ≡ b → lacks (others_left silent xs) → lacks (cond (not b) (x ∷ others_left silent xs) (others_left silent xs))
      by true is rest = rest
      by false other rest = lacks_cons x (others_left silent xs) other rest

  -- a node that is neither of two is not the silent one
  other_of : (n : ℕ) (o : Option ℕ) → IfSome o (λ x. (not (x == n) && not (x == silent)) ≡ true) → IfSome o (λ x. (x == silent) ≡ false)
  other_of n None is = tt
  other_of n (Some x) is = both_false (x == n) (x == silent) is

  lacks_led : (sc : Scenario) (o : Option ℕ) (xs : List ℕ) → IfSome o (λ x. (x == silent) ≡ false) → lacks xs → lacks (led_by sc o xs)
  lacks_led sc None xs known rest = rest
  lacks_led sc (Some x) xs known rest = lacks_take sc.list (x ∷ xs) (lacks_cons x xs known rest)

  lacks_list : (sc : Scenario) (s : NodeState) → lacks (list_after sc silent s)
  unfolding list_after
  lacks_list sc s = lacks_led sc (rescuer sc silent s) (others_left silent s.succ) (other_of s.me (rescuer sc silent s) (rescuer_passes sc silent s)) (lacks_others s.succ)

  lacks_first : (xs : List ℕ) (first : ℕ) → slice_get xs 0 ≡ Some first → lacks xs → (first == silent) ≡ false
  lacks_first [] first at h = absurd (cc)
  lacks_first (x ∷ xs) first at h = subst (λ y. (y == silent) ≡ false) (same_Some x first at) (lacks_tail x xs h).0

  lacks_put : (first : ℕ) (xs : List ℕ) → (first == silent) ≡ false → lacks (map (λ x. if x == silent then first else x) xs)
  lacks_put first [] other = refl
  lacks_put first (x ∷ xs) other = lacks_cons (if x == silent then first else x) (map (λ y. if y == silent then first else y) xs) (by (x == silent) refl) (lacks_put first xs other)
    where
      by : (b : Bool) → (x == silent) ≡ b → ((if b then first else x) == silent) ≡ false
      by true is = other
      by false is = is

-- the state after a drop, with the silent node gone from its list and its fingers
pub gone : (sc : Scenario) (turn : Turn) (silent first : ℕ) → slice_get (list_after sc silent turn.state) 0 ≡ Some first
    → IsGone silent (dropped sc silent (λ turn. turn) turn).state
unfolding dropped list_left
gone sc turn silent first at =
    let list = lacks_list silent sc turn.state in
    rw at
    (record {
      from_list = list;
      from_fingers = lacks_put silent first turn.state.fingers (lacks_first silent (list_after sc silent turn.state) first at list);
    })

-- Rescues

-- a list that has nobody but the node itself left had only that and the silent one
left_alone : (n silent : ℕ) (xs : List ℕ) → list_any (λ x. not (x == n)) (others_left silent xs) ≡ false → list_all (λ x. x == n || x == silent) xs ≡ true
left_alone n silent [] none = refl
left_alone n silent (x ∷ xs) none = by (λ rest. left_alone n silent xs rest) (x == n) (x == silent) refl none
  where
    by : (list_any (λ y. not (y == n)) (others_left silent xs) ≡ false → list_all (λ y. y == n || y == silent) xs ≡ true) → (a b : Bool) → (x == n) ≡ a
        → list_any (λ y. not (y == n)) (cond (not b) (x ∷ others_left silent xs) (others_left silent xs)) ≡ false
        → ((a || b) && list_all (λ y. y == n || y == silent) xs) ≡ true
    by others true true is none = others none
    by others false true is none = others none
    by others true false is none = others (rw is at none)
    by others false false is none = let no = rw is at none in absurd (cc)

-- somebody else who is left in the list is not the silent one
or_third : (a b any third : Bool) → b ≡ false → (any ≡ true → third ≡ true) → (not a || any) ≡ true → ((not a && not b) || third) ≡ true
or_third true b any third other rest is = rest is
or_third false true any third other rest is = absurd (cc)
or_third false false any third other rest is = refl

third_left : (n silent : ℕ) (xs : List ℕ) → list_any (λ x. not (x == n)) (others_left silent xs) ≡ true
    → list_any (λ x. not (x == n) && not (x == silent)) (others_left silent xs) ≡ true
third_left n silent [] is = is
third_left n silent (x ∷ xs) is = by (λ rest. third_left n silent xs rest) (x == silent) refl is
  where
    by : (list_any (λ y. not (y == n)) (others_left silent xs) ≡ true → list_any (λ y. not (y == n) && not (y == silent)) (others_left silent xs) ≡ true)
        → (b : Bool) → (x == silent) ≡ b → list_any (λ y. not (y == n)) (cond (not b) (x ∷ others_left silent xs) (others_left silent xs)) ≡ true
        → list_any (λ y. not (y == n) && not (y == silent)) (cond (not b) (x ∷ others_left silent xs) (others_left silent xs)) ≡ true
    by others true same is = others is
    by others false other is =
        or_third (x == n) (x == silent) (list_any (λ y. not (y == n)) (others_left silent xs))
        (list_any (λ y. not (y == n) && not (y == silent)) (others_left silent xs)) other others is

-- a finger that leads a list is in it
leads : (p : ℕ → Bool) (n x : ℕ) (xs : List ℕ) → 1 ≤ n → p x ≡ true → list_any p (take n (x ∷ xs)) ≡ true
leads p zero x xs some is = absurd (omega (arith, some))
leads p (suc n) x xs some is = rw is refl

-- a node that is one of two is no third one
not_both : (a b all any : Bool) → (all ≡ true → any ≡ false) → ((a || b) && all) ≡ true → ((not a && not b) || any) ≡ false
not_both true b all any rest is = rest is
not_both false true all any rest is = rest is
not_both false false all any rest is = absurd (cc)

third_of_list : (n silent : ℕ) (xs : List ℕ) → list_all (λ x. x == n || x == silent) xs ≡ true
    → list_any (λ x. not (x == n) && not (x == silent)) xs ≡ false
third_of_list n silent [] all = refl
third_of_list n silent (x ∷ xs) all =
    not_both (x == n) (x == silent) (list_all (λ y. y == n || y == silent) xs) (list_any (λ y. not (y == n) && not (y == silent)) xs)
    (λ rest. third_of_list n silent xs rest) all

third_of_both : (n silent : ℕ) (xs ys : List ℕ) → list_all (λ x. x == n || x == silent) xs ≡ true → list_all (λ x. x == n || x == silent) ys ≡ true
    → list_any (λ x. not (x == n) && not (x == silent)) (xs ++ ys) ≡ false
third_of_both n silent [] ys all others = third_of_list n silent ys others
third_of_both n silent (x ∷ xs) ys all others =
    not_both (x == n) (x == silent) (list_all (λ y. y == n || y == silent) xs) (list_any (λ y. not (y == n) && not (y == silent)) (xs ++ ys))
    (λ rest. third_of_both n silent xs ys rest others) all

-- who knows another node has one in its list after a drop
third_in_list : (sc : Scenario) (s : NodeState) (silent : ℕ) → 1 ≤ sc.list
    → list_any (λ x. not (x == s.me) && not (x == silent)) (s.succ ++ s.fingers) ≡ true
    → list_any (λ x. not (x == s.me) && not (x == silent)) (list_after sc silent s) ≡ true
unfolding list_after rescuer nearest_finger
third_in_list sc s silent some knows = by (list_any (λ x. not (x == s.me)) (others_left silent s.succ)) refl
  where
    third : ℕ → Bool
    third x = not (x == s.me) && not (x == silent)

    found : Option ℕ
    found = fold (nearer sc s.me) None (filter (λ x. not (x == s.me) && not (x == silent)) s.fingers)

    by_finger : list_any (λ x. not (x == s.me)) (others_left silent s.succ) ≡ false → (o : Option ℕ) → found ≡ o → IfSome o (λ x. third x ≡ true)
        → list_any third (led_by sc o (others_left silent s.succ)) ≡ true
    by_finger alone None none passes =
        let no = third_of_both s.me silent s.succ s.fingers (left_alone s.me silent s.succ alone) (none_left sc s.me silent s.fingers none) in
        absurd (cc)
    by_finger alone (Some x) is passes = leads third sc.list x (others_left silent s.succ) some passes

    by : (b : Bool) → list_any (λ x. not (x == s.me)) (others_left silent s.succ) ≡ b
        → list_any third (led_by sc (if b then None else found) (others_left silent s.succ)) ≡ true
    by true is = third_left s.me silent s.succ is
    by false is = by_finger is found refl (nearest_passes sc s.me third None s.fingers tt)

-- without another node in the list, the nearest finger leads it
none_left_in : (n silent : ℕ) (xs : List ℕ) → list_any (λ x. not (x == n) && not (x == silent)) xs ≡ false
    → list_any (λ x. not (x == n)) (others_left silent xs) ≡ false
none_left_in n silent [] none = refl
none_left_in n silent (x ∷ xs) none = by (λ rest. none_left_in n silent xs rest) (x == n) (x == silent) refl none
  where
    by : (list_any (λ y. not (y == n) && not (y == silent)) xs ≡ false → list_any (λ y. not (y == n)) (others_left silent xs) ≡ false) → (a b : Bool)
        → (x == n) ≡ a → ((not a && not b) || list_any (λ y. not (y == n) && not (y == silent)) xs) ≡ false
        → list_any (λ y. not (y == n)) (cond (not b) (x ∷ others_left silent xs) (others_left silent xs)) ≡ false
    by others true true is none = others none
    by others false true is none = others none
    by others true false is none = rw is (others none)
    by others false false is none = absurd (cc)

any_behind : (p : ℕ → Bool) (xs ys : List ℕ) → list_any p ys ≡ true → list_any p (xs ++ ys) ≡ true
any_behind p [] ys has = has
any_behind p (x ∷ xs) ys has = by (p x) (any_behind p xs ys has)
  where
    by : (b : Bool) → list_any p (xs ++ ys) ≡ true → (b || list_any p (xs ++ ys)) ≡ true
    by true rest = refl
    by false rest = rest

first_led : (sc : Scenario) (x first : ℕ) (xs : List ℕ) → 1 ≤ sc.list → slice_get (led_by sc (Some x) xs) 0 ≡ Some first → x ≡ first
first_led sc x first xs some at = by sc.list some at
  where
    by : (n : ℕ) → 1 ≤ n → slice_get (take n (x ∷ xs)) 0 ≡ Some first → x ≡ first
    by zero more at = absurd (omega (arith, more))
    by (suc n) more at = same_Some x first at

nearest_leads : (sc : Scenario) (s : NodeState) (silent first : ℕ) → 1 ≤ sc.list → list_any (is_another s silent) s.succ ≡ false
    → list_any (is_another s silent) s.fingers ≡ true → slice_get (list_after sc silent s) 0 ≡ Some first → IsNearestFinger sc s silent first
unfolding list_after rescuer nearest_finger
nearest_leads sc s silent first some alone knows at = by (list_any (λ x. not (x == s.me)) (others_left silent s.succ)) (none_left_in s.me silent s.succ alone) at
  where
    found : Option ℕ
    found = fold (nearer sc s.me) None (filter (is_another s silent) s.fingers)

    by_finger : (o : Option ℕ) → found ≡ o → slice_get (led_by sc o (others_left silent s.succ)) 0 ≡ Some first → IsNearestFinger sc s silent first
    by_finger None none at =
        let no = third_of_list s.me silent s.fingers (none_left sc s.me silent s.fingers none) in
        absurd (cc)
    by_finger (Some x) is at = subst (IsNearestFinger sc s silent) (first_led sc x first (others_left silent s.succ) some at) (nearest_found sc s silent x is)

    by : (b : Bool) → b ≡ false → slice_get (led_by sc (if b then None else found) (others_left silent s.succ)) 0 ≡ Some first → IsNearestFinger sc s silent first
    by true is at = absurd (cc)
    by false is at = by_finger found refl at

pub nearest_rescues : (sc : Scenario) (turn : Turn) (silent first : ℕ) → 1 ≤ sc.list → list_any (is_another turn.state silent) turn.state.succ ≡ false
    → list_any (is_another turn.state silent) turn.state.fingers ≡ true → slice_get (dropped sc silent (λ turn. turn) turn).state.succ 0 ≡ Some first
    → IsNearestFinger sc turn.state silent first
unfolding dropped list_left
nearest_rescues sc turn silent first some alone knows at =
    nearest_leads sc turn.state silent first some alone knows
    (by (list_after sc silent turn.state)
    (third_in_list sc turn.state silent some (any_behind (is_another turn.state silent) turn.state.succ turn.state.fingers knows)) at)
  where
    by : (list : List ℕ) → list_any (is_another turn.state silent) list ≡ true
        → slice_get (dropped_by sc silent (λ turn. turn) (slice_get list 0) (list_left sc silent turn)).state.succ 0 ≡ Some first
        → slice_get (list_after sc silent turn.state) 0 ≡ Some first
    by [] has at = absurd (cc)
    by (x ∷ xs) has at = at

-- so it goes on after the drop
pub rescued : (sc : Scenario) (turn : Turn) (silent : ℕ) (step : Turn → Turn) → 1 ≤ sc.list
    → list_any (λ x. not (x == turn.state.me) && not (x == silent)) (turn.state.succ ++ turn.state.fingers) ≡ true
    → dropped sc silent step turn ≡ step (dropped sc silent (λ turn. turn) turn)
unfolding dropped
rescued sc turn silent step some knows = by (list_after sc silent turn.state) (third_in_list sc turn.state silent some knows)
  where
    by : (list : List ℕ) → list_any (λ x. not (x == turn.state.me) && not (x == silent)) list ≡ true
        → dropped_by sc silent step (slice_get list 0) (list_left sc silent turn)
        ≡ step (dropped_by sc silent (λ turn. turn) (slice_get list 0) (list_left sc silent turn))
    by [] has = absurd (cc)
    by (x ∷ xs) has = refl

-- with that node in its list
pub rescued_by_another : (sc : Scenario) (turn : Turn) (silent : ℕ) → 1 ≤ sc.list
    → list_any (λ x. not (x == turn.state.me) && not (x == silent)) (turn.state.succ ++ turn.state.fingers) ≡ true
    → list_any (λ x. not (x == turn.state.me) && not (x == silent)) (dropped sc silent (λ turn. turn) turn).state.succ ≡ true
unfolding dropped list_left
rescued_by_another sc turn silent some knows = by (list_after sc silent turn.state) third
  where
    third : list_any (λ x. not (x == turn.state.me) && not (x == silent)) (list_after sc silent turn.state) ≡ true
    third = third_in_list sc turn.state silent some knows

    by : (list : List ℕ) → list_any (λ x. not (x == turn.state.me) && not (x == silent)) list ≡ true
        → list_any (λ x. not (x == turn.state.me) && not (x == silent)) (dropped_by sc silent (λ turn. turn) (slice_get list 0) (list_left sc silent turn)).state.succ ≡ true
    by [] has = absurd (cc)
    by (x ∷ xs) has = third
