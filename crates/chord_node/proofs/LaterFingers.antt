-- The fingers that start before the last node found, or at it, are that node too.
use Rattle.std.proofs.Common.{◌≡◌, ◌⊎◌, ⊎_elim, inl, inr, ◌==◌, ◌∙◌, ℕ, ◌+◌, ◌<◌, ◌≤◌, Bool, true, false, cond, List, [], ◌∷◌, refl, sym, subst, arith}
use Rattle.std.proofs.Math.Nat.{mod-lt}
use Rattle.std.proofs.Math.Pow.{pow_mono}
use Rattle.std.proofs.lemmas.Nat.{pow_pos}
use Rattle.std.proofs.lemmas.Bool.Decides.{nat_tests}
use Rattle.std.specs.Prelude.{◌-◌, ◌^◌, Some, find, max, nat_le, unwrap_or, if◌then◌else◌}
use Rattle.std.specs.List.{Contains}
use Rattle.des_event.proofs.Members.{contains_here, contains_there}
use Rattle.chord_circle.proofs.Digits.{has_digits}
use Rattle.chord_circle.proofs.Distance.{distance-ahead}
use Rattle.chord_circle.specs.Circle.{digit_count, distance, finger_beyond}
use Rattle.chord_scenario.specs.declared.scenario.Scenario.{Scenario}
use Rattle.chord_scenario.specs.Range.{IsInRange}
use Rattle.chord_scenario.specs.World.{ident_of, node_count}
use Rattle.chord_node.specs.Ring.{clockwise, finger, way}
use Rattle.chord_node.proofs.FingerStarts.{find-at, find-past}
use Rattle.chord_node.proofs.Rings.{clockwise-known}

-- what is found first

find-within : (P : ℕ → Type 0) (p : ℕ → Bool) (xs : List ℕ) (d : ℕ) → P d → ((x : ℕ) → Contains xs x → P x) → P (unwrap_or (find p xs) d)
find-within P p [] d own all = own
find-within P p (x ∷ xs) d own all = go (p x) (find-within P p xs d own (λ y c. all y (contains_there y x xs c)))
  where
    go : (b : Bool) → P (unwrap_or (find p xs) d) → P (unwrap_or (cond b (Some x) (find p xs)) d)
    go true rest = all x (contains_here x xs)
    go false rest = rest

-- by a stronger test the same is found if it passes that one too, or if nothing passed the weaker one
find-again : (p q : ℕ → Bool) (xs : List ℕ) (d : ℕ) → ((x : ℕ) → p x ≡ false → q x ≡ false)
    → (q (unwrap_or (find p xs) d) ≡ true) ⊎ (p (unwrap_or (find p xs) d) ≡ false) → unwrap_or (find q xs) d ≡ unwrap_or (find p xs) d
find-again p q [] d weak h = refl
find-again p q (x ∷ xs) d weak h = go (p x) refl h (find-again p q xs d weak)
  where
    go : (b : Bool) → p x ≡ b
        → (q (unwrap_or (cond b (Some x) (find p xs)) d) ≡ true) ⊎ (p (unwrap_or (cond b (Some x) (find p xs)) d) ≡ false)
        → ((q (unwrap_or (find p xs) d) ≡ true) ⊎ (p (unwrap_or (find p xs) d) ≡ false) → unwrap_or (find q xs) d ≡ unwrap_or (find p xs) d)
        → unwrap_or (find q (x ∷ xs)) d ≡ unwrap_or (cond b (Some x) (find p xs)) d
    go true is (inl on) rest = find-at q x xs d on
    go true is (inr off) rest = absurd (cc)
    go false is g rest = find-past q x xs d (weak x is) ∙ rest g

-- tests of distances

reaches : (far way : ℕ) → far ≤ way → nat_le far way ≡ true
reaches far way le = grind (arith, nat_tests)

too_near : (far farther way : ℕ) → far ≤ farther → nat_le far way ≡ false → nat_le farther way ≡ false
too_near far farther way more near = grind (arith, nat_tests)

at_home : (far way : ℕ) → 0 < far → way ≡ 0 → nat_le far way ≡ false
at_home far way some none = grind (arith, nat_tests)

-- fingers

pub finger-known : (sc : Scenario) (n i : ℕ) → n < node_count sc → finger sc n i < node_count sc
finger-known sc n i own =
    find-within (λ x. x < node_count sc) (λ x. nat_le (2 ^ (i - 1)) (way sc n x)) (clockwise sc n) n own (clockwise-known sc n)

finger-again : (sc : Scenario) (n i j : ℕ) → i ≤ j → (2 ^ (j - 1) ≤ way sc n (finger sc n i)) ⊎ (way sc n (finger sc n i) ≡ 0)
    → finger sc n j ≡ finger sc n i
finger-again sc n i j after reach =
    let less : i - 1 ≤ j - 1 = omega (arith, after) in
    let more : 2 ^ (i - 1) ≤ 2 ^ (j - 1) = pow_mono less in
    let last = finger sc n i in
    find-again (λ x. nat_le (2 ^ (i - 1)) (way sc n x)) (λ x. nat_le (2 ^ (j - 1)) (way sc n x)) (clockwise sc n) n
    (λ x near. too_near (2 ^ (i - 1)) (2 ^ (j - 1)) (way sc n x) more near)
    (⊎_elim (λ on. inl (reaches (2 ^ (j - 1)) (way sc n last) on)) (λ own. inr (at_home (2 ^ (i - 1)) (way sc n last) (pow_pos (i - 1)) own)) reach)

digits_reach : (j digits : ℕ) → 2 < j → j < max 2 (digits + 1) → j - 1 < digits
digits_reach j digits more less = omega (arith, more, less)

below_power : (d low high : ℕ) → d < low → low ≤ high → d < high
below_power d low high less le = omega (arith, less, le)

-- a finger of a that starts on the way to b is no farther away than b, unless that is a
reached : (bits a b j : ℕ) → bits ≤ 128 → b < 2 ^ bits → 2 < j → j < finger_beyond bits a b → (2 ^ (j - 1) ≤ distance bits a b) ⊎ (distance bits a b ≡ 0)
reached bits a b j narrow within more before = by (a == b) refl before
  where
    by : (same : Bool) → (a == b) ≡ same → j < (if same then bits + 1 else max 2 (digit_count (distance bits a b) + 1))
        → (2 ^ (j - 1) ≤ distance bits a b) ⊎ (distance bits a b ≡ 0)
    by true is less =
        let one : a ≡ b = grind (arith, nat_tests) in
        let none : b - a ≡ 0 = omega (arith, one) in
        inr (distance-ahead bits a b (omega (arith, one)) within ∙ none)
    by false is less =
        let fits : distance bits a b < 2 ^ 128 = below_power (distance bits a b) (2 ^ bits) (2 ^ 128) (mod-lt _ (pow_pos bits)) (pow_mono narrow) in
        inl ((has_digits (distance bits a b) fits).above (j - 1) (digits_reach j (digit_count (distance bits a b)) more less))

-- the last node found is finger i, and the later fingers before another one
pub record IsLast (sc : Scenario) (n i last beyond : ℕ) : Type 0 where
  pub here : last ≡ finger sc n i
  pub again : (j : ℕ) → i < j → j < beyond → last ≡ finger sc n j

pub last-found : (sc : Scenario) (n i last beyond : ℕ) → IsInRange sc → n < node_count sc → 2 ≤ i → last ≡ finger sc n i
    → beyond ≡ finger_beyond sc.bits (ident_of sc n) (ident_of sc last) → IsLast sc n i last beyond
last-found sc n i last beyond ranges known least here far = record {
  here = here;
  again = λ j after before.
      let on_way : j < finger_beyond sc.bits (ident_of sc n) (ident_of sc (finger sc n i)) = subst (λ x. j < finger_beyond sc.bits (ident_of sc n) (ident_of sc x)) here (subst (λ k. j < k) far before) in
      here ∙ sym (finger-again sc n i j (omega (arith, after))
      (reached sc.bits (ident_of sc n) (ident_of sc (finger sc n i)) j ranges.numbers.bits_greatest
      (ranges.nodes.on_circle (finger sc n i) (finger-known sc n i known)) (omega (arith, least, after)) on_way));
}
