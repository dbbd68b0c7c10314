-- The first member at the start of a finger or after it is the finger.
use Rattle.std.proofs.Common.{◌≡◌, ℕ, ◌+◌, ◌<◌, ◌≤◌, Bool, true, false, cond, List, [], ◌∷◌, ◌++◌, refl, sym, ap, ◌∙◌, arith}
use Rattle.std.proofs.Math.Nat.{add-mod_right, mod-eq_of_lt}
use Rattle.std.proofs.lemmas.Nat.{pow_pos}
use Rattle.chord_circle.proofs.Powers.{way_within}
use Rattle.std.specs.Prelude.{◌%◌, ◌-◌, ◌^◌, Some, find, nat_le, nat_lt, unwrap_or, slice_get, slice_index}
use Rattle.std.specs.List.{Contains, filter}
use Rattle.std.proofs.lemmas.Bool.Decides.{nat_tests}
use Rattle.chord_circle.specs.Circle.{finger_start}
use Rattle.des_event.proofs.Members.{contains_here, contains_there}
use Rattle.chord_scenario.specs.declared.scenario.Scenario.{Scenario}
use Rattle.chord_scenario.specs.World.{ident_of}
use Rattle.chord_node.specs.Places.{ring, successor}
use Rattle.chord_node.specs.Ring.{clockwise, finger, way}
use Rattle.chord_node.proofs.Rotations.{IsParted, IsMember, ring-parted, in_ring-within, before-way, after-way, after-in_ring, rotation-is}

-- the first that passes a test

find-none : (p : ℕ → Bool) (xs : List ℕ) (d : ℕ) → ((x : ℕ) → Contains xs x → p x ≡ false) → unwrap_or (find p xs) d ≡ d
find-none p [] d h = refl
find-none p (x ∷ xs) d h =
    ap (λ (b : Bool). unwrap_or (cond b (Some x) (find p xs)) d) (h x (contains_here x xs)) ∙ find-none p xs d (λ y c. h y (contains_there y x xs c))

find-same : (p q : ℕ → Bool) (xs : List ℕ) (d : ℕ) → ((x : ℕ) → Contains xs x → p x ≡ q x) → unwrap_or (find p xs) d ≡ unwrap_or (find q xs) d
find-same p q [] d h = refl
find-same p q (x ∷ xs) d h =
    ap (λ (b : Bool). unwrap_or (cond b (Some x) (find p xs)) d) (h x (contains_here x xs)) ∙ go (q x)
    (find-same p q xs d (λ y c. h y (contains_there y x xs c)))
  where
    go : (b : Bool) → unwrap_or (find p xs) d ≡ unwrap_or (find q xs) d
        → unwrap_or (cond b (Some x) (find p xs)) d ≡ unwrap_or (cond b (Some x) (find q xs)) d
    go true rest = refl
    go false rest = rest

find-append : (p : ℕ → Bool) (xs ys : List ℕ) (d : ℕ) → unwrap_or (find p (xs ++ ys)) d ≡ unwrap_or (find p xs) (unwrap_or (find p ys) d)
find-append p [] ys d = refl
find-append p (x ∷ xs) ys d = go (p x) (find-append p xs ys d)
  where
    go : (b : Bool) → unwrap_or (find p (xs ++ ys)) d ≡ unwrap_or (find p xs) (unwrap_or (find p ys) d)
        → unwrap_or (cond b (Some x) (find p (xs ++ ys))) d ≡ unwrap_or (cond b (Some x) (find p xs)) (unwrap_or (find p ys) d)
    go true rest = refl
    go false rest = rest

find-first : (p : ℕ → Bool) (xs ys : List ℕ) (n : ℕ) → ((x : ℕ) → Contains xs x → p x ≡ true) → unwrap_or (find p xs) n ≡ slice_index (xs ++ n ∷ ys) 0
find-first p [] ys n h = refl
find-first p (x ∷ xs) ys n h = ap (λ (b : Bool). unwrap_or (cond b (Some x) (find p xs)) n) (h x (contains_here x xs))

pub find-at : (p : ℕ → Bool) (x : ℕ) (xs : List ℕ) (d : ℕ) → p x ≡ true → unwrap_or (find p (x ∷ xs)) d ≡ x
find-at p x xs d h = ap (λ (b : Bool). unwrap_or (cond b (Some x) (find p xs)) d) h

pub find-past : (p : ℕ → Bool) (x : ℕ) (xs : List ℕ) (d : ℕ) → p x ≡ false → unwrap_or (find p (x ∷ xs)) d ≡ unwrap_or (find p xs) d
find-past p x xs d h = ap (λ (b : Bool). unwrap_or (cond b (Some x) (find p xs)) d) h

-- the first one that a filter keeps
pub find-filter : (p : ℕ → Bool) (xs : List ℕ) → find p xs ≡ slice_get (filter p xs) 0
find-filter p [] = refl
find-filter p (x ∷ xs) = go (p x) (find-filter p xs)
  where
    go : (b : Bool) → find p xs ≡ slice_get (filter p xs) 0 → cond b (Some x) (find p xs) ≡ slice_get (cond b (x ∷ filter p xs) (filter p xs)) 0
    go true rest = refl
    go false rest = rest

-- fingers

-- the start of a finger is ahead of its node: what passes in the ring is what is far enough
finger-ahead : (sc : Scenario) (n far : ℕ) (p : IsParted (ident_of sc) n (ring sc)) → IsMember sc n → 0 < far → ident_of sc n + far < 2 ^ sc.bits
    → successor sc (ident_of sc n + far) ≡ unwrap_or (find (λ x. nat_le far (way sc n x)) (clockwise sc n)) n
finger-ahead sc n far p m some within =
    let home = ident_of sc n in
    let at : ℕ → Bool = λ x. nat_le (home + far) (ident_of sc x) in
    let met : ℕ → Bool = λ x. nat_le far (way sc n x) in
    let first = slice_index (p.before ++ n ∷ p.after) 0 in
    let low : (x : ℕ) → Contains p.before x → at x ≡ false = λ x c. let l = p.below x c in grind (arith, nat_tests) in
    let own : at n ≡ false = grind (arith, nat_tests) in
    let same : (x : ℕ) → Contains p.after x → at x ≡ met x = λ x c.
    let l = p.above x c in
    let w = after-way sc n x p m c in
    grind (arith, nat_tests) in
    let round : (x : ℕ) → Contains p.before x → met x ≡ true = λ x c.
    let l = p.below x c in
    let w = before-way sc n x p m c in
    grind (arith, nat_tests) in
    ap (λ xs. unwrap_or (find at xs) (slice_index xs 0)) p.whole ∙ find-append at p.before (n ∷ p.after) first
    ∙ find-none at p.before (unwrap_or (find at (n ∷ p.after)) first) low ∙ find-past at n p.after first own ∙ find-same at met p.after first same
    ∙ sym (ap (λ xs. unwrap_or (find met xs) n) (sym (rotation-is sc n p m)) ∙ find-append met p.after p.before n
    ∙ ap (λ d. unwrap_or (find met p.after) d) (find-first met p.before p.after n round))

-- the start of a finger is past 0
finger-past : (sc : Scenario) (n far start : ℕ) (p : IsParted (ident_of sc) n (ring sc)) → IsMember sc n → far < 2 ^ sc.bits
    → ident_of sc n + far ≡ start + 2 ^ sc.bits → successor sc start ≡ unwrap_or (find (λ x. nat_le far (way sc n x)) (clockwise sc n)) n
finger-past sc n far start p m within past =
    let home = ident_of sc n in
    let at : ℕ → Bool = λ x. nat_le start (ident_of sc x) in
    let met : ℕ → Bool = λ x. nat_le far (way sc n x) in
    let first = slice_index (p.before ++ n ∷ p.after) 0 in
    let own : at n ≡ true = grind (arith, nat_tests) in
    let near : (x : ℕ) → Contains p.after x → met x ≡ false = λ x c.
    let l = p.above x c in
    let k = in_ring-within sc x m.ranges (after-in_ring sc n x p c) in
    let w = after-way sc n x p m c in
    grind (arith, nat_tests) in
    let same : (x : ℕ) → Contains p.before x → at x ≡ met x = λ x c.
    let l = p.below x c in
    let w = before-way sc n x p m c in
    let k = m.ranges.nodes.on_circle n m.known in
    grind (arith, nat_tests) in
    ap (λ xs. unwrap_or (find at xs) (slice_index xs 0)) p.whole ∙ find-append at p.before (n ∷ p.after) first
    ∙ ap (λ d. unwrap_or (find at p.before) d) (find-at at n p.after first own) ∙ find-same at met p.before n same
    ∙ sym (ap (λ xs. unwrap_or (find met xs) n) (sym (rotation-is sc n p m)) ∙ find-append met p.after p.before n
    ∙ find-none met p.after (unwrap_or (find met p.before) n) near)

-- the first member at the start of a finger or after it is the finger
pub finger-is : (sc : Scenario) (n i : ℕ) → IsMember sc n → 1 ≤ i → i ≤ sc.bits → successor sc (finger_start sc.bits (ident_of sc n) i) ≡ finger sc n i
finger-is sc n i m least most = go (nat_lt (home + far) (2 ^ sc.bits)) refl
  where
    home : ℕ
    home = ident_of sc n

    far : ℕ
    far = 2 ^ (i - 1)

    within : far < 2 ^ sc.bits
    within = way_within sc.bits i least most

    some : 0 < far
    some = pow_pos (i - 1)

    go : (b : Bool) → nat_lt (home + far) (2 ^ sc.bits) ≡ b → successor sc ((home + far) % 2 ^ sc.bits) ≡ finger sc n i
    go true e =
        let small : home + far < 2 ^ sc.bits = grind (arith, nat_tests) in
        ap (successor sc) (mod-eq_of_lt small) ∙ finger-ahead sc n far (ring-parted sc n m) m some small
    go false e =
        let large : 2 ^ sc.bits ≤ home + far = grind (arith, nat_tests) in
        let rest : ℕ = home + far - 2 ^ sc.bits in
        let past : home + far ≡ rest + 2 ^ sc.bits = omega arith in
        let small : rest < 2 ^ sc.bits = omega (arith, within, m.ranges.nodes.on_circle n m.known) in
        ap (successor sc) (ap (λ (k : ℕ). k % 2 ^ sc.bits) past ∙ add-mod_right rest (2 ^ sc.bits) ∙ mod-eq_of_lt small)
        ∙ finger-past sc n far rest (ring-parted sc n m) m within past
