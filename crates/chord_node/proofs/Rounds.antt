-- Two rounds of the ring: where an identifier stands in them, and what is met from there.
use Rattle.std.proofs.Common.{◌≡◌, ℕ, zero, suc, ◌+◌, ◌<◌, ◌≤◌, true, false, List, [], ◌∷◌, ◌++◌, length, get_or, drop, take, refl, sym, ap, ◌∙◌, subst, arith, length-append}
use Rattle.std.specs.Prelude.{◌/◌, ◌-◌, find, nat_le, unwrap_or}
use Rattle.std.specs.List.{AllWithin, Contains}
use Rattle.std.specs.List.Sorted.{IsNonDecreasingBy}
use Rattle.std.proofs.lemmas.Bool.Decides.{nat_tests}
use Rattle.des_event.proofs.Members.{contains_here, contains_there, contains_at}
use Rattle.chord_scenario.specs.declared.scenario.Scenario.{Scenario}
use Rattle.chord_scenario.specs.Range.{IsInRange}
use Rattle.chord_scenario.specs.World.{ident_of}
use Rattle.chord_node.specs.declared.ring.Place.{Place}
use Rattle.chord_node.specs.Places.{placed, ring, successor, two_rounds}
use Rattle.chord_node.specs.Ring.{clockwise}
use Rattle.chord_node.proofs.Sorting.{IsAscending}
use Rattle.chord_node.proofs.Rotations.{IsMember, ring-parted, rotation-is, ring-ascends}
use Rattle.chord_node.proofs.FingerStarts.{find-at, find-past}

pub placed-long : (sc : Scenario) (xs : List ℕ) → length (placed sc xs) ≡ length xs
placed-long sc [] = refl
placed-long sc (x ∷ xs) = ap suc (placed-long sc xs)

pub rounds-long : (sc : Scenario) → length (two_rounds sc) ≡ length (ring sc) + length (ring sc)
rounds-long sc = placed-long sc (ring sc ++ ring sc) ∙ length-append (ring sc) (ring sc)

placed_at : (sc : Scenario) (xs : List ℕ) (i : ℕ) (d : Place) (e : ℕ) → i < length xs
    → get_or (placed sc xs) i d ≡ record { ident = ident_of sc (get_or xs i e); node = get_or xs i e }
placed_at sc [] i d e l = absurd (omega arith)
placed_at sc (x ∷ xs) zero d e l = refl
placed_at sc (x ∷ xs) (suc i) d e l = placed_at sc xs i d e (omega arith)

pub placed-take : (sc : Scenario) (k : ℕ) (xs : List ℕ) → take k (placed sc xs) ≡ placed sc (take k xs)
placed-take sc zero xs = refl
placed-take sc (suc k) [] = refl
placed-take sc (suc k) (x ∷ xs) = ap (λ ys. record { ident = ident_of sc x; node = x } ∷ ys) (placed-take sc k xs)

placed-drop : (sc : Scenario) (k : ℕ) (xs : List ℕ) → drop k (placed sc xs) ≡ placed sc (drop k xs)
placed-drop sc zero xs = refl
placed-drop sc (suc k) [] = refl
placed-drop sc (suc k) (x ∷ xs) = placed-drop sc k xs

take-front : {A : Type 0} (xs ys : List A) (m k : ℕ) → m ≡ length xs + k → take m (xs ++ ys) ≡ xs ++ take k ys
take-front [] ys m k e = let same : m ≡ k = omega (arith, e) in ap (λ (j : ℕ). take j ys) same
take-front (x ∷ xs) ys zero k e = absurd (omega (arith, e))
take-front (x ∷ xs) ys (suc m) k e = ap (λ zs. x ∷ zs) (take-front xs ys m k (omega (arith, e)))

drop-past : {A : Type 0} (xs ys zs : List A) (x : A) → drop (suc (length xs)) ((xs ++ x ∷ ys) ++ zs) ≡ ys ++ zs
drop-past [] ys zs x = refl
drop-past (y ∷ xs) ys zs x = drop-past xs ys zs x

take-whole : {A : Type 0} (xs ys : List A) → take (length xs) (xs ++ ys) ≡ xs
take-whole [] ys = refl
take-whole (x ∷ xs) ys = ap (λ zs. x ∷ zs) (take-whole xs ys)

-- the first round
pub first_round : (sc : Scenario) → take (length (two_rounds sc) / 2) (two_rounds sc) ≡ placed sc (ring sc)
first_round sc =
    let half : length (two_rounds sc) / 2 ≡ length (ring sc) = omega (arith, rounds-long sc) in
    ap (λ k. take k (two_rounds sc)) half ∙ placed-take sc (length (ring sc)) (ring sc ++ ring sc) ∙ ap (placed sc) (take-whole (ring sc) (ring sc))

placed-rises : (sc : Scenario) (xs : List ℕ) → IsAscending (ident_of sc) xs → IsNonDecreasingBy (λ p. p.ident) (placed sc xs)
placed-rises sc [] up i j d l k = absurd (omega (arith, k))
placed-rises sc (x ∷ xs) up zero zero d l k = omega arith
placed-rises sc (x ∷ xs) up zero (suc j) d l k =
    let within : j < length xs = omega (arith, k, placed-long sc xs) in
    let at : (get_or (placed sc xs) j d).ident ≡ ident_of sc (get_or xs j 0) = ap (λ (p : Place). p.ident) (placed_at sc xs j d 0 within) in
    omega (arith, at, up.0 (get_or xs j 0) (contains_at xs j 0 within))
placed-rises sc (x ∷ xs) up (suc i) zero d l k = absurd (omega (arith, l))
placed-rises sc (x ∷ xs) up (suc i) (suc j) d l k = placed-rises sc xs up.1 i j d (omega (arith, l)) (omega (arith, k))

pub round-rises : (sc : Scenario) → IsInRange sc → IsNonDecreasingBy (λ p. p.ident) (placed sc (ring sc))
round-rises sc ranges = placed-rises sc (ring sc) (ring-ascends sc ranges)

-- where a list is parted, and what is at that place of a second round
parted_at : (measure : ℕ → ℕ) (least n i : ℕ) (before after : List ℕ) → ((x : ℕ) → Contains before x → measure x < least) → least ≤ measure n
    → i ≤ length (before ++ n ∷ after)
    → AllWithin (λ x. measure x < least) (before ++ n ∷ after) 0 i → AllWithin (λ x. least ≤ measure x) (before ++ n ∷ after) i (length (before ++ n ∷ after))
    → i ≡ length before
parted_at measure least n zero [] after low own l below from = refl
parted_at measure least n (suc i) [] after low own l below from = absurd (omega (arith, own, below 0 0 (omega arith) (omega arith)))
parted_at measure least n zero (x ∷ before) after low own l below from =
    absurd (omega (arith, low x (contains_here x before), from 0 0 (omega arith) (omega arith)))
parted_at measure least n (suc i) (x ∷ before) after low own l below from =
    ap suc (parted_at measure least n i before after (λ y c. low y (contains_there y x before c)) own (omega (arith, l))
    (λ k d a b. below (suc k) d (omega arith) (omega (arith, b))) (λ k d a b. from (suc k) d (omega (arith, a)) (omega (arith, b))))

find-wraps : (measure : ℕ → ℕ) (least i d : ℕ) (xs ys : List ℕ) → i ≤ length xs → AllWithin (λ x. measure x < least) xs 0 i
    → AllWithin (λ x. least ≤ measure x) xs i (length xs) → get_or (xs ++ ys) i d ≡ unwrap_or (find (λ x. nat_le least (measure x)) xs) (get_or ys 0 d)
find-wraps measure least zero d [] ys l below from = refl
find-wraps measure least (suc i) d [] ys l below from = absurd (omega (arith, l))
find-wraps measure least zero d (x ∷ xs) ys l below from =
    let far = from 0 0 (omega arith) (omega arith) in
    let passes : nat_le least (measure x) ≡ true = grind (arith, nat_tests) in
    sym (find-at (λ y. nat_le least (measure y)) x xs (get_or ys 0 d) passes)
find-wraps measure least (suc i) d (x ∷ xs) ys l below from =
    let near = below 0 0 (omega arith) (omega arith) in
    let fails : nat_le least (measure x) ≡ false = grind (arith, nat_tests) in
    find-wraps measure least i d xs ys (omega (arith, l)) (λ k e a b. below (suc k) e (omega arith) (omega (arith, b)))
    (λ k e a b. from (suc k) e (omega (arith, a)) (omega (arith, b)))
    ∙ sym (find-past (λ y. nat_le least (measure y)) x xs (get_or ys 0 d) fails)

-- what is known where the ring falls apart into the members before an identifier and the others
pub record IsCount (sc : Scenario) (least count : ℕ) : Type 0 where
  pub bound : count ≤ length (ring sc)
  pub before : AllWithin (λ x. ident_of sc x < least) (ring sc) 0 count
  pub rest : AllWithin (λ x. least ≤ ident_of sc x) (ring sc) count (length (ring sc))

-- the member at the count
pub successor-is : (sc : Scenario) (start count : ℕ) (d : Place) → IsCount sc start count → 0 < length (two_rounds sc)
    → (get_or (two_rounds sc) count d).node ≡ successor sc start
successor-is sc start count d h some =
    let within : count < length (ring sc ++ ring sc) = omega (arith, h.bound, some, rounds-long sc, length-append (ring sc) (ring sc)) in
    ap (λ (p : Place). p.node) (placed_at sc (ring sc ++ ring sc) count d 0 within)
    ∙ find-wraps (ident_of sc) start count 0 (ring sc) (ring sc) h.bound h.before h.rest

pub count-is : (sc : Scenario) (least count : ℕ) → count ≤ length (placed sc (ring sc)) → AllWithin (λ p. p.ident < least) (placed sc (ring sc)) 0 count
    → AllWithin (λ p. least ≤ p.ident) (placed sc (ring sc)) count (length (placed sc (ring sc))) → IsCount sc least count
count-is sc least count bound before rest =
    let long = placed-long sc (ring sc) in
    let some : Place = record { ident = 0; node = 0 } in
    record {
      bound = omega (arith, bound, long);
      before = λ k d a b. subst (λ (p : Place). p.ident < least) (placed_at sc (ring sc) k some d (omega (arith, b, bound, long))) (before k some a b);
      rest = λ k d a b. subst (λ (p : Place). least ≤ p.ident) (placed_at sc (ring sc) k some d b) (rest k some a (omega (arith, b, long)));
    }

-- the way from a member round to itself
pub clockwise-is : (sc : Scenario) (n count : ℕ) → IsMember sc n → IsCount sc (ident_of sc n) count
    → take (count + length (two_rounds sc) / 2 - (count + 1)) (drop (count + 1) (two_rounds sc)) ≡ placed sc (clockwise sc n)
clockwise-is sc n count m h =
    let p = ring-parted sc n m in
    let xs = p.before ++ n ∷ p.after in
    let at : count ≡ length p.before = parted_at (ident_of sc) (ident_of sc n) n count p.before p.after p.below (omega arith)
    (subst (λ ys. count ≤ length ys) p.whole h.bound)
    (subst (λ ys. AllWithin (λ x. ident_of sc x < ident_of sc n) ys 0 count) p.whole h.before)
    (subst (λ ys. AllWithin (λ x. ident_of sc n ≤ ident_of sc x) ys count (length ys)) p.whole h.rest) in
    let long : length (ring sc) ≡ length p.before + suc (length p.after) = ap length p.whole ∙ length-append p.before (n ∷ p.after) in
    let first : count + 1 ≡ suc (length p.before) = omega arith in
    let many : count + length (two_rounds sc) / 2 - (count + 1) ≡ length p.after + length p.before = omega (arith, rounds-long sc) in
    (λ i. take (many i) (drop (first i) (placed sc (p.whole i ++ p.whole i))))
    ∙ ap (take (length p.after + length p.before)) (placed-drop sc (suc (length p.before)) (xs ++ xs))
    ∙ placed-take sc (length p.after + length p.before) (drop (suc (length p.before)) (xs ++ xs))
    ∙ ap (λ ys. placed sc (take (length p.after + length p.before) ys)) (drop-past p.before p.after xs n)
    ∙ ap (placed sc) (take-front p.after xs (length p.after + length p.before) (length p.before) refl ∙ ap (λ ys. p.after ++ ys) (take-whole p.before (n ∷ p.after)) ∙ rotation-is sc n p m)
