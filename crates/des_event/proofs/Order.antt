-- The order of keys.
use Rattle.std.proofs.Common.{◌≡◌, ◌≢◌, ◌<◌, true, false, ap, arith}
use Rattle.std.proofs.lemmas.Bool.Decides.{nat_tests}
use Rattle.des_event.specs.declared.key.Key.{Key}
use Rattle.des_event.specs.Keys.{IsBefore, IsAtMost, is_before, is_same_key}

pub key_from : (a b : Key) → a.time ≡ b.time → a.origin ≡ b.origin → a.number ≡ b.number → a ≡ b
key_from a b t o n = λ i. record { time = t i; origin = o i; number = n i }

pub at_most_self : (a : Key) → IsAtMost a a
at_most_self a = omega arith

pub at_most_trans : (a b c : Key) → IsAtMost a b → IsAtMost b c → IsAtMost a c
at_most_trans a b c p q = omega arith

pub at_most_both : (a b : Key) → IsAtMost a b → IsAtMost b a → a ≡ b
at_most_both a b p q =
    let t : a.time ≡ b.time = omega arith in
    let o : a.origin ≡ b.origin = omega arith in
    let n : a.number ≡ b.number = omega arith in
    key_from a b t o n

pub at_most_from_before : (a b : Key) → IsBefore a b → IsAtMost a b
at_most_from_before a b p = omega arith

pub before_trans : (a b c : Key) → IsBefore a b → IsBefore b c → IsBefore a c
before_trans a b c p q = omega arith

pub before_not_same : (a b : Key) → IsBefore a b → a ≡ b → ⊥
before_not_same a b p e = omega (arith, ap (λ (k : Key). k.time) e, ap (λ (k : Key). k.origin) e, ap (λ (k : Key). k.number) e)

pub before_not_after : (a b : Key) → IsBefore a b → IsAtMost b a → ⊥
before_not_after a b p q = before_not_same a b p (at_most_both a b (at_most_from_before a b p) q)

pub before_from_at_most : (a b : Key) → IsAtMost a b → a ≢ b → IsBefore a b
before_from_at_most a b p ne = record {
  time = p.time;
  origin = p.origin;
  number = λ t o. number t o;
}
  where
    number : a.time ≡ b.time → a.origin ≡ b.origin → a.number < b.number
    number t o =
        let differs : a.number ≢ b.number = λ n. ne (key_from a b t o n) in
        omega (arith, p.number t o)

pub is_before-true : (a b : Key) → is_before a b ≡ true → IsBefore a b
is_before-true a b h = record {
  time = grind (arith, nat_tests);
  origin = λ t. grind (arith, nat_tests);
  number = λ t o. grind (arith, nat_tests);
}

pub is_before-false : (a b : Key) → is_before a b ≡ false → IsAtMost b a
is_before-false a b h = record {
  time = grind (arith, nat_tests);
  origin = λ t. grind (arith, nat_tests);
  number = λ t o. grind (arith, nat_tests);
}

pub is_same_key-true : (a b : Key) → is_same_key a b ≡ true → a ≡ b
is_same_key-true a b h =
    let t : a.time ≡ b.time = grind (arith, nat_tests) in
    let o : a.origin ≡ b.origin = grind (arith, nat_tests) in
    let n : a.number ≡ b.number = grind (arith, nat_tests) in
    key_from a b t o n

pub same_key-self : (a : Key) → is_same_key a a ≡ true
same_key-self a = grind (arith, nat_tests)
