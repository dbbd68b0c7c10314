-- The comparison that `Key` derives, and the order of keys.
use Rattle.std.proofs.Common.{◌≡◌, Bool, true, false, refl, subst, arith}
use Rattle.std.specs.Cmp.{ranked}
use Rattle.std.specs.Ordering.{nat_cmp, ordering_then}
use Rattle.std.specs.declared.cmp.Ordering.{Ordering}
use Rattle.std.specs.declared.cmp.Ordering.TheVariants.{Less, Equal, Greater}
use Rattle.des_event.specs.declared.key.Key.{Key}
use Rattle.des_event.specs.Keys.{IsBefore, is_before, key_cmp}
use Rattle.des_event.proofs.Order.{key_from, before_not_same, at_most_from_before, before_not_after, is_before-true, is_before-false}

-- what the outcome of a comparison says
abbrev pub Says : Key → Key → Ordering → Type 0
Says a b Less = IsBefore a b
Says a b Equal = a ≡ b
Says a b Greater = IsBefore b a

says : (a b : Key) (r s t : Ordering) → r ≡ nat_cmp a.time b.time → s ≡ nat_cmp a.origin b.origin → t ≡ nat_cmp a.number b.number
    → Says a b (ordering_then r (ordering_then s t))
says a b Less s t p q o = omega (arith, ranked a.time b.time Less p)
says a b Greater s t p q o = omega (arith, ranked a.time b.time Greater p)
says a b Equal Less t p q o = omega (arith, ranked a.time b.time Equal p, ranked a.origin b.origin Less q)
says a b Equal Greater t p q o = omega (arith, ranked a.time b.time Equal p, ranked a.origin b.origin Greater q)
says a b Equal Equal Less p q o = omega (arith, ranked a.time b.time Equal p, ranked a.origin b.origin Equal q, ranked a.number b.number Less o)
says a b Equal Equal Greater p q o = omega (arith, ranked a.time b.time Equal p, ranked a.origin b.origin Equal q, ranked a.number b.number Greater o)
says a b Equal Equal Equal p q o = key_from a b (ranked a.time b.time Equal p) (ranked a.origin b.origin Equal q) (ranked a.number b.number Equal o)

pub compared : (a b : Key) (r : Ordering) → key_cmp a b ≡ r → Says a b r
compared a b r h =
    subst (Says a b) h (says a b (nat_cmp a.time b.time) (nat_cmp a.origin b.origin) (nat_cmp a.number b.number) refl refl refl)

pub before_from_less : (a b : Key) → key_cmp a b ≡ Less → IsBefore a b
before_from_less a b h = compared a b Less h

pub less_from_before : (a b : Key) → IsBefore a b → key_cmp a b ≡ Less
less_from_before a b p = less_by (key_cmp a b) refl
  where
    less_by : (r : Ordering) → key_cmp a b ≡ r → key_cmp a b ≡ Less
    less_by Less h = h
    less_by Equal h = absurd (before_not_same a b p (compared a b Equal h))
    less_by Greater h = absurd (before_not_after a b p (at_most_from_before b a (compared a b Greater h)))

test_true : (a b : Key) → IsBefore a b → (c : Bool) → is_before a b ≡ c → c ≡ true
test_true a b p true h = refl
test_true a b p false h = absurd (before_not_after a b p (is_before-false a b h))

test_false : (a b : Key) → IsBefore b a → (c : Bool) → is_before a b ≡ c → c ≡ false
test_false a b p false h = refl
test_false a b p true h = absurd (before_not_after a b (is_before-true a b h) (at_most_from_before b a p))

pub less_is_before : (a b : Key) → key_cmp a b ≡ Less → is_before a b ≡ true
less_is_before a b h = test_true a b (before_from_less a b h) (is_before a b) refl

pub greater_not_before : (a b : Key) → key_cmp a b ≡ Greater → is_before a b ≡ false
greater_not_before a b h = test_false a b (compared a b Greater h) (is_before a b) refl
