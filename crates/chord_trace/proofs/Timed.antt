-- How many times pass a test: no more than all, and none if nothing passes.
use Rattle.std.proofs.Common.{◌≡◌, ℕ, ◌+◌, ◌≤◌, Bool, true, false, cond, List, [], ◌∷◌, refl, arith, count_by}
use Rattle.std.proofs.lemmas.List.Sums.{sum_by-cons}
use Rattle.chord_trace.specs.LookupTimes.{counted, timed}
use Rattle.chord_trace.specs.declared.lookup_times.LookupTimes.{LookupTimes}
use Rattle.chord_trace.specs.declared.lookup_times.TimeCount.{TimeCount}

counted-cons : (test : ℕ → Bool) (e : TimeCount) (es : List TimeCount) → counted test (e ∷ es) ≡ cond (test e.us) e.count 0 + counted test es
counted-cons test e es = sum_by-cons (λ (x : TimeCount). cond (test x.us) x.count 0) e es

count_by-cons : (test : ℕ → Bool) (n : ℕ) (ns : List ℕ) → count_by test (n ∷ ns) ≡ cond (test n) 1 0 + count_by test ns
count_by-cons test n ns = sum_by-cons (λ (x : ℕ). cond (test x) 1 0) n ns

cond-le : (b : Bool) (n : ℕ) → cond b n 0 ≤ n
cond-le true n = omega arith
cond-le false n = omega arith

-- a test passes no more than all
pub counted-le : (test : ℕ → Bool) (es : List TimeCount) → counted test es ≤ counted (λ _. true) es
counted-le test [] = omega arith
counted-le test (e ∷ es) = omega (arith, counted-cons test e es, counted-cons (λ _. true) e es, counted-le test es, cond-le (test e.us) e.count)

pub count_by-le : (test : ℕ → Bool) (ns : List ℕ) → count_by test ns ≤ count_by (λ _. true) ns
count_by-le test [] = omega arith
count_by-le test (n ∷ ns) = omega (arith, count_by-cons test n ns, count_by-cons (λ _. true) n ns, count_by-le test ns, cond-le (test n) 1)

pub timed-le : (test : ℕ → Bool) (t : LookupTimes) → timed test t ≤ timed (λ _. true) t
timed-le test t = omega (arith, counted-le test t.short.items, count_by-le test t.long.items)

-- two results that are the same count the same
pub cond-same : (a b : Bool) (n : ℕ) → a ≡ b → cond a n 0 ≡ cond b n 0
cond-same a b n same = rw same refl

-- a test that nothing passes
counted-none : (p : ℕ → Bool) → ((n : ℕ) → p n ≡ false) → (es : List TimeCount) → counted p es ≡ 0
counted-none p none [] = refl
counted-none p none (e ∷ es) = omega (arith, counted-cons p e es, counted-none p none es, cond-same (p e.us) false e.count (none e.us))

count_by-none : (p : ℕ → Bool) → ((n : ℕ) → p n ≡ false) → (ns : List ℕ) → count_by p ns ≡ 0
count_by-none p none [] = refl
count_by-none p none (n ∷ ns) = omega (arith, count_by-cons p n ns, count_by-none p none ns, cond-same (p n) false 1 (none n))

pub timed-none : (p : ℕ → Bool) → ((n : ℕ) → p n ≡ false) → (t : LookupTimes) → timed p t ≡ 0
timed-none p none t = omega (arith, counted-none p none t.short.items, count_by-none p none t.long.items)
