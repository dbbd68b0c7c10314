-- The times of audits ascend.
use Rattle.std.proofs.Common.{◌≡◌, ◌≢◌, ◌∙◌, ℕ, zero, suc, ◌+◌, ◌-◌, ◌*◌, ◌/◌, ◌<◌, ◌≤◌, List, [], ◌∷◌, ◌++◌, length, length-append, refl, arith, ⊎_elim, subst}
use Rattle.std.proofs.Math.Nat.{div-lt_iff_lt-mul, div-mul-le_self}
use Rattle.std.specs.List.{AllByRecursion, AllPairs, Contains}
use Rattle.des_event.proofs.Members.{All_from, AllPairs_none, AllPairs_cons, contains_none, contains_cons}
use Rattle.chord_scenario.specs.declared.scenario.Scenario.{Scenario}
use Rattle.chord_scenario.specs.Range.{IsInRange}
use Rattle.chord_machine.specs.AuditTimes.{AreAuditsInTime, audit_times, most_audits, multiples}
use Rattle.des_machine.specs.Times.{IsAscending}

each-weaker : (P Q : ℕ → Type 0) (xs : List ℕ) → ((x : ℕ) → P x → Q x) → AllByRecursion P xs → AllByRecursion Q xs
each-weaker P Q [] h all = tt
each-weaker P Q (x ∷ xs) h all = (h x all.0, each-weaker P Q xs h all.1)

each-push : (P : ℕ → Type 0) (xs : List ℕ) (t : ℕ) → AllByRecursion P xs → P t → AllByRecursion P (xs ++ t ∷ [])
each-push P [] t all here = (here, tt)
each-push P (x ∷ xs) t all here = (all.0, each-push P xs t all.1 here)

ascending-push : (xs : List ℕ) (t : ℕ) → IsAscending xs → AllByRecursion (λ x. x < t) xs → IsAscending (xs ++ t ∷ [])
ascending-push [] t up below = (tt, tt)
ascending-push (x ∷ xs) t up below = (each-push (λ u. x < u) xs t up.0 below.0, ascending-push xs t up.1 below.1)

multiples-low : (period n : ℕ) → 1 ≤ period → AllByRecursion (λ t. t < (n + 1) * period) (multiples period n)
multiples-low period zero some = tt
multiples-low period (suc n) some =
    let here : (n + 1) * period < (suc n + 1) * period = grind arith in
    each-push (λ t. t < (suc n + 1) * period) (multiples period n) ((n + 1) * period)
    (each-weaker (λ t. t < (n + 1) * period) (λ t. t < (suc n + 1) * period) (multiples period n) (λ t h. omega (arith, h, here)) (multiples-low period n some))
    here

multiples-ascend : (period n : ℕ) → 1 ≤ period → IsAscending (multiples period n)
multiples-ascend period zero some = tt
multiples-ascend period (suc n) some = ascending-push (multiples period n) ((n + 1) * period) (multiples-ascend period n some) (multiples-low period n some)

multiples-most : (period n most : ℕ) → n * period ≤ most → AllByRecursion (λ t. t ≤ most) (multiples period n)
multiples-most period zero most h = tt
multiples-most period (suc n) most h =
    let here : (n + 1) * period ≤ most = grind (arith, h) in
    let before : n * period ≤ most = grind (arith, h) in
    each-push (λ t. t ≤ most) (multiples period n) ((n + 1) * period) (multiples-most period n most before) here

pub audits-ascend : (sc : Scenario) → IsInRange sc → IsAscending (audit_times sc)
audits-ascend sc ranges =
    let n : ℕ = (sc.duration - 1) / sc.audit in
    let some = ranges.numbers.duration_least in
    let fits : n * sc.audit ≤ sc.duration - 1 = div-mul-le_self (sc.duration - 1) sc.audit in
    ascending-push (multiples sc.audit n) sc.duration (multiples-ascend sc.audit n ranges.numbers.audit.least)
    (each-weaker (λ t. t ≤ sc.duration - 1) (λ t. t < sc.duration) (multiples sc.audit n) (λ t h. omega (arith, h, some))
    (multiples-most sc.audit n (sc.duration - 1) fits))

-- no audit comes after the end
pub audits-within : (sc : Scenario) → IsInRange sc → AllByRecursion (λ t. t ≤ sc.duration) (audit_times sc)
audits-within sc ranges =
    let n : ℕ = (sc.duration - 1) / sc.audit in
    let fits : n * sc.audit ≤ sc.duration = omega (arith, div-mul-le_self (sc.duration - 1) sc.audit) in
    each-push (λ t. t ≤ sc.duration) (multiples sc.audit n) sc.duration (multiples-most sc.audit n sc.duration fits) (omega arith)

each-at : (P : ℕ → Type 0) (xs : List ℕ) → AllByRecursion P xs → (x : ℕ) → Contains xs x → P x
each-at P [] all x c = absurd (contains_none x c)
each-at P (y ∷ xs) all x c = ⊎_elim (λ e. subst P e all.0) (λ r. each-at P xs all.1 x r) (contains_cons x y xs c)

ascending-apart : (xs : List ℕ) → IsAscending xs → AllPairs (λ (t u : ℕ). t ≢ u) xs
ascending-apart [] up = AllPairs_none (λ (t u : ℕ). t ≢ u)
ascending-apart (x ∷ xs) up = AllPairs_cons (λ (t u : ℕ). t ≢ u) x xs
    (λ u c s. let late : x < u = each-at (λ u. x < u) xs up.0 u c in omega (arith, late, s)) (ascending-apart xs up.1)

pub audits-in-time : (sc : Scenario) → IsInRange sc → AreAuditsInTime sc
audits-in-time sc ranges = record {
  ascending = audits-ascend sc ranges;
  distinct = ascending-apart (audit_times sc) (audits-ascend sc ranges);
  in_time = All_from (λ t. t ≤ sc.duration) (audit_times sc) (each-at (λ t. t ≤ sc.duration) (audit_times sc) (audits-within sc ranges));
}

multiples-long : (period n : ℕ) → length (multiples period n) ≡ n
multiples-long period zero = refl
multiples-long period (suc n) = length-append (multiples period n) ((n + 1) * period ∷ []) ∙ (let rest = multiples-long period n in omega (arith, rest))

pub audits-few : (sc : Scenario) → IsInRange sc → length (audit_times sc) ≤ most_audits
audits-few sc ranges =
    let n : ℕ = (sc.duration - 1) / sc.audit in
    let low : n < 1000000 = (div-lt_iff_lt-mul ranges.numbers.audit.least).1 (omega (arith, ranges.numbers.audits, ranges.numbers.duration_least)) in
    omega (arith, length-append (multiples sc.audit n) (sc.duration ∷ []), multiples-long sc.audit n, low)
