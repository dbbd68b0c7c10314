-- Times in ascending order.
use Rattle.std.proofs.Common.{◌≡◌, ◌∙◌, ℕ, zero, suc, ◌+◌, ◌<◌, ◌≤◌, true, false, cond, List, [], ◌∷◌, None, Some, drop, length, get_or, slice_get, nat_lt, lt-ltb, le-ltb, ap, sym, arith}
use Rattle.std.proofs.lemmas.List.{drop_all, drop_more}
use Rattle.std.specs.List.{AllByRecursion, filter}
use Rattle.des_machine.specs.Times.{IsAscending}

each-weaker : (P Q : ℕ → Type 0) (xs : List ℕ) → ((x : ℕ) → P x → Q x) → AllByRecursion P xs → AllByRecursion Q xs
each-weaker P Q [] h all = tt
each-weaker P Q (x ∷ xs) h all = (h x all.0, each-weaker P Q xs h all.1)

-- if one is late, all that follow are
pub late-from : (xs : List ℕ) (i t : ℕ) → IsAscending xs → i < length xs → t < get_or xs i 0 → AllByRecursion (λ u. t < u) (drop i xs)
late-from [] i t up inside late = absurd (omega (arith, inside))
late-from (x ∷ xs) zero t up inside late = (late, each-weaker (λ u. x < u) (λ u. t < u) xs (λ u h. omega (arith, h, late)) up.0)
late-from (x ∷ xs) (suc i) t up inside late = late-from xs i t up.1 (omega (arith, inside)) late

-- a time that is not above another is not among the times above it
pub skip_past : (time : ℕ) (xs : List ℕ) (i d : ℕ) → i < length xs → d ≡ get_or xs i d → d ≤ time
    → filter (λ t. nat_lt time t) (drop (i + 1) xs) ≡ filter (λ t. nat_lt time t) (drop i xs)
skip_past time xs i d inside is low =
    let come : nat_lt time (get_or xs i d) ≡ false = le-ltb time (get_or xs i d) (omega (arith, low, is)) in
    sym (ap (filter (λ t. nat_lt time t)) (drop_more xs i d inside)
    ∙ ap (λ b. cond b (get_or xs i d ∷ filter (λ t. nat_lt time t) (drop (i + 1) xs)) (filter (λ t. nat_lt time t) (drop (i + 1) xs))) come)

pub one_after : (time : ℕ) (xs : List ℕ) (i d : ℕ) → i < length xs → d ≡ get_or xs i d → time < d
    → slice_get (filter (λ t. nat_lt time t) (drop i xs)) 0 ≡ Some d
one_after time xs i d inside is late =
    let open_yet : nat_lt time (get_or xs i d) ≡ true = lt-ltb time (get_or xs i d) (omega (arith, late, is)) in
    ap (λ ts. slice_get (filter (λ t. nat_lt time t) ts) 0) (drop_more xs i d inside)
    ∙ ap (λ b. slice_get (cond b (get_or xs i d ∷ filter (λ t. nat_lt time t) (drop (i + 1) xs)) (filter (λ t. nat_lt time t) (drop (i + 1) xs))) 0) open_yet
    ∙ ap Some (sym is)

pub none_after : (time : ℕ) (xs : List ℕ) (i : ℕ) → length xs ≤ i → slice_get (filter (λ t. nat_lt time t) (drop i xs)) 0 ≡ None
none_after time xs i past = ap (λ ts. slice_get (filter (λ t. nat_lt time t) ts) 0) (drop_all i xs past)
