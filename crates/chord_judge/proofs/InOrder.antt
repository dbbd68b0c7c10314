-- The lookups in progress in the order of their begins.
use Rattle.std.proofs.Common.{◌≡◌, inl, inr, ℕ, zero, suc, ◌+◌, ◌==◌, ◌<◌, ◌≤◌, ◌&&◌, Bool, true, false, cond, not, nat_lt, List, [], ◌∷◌, ◌++◌, Vec, Global, filter, length, get_or, refl, sym, ap, ◌∙◌, arith, count_by}
use Rattle.std.specs.List.{All, flat_map, sum_by}
use Rattle.std.specs.List.Sorted.{IsNonDecreasingBy, IsPermutation}
use Rattle.std.proofs.lemmas.Bool.{and_parts, cases_Bool, eqb-true}
use Rattle.std.proofs.lemmas.Bool.Decides.{nat_tests}
use Rattle.std.proofs.lemmas.List.Elements.{All-cons, All-filter, All-head, All-nil, All-push, All-tail, All-weaker, filter_passes}
use Rattle.std.proofs.lemmas.List.Filters.{sum_by-filter_both}
use Rattle.std.proofs.lemmas.List.Sorted.{sum_by-IsPermutation}
use Rattle.std.proofs.lemmas.List.Sums.{sum_by-append, sum_by-cons}
use Rattle.chord_judge.specs.Judged.{is_begin, is_of, open_after, without_first}
use Rattle.chord_judge.specs.Open.{AreNumbered, Ascend}
use Rattle.chord_judge.specs.declared.row.Lookup.{Lookup}
use Rattle.chord_judge.specs.declared.told.Told.{Told}
use Rattle.chord_judge.proofs.InProgress.{HeldIn, begun_more, cut_other, open_cases, without_all}
use Rattle.chord_trace.specs.Kinds.{is_lookup}

-- numbers ascend
ascend_push : (xs : List Lookup) (x : Lookup) → Ascend xs → All (λ y. y.number < x.number) xs → Ascend (xs ++ x ∷ [])
ascend_push [] x h low = (All-nil (λ later. x.number < later.number), tt)
ascend_push (y ∷ ys) x h low = (
  All-push (λ later. y.number < later.number) ys x h.0 (All-head (λ z. z.number < x.number) y ys low),
  ascend_push ys x h.1 (All-tail (λ z. z.number < x.number) y ys low),
)

ascend_without : (test : Lookup → Bool) (xs : List Lookup) → Ascend xs → Ascend (without_first test xs)
ascend_without test [] h = tt
ascend_without test (x ∷ xs) h = by_test (ascend_without test xs h.1) (test x) refl
  where
    by_test : Ascend (without_first test xs) → (t : Bool) → test x ≡ t → Ascend (without_first test (x ∷ xs))
    by_test rest true f = rw f h.1
    by_test rest false f = rw f (without_all (λ later. x.number < later.number) test xs h.0, rest)

ascend_filter : (test : Lookup → Bool) (xs : List Lookup) → Ascend xs → Ascend (filter test xs)
ascend_filter test [] h = tt
ascend_filter test (x ∷ xs) h = by_test (ascend_filter test xs h.1) (test x) refl
  where
    by_test : Ascend (filter test xs) → (t : Bool) → test x ≡ t → Ascend (filter test (x ∷ xs))
    by_test rest true f = rw f (All-filter test (λ later. x.number < later.number) xs h.0, rest)
    by_test rest false f = rw f rest

-- the numbers of the lookups in progress ascend, and are below the number of begins
numbered : (lines : List Told) → Ascend (open_after lines) × All (λ x. x.number < count_by is_begin lines) (open_after lines)
numbered [] = (tt, All-nil (λ x. x.number < 0))
numbered (told ∷ lines) =
    let before = numbered lines in
    let xs = open_after lines in
    let n = count_by is_begin lines in
    let more : count_by is_begin (told ∷ lines) ≡ cond (is_lookup told.line) 1 0 + n = begun_more told lines in
    let P : Lookup → Type 0 = λ x. x.number < count_by is_begin (told ∷ lines) in
    let low : All P xs = All-weaker (λ x. x.number < n) P (λ x h. omega (arith, h, more)) xs before.1 in (
      open_cases Ascend told.line n told.time told.node xs before.0 (λ test. ascend_without test xs before.0) (λ test. ascend_filter test xs before.0)
          (λ key _. ascend_push xs (record { number = n; asker = told.node; key = key; begun = told.time }) before.0 before.1),
      open_cases (All P) told.line n told.time told.node xs low (λ test. without_all P test xs low) (λ test. All-filter test P xs low)
          (λ key is. let one : ◌≡◌ {A = ℕ} (cond (is_lookup told.line) 1 0) 1 = ap (λ b. cond {A = ℕ} b 1 0) is in
          All-push P xs (record { number = n; asker = told.node; key = key; begun = told.time }) low (omega (arith, more, one))),
    )

pub are_numbered : (nodes : ℕ) (lines : List Told) → All (λ x. x.asker < nodes) (open_after lines) → AreNumbered nodes (open_after lines)
are_numbered nodes lines askers = record { askers = askers; ascend = (numbered lines).0 }

-- the lookups of each node in turn, from node a on
parts : List Lookup → (a n : ℕ) → List Lookup
parts xs a zero = []
parts xs a (suc n) = filter (is_of a) xs ++ parts xs (a + 1) n

held_parts : (lists : List (Vec Lookup Global)) (a : ℕ) (xs : List Lookup)
    → ((k : ℕ) (d : Vec Lookup Global) → k < length lists → (get_or lists k d).items ≡ filter (is_of (a + k)) xs)
    → flat_map (λ list. list.items) lists ≡ parts xs a (length lists)
unfolding parts
held_parts [] a xs held = refl
held_parts (v ∷ vs) a xs held =
    let first : v.items ≡ filter (is_of a) xs = held 0 v (omega arith) ∙ ap (λ (k : ℕ). filter (is_of k) xs) (omega arith) in
    let rest = held_parts vs (a + 1) xs (λ k d low. held (suc k) d (omega (arith, low)) ∙ ap (λ (j : ℕ). filter (is_of j) xs) (omega arith)) in
    ap (λ (l : List Lookup). l ++ flat_map (λ list. list.items) vs) first ∙ ap (λ (l : List Lookup). filter (is_of a) xs ++ l) rest

parts_without : (m a n : ℕ) (xs : List Lookup) → m < a → parts (filter (λ x. not (is_of m x)) xs) a n ≡ parts xs a n
unfolding parts
parts_without m a zero xs low = refl
parts_without m a (suc n) xs low =
    ap (λ (l : List Lookup). l ++ parts (filter (λ x. not (is_of m x)) xs) (a + 1) n) (cut_other m a (λ s. absurd (omega (arith, s, low))) xs)
    ∙ ap (λ (l : List Lookup). filter (is_of a) xs ++ l) (parts_without m (a + 1) n xs (omega (arith, low)))

-- all parts together have what the list has
summed : (f : Lookup → ℕ) (n a : ℕ) (xs : List Lookup) → All (λ x. a ≤ x.asker) xs → All (λ x. x.asker < a + n) xs → sum_by f (parts xs a n) ≡ sum_by f xs
unfolding parts
summed f zero a [] least most = refl
summed f zero a (x ∷ xs) least most =
    let l : a ≤ x.asker = All-head (λ y. a ≤ y.asker) x xs least in let h : x.asker < a + 0 = All-head (λ y. y.asker < a + 0) x xs most in absurd (omega (arith, l, h))
summed f (suc n) a xs least most =
    let other : Lookup → Bool = λ x. not (is_of a x) in
    let ys = filter other xs in
    let apart = filter_passes other xs in
    let low = All-filter other (λ x. a ≤ x.asker) xs least in
    let high = All-filter other (λ x. x.asker < a + suc n) xs most in
    let rest : sum_by f (parts ys (a + 1) n) ≡ sum_by f ys =
    summed f n (a + 1) ys (λ k d within. above (get_or ys k d).asker (low k d within) (apart k d within)) (λ k d within. let h : (get_or ys k d).asker < a + suc n = high k d within in omega (arith, h)) in
    let same : sum_by f (parts ys (a + 1) n) ≡ sum_by f (parts xs (a + 1) n) = ap (sum_by f) (parts_without a (a + 1) n xs (omega arith)) in
    let both : sum_by f (filter (is_of a) xs) + sum_by f ys ≡ sum_by f xs = sum_by-filter_both (is_of a) other (λ x. refl) f xs in
    let joined : sum_by f (filter (is_of a) xs ++ parts xs (a + 1) n) ≡ sum_by f (filter (is_of a) xs) + sum_by f (parts xs (a + 1) n) =
    sum_by-append f (filter (is_of a) xs) (parts xs (a + 1) n) in
    omega (arith, rest, same, both, joined)
  where
    above : (asker : ℕ) → a ≤ asker → not (asker == a) ≡ true → a + 1 ≤ asker
    above asker l t = grind (arith, nat_tests)

-- a list in order with the lookups of one whose numbers ascend is that one
abbrev same : Lookup → Lookup → Bool
same a b = a.number == b.number && (a.asker == b.asker && (a.key == b.key && a.begun == b.begun))

same_self : (a : Lookup) → same a a ≡ true
same_self a = grind (arith, nat_tests)

same_only : (a b : Lookup) → same a b ≡ true → a ≡ b
same_only a b h =
    let first = and_parts (a.number == b.number) (a.asker == b.asker && (a.key == b.key && a.begun == b.begun)) h in
    let second = and_parts (a.asker == b.asker) (a.key == b.key && a.begun == b.begun) first.1 in
    let third = and_parts (a.key == b.key) (a.begun == b.begun) second.1 in
    let n : a.number ≡ b.number = eqb-true a.number b.number first.0 in
    let s : a.asker ≡ b.asker = eqb-true a.asker b.asker second.0 in
    let k : a.key ≡ b.key = eqb-true a.key b.key third.0 in
    let t : a.begun ≡ b.begun = eqb-true a.begun b.begun third.1 in
    ap (λ (x : ℕ). record { number = x; asker = a.asker; key = a.key; begun = a.begun }) n
    ∙ ap (λ (x : ℕ). record { number = b.number; asker = x; key = a.key; begun = a.begun }) s
    ∙ ap (λ (x : ℕ). record { number = b.number; asker = b.asker; key = x; begun = a.begun }) k
    ∙ ap (λ (x : ℕ). record { number = b.number; asker = b.asker; key = b.key; begun = x }) t

counted : (p : Lookup → Bool) (x : Lookup) (xs : List Lookup) → count_by p (x ∷ xs) ≡ cond (p x) 1 0 + count_by p xs
counted p x xs = sum_by-cons (λ (y : Lookup). cond (p y) 1 0) x xs

none : (p : Lookup → Bool) (xs : List Lookup) → All (λ x. p x ≡ false) xs → count_by p xs ≡ 0
none p [] h = refl
none p (x ∷ xs) h =
    let first : ◌≡◌ {A = ℕ} (cond (p x) 1 0) 0 = ap (λ b. cond {A = ℕ} b 1 0) (All-head (λ y. p y ≡ false) x xs h) in
    let rest : count_by p xs ≡ 0 = none p xs (All-tail (λ y. p y ≡ false) x xs h) in
    let both = counted p x xs in omega (arith, first, rest, both)

first_fails : (p : Lookup → Bool) (x : Lookup) (xs : List Lookup) → count_by p (x ∷ xs) ≡ 0 → p x ≡ false
first_fails p x xs h =
    elim (cases_Bool (p x)) [
      | inl holds ↦
          let one : ◌≡◌ {A = ℕ} (cond (p x) 1 0) 1 = ap (λ b. cond {A = ℕ} b 1 0) holds in let both = counted p x xs in absurd (omega (arith, one, both, h))
      | inr fails ↦ fails
    ]

not_below : (m n : ℕ) → n ≤ m → nat_lt m n ≡ false
not_below m n h = grind (arith, nat_tests)

at_most : (m n : ℕ) → nat_lt m n ≡ false → n ≤ m
at_most m n h = grind (arith, nat_tests)

pub unique : (xs ys : List Lookup) → Ascend xs → IsNonDecreasingBy (λ (l : Lookup). l.number) ys → ((p : Lookup → Bool) → count_by p ys ≡ count_by p xs) → ys ≡ xs
unique [] [] up order counts = refl
unique [] (y ∷ ys) up order counts = let many = counted (λ _. true) y ys in let all = counts (λ _. true) in absurd (omega (arith, many, all))
unique (x ∷ xs) [] up order counts = let many = counted (λ _. true) x xs in let all = counts (λ _. true) in absurd (omega (arith, many, all))
unique (x ∷ xs) (y ∷ ys) up order counts =
    let below_x : Lookup → Bool = λ l. nat_lt l.number x.number in
    let below_y : Lookup → Bool = λ l. nat_lt l.number y.number in
    let least_x : count_by below_x (x ∷ xs) ≡ 0 = none below_x (x ∷ xs) (All-cons (λ l. below_x l ≡ false) x xs (not_below x.number x.number (omega arith))
    (All-weaker (λ l. x.number < l.number) (λ l. below_x l ≡ false) (λ l h. not_below l.number x.number (omega (arith, h))) xs up.0)) in
    let least_y : count_by below_y (y ∷ ys) ≡ 0 = none below_y (y ∷ ys) (λ k d low. not_below (get_or (y ∷ ys) k d).number y.number (order 0 k d (omega arith) low)) in
    let at_least : x.number ≤ y.number = at_most y.number x.number (first_fails below_x y ys (counts below_x ∙ least_x)) in
    let no_more : y.number ≤ x.number = at_most x.number y.number (first_fails below_y x xs (sym (counts below_y) ∙ least_y)) in
    let later : count_by (same y) xs ≡ 0 = none (same y) xs (All-weaker (λ l. x.number < l.number) (λ l. same y l ≡ false) (λ l h. other l (omega (arith, h, no_more))) xs up.0) in
    let one_y : ◌≡◌ {A = ℕ} (cond (same y y) 1 0) 1 = ap (λ b. cond {A = ℕ} b 1 0) (same_self y) in
    let in_y = counted (same y) y ys in
    let in_x = counted (same y) x xs in
    let all : count_by (same y) (y ∷ ys) ≡ count_by (same y) (x ∷ xs) = counts (same y) in
    let some : 1 ≤ cond {A = ℕ} (same y x) 1 0 = omega (arith, later, one_y, in_y, in_x, all) in
    let is : y ≡ x = same_only y x (passes (same y x) some) in
    let rest : ys ≡ xs = unique xs ys up.1 (λ i j d le low. order (suc i) (suc j) d (omega (arith, le)) (omega (arith, low))) (λ p. tails p is) in
    ap (λ (l : Lookup). l ∷ ys) is ∙ ap (λ (l : List Lookup). x ∷ l) rest
  where
    other : (l : Lookup) → y.number < l.number → same y l ≡ false
    other l h = let apart : (y.number == l.number) ≡ false = grind (arith, nat_tests) in rw apart refl

    passes : (b : Bool) → 1 ≤ cond {A = ℕ} b 1 0 → b ≡ true
    passes true h = refl
    passes false h = absurd (omega (arith, h))

    tails : (p : Lookup → Bool) → y ≡ x → count_by p ys ≡ count_by p xs
    tails p is =
        let left = counted p y ys in let right = counted p x xs in let whole = counts p in
        let first : ◌≡◌ {A = ℕ} (cond (p y) 1 0) (cond (p x) 1 0) = ap (λ (l : Lookup). cond {A = ℕ} (p l) 1 0) is in omega (arith, left, right, whole, first)

-- the sorted lookups of all lists are those that the lists hold
pub sorted_held : (lists : List (Vec Lookup Global)) (xs all sorted : List Lookup) → HeldIn lists xs → AreNumbered (length lists) xs
    → all ≡ flat_map (λ list. list.items) lists → IsPermutation all sorted → IsNonDecreasingBy (λ (l : Lookup). l.number) sorted → sorted ≡ xs
sorted_held lists xs all sorted held numbers is moved order =
    let whole : all ≡ parts xs 0 (length lists) = is ∙ held_parts lists 0 xs (λ k d low. held k d low ∙ ap (λ (j : ℕ). filter (is_of j) xs) (omega arith)) in
    unique xs sorted numbers.ascend order
    (λ p. sum_by-IsPermutation (λ (l : Lookup). cond (p l) 1 0) all sorted moved
    ∙ ap (sum_by (λ (l : Lookup). cond (p l) 1 0)) whole
    ∙ summed (λ (l : Lookup). cond (p l) 1 0) (length lists) 0 xs (λ k d low. omega arith)
    (All-weaker (λ x. x.asker < length lists) (λ x. x.asker < 0 + length lists) (λ x h. omega (arith, h)) xs numbers.askers))
