-- Lists in the order of a measure.
use Rattle.std.proofs.Common.{◌≡◌, ◌⊎◌, ⊎_elim, inl, inr, ℕ, ◌<◌, ◌≤◌, Bool, true, false, cond, List, [], ◌∷◌, refl, sym, ap, ◌∙◌, subst, arith, nat_lt}
use Rattle.std.specs.List.{Contains}
use Rattle.std.proofs.lemmas.Bool.Decides.{nat_tests}
use Rattle.des_event.proofs.Members.{contains_none, contains_here, contains_there, contains_cons}
use Rattle.chord_node.specs.Ring.{put_by, sorted_by}

-- each element is less than all later ones
abbrev pub IsAscending : (ℕ → ℕ) → List ℕ → Type 0
IsAscending measure [] = Unit {0}
IsAscending measure (x ∷ xs) = ((y : ℕ) → Contains xs y → measure x < measure y) × IsAscending measure xs

-- what is put in is there, and all else that was
pub put_by-contains : (measure : ℕ → ℕ) (x : ℕ) (ys : List ℕ) (z : ℕ) → Contains (put_by measure x ys) z → (x ≡ z) ⊎ Contains ys z
put_by-contains measure x [] z c = contains_cons z x [] c
put_by-contains measure x (y ∷ ys) z c = go (nat_lt (measure x) (measure y)) c (put_by-contains measure x ys z)
  where
    go : (b : Bool) → Contains (cond b (x ∷ (y ∷ ys)) (y ∷ put_by measure x ys)) z → (Contains (put_by measure x ys) z → (x ≡ z) ⊎ Contains ys z)
        → (x ≡ z) ⊎ Contains (y ∷ ys) z
    go true h rest = contains_cons z x (y ∷ ys) h
    go false h rest =
        ⊎_elim (λ e. inr (subst (λ w. Contains (y ∷ ys) w) e (contains_here y ys)))
        (λ r. ⊎_elim (λ e. inl e) (λ s. inr (contains_there z y ys s)) (rest r))
        (contains_cons z y (put_by measure x ys) h)

pub put_by-has : (measure : ℕ → ℕ) (x : ℕ) (ys : List ℕ) → Contains (put_by measure x ys) x
put_by-has measure x [] = contains_here x []
put_by-has measure x (y ∷ ys) = go (nat_lt (measure x) (measure y)) (put_by-has measure x ys)
  where
    go : (b : Bool) → Contains (put_by measure x ys) x → Contains (cond b (x ∷ (y ∷ ys)) (y ∷ put_by measure x ys)) x
    go true rest = contains_here x (y ∷ ys)
    go false rest = contains_there x y (put_by measure x ys) rest

pub put_by-keeps : (measure : ℕ → ℕ) (x : ℕ) (ys : List ℕ) (z : ℕ) → Contains ys z → Contains (put_by measure x ys) z
put_by-keeps measure x [] z c = absurd (contains_none z c)
put_by-keeps measure x (y ∷ ys) z c = go (nat_lt (measure x) (measure y)) (contains_cons z y ys c) (put_by-keeps measure x ys z)
  where
    go : (b : Bool) → (y ≡ z) ⊎ Contains ys z → (Contains ys z → Contains (put_by measure x ys) z)
        → Contains (cond b (x ∷ (y ∷ ys)) (y ∷ put_by measure x ys)) z
    go true h rest = contains_there z x (y ∷ ys) c
    go false (inl e) rest = subst (λ w. Contains (y ∷ put_by measure x ys) w) e (contains_here y (put_by measure x ys))
    go false (inr r) rest = contains_there z y (put_by measure x ys) (rest r)

pub sorted_by-contains : (measure : ℕ → ℕ) (xs : List ℕ) (z : ℕ) → Contains (sorted_by measure xs) z → Contains xs z
sorted_by-contains measure [] z c = c
sorted_by-contains measure (x ∷ xs) z c =
    ⊎_elim (λ e. subst (λ w. Contains (x ∷ xs) w) e (contains_here x xs))
    (λ r. contains_there z x xs (sorted_by-contains measure xs z r))
    (put_by-contains measure x (sorted_by measure xs) z c)

pub sorted_by-has : (measure : ℕ → ℕ) (xs : List ℕ) (z : ℕ) → Contains xs z → Contains (sorted_by measure xs) z
sorted_by-has measure [] z c = c
sorted_by-has measure (x ∷ xs) z c =
    ⊎_elim (λ e. subst (λ w. Contains (put_by measure x (sorted_by measure xs)) w) e (put_by-has measure x (sorted_by measure xs)))
    (λ r. put_by-keeps measure x (sorted_by measure xs) z (sorted_by-has measure xs z r))
    (contains_cons z x xs c)

-- an element that differs from all others by its measure keeps a list ascending
pub put_by-ascends : (measure : ℕ → ℕ) (x : ℕ) (ys : List ℕ) → ((y : ℕ) → Contains ys y → measure x ≡ measure y → ⊥) → IsAscending measure ys
    → IsAscending measure (put_by measure x ys)
put_by-ascends measure x [] new up = (λ y c. absurd (contains_none y c), tt)
put_by-ascends measure x (y ∷ ys) new up =
    go (nat_lt (measure x) (measure y)) refl (put_by-ascends measure x ys (λ z c. new z (contains_there z y ys c)) up.1)
  where
    before : nat_lt (measure x) (measure y) ≡ true → (z : ℕ) → Contains (y ∷ ys) z → measure x < measure z
    before h z c =
        let first : measure x < measure y = grind (arith, nat_tests) in
        ⊎_elim (λ e. subst (λ w. measure x < measure w) e first) (λ r. omega (arith, first, up.0 z r)) (contains_cons z y ys c)

    after : nat_lt (measure x) (measure y) ≡ false → (z : ℕ) → Contains (put_by measure x ys) z → measure y < measure z
    after h z c =
        let apart : measure x ≡ measure y → ⊥ = new y (contains_here y ys) in
        let least : measure y ≤ measure x = grind (arith, nat_tests) in
        let first : measure y < measure x = omega (arith, apart, least) in
        ⊎_elim (λ e. subst (λ w. measure y < measure w) e first) (λ r. up.0 z r) (put_by-contains measure x ys z c)

    go : (b : Bool) → nat_lt (measure x) (measure y) ≡ b → IsAscending measure (put_by measure x ys)
        → IsAscending measure (cond b (x ∷ (y ∷ ys)) (y ∷ put_by measure x ys))
    go true h rest = (before h, up)
    go false h rest = (after h, rest)

-- no two elements have one measure
abbrev pub AreApart : (ℕ → ℕ) → List ℕ → Type 0
AreApart measure [] = Unit {0}
AreApart measure (x ∷ xs) = ((y : ℕ) → Contains xs y → measure x ≡ measure y → ⊥) × AreApart measure xs

pub sorted_by-ascends : (measure : ℕ → ℕ) (xs : List ℕ) → AreApart measure xs → IsAscending measure (sorted_by measure xs)
sorted_by-ascends measure [] apart = tt
sorted_by-ascends measure (x ∷ xs) apart =
    put_by-ascends measure x (sorted_by measure xs) (λ y c. apart.0 y (sorted_by-contains measure xs y c)) (sorted_by-ascends measure xs apart.1)

-- two ascending lists of the same elements are one
pub same_ascending : (measure : ℕ → ℕ) (xs ys : List ℕ) → IsAscending measure xs → IsAscending measure ys → ((z : ℕ) → Contains xs z → Contains ys z)
    → ((z : ℕ) → Contains ys z → Contains xs z) → xs ≡ ys
same_ascending measure [] [] p q h k = refl
same_ascending measure [] (y ∷ ys) p q h k = absurd (contains_none y (k y (contains_here y ys)))
same_ascending measure (x ∷ xs) [] p q h k = absurd (contains_none x (h x (contains_here x xs)))
same_ascending measure (x ∷ xs) (y ∷ ys) p q h k =
    λ i. heads i ∷ same_ascending measure xs ys p.1 q.1 there back i
  where
    heads : x ≡ y
    heads =
        ⊎_elim (λ e. sym e)
        (λ c. ⊎_elim (λ e. e) (λ d. absurd (omega (arith, q.0 x c, p.0 y d))) (contains_cons y x xs (k y (contains_here y ys))))
        (contains_cons x y ys (h x (contains_here x xs)))

    there : (z : ℕ) → Contains xs z → Contains ys z
    there z c = ⊎_elim (λ e. absurd (omega (arith, p.0 z c, ap measure (heads ∙ e)))) (λ r. r) (contains_cons z y ys (h z (contains_there z x xs c)))

    back : (z : ℕ) → Contains ys z → Contains xs z
    back z c = ⊎_elim (λ e. absurd (omega (arith, q.0 z c, ap measure (sym heads ∙ e)))) (λ r. r) (contains_cons z x xs (k z (contains_there z y ys c)))
