-- How records are found, placed and dropped in packed chunks.
use Rattle.std.proofs.Common.{
  ◌≡◌,
  ℕ,
  zero,
  suc,
  ◌+◌,
  ◌-◌,
  ◌*◌,
  ◌<◌,
  ◌≤◌,
  List,
  [],
  ◌∷◌,
  ◌++◌,
  length,
  set,
  get_or,
  slice_get,
  refl,
  sym,
  ap,
  ◌∙◌,
  subst,
  arith,
  length-append,
  append_assoc,
}
use Rattle.std.specs.List.{All}
use Rattle.std.proofs.lemmas.List.Elements.{All-head, All-tail}
use Rattle.des_arena.specs.Packed.{IsPacked, joined}

module _ {X : Type 0} where
  slice_get-left : (xs ys : List X) (i : ℕ) → i < length xs → slice_get (xs ++ ys) i ≡ slice_get xs i
  slice_get-left [] ys i h = absurd (omega arith)
  slice_get-left (x ∷ xs) ys zero h = refl
  slice_get-left (x ∷ xs) ys (suc i) h = slice_get-left xs ys i (omega arith)

  slice_get-right : (xs ys : List X) (i k : ℕ) → i ≡ length xs + k → slice_get (xs ++ ys) i ≡ slice_get ys k
  slice_get-right [] ys i k e = let same : i ≡ k = omega arith in ap (slice_get ys) same
  slice_get-right (x ∷ xs) ys zero k e = absurd (omega arith)
  slice_get-right (x ∷ xs) ys (suc i) k e = slice_get-right xs ys i k (omega arith)

  no_items : (xs : List X) → length xs ≡ 0 → xs ≡ []
  no_items [] e = refl
  no_items (x ∷ xs) e = absurd (omega arith)

  append-nil : (xs : List X) → xs ++ [] ≡ xs
  append-nil [] = refl
  append-nil (x ∷ xs) = ap (λ l. x ∷ l) (append-nil xs)

  pub length-joined : (cs : List (List X)) (n : ℕ) → IsPacked cs n → length (joined cs) ≡ n
  length-joined [] n p = sym p
  length-joined (c ∷ cs) n p = let rest = length-joined cs (n - 256) p.1 in let both = length-append c (joined cs) in omega (arith, p.0, rest, both)

  pub packed_fits : (cs : List (List X)) (n : ℕ) → IsPacked cs n → n ≤ 256 * length cs
  packed_fits [] n p = omega (arith, p)
  packed_fits (c ∷ cs) n p = let rest = packed_fits cs (n - 256) p.1 in omega (arith, rest)

  pub record Found (cs : List (List X)) (i r : ℕ) : Type 0 where
    pub chunk : i < length cs
    pub place : r < length (get_or cs i [])
    pub item : slice_get (joined cs) (256 * i + r) ≡ slice_get (get_or cs i []) r

  -- the record r of the chunk i
  pub packed_get : (cs : List (List X)) (n i r : ℕ) → IsPacked cs n → r < 256 → 256 * i + r < n → Found cs i r
  packed_get [] n i r p lt h = absurd (omega (arith, p))
  packed_get (c ∷ cs) n zero r p lt h =
      let here : r < length c = omega (arith, p.0) in
      let at : 256 * 0 + r ≡ r = omega arith in
      record { chunk = omega arith; place = here; item = ap (slice_get (c ++ joined cs)) at ∙ slice_get-left c (joined cs) r here }
  packed_get (c ∷ cs) n (suc i) r p lt h =
      let on = packed_get cs (n - 256) i r p.1 lt (omega arith) in
      record {
        chunk = omega (arith, on.chunk);
        place = on.place;
        item = slice_get-right c (joined cs) (256 * suc i + r) (256 * i + r) (omega (arith, p.0)) ∙ on.item;
      }

  empty_after : (cs : List (List X)) (n : ℕ) → n ≡ 0 → IsPacked cs n → joined cs ≡ []
  empty_after cs n e p = no_items (joined cs) (length-joined cs n p ∙ e)

  pub record Placed (cs : List (List X)) (n i : ℕ) (x : X) : Type 0 where
    pub has_place : length (get_or cs i []) < 256
    pub packed : IsPacked (set cs i (get_or cs i [] ++ x ∷ [])) (n + 1)
    pub items : joined (set cs i (get_or cs i [] ++ x ∷ [])) ≡ joined cs ++ x ∷ []

  -- one more record, in the chunk i
  pub packed_place : (cs : List (List X)) (n i : ℕ) (x : X) → IsPacked cs n → 256 * i ≤ n → n < 256 * i + 256 → i < length cs → Placed cs n i x
  packed_place [] n i x p low high h = absurd (omega arith)
  packed_place (c ∷ cs) n zero x p low high h =
      let long = length-append c (x ∷ []) in
      let none : n - 256 ≡ 0 = omega arith in
      let rest : joined cs ≡ [] = empty_after cs (n - 256) none p.1 in
      let same : n - 256 ≡ n + 1 - 256 = omega arith in
      record {
        has_place = omega (arith, p.0);
        packed = (omega (arith, p.0, long), subst (λ k. IsPacked cs k) same p.1);
        items = ap (λ l. (c ++ x ∷ []) ++ l) rest ∙ append-nil (c ++ x ∷ []) ∙ ap (λ l. l ++ x ∷ []) (sym (append-nil c) ∙ ap (λ l. c ++ l) (sym rest));
      }
  packed_place (c ∷ cs) n (suc i) x p low high h =
      let on = packed_place cs (n - 256) i x p.1 (omega arith) (omega arith) (omega arith) in
      let later : (n - 256) + 1 ≡ n + 1 - 256 = omega arith in
      record {
        has_place = on.has_place;
        packed = (omega (arith, p.0), subst (λ k. IsPacked (set cs i (get_or cs i [] ++ x ∷ [])) k) later on.packed);
        items = ap (λ l. c ++ l) on.items ∙ sym (append_assoc c (joined cs) (x ∷ []));
      }

  -- one more chunk, without records
  pub packed_more : (cs : List (List X)) (n : ℕ) → IsPacked cs n → IsPacked (cs ++ [] ∷ []) n
  packed_more [] n p = (omega (arith, p), omega (arith, p))
  packed_more (c ∷ cs) n p = (p.0, packed_more cs (n - 256) p.1)

  pub joined_more : (cs : List (List X)) → joined (cs ++ [] ∷ []) ≡ joined cs
  joined_more [] = refl
  joined_more (c ∷ cs) = ap (λ l. c ++ l) (joined_more cs)

  pub packed_none : (cs : List (List X)) → All (λ c. c ≡ []) cs → IsPacked cs 0
  packed_none [] all = refl
  packed_none (c ∷ cs) all =
      let here = All-head (λ (c : List X). c ≡ []) c cs all in
      let empty : length c ≡ 0 = ap length here in
      (omega (arith, empty), packed_none cs (All-tail (λ (c : List X). c ≡ []) c cs all))

  pub joined_none : (cs : List (List X)) → All (λ c. c ≡ []) cs → joined cs ≡ []
  joined_none cs all = empty_after cs 0 refl (packed_none cs all)

-- an element that is there does not depend on the default
pub get_any : {A : Type 0} (xs : List A) (i : ℕ) (d e : A) → i < length xs → get_or xs i d ≡ get_or xs i e
get_any [] i d e h = absurd (omega arith)
get_any (x ∷ xs) zero d e h = refl
get_any (x ∷ xs) (suc i) d e h = get_any xs i d e (omega arith)
