-- Which ranks ways cover, as each is added.
use Rattle.std.proofs.Common.{
  ◌≡◌,
  ℕ,
  zero,
  suc,
  ◌+◌,
  ◌<◌,
  Bool,
  true,
  false,
  nat_lt,
  max,
  ◌&&◌,
  ◌||◌,
  List,
  [],
  ◌∷◌,
  length,
  replicate,
  drop,
  take,
  get_or,
  set,
  refl,
  sym,
  ap,
  ◌∙◌,
  arith,
  zero-add,
  map,
  le-ltb,
  lt-ltb,
}
use Rattle.std.proofs.lemmas.Grind.{get_or_default_zero}
use Rattle.std.proofs.lemmas.List.{at_drop_more}
use Rattle.std.proofs.lemmas.List.Folds.{list_any_more}
use Rattle.std.specs.List.{list_any, range_with_len}
use Rattle.std.proofs.lemmas.Bool.Decides.{nat_tests}
use Rattle.std.proofs.lemmas.List.FromFn.{get_or-map-range_with_len, length-map-range_with_len}
use Rattle.chord_audit.specs.Tables.{reaches, is_inside, is_inside_list, is_marked}

pub below_max : (k a b : ℕ) → nat_lt k (max a b) ≡ (nat_lt k a || nat_lt k b)
below_max k a b = grind (arith, nat_tests)

or_swap : (a b c : Bool) → ((a || b) || c) ≡ ((a || c) || b)
or_swap true b c = refl
or_swap false true true = refl
or_swap false true false = refl
or_swap false false true = refl
or_swap false false false = refl

pub or_assoc : (a b c : Bool) → (a || (b || c)) ≡ ((a || b) || c)
or_assoc true b c = refl
or_assoc false b c = refl

shifted : (a m : ℕ) → nat_lt a m ≡ nat_lt (suc a) (suc m)
shifted a m = grind (arith, nat_tests)

-- whether k is below one of the first m numbers
abbrev pub reached : (k m : ℕ) → List ℕ → Bool
reached k m far = list_any (λ end. nat_lt k end) (take m far)

pub reached_max : (k m : ℕ) (far : List ℕ) (a end : ℕ) → a < length far
    → reached k m (set far a (max (get_or far a 0) end)) ≡ (reached k m far || (nat_lt a m && nat_lt k end))
reached_max k m [] a end h = absurd (omega arith)
reached_max k zero (x ∷ xs) zero end h = refl
reached_max k zero (x ∷ xs) (suc a) end h = sym (ap (λ b. b && nat_lt k end) (le-ltb (suc a) 0 (omega arith)))
reached_max k (suc m) (x ∷ xs) zero end h =
    ap (λ b. b || reached k m xs) (below_max k x end) ∙ or_swap (nat_lt k x) (nat_lt k end) (reached k m xs)
    ∙ ap (λ b. (nat_lt k x || reached k m xs) || (b && nat_lt k end)) (sym (lt-ltb 0 (suc m) (omega arith)))
reached_max k (suc m) (x ∷ xs) (suc a) end h =
    ap (λ b. nat_lt k x || b) (reached_max k m xs a end (omega arith)) ∙ or_assoc (nat_lt k x) (reached k m xs) (nat_lt a m && nat_lt k end)
    ∙ ap (λ b. reached k (suc m) (x ∷ xs) || (b && nat_lt k end)) (shifted a m)

-- the same after a read of the number, at any rank
pub reaches_more : (k first : ℕ) (far : List ℕ) (a end x v : ℕ) → a < length far → x ≡ get_or far a x → v ≡ max x end
    → reaches first (set far a v) k ≡ (reaches first far k || (nat_lt a k && nat_lt k end))
reaches_more k first far a end x v h read is =
    let seen : x ≡ get_or far a 0 = read ∙ get_or_default_zero far a x h in
    let value : v ≡ max (get_or far a 0) end = is ∙ ap (λ y. max y end) seen in
    ap (λ b. nat_lt k first || b) (ap (λ y. reached k k (set far a y)) value ∙ reached_max k k far a end h)
    ∙ or_assoc (nat_lt k first) (reached k k far) (nat_lt a k && nat_lt k end)

-- the greatest end of the first m numbers and of one more
pub reached_more : (k m : ℕ) (far items : List ℕ) (first top v : ℕ) → items ≡ far → m < length far
    → nat_lt k top ≡ (nat_lt k first || reached k m far) → v ≡ max top (get_or items m 0) → nat_lt k v ≡ (nat_lt k first || reached k (m + 1) far)
reached_more k m far items first top v same h so_far is =
    ap (nat_lt k) (is ∙ ap (λ l. max top (get_or l m 0)) same) ∙ below_max k top (get_or far m 0) ∙ ap (λ b. b || nat_lt k (get_or far m 0)) so_far
    ∙ sym (or_assoc (nat_lt k first) (reached k m far) (nat_lt k (get_or far m 0)))
    ∙ ap (λ b. nat_lt k first || b) (sym (list_any_more (λ end. nat_lt k end) far m 0 h))

zero_reached : (k m n : ℕ) → reached k m (replicate n 0) ≡ false
zero_reached k zero n = refl
zero_reached k (suc m) zero = refl
zero_reached k (suc m) (suc n) = ap (λ b. b || reached k m (replicate n 0)) (le-ltb k 0 (omega arith)) ∙ zero_reached k m n

pub none_reached : (k n : ℕ) (far : List ℕ) → far ≡ replicate n 0 → reaches 0 far k ≡ false
none_reached k n far is = ap (λ l. nat_lt k 0 || reached k k l) is ∙ ap (λ b. b || reached k k (replicate n 0)) (le-ltb k 0 (omega arith)) ∙ zero_reached k k n

-- the marks of the covered ranks
pub marked_covered : (first k n : ℕ) (far : List ℕ) (marks : List Bool) → length far ≡ n
    → marks ≡ map (reaches first far) (range_with_len 0 (length far)) → k < n → is_marked marks k ≡ reaches first far k
marked_covered first k n far marks each is lt =
    ap (λ l. is_marked l k) is ∙ get_or-map-range_with_len (reaches first far) 0 (length far) k k false (omega arith) (zero-add k)

pub length-covered : (first n : ℕ) (far : List ℕ) (marks : List Bool) → length far ≡ n
    → marks ≡ map (reaches first far) (range_with_len 0 (length far)) → length marks ≡ n
length-covered first n far marks each is = ap length is ∙ length-map-range_with_len (reaches first far) 0 (length far) ∙ each

-- whether rank k lies between rank a and that of the first node of a list, or between those of two of its neighbours
abbrev pub is_inside_from : (ranks : List ℕ) → (k a : ℕ) → List ℕ → Bool
is_inside_from ranks k a [] = false
is_inside_from ranks k a (b ∷ rest) = is_inside a k (get_or ranks b 0) || is_inside_from ranks k (get_or ranks b 0) rest

pub from_leader : (ranks : List ℕ) (k leader : ℕ) (list : List ℕ) → is_inside_from ranks k (get_or ranks leader 0) list ≡ is_inside_list ranks k leader list
from_leader ranks k leader [] = refl
from_leader ranks k leader (b ∷ rest) = ap (λ z. is_inside (get_or ranks leader 0) k (get_or ranks b 0) || z) (from_leader ranks k b rest)

-- nothing lies between neighbours
pub between_neighbours : (a k : ℕ) → is_inside a k (a + 1) ≡ false
between_neighbours a k = grind (arith, nat_tests)

-- the way to the next node of a list is added
pub way_added : (ranks list : List ℕ) (i from k to : ℕ) (old now all : Bool) → i < length list → to ≡ get_or ranks (get_or list i 0) 0
    → now ≡ (old || is_inside from k to) → (old || is_inside_from ranks k from (drop i list)) ≡ all
    → (now || is_inside_from ranks k to (drop (i + 1) list)) ≡ all
way_added ranks list i from k to old now all lt there added before =
    let rest : Bool = is_inside_from ranks k to (drop (i + 1) list) in
    ap (λ b. b || rest) added ∙ sym (or_assoc old (is_inside from k to) rest)
    ∙ ap (λ r. old || (is_inside from k r || is_inside_from ranks k r (drop (i + 1) list))) there
    ∙ ap (λ b. old || b) (sym (at_drop_more (is_inside_from ranks k from) list i 0 lt)) ∙ before
