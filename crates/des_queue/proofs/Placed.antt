-- Lists of places by day.
use Rattle.std.proofs.Common.{
  ◌≡◌,
  ◌≢◌,
  ℕ,
  suc,
  zero,
  ◌+◌,
  ◌%◌,
  ◌<◌,
  ◌≤◌,
  List,
  [],
  ◌∷◌,
  ◌++◌,
  length,
  Option,
  Some,
  None,
  IsSome,
  IsSomeAnd,
  slice_index_or,
  slice_set,
  refl,
  sym,
  ap,
  ◌∙◌,
  subst,
  arith,
}
use Rattle.std.specs.Global.{Vec}
use Rattle.std.specs.List.{All, AllByRecursion, flat_map}
use Rattle.std.specs.List.Sorted.{IsPermutation}
use Rattle.std.proofs.lemmas.List.Sorted.{
  IsPermutation-refl,
  IsPermutation-trans,
  IsPermutation-append_right,
  IsPermutation-append_left,
  IsPermutation-middle,
  IsPermutation-append_comm,
  IsPermutation-sym,
  IsPermutation-to_front,
}
use Rattle.std.proofs.lemmas.List.{append_assoc}
use Rattle.std.proofs.lemmas.List.Elements.{All-from_recursion}
use Rattle.std.proofs.lemmas.Nat.{div-add-mod'}
use Rattle.des_event.specs.declared.event.Event.{Event}
use Rattle.des_event.proofs.KeyLists.{all_in, all_from}
use Rattle.des_queue.specs.Days.{AllPlaced, IsInPlace, IsListed, day_of, list_count}
use Rattle.des_queue.specs.Places.{Events, entry_at, key_there, waiting_key}
use Rattle.des_queue.specs.Shelf.{ChangesAt}

abbrev pub PlaceList : Type 0
PlaceList = Vec ℕ

abbrev pub joined : List PlaceList → List ℕ
joined ls = flat_map (λ l. l.items) ls

abbrev pub Placing : Type 1
Placing = ℕ → ℕ → Type 0

-- P of all, and Q of all but those of one list: then Q once that list is another one
pub placed_set : (P Q : Placing) (i k : ℕ) (ls : List PlaceList) (l : PlaceList)
    → ((j n : ℕ) → j ≢ i + k → P j n → Q j n)
    → AllPlaced P i ls → AllByRecursion (Q (i + k)) l.items → AllPlaced Q i (slice_set ls k l)
placed_set P Q i k [] l f all here = tt
placed_set P Q i zero (m ∷ ls) l f all here = (
  subst (λ j. AllByRecursion (Q j) l.items) (omega arith) here,
  placed_past P Q (i + 1) i ls (omega arith) (λ j n ne p. f j n (λ q. ne (q ∙ omega arith)) p) all.1,
)
  where
    placed_past : (P Q : Placing) (i at : ℕ) (ls : List PlaceList) → at < i → ((j n : ℕ) → j ≢ at → P j n → Q j n)
        → AllPlaced P i ls → AllPlaced Q i ls
    placed_past P Q i at [] lt f all = tt
    placed_past P Q i at (l ∷ ls) lt f all = (
      all_from (Q i) l.items (λ z h. f i z (λ q. omega (arith, q, lt)) (all_in (P i) l.items all.0 z h)),
      placed_past P Q (i + 1) at ls (omega (arith, lt)) f all.1,
    )
placed_set P Q i (suc k) (m ∷ ls) l f all here = (
  all_from (Q i) m.items (λ z h. f i z (λ q. omega (arith, q)) (all_in (P i) m.items all.0 z h)),
  placed_set P Q (i + 1) k ls l (λ j n ne p. f j n (λ q. ne (q ∙ omega arith)) p) all.1
      (subst (λ j. AllByRecursion (Q j) l.items) (omega arith) here),
)

-- an index past all lists
pub placed_off : (P Q : Placing) (i at : ℕ) (ls : List PlaceList) → i + length ls ≤ at
    → ((j n : ℕ) → j ≢ at → P j n → Q j n) → AllPlaced P i ls → AllPlaced Q i ls
placed_off P Q i at [] le f all = tt
placed_off P Q i at (l ∷ ls) le f all = (
  all_from (Q i) l.items (λ z h. f i z (λ q. omega (arith, q, le)) (all_in (P i) l.items all.0 z h)),
  placed_off P Q (i + 1) at ls (omega (arith, le)) f all.1,
)

-- the list at an index
pub placed_at : (P : Placing) (i k : ℕ) (ls : List PlaceList) (d : PlaceList) → k < length ls → AllPlaced P i ls
    → AllByRecursion (P (i + k)) (slice_index_or ls k d).items
placed_at P i k [] d lt all = absurd (omega (arith, lt))
placed_at P i zero (l ∷ ls) d lt all = subst (λ j. AllByRecursion (P j) l.items) (omega arith) all.0
placed_at P i (suc k) (l ∷ ls) d lt all =
    subst (λ j. AllByRecursion (P j) (slice_index_or ls k d).items) (omega arith) (placed_at P (i + 1) k ls d (omega (arith, lt)) all.1)

pub listed_at : (P : Placing) (k : ℕ) (ls : List PlaceList) (d l : PlaceList) → k < length ls → l ≡ slice_index_or ls k d → AllPlaced P 0 ls
    → AllByRecursion (P k) l.items
listed_at P k ls d l lt e all = subst (λ (m : PlaceList). AllByRecursion (P k) m.items) (sym e)
    (subst (λ j. AllByRecursion (P j) (slice_index_or ls k d).items) (omega arith) (placed_at P 0 k ls d lt all))

-- what holds of no place
pub placed_none : (P : Placing) (i : ℕ) (ls : List PlaceList) → ((j n : ℕ) → P j n → ⊥) → AllPlaced P i ls → joined ls ≡ []
placed_none P i [] f all = refl
placed_none P i (l ∷ ls) f all = none_by l.items refl all.0 (placed_none P (i + 1) ls f all.1)
  where
    none_by : (es : List ℕ) → l.items ≡ es → AllByRecursion (P i) es → joined ls ≡ [] → l.items ++ joined ls ≡ []
    none_by [] n here rest = ap (λ xs. xs ++ joined ls) n ∙ rest
    none_by (x ∷ xs) n here rest = absurd (f i x here.0)

-- a place more in one list
pub joined_more : (ls : List PlaceList) (k : ℕ) (d l : PlaceList) (n : ℕ) → k < length ls → l.items ≡ (slice_index_or ls k d).items ++ n ∷ []
    → IsPermutation (n ∷ joined ls) (joined (slice_set ls k l))
joined_more [] k d l n lt h = absurd (omega (arith, lt))
joined_more (m ∷ ls) zero d l n lt h =
    subst (λ xs. IsPermutation (n ∷ (m.items ++ joined ls)) (xs ++ joined ls)) (sym h)
    (IsPermutation-append_left (joined ls) (n ∷ m.items) (m.items ++ n ∷ [])
    (IsPermutation-sym (m.items ++ n ∷ []) (n ∷ m.items) (IsPermutation-to_front m.items n)))
joined_more (m ∷ ls) (suc k) d l n lt h =
    IsPermutation-trans (n ∷ (m.items ++ joined ls)) (m.items ++ n ∷ joined ls) (m.items ++ joined (slice_set ls k l))
    (IsPermutation-sym (m.items ++ n ∷ joined ls) (n ∷ (m.items ++ joined ls)) (IsPermutation-middle m.items n (joined ls)))
    (IsPermutation-append_right m.items (n ∷ joined ls) (joined (slice_set ls k l)) (joined_more ls k d l n (omega (arith, lt)) h))

-- one list is taken, and an empty one left
pub joined_taken : (ls : List PlaceList) (k : ℕ) (d l : PlaceList) → k < length ls → l.items ≡ []
    → IsPermutation (joined ls) ((slice_index_or ls k d).items ++ joined (slice_set ls k l))
joined_taken [] k d l lt h = absurd (omega (arith, lt))
joined_taken (m ∷ ls) zero d l lt h =
    subst (λ xs. IsPermutation (m.items ++ joined ls) (m.items ++ (xs ++ joined ls))) (sym h) (IsPermutation-refl (m.items ++ joined ls))
joined_taken (m ∷ ls) (suc k) d l lt h =
    let x = (slice_index_or ls k d).items in let rest = joined (slice_set ls k l) in
    IsPermutation-trans (m.items ++ joined ls) (m.items ++ (x ++ rest)) (x ++ (m.items ++ rest))
    (IsPermutation-append_right m.items (joined ls) (x ++ rest) (joined_taken ls k d l (omega (arith, lt)) h))
    (subst (λ ys. IsPermutation (m.items ++ (x ++ rest)) ys) (append_assoc x m.items rest)
    (subst (λ ys. IsPermutation ys ((x ++ m.items) ++ rest)) (append_assoc m.items x rest)
    (IsPermutation-append_left rest (m.items ++ x) (x ++ m.items) (IsPermutation-append_comm m.items x))))

-- two days less than the number of lists apart have different places
pub same_day : (a b : ℕ) → b ≤ a → a < b + list_count → a % list_count ≡ b % list_count → a ≡ b
same_day a b le lt h = omega (arith, le, lt, h, div-add-mod' a list_count, div-add-mod' b list_count)

module _ {B : Type 0} where
  -- what holds of the event at a place
  pub some_map : (P Q : Event B → Type 0) (o : Option (Event B)) → ((e : Event B) → P e → Q e) → IsSomeAnd o P → IsSomeAnd o Q
  some_map P Q None f h = h
  some_map P Q (Some e) f h = f e h

  is_there : (P : Event B → Type 0) (o : Option (Event B)) → IsSomeAnd o P → IsSome o
  is_there P None h = absurd h
  is_there P (Some e) h = refl

  pub all_there : (s : Events B) (today latest i : ℕ) (ps : List ℕ) → AllByRecursion (IsListed s today latest i) ps → All (λ n. IsSome (s n)) ps
  all_there s today latest i ps all = All-from_recursion (λ n. IsSome (s n)) ps (all_from (λ n. IsSome (s n)) ps (λ n h.
      is_there (IsInPlace today latest i) (s n) (all_in (IsListed s today latest i) ps all n h)))

  -- the next day is opened: the events of other lists have later days
  pub next_day : (s : Events B) (today latest i n : ℕ) → i ≢ (today + 1) % list_count → IsListed s today latest i n → IsListed s (today + 1) latest i n
  next_day s today latest i n ne listed = some_map (IsInPlace today latest i) (IsInPlace (today + 1) latest i) (s n) (λ e is.
      let other : day_of e.key ≢ today + 1 = λ q. ne (sym is.there ∙ ap (λ n. n % list_count) q) in record {
        later = omega (arith, is.later, other);
        soon = omega (arith, is.soon);
        known = is.known;
        there = is.there;
      }) listed

  -- the events of its list have this day
  pub this_day : (s : Events B) (today latest n : ℕ) → IsListed s today latest ((today + 1) % list_count) n → day_of (waiting_key (entry_at s n)) ≤ today + 1
  this_day s today latest n listed = day_by (s n) listed
    where
      day_by : (o : Option (Event B)) → IsSomeAnd o (IsInPlace today latest ((today + 1) % list_count)) → day_of (key_there o) ≤ today + 1
      day_by None h = absurd h
      day_by (Some e) is = omega (arith, same_day (day_of e.key) (today + 1) (omega (arith, is.later)) (omega (arith, is.soon)) is.there)

  -- no day is after the last one
  pub none_listed : (s : Events B) (today latest i n : ℕ) → latest ≤ today → IsListed s today latest i n → ⊥
  none_listed s today latest i n le listed = none_by (s n) listed
    where
      none_by : (o : Option (Event B)) → IsSomeAnd o (IsInPlace today latest i) → ⊥
      none_by None h = h
      none_by (Some e) is = omega (arith, is.later, is.known, le)

pub all_push : {A : Type 0} (P : A → Type 0) (xs : List A) (x : A) → AllByRecursion P xs → P x → AllByRecursion P (xs ++ x ∷ [])
all_push P [] x all here = (here, tt)
all_push P (y ∷ ys) x all here = (all.0, all_push P ys x all.1 here)

pub all_set : {A : Type 0} (P : A → Type 0) (xs : List A) (k : ℕ) (x : A) → AllByRecursion P xs → P x → AllByRecursion P (slice_set xs k x)
all_set P [] k x all here = tt
all_set P (y ∷ ys) zero x all here = (here, all.1)
all_set P (y ∷ ys) (suc k) x all here = (all.0, all_set P ys k x all.1 here)

-- a list in the place of an equal one
pub joined_same : (ls : List PlaceList) (k : ℕ) (d l : PlaceList) → l.items ≡ (slice_index_or ls k d).items → joined (slice_set ls k l) ≡ joined ls
joined_same [] k d l h = refl
joined_same (m ∷ ls) zero d l h = ap (λ xs. xs ++ joined ls) h
joined_same (m ∷ ls) (suc k) d l h = ap (λ xs. m.items ++ xs) (joined_same ls k d l h)

pub placed_same : (P : Placing) (k : ℕ) (ls : List PlaceList) (d l : PlaceList) → k < length ls → l.items ≡ (slice_index_or ls k d).items
    → AllPlaced P 0 ls → AllPlaced P 0 (slice_set ls k l)
placed_same P k ls d l lt h all =
    placed_set P P 0 k ls l (λ j e ne p. p) all (subst (λ es. AllByRecursion (P (0 + k)) es) (sym h) (placed_at P 0 k ls d lt all))

-- a place more in the list of its day
pub placed_more : (P Q : Placing) (k : ℕ) (ls : List PlaceList) (d l : PlaceList) (n : ℕ) → k < length ls
    → l.items ≡ (slice_index_or ls k d).items ++ n ∷ [] → ((j x : ℕ) → P j x → Q j x) → Q k n
    → AllPlaced P 0 ls → AllPlaced Q 0 (slice_set ls k l)
placed_more P Q k ls d l n lt h f here all =
    let old = slice_index_or ls k d in
    let there = placed_at P 0 k ls d lt all in
    let more : AllByRecursion (Q (0 + k)) old.items = all_from (Q (0 + k)) old.items (λ z i. f (0 + k) z (all_in (P (0 + k)) old.items there z i)) in
    placed_set P Q 0 k ls l (λ j x ne p. f j x p) all
    (subst (λ es. AllByRecursion (Q (0 + k)) es) (sym h) (all_push (Q (0 + k)) old.items n more (subst (λ j. Q j n) (omega arith) here)))

module _ {B : Type 0} where
  -- an event more is at a place, and a later day may be the last one
  pub listed_more : (s t : Events B) (place : ℕ) (e : Event B) (today latest more : ℕ) → s place ≡ None → ChangesAt s t place (Some e) → latest ≤ more
      → (j n : ℕ) → IsListed s today latest j n → IsListed t today more j n
  listed_more s t place e today latest more free change le j n listed =
      let other : n ≢ place = λ q. subst (λ o. IsSomeAnd o (IsInPlace today latest j)) (ap s q ∙ free) listed in
      subst (λ o. IsSomeAnd o (IsInPlace today more j)) (sym (change.others n other))
      (some_map (IsInPlace today latest j) (IsInPlace today more j) (s n) (λ x is. record {
        later = is.later;
        soon = is.soon;
        known = omega (arith, is.known, le);
        there = is.there;
      }) listed)

abbrev pub AreEmpty : List PlaceList → Type 0
AreEmpty ls = AllByRecursion (λ l. l.items ≡ []) ls

-- lists of no more places than there is room for
abbrev pub AreFit : ℕ → List PlaceList → Type 0
AreFit room ls = AllByRecursion (λ l. length l.items ≤ room) ls

pub fit_more : (room more : ℕ) (ls : List PlaceList) → room ≤ more → AreFit room ls → AreFit more ls
fit_more room more [] le all = tt
fit_more room more (l ∷ ls) le all = (omega (arith, le, all.0), fit_more room more ls le all.1)

pub fit_at : (room k : ℕ) (ls : List PlaceList) (d l : PlaceList) → k < length ls → l ≡ slice_index_or ls k d → AreFit room ls → length l.items ≤ room
fit_at room k ls d l lt e all = subst (λ (m : PlaceList). length m.items ≤ room) (sym e)
    (All-from_recursion (λ (m : PlaceList). length m.items ≤ room) ls all k d lt)

pub fit_empty : (room : ℕ) (ls : List PlaceList) → AreEmpty ls → AreFit room ls
fit_empty room [] all = tt
fit_empty room (l ∷ ls) all = (subst (λ (ps : List ℕ). length ps ≤ room) (sym all.0) (omega arith), fit_empty room ls all.1)

pub placed_empty : (P : Placing) (i : ℕ) (ls : List PlaceList) → AreEmpty ls → AllPlaced P i ls
placed_empty P i [] all = tt
placed_empty P i (l ∷ ls) all = (subst (λ es. AllByRecursion (P i) es) (sym all.0) tt, placed_empty P (i + 1) ls all.1)

pub joined_empty : (ls : List PlaceList) → AreEmpty ls → joined ls ≡ []
joined_empty [] all = refl
joined_empty (l ∷ ls) all = ap (λ es. es ++ joined ls) all.0 ∙ joined_empty ls all.1

nothing : (x : ℕ) (xs : List ℕ) → x ∷ xs ≡ [] → ⊥
nothing x xs e = cc

empty_first : (l : PlaceList) (ls : List PlaceList) (es : List ℕ) → l.items ≡ es → l.items ++ joined ls ≡ [] → (joined ls ≡ [] → AreEmpty ls)
    → AreEmpty (l ∷ ls)
empty_first l ls [] q e on = (q, on (sym (ap (λ xs. xs ++ joined ls) q) ∙ e))
empty_first l ls (x ∷ xs) q e on = absurd (nothing x (xs ++ joined ls) (sym (ap (λ ys. ys ++ joined ls) q) ∙ e))

all_empty : (ls : List PlaceList) → joined ls ≡ [] → AreEmpty ls
all_empty [] e = tt
all_empty (l ∷ ls) e = empty_first l ls l.items refl e (all_empty ls)

-- lists without places
pub placed_of_none : (P : Placing) (i : ℕ) (ls : List PlaceList) → joined ls ≡ [] → AllPlaced P i ls
placed_of_none P i ls none = placed_empty P i ls (all_empty ls none)
