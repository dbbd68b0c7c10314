-- The entries that have bytes.
use Rattle.std.proofs.Common.{◌≡◌, ◌≢◌, ◌∙◌, ◌==◌, ◌<◌, ◌≤◌, ℕ, zero, suc, not, Bool, true, false, cond, List, [], ◌∷◌, ◌++◌, append-nil, arith, ap, get_or, length, length-append, map, refl, subst, sym}
use Rattle.std.proofs.lemmas.Bool.{ne_eqb}
use Rattle.std.proofs.lemmas.Bool.Decides.{nat_tests}
use Rattle.std.proofs.lemmas.List.Elements.{filter-append}
use Rattle.std.proofs.lemmas.List.Kept.{AllPairs-filter}
use Rattle.std.specs.List.{AllByRecursion, AllPairs, Contains, flat_map}
use Rattle.des_event.specs.Keys.{IsBefore}
use Rattle.des_event.specs.KeyOrder.{InKeyOrder}
use Rattle.des_event.proofs.KeyLists.{all_from, all_in, Contains-from_IsIn, IsIn-from_Contains}
use Rattle.des_event.proofs.Members.{contains_filter, filter_contains}
use Rattle.des_team.specs.Entries.{Entry, entry_bytes, entry_key}
use Rattle.des_team.specs.Outputs.{CanMergeLists, IsMergeOf, has_bytes, joined, told}

-- an entry with bytes more
pub told_more : (bs : List Entry) (b : Entry) → has_bytes b ≡ true → told (bs ++ b ∷ []) ≡ told bs ++ b ∷ []
told_more bs b has = filter-append has_bytes bs (b ∷ []) ∙ ap (λ t. told bs ++ cond t (b ∷ []) []) has

-- an entry without bytes more
pub told_same : (bs : List Entry) (b : Entry) → has_bytes b ≡ false → told (bs ++ b ∷ []) ≡ told bs
told_same bs b none = filter-append has_bytes bs (b ∷ []) ∙ ap (λ t. told bs ++ cond t (b ∷ []) []) none ∙ append-nil (told bs)

-- an entry without bytes has no text
no_text : (bs : List ℕ) → (length bs == 0) ≡ true → bs ≡ []
no_text [] none = refl
no_text (x ∷ xs) none = let zero_long : length (x ∷ xs) ≡ 0 = grind (arith, nat_tests) in absurd (omega (arith, zero_long))

-- the entries that have bytes have the text of all
pub told_text : (bs : List Entry) → flat_map entry_bytes (told bs) ≡ flat_map entry_bytes bs
told_text [] = refl
told_text (b ∷ bs) = go (length b.bytes == 0) refl (told_text bs)
  where
    go : (t : Bool) → (length b.bytes == 0) ≡ t → flat_map entry_bytes (told bs) ≡ flat_map entry_bytes bs
        → flat_map entry_bytes (cond (not t) (b ∷ told bs) (told bs)) ≡ entry_bytes b ++ flat_map entry_bytes bs
    go true is rest = rest ∙ ap (λ l. l ++ flat_map entry_bytes bs) (sym (no_text b.bytes is))
    go false is rest = ap (λ l. entry_bytes b ++ l) rest

told_ordered : (bs : List Entry) → InKeyOrder entry_key bs → InKeyOrder entry_key (told bs)
told_ordered [] o = tt
told_ordered (b ∷ bs) o = go (has_bytes b) (told_ordered bs o.1)
  where
    P : Entry → Type 0
    P y = IsBefore b.key y.key

    go : (t : Bool) → InKeyOrder entry_key (told bs) → InKeyOrder entry_key (cond t (b ∷ told bs) (told bs))
    go true rest = (
      all_from P (told bs)
          (λ y c. all_in P bs o.0 y (IsIn-from_Contains bs y (filter_contains has_bytes bs y (Contains-from_IsIn (told bs) y c)).0)),
      rest,
    )
    go false rest = rest

lists_ordered : (lists : List (List Entry)) → AllByRecursion (λ bs. InKeyOrder entry_key bs) lists
    → AllByRecursion (λ bs. InKeyOrder entry_key bs) (map told lists)
lists_ordered [] all = tt
lists_ordered (bs ∷ lists) all = (told_ordered bs all.0, lists_ordered lists all.1)

told_joined : (lists : List (List Entry)) → joined (map told lists) ≡ told (joined lists)
told_joined [] = refl
told_joined (bs ∷ lists) = ap (λ l. told bs ++ l) (told_joined lists) ∙ sym (filter-append has_bytes bs (joined lists))

-- if lists can be merged, those of the entries that have bytes can
pub told_can_merge : (lists : List (List Entry)) → CanMergeLists lists → CanMergeLists (map told lists)
told_can_merge lists can = record {
  ordered = lists_ordered lists can.ordered;
  apart = subst (λ bs. AllPairs (λ (a b : Entry). a.key ≢ b.key) bs) (sym (told_joined lists))
      (AllPairs-filter (λ (a b : Entry). a.key ≢ b.key) has_bytes (joined lists) can.apart);
}

-- and what they are merged to
pub told_merged : (lists : List (List Entry)) (bs : List Entry) → IsMergeOf lists bs → IsMergeOf (map told lists) (told bs)
told_merged lists bs is = record {
  ordered = told_ordered bs is.ordered;
  same = λ b. (
    λ c. let f = filter_contains has_bytes bs b c in
        subst (λ l. Contains l b) (sym (told_joined lists)) (contains_filter has_bytes (joined lists) b ((is.same b).0 f.0) f.1),
    λ c. let f = filter_contains has_bytes (joined lists) b (subst (λ l. Contains l b) (told_joined lists) c) in
        contains_filter has_bytes bs b ((is.same b).1 f.0) f.1,
  );
}

-- the list at a place
pub told_at : (lists : List (List Entry)) (p : ℕ) → get_or (map told lists) p [] ≡ told (get_or lists p [])
told_at [] p = refl
told_at (bs ∷ lists) zero = refl
told_at (bs ∷ lists) (suc p) = told_at lists p

-- an entry is told if its bytes make a text longer
pub is_told : (b : Entry) (old new : List ℕ) → new ≡ old ++ b.bytes → length old < length new → has_bytes b ≡ true
is_told b old new is longer = go b.bytes (omega (arith, ap length is, length-append old b.bytes, longer))
  where
    go : (bs : List ℕ) → 0 < length bs → not (length bs == 0) ≡ true
    go [] some = absurd (omega (arith, some))
    go (x ∷ xs) some = ap not (ne_eqb (length (x ∷ xs)) 0 (λ e. omega (arith, e)))

pub untold : (b : Entry) (old new : List ℕ) → new ≡ old ++ b.bytes → length new ≤ length old → has_bytes b ≡ false
untold b old new is short = go b.bytes (omega (arith, ap length is, length-append old b.bytes, short))
  where
    go : (bs : List ℕ) → length bs ≡ 0 → not (length bs == 0) ≡ false
    go [] none = refl
    go (x ∷ xs) none = absurd (omega (arith, none))
