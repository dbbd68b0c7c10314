-- The heads of parts: what they are at, and what is left from them on.
use Rattle.std.proofs.Common.{◌≡◌, ◌∙◌, inl, inr, ℕ, zero, suc, ◌+◌, ◌-◌, ◌<◌, ◌≤◌, Bool, true, false, List, [], ◌∷◌, ◌++◌, Option, None, Some, option_map, slice_get, ap, append-nil, arith, drop, get_or, length, map, refl, subst, sum_by, sym, take}
use Rattle.std.proofs.lemmas.List.{drop_all, drop_more, get_or-map}
use Rattle.std.proofs.lemmas.List.Sorted.{Contains-permutation, IsPermutation-append_left, IsPermutation-map, IsPermutation-middle, IsPermutation-sym, IsPermutation-trans, sum_by-IsPermutation}
use Rattle.std.proofs.lemmas.List.Sums.{sum_by-cons}
use Rattle.std.specs.BinaryHeap.{IsUpperBound}
use Rattle.std.specs.List.{AllByRecursion}
use Rattle.std.specs.List.Sorted.{IsPermutation}
use Rattle.std.specs.Ordering.{is_lt}
use Rattle.des_event.specs.declared.key.Key.{Key}
use Rattle.des_event.specs.KeyOrder.{InKeyOrder}
use Rattle.des_event.specs.Keys.{IsAtMost, IsBefore, is_before, key_cmp}
use Rattle.des_event.proofs.Compare.{less_from_before}
use Rattle.des_event.proofs.KeyLists.{IsIn, all_from, all_in, Contains-from_IsIn, IsIn-from_Contains}
use Rattle.des_event.proofs.Order.{at_most_from_before, at_most_self, at_most_trans, is_before-false, is_before-true}
use Rattle.des_team.specs.Entries.{Entry, put_filled, entry_key}
use Rattle.des_team.proofs.Merges.{together}
use Rattle.des_team.proofs.Merged.{in_either}
use Rattle.des_team.proofs.Texts.{as_many, mark_key, text_of}
use Rattle.des_team.specs.Heads.{IsBelow, IsHead, IsLimit, ahead, entries_at, head_at, head_cmp, with_entries}
use Rattle.des_team.specs.Outputs.{AreTexts, IsMarked}
use Rattle.des_team.specs.declared.output.Head.{Head}
use Rattle.des_team.specs.declared.output.Mark.{Mark}
use Rattle.des_team.specs.declared.output.Output.{Output}

-- lists and their elements

all_map : {A : Type 0} (P Q : A → Type 0) → ((x : A) → P x → Q x) → (xs : List A) → AllByRecursion P xs → AllByRecursion Q xs
all_map P Q f [] all = tt
all_map P Q f (x ∷ xs) all = (f x all.0, all_map P Q f xs all.1)

pub all_moved : {A : Type 0} (P : A → Type 0) (xs ys : List A) → IsPermutation xs ys → AllByRecursion P xs → AllByRecursion P ys
all_moved P xs ys p all = all_from P ys (λ z h. all_in P xs all z
    (IsIn-from_Contains xs z (Contains-permutation ys xs z (IsPermutation-sym xs ys p) (Contains-from_IsIn ys z h))))

pub no_items : {A : Type 0} (xs : List A) → length xs ≡ 0 → xs ≡ []
no_items [] e = refl
no_items (x ∷ xs) e = absurd (omega (arith, e))

-- what `get` gave
pub got : {A B : Type 0} (f : A → B) (xs : List A) (k : ℕ) (y : B) → Some y ≡ option_map f (slice_get xs k)
    → (k < length xs) × ((d : A) → y ≡ f (get_or xs k d))
got f [] k y e = absurd cc
got f (x ∷ xs) zero y e = (omega arith, λ d. cc)
got f (x ∷ xs) (suc k) y e = let r = got f xs k y e in (omega (arith, r.0), r.1)

pub got_none : {A B : Type 0} (f : A → B) (xs : List A) (k : ℕ) → None ≡ option_map f (slice_get xs k) → length xs ≤ k
got_none f [] k e = omega arith
got_none f (x ∷ xs) zero e = absurd cc
got_none f (x ∷ xs) (suc k) e = omega (arith, got_none f xs k e)

-- the order of heads

at_most_from : (a b : Key) → is_lt (key_cmp b a) ≡ false → IsAtMost a b
at_most_from a b h = go (is_before b a) refl
  where
    go : (t : Bool) → is_before b a ≡ t → IsAtMost a b
    go false e = is_before-false b a e
    go true e = absurd (differ (sym h ∙ ap is_lt (less_from_before b a (is_before-true b a e))))
      where
        differ : false ≡ true → ⊥
        differ z = cc

pub least_head : (h : Head) (ws : List Head) → IsUpperBound head_cmp h ws → AllByRecursion (λ (w : Head). IsAtMost h.key w.key) ws
least_head h [] up = tt
least_head h (w ∷ ws) up = (at_most_from h.key w.key up.0, least_head h ws up.1)

-- what comes before the limit is at most each head's key
pub below_heads : (key : Key) (limit : Option Key) (ws : List Head) → IsBelow key limit → IsLimit limit ws
    → AllByRecursion (λ (w : Head). IsAtMost key w.key) ws
below_heads key None ws below none = subst (AllByRecursion (λ (w : Head). IsAtMost key w.key)) (sym none) tt
below_heads key (Some limit) ws below all =
    all_map (λ (w : Head). IsAtMost limit w.key) (λ (w : Head). IsAtMost key w.key)
    (λ w h. at_most_trans key limit w.key (at_most_from_before key limit below) h) ws all

-- the lists of the parts

pub part_within : (lists : List (List Entry)) (p k : ℕ) → k < length (entries_at lists p) → p < length lists
part_within [] p k lt = absurd (omega arith)
part_within (v ∷ lists) zero k lt = omega arith
part_within (v ∷ lists) (suc p) k lt = omega (arith, part_within lists p k lt)

filled_at : (lists : List (List Entry)) (p : ℕ) → p < length lists
    → with_entries (drop p lists) ≡ put_filled (entries_at lists p) (with_entries (drop (suc p) lists))
filled_at [] p lt = absurd (omega arith)
filled_at (v ∷ lists) zero lt = refl
filled_at (v ∷ lists) (suc p) lt = filled_at lists p (omega arith)

put_some : (entries : List Entry) (ls : List (List Entry)) → 0 < length entries → put_filled entries ls ≡ entries ∷ ls
put_some [] ls lt = absurd (omega arith)
put_some (b ∷ entries) ls lt = refl

put_none : (entries : List Entry) (ls : List (List Entry)) → length entries ≡ 0 → put_filled entries ls ≡ ls
put_none [] ls e = refl
put_none (b ∷ entries) ls e = absurd (omega (arith, e))

module _ (lists : List (List Entry)) where
  -- the head at a mark
  pub head_made : (part place start : ℕ) (o : Output) (head : Head) → IsMarked (entries_at lists part) o
      → start ≡ length (text_of (take place (entries_at lists part))) → Some head ≡ head_at o.marks.items part place start → IsHead lists head
  head_made part place start o head is from made =
      let g = got (λ (m : Mark). record { key = m.key; part = part; place = place; start = start }) o.marks.items place head made in
      let m : Mark = record { key = head.key; end = 0 } in
      let lt : place < length (entries_at lists part) = omega (arith, g.0, as_many (entries_at lists part) o is) in
      subst (IsHead lists) (sym (g.1 m)) (record {
        inside = lt;
        key_is = λ b. mark_key (entries_at lists part) o is place b m lt;
        start_is = from;
      })

  at_most_ahead : (w : Head) → IsHead lists w → InKeyOrder entry_key (ahead lists w) → (y : Entry) → IsIn y (ahead lists w) → IsAtMost w.key y.key
  at_most_ahead w is o y h =
      let entries : List Entry = entries_at lists w.part in
      let first : Entry = get_or entries w.place y in
      let rest : List Entry = drop (w.place + 1) entries in
      let split : ahead lists w ≡ first ∷ rest = drop_more entries w.place y is.inside in
      let ordered : InKeyOrder entry_key (first ∷ rest) = subst (InKeyOrder entry_key) split o in
      let there : IsIn y (first ∷ rest) = subst (IsIn y) split h in
      elim there [
        | inl e ↦ subst (λ (k : Key). IsAtMost w.key k) (is.key_is y ∙ ap (λ (b : Entry). b.key) (sym e)) (at_most_self w.key)
        | inr k ↦ at_most_from_before w.key y.key (subst (λ (q : Key). IsBefore q y.key) (sym (is.key_is y))
            (all_in (λ (b : Entry). IsBefore first.key b.key) rest ordered.0 y k))
      ]

  pub at_most_all : (key : Key) (ws : List Head) → AllByRecursion (λ (w : Head). IsAtMost key w.key) ws → AllByRecursion (IsHead lists) ws
      → AllByRecursion (λ l. InKeyOrder entry_key l) (map (ahead lists) ws) → (y : Entry) → IsIn y (together (map (ahead lists) ws)) → IsAtMost key y.key
  at_most_all key [] least are o y h = absurd h
  at_most_all key (w ∷ ws) least are o y h = elim (in_either (ahead lists w) (together (map (ahead lists) ws)) y h) [
    | inl k ↦ at_most_trans key w.key y.key least.0 (at_most_ahead w are.0 o.0 y k)
    | inr k ↦ at_most_all key ws least.1 are.1 o.1 y k
  ]

  -- the heads of the first parts, and the lists of the others
  pub record AreHeads (part : ℕ) (hs : List Head) : Type 0 where
    pub each : AllByRecursion (IsHead lists) hs
    pub same : IsPermutation (with_entries lists) (map (ahead lists) hs ++ with_entries (drop part lists))

  pub all_heads : (part : ℕ) (hs : List Head) → length lists ≤ part → AreHeads part hs → IsPermutation (with_entries lists) (map (ahead lists) hs)
  all_heads part hs all are =
      let none : map (ahead lists) hs ++ with_entries (drop part lists) ≡ map (ahead lists) hs =
      ap (λ vs. map (ahead lists) hs ++ with_entries vs) (drop_all part lists all) ∙ append-nil (map (ahead lists) hs) in
      subst (IsPermutation (with_entries lists)) none are.same

  -- of the next part's list
  next_filled : (part : ℕ) → part < length lists → with_entries (drop part lists) ≡ put_filled (entries_at lists part) (with_entries (drop (part + 1) lists))
  next_filled part lt =
      let one : suc part ≡ part + 1 = omega arith in
      filled_at lists part lt ∙ ap (λ n. put_filled (entries_at lists part) (with_entries (drop n lists))) one

  pub head_put : (part : ℕ) (o : Output) (hs new : List Head) (head : Head) → part < length lists → IsMarked (entries_at lists part) o
      → Some head ≡ head_at o.marks.items part 0 0 → IsPermutation (head ∷ hs) new → AreHeads part hs → AreHeads (part + 1) new
  head_put part o hs new head lt is made put are =
      let left : List (List Entry) = with_entries (drop (part + 1) lists) in
      let at_head : IsHead lists head = head_made part 0 0 o head is refl made in
      let g = got (λ (m : Mark). record { key = m.key; part = part; place = 0; start = 0 }) o.marks.items 0 head made in
      let m : Mark = record { key = head.key; end = 0 } in
      let here : ahead lists head ≡ entries_at lists part = ap (ahead lists) (g.1 m) in
      let some : 0 < length (entries_at lists part) = omega (arith, g.0, as_many (entries_at lists part) o is) in
      let filled : map (ahead lists) hs ++ with_entries (drop part lists) ≡ map (ahead lists) hs ++ ahead lists head ∷ left =
      ap (λ l. map (ahead lists) hs ++ l) (next_filled part lt ∙ put_some (entries_at lists part) left some ∙ ap (λ l. l ∷ left) (sym here)) in
      let front : IsPermutation (with_entries lists) (ahead lists head ∷ (map (ahead lists) hs ++ left)) =
      IsPermutation-trans (with_entries lists) (map (ahead lists) hs ++ ahead lists head ∷ left) (ahead lists head ∷ (map (ahead lists) hs ++ left))
      (subst (IsPermutation (with_entries lists)) filled are.same) (IsPermutation-middle (map (ahead lists) hs) (ahead lists head) left) in
      record {
        each = all_moved (IsHead lists) (head ∷ hs) new put (at_head, are.each);
        same = IsPermutation-trans (with_entries lists) (map (ahead lists) (head ∷ hs) ++ left) (map (ahead lists) new ++ left) front
            (IsPermutation-append_left left (map (ahead lists) (head ∷ hs)) (map (ahead lists) new) (IsPermutation-map (ahead lists) (head ∷ hs) new put));
      }

  pub head_skipped : (part : ℕ) (o : Output) (hs : List Head) → part < length lists → IsMarked (entries_at lists part) o
      → None ≡ head_at o.marks.items part 0 0 → AreHeads part hs → AreHeads (part + 1) hs
  head_skipped part o hs lt is made are =
      let none : length (entries_at lists part) ≡ 0 =
      omega (
        arith,
        got_none (λ (m : Mark). record { key = m.key; part = part; place = 0; start = 0 }) o.marks.items 0 made,
        as_many (entries_at lists part) o is,
      ) in
      let left : List (List Entry) = with_entries (drop (part + 1) lists) in
      record {
        each = are.each;
        same = subst (λ l. IsPermutation (with_entries lists) (map (ahead lists) hs ++ l)) (next_filled part lt ∙ put_none (entries_at lists part) left none)
            are.same;
      }

  pub first_of_heads : (hs ws : List Head) (h : Head) → IsPermutation hs (h ∷ ws) → AllByRecursion (IsHead lists) hs → IsHead lists h
  first_of_heads hs ws h out heads = (all_moved (IsHead lists) hs (h ∷ ws) out heads).0

  pub place_within : (outputs : List Output) (h : Head) (o : Output) → AreTexts lists outputs → IsHead lists h → o ≡ get_or outputs h.part o
      → h.place < length o.marks.items
  place_within outputs h o are at_head its =
      omega (
        arith,
        at_head.inside,
        as_many (entries_at lists h.part) (get_or outputs h.part o) (are.each h.part o (part_within lists h.part h.place at_head.inside)),
        ap (λ (p : Output). length p.marks.items) its,
      )

-- how many marks are left from the heads on
abbrev pub left_from : List Output → Head → ℕ
left_from outputs h = get_or (map (λ (o : Output). length o.marks.items) outputs) h.part 0 - h.place

abbrev pub marks_left : List Output → List Head → ℕ
marks_left outputs hs = sum_by (left_from outputs) hs

module _ (outputs : List Output) (hs ws : List Head) (h : Head) (o : Output) (out : IsPermutation hs (h ∷ ws)) (lt : h.part < length outputs)
    (its : o ≡ get_or outputs h.part o) (inside : h.place < length o.marks.items) where
  count_at : get_or (map (λ (p : Output). length p.marks.items) outputs) h.part 0 ≡ length o.marks.items
  count_at = get_or-map (λ (p : Output). length p.marks.items) outputs h.part o 0 lt ∙ ap (λ (p : Output). length p.marks.items) (sym its)

  left_before : left_from outputs h + marks_left outputs ws ≡ marks_left outputs hs
  left_before = sym (sum_by-cons (left_from outputs) h ws) ∙ sum_by-IsPermutation (left_from outputs) hs (h ∷ ws) out

  pub fewer_without_next : marks_left outputs ws < marks_left outputs hs
  fewer_without_next = omega (arith, left_before, count_at, inside)

  pub fewer_with_next : (marks : List Mark) (after end : ℕ) (new : List Head) (n : Head) → h.place < after → marks ≡ o.marks.items
      → Some n ≡ head_at marks h.part after end → IsPermutation (n ∷ ws) new → marks_left outputs new < marks_left outputs hs
  fewer_with_next marks after end new n more here made put =
      let g = got (λ (m : Mark). record { key = m.key; part = h.part; place = after; start = end }) marks after n made in
      let m : Mark = record { key = n.key; end = 0 } in
      let next : left_from outputs n ≡ get_or (map (λ (p : Output). length p.marks.items) outputs) h.part 0 - after = ap (left_from outputs) (g.1 m) in
      omega (
        arith,
        left_before,
        count_at,
        inside,
        more,
        next,
        g.0,
        ap length here,
        sum_by-cons (left_from outputs) n ws,
        sum_by-IsPermutation (left_from outputs) (n ∷ ws) new put,
      )
