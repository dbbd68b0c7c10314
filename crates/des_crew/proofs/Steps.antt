-- Each step keeps the rule.
use Rattle.std.proofs.Common.{
  ◌≡◌,
  ◌≢◌,
  ℕ,
  ◌+◌,
  ◌-◌,
  ◌%◌,
  ◌^◌,
  ◌<◌,
  ◌≤◌,
  min,
  Bool,
  true,
  false,
  ◌||◌,
  cond,
  eqb,
  List,
  [],
  ◌∷◌,
  ◌++◌,
  length,
  set,
  refl,
  sym,
  ap,
  ◌∙◌,
  true≢false,
  lt-ltb,
  le-ltb,
  eq-eqb,
  ne_eqb,
  mod-eq_of_lt,
  ap₂,
  arith,
}
use Rattle.std.specs.Prelude.{sum_by, slice_index}
use Rattle.std.proofs.lemmas.List.Sums.{sum_by-append, sum_by_push, sum_by-le-sum_by}
use Rattle.std.proofs.lemmas.List.Elements.{All-set, All-push}
use Rattle.std.proofs.Math.Decide.{dec_lt, ℕ_discrete}
use mathlib.Core.Option.{some}
use lib.ListN.{get_elem?}
use Rattle.atomic_table.specs.Table.{keeps, Allows, Splits, Joins}
use Rattle.des_crew.specs.declared.draw_rule.View.{View}
use Rattle.des_crew.specs.declared.draw_rule.Counts.{Counts}
use Rattle.des_parts.specs.Ordering.{count_of}
use Rattle.des_crew.specs.Draws.{HasMoment, IsCounting, draws_of, draws_past_end, IsKept, after_draw, after_split, split_off, joined, spent}
use Rattle.atomic_table.proofs.Lists.{set_here, set_else}
use Rattle.des_crew.proofs.Counts.{count_of-push, counts_itself, length-le}
use Rattle.des_crew.proofs.Lists.{get_or-at, All-at, slice_get-from_get_elem, sum_by-replaced, sum_by-at}

-- what may still be drawn past the end is within the allowance
draws_past_end-le : (v : View) → draws_past_end v ≤ v.allowance
draws_past_end-le v = within v.met_end v.allowance
  where
    within : (b : Bool) (n : ℕ) → cond b 0 n ≤ n
    within true n = omega arith
    within false n = omega arith

sum_past_end-le : (views : List View) → sum_by draws_past_end views ≤ sum_by (λ v. v.allowance) views
sum_past_end-le views = sum_by-le-sum_by draws_past_end (λ v. v.allowance) views draws_past_end-le

-- a seat that has not met the end may still draw its allowance past it
draws_past_end-open : (v : View) → v.met_end ≡ false → draws_past_end v ≡ v.allowance
draws_past_end-open v open_end = ap (λ (b : Bool). cond b 0 v.allowance) open_end

module _ (parts seats word : ℕ) (views : List View) (kept : IsKept parts seats word views) (id : ℕ) (v : View) (at : get_elem? views id ≡ some v)
    (open_end : v.met_end ≡ false) (some_left : 0 < v.allowance) where
  -- the word grows by 1, and stays far below where it would wrap
  pub word_below : word < parts + seats
  word_below = omega (arith, kept.never_wraps, sum_by-at draws_past_end views id v at, draws_past_end-open v open_end)

  draws_number : word < parts → IsKept parts seats (word + 1) (set views id
      (record { numbers = v.numbers ++ word ∷ []; allowance = v.allowance; met_end = v.met_end }))
  draws_number below =
      let w : View = record { numbers = v.numbers ++ word ∷ []; allowance = v.allowance; met_end = v.met_end } in
      let count : (x : ℕ) → draws_of x (set views id w) ≡ draws_of x views + cond (eqb word x) 1 0 = λ x. omega
      (arith, sum_by-replaced (λ u. count_of x u.numbers) views id v w at, count_of-push x word v.numbers) in
      let allowance : sum_by (λ u. u.allowance) (set views id w) ≡ seats = omega
      (arith, sum_by-replaced (λ u. u.allowance) views id v w at, kept.whole_allowance) in
      record {
        each_once = λ x h. rw (count x) (once x h (ℕ_discrete word x));
        no_other = λ x h. rw (count x) (other x h);
        whole_allowance = allowance;
        spent_is_empty = All-set (λ u. u.allowance ≡ 0 → u.numbers ≡ []) views id w (λ none. absurd (omega arith)) kept.spent_is_empty;
        end_is_met = All-set (λ u. u.met_end ≡ true → parts ≤ word + 1) views id w (λ e. absurd (true≢false (sym e ∙ open_end)))
            (λ k d in_range e. absurd (omega (arith, kept.end_is_met k d in_range e)));
        never_wraps = omega (arith, sum_past_end-le (set views id w));
      }
    where
      once : (x : ℕ) → x < min (word + 1) parts → Dec (word ≡ x) → draws_of x views + cond (eqb word x) 1 0 ≡ 1
      once x h (yes same) = rw (eq-eqb word x same) (omega (arith, kept.no_other x (omega arith)))
      once x h (no apart) = rw (ne_eqb word x apart) (omega (arith, kept.each_once x (omega arith)))

      other : (x : ℕ) → min (word + 1) parts ≤ x → draws_of x views + cond (eqb word x) 1 0 ≡ 0
      other x h = rw (ne_eqb word x (λ same. absurd (omega arith))) (omega (arith, kept.no_other x (omega arith)))

  meets_end : parts ≤ word → IsKept parts seats (word + 1) (set views id (record { numbers = v.numbers; allowance = v.allowance; met_end = true }))
  meets_end past =
      let w : View = record { numbers = v.numbers; allowance = v.allowance; met_end = true } in
      let count : (x : ℕ) → draws_of x (set views id w) ≡ draws_of x views = λ x. omega (arith, sum_by-replaced (λ u. count_of x u.numbers) views id v w at) in
      record {
        each_once = λ x h. count x ∙ kept.each_once x (omega arith);
        no_other = λ x h. count x ∙ kept.no_other x (omega arith);
        whole_allowance = omega (arith, sum_by-replaced (λ u. u.allowance) views id v w at, kept.whole_allowance);
        spent_is_empty = All-set (λ u. u.allowance ≡ 0 → u.numbers ≡ []) views id w (λ none. absurd (omega arith)) kept.spent_is_empty;
        end_is_met = All-set (λ u. u.met_end ≡ true → parts ≤ word + 1) views id w (λ _. omega arith) (λ k d in_range e. omega arith);
        never_wraps = omega (arith, sum_by-replaced draws_past_end views id v w at, kept.never_wraps, draws_past_end-open v open_end);
      }

  pub draw_keeps : IsKept parts seats (word + 1) (set views id (after_draw parts v word))
  draw_keeps = at_word (dec_lt word parts)
    where
      at_word : Dec (word < parts) → IsKept parts seats (word + 1) (set views id (after_draw parts v word))
      at_word (yes below) = rw (lt-ltb word parts below) (draws_number below)
      at_word (no past) = rw (le-ltb word parts (omega arith)) (meets_end (omega arith))

-- no seat has more numbers than there are
pub numbers_fit : (parts seats word : ℕ) (views : List View) → IsKept parts seats word views → (id : ℕ) (v : View) → get_elem? views id ≡ some v
    → length v.numbers ≤ parts
numbers_fit parts seats word views kept id v at = length-le parts v.numbers once past
  where
    in_all : (x : ℕ) → count_of x v.numbers ≤ draws_of x views
    in_all x = sum_by-at (λ u. count_of x u.numbers) views id v at

    once : (x : ℕ) → count_of x v.numbers ≤ 1
    once x = by_word (dec_lt x (min word parts))
      where
        by_word : Dec (x < min word parts) → count_of x v.numbers ≤ 1
        by_word (yes below) = omega (arith, in_all x, kept.each_once x below)
        by_word (no not_below) = omega (arith, in_all x, kept.no_other x (omega arith))

    past : (x : ℕ) → parts ≤ x → count_of x v.numbers ≡ 0
    past x h = omega (arith, in_all x, kept.no_other x (omega arith))

-- what a draw asks of the table
pub draw_allowed : {S : Type 0} (counts : Counts) (slots id : ℕ) (me : View × List (ℕ × S)) → me.0.met_end ≡ false → 0 < me.0.allowance
    → counts.parts + counts.seats < 2 ^ 64 → Allows (IsCounting counts) slots id me 0 (λ n. (n + 1) % 2 ^ 64)
    (λ found after. (after ≡ (after_draw counts.parts me.0 found, me.1)) × (length after.0.numbers ≤ counts.parts) × HasMoment counts.parts counts.seats id after.0)
draw_allowed {S} counts slots id me open_end some_left fits s holds homes at range =
    let word = holds.0 in
    let is : slice_index s.words 0 ≡ word = ap (λ (l : List ℕ). slice_index l 0) holds.1 in
    let below : word < counts.parts + counts.seats = word_below counts.parts counts.seats word s.views holds.2 id me.0 at open_end some_left in
    let next : (word + 1) % 2 ^ 64 ≡ word + 1 = mod-eq_of_lt (omega arith) in
    let new : View = after_draw counts.parts me.0 word in
    let after = draw_keeps counts.parts counts.seats word s.views holds.2 id me.0 at open_end some_left in
    let here : get_elem? (set s.views id new) id ≡ some new = set_here s.views id new (get_or-at s.views id me.0 me.0 at).0 in
    rw is (
      new,
      keeps,
      tt,
      (word + 1, ap₂ (λ (l : List ℕ) (n : ℕ). set l 0 n) holds.1 next, after),
      (
        refl,
        numbers_fit counts.parts counts.seats (word + 1) (set s.views id new) after id new here,
        (word + 1, set s.views id new, after, slice_get-from_get_elem (set s.views id new) id new here),
      ),
    )

-- a split leaves the same sums
pub split_keeps : (parts seats word : ℕ) (views : List View) → IsKept parts seats word views → (id : ℕ) (v : View) → get_elem? views id ≡ some v
    → 2 ≤ v.allowance → IsKept parts seats word (set views id (after_split v) ++ split_off v ∷ [])
split_keeps parts seats word views kept id v at enough =
    let old : View = after_split v in
    let new : View = split_off v in
    let count : (x : ℕ) → draws_of x (set views id old ++ new ∷ []) ≡ draws_of x views = λ x. omega
    (arith, sum_by-replaced (λ u. count_of x u.numbers) views id v old at, sum_by_push (λ u. count_of x u.numbers) (set views id old) new) in
    let known : v.met_end ≡ true → parts ≤ word = All-at (λ u. u.met_end ≡ true → parts ≤ word) views id v at kept.end_is_met in
    let left : draws_past_end old + draws_past_end new ≡ draws_past_end v = parted v.met_end v.allowance (omega arith) in
    record {
      each_once = λ x h. count x ∙ kept.each_once x h;
      no_other = λ x h. count x ∙ kept.no_other x h;
      whole_allowance = omega (
        arith,
        sum_by-replaced (λ u. u.allowance) views id v old at,
        sum_by_push (λ u. u.allowance) (set views id old) new,
        kept.whole_allowance,
      );
      spent_is_empty = All-push (λ u. u.allowance ≡ 0 → u.numbers ≡ []) (set views id old) new
          (All-set (λ u. u.allowance ≡ 0 → u.numbers ≡ []) views id old (λ none. absurd (omega arith)) kept.spent_is_empty) (λ _. refl);
      end_is_met = All-push (λ u. u.met_end ≡ true → parts ≤ word) (set views id old) new
          (All-set (λ u. u.met_end ≡ true → parts ≤ word) views id old known kept.end_is_met) known;
      never_wraps = omega (arith, sum_by-replaced draws_past_end views id v old at, sum_by_push draws_past_end (set views id old) new, kept.never_wraps);
    }
  where
    parted : (b : Bool) (n : ℕ) → 1 ≤ n → cond b 0 (n - 1) + cond b 0 1 ≡ cond b 0 n
    parted true n h = refl
    parted false n h = omega arith

-- a join leaves the same sums, or fewer draws past the end
pub join_keeps : (parts seats word : ℕ) (views : List View) → IsKept parts seats word views → (id : ℕ) (v : View) (other : ℕ) (w : View)
    → get_elem? views id ≡ some v → get_elem? views other ≡ some w → other ≢ id → get_elem? (set views id (joined v w)) other ≡ some w
    → IsKept parts seats word (set (set views id (joined v w)) other spent)
join_keeps parts seats word views kept id v other w at there apart there' =
    let both : View = joined v w in
    let middle : List View = set views id both in
    let count : (x : ℕ) → draws_of x (set middle other spent) ≡ draws_of x views = λ x. omega (
      arith,
      sum_by-replaced (λ u. count_of x u.numbers) views id v both at,
      sum_by-replaced (λ u. count_of x u.numbers) middle other w spent
          there',
      sum_by-append (λ y. cond (eqb y x) 1 0) v.numbers w.numbers,
    ) in
    let known_by : (u : View) (k : ℕ) → get_elem? views k ≡ some u → u.met_end ≡ true
    → parts ≤ word = λ u k e. All-at (λ y. y.met_end ≡ true → parts ≤ word) views k u e kept.end_is_met in
    let left : draws_past_end both ≤ draws_past_end v + draws_past_end w = fewer v.met_end w.met_end v.allowance w.allowance in
    record {
      each_once = λ x h. count x ∙ kept.each_once x h;
      no_other = λ x h. count x ∙ kept.no_other x h;
      whole_allowance = omega (
        arith,
        sum_by-replaced (λ u. u.allowance) views id v both at,
        sum_by-replaced (λ u. u.allowance) middle other w spent
            there',
        kept.whole_allowance,
      );
      spent_is_empty = All-set (λ u. u.allowance ≡ 0 → u.numbers ≡ []) middle other spent (λ _. refl)
          (All-set (λ u. u.allowance ≡ 0 → u.numbers ≡ []) views id both
          (λ none. rw (
            All-at (λ u. u.allowance ≡ 0 → u.numbers ≡ []) views id v at kept.spent_is_empty (omega arith),
            All-at
                (λ u. u.allowance ≡ 0 → u.numbers ≡ []) views other w there kept.spent_is_empty (omega arith),
          )) kept.spent_is_empty);
      end_is_met = All-set (λ u. u.met_end ≡ true → parts ≤ word) middle other spent (λ e. absurd (true≢false (sym e)))
          (All-set (λ u. u.met_end ≡ true → parts ≤ word) views id both (either_knows v.met_end w.met_end (known_by v id at) (known_by w other there))
          kept.end_is_met);
      never_wraps = omega (
        arith,
        sum_by-replaced draws_past_end views id v both at,
        sum_by-replaced draws_past_end middle other w spent there',
        kept.never_wraps,
      );
    }
  where
    fewer : (a b : Bool) (m n : ℕ) → cond (a || b) 0 (m + n) ≤ cond a 0 m + cond b 0 n
    fewer true true m n = omega arith
    fewer true false m n = omega arith
    fewer false true m n = omega arith
    fewer false false m n = omega arith

    either_knows : (a b : Bool) → (a ≡ true → parts ≤ word) → (b ≡ true → parts ≤ word) → (a || b) ≡ true → parts ≤ word
    either_knows true b p q e = p refl
    either_knows false b p q e = q e

-- what a split and a join ask of the table
pub split_allowed : {S : Type 0} (counts : Counts) (id : ℕ) (v : View) → 2 ≤ v.allowance → Splits {S = S} (IsCounting counts) id v (after_split v) (split_off v)
split_allowed counts id v enough s holds at = (holds.0, holds.1, split_keeps counts.parts counts.seats holds.0 s.views holds.2 id v at enough)

pub join_allowed : {S : Type 0} (counts : Counts) (id : ℕ) (v : View) (other : ℕ) (w : View) → Joins {S = S} (IsCounting counts) id v other w (joined v w) spent
join_allowed counts id v other w s holds at apart there =
    let there' : get_elem? s.views other ≡ some w = sym (set_else s.views id other (joined v w) apart) ∙ there in
    (holds.0, holds.1, join_keeps counts.parts counts.seats holds.0 s.views holds.2 id v other w at there' apart there)

-- a number that a draw found below `parts` is in the seat's list
pub has_drawn : (parts found : ℕ) (v : View) → found < parts → 0 < count_of found (after_draw parts v found).numbers
has_drawn parts found v below =
    rw (lt-ltb found parts below) (omega (arith, count_of-push found found v.numbers, counts_itself found))

-- a draw of a number tells nothing of the end, and one past the end tells that it is met
pub number_tells_no_end : (parts found : ℕ) (v : View) → found < parts → (after_draw parts v found).met_end ≡ v.met_end
number_tells_no_end parts found v below = rw (lt-ltb found parts below) refl

pub end_is_told : (parts found : ℕ) (v : View) → parts ≤ found → (after_draw parts v found).met_end ≡ true
end_is_told parts found v past = rw (le-ltb found parts past) refl
