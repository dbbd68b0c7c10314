-- The number of a text, digit by digit.
use Rattle.std.proofs.Common.{◌≡◌, ◌∙◌, sym, refl, ℕ, ◌+◌, ◌*◌, ◌<◌, ◌≤◌, ◌^◌, ◌==◌, ◌&&◌, Bool, true, false, not, nat_lt, List, Option, Some, None, arith, length, take, get_or, inl, inr, if◌then◌else◌}
use Rattle.std.specs.Char.{digit_value, is_ascii_digit}
use Rattle.std.specs.List.{list_all}
use Rattle.std.specs.Str.Parse.{digits_value}
use Rattle.std.proofs.lemmas.Bool.{and_parts, cases_Bool, false≢true, ltb-true}
use Rattle.std.proofs.lemmas.Bool.Decides.{nat_tests}
use Rattle.std.proofs.lemmas.Int.Digits.{digits_value_more}
use Rattle.std.proofs.lemmas.List.Folds.{list_all_at, list_all_more}
use Rattle.std.proofs.lemmas.Str.Parse.{digits_value-take-le}
use Rattle.chord_judge.specs.Words.{is_numeral, number_below}

-- the number that a digit makes of the number before it
abbrev next : (number byte : ℕ) → Option ℕ
next number byte =
    if is_ascii_digit byte && nat_lt (number * 10 + digit_value byte) (2 ^ 128) then Some (number * 10 + digit_value byte) else None

next_is : (number byte : ℕ) → is_ascii_digit byte ≡ true → number * 10 + digit_value byte < 2 ^ 128 → next number byte ≡ Some (number * 10 + digit_value byte)
next_is number byte digit low = let test : nat_lt (number * 10 + digit_value byte) (2 ^ 128) ≡ true = grind (arith, nat_tests) in rw (digit, test) refl

-- the digits up to a place, and the number that they write
pub record HasRead (text : List ℕ) (i number : ℕ) : Type 0 where
  pub digits : list_all is_ascii_digit (take i text) ≡ true
  pub value : number ≡ digits_value 10 (take i text)
  pub low : number < 2 ^ 128

pub read_more : (text : List ℕ) (i number n : ℕ) → i < length text → HasRead text i number → next number (get_or text i 0) ≡ Some n → HasRead text (i + 1) n
read_more text i number n within has h =
    let byte = get_or text i 0 in
    elim (cases_Bool (is_ascii_digit byte && nat_lt (number * 10 + digit_value byte) (2 ^ 128))) [
      | inl passes ↦
          let parts = and_parts (is_ascii_digit byte) (nat_lt (number * 10 + digit_value byte) (2 ^ 128)) passes in
          let same : number * 10 + digit_value byte ≡ n = cc (rw passes at h) in
          let low : number * 10 + digit_value byte < 2 ^ 128 = ltb-true (number * 10 + digit_value byte) (2 ^ 128) parts.1 in
          let more : digits_value 10 (take (i + 1) text) ≡ digits_value 10 (take i text) * 10 + digit_value byte = digits_value_more 10 text i within in
          record {
            digits = list_all_more is_ascii_digit text i 0 within ∙ rw (has.digits, parts.0) refl;
            value = omega (arith, same, more, has.value);
            low = omega (arith, same, low);
          }
      | inr fails ↦ absurd (cc (rw fails at h))
    ]

-- a byte that is no digit, or makes the number too large
pub read_no_more : (text : List ℕ) (i number : ℕ) → i < length text → HasRead text i number → next number (get_or text i 0) ≡ None
    → number_below (2 ^ 128) text ≡ None
read_no_more text i number within has h =
    let byte = get_or text i 0 in
    elim (cases_Bool (is_numeral text && nat_lt (digits_value 10 text) (2 ^ 128))) [
      | inl passes ↦
          let parts = and_parts (is_numeral text) (nat_lt (digits_value 10 text) (2 ^ 128)) passes in
          let all : list_all is_ascii_digit text ≡ true = (and_parts (not (length text == 0)) (list_all is_ascii_digit text) parts.0).1 in
          let low : digits_value 10 text < 2 ^ 128 = ltb-true (digits_value 10 text) (2 ^ 128) parts.1 in
          let digit : is_ascii_digit byte ≡ true = by_digit all (is_ascii_digit byte) refl in
          let up_to : digits_value 10 (take (i + 1) text) ≤ digits_value 10 text = digits_value-take-le 10 text (i + 1) (omega arith) in
          let more : digits_value 10 (take (i + 1) text) ≡ digits_value 10 (take i text) * 10 + digit_value byte = digits_value_more 10 text i within in
          let below : number * 10 + digit_value byte < 2 ^ 128 = omega (arith, low, up_to, more, has.value) in
          absurd (cc (sym h ∙ next_is number byte digit below))
      | inr fails ↦ rw fails refl
    ]
  where
    by_digit : list_all is_ascii_digit text ≡ true → (b : Bool) → is_ascii_digit (get_or text i 0) ≡ b → is_ascii_digit (get_or text i 0) ≡ true
    by_digit all true e = e
    by_digit all false e = absurd (false≢true (sym (list_all_at is_ascii_digit text i 0 within e) ∙ all))

-- a text that is no number below a bound is none below a lower one
pub none_below : (low high : ℕ) (text : List ℕ) → low ≤ high → number_below high text ≡ None → number_below low text ≡ None
none_below low high text order h =
    elim (cases_Bool (is_numeral text && nat_lt (digits_value 10 text) low)) [
      | inl passes ↦
          let parts = and_parts (is_numeral text) (nat_lt (digits_value 10 text) low) passes in
          let below : digits_value 10 text < low = ltb-true (digits_value 10 text) low parts.1 in
          let test : nat_lt (digits_value 10 text) high ≡ true = grind (arith, nat_tests) in absurd (cc (rw (parts.0, test) at h))
      | inr fails ↦ rw fails refl
    ]
