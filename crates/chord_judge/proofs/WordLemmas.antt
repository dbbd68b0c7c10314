-- Words and numbers that are written, and read again.
use Rattle.std.proofs.Common.{◌≡◌, ◌∙◌, sym, ap, refl, ℕ, zero, suc, ◌+◌, ◌/◌, ◌%◌, ◌<◌, ◌≤◌, ◌^◌, ◌==◌, Bool, true, false, not, nat_lt, List, [], ◌∷◌, ◌++◌, Some, arith, length, take, drop, bytes_eq, if◌then◌else◌}
use Rattle.std.specs.Char.{is_ascii_digit}
use Rattle.std.specs.Fmt.{decimal, digits, digits_onto, digit_glyph}
use Rattle.std.specs.List.{AllByRecursion, list_all, position_or_len}
use Rattle.std.specs.Str.Parse.{digits_value}
use Rattle.std.proofs.lemmas.Bool.Decides.{nat_tests}
use Rattle.std.proofs.lemmas.Fmt.{decimal_is_IsNumeral_wide}
use Rattle.std.proofs.lemmas.List.{drop-drop, drop_all, drop_at, take_all, take_at}
use Rattle.std.proofs.lemmas.Slice.Eq.{bytes_eq-Decides}
use Rattle.chord_judge.specs.Words.{after_word, first_word, is_space, number_after, number_below}
use Rattle.chord_judge.specs.Written.{is_break}
use Rattle.chord_scenario.proofs.Links.{decimal as own}

-- the text is one word: it has no space and no line feed
abbrev pub IsWord : List ℕ → Type 0
IsWord = AllByRecursion (λ byte. is_break byte ≡ false)

pub no_space : (byte : ℕ) → is_break byte ≡ false → is_space byte ≡ false
no_space byte h = grind (arith, nat_tests)

pub no_feed : (byte : ℕ) → is_break byte ≡ false → (byte == 10) ≡ false
no_feed byte h = grind (arith, nat_tests)

-- the first space is behind the first word
space_after : (word rest : List ℕ) → IsWord word → position_or_len is_space (word ++ 32 ∷ rest) ≡ length word
space_after [] rest h = refl
space_after (byte ∷ word) rest h = rw (no_space byte h.0) (ap (λ (n : ℕ). 1 + n) (space_after word rest h.1) ∙ one_more (length word))
  where
    one_more : (n : ℕ) → 1 + n ≡ suc n
    one_more n = omega arith

no_space_after : (word : List ℕ) → IsWord word → position_or_len is_space word ≡ length word
no_space_after [] h = refl
no_space_after (byte ∷ word) h = rw (no_space byte h.0) (ap (λ (n : ℕ). 1 + n) (no_space_after word h.1) ∙ one_more (length word))
  where
    one_more : (n : ℕ) → 1 + n ≡ suc n
    one_more n = omega arith

pub first_word_of : (word rest : List ℕ) → IsWord word → first_word (word ++ 32 ∷ rest) ≡ word
first_word_of word rest h = ap (λ (n : ℕ). take n (word ++ 32 ∷ rest)) (space_after word rest h) ∙ take_at word (32 ∷ rest) (length word) refl

pub after_word_of : (word rest : List ℕ) → IsWord word → after_word (word ++ 32 ∷ rest) ≡ rest
after_word_of word rest h =
    ap (λ (n : ℕ). drop (n + 1) (word ++ 32 ∷ rest)) (space_after word rest h)
    ∙ sym (drop-drop 1 (length word) (word ++ 32 ∷ rest))
    ∙ ap (drop 1) (drop_at word (32 ∷ rest) (length word) refl)

pub first_word_alone : (word : List ℕ) → IsWord word → first_word word ≡ word
first_word_alone word h = ap (λ (n : ℕ). take n word) (no_space_after word h) ∙ take_all (length word) word (omega arith)

pub after_word_alone : (word : List ℕ) → IsWord word → after_word word ≡ []
after_word_alone word h = ap (λ (n : ℕ). drop (n + 1) word) (no_space_after word h) ∙ drop_all (length word + 1) word (omega arith)

-- numbers are words
above_break : (byte : ℕ) → 48 ≤ byte → is_break byte ≡ false
above_break byte h = grind (arith, nat_tests)

glyph_above : (d : ℕ) → 48 ≤ digit_glyph false d
glyph_above d = grind (arith, nat_tests)

digits_above : (k base n : ℕ) (acc : List ℕ) → IsWord acc → IsWord (digits_onto k base false n acc)
digits_above zero base n acc h = h
digits_above (suc k) base n acc h =
    let digit : is_break (digit_glyph false (n % base)) ≡ false = above_break (digit_glyph false (n % base)) (glyph_above (n % base)) in
    by_case (n / base == 0) digit (digits_above k base (n / base) (digit_glyph false (n % base) ∷ acc) (digit, h))
  where
    by_case : (b : Bool) → is_break (digit_glyph false (n % base)) ≡ false → IsWord (digits_onto k base false (n / base) (digit_glyph false (n % base) ∷ acc))
        → IsWord (if b then digit_glyph false (n % base) ∷ acc else digits_onto k base false (n / base) (digit_glyph false (n % base) ∷ acc))
    by_case true digit rest = (digit, h)
    by_case false digit rest = rest

pub decimal_word : (n : ℕ) → IsWord (decimal n)
unfolding digits
decimal_word n = digits_above 64 10 n [] tt

-- and are read as they were
pub number_read : (bound n : ℕ) → n < bound → n < 10 ^ 64 → number_below bound (decimal n) ≡ Some n
number_read bound n low small =
    let numeral = decimal_is_IsNumeral_wide n small in
    let value : digits_value 10 (decimal n) ≡ n = numeral.1 in
    let digits : list_all is_ascii_digit (decimal n) ≡ true = own.from (decimal n) numeral.0.1 in
    let some : not (length (decimal n) == 0) ≡ true = let long : 0 < length (decimal n) = numeral.0.0 in grind (arith, nat_tests) in
    let within : nat_lt n bound ≡ true = grind (arith, nat_tests) in
    rw (some, digits, value, within) refl

pub number_after_read : (name : List ℕ) (bound n : ℕ) → n < bound → n < 10 ^ 64 → number_after name bound (name ++ decimal n) ≡ Some n
number_after_read name bound n low small =
    let front : take (length name) (name ++ decimal n) ≡ name = take_at name (decimal n) (length name) refl in
    let back : drop (length name) (name ++ decimal n) ≡ decimal n = drop_at name (decimal n) (length name) refl in
    let same : bytes_eq name name ≡ true = (bytes_eq-Decides name name).1 refl in
    rw (front, same, back) (number_read bound n low small)
