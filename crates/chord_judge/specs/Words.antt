-- Words and numbers in a text.
use Rattle.std.specs.Prelude.{ℕ, ◌==◌, ◌&&◌, Bool, not, nat_lt, List, Option, Some, None, drop, length, take, if◌then◌else◌}
use Rattle.std.specs.Char.{is_ascii_digit}
use Rattle.std.specs.List.{after_first, before_first, list_all}
use Rattle.std.specs.Str.{bytes_eq}
use Rattle.std.specs.Str.Parse.{digits_value}

-- the byte is a space
abbrev pub is_space : ℕ → Bool
is_space byte = byte == 32

-- the first word of a text: what is before its first space, and all of it if it has none
abbrev pub first_word : List ℕ → List ℕ
first_word = before_first is_space

-- what follows the first space of a text, and nothing if it has none
abbrev pub after_word : List ℕ → List ℕ
after_word = after_first is_space

-- the text is a number: it has digits alone, and at least one
abbrev pub is_numeral : List ℕ → Bool
is_numeral text = not (length text == 0) && list_all is_ascii_digit text

-- the number that a text writes in decimal digits, if it is below the bound
abbrev pub number_below : (bound : ℕ) → List ℕ → Option ℕ
number_below bound text = if is_numeral text && nat_lt (digits_value 10 text) bound then Some (digits_value 10 text) else None

-- the number below the bound that follows a name at the beginning of a text
abbrev pub number_after : (name : List ℕ) → (bound : ℕ) → List ℕ → Option ℕ
number_after name bound text = if bytes_eq (take (length name) text) name then number_below bound (drop (length name) text) else None
