-- What a table of a scenario file holds at a key, and which values a key may hold.
use Rattle.std.specs.Prelude.{
  ℕ,
  ◌+◌,
  ◌*◌,
  ◌^◌,
  pos,
  Bool,
  true,
  false,
  ◌&&◌,
  ◌||◌,
  ◌==◌,
  List,
  length,
  nat_le,
  nat_lt,
  Option,
  Some,
  None,
  is_some,
  option_and_then,
  unwrap_or,
  if◌then◌else◌,
}
use Rattle.std.specs.Option.{option_map_or}
use Rattle.std.specs.List.{list_all}
use Rattle.std.specs.Str.Parse.{digits_value}
use Rattle.toml.specs.Data.{Data, string, integer, Items, no_items, item, Members, get_member, as_str, as_bool, as_integer, as_array, as_table}
use Rattle.chord_scenario.specs.declared.key.FileKey.{FileKey}
use Rattle.chord_scenario.specs.declared.key.FileKey.TheVariants as key
use Rattle.chord_scenario.specs.declared.key.Form.{Form}
use Rattle.chord_scenario.specs.declared.key.Form.TheVariants.{Whole, Profile, Text, Operation, Boolean, Identifier, Table, Tables}
use Rattle.chord_scenario.specs.FileKeys.{key_name}
use Rattle.chord_scenario.specs.Operations.{is_allowed, operation_named}

-- what the members hold at a key
unfoldable pub data_at : FileKey → Members → Option Data
data_at k ms = get_member (key_name k) ms

-- a whole number from 0
abbrev pub as_whole : Data → Option ℕ
as_whole (integer (pos n)) = Some n
as_whole _ = None

-- the number at a key, and 0 if the key holds none
abbrev pub number_at : FileKey → Members → ℕ
number_at k ms = unwrap_or (option_and_then as_whole (data_at k ms)) 0

-- the boolean at a key, and the default if the key holds none
abbrev pub truth_or : (default : Bool) → FileKey → Members → Bool
truth_or default k ms = unwrap_or (option_and_then as_bool (data_at k ms)) default

-- the boolean at a key, and `false` if the key holds none
abbrev pub truth_at : FileKey → Members → Bool
truth_at k ms = truth_or false k ms

-- the text at a key
abbrev pub text_at : FileKey → Members → Option (List ℕ)
text_at k ms = option_and_then as_str (data_at k ms)

-- the value is a table
abbrev pub is_table : Data → Bool
is_table d = is_some (as_table d)

-- all items of an array are tables, also if there are none
abbrev pub are_tables : Items → Bool
are_tables no_items = true
are_tables (item d ds) = is_table d && are_tables ds

-- the number of items of an array
abbrev pub item_count : Items → ℕ
item_count no_items = 0
item_count (item d ds) = 1 + item_count ds

-- the value has the type that the form wants
unfoldable pub has_type : Form → Data → Bool
has_type (Whole least greatest) d = is_some (as_integer d)
has_type Profile d = is_some (as_integer d)
has_type Text d = is_some (as_str d)
has_type (Operation leaves) d = is_some (as_str d)
has_type Boolean d = is_some (as_bool d)
has_type (Identifier digits) d = is_some (as_integer d) || is_some (as_str d)
has_type Table d = is_table d
has_type (Tables least greatest) d = option_map_or are_tables (as_array d) false

-- `0` to `9` and `a` to `f`
abbrev pub is_hexadecimal_digit : ℕ → Bool
is_hexadecimal_digit b = nat_le 48 b && nat_le b 57 || nat_le 97 b && nat_le b 102

-- the number that 1 to 32 hexadecimal digits write
unfoldable pub hexadecimal : List ℕ → Option ℕ
hexadecimal digits =
    if nat_le 1 (length digits) && nat_le (length digits) 32 && list_all is_hexadecimal_digit digits
    then Some (digits_value 16 digits) else None

-- the number that an identifier is, whole or in hexadecimal digits
abbrev pub identifier_of : Data → Option ℕ
identifier_of (integer (pos n)) = Some n
identifier_of (string digits) = hexadecimal digits
identifier_of _ = None

-- the value is no text of more than this many digits
abbrev pub has_digits : ℕ → Data → Bool
has_digits most d = option_map_or (λ digits. nat_le (length digits) most) (as_str d) true

-- the number is neither below the least nor above the greatest
abbrev pub is_within : ℕ → ℕ → ℕ → Bool
is_within least greatest n = nat_le least n && nat_le n greatest

-- the number is that of a profile: 1 and 2, or 4, the extended one
abbrev pub is_profile : ℕ → Bool
is_profile n = n == 1 || n == 2 || n == 4

-- the value is one of those that the form allows, on a circle of this many bits
unfoldable pub is_in_range : ℕ → Form → Data → Bool
is_in_range bits (Whole least greatest) d = option_map_or (is_within least greatest) (as_whole d) false
is_in_range bits Profile d = option_map_or is_profile (as_whole d) false
is_in_range bits Text d = true
is_in_range bits (Operation leaves) d = option_map_or (λ word. is_allowed leaves (operation_named word)) (as_str d) false
is_in_range bits Boolean d = true
is_in_range bits (Identifier digits) d = option_map_or (λ n. has_digits digits d && nat_lt n (2 ^ bits)) (identifier_of d) false
is_in_range bits Table d = true
is_in_range bits (Tables least greatest) d = option_map_or (λ ds. is_within least greatest (item_count ds)) (as_array d) false

-- the number agrees with those at other keys of its table: a greatest is not below its least, and an audit's
-- period divides the duration into at most 1,000,000
abbrev pub agrees : Members → FileKey → ℕ → Bool
agrees ms key.LifeMaxUs n = nat_le (number_at key.LifeMinUs ms) n
agrees ms key.DownMaxUs n = nat_le (number_at key.DownMinUs ms) n
agrees ms key.GapMaxUs n = nat_le (number_at key.GapMinUs ms) n
agrees ms key.AuditUs n = nat_le (number_at key.DurationUs ms) (1000000 * n)
agrees ms _ n = true
