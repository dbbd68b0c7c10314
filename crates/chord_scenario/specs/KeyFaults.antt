-- The faults of keys: one that is not listed, one that is missing, a value of another type, a value out of range.
use Rattle.std.specs.Prelude.{ℕ, Bool, true, false, ◌&&◌, ◌||◌, not, unwrap_or, List, bytes_eq, find, Option, is_none, option_map}
use Rattle.std.specs.Option.{option_map_or}
use Rattle.std.specs.List.{list_any}
use Rattle.toml.specs.Data.{Members, no_members, member}
use Rattle.chord_scenario.specs.declared.key.Place.{Place}
use Rattle.chord_scenario.specs.declared.key.FileKey.{FileKey}
use Rattle.chord_scenario.specs.declared.key.FileKey.TheVariants as key
use Rattle.chord_scenario.specs.declared.key.Presence.{Presence}
use Rattle.chord_scenario.specs.declared.key.Presence.TheVariants.{Required, Optional, WithoutClasses, ForChurn, ForCoordinates, ForJoin, ForLookup}
use Rattle.chord_scenario.specs.declared.key.Entry.{Entry}
use Rattle.chord_scenario.specs.declared.keys_check.Needs.{Needs}
use Rattle.chord_scenario.specs.declared.fault.ScenarioFault.{ScenarioFault}
use Rattle.chord_scenario.specs.declared.fault.ScenarioFault.TheVariants.{UnknownKey, MissingKey, WrongType, OutOfRange}
use Rattle.chord_scenario.specs.FileKeys.{key_name, keys_at}
use Rattle.chord_scenario.specs.Operations.{is_join, is_lookup}
use Rattle.chord_scenario.specs.Values.{data_at, truth_at, as_whole, has_type, is_in_range, agrees}
use Rattle.chord_scenario.specs.Sections.{Section}
use Rattle.chord_scenario.specs.Search.{first_some, section_fault}
use Rattle.chord_scenario.specs.Settings.{has_nodes, is_placed_section, operation_at}

-- the fault at the first listed key of a table of which the test holds; none if there is no such key
abbrev pub key_fault_in : ℕ → (Place → FileKey → ScenarioFault) → (Section → Entry → Bool) → Section → Option ScenarioFault
key_fault_in profile fault test s = option_map (λ e. fault s.at e.0) (find (test s) (keys_at profile s.at))

-- the fault of the first table with a listed key of which the test holds, at the first such key in the order of the
-- list; none if there is no such table
abbrev pub key_fault : ℕ → (Place → FileKey → ScenarioFault) → (Section → Entry → Bool) → List Section → Option ScenarioFault
key_fault profile fault test ss = first_some (key_fault_in profile fault test) ss

-- the profile lists a key of this name for tables at this place
abbrev pub is_listed : ℕ → Place → List ℕ → Bool
is_listed profile p name = list_any (λ e. bytes_eq (key_name e.0) name) (keys_at profile p)

-- the table has a key that is not listed for tables at this place
abbrev pub has_unlisted : ℕ → Place → Members → Bool
has_unlisted profile p no_members = false
has_unlisted profile p (member name d ms) = not (is_listed profile p name) || has_unlisted profile p ms

-- the fault `UnknownKey` at the first table with a key that is not listed for it
unfoldable pub unknown_key : ℕ → List Section → Option ScenarioFault
unknown_key profile ss = section_fault UnknownKey (λ s. has_unlisted profile s.at s.members) ss

-- a table of a node or of a class with `churn = true`
abbrev pub is_churn_section : Section → Bool
is_churn_section s = has_nodes s.at && truth_at key.Churn s.members

-- what the nodes of a file ask of its tables
abbrev pub needs_of : List Section → Needs
needs_of ss = record { churn = list_any is_churn_section ss; coordinates = list_any is_placed_section ss }

-- a table must have a key of this presence: always, if it has no classes, by its own operation, or because nodes of the
-- file have churn or coordinates
abbrev pub is_required : Needs → Section → Presence → Bool
is_required needs s Required = true
is_required needs s Optional = false
is_required needs s WithoutClasses = is_none (data_at key.Nodes s.members)
is_required needs s ForChurn = needs.churn
is_required needs s ForCoordinates = needs.coordinates
is_required needs s ForJoin = is_join (operation_at s.members)
is_required needs s ForLookup = is_lookup (operation_at s.members)

-- the table must have this key and does not; a key with a value of another type is not missing
abbrev pub is_missing : Needs → Section → Entry → Bool
is_missing needs s e = is_required needs s e.2 && is_none (data_at e.0 s.members)

-- the fault `MissingKey` at the first table without a key that it must have, and the first such key
unfoldable pub missing_key : ℕ → List Section → Option ScenarioFault
missing_key profile ss = key_fault profile MissingKey (is_missing (needs_of ss)) ss

-- a value has another type
abbrev pub has_wrong_type : Section → Entry → Bool
has_wrong_type s e = option_map_or (λ d. not (has_type e.1 d)) (data_at e.0 s.members) false

-- the fault `WrongType` at the first table with a value that is not of its key's type, and the first such key
unfoldable pub wrong_type : ℕ → List Section → Option ScenarioFault
wrong_type profile ss = key_fault profile WrongType has_wrong_type ss

-- a value is outside its range, or does not agree with another of its table
abbrev pub is_out_of_range : ℕ → Section → Entry → Bool
is_out_of_range bits s e =
    option_map_or (λ d. not (is_in_range bits e.1 d && agrees s.members e.0 (unwrap_or (as_whole d) 0))) (data_at e.0 s.members) false

-- the fault `OutOfRange` at the first table with a value that is outside its range on a circle of this many bits, or
-- does not agree with another of its table, and the first such key
unfoldable pub out_of_range : ℕ → ℕ → List Section → Option ScenarioFault
out_of_range profile bits ss = key_fault profile OutOfRange (is_out_of_range bits) ss
