-- What a file without faults of keys has in its tables.
use Rattle.std.proofs.Common.{◌≡◌, sym, refl, ℕ, ◌≤◌, Bool, true, false, not, ◌&&◌, List, [], ◌∷◌, ◌++◌, find, nat_le, Option, Some, None, unwrap_or, inl, inr}
use Rattle.std.specs.Option.{option_or, option_map_or, option_and_then, is_none}
use Rattle.std.specs.List.{AllByRecursion}
use Rattle.std.proofs.lemmas.Bool.{cases_Bool, and_parts, false≢true, leb-true}
use Rattle.toml.specs.Data.{Data, Members}
use Rattle.chord_scenario.specs.declared.key.Place.TheVariants as place
use Rattle.chord_scenario.specs.declared.key.FileKey.TheVariants as key
use Rattle.chord_scenario.specs.declared.key.Group.TheVariants.{Nodes, Classes, Commands}
use Rattle.chord_scenario.specs.declared.key.Entry.{Entry}
use Rattle.chord_scenario.specs.declared.keys_check.Needs.{Needs}
use Rattle.chord_scenario.specs.declared.key.Form.TheVariants.{Whole, Profile}
use Rattle.chord_scenario.specs.declared.fault.ScenarioFault.TheVariants.{UnknownKey, MissingKey, WrongType, OutOfRange}
use Rattle.chord_scenario.specs.FileKeys.{keys_at}
use Rattle.chord_scenario.specs.Values.{data_at, as_whole, is_within, is_profile, is_in_range}
use Rattle.chord_scenario.specs.Sections.{Section, table_at, tables_of, sections}
use Rattle.chord_scenario.specs.Search.{first_some}
use Rattle.chord_scenario.specs.KeyFaults.{
  key_fault_in,
  needs_of,
  is_missing,
  has_unlisted,
  unknown_key,
  missing_key,
  has_wrong_type,
  wrong_type,
  is_out_of_range,
  out_of_range,
}
use Rattle.chord_scenario.specs.Faults.{first_answer}
use Rattle.chord_scenario.specs.Groups.{key_questions}
use Rattle.chord_scenario.proofs.FirstRepeat.{mapped_none}
use Rattle.chord_scenario.proofs.DistinctNames.{or_none}

-- no key of the table is unlisted, missing, of another type or out of range
pub record IsSound (profile bits : ℕ) (needs : Needs) (s : Section) : Type 0 where
  pub known : has_unlisted profile s.at s.members ≡ false
  pub present : AllByRecursion (λ e. is_missing needs s e ≡ false) (keys_at profile s.at)
  pub typed : AllByRecursion (λ e. has_wrong_type s e ≡ false) (keys_at profile s.at)
  pub fitting : AllByRecursion (λ e. is_out_of_range bits s e ≡ false) (keys_at profile s.at)

find-none-each : (test : Entry → Bool) (es : List Entry) → find test es ≡ None → AllByRecursion (λ e. test e ≡ false) es
find-none-each test [] h = tt
find-none-each test (e ∷ es) h =
    elim (cases_Bool (test e)) [
      | inl here ↦ absurd (cc (rw here at h))
      | inr other ↦ (other, find-none-each test es (rw other at h))
    ]

known_each : (profile : ℕ) (ss : List Section) → find (λ s. has_unlisted profile s.at s.members) ss ≡ None
    → AllByRecursion (λ s. has_unlisted profile s.at s.members ≡ false) ss
known_each profile [] h = tt
known_each profile (s ∷ ss) h =
    elim (cases_Bool (has_unlisted profile s.at s.members)) [
      | inl here ↦ absurd (cc (rw here at h))
      | inr other ↦ (other, known_each profile ss (rw other at h))
    ]

sound_each : (profile bits : ℕ) (needs : Needs) (ss : List Section)
    → AllByRecursion (λ s. has_unlisted profile s.at s.members ≡ false) ss
    → first_some (key_fault_in profile MissingKey (is_missing needs)) ss ≡ None
    → first_some (key_fault_in profile WrongType has_wrong_type) ss ≡ None
    → first_some (key_fault_in profile OutOfRange (is_out_of_range bits)) ss ≡ None
    → AllByRecursion (IsSound profile bits needs) ss
sound_each profile bits needs [] known missing wrong out = tt
sound_each profile bits needs (s ∷ ss) known missing wrong out =
    let (m, ms) = or_none (key_fault_in profile MissingKey (is_missing needs) s)
    (first_some (key_fault_in profile MissingKey (is_missing needs)) ss) missing in
    let (w, ws) = or_none (key_fault_in profile WrongType has_wrong_type s) (first_some (key_fault_in profile WrongType has_wrong_type) ss) wrong in
    let (o, os) = or_none (key_fault_in profile OutOfRange (is_out_of_range bits) s)
    (first_some (key_fault_in profile OutOfRange (is_out_of_range bits)) ss) out in (
      record {
        known = known.0;
        present = find-none-each (is_missing needs s) (keys_at profile s.at)
            (mapped_none (λ (e : Entry). MissingKey s.at e.0) (find (is_missing needs s) (keys_at profile s.at)) m);
        typed = find-none-each (has_wrong_type s) (keys_at profile s.at)
            (mapped_none (λ (e : Entry). WrongType s.at e.0) (find (has_wrong_type s) (keys_at profile s.at)) w);
        fitting = find-none-each (is_out_of_range bits s) (keys_at profile s.at)
            (mapped_none (λ (e : Entry). OutOfRange s.at e.0) (find (is_out_of_range bits s) (keys_at profile s.at)) o);
      },
      sound_each profile bits needs ss known.1 ms ws os,
    )

-- no question of keys finds a fault, so each table is sound
pub sound_sections : (profile bits : ℕ) (ss : List Section) → first_answer (key_questions profile bits ss) ≡ None
    → AllByRecursion (IsSound profile bits (needs_of ss)) ss
unfolding unknown_key missing_key wrong_type out_of_range
sound_sections profile bits ss h =
    let (listed, known) = or_none (unknown_key profile ss)
    (option_or (missing_key profile ss) (option_or (wrong_type profile ss) (option_or (out_of_range profile bits ss) None))) h in
    let (missing, rest) = or_none (missing_key profile ss) (option_or (wrong_type profile ss) (option_or (out_of_range profile bits ss) None)) known in
    let (wrong, last) = or_none (wrong_type profile ss) (option_or (out_of_range profile bits ss) None) rest in
    let (out, end) = or_none (out_of_range profile bits ss) None last in
    let each = known_each profile ss (mapped_none (λ (s : Section). UnknownKey s.at) (find (λ s. has_unlisted profile s.at s.members) ss) listed) in
    sound_each profile bits (needs_of ss) ss each missing wrong out

pub all-append : {A : Type 0} (P : A → Type 0) (xs ys : List A) → AllByRecursion P (xs ++ ys) → AllByRecursion P xs × AllByRecursion P ys
all-append P [] ys h = (tt, h)
all-append P (x ∷ xs) ys h = let (left, right) = all-append P xs ys h.1 in ((h.0, left), right)

-- a fact of every table, by the groups of tables
pub record HoldsInFile (P : Section → Type 0) (file : Members) : Type 0 where
  pub top : P (record { at = place.Top; members = file })
  pub churn : AllByRecursion P (table_at place.Churn (data_at key.Churn file))
  pub lookups : AllByRecursion P (table_at place.Lookups (data_at key.Lookups file))
  pub classes : AllByRecursion P (tables_of Classes (data_at key.Nodes file))

pub holds_in_file : (P : Section → Type 0) (file : Members) → AllByRecursion P (sections file) → HoldsInFile P file
unfolding sections
holds_in_file P file h =
    let first = record { at = place.Top; members = file } ∷ [] in
    let churn = table_at place.Churn (data_at key.Churn file) in
    let lookups = table_at place.Lookups (data_at key.Lookups file) in
    let nodes = tables_of Nodes (data_at key.Node file) in
    let classes = tables_of Classes (data_at key.Nodes file) in
    let commands = tables_of Commands (data_at key.Command file) in
    let to_classes = (all-append P (first ++ churn ++ lookups ++ nodes ++ classes) commands h).0 in
    let (to_nodes, of_classes) = all-append P (first ++ churn ++ lookups ++ nodes) classes to_classes in
    let to_lookups = (all-append P (first ++ churn ++ lookups) nodes to_nodes).0 in
    let (to_churn, of_lookups) = all-append P (first ++ churn) lookups to_lookups in
    let (of_top, of_churn) = all-append P first churn to_churn in
    record { top = of_top.0; churn = of_churn; lookups = of_lookups; classes = of_classes }

-- what a test of whole numbers says
tested : (test : ℕ → Bool) (default : ℕ) (o : Option ℕ) → option_map_or test o false ≡ true → test (unwrap_or o default) ≡ true
tested test default None h = absurd (false≢true h)
tested test default (Some n) h = h

-- a whole number that is in range
whole_fits : (bits least greatest default : ℕ) (d : Data) → is_in_range bits (Whole least greatest) d ≡ true
    → is_within least greatest (unwrap_or (as_whole d) default) ≡ true
unfolding is_in_range
whole_fits bits least greatest default d h = tested (is_within least greatest) default (as_whole d) h

not_false : (b : Bool) → not b ≡ false → b ≡ true
not_false true h = refl
not_false false h = absurd (false≢true (sym h))

pub record Fits (least greatest n : ℕ) : Type 0 where
  pub low : least ≤ n
  pub high : n ≤ greatest

between-fits : (least greatest n : ℕ) → is_within least greatest n ≡ true → Fits least greatest n
between-fits least greatest n h =
    let (low, high) = and_parts (nat_le least n) (nat_le n greatest) h in
    record { low = leb-true least n low; high = leb-true n greatest high }

-- a required number
pub number_fits : (bits least greatest : ℕ) (agrees : Data → Bool) (o : Option Data) → is_none o ≡ false
    → option_map_or (λ d. not (is_in_range bits (Whole least greatest) d && agrees d)) o false ≡ false
    → Fits least greatest (unwrap_or (option_and_then as_whole o) 0)
number_fits bits least greatest agrees None there h = absurd (false≢true (sym there))
number_fits bits least greatest agrees (Some d) there h =
    let (fits, agree) = and_parts (is_in_range bits (Whole least greatest) d) (agrees d) (not_false _ h) in
    between-fits least greatest (unwrap_or (as_whole d) 0) (whole_fits bits least greatest 0 d fits)

-- the number of a profile
pub profile_fits : (bits : ℕ) (agrees : Data → Bool) (o : Option Data) → is_none o ≡ false
    → option_map_or (λ d. not (is_in_range bits Profile d && agrees d)) o false ≡ false → is_profile (unwrap_or (option_and_then as_whole o) 0) ≡ true
unfolding is_in_range
profile_fits bits agrees None there h = absurd (false≢true (sym there))
profile_fits bits agrees (Some d) there h =
    let (fits, agree) = and_parts (is_in_range bits Profile d) (agrees d) (not_false _ h) in
    tested is_profile 0 (as_whole d) fits

-- and an optional one, with its default
pub default_fits : (bits least greatest default : ℕ) (agrees : Data → Bool) (o : Option Data) → Fits least greatest default
    → option_map_or (λ d. not (is_in_range bits (Whole least greatest) d && agrees d)) o false ≡ false
    → Fits least greatest (unwrap_or (option_and_then as_whole o) default)
default_fits bits least greatest default agrees None own h = own
default_fits bits least greatest default agrees (Some d) own h =
    let (fits, agree) = and_parts (is_in_range bits (Whole least greatest) d) (agrees d) (not_false _ h) in
    between-fits least greatest (unwrap_or (as_whole d) default) (whole_fits bits least greatest default d fits)

-- a number agrees with the others of its table
pub number_agrees : (fits : Data → Bool) (agrees : ℕ → Bool) (o : Option Data) → is_none o ≡ false
    → option_map_or (λ d. not (fits d && agrees (unwrap_or (as_whole d) 0))) o false ≡ false
    → agrees (unwrap_or (option_and_then as_whole o) 0) ≡ true
number_agrees fits agrees None there h = absurd (false≢true (sym there))
number_agrees fits agrees (Some d) there h = (and_parts (fits d) (agrees (unwrap_or (as_whole d) 0)) (not_false _ h)).1

-- a required value has its type
pub there_typed : (typed : Data → Bool) (o : Option Data) → is_none o ≡ false → option_map_or (λ d. not (typed d)) o false ≡ false
    → (d : Data) × (o ≡ Some d) × (typed d ≡ true)
there_typed typed None there h = absurd (false≢true (sym there))
there_typed typed (Some d) there h = (d, refl, not_false _ h)
