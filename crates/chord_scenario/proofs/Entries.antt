-- What a sound table holds at its keys: each fact is found by its key, wherever that is among the keys of the table.
use Rattle.std.proofs.Common.{◌≡◌, subst, ap, ℕ, ◌≤◌, ◌==◌, arith, Bool, true, false, List, [], ◌∷◌, bytes_eq, find, Option, Some, unwrap_or, inl, inr, ◌⊎◌}
use Rattle.std.specs.List.{AllByRecursion}
use Rattle.std.specs.Option.{option_and_then}
use Rattle.std.proofs.lemmas.Bool.{cases_Bool}
use Rattle.std.proofs.lemmas.Option.{same_Some}
use Rattle.toml.specs.Data.{Data, as_bool}
use Rattle.chord_scenario.specs.declared.key.FileKey.{FileKey}
use Rattle.chord_scenario.specs.declared.key.FileKey.TheVariants as key
use Rattle.chord_scenario.specs.declared.key.Entry.{Entry}
use Rattle.chord_scenario.specs.declared.key.Presence.{Presence}
use Rattle.chord_scenario.specs.declared.keys_check.Needs.{Needs}
use Rattle.chord_scenario.specs.declared.key.Form.TheVariants.{Whole, Profile}
use Rattle.chord_scenario.specs.FileKeys.{key_name, required, optional, keys_at}
use Rattle.chord_scenario.specs.declared.key.Place.TheVariants as place
use Rattle.chord_scenario.specs.KeyFaults.{is_listed, is_required, is_missing, has_wrong_type, is_out_of_range}
use Rattle.chord_scenario.specs.Sections.{Section}
use Rattle.chord_scenario.specs.Settings.{number_or}
use Rattle.chord_scenario.specs.Values.{data_at, number_at, truth_at, as_whole, has_type, is_profile, is_in_range, agrees}
use Rattle.chord_scenario.proofs.KeyFaults.{unlisted-none}
use Rattle.chord_scenario.proofs.SoundSections.{IsSound, Fits, number_fits, profile_fits, default_fits, number_agrees, there_typed}

-- the entry of a key among those of a table; at a table of the file format it computes
abbrev pub entry_of : FileKey → List Entry → Option Entry
entry_of k es = find (λ e. bytes_eq (key_name k) (key_name e.0)) es

-- a profile is the extended or the second one, or counts as the first
abbrev pub IsExtended : (profile : ℕ) → Type 0
IsExtended profile = (profile == 4) ≡ true

pub record IsSecond (profile : ℕ) : Type 0 where
  pub not_extended : (profile == 4) ≡ false
  pub second : (profile == 2) ≡ true

pub record IsFirst (profile : ℕ) : Type 0 where
  pub not_extended : (profile == 4) ≡ false
  pub not_second : (profile == 2) ≡ false

pub profile_cases : (profile : ℕ) → IsExtended profile ⊎ (IsSecond profile ⊎ IsFirst profile)
profile_cases profile =
    elim (cases_Bool (profile == 4)) [
      | inl extended ↦ inl extended
      | inr not_extended ↦
          elim (cases_Bool (profile == 2)) [
            | inl second ↦ inr (inl (record { not_extended = not_extended; second = second }))
            | inr not_second ↦ inr (inr (record { not_extended = not_extended; not_second = not_second }))
          ]
    ]

-- the entry of a key at top is that of each profile
pub in_each : (profile : ℕ) {e : Entry} → entry_of e.0 (keys_at 4 place.Top) ≡ Some e → entry_of e.0 (keys_at 2 place.Top) ≡ Some e
    → entry_of e.0 (keys_at 1 place.Top) ≡ Some e → entry_of e.0 (keys_at profile place.Top) ≡ Some e
in_each profile in_extended in_second in_first =
    elim (profile_cases profile) [
      | inl extended ↦ rw extended in_extended
      | inr (inl is) ↦ rw (is.not_extended, is.second) in_second
      | inr (inr is) ↦ rw (is.not_extended, is.not_second) in_first
    ]

-- what holds of every entry holds of one that is found
of_found : (P : Entry → Type 0) (test : Entry → Bool) (es : List Entry) (e : Entry) → find test es ≡ Some e → AllByRecursion P es → P e
of_found P test [] e is all = absurd cc
of_found P test (x ∷ xs) e is all =
    elim (cases_Bool (test x)) [
      | inl here ↦ subst P (same_Some x e (rw here at is)) all.0
      | inr other ↦ of_found P test xs e (rw other at is) all.1
    ]

module _ {profile bits : ℕ} {needs : Needs} {s : Section} (sound : IsSound profile bits needs s) where
  -- the table has this entry
  abbrev pub Lists : Entry → Type 0
  Lists e = entry_of e.0 (keys_at profile s.at) ≡ Some e

  not_missing : (e : Entry) → Lists e → is_missing needs s e ≡ false
  not_missing e is = of_found (λ x. is_missing needs s x ≡ false) (λ x. bytes_eq (key_name e.0) (key_name x.0)) (keys_at profile s.at) e is sound.present

  pub not_wrong : (e : Entry) → Lists e → has_wrong_type s e ≡ false
  not_wrong e is = of_found (λ x. has_wrong_type s x ≡ false) (λ x. bytes_eq (key_name e.0) (key_name x.0)) (keys_at profile s.at) e is sound.typed

  pub not_out : (e : Entry) → Lists e → is_out_of_range bits s e ≡ false
  not_out e is = of_found (λ x. is_out_of_range bits s x ≡ false) (λ x. bytes_eq (key_name e.0) (key_name x.0)) (keys_at profile s.at) e is sound.fitting

  -- a required number is in range, and agrees with the others of the table
  pub required_fits : (k : FileKey) (least greatest : ℕ) → Lists (required k (Whole least greatest)) → Fits least greatest (number_at k s.members)
  required_fits k least greatest is =
      let e = required k (Whole least greatest) in
      number_fits bits least greatest (λ d. agrees s.members k (unwrap_or (as_whole d) 0)) (data_at k s.members) (not_missing e is) (not_out e is)

  pub required_agrees : (k : FileKey) (least greatest : ℕ) → Lists (required k (Whole least greatest)) → agrees s.members k (number_at k s.members) ≡ true
  required_agrees k least greatest is =
      let e = required k (Whole least greatest) in
      number_agrees (is_in_range bits (Whole least greatest)) (agrees s.members k) (data_at k s.members) (not_missing e is) (not_out e is)

  pub required_profile : Lists (required key.Profile Profile) → is_profile (number_at key.Profile s.members) ≡ true
  required_profile is =
      let e = required key.Profile Profile in
      profile_fits bits (λ d. agrees s.members key.Profile (unwrap_or (as_whole d) 0)) (data_at key.Profile s.members) (not_missing e is) (not_out e is)

  -- an optional number is in range if its default is
  pub optional_fits : (k : FileKey) (least greatest default : ℕ) → Lists (optional k (Whole least greatest)) → Fits least greatest default
      → Fits least greatest (number_or default k s.members)
  optional_fits k least greatest default is own =
      default_fits bits least greatest default (λ d. agrees s.members k (unwrap_or (as_whole d) 0)) (data_at k s.members) own
      (not_out (optional k (Whole least greatest)) is)

  -- a number at a listed key is at most its greatest
  pub listed_fits : (k : FileKey) (greatest : ℕ) (presence : Presence) → Lists (record { 0 = k; 1 = Whole 0 greatest; 2 = presence })
      → number_at k s.members ≤ greatest
  listed_fits k greatest presence is =
      (default_fits bits 0 greatest 0 (λ d. agrees s.members k (unwrap_or (as_whole d) 0)) (data_at k s.members)
      (record { low = omega arith; high = omega arith })
      (not_out (record { 0 = k; 1 = Whole 0 greatest; 2 = presence }) is)).high

  -- a required value is there, and has its type
  pub has_typed : (e : Entry) → Lists e → is_required needs s e.2 ≡ true → (d : Data) × (data_at e.0 s.members ≡ Some d) × (has_type e.1 d ≡ true)
  has_typed e is must = there_typed (has_type e.1) (data_at e.0 s.members) (rw must at (not_missing e is)) (not_wrong e is)

  -- a number at a key that the table does not list is its default
  pub unlisted_default : (k : FileKey) (default : ℕ) → is_listed profile s.at (key_name k) ≡ false → number_or default k s.members ≡ default
  unfolding data_at
  unlisted_default k default other =
      ap (λ o. unwrap_or (option_and_then as_whole o) default) (unlisted-none profile s.at (key_name k) s.members other sound.known)

  -- a boolean at a key that the table does not list is false
  pub unlisted_false : (k : FileKey) → is_listed profile s.at (key_name k) ≡ false → truth_at k s.members ≡ false
  unfolding data_at
  unlisted_false k other = ap (λ o. unwrap_or (option_and_then as_bool o) false) (unlisted-none profile s.at (key_name k) s.members other sound.known)
