-- What a file without faults of keys says of leaves.
use Rattle.std.proofs.Common.{◌≡◌, ◌≢◌, ◌==◌, sym, refl, ℕ, Bool, true, false, not, ◌&&◌, List, [], ◌∷◌, filter, map, Option, Some, None, inl, inr}
use Rattle.std.specs.Option.{option_map_or, option_and_then}
use Rattle.std.specs.List.{AllByRecursion}
use Rattle.std.proofs.lemmas.Bool.{cases_Bool, and_parts, false≢true}
use Rattle.toml.specs.Data.{Data, Members, as_str}
use Rattle.chord_scenario.specs.declared.key.FileKey.TheVariants as key
use Rattle.chord_scenario.specs.declared.key.Form.TheVariants.{Operation}
use Rattle.chord_scenario.specs.declared.key.Place.{Place}
use Rattle.chord_scenario.specs.declared.key.Place.TheVariants as place
use Rattle.chord_scenario.specs.declared.keys_check.Needs.{Needs}
use Rattle.chord_scenario.specs.declared.operation.Operation.{Operation as AnOperation}
use Rattle.chord_scenario.specs.declared.operation.Operation.TheVariants as operation
use Rattle.chord_scenario.specs.declared.setting.Action.TheVariants as action
use Rattle.chord_scenario.specs.declared.setting.Command.{Command}
use Rattle.chord_scenario.specs.declared.setting.Node.{Node}
use Rattle.chord_scenario.specs.FileKeys.{required}
use Rattle.chord_scenario.specs.Operations.{is_allowed, operation_named}
use Rattle.chord_scenario.specs.Sections.{Section}
use Rattle.chord_scenario.specs.Settings.{action_by, action_of, command_of, commands_of, is_command, operation_at}
use Rattle.chord_scenario.specs.Values.{data_at, is_in_range}
use Rattle.chord_scenario.proofs.Entries.{not_out}
use Rattle.chord_scenario.proofs.SoundSections.{IsSound}

kept_true : (b : Bool) → not b ≡ false → b ≡ true
kept_true true h = refl
kept_true false h = absurd (false≢true (sym h))

-- a word that is allowed where nobody leaves does not name a leave
no_leave_named : (o : Option (List ℕ)) → option_map_or (λ word. is_allowed false (operation_named word)) o false ≡ true
    → option_and_then operation_named o ≢ Some operation.Leave
no_leave_named None h is = absurd (false≢true h)
no_leave_named (Some word) h is = absurd (false≢true (rw is at h))

no_leave_among : (bits : ℕ) (agreeing : Data → Bool) (o : Option Data)
    → option_map_or (λ d. not (is_in_range bits (Operation false) d && agreeing d)) o false ≡ false
    → option_and_then operation_named (option_and_then as_str o) ≢ Some operation.Leave
unfolding is_in_range
no_leave_among bits agreeing None h is = absurd cc
no_leave_among bits agreeing (Some d) h is = no_leave_named (as_str d) (and_parts _ _ (kept_true _ h)).0 is

-- only the operation to leave asks for a leave
asks_no_leave : (circle : ℕ) (nodes : List Node) (ms : Members) (o : Option AnOperation) → o ≢ Some operation.Leave
    → action_by circle nodes ms o ≢ action.Leave
asks_no_leave circle nodes ms None other is = absurd cc
asks_no_leave circle nodes ms (Some operation.Join) other is = absurd cc
asks_no_leave circle nodes ms (Some operation.Crash) other is = absurd cc
asks_no_leave circle nodes ms (Some operation.Leave) other is = other refl
asks_no_leave circle nodes ms (Some operation.Lookup) other is = absurd cc

module _ (profile bits : ℕ) (needs : Needs) (not_extended : profile == 4 ≡ false) where
  stays : (p : Place) (ms : Members) (circle : ℕ) (nodes : List Node) → is_command p ≡ true
      → IsSound profile bits needs (record { at = p; members = ms }) → action_of circle nodes ms ≢ action.Leave
  stays place.Top ms circle nodes is sound = absurd (false≢true is)
  stays place.Churn ms circle nodes is sound = absurd (false≢true is)
  stays place.Lookups ms circle nodes is sound = absurd (false≢true is)
  stays (place.Node n) ms circle nodes is sound = absurd (false≢true is)
  stays (place.Nodes n) ms circle nodes is sound = absurd (false≢true is)
  stays (place.Row n) ms circle nodes is sound = absurd (false≢true is)
  stays (place.Command n) ms circle nodes is sound =
      asks_no_leave circle nodes ms (operation_at ms)
      (no_leave_among bits _ (data_at key.Do ms) (rw not_extended at (not_out sound (required key.Do (Operation (profile == 4))) refl)))

  each_stays : (circle : ℕ) (nodes : List Node) (ss : List Section) → AllByRecursion (IsSound profile bits needs) ss
      → AllByRecursion (λ (command : Command). command.action ≢ action.Leave)
      (map (λ s. command_of circle nodes s.members) (filter (λ s. is_command s.at) ss))
  unfolding command_of
  each_stays circle nodes [] sound = tt
  each_stays circle nodes (s ∷ ss) sound =
      elim (cases_Bool (is_command s.at)) [
        | inl here ↦ rw here (stays s.at s.members circle nodes here sound.0, each_stays circle nodes ss sound.1)
        | inr other ↦ rw other (each_stays circle nodes ss sound.1)
      ]

  -- no command of the first two profiles is a leave
  pub no_leave_commands : (circle : ℕ) (nodes : List Node) (ss : List Section) → AllByRecursion (IsSound profile bits needs) ss
      → AllByRecursion (λ (command : Command). command.action ≢ action.Leave) (commands_of circle nodes ss)
  unfolding commands_of
  no_leave_commands circle nodes ss sound = each_stays circle nodes ss sound
