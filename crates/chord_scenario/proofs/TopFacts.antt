-- What a file without faults of keys says of its numbers, spans and tables.
use Rattle.std.proofs.Common.{
  ◌≡◌,
  ◌∙◌,
  sym,
  ap,
  refl,
  ℕ,
  ◌+◌,
  ◌*◌,
  ◌≤◌,
  Bool,
  true,
  false,
  not,
  ◌&&◌,
  ◌==◌,
  ◌⊎◌,
  List,
  [],
  ◌∷◌,
  ◌++◌,
  length,
  filter,
  nat_le,
  Option,
  Some,
  None,
  IfSome,
  IsSome,
  option_map,
  inl,
  inr,
  arith,
  if◌then◌else◌,
  length-append,
}
use Rattle.std.specs.Option.{option_map_or, option_and_then, is_some}
use Rattle.std.specs.List.{AllByRecursion}
use Rattle.std.proofs.lemmas.Bool.{cases_Bool, and_parts, eqb-true, false≢true, leb-true}
use Rattle.std.proofs.lemmas.Bool.Decides.{nat_tests}
use Rattle.std.proofs.lemmas.List.{length-map}
use Rattle.std.proofs.lemmas.List.Elements.{filter-append}
use Rattle.toml.specs.Data.{Data, string, integer, float, boolean, datetime, array, table, Items, no_items, item, Members, as_table}
use Rattle.chord_scenario.specs.declared.key.Place.{Place}
use Rattle.chord_scenario.specs.declared.key.Place.TheVariants as place
use Rattle.chord_scenario.specs.declared.key.FileKey.{FileKey}
use Rattle.chord_scenario.specs.declared.key.FileKey.TheVariants as key
use Rattle.chord_scenario.specs.declared.keys_check.Needs.{Needs}
use Rattle.chord_scenario.specs.declared.key.Form.TheVariants.{Table, Tables, Whole}
use Rattle.chord_scenario.specs.declared.key.Presence.TheVariants.{ForChurn}
use Rattle.chord_scenario.specs.declared.key.Group.{Group}
use Rattle.chord_scenario.specs.declared.key.Group.TheVariants.{Nodes, Classes, Commands}
use Rattle.chord_scenario.specs.declared.setting.Churn.{Churn}
use Rattle.chord_scenario.specs.declared.setting.Command.{Command}
use Rattle.chord_scenario.specs.declared.setting.Node.{Node}
use Rattle.chord_scenario.specs.FileKeys.{key_name, optional}
use Rattle.chord_scenario.specs.KeyFaults.{is_listed}
use Rattle.chord_scenario.specs.Values.{agrees, data_at, number_at, truth_at, truth_or, has_type, is_within, item_count, is_profile, is_in_range}
use Rattle.chord_scenario.specs.Sections.{Section, place_in, table_at, tables_among, tables_of, sections}
use Rattle.chord_scenario.specs.Settings.{number_or, check_of, is_command, join_pause_of, command_of, commands_of, churn_of, jitters_of, lookups_of, rules_of}
use Rattle.chord_scenario.specs.Accepted.{setup_with}
use Rattle.chord_scenario.specs.Range.{AreJitters, IsSpan, IsChurn, IsInterval, NumbersInRange, first_rules, most_events}
use Rattle.chord_scenario.proofs.SoundSections.{IsSound, Fits, HoldsInFile}
use Rattle.chord_scenario.proofs.Entries.{Lists, in_each, profile_cases, required_fits, required_profile, required_agrees, optional_fits, unlisted_default, unlisted_false, has_typed, not_out}

-- a number of microseconds that is at least 1
interval : {n : ℕ} → Fits 1 1000000000 n → IsInterval n
interval f = record { least = f.low; greatest = f.high }

-- the numbers of the profiles are small
pub profile_small : (n : ℕ) → is_profile n ≡ true → n ≤ 4
profile_small n known = grind (arith, nat_tests, known)

module _ (profile bits : ℕ) (needs : Needs) (top : Members) (s : IsSound profile bits needs (record { at = place.Top; members = top })) where
  pub profile_known : is_profile (number_at key.Profile top) ≡ true
  profile_known = required_profile s (in_each profile refl refl refl)

  pub bits_fit : Fits 3 128 (number_at key.Bits top)
  bits_fit =
      elim (profile_cases profile) [
        | inl extended ↦ required_fits s key.Bits 3 128 (rw extended refl)
        | inr (inl is) ↦ required_fits s key.Bits 3 128 (rw (is.not_extended, is.second) refl)
        | inr (inr is) ↦
            let fits = required_fits s key.Bits 3 64 (rw (is.not_extended, is.not_second) refl) in
            record { low = fits.low; high = omega (arith, fits.high) }
      ]

  list_fits : Fits 1 32 (number_at key.List top)
  list_fits =
      elim (profile_cases profile) [
        | inl extended ↦ required_fits s key.List 1 32 (rw extended refl)
        | inr (inl is) ↦ shorter (required_fits s key.List 1 16 (rw (is.not_extended, is.second) refl))
        | inr (inr is) ↦ shorter (required_fits s key.List 1 16 (rw (is.not_extended, is.not_second) refl))
      ]
    where
      shorter : {n : ℕ} → Fits 1 16 n → Fits 1 32 n
      shorter f = record { low = f.low; high = omega (arith, f.high) }

  duration_fits : Fits 1 1000000000000 (number_at key.DurationUs top)
  duration_fits = required_fits s key.DurationUs 1 1000000000000 (in_each profile refl refl refl)

  audits_fit : number_at key.DurationUs top ≤ 1000000 * number_at key.AuditUs top
  audits_fit = leb-true _ _ (required_agrees s key.AuditUs 1 1000000000 (in_each profile refl refl refl))

  jitter_fits : Fits 0 1000000000 (number_or 0 key.JitterUs top)
  jitter_fits = optional_fits s key.JitterUs 0 1000000000 0 (in_each profile refl refl refl) (record { low = omega arith; high = omega arith })

  max_events_fits : Fits 1 most_events (number_or 50000000 key.MaxEvents top)
  max_events_fits =
      elim (profile_cases profile) [
        | inl extended ↦ optional_fits s key.MaxEvents 1 most_events 50000000 (rw extended refl) (record { low = omega arith; high = omega arith })
        | inr (inl is) ↦ fewer (optional_fits s key.MaxEvents 1 50000000 50000000 (rw (is.not_extended, is.second) refl) few)
        | inr (inr is) ↦ fewer (optional_fits s key.MaxEvents 1 50000000 50000000 (rw (is.not_extended, is.not_second) refl) few)
      ]
    where
      few : Fits 1 50000000 50000000
      few = record { low = omega arith; high = omega arith }

      fewer : {n : ℕ} → Fits 1 50000000 n → Fits 1 most_events n
      fewer f = record { low = f.low; high = omega (arith, f.high) }

  -- 0 is in such a range
  zero_fits : {most : ℕ} → Fits 0 most 0
  zero_fits = record { low = omega arith; high = omega arith }

  -- a number that a profile does not have is 0 in it
  loss_fits : number_or 0 key.LossPpm top ≤ 1000000
  loss_fits =
      elim (profile_cases profile) [
        | inl extended ↦ (optional_fits s key.LossPpm 0 1000000 0 (rw extended refl) zero_fits).high
        | inr (inl is) ↦ (optional_fits s key.LossPpm 0 1000000 0 (rw (is.not_extended, is.second) refl) zero_fits).high
        | inr (inr is) ↦ omega (arith, unlisted_default s key.LossPpm 0 (rw (is.not_extended, is.not_second) refl))
      ]

  spread_fits : number_or 0 key.SpreadUs top ≤ 1000000000
  spread_fits =
      elim (profile_cases profile) [
        | inl extended ↦ (optional_fits s key.SpreadUs 0 1000000000 0 (rw extended refl) zero_fits).high
        | inr (inl is) ↦ (optional_fits s key.SpreadUs 0 1000000000 0 (rw (is.not_extended, is.second) refl) zero_fits).high
        | inr (inr is) ↦ omega (arith, unlisted_default s key.SpreadUs 0 (rw (is.not_extended, is.not_second) refl))
      ]

  -- a number that the extended profile alone has is in its range, and 0 in the others
  record IsOwnOfExtended (most number : ℕ) : Type 0 where
    within : number ≤ most
    absent : profile ≤ 2 → number ≡ 0

  extended_number : (k : FileKey) (most : ℕ) → (profile == 4 ≡ true → Lists s (optional k (Whole 0 most)))
      → (profile == 4 ≡ false → (profile == 2 ≡ true) ⊎ (profile == 2 ≡ false) → number_or 0 k top ≡ 0) → IsOwnOfExtended most (number_or 0 k top)
  extended_number k most listed unlisted =
      elim (profile_cases profile) [
        | inl extended ↦ record {
          within = (optional_fits s k 0 most 0 (listed extended) zero_fits).high;
          absent = λ early. let is : profile ≡ 4 = eqb-true profile 4 extended in absurd (omega (arith, early, is));
        }
        | inr (inl is) ↦ let zero = unlisted is.not_extended (inl is.second) in record { within = omega (arith, zero); absent = λ early. zero }
        | inr (inr is) ↦ let zero = unlisted is.not_extended (inr is.not_second) in record { within = omega (arith, zero); absent = λ early. zero }
      ]

  retries_fit : IsOwnOfExtended 3 (number_or 0 key.Retries top)
  retries_fit =
      extended_number key.Retries 3 (λ extended. rw extended refl) (λ not_extended second. elim second [
        | inl is ↦ unlisted_default s key.Retries 0 (rw (not_extended, is) refl)
        | inr is ↦ unlisted_default s key.Retries 0 (rw (not_extended, is) refl)
      ])

  -- a number that the extended profile alone has, with another one of the file as its default there
  extended_or : (k : FileKey) (most given : ℕ) → given ≤ most → (profile == 4 ≡ true → Lists s (optional k (Whole 0 most)))
      → (profile == 4 ≡ false → (profile == 2 ≡ true) ⊎ (profile == 2 ≡ false) → number_or 0 k top ≡ 0)
      → (extended : Bool) → profile == 4 ≡ extended → IsOwnOfExtended most (number_or (if extended then given else 0) k top)
  extended_or k most given fits listed unlisted true is = record {
    within = (optional_fits s k 0 most given (listed is) (record { low = omega arith; high = fits })).high;
    absent = λ early. let four : profile ≡ 4 = eqb-true profile 4 is in absurd (omega (arith, early, four));
  }
  extended_or k most given fits listed unlisted false is =
      let zero = unlisted is (cases_Bool (profile == 2)) in record { within = omega (arith, zero); absent = λ early. zero }

  pause_fits : (extended : Bool) → profile == 4 ≡ extended → IsOwnOfExtended 1000000000 (join_pause_of extended top)
  pause_fits =
      extended_or key.JoinPauseUs 1000000000 (number_at key.TimeoutUs top) (required_fits s key.TimeoutUs 1 1000000000 (in_each profile refl refl refl)).high
      (λ extended. rw extended refl) (λ not_extended second. elim second [
        | inl is ↦ unlisted_default s key.JoinPauseUs 0 (rw (not_extended, is) refl)
        | inr is ↦ unlisted_default s key.JoinPauseUs 0 (rw (not_extended, is) refl)
      ])

  check_fits : (extended : Bool) → profile == 4 ≡ extended → IsOwnOfExtended 1000000000 (check_of extended top)
  check_fits =
      extended_or key.CheckUs 1000000000 (number_at key.StabilizeUs top) (required_fits s key.StabilizeUs 1 1000000000 (in_each profile refl refl refl)).high
      (λ extended. rw extended refl) (λ not_extended second. elim second [
        | inl is ↦ unlisted_default s key.CheckUs 0 (rw (not_extended, is) refl)
        | inr is ↦ unlisted_default s key.CheckUs 0 (rw (not_extended, is) refl)
      ])

  gives_up : (extended : Bool) → profile == 4 ≡ extended → profile ≤ 2 → truth_or extended key.JoinForever top ≡ false
  gives_up true is early = let four : profile ≡ 4 = eqb-true profile 4 is in absurd (omega (arith, early, four))
  gives_up false is early =
      elim (cases_Bool (profile == 2)) [
        | inl second ↦ unlisted_false s key.JoinForever (rw (is, second) refl)
        | inr other ↦ unlisted_false s key.JoinForever (rw (is, other) refl)
      ]

  tells_nothing : profile ≤ 2 → truth_at key.Detail top ≡ false
  tells_nothing early =
      elim (profile_cases profile) [
        | inl extended ↦ let is : profile ≡ 4 = eqb-true profile 4 extended in absurd (omega (arith, early, is))
        | inr (inl is) ↦ unlisted_false s key.Detail (rw (is.not_extended, is.second) refl)
        | inr (inr is) ↦ unlisted_false s key.Detail (rw (is.not_extended, is.not_second) refl)
      ]

  -- a lookup avoids at most 64 nodes
  rules_fit : (extended : Bool) → profile == 4 ≡ extended → (rules_of extended top).lookup_timeouts ≤ 64
  unfolding rules_of
  rules_fit true is = (optional_fits s key.LookupTimeouts 0 64 32 (rw is refl) (record { low = omega arith; high = omega arith })).high
  rules_fit false is =
      elim (cases_Bool (profile == 2)) [
        | inl second ↦ omega (arith, unlisted_default s key.LookupTimeouts 8 (rw (is, second) refl))
        | inr other ↦ omega (arith, unlisted_default s key.LookupTimeouts 8 (rw (is, other) refl))
      ]

  -- the rules of published Chord are not those of the other profiles
  rules_absent : (extended : Bool) → profile == 4 ≡ extended → profile ≤ 2 → rules_of extended top ≡ first_rules
  unfolding rules_of
  rules_absent true is early = let four : profile ≡ 4 = eqb-true profile 4 is in absurd (omega (arith, early, four))
  rules_absent false is early =
      elim (cases_Bool (profile == 2)) [
        | inl second ↦ rw (
          unlisted_false s key.ListRoutes (rw (is, second) refl),
          unlisted_false s key.GoesOn (rw (is, second) refl),
          unlisted_false s key.AskOwner (rw (is, second) refl),
          unlisted_default s key.LookupTimeouts 8 (rw (is, second) refl),
          unlisted_false s key.DropSilent (rw (is, second) refl),
          unlisted_false s key.SkipNear (rw (is, second) refl),
          unlisted_false s key.RandomStart (rw (is, second) refl),
          unlisted_false s key.CleanLists (rw (is, second) refl),
          unlisted_false s key.JoinAsks (rw (is, second) refl),
          unlisted_false s key.CreateAlone (rw (is, second) refl),
        ) refl
        | inr other ↦ rw (
          unlisted_false s key.ListRoutes (rw (is, other) refl),
          unlisted_false s key.GoesOn (rw (is, other) refl),
          unlisted_false s key.AskOwner (rw (is, other) refl),
          unlisted_default s key.LookupTimeouts 8 (rw (is, other) refl),
          unlisted_false s key.DropSilent (rw (is, other) refl),
          unlisted_false s key.SkipNear (rw (is, other) refl),
          unlisted_false s key.RandomStart (rw (is, other) refl),
          unlisted_false s key.CleanLists (rw (is, other) refl),
          unlisted_false s key.JoinAsks (rw (is, other) refl),
          unlisted_false s key.CreateAlone (rw (is, other) refl),
        ) refl
      ]

  -- a jitter of its own is in range, as is that of all
  own_jitter_fits : (k : FileKey) → ((profile == 4 ≡ true) → Lists s (optional k (Whole 0 1000000000)))
      → ((profile == 4 ≡ false) → (profile == 2 ≡ true) ⊎ (profile == 2 ≡ false) → number_or (number_or 0 key.JitterUs top) k top ≡ number_or 0 key.JitterUs top)
      → number_or (number_or 0 key.JitterUs top) k top ≤ 1000000000
  own_jitter_fits k listed unlisted =
      elim (profile_cases profile) [
        | inl extended ↦ (optional_fits s k 0 1000000000 (number_or 0 key.JitterUs top) (listed extended) jitter_fits).high
        | inr (inl is) ↦ omega (arith, unlisted is.not_extended (inl is.second), jitter_fits.high)
        | inr (inr is) ↦ omega (arith, unlisted is.not_extended (inr is.not_second), jitter_fits.high)
      ]

  same_jitter : (k : FileKey) → ((profile == 4 ≡ false) → (profile == 2 ≡ true) → is_listed profile place.Top (key_name k) ≡ false)
      → ((profile == 4 ≡ false) → (profile == 2 ≡ false) → is_listed profile place.Top (key_name k) ≡ false)
      → (profile == 4 ≡ false) → (profile == 2 ≡ true) ⊎ (profile == 2 ≡ false)
      → number_or (number_or 0 key.JitterUs top) k top ≡ number_or 0 key.JitterUs top
  same_jitter k in_second in_first not_extended second = elim second [
    | inl is ↦ unlisted_default s k (number_or 0 key.JitterUs top) (in_second not_extended is)
    | inr is ↦ unlisted_default s k (number_or 0 key.JitterUs top) (in_first not_extended is)
  ]

  stabilize_same : (profile == 4 ≡ false) → (profile == 2 ≡ true) ⊎ (profile == 2 ≡ false)
      → number_or (number_or 0 key.JitterUs top) key.StabilizeJitterUs top ≡ number_or 0 key.JitterUs top
  stabilize_same = same_jitter key.StabilizeJitterUs (λ not_extended is. rw (not_extended, is) refl) (λ not_extended is. rw (not_extended, is) refl)

  finger_same : (profile == 4 ≡ false) → (profile == 2 ≡ true) ⊎ (profile == 2 ≡ false)
      → number_or (number_or 0 key.JitterUs top) key.FingerJitterUs top ≡ number_or 0 key.JitterUs top
  finger_same = same_jitter key.FingerJitterUs (λ not_extended is. rw (not_extended, is) refl) (λ not_extended is. rw (not_extended, is) refl)

  check_same : (profile == 4 ≡ false) → (profile == 2 ≡ true) ⊎ (profile == 2 ≡ false)
      → number_or (number_or 0 key.JitterUs top) key.CheckJitterUs top ≡ number_or 0 key.JitterUs top
  check_same = same_jitter key.CheckJitterUs (λ not_extended is. rw (not_extended, is) refl) (λ not_extended is. rw (not_extended, is) refl)

  jitters_fit : AreJitters (jitters_of top)
  unfolding jitters_of
  jitters_fit = record {
    stabilize = own_jitter_fits key.StabilizeJitterUs (λ extended. rw extended refl) stabilize_same;
    finger = own_jitter_fits key.FingerJitterUs (λ extended. rw extended refl) finger_same;
    check = own_jitter_fits key.CheckJitterUs (λ extended. rw extended refl) check_same;
  }

  one_jitter : profile ≤ 2
      → jitters_of top ≡ record { stabilize = number_or 0 key.JitterUs top; finger = number_or 0 key.JitterUs top; check = number_or 0 key.JitterUs top }
  unfolding jitters_of
  one_jitter early =
      elim (cases_Bool (profile == 4)) [
        | inl extended ↦ let is : profile ≡ 4 = eqb-true profile 4 extended in absurd (omega (arith, early, is))
        | inr other ↦ rw (stabilize_same other (cases_Bool (profile == 2)), finger_same other (cases_Bool (profile == 2)), check_same other (cases_Bool (profile == 2))) refl
      ]

  no_loss : profile ≡ 1 → (number_or 0 key.LossPpm top ≡ 0) × (number_or 0 key.SpreadUs top ≡ 0)
  no_loss is_first = (unlisted_default s key.LossPpm 0 (rw is_first refl), unlisted_default s key.SpreadUs 0 (rw is_first refl))

  pub numbers_fit : profile ≡ number_at key.Profile top → (nodes : List Node) (commands : List Command) (latencies : List ℕ)
      → NumbersInRange (setup_with top nodes commands latencies)
  numbers_fit named nodes commands latencies =
      let extended = number_at key.Profile top == 4 in
      let is_extended : profile == 4 ≡ extended = ap (λ n. n == 4) named in
      record {
        bits_least = bits_fit.low;
        bits_greatest = bits_fit.high;
        list_least = list_fits.low;
        list_greatest = list_fits.high;
        duration_least = duration_fits.low;
        duration_greatest = duration_fits.high;
        window = interval (required_fits s key.WindowUs 1 1000000000 (in_each profile refl refl refl));
        latency = interval (required_fits s key.LatencyUs 1 1000000000 (in_each profile refl refl refl));
        timeout = interval (required_fits s key.TimeoutUs 1 1000000000 (in_each profile refl refl refl));
        audit = interval (required_fits s key.AuditUs 1 1000000000 (in_each profile refl refl refl));
        audits = audits_fit;
        stabilize = interval (required_fits s key.StabilizeUs 1 1000000000 (in_each profile refl refl refl));
        finger = interval (required_fits s key.FingerUs 1 1000000000 (in_each profile refl refl refl));
        jitter = jitter_fits.high;
        max_events_least = max_events_fits.low;
        max_events_greatest = max_events_fits.high;
        loss = loss_fits;
        spread = spread_fits;
        retries = retries_fit.within;
        join_pause = (pause_fits extended is_extended).within;
        check = (check_fits extended is_extended).within;
        known = profile_known;
        lossless = λ is_first. no_loss (named ∙ is_first);
        asked_once = λ early. retries_fit.absent (omega (arith, named, early));
        joined_at_once = λ early. ((pause_fits extended is_extended).absent (omega (arith, named, early)), gives_up extended is_extended (omega (arith, named, early)));
        unchecked = λ early. (check_fits extended is_extended).absent (omega (arith, named, early));
        undetailed = λ early. tells_nothing (omega (arith, named, early));
        lookup_timeouts = rules_fit extended is_extended;
        unpublished = λ early. rules_absent extended is_extended (omega (arith, named, early));
        jitters = jitters_fit;
        one_jitter = λ early. one_jitter (omega (arith, named, early));
      }

  -- the file has a churn table if a node churns
  pub churn_there : needs.churn ≡ true → IsSome (churn_of top)
  unfolding churn_of has_type
  churn_there some =
      let (d, is, typed) = has_typed s (record { 0 = key.Churn; 1 = Table; 2 = ForChurn }) (in_each profile refl refl refl) some in
      rw is (mapped _ (as_table d) typed)
    where
      mapped : {A B : Type 0} (f : A → B) (o : Option A) → is_some o ≡ true → is_some (option_map f o) ≡ true
      mapped f None h = absurd (false≢true h)
      mapped f (Some x) h = refl

module _ (profile bits : ℕ) (needs : Needs) where
  -- the share of leaves in a churn table
  leave_fits : (ms : Members) → IsSound profile bits needs (record { at = place.Churn; members = ms }) → number_or 0 key.LeavePpm ms ≤ 1000000
  leave_fits ms s =
      elim (cases_Bool (profile == 4)) [
        | inl extended ↦ (optional_fits s key.LeavePpm 0 1000000 0 (rw extended refl) (record { low = omega arith; high = omega arith })).high
        | inr not_extended ↦ rw (unlisted_default s key.LeavePpm 0 (rw not_extended refl)) (omega arith)
      ]

  -- the spans of a churn table and of a lookups table
  churn_fits : (o : Option Data) → AllByRecursion (IsSound profile bits needs) (table_at place.Churn o)
      → IfSome (option_map (λ ms. record {
        life = record { least = number_at key.LifeMinUs ms; greatest = number_at key.LifeMaxUs ms };
        down = record { least = number_at key.DownMinUs ms; greatest = number_at key.DownMaxUs ms };
        leave = number_or 0 key.LeavePpm ms;
      }) (option_and_then as_table o)) IsChurn
  churn_fits None h = tt
  churn_fits (Some (string s)) h = tt
  churn_fits (Some (integer z)) h = tt
  churn_fits (Some (float x)) h = tt
  churn_fits (Some (boolean b)) h = tt
  churn_fits (Some (datetime t)) h = tt
  churn_fits (Some (array ds)) h = tt
  churn_fits (Some (table ms)) h =
      let s = h.0 in
      let life_least = required_fits s key.LifeMinUs 1 1000000000 refl in
      let life_most = required_fits s key.LifeMaxUs 1 1000000000 refl in
      let life = required_agrees s key.LifeMaxUs 1 1000000000 refl in
      let down_least = required_fits s key.DownMinUs 1 1000000000 refl in
      let down_most = required_fits s key.DownMaxUs 1 1000000000 refl in
      let down = required_agrees s key.DownMaxUs 1 1000000000 refl in
      record {
        life = record { positive = life_least.low; ordered = leb-true _ _ life; bounded = life_most.high };
        down = record { positive = down_least.low; ordered = leb-true _ _ down; bounded = down_most.high };
        leave = leave_fits ms s;
      }

  -- nobody leaves in the first two profiles
  stays : (o : Option Data) → (profile == 4) ≡ false → AllByRecursion (IsSound profile bits needs) (table_at place.Churn o)
      → IfSome {T = Churn} (option_map (λ ms. record {
        life = record { least = number_at key.LifeMinUs ms; greatest = number_at key.LifeMaxUs ms };
        down = record { least = number_at key.DownMinUs ms; greatest = number_at key.DownMaxUs ms };
        leave = number_or 0 key.LeavePpm ms;
      }) (option_and_then as_table o)) (λ churn. churn.leave ≡ 0)
  stays None not_extended h = tt
  stays (Some (string s)) not_extended h = tt
  stays (Some (integer z)) not_extended h = tt
  stays (Some (float x)) not_extended h = tt
  stays (Some (boolean b)) not_extended h = tt
  stays (Some (datetime t)) not_extended h = tt
  stays (Some (array ds)) not_extended h = tt
  stays (Some (table ms)) not_extended h = unlisted_default h.0 key.LeavePpm 0 (rw not_extended refl)

  lookups_fit : (o : Option Data) → AllByRecursion (IsSound profile bits needs) (table_at place.Lookups o)
      → IfSome (option_map (λ ms. record { least = number_at key.GapMinUs ms; greatest = number_at key.GapMaxUs ms }) (option_and_then as_table o)) IsSpan
  lookups_fit None h = tt
  lookups_fit (Some (string s)) h = tt
  lookups_fit (Some (integer z)) h = tt
  lookups_fit (Some (float x)) h = tt
  lookups_fit (Some (boolean b)) h = tt
  lookups_fit (Some (datetime t)) h = tt
  lookups_fit (Some (array ds)) h = tt
  lookups_fit (Some (table ms)) h =
      let s = h.0 in
      let least = required_fits s key.GapMinUs 1 1000000000 refl in
      let most = required_fits s key.GapMaxUs 1 1000000000 refl in
      let gap = required_agrees s key.GapMaxUs 1 1000000000 refl in
      record { positive = least.low; ordered = leb-true _ _ gap; bounded = most.high }

  pub churn_in_range : (file : Members) → HoldsInFile (IsSound profile bits needs) file → IfSome (churn_of file) IsChurn
  unfolding churn_of
  churn_in_range file h = churn_fits (data_at key.Churn file) h.churn

  pub no_leaves : (file : Members) → (profile == 4) ≡ false → HoldsInFile (IsSound profile bits needs) file → IfSome (churn_of file) (λ churn. churn.leave ≡ 0)
  unfolding churn_of
  no_leaves file not_extended h = stays (data_at key.Churn file) not_extended h.churn

  pub lookups_in_range : (file : Members) → HoldsInFile (IsSound profile bits needs) file → IfSome (lookups_of file) IsSpan
  unfolding lookups_of
  lookups_in_range file h = lookups_fit (data_at key.Lookups file) h.lookups

-- How many nodes and commands there are.

module _ (test : Place → Bool) where
  abbrev chosen : List Section → List Section
  chosen ss = filter (λ s. test s.at) ss

  chosen-one : (s : Section) → length (chosen (s ∷ [])) ≤ 1
  chosen-one s =
      elim (cases_Bool (test s.at)) [
        | inl here ↦ rw here (omega arith)
        | inr other ↦ rw other (omega arith)
      ]

  chosen-table : (p : Place) (o : Option Data) → length (chosen (table_at p o)) ≤ 1
  chosen-table p None = omega arith
  chosen-table p (Some (string s)) = omega arith
  chosen-table p (Some (integer z)) = omega arith
  chosen-table p (Some (float x)) = omega arith
  chosen-table p (Some (boolean b)) = omega arith
  chosen-table p (Some (datetime t)) = omega arith
  chosen-table p (Some (array ds)) = omega arith
  chosen-table p (Some (table ms)) = chosen-one (record { at = p; members = ms })

  chosen-no_table : (p : Place) → test p ≡ false → (o : Option Data) → length (chosen (table_at p o)) ≡ 0
  chosen-no_table p out None = refl
  chosen-no_table p out (Some (string s)) = refl
  chosen-no_table p out (Some (integer z)) = refl
  chosen-no_table p out (Some (float x)) = refl
  chosen-no_table p out (Some (boolean b)) = refl
  chosen-no_table p out (Some (datetime t)) = refl
  chosen-no_table p out (Some (array ds)) = refl
  chosen-no_table p out (Some (table ms)) = rw out refl

  chosen-append : (xs ys : List Section) → length (chosen (xs ++ ys)) ≡ length (chosen xs) + length (chosen ys)
  chosen-append xs ys = ap length (filter-append (λ s. test s.at) xs ys) ∙ length-append (chosen xs) (chosen ys)

  chosen-among : (g : Group) (n : ℕ) (ds : Items) → length (chosen (tables_among g n ds)) ≤ item_count ds
  chosen-among g n no_items = omega arith
  chosen-among g n (item d ds) =
      omega (
        arith,
        chosen-append (table_at (place_in g n) (Some d)) (tables_among g (n + 1) ds),
        chosen-table (place_in g n) (Some d),
        chosen-among g
            (n + 1) ds,
      )

  chosen-none_among : (g : Group) → ((n : ℕ) → test (place_in g n) ≡ false) → (n : ℕ) (ds : Items) → length (chosen (tables_among g n ds)) ≡ 0
  chosen-none_among g out n no_items = refl
  chosen-none_among g out n (item d ds) =
      omega (
        arith,
        chosen-append (table_at (place_in g n) (Some d)) (tables_among g (n + 1) ds),
        chosen-no_table (place_in g n) (out n) (Some d),
        chosen-none_among g out (n + 1) ds,
      )

  chosen-none_of : (g : Group) → ((n : ℕ) → test (place_in g n) ≡ false) → (o : Option Data) → length (chosen (tables_of g o)) ≡ 0
  chosen-none_of g out None = refl
  chosen-none_of g out (Some (string s)) = refl
  chosen-none_of g out (Some (integer z)) = refl
  chosen-none_of g out (Some (float x)) = refl
  chosen-none_of g out (Some (boolean b)) = refl
  chosen-none_of g out (Some (datetime t)) = refl
  chosen-none_of g out (Some (array ds)) = chosen-none_among g out 1 ds
  chosen-none_of g out (Some (table ms)) = refl

  -- an array of tables has no more than its greatest number
  chosen-most_of : (g : Group) (bits least greatest : ℕ) (agrees : Data → Bool) (o : Option Data)
      → option_map_or (λ d. not (is_in_range bits (Tables least greatest) d && agrees d)) o false ≡ false → length (chosen (tables_of g o)) ≤ greatest
  unfolding is_in_range
  chosen-most_of g bits least greatest agrees None h = omega arith
  chosen-most_of g bits least greatest agrees (Some (string s)) h = omega arith
  chosen-most_of g bits least greatest agrees (Some (integer z)) h = omega arith
  chosen-most_of g bits least greatest agrees (Some (float x)) h = omega arith
  chosen-most_of g bits least greatest agrees (Some (boolean b)) h = omega arith
  chosen-most_of g bits least greatest agrees (Some (datetime t)) h = omega arith
  chosen-most_of g bits least greatest agrees (Some (table ms)) h = omega arith
  chosen-most_of g bits least greatest agrees (Some (array ds)) h =
      let (fits, agree) = and_parts (is_within least greatest (item_count ds)) (agrees (array ds))
      (kept (is_within least greatest (item_count ds) && agrees (array ds)) h) in
      let (low, high) = and_parts (nat_le least (item_count ds)) (nat_le (item_count ds) greatest) fits in
      omega (arith, chosen-among g 1 ds, leb-true (item_count ds) greatest high)
    where
      kept : (b : Bool) → not b ≡ false → b ≡ true
      kept true e = refl
      kept false e = absurd (false≢true (sym e))

  chosen-sections : (top : Members) → test place.Top ≡ false → test place.Churn ≡ false → test place.Lookups ≡ false
      → length (chosen (sections top)) ≡ length (chosen (tables_of Nodes (data_at key.Node top)))
      + length (chosen (tables_of Classes (data_at key.Nodes top))) + length (chosen (tables_of Commands (data_at key.Command top)))
  unfolding sections
  chosen-sections top not_top not_churn not_lookups =
      let first = record { at = place.Top; members = top } ∷ [] in
      let churn = table_at place.Churn (data_at key.Churn top) in
      let lookups = table_at place.Lookups (data_at key.Lookups top) in
      let nodes = tables_of Nodes (data_at key.Node top) in
      let classes = tables_of Classes (data_at key.Nodes top) in
      let commands = tables_of Commands (data_at key.Command top) in
      let no_first : length (chosen first) ≡ 0 = rw not_top refl in
      omega (
        arith,
        chosen-append (first ++ churn ++ lookups ++ nodes ++ classes) commands,
        chosen-append (first ++ churn ++ lookups ++ nodes) classes,
        chosen-append (first ++ churn ++ lookups) nodes,
        chosen-append (first ++ churn) lookups,
        chosen-append first churn,
        no_first,
        chosen-no_table place.Churn not_churn (data_at key.Churn top),
        chosen-no_table place.Lookups not_lookups (data_at key.Lookups top),
      )

module _ (profile bits : ℕ) (needs : Needs) (top : Members) (s : IsSound profile bits needs (record { at = place.Top; members = top })) where
  pub few_commands : (circle : ℕ) (nodes : List Node) → length (commands_of circle nodes (sections top)) ≤ 100000
  unfolding commands_of
  few_commands circle nodes =
      let ss = filter (λ s. is_command s.at) (sections top) in
      omega (
        arith,
        length-map ss (λ s. command_of circle nodes s.members),
        chosen-sections is_command top refl refl refl,
        chosen-none_of is_command Nodes (λ n. refl) (data_at key.Node top),
        chosen-none_of is_command Classes (λ n. refl) (data_at key.Nodes top),
        chosen-most_of is_command Commands bits 0 100000 _ (data_at key.Command top) (not_out s (optional key.Command (Tables 0 100000)) (in_each profile refl refl refl)),
      )
