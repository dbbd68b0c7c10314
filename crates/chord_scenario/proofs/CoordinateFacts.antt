-- What a file without faults of keys says of its coordinates.
use Rattle.std.proofs.Common.{◌≡◌, ◌∙◌, sym, ap, refl, ℕ, ◌+◌, ◌-◌, ◌%◌, ◌^◌, ◌==◌, true, List, [], ◌∷◌, length, inl, inr, arith, length-append}
use Rattle.std.specs.List.{AllByRecursion, flat_map, list_any, range_with_len}
use Rattle.std.proofs.Math.Nat.{min-le_right}
use Rattle.std.proofs.lemmas.Bool.{cases_Bool, false≢true}
use Rattle.std.proofs.lemmas.List.{length-map}
use Rattle.std.proofs.lemmas.List.FromFn.{length-range_with_len}
use Rattle.std.proofs.lemmas.List.Elements.{All-from_recursion}
use Rattle.toml.specs.Data.{Members}
use Rattle.chord_scenario.specs.declared.key.FileKey.TheVariants as key
use Rattle.chord_scenario.specs.declared.key.Place.{Place}
use Rattle.chord_scenario.specs.declared.key.Place.TheVariants as place
use Rattle.chord_scenario.specs.declared.key.Presence.TheVariants.{Optional, ForCoordinates}
use Rattle.chord_scenario.specs.declared.keys_check.Needs.{Needs}
use Rattle.chord_scenario.specs.Distances.{IsPlace}
use Rattle.chord_scenario.specs.Draws.{place_purpose}
use Rattle.chord_scenario.specs.declared.setting.Coordinates.{Coordinates}
use Rattle.chord_scenario.specs.Values.{number_at}
use Rattle.des_stream.specs.Draws.{first_number, own_stream, second_number}
use Rattle.chord_scenario.specs.Range.{CoordinatesInRange}
use Rattle.chord_scenario.specs.Sections.{Section}
use Rattle.chord_scenario.specs.Settings.{has_nodes, is_placed_section, coordinates_at, coordinates_of, drawn_place, nodes_of, places_at}
use Rattle.chord_scenario.specs.Setup.{Setup}
use Rattle.chord_scenario.proofs.EachNode.{each-made, each-mapped}
use Rattle.chord_scenario.proofs.Entries.{listed_fits, unlisted_default}
use Rattle.chord_scenario.proofs.NodeCounts.{length-nodes_of, size_at, sizes}
use Rattle.chord_scenario.proofs.SoundSections.{IsSound}

module _ (profile bits : ℕ) (needs : Needs) where
  -- the coordinates of a table of nodes are in range
  place_fits : (p : Place) (ms : Members) → has_nodes p ≡ true → IsSound profile bits needs (record { at = p; members = ms }) → IsPlace (coordinates_at ms)
  place_fits place.Top ms is sound = absurd (false≢true is)
  place_fits place.Churn ms is sound = absurd (false≢true is)
  place_fits place.Lookups ms is sound = absurd (false≢true is)
  place_fits (place.Command n) ms is sound = absurd (false≢true is)
  place_fits (place.Row n) ms is sound = absurd (false≢true is)
  place_fits (place.Node n) ms is sound =
      elim (cases_Bool (profile == 4)) [
        | inl extended ↦ record {
          x = listed_fits sound key.XUs 500000000 ForCoordinates (rw extended refl);
          y = listed_fits sound key.YUs 500000000 ForCoordinates (rw extended refl);
          height = listed_fits sound key.HeightUs 100000000 Optional (rw extended refl);
        }
        | inr not_extended ↦ record {
          x = omega (arith, unlisted_default sound key.XUs 0 (rw not_extended refl));
          y = omega (arith, unlisted_default sound key.YUs 0 (rw not_extended refl));
          height = omega (arith, unlisted_default sound key.HeightUs 0 (rw not_extended refl));
        }
      ]
  place_fits (place.Nodes n) ms is sound =
      elim (cases_Bool (profile == 4)) [
        | inl extended ↦ record {
          x = listed_fits sound key.XUs 500000000 ForCoordinates (rw extended refl);
          y = listed_fits sound key.YUs 500000000 ForCoordinates (rw extended refl);
          height = listed_fits sound key.HeightUs 100000000 Optional (rw extended refl);
        }
        | inr not_extended ↦ record {
          x = omega (arith, unlisted_default sound key.XUs 0 (rw not_extended refl));
          y = omega (arith, unlisted_default sound key.YUs 0 (rw not_extended refl));
          height = omega (arith, unlisted_default sound key.HeightUs 0 (rw not_extended refl));
        }
      ]

  -- so are those of a node that is drawn
  drawn_fits : (seed class : ℕ) (corner : Coordinates) (side number : ℕ) → IsPlace corner → IsPlace (drawn_place seed class corner side number)
  drawn_fits seed class corner side number h = record {
    x = min-le_right (corner.x + first_number seed (own_stream (number % 2 ^ 32) place_purpose) class (side + 1)) 500000000;
    y = min-le_right (corner.y + second_number seed (own_stream (number % 2 ^ 32) place_purpose) class (side + 1)) 500000000;
    height = h.height;
  }

  places_fit : (seed : ℕ) (p : Place) (ms : Members) → IsSound profile bits needs (record { at = p; members = ms }) → AllByRecursion IsPlace (places_at seed p ms)
  places_fit seed place.Top ms sound = tt
  places_fit seed place.Churn ms sound = tt
  places_fit seed place.Lookups ms sound = tt
  places_fit seed (place.Node n) ms sound = (place_fits (place.Node n) ms refl sound, tt)
  places_fit seed (place.Nodes n) ms sound =
      each-mapped IsPlace (drawn_place seed (n - 1) (coordinates_at ms) (number_at key.SideUs ms)) (range_with_len 0 (number_at key.Count ms))
      (λ number. drawn_fits seed (n - 1) (coordinates_at ms) (number_at key.SideUs ms) number (place_fits (place.Nodes n) ms refl sound))
  places_fit seed (place.Command n) ms sound = tt
  places_fit seed (place.Row n) ms sound = tt

  -- there are as many coordinates as nodes
  length-places_at : (seed : ℕ) (p : Place) (ms : Members) → length (places_at seed p ms) ≡ size_at p ms
  length-places_at seed place.Top ms = refl
  length-places_at seed place.Churn ms = refl
  length-places_at seed place.Lookups ms = refl
  length-places_at seed (place.Node n) ms = refl
  length-places_at seed (place.Nodes n) ms =
      length-map (range_with_len 0 (number_at key.Count ms)) (drawn_place seed (n - 1) (coordinates_at ms) (number_at key.SideUs ms))
      ∙ length-range_with_len 0 (number_at key.Count ms)
  length-places_at seed (place.Command n) ms = refl
  length-places_at seed (place.Row n) ms = refl

  length-places : (seed : ℕ) (ss : List Section) → length (flat_map (λ (s : Section). places_at seed s.at s.members) ss) ≡ sizes ss
  length-places seed [] = refl
  length-places seed (s ∷ ss) =
      length-append (places_at seed s.at s.members) (flat_map (λ (s : Section). places_at seed s.at s.members) ss)
      ∙ (λ i. length-places_at seed s.at s.members i + length-places seed ss i)

  -- all nodes have coordinates in range, or none has
  pub coordinates_fit : (sc : Setup) (circle seed : ℕ) (ss : List Section) → sc.nodes ≡ nodes_of circle ss → sc.coordinates ≡ coordinates_of seed ss
      → AllByRecursion (IsSound profile bits needs) ss → CoordinatesInRange sc
  unfolding coordinates_of
  coordinates_fit sc circle seed ss nodes coordinates sound =
      let own = flat_map (λ (s : Section). places_at seed s.at s.members) ss in
      elim (cases_Bool (list_any is_placed_section ss)) [
        | inl some ↦
            let all : sc.coordinates ≡ own = coordinates ∙ rw some refl in
            record {
              all_or_none = inr (ap length all ∙ length-places seed ss ∙ sym (ap length nodes ∙ length-nodes_of circle ss));
              places = rw all (All-from_recursion IsPlace own (each-made IsPlace (IsSound profile bits needs) (λ s. places_at seed s.at s.members) ss (λ s. places_fit seed s.at s.members) sound));
            }
        | inr none ↦
            let nothing : sc.coordinates ≡ [] = coordinates ∙ rw none refl in
            record { all_or_none = inl nothing; places = rw nothing (All-from_recursion IsPlace [] tt) }
      ]
