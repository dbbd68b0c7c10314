-- What a file without faults of keys says of its bootstrap nodes.
use Rattle.std.proofs.Common.{◌≡◌, ◌==◌, ℕ, zero, suc, ◌+◌, Bool, false, List, [], ◌∷◌, filter, length, refl, arith}
use Rattle.std.specs.List.{AllByRecursion, flat_map, range_with_len}
use Rattle.std.specs.List.Sorted.{IsStrictlyIncreasing}
use Rattle.std.proofs.lemmas.List.FromFn.{get_or-range_with_len, length-range_with_len}
use Rattle.std.proofs.lemmas.List.Kept.{IsStrictlyIncreasing-filter}
use Rattle.toml.specs.Data.{Members}
use Rattle.chord_scenario.specs.declared.key.FileKey.TheVariants as key
use Rattle.chord_scenario.specs.declared.key.Place.{Place}
use Rattle.chord_scenario.specs.declared.key.Place.TheVariants as place
use Rattle.chord_scenario.specs.declared.keys_check.Needs.{Needs}
use Rattle.chord_scenario.specs.declared.setting.Node.{Node}
use Rattle.chord_scenario.specs.Sections.{Section}
use Rattle.chord_scenario.specs.Settings.{bootstraps_of, flags_at, is_bootstrap, name_at, node_of, nodes_at, nodes_of, numbered_node}
use Rattle.chord_scenario.specs.Values.{number_at}
use Rattle.chord_scenario.proofs.EachNode.{each-made, each-mapped}
use Rattle.chord_scenario.proofs.Entries.{unlisted_false}
use Rattle.chord_scenario.proofs.SoundSections.{IsSound}

-- bootstrap nodes are in the order of the file
pub bootstraps_ascend : (nodes : List Node) → IsStrictlyIncreasing (bootstraps_of nodes)
unfolding bootstraps_of
bootstraps_ascend nodes = IsStrictlyIncreasing-filter (is_bootstrap nodes) (range_with_len 0 (length nodes)) ranges
  where
    ranges : IsStrictlyIncreasing (range_with_len 0 (length nodes))
    ranges k within =
        let long = length-range_with_len 0 (length nodes) in
        omega (
          arith,
          get_or-range_with_len 0 (length nodes) k 0 (omega (arith, within, long)),
          get_or-range_with_len 0 (length nodes) (k + 1) 0 (omega (arith, within, long)),
        )

none_of : (p : ℕ → Bool) (xs : List ℕ) → ((x : ℕ) → p x ≡ false) → filter p xs ≡ []
none_of p [] fails = refl
none_of p (x ∷ xs) fails = rw (fails x) (none_of p xs fails)

none_here : (nodes : List Node) → AllByRecursion (λ n. n.bootstrap ≡ false) nodes → (i : ℕ) → is_bootstrap nodes i ≡ false
none_here [] none i = refl
none_here (n ∷ nodes) none zero = none.0
none_here (n ∷ nodes) none (suc i) = none_here nodes none.1 i

module _ (profile bits : ℕ) (needs : Needs) (not_extended : profile == 4 ≡ false) where
  none_at : (circle : ℕ) (p : Place) (ms : Members) → IsSound profile bits needs (record { at = p; members = ms })
      → AllByRecursion (λ (n : Node). n.bootstrap ≡ false) (nodes_at circle p ms)
  unfolding node_of numbered_node
  none_at circle place.Top ms sound = tt
  none_at circle place.Churn ms sound = tt
  none_at circle place.Lookups ms sound = tt
  none_at circle (place.Node n) ms sound = (unlisted_false sound key.Bootstrap (rw not_extended refl), tt)
  none_at circle (place.Nodes n) ms sound =
      each-mapped (λ (n : Node). n.bootstrap ≡ false) (numbered_node circle (name_at key.Prefix ms) (flags_at ms))
      (range_with_len 0 (number_at key.Count ms)) (λ number. unlisted_false sound key.Bootstrap (rw not_extended refl))
  none_at circle (place.Command n) ms sound = tt
  none_at circle (place.Row n) ms sound = tt

  -- only the extended profile has bootstrap nodes
  pub no_bootstraps : (circle : ℕ) (ss : List Section) → AllByRecursion (IsSound profile bits needs) ss → bootstraps_of (nodes_of circle ss) ≡ []
  unfolding bootstraps_of nodes_of
  no_bootstraps circle ss sound =
      let nodes = flat_map (λ (s : Section). nodes_at circle s.at s.members) ss in
      let none = each-made (λ (n : Node). n.bootstrap ≡ false) (IsSound profile bits needs) (λ s. nodes_at circle s.at s.members) ss
      (λ s one. none_at circle s.at s.members one) sound in
      none_of (is_bootstrap nodes) (range_with_len 0 (length nodes)) (none_here nodes none)
