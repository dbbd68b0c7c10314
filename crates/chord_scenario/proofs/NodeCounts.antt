-- How many nodes a file without faults of keys has.
use Rattle.std.proofs.Common.{◌≡◌, ◌∙◌, sym, ap, subst, refl, ℕ, ◌+◌, ◌*◌, ◌≤◌, Bool, true, false, not, ◌&&◌, ◌==◌, ◌⊎◌, List, [], ◌∷◌, ◌++◌, length, nat_le, Option, Some, None, inl, inr, arith, length-append}
use Rattle.std.specs.Option.{unwrap_or}
use Rattle.std.specs.List.{AllByRecursion, flat_map, range_with_len}
use Rattle.std.proofs.lemmas.Bool.{cases_Bool, and_parts, false≢true, leb-true}
use Rattle.std.proofs.lemmas.List.{length-map}
use Rattle.std.proofs.lemmas.List.FromFn.{length-range_with_len}
use Rattle.toml.specs.Data.{Data, string, integer, float, boolean, datetime, array, table, Items, no_items, item, Members}
use Rattle.chord_scenario.specs.declared.key.Place.{Place}
use Rattle.chord_scenario.specs.declared.key.Place.TheVariants as place
use Rattle.chord_scenario.specs.declared.key.FileKey.{FileKey}
use Rattle.chord_scenario.specs.declared.key.FileKey.TheVariants as key
use Rattle.chord_scenario.specs.declared.key.Form.TheVariants.{Tables}
use Rattle.chord_scenario.specs.declared.key.Entry.{Entry}
use Rattle.chord_scenario.specs.declared.key.Group.TheVariants.{Nodes, Classes, Commands}
use Rattle.chord_scenario.specs.declared.key.Presence.{Presence}
use Rattle.chord_scenario.specs.declared.key.Presence.TheVariants.{Required, Optional, WithoutClasses}
use Rattle.chord_scenario.specs.declared.keys_check.Needs.{Needs}
use Rattle.chord_scenario.specs.FileKeys.{key_name}
use Rattle.chord_scenario.specs.KeyFaults.{has_wrong_type, is_listed, is_out_of_range}
use Rattle.chord_scenario.specs.Values.{agrees, are_tables, as_whole, data_at, has_type, is_in_range, is_table, is_within, item_count, number_at}
use Rattle.chord_scenario.specs.Sections.{Section, table_at, tables_among, tables_of, sections}
use Rattle.chord_scenario.specs.Settings.{flags_at, name_at, nodes_at, nodes_of, numbered_node}
use Rattle.chord_scenario.proofs.SoundSections.{IsSound, HoldsInFile, all-append}
use Rattle.chord_scenario.proofs.Entries.{Lists, profile_cases, has_typed, not_out, not_wrong, required_fits, unlisted_default}
use Rattle.chord_scenario.proofs.KeyFaults.{unlisted-none}

-- how many nodes a table describes, by its place
abbrev pub size_at : Place → Members → ℕ
size_at (place.Node n) ms = 1
size_at (place.Nodes n) ms = number_at key.Count ms
size_at _ ms = 0

-- the sizes of tables, added up
abbrev pub sizes : List Section → ℕ
sizes [] = 0
sizes (s ∷ ss) = size_at s.at s.members + sizes ss

pub length-nodes_at : (bits : ℕ) (p : Place) (ms : Members) → length (nodes_at bits p ms) ≡ size_at p ms
length-nodes_at bits place.Top ms = refl
length-nodes_at bits place.Churn ms = refl
length-nodes_at bits place.Lookups ms = refl
length-nodes_at bits (place.Node n) ms = refl
length-nodes_at bits (place.Nodes n) ms =
    length-map (range_with_len 0 (number_at key.Count ms)) (numbered_node bits (name_at key.Prefix ms) (flags_at ms))
    ∙ length-range_with_len 0 (number_at key.Count ms)
length-nodes_at bits (place.Command n) ms = refl
length-nodes_at bits (place.Row n) ms = refl

-- a file has as many nodes as its tables describe
pub length-nodes_of : (bits : ℕ) (ss : List Section) → length (nodes_of bits ss) ≡ sizes ss
unfolding nodes_of
length-nodes_of bits [] = refl
length-nodes_of bits (s ∷ ss) =
    length-append (nodes_at bits s.at s.members) (flat_map (λ (s : Section). nodes_at bits s.at s.members) ss)
    ∙ (λ i. length-nodes_at bits s.at s.members i + length-nodes_of bits ss i)

sizes-append : (xs ys : List Section) → sizes (xs ++ ys) ≡ sizes xs + sizes ys
sizes-append [] ys = omega arith
sizes-append (x ∷ xs) ys = omega (arith, sizes-append xs ys)

-- a value is a table, or gives no section
as_section : (p : Place) (d : Data)
    → ((ms : Members) × (table_at p (Some d) ≡ record { at = p; members = ms } ∷ [])) ⊎ ((is_table d ≡ false) × (table_at p (Some d) ≡ []))
as_section p (table ms) = inl (ms, refl)
as_section p (string s) = inr (refl, refl)
as_section p (integer z) = inr (refl, refl)
as_section p (float x) = inr (refl, refl)
as_section p (boolean b) = inr (refl, refl)
as_section p (datetime t) = inr (refl, refl)
as_section p (array ds) = inr (refl, refl)

-- a place that has no nodes
no_nodes : (p : Place) → ((ms : Members) → size_at p ms ≡ 0) → (o : Option Data) → sizes (table_at p o) ≡ 0
no_nodes p none None = refl
no_nodes p none (Some d) =
    elim (as_section p d) [
      | inl t ↦ ap sizes t.1 ∙ omega (arith, none t.0)
      | inr t ↦ ap sizes t.1
    ]

none_among : (n : ℕ) (ds : Items) → sizes (tables_among Commands n ds) ≡ 0
none_among n no_items = refl
none_among n (item d ds) =
    omega (
      arith,
      sizes-append (table_at (place.Command n) (Some d)) (tables_among Commands (n + 1) ds),
      no_nodes (place.Command n) (λ ms. refl) (Some d),
      none_among (n + 1) ds,
    )

none_in_commands : (o : Option Data) → sizes (tables_of Commands o) ≡ 0
none_in_commands None = refl
none_in_commands (Some (string s)) = refl
none_in_commands (Some (integer z)) = refl
none_in_commands (Some (float x)) = refl
none_in_commands (Some (boolean b)) = refl
none_in_commands (Some (datetime t)) = refl
none_in_commands (Some (array ds)) = none_among 1 ds
none_in_commands (Some (table ms)) = refl

-- only the tables of nodes and of classes have nodes
sizes-sections : (top : Members)
    → sizes (sections top) ≡ sizes (tables_of Nodes (data_at key.Node top)) + sizes (tables_of Classes (data_at key.Nodes top))
unfolding sections
sizes-sections top =
    let first = record { at = place.Top; members = top } ∷ [] in
    let churn = table_at place.Churn (data_at key.Churn top) in
    let lookups = table_at place.Lookups (data_at key.Lookups top) in
    let nodes = tables_of Nodes (data_at key.Node top) in
    let classes = tables_of Classes (data_at key.Nodes top) in
    let commands = tables_of Commands (data_at key.Command top) in
    let no_first : sizes first ≡ 0 = refl in
    omega (
      arith,
      sizes-append (first ++ churn ++ lookups ++ nodes ++ classes) commands,
      sizes-append (first ++ churn ++ lookups ++ nodes) classes,
      sizes-append (first ++ churn ++ lookups) nodes,
      sizes-append (first ++ churn) lookups,
      sizes-append first churn,
      no_first,
      no_nodes place.Churn (λ ms. refl) (data_at key.Churn top),
      no_nodes place.Lookups (λ ms. refl) (data_at key.Lookups top),
      none_in_commands (data_at key.Command top),
    )

-- The tables of nodes describe one each.

most_nodes : (n : ℕ) (ds : Items) → sizes (tables_among Nodes n ds) ≤ item_count ds
most_nodes n no_items = omega arith
most_nodes n (item d ds) =
    let parts = sizes-append (table_at (place.Node n) (Some d)) (tables_among Nodes (n + 1) ds) in
    elim (as_section (place.Node n) d) [
      | inl t ↦ let one : sizes (table_at (place.Node n) (Some d)) ≡ 1 = ap sizes t.1 in omega (arith, parts, one, most_nodes (n + 1) ds)
      | inr t ↦ let none : sizes (table_at (place.Node n) (Some d)) ≡ 0 = ap sizes t.1 in omega (arith, parts, none, most_nodes (n + 1) ds)
    ]

least_nodes : (n : ℕ) (ds : Items) → are_tables ds ≡ true → item_count ds ≤ sizes (tables_among Nodes n ds)
least_nodes n no_items typed = omega arith
least_nodes n (item d ds) typed =
    let parts = sizes-append (table_at (place.Node n) (Some d)) (tables_among Nodes (n + 1) ds) in
    let (here, rest) = and_parts (is_table d) (are_tables ds) typed in
    elim (as_section (place.Node n) d) [
      | inl t ↦ let one : sizes (table_at (place.Node n) (Some d)) ≡ 1 = ap sizes t.1 in omega (arith, parts, one, least_nodes (n + 1) ds rest)
      | inr t ↦ absurd (false≢true (sym t.0 ∙ here))
    ]

-- an array of tables within its bounds
record IsArray (least greatest : ℕ) (d : Data) : Type 0 where
  items : Items
  is : d ≡ array items
  typed : are_tables items ≡ true
  low : least ≤ item_count items
  high : item_count items ≤ greatest

array_there : (bits least greatest : ℕ) (agrees : Data → Bool) (d : Data) → not (has_type (Tables least greatest) d) ≡ false
    → not (is_in_range bits (Tables least greatest) d && agrees d) ≡ false → IsArray least greatest d
unfolding is_in_range has_type
array_there bits least greatest agrees (string s) typed h = absurd (false≢true (sym typed))
array_there bits least greatest agrees (integer z) typed h = absurd (false≢true (sym typed))
array_there bits least greatest agrees (float x) typed h = absurd (false≢true (sym typed))
array_there bits least greatest agrees (boolean b) typed h = absurd (false≢true (sym typed))
array_there bits least greatest agrees (datetime t) typed h = absurd (false≢true (sym typed))
array_there bits least greatest agrees (table ms) typed h = absurd (false≢true (sym typed))
array_there bits least greatest agrees (array ds) typed h =
    let (fits, agree) = and_parts (is_within least greatest (item_count ds)) (agrees (array ds))
    (kept (is_within least greatest (item_count ds) && agrees (array ds)) h) in
    let (low, high) = and_parts (nat_le least (item_count ds)) (nat_le (item_count ds) greatest) fits in
    record {
      items = ds;
      is = refl;
      typed = kept (are_tables ds) typed;
      low = leb-true least (item_count ds) low;
      high = leb-true (item_count ds) greatest high;
    }
  where
    kept : (b : Bool) → not b ≡ false → b ≡ true
    kept true e = refl
    kept false e = absurd (false≢true (sym e))

module _ (profile bits : ℕ) (needs : Needs) where
  -- A class has 2 to 1,048,576 nodes in the extended profile, and none in the others.

  class_most : (n : ℕ) (ms : Members) → IsSound profile bits needs (record { at = place.Nodes n; members = ms }) → number_at key.Count ms ≤ 1048576
  class_most n ms sound =
      elim (cases_Bool (profile == 4)) [
        | inl extended ↦ (required_fits sound key.Count 2 1048576 (rw extended refl)).high
        | inr not_extended ↦ omega (arith, unlisted_default sound key.Count 0 (rw not_extended refl))
      ]

  most_among : (n : ℕ) (ds : Items) → AllByRecursion (IsSound profile bits needs) (tables_among Classes n ds)
      → sizes (tables_among Classes n ds) ≤ item_count ds * 1048576
  most_among n no_items sound = omega arith
  most_among n (item d ds) sound =
      let parts = sizes-append (table_at (place.Nodes n) (Some d)) (tables_among Classes (n + 1) ds) in
      let (here, rest) = all-append (IsSound profile bits needs) (table_at (place.Nodes n) (Some d)) (tables_among Classes (n + 1) ds) sound in
      elim (as_section (place.Nodes n) d) [
        | inl t ↦
            let one : sizes (table_at (place.Nodes n) (Some d)) ≡ number_at key.Count t.0 + 0 = ap sizes t.1 in
            let own = subst (AllByRecursion (IsSound profile bits needs)) t.1 here in
            omega (arith, parts, one, class_most n t.0 own.0, most_among (n + 1) ds rest)
        | inr t ↦
            let none : sizes (table_at (place.Nodes n) (Some d)) ≡ 0 = ap sizes t.1 in
            omega (arith, parts, none, most_among (n + 1) ds rest)
      ]

  least_among : profile == 4 ≡ true → (n : ℕ) (ds : Items) → are_tables ds ≡ true → AllByRecursion (IsSound profile bits needs) (tables_among Classes n ds)
      → item_count ds * 2 ≤ sizes (tables_among Classes n ds)
  least_among extended n no_items typed sound = omega arith
  least_among extended n (item d ds) typed sound =
      let parts = sizes-append (table_at (place.Nodes n) (Some d)) (tables_among Classes (n + 1) ds) in
      let (here, rest) = all-append (IsSound profile bits needs) (table_at (place.Nodes n) (Some d)) (tables_among Classes (n + 1) ds) sound in
      let (is_one, are) = and_parts (is_table d) (are_tables ds) typed in
      elim (as_section (place.Nodes n) d) [
        | inl t ↦
            let one : sizes (table_at (place.Nodes n) (Some d)) ≡ number_at key.Count t.0 + 0 = ap sizes t.1 in
            let own = subst (AllByRecursion (IsSound profile bits needs)) t.1 here in
            let fits = required_fits own.0 key.Count 2 1048576 (rw extended refl) in
            omega (arith, parts, one, fits.low, least_among extended (n + 1) ds are rest)
        | inr t ↦ absurd (false≢true (sym t.0 ∙ is_one))
      ]

  module _ (top : Members) (h : HoldsInFile (IsSound profile bits needs) top) where
    -- the array at a listed key
    array_at : (k : FileKey) (least greatest : ℕ) (presence : Presence) → Lists h.top (record { 0 = k; 1 = Tables least greatest; 2 = presence })
        → (d : Data) → data_at k top ≡ Some d → IsArray least greatest d
    array_at k least greatest presence is d there =
        let e : Entry = record { 0 = k; 1 = Tables least greatest; 2 = presence } in
        let typed : has_wrong_type (record { at = place.Top; members = top }) e ≡ false = not_wrong h.top e is in
        let out : is_out_of_range bits (record { at = place.Top; members = top }) e ≡ false = not_out h.top e is in
        array_there bits least greatest (λ d. agrees top k (unwrap_or (as_whole d) 0)) d (rw there at typed) (rw there at out)

    no_classes : profile == 4 ≡ false → data_at key.Nodes top ≡ None
    unfolding data_at
    no_classes not_extended =
        let unlisted : is_listed profile place.Top (key_name key.Nodes) ≡ false =
        elim (cases_Bool (profile == 2)) [
          | inl second ↦ rw (not_extended, second) refl
          | inr other ↦ rw (not_extended, other) refl
        ] in
        unlisted-none profile place.Top (key_name key.Nodes) top unlisted h.top.known

    most_in_nodes : (greatest : ℕ) (presence : Presence) → Lists h.top (record { 0 = key.Node; 1 = Tables 2 greatest; 2 = presence })
        → sizes (tables_of Nodes (data_at key.Node top)) ≤ greatest
    most_in_nodes greatest presence is = by_value (data_at key.Node top) refl
      where
        by_value : (o : Option Data) → data_at key.Node top ≡ o → sizes (tables_of Nodes o) ≤ greatest
        by_value None there = omega arith
        by_value (Some d) there =
            let a = array_at key.Node 2 greatest presence is d there in
            subst (λ d. sizes (tables_of Nodes (Some d)) ≤ greatest) (sym a.is) (omega (arith, most_nodes 1 a.items, a.high))

    two_in_nodes : (greatest : ℕ) (presence : Presence) → Lists h.top (record { 0 = key.Node; 1 = Tables 2 greatest; 2 = presence })
        → (d : Data) → data_at key.Node top ≡ Some d → 2 ≤ sizes (tables_of Nodes (data_at key.Node top))
    two_in_nodes greatest presence is d there =
        let a = array_at key.Node 2 greatest presence is d there in
        let two : 2 ≤ sizes (tables_of Nodes (Some (array a.items))) = omega (arith, least_nodes 1 a.items a.typed, a.low) in
        subst (λ o. 2 ≤ sizes (tables_of Nodes o)) (sym (there ∙ ap Some a.is)) two

    nodes_fit : sizes (tables_of Nodes (data_at key.Node top)) ≤ 65536
    nodes_fit =
        elim (profile_cases profile) [
          | inl extended ↦ most_in_nodes 65536 WithoutClasses (rw extended refl)
          | inr (inl is) ↦ omega (arith, most_in_nodes 4096 Required (rw (is.not_extended, is.second) refl))
          | inr (inr is) ↦ omega (arith, most_in_nodes 512 Required (rw (is.not_extended, is.not_second) refl))
        ]

    classes_fit : sizes (tables_of Classes (data_at key.Nodes top)) ≤ 16777216
    classes_fit = by_value (data_at key.Nodes top) refl h.classes
      where
        by_value : (o : Option Data) → data_at key.Nodes top ≡ o → AllByRecursion (IsSound profile bits needs) (tables_of Classes o)
            → sizes (tables_of Classes o) ≤ 16777216
        by_value None there sound = omega arith
        by_value (Some d) there sound =
            elim (cases_Bool (profile == 4)) [
              | inl extended ↦
                  let a = array_at key.Nodes 1 16 Optional (rw extended refl) d there in
                  let own = subst (λ d. AllByRecursion (IsSound profile bits needs) (tables_of Classes (Some d))) a.is sound in
                  subst (λ d. sizes (tables_of Classes (Some d)) ≤ 16777216) (sym a.is) (omega (arith, most_among 1 a.items own, a.high))
              | inr not_extended ↦ absurd (cc (sym (no_classes not_extended) ∙ there))
            ]

    -- the key that holds the nodes is there, since it is required
    two_required : (greatest : ℕ) → Lists h.top (record { 0 = key.Node; 1 = Tables 2 greatest; 2 = Required })
        → 2 ≤ sizes (tables_of Nodes (data_at key.Node top))
    two_required greatest is =
        let (d, there, typed) = has_typed h.top (record { 0 = key.Node; 1 = Tables 2 greatest; 2 = Required }) is refl in
        two_in_nodes greatest Required is d there

    two_extended : profile == 4 ≡ true → (o : Option Data) → data_at key.Nodes top ≡ o → AllByRecursion (IsSound profile bits needs) (tables_of Classes o)
        → 2 ≤ sizes (tables_of Nodes (data_at key.Node top)) + sizes (tables_of Classes o)
    two_extended extended None none sound =
        let listed : Lists h.top (record { 0 = key.Node; 1 = Tables 2 65536; 2 = WithoutClasses }) = rw extended refl in
        let (d, there, typed) = has_typed h.top (record { 0 = key.Node; 1 = Tables 2 65536; 2 = WithoutClasses }) listed (rw none refl) in
        omega (arith, two_in_nodes 65536 WithoutClasses listed d there)
    two_extended extended (Some d) there sound =
        let a = array_at key.Nodes 1 16 Optional (rw extended refl) d there in
        let own = subst (λ d. AllByRecursion (IsSound profile bits needs) (tables_of Classes (Some d))) a.is sound in
        let two : 2 ≤ sizes (tables_of Classes (Some (array a.items))) = omega (arith, least_among extended 1 a.items a.typed own, a.low) in
        let all : 2 ≤ sizes (tables_of Classes (Some d)) = subst (λ d. 2 ≤ sizes (tables_of Classes (Some d))) (sym a.is) two in
        omega (arith, all)

    two_there : 2 ≤ sizes (tables_of Nodes (data_at key.Node top)) + sizes (tables_of Classes (data_at key.Nodes top))
    two_there =
        elim (profile_cases profile) [
          | inl extended ↦ two_extended extended (data_at key.Nodes top) refl h.classes
          | inr (inl is) ↦ omega (arith, two_required 4096 (rw (is.not_extended, is.second) refl))
          | inr (inr is) ↦ omega (arith, two_required 512 (rw (is.not_extended, is.not_second) refl))
        ]

    pub two_nodes : (circle : ℕ) → 2 ≤ length (nodes_of circle (sections top))
    two_nodes circle = omega (arith, length-nodes_of circle (sections top), sizes-sections top, two_there)

    pub few_nodes : (circle : ℕ) → length (nodes_of circle (sections top)) ≤ 16842752
    few_nodes circle = omega (arith, length-nodes_of circle (sections top), sizes-sections top, nodes_fit, classes_fit)
