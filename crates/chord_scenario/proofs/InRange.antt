-- A scenario of a file without faults is in range.
use Rattle.std.proofs.Common.{◌≡◌, ◌≢◌, ◌∙◌, sym, ℕ, ◌<◌, ◌≤◌, ◌^◌, List, [], ◌∷◌, length, map, get_or, ◌==◌, false, Option, None, arith, refl, eq-eqb}
use Rattle.std.specs.List.{All, AllByRecursion}
use Rattle.std.proofs.lemmas.Bool.{false≢true}
use Rattle.std.proofs.lemmas.List.Elements.{All-from_recursion, All-get_or}
use Rattle.std.proofs.lemmas.List.{get_or-map}
use Rattle.std.proofs.lemmas.Bool.Decides.{nat_tests}
use native.Mathlib.Decide.{dec_lt}
use Rattle.toml.specs.Data.{Members}
use Rattle.chord_scenario.specs.declared.fault.ScenarioFault.{ScenarioFault}
use Rattle.chord_scenario.specs.declared.fault.ScenarioFault.TheVariants.{SameId}
use Rattle.chord_scenario.specs.declared.key.FileKey.TheVariants as key
use Rattle.chord_scenario.specs.declared.setting.Action.TheVariants as action
use Rattle.chord_scenario.specs.declared.setting.Node.{Node}
use Rattle.chord_scenario.specs.Accepted.{setup_with, nodes_in, commands_in}
use Rattle.chord_scenario.specs.Faults.{first_answer, same_name, same_id, too_few_initial, time_after_end, bad_latency_row, below_window}
use Rattle.chord_scenario.specs.Groups.{key_questions, node_questions, late_questions}
use Rattle.chord_scenario.specs.KeyFaults.{needs_of}
use Rattle.chord_scenario.specs.Latencies.{HasLatencies}
use Rattle.chord_scenario.specs.Order.{AreApart}
use Rattle.chord_scenario.specs.Range.{IsCommandOf, IsInRange}
use Rattle.chord_scenario.specs.Rows.{Row}
use Rattle.chord_scenario.specs.Search.{first_repeat}
use Rattle.chord_scenario.specs.Sections.{sections}
use Rattle.chord_scenario.specs.Settings.{bootstraps_of, coordinates_of, is_bootstrap}
use Rattle.chord_scenario.specs.Setup.{Setup}
use Rattle.chord_scenario.specs.Values.{number_at}
use Rattle.chord_scenario.specs.World.{node_count, ident_of}
use Rattle.chord_scenario.proofs.BootstrapFacts.{bootstraps_ascend, no_bootstraps}
use Rattle.chord_scenario.proofs.CoordinateFacts.{coordinates_fit}
use Rattle.chord_scenario.proofs.DistinctNames.{or_none}
use Rattle.chord_scenario.proofs.FirstRepeat.{mapped_none}
use Rattle.chord_scenario.proofs.LatencyFacts.{first_of, latencies_fit}
use Rattle.chord_scenario.proofs.LeaveFacts.{no_leave_commands}
use Rattle.chord_scenario.proofs.Ranges.{filter-range_below}
use Rattle.chord_scenario.proofs.NodeCounts.{few_nodes, two_nodes}
use Rattle.chord_scenario.proofs.NodeFacts.{no_repeat, enough_initial, a_node_churns, commands_fit}
use Rattle.chord_scenario.proofs.SoundSections.{IsSound, sound_sections, holds_in_file}
use Rattle.chord_scenario.proofs.TopFacts.{profile_known, profile_small, bits_fit, numbers_fit, churn_there, churn_in_range, no_leaves, lookups_in_range, few_commands}

-- no question finds a fault
answers_none : (qs : List (Option ScenarioFault)) → first_answer qs ≡ None → AllByRecursion (λ q. q ≡ None) qs
answers_none [] h = tt
answers_none (q ∷ qs) h = let (here, rest) = or_none q (first_answer qs) h in (here, answers_none qs rest)

-- what the other questions say
record IsFaultless (top : Members) (rows : List Row) : Type 0 where
  names : same_name (nodes_in top) ≡ None
  idents : same_id (nodes_in top) ≡ None
  initial : too_few_initial (number_at key.Profile top == 4) (number_at key.List top) (nodes_in top) ≡ None
  in_time : time_after_end (number_at key.DurationUs top) (sections top) ≡ None
  good_rows : bad_latency_row rows ≡ None
  far : below_window (number_at key.WindowUs top) (number_at key.LatencyUs top) (nodes_in top) (coordinates_of (number_at key.Seed top) (sections top)) rows ≡ None

faultless : (top : Members) (rows : List Row) → first_answer (node_questions (sections top) (nodes_in top)) ≡ None
    → first_answer (late_questions top (sections top) (nodes_in top) rows) ≡ None → IsFaultless top rows
faultless top rows own late =
    let of_nodes = answers_none (node_questions (sections top) (nodes_in top)) own in
    let (names, (idents, end)) = of_nodes.1 in
    let of_links = answers_none (late_questions top (sections top) (nodes_in top) rows) late in
    let (initial, (in_time, (good_rows, (apart, (once, (far, last)))))) = of_links.1 in
    record { names = names; idents = idents; initial = initial; in_time = in_time; good_rows = good_rows; far = far }

-- what the questions of keys say
pub record KeysFit (top : Members) : Type 0 where
  pub profile : number_at key.Profile top ≤ 4
  pub least : 3 ≤ number_at key.Bits top
  pub greatest : number_at key.Bits top ≤ 128
  pub nodes : length (nodes_in top) ≤ 16842752

pub keys_fit : (profile bits : ℕ) (top : Members) → first_answer (key_questions profile bits (sections top)) ≡ None → KeysFit top
keys_fit profile bits top h =
    let needs = needs_of (sections top) in
    let all = holds_in_file (IsSound profile bits needs) top (sound_sections profile bits (sections top) h) in
    let s = all.top in
    record {
      profile = profile_small (number_at key.Profile top) (profile_known profile bits needs top s);
      least = (bits_fit profile bits needs top s).low;
      greatest = (bits_fit profile bits needs top s).high;
      nodes = few_nodes profile bits needs top all (number_at key.Bits top);
    }

-- nodes of other numbers are at other places
met : (nodes : List Node) (i j : ℕ) → same_id nodes ≡ None → i < j → j < length nodes
    → get_or (map (λ n. n.ident) nodes) i 0 ≡ get_or (map (λ n. n.ident) nodes) j 0 → ⊥
unfolding same_id
met nodes i j h less within same =
    let d = first_of nodes j within in
    let apart = no_repeat (λ x y. x.ident == y.ident) nodes d (mapped_none (λ r. SameId r.first.name r.second.name)
    (first_repeat (λ x y. x.ident == y.ident) [] nodes) h) i j less within in
    let one = get_or-map (λ n. n.ident) nodes i d 0 (omega arith) in
    let two = get_or-map (λ n. n.ident) nodes j d 0 within in
    false≢true (sym apart ∙ eq-eqb (get_or nodes i d).ident (get_or nodes j d).ident (sym one ∙ same ∙ two))

-- no two nodes have one identifier
pub nodes_apart : (nodes : List Node) → same_id nodes ≡ None → AreApart nodes
nodes_apart nodes h i j hi hj same =
    elim (dec_lt i j) [
      | yes less ↦ absurd (met nodes i j h less hj same)
      | no not_less ↦
          elim (dec_lt j i) [
            | yes more ↦ absurd (met nodes j i h more hi (sym same))
            | no not_more ↦ omega arith
          ]
    ]

idents_apart : (sc : Setup) → same_id sc.nodes ≡ None → (i j : ℕ) → i < node_count sc → j < node_count sc → ident_of sc i ≡ ident_of sc j → i ≡ j
unfolding ident_of
idents_apart sc h = nodes_apart sc.nodes h

idents_on_circle : (sc : Setup) → All (λ n. n.ident < 2 ^ sc.bits) sc.nodes → (i : ℕ) → i < node_count sc → ident_of sc i < 2 ^ sc.bits
unfolding ident_of
idents_on_circle sc all i hi =
    let d = first_of sc.nodes i hi in
    rw (get_or-map (λ n. n.ident) sc.nodes i d 0 hi) (All-get_or (λ n. n.ident < 2 ^ sc.bits) sc.nodes i d hi all)

-- the first two profiles are not the extended one
not_four : (n : ℕ) → n ≤ 2 → (n == 4) ≡ false
not_four n early = grind (arith, nat_tests)

-- a bootstrap node is a node
bootstraps_known : (nodes : List Node) → All (λ i. i < length nodes) (bootstraps_of nodes)
unfolding bootstraps_of
bootstraps_known nodes = filter-range_below (is_bootstrap nodes) (length nodes)

module _ (profile : ℕ) (top : Members) (rows : List Row) (cells : List ℕ) (is_profile : profile ≡ number_at key.Profile top)
    (keys : first_answer (key_questions profile (number_at key.Bits top) (sections top)) ≡ None)
    (own : first_answer (node_questions (sections top) (nodes_in top)) ≡ None)
    (late : first_answer (late_questions top (sections top) (nodes_in top) rows) ≡ None)
    (has : HasLatencies (nodes_in top) rows cells)
    (on_circle : All (λ n. n.ident < 2 ^ number_at key.Bits top) (nodes_in top)) where
  abbrev sc : Setup
  sc = setup_with top (nodes_in top) (commands_in top) cells

  pub in_range : IsInRange sc
  in_range =
      let bits = number_at key.Bits top in
      let needs = needs_of (sections top) in
      let sound = holds_in_file (IsSound profile bits needs) top (sound_sections profile bits (sections top) keys) in
      let none = faultless top rows own late in
      let numbers = numbers_fit profile bits needs top sound.top is_profile (nodes_in top) (commands_in top) cells in
      let coordinates = coordinates_fit profile bits needs sc bits (number_at key.Seed top) (sections top) refl refl (sound_sections profile bits (sections top) keys) in
      let enough : 2 ≤ node_count sc = two_nodes profile bits needs top sound bits in
      record {
        numbers = numbers;
        nodes = record {
          least = enough;
          greatest = few_nodes profile bits needs top sound bits;
          on_circle = idents_on_circle sc on_circle;
          apart = idents_apart sc none.idents;
          bootstraps = bootstraps_known sc.nodes;
          in_order = bootstraps_ascend sc.nodes;
          no_bootstraps = λ early. no_bootstraps profile bits needs (not_four profile (omega (arith, early, is_profile))) bits (sections top)
              (sound_sections profile bits (sections top) keys);
          initial = λ early. enough_initial (sc.profile == 4) sc.list sc.nodes (not_four sc.profile early) none.initial;
        };
        latencies = latencies_fit sc rows has none.good_rows none.names none.far numbers.window.least numbers.latency.least numbers.latency.greatest coordinates;
        coordinates = coordinates;
        churn = churn_in_range profile bits needs top sound;
        churn_is_set = λ i h. churn_there profile bits needs top sound.top (a_node_churns sc bits (sections top) i refl h);
        lookups = lookups_in_range profile bits needs top sound;
        few_commands = few_commands profile bits needs top sound.top bits (nodes_in top);
        commands = All-from_recursion (IsCommandOf sc) sc.commands (commands_fit sc (omega arith) (sections top) none.in_time);
        leaves = record {
          no_command = λ early. All-from_recursion (λ command. command.action ≢ action.Leave) sc.commands
              (no_leave_commands profile bits needs (not_four profile (omega (arith, early, is_profile))) bits (nodes_in top) (sections top)
              (sound_sections profile bits (sections top) keys));
          no_share = λ early. no_leaves profile bits needs top (not_four profile (omega (arith, early, is_profile))) sound;
        };
      }
