-- The names of the nodes of an accepted scenario are plain.
use Rattle.std.proofs.Common.{◌≡◌, ◌∙◌, sym, ap, subst, refl, ℕ, ◌<◌, ◌≤◌, ◌==◌, ◌&&◌, Bool, true, false, not, nat_le, List, [], ◌∷◌, ◌++◌, Option, Some, None, inl, inr, bytes_eq, codes, decimal, find, length, option_map, unwrap_or}
use Rattle.std.specs.List.{All, AllByRecursion, list_all, range_with_len, slice_get}
use Rattle.std.proofs.lemmas.Bool.{and_parts, cases_Bool, eqb-true, false≢true}
use Rattle.std.proofs.lemmas.List.Elements.{All-from_recursion}
use Rattle.std.proofs.lemmas.Option.{same_Some, slice_get-get_or}
use Rattle.chord_judge.specs.Judged.{judged}
use Rattle.chord_judge.specs.Table.{heading, rows_text}
use Rattle.chord_judge.specs.Traces.{table_text}
use Rattle.chord_judge.specs.Written.{HasPlainNames, IsWritableBlock, is_break, told_of}
use Rattle.chord_judge.proofs.ReadBack.{joined}
use Rattle.chord_judge.proofs.ReadTraces.{trace_judged}
use Rattle.chord_judge.proofs.WordLemmas.{IsWord, decimal_word}
use Rattle.chord_scenario.specs.Accepted.{Accepts, nodes_in}
use Rattle.chord_scenario.specs.Faults.{bad_name, file_fault, first_answer, has_bad_name, is_name, is_name_byte, is_prefix, same_id, same_name}
use Rattle.chord_scenario.specs.Groups.{key_questions, late_questions, node_questions}
use Rattle.chord_scenario.specs.Rows.{rows_of}
use Rattle.chord_scenario.specs.Sections.{Section, sections}
use Rattle.chord_scenario.specs.Settings.{flags_at, index_of, name_at, node_of, nodes_at, nodes_of, numbered_node}
use Rattle.chord_scenario.specs.Setup.{Setup}
use Rattle.chord_scenario.specs.Values.{number_at}
use Rattle.chord_scenario.specs.World.{name_of, node_count}
use Rattle.chord_scenario.specs.declared.fault.ScenarioFault.TheVariants.{BadName}
use Rattle.chord_scenario.specs.declared.key.FileKey.TheVariants as key
use Rattle.chord_scenario.specs.declared.key.Place.{Place}
use Rattle.chord_scenario.specs.declared.key.Place.TheVariants as place
use Rattle.chord_scenario.specs.declared.setting.Node.{Node}
use Rattle.chord_scenario.proofs.DistinctNames.{index_of-own, or_none}
use Rattle.chord_scenario.proofs.EachNode.{at_index, each-made, each-mapped}
use Rattle.chord_scenario.proofs.FirstRepeat.{mapped_none}
use Rattle.chord_scenario.proofs.InRange.{keys_fit}
use Rattle.chord_scenario.proofs.LatencyFacts.{first_of}
use Rattle.chord_scenario.proofs.Questions.{first_answer-append}
use Rattle.chord_scenario.proofs.Scenarios.{node_questions-distinct, scenario_fault-file}
use Rattle.chord_trace.specs.Pieces.{blocks_of}
use Rattle.chord_trace.specs.Texts.{pieces_text}
use Rattle.chord_trace.specs.declared.piece.Piece.{Piece}

-- the questions of the keys and of the nodes of an accepted scenario find no fault
module _ (toml csv : List ℕ) (sc : Setup) (accepted : Accepts toml csv sc) where
  record HasNoFaults : Type 0 where
    keys : first_answer (key_questions (number_at key.Profile accepted.top) (number_at key.Bits accepted.top) (sections accepted.top)) ≡ None
    nodes : first_answer (node_questions (sections accepted.top) (nodes_in accepted.top)) ≡ None

  no_faults : HasNoFaults
  unfolding file_fault
  no_faults =
      let top = accepted.top in
      let of_keys = key_questions (number_at key.Profile top) (number_at key.Bits top) (sections top) in
      let of_nodes = node_questions (sections top) (nodes_in top) in
      let of_links = late_questions top (sections top) (nodes_in top) (rows_of csv) in
      let none = sym (scenario_fault-file toml csv top accepted.is_document) ∙ accepted.no_fault in
      let later = of_nodes ++ of_links in
      let (keys, after_keys) = or_none (first_answer of_keys) (first_answer later) (sym (first_answer-append of_keys later) ∙ none) in
      let nodes = (or_none (first_answer of_nodes) (first_answer of_links) (sym (first_answer-append of_nodes of_links) ∙ after_keys)).0 in
      record { keys = keys; nodes = nodes }

-- the bytes of names are neither spaces nor line feeds
name_byte : (byte : ℕ) → is_name_byte byte ≡ true → is_break byte ≡ false
name_byte byte h =
    elim (cases_Bool (byte == 32)) [
      | inl space ↦ absurd (false≢true (ap is_name_byte (sym (eqb-true byte 32 space)) ∙ h))
      | inr no_space ↦
          elim (cases_Bool (byte == 10)) [
            | inl feed ↦ absurd (false≢true (ap is_name_byte (sym (eqb-true byte 10 feed)) ∙ h))
            | inr no_feed ↦ rw (no_space, no_feed) refl
          ]
    ]

bytes_word : (text : List ℕ) → list_all is_name_byte text ≡ true → IsWord text
bytes_word [] h = tt
bytes_word (byte ∷ text) h =
    let parts = and_parts (is_name_byte byte) (list_all is_name_byte text) h in (name_byte byte parts.0, bytes_word text parts.1)

name_is_word : (name : List ℕ) → is_name name ≡ true → IsWord name
unfolding is_name
name_is_word name h =
    let of_bytes = (and_parts (nat_le 1 (length name) && nat_le (length name) 32 && list_all is_name_byte name) (not (bytes_eq name (codes "audit"))) h).0 in
    bytes_word name (and_parts (nat_le 1 (length name) && nat_le (length name) 32) (list_all is_name_byte name) of_bytes).1

prefix_is_word : (prefix : List ℕ) → is_prefix prefix ≡ true → IsWord prefix
unfolding is_prefix
prefix_is_word prefix h = bytes_word prefix (and_parts (nat_le 1 (length prefix) && nat_le (length prefix) 25) (list_all is_name_byte prefix) h).1

-- the names of the nodes of a table, of a file, and of a scenario are words
kept : (b : Bool) → not b ≡ false → b ≡ true
kept true h = refl
kept false h = absurd (false≢true (sym h))

abbrev IsNamed : Node → Type 0
IsNamed node = IsWord node.name

words_at : (bits : ℕ) (p : Place) (s : Section) → has_bad_name p s.members ≡ false → AllByRecursion IsNamed (nodes_at bits p s.members)
unfolding node_of numbered_node
words_at bits place.Top s h = tt
words_at bits place.Churn s h = tt
words_at bits place.Lookups s h = tt
words_at bits (place.Node n) s h = (name_is_word (name_at key.Name s.members) (kept (is_name (name_at key.Name s.members)) h), tt)
words_at bits (place.Nodes n) s h =
    let prefix = name_at key.Prefix s.members in
    let word = prefix_is_word prefix (kept (is_prefix prefix) h) in
    each-mapped IsNamed (numbered_node bits prefix (flags_at s.members)) (range_with_len 0 (number_at key.Count s.members))
    (λ number. joined prefix (decimal number) word (decimal_word number))
words_at bits (place.Command n) s h = tt
words_at bits (place.Row n) s h = tt

good_each : (ss : List Section) → find (λ s. has_bad_name s.at s.members) ss ≡ None → AllByRecursion (λ s. has_bad_name s.at s.members ≡ false) ss
good_each [] h = tt
good_each (s ∷ ss) h =
    elim (cases_Bool (has_bad_name s.at s.members)) [
      | inl here ↦ absurd (cc (rw here at h))
      | inr other ↦ (other, good_each ss (rw other at h))
    ]

words_in : (bits : ℕ) (ss : List Section) → bad_name ss ≡ None → AllByRecursion IsNamed (nodes_of bits ss)
unfolding bad_name nodes_of
words_in bits ss h =
    let good = good_each ss (mapped_none (λ (s : Section). BadName s.at) (find (λ s. has_bad_name s.at s.members) ss) h) in
    each-made IsNamed (λ s. has_bad_name s.at s.members ≡ false) (λ s. nodes_at bits s.at s.members) ss
    (λ s one. words_at bits s.at s one) good

word_of : (sc : Setup) (i : ℕ) → AllByRecursion IsNamed sc.nodes → IsWord (name_of sc i)
unfolding name_of
word_of sc i named = by_case (slice_get sc.nodes i) refl
  where
    by_case : (o : Option Node) → slice_get sc.nodes i ≡ o → IsWord (unwrap_or (option_map (λ (x : Node). x.name) o) [])
    by_case None e = tt
    by_case (Some x) e = at_index IsNamed sc.nodes i x named e

-- a name is that of one node
own_place : (sc : Setup) (i : ℕ) → same_name sc.nodes ≡ None → i < node_count sc → index_of (name_of sc i) sc.nodes ≡ Some i
unfolding name_of
own_place sc i distinct within =
    let d = first_of sc.nodes i within in
    ap (λ (o : Option Node). index_of (unwrap_or (option_map (λ (x : Node). x.name) o) []) sc.nodes) (slice_get-get_or sc.nodes i d within)
    ∙ index_of-own sc.nodes i d distinct within

-- the laws
pub plain_names : (toml csv : List ℕ) (sc : Setup) → Accepts toml csv sc → HasPlainNames sc
plain_names toml csv sc accepted =
    let ss = sections accepted.top in
    let nodes = nodes_in accepted.top in
    let same : sc.nodes ≡ nodes = ap (λ (s : Setup). s.nodes) accepted.is_setup.values in
    let none = (no_faults toml csv sc accepted).nodes in
    let distinct : same_name sc.nodes ≡ None = ap same_name same ∙ node_questions-distinct ss nodes none in
    let good = (or_none (bad_name ss) (first_answer (same_name nodes ∷ same_id nodes ∷ [])) none).0 in
    let named : AllByRecursion IsNamed sc.nodes = subst (AllByRecursion IsNamed) (sym same) (words_in (number_at key.Bits accepted.top) ss good) in
    record {
      words = λ i within. All-from_recursion (λ byte. is_break byte ≡ false) (name_of sc i) (word_of sc i named);
      apart = λ i j at_i at_j alike. same_Some i j (sym (own_place sc i distinct at_i)
          ∙ ap (λ (name : List ℕ). index_of name sc.nodes) alike ∙ own_place sc j distinct at_j);
    }

few_bits : (toml csv : List ℕ) (sc : Setup) → Accepts toml csv sc → sc.bits ≤ 128
few_bits toml csv sc accepted =
    let top = accepted.top in
    subst (λ (n : ℕ). n ≤ 128) (sym (ap (λ (s : Setup). s.bits) accepted.is_setup.values))
    (keys_fit (number_at key.Profile top) (number_at key.Bits top) top (no_faults toml csv sc accepted).keys).greatest

pub accepted_trace_judged : (toml csv : List ℕ) (sc : Setup) → Accepts toml csv sc → (pieces : List Piece)
    → All (IsWritableBlock sc) (blocks_of pieces) → table_text sc (pieces_text sc pieces) ≡ heading ++ rows_text sc (judged sc (told_of pieces))
accepted_trace_judged toml csv sc accepted = trace_judged sc (few_bits toml csv sc accepted) (plain_names toml csv sc accepted)
