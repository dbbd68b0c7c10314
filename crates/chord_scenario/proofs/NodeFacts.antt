-- What a file without faults says of its nodes and commands.
use Rattle.std.proofs.Common.{◌≡◌, ◌∙◌, sym, subst, refl, ℕ, zero, suc, ◌+◌, ◌<◌, ◌≤◌, ◌^◌, Bool, true, false, ◌&&◌, List, [], ◌∷◌, ◌++◌, length, map, filter, find, get_or, slice_get, nat_le, nat_lt, Option, Some, None, option_map, unwrap_or, inl, inr, arith, count_by}
use Rattle.std.specs.Option.{option_and_then}
use Rattle.std.specs.List.{AllByRecursion, list_any, enumerate_from, range_with_len}
use Rattle.std.proofs.lemmas.Bool.{cases_Bool, false≢true, ltb-true}
use Rattle.std.proofs.lemmas.Bool.Decides.{nat_tests}
use Rattle.std.proofs.lemmas.Nat.{pow_pos}
use Rattle.chord_scenario.specs.declared.setting.Node.{Node}
use Rattle.chord_scenario.specs.declared.key.Place.{Place}
use Rattle.chord_scenario.specs.declared.key.Place.TheVariants as place
use Rattle.chord_scenario.specs.declared.key.FileKey.{FileKey}
use Rattle.chord_scenario.specs.declared.key.FileKey.TheVariants as key
use Rattle.chord_scenario.specs.declared.operation.Operation.{Operation}
use Rattle.chord_scenario.specs.declared.operation.Operation.TheVariants as operation
use Rattle.chord_scenario.specs.declared.fault.ScenarioFault.TheVariants.{TimeAfterEnd}
use Rattle.toml.specs.Data.{Members}
use Rattle.chord_scenario.specs.Values.{data_at, number_at, identifier_of}
use Rattle.chord_scenario.specs.Sections.{Section}
use Rattle.chord_scenario.specs.Search.{first_repeat, repeat_of}
use Rattle.chord_scenario.specs.Settings.{
  on_circle,
  is_command,
  flags_at,
  name_at,
  node_of,
  nodes_at,
  nodes_of,
  numbered_node,
  index_of,
  node_at,
  operation_at,
  action_by,
  action_of,
  command_of,
  commands_of,
}
use Rattle.chord_scenario.specs.KeyFaults.{is_churn_section}
use Rattle.chord_scenario.specs.Faults.{too_few_initial, time_after_end}
use Rattle.chord_scenario.specs.Range.{IsActionOf, IsCommandOf}
use Rattle.chord_scenario.specs.Setup.{Setup}
use Rattle.chord_scenario.specs.World.{node_count, is_churn_node}
use Rattle.chord_scenario.proofs.DistinctNames.{or_none}
use Rattle.chord_scenario.proofs.EachNode.{at_index, each-made, each-mapped}
use Rattle.chord_scenario.proofs.FirstRepeat.{mapped_none}
use Rattle.chord_scenario.proofs.LatencyLemmas.{index_of-below}

-- Identifiers

module _ {A : Type 0} (alike : A → A → Bool) where
  find-none-each : (y : A) (n : ℕ) (xs : List A) → find (λ x. alike x.1 y) (enumerate_from n xs) ≡ None → AllByRecursion (λ x. alike x y ≡ false) xs
  find-none-each y n [] h = tt
  find-none-each y n (x ∷ xs) h =
      elim (cases_Bool (alike x y)) [
        | inl here ↦ absurd (cc (rw here at h))
        | inr other ↦ (other, find-none-each y (n + 1) xs (rw other at h))
      ]

  -- each of those before is unlike each that follows
  unlike : (before xs : List A) (d : A) → first_repeat alike before xs ≡ None → (j : ℕ) → j < length xs
      → AllByRecursion (λ x. alike x (get_or xs j d) ≡ false) before
  unlike before [] d h j within = absurd (omega arith)
  unlike before (y ∷ ys) d h zero within =
      let (none, rest) = or_none (option_map (repeat_of y (length before + 1)) (find (λ x. alike x.1 y) (enumerate_from 1 before)))
      (first_repeat alike (before ++ y ∷ []) ys) h in
      find-none-each y 1 before (mapped_none (repeat_of y (length before + 1)) (find (λ x. alike x.1 y) (enumerate_from 1 before)) none)
  unlike before (y ∷ ys) d h (suc j) within =
      let (none, rest) = or_none (option_map (repeat_of y (length before + 1)) (find (λ x. alike x.1 y) (enumerate_from 1 before)))
      (first_repeat alike (before ++ y ∷ []) ys) h in
      front _ before (y ∷ []) (unlike (before ++ y ∷ []) ys d rest j (omega arith))
    where
      front : (P : A → Type 0) (xs zs : List A) → AllByRecursion P (xs ++ zs) → AllByRecursion P xs
      front P [] zs h = tt
      front P (x ∷ xs) zs h = (h.0, front P xs zs h.1)

  at : (P : A → Type 0) (xs : List A) (i : ℕ) (d : A) → AllByRecursion P xs → i < length xs → P (get_or xs i d)
  at P [] i d h within = absurd (omega arith)
  at P (x ∷ xs) zero d h within = h.0
  at P (x ∷ xs) (suc i) d h within = at P xs i d h.1 (omega arith)

  no_repeat-from : (before xs : List A) (d : A) → first_repeat alike before xs ≡ None → (i j : ℕ) → i < j → j < length xs
      → alike (get_or xs i d) (get_or xs j d) ≡ false
  no_repeat-from before [] d h i j less within = absurd (omega arith)
  no_repeat-from before (y ∷ ys) d h i zero less within = absurd (omega arith)
  no_repeat-from before (y ∷ ys) d h zero (suc j) less within =
      let (none, rest) = or_none (option_map (repeat_of y (length before + 1)) (find (λ x. alike x.1 y) (enumerate_from 1 before)))
      (first_repeat alike (before ++ y ∷ []) ys) h in
      last before y (λ x. alike x (get_or ys j d) ≡ false) (unlike (before ++ y ∷ []) ys d rest j (omega arith))
    where
      last : (xs : List A) (y : A) (P : A → Type 0) → AllByRecursion P (xs ++ y ∷ []) → P y
      last [] y P h = h.0
      last (x ∷ xs) y P h = last xs y P h.1
  no_repeat-from before (y ∷ ys) d h (suc i) (suc j) less within =
      let (none, rest) = or_none (option_map (repeat_of y (length before + 1)) (find (λ x. alike x.1 y) (enumerate_from 1 before)))
      (first_repeat alike (before ++ y ∷ []) ys) h in
      no_repeat-from (before ++ y ∷ []) ys d rest i j (omega arith) (omega arith)

  -- no two of a list without a repeat are alike
  pub no_repeat : (xs : List A) (d : A) → first_repeat alike [] xs ≡ None → (i j : ℕ) → i < j → j < length xs → alike (get_or xs i d) (get_or xs j d) ≡ false
  no_repeat xs d h = no_repeat-from [] xs d h

-- Members at the start

pub enough_initial : (extended : Bool) (list : ℕ) (nodes : List Node) → extended ≡ false → too_few_initial extended list nodes ≡ None
    → list + 1 ≤ count_by (λ n. n.initial) nodes
unfolding too_few_initial
enough_initial true list nodes is h = absurd (false≢true (sym is))
enough_initial false list nodes is h =
    elim (cases_Bool (nat_lt (count_by (λ n. n.initial) nodes) (list + 1))) [
      | inl few ↦ absurd (cc (rw few at h))
      | inr enough ↦ grind (arith, nat_tests)
    ]

-- Nodes that churn

-- the nodes of a table that is none of nodes that churn do not churn
calm_at : (bits : ℕ) (p : Place) (ms : Members) → is_churn_section (record { at = p; members = ms }) ≡ false
    → AllByRecursion (λ (n : Node). n.churn ≡ false) (nodes_at bits p ms)
unfolding node_of numbered_node
calm_at bits place.Top ms h = tt
calm_at bits place.Churn ms h = tt
calm_at bits place.Lookups ms h = tt
calm_at bits (place.Node n) ms h = (h, tt)
calm_at bits (place.Nodes n) ms h =
    each-mapped (λ (n : Node). n.churn ≡ false) (numbered_node bits (name_at key.Prefix ms) (flags_at ms)) (range_with_len 0 (number_at key.Count ms)) (λ number. h)
calm_at bits (place.Command n) ms h = tt
calm_at bits (place.Row n) ms h = tt

calm_each : (ss : List Section) → list_any is_churn_section ss ≡ false → AllByRecursion (λ s. is_churn_section s ≡ false) ss
calm_each [] h = tt
calm_each (s ∷ ss) h =
    elim (cases_Bool (is_churn_section s)) [
      | inl here ↦ absurd (false≢true (sym (rw here at h)))
      | inr other ↦ (other, calm_each ss (rw other at h))
    ]

pub a_node_churns : (sc : Setup) (bits : ℕ) (ss : List Section) (i : ℕ) → sc.nodes ≡ nodes_of bits ss → is_churn_node sc i ≡ true
    → list_any is_churn_section ss ≡ true
unfolding nodes_of is_churn_node
a_node_churns sc bits ss i nodes h =
    elim (cases_Bool (list_any is_churn_section ss)) [
      | inl some ↦ some
      | inr none ↦
          let Calm = λ (n : Node). n.churn ≡ false in
          let calm = each-made Calm (λ s. is_churn_section s ≡ false) (λ s. nodes_at bits s.at s.members) ss
          (λ s one. calm_at bits s.at s.members one) (calm_each ss none) in
          absurd (by_case (slice_get sc.nodes i) refl h (subst (AllByRecursion Calm) (sym nodes) calm))
    ]
  where
    by_case : (o : Option Node) → slice_get sc.nodes i ≡ o → unwrap_or (option_map (λ n. n.churn) o) false ≡ true
        → AllByRecursion (λ (n : Node). n.churn ≡ false) sc.nodes → ⊥
    by_case None e g calm = false≢true g
    by_case (Some n) e g calm = false≢true (sym (at_index (λ (n : Node). n.churn ≡ false) sc.nodes i n calm e) ∙ g)

-- Commands

circle_fits : (bits : ℕ) (o : Option ℕ) → unwrap_or (option_and_then (on_circle bits) o) 0 < 2 ^ bits
circle_fits bits None = pow_pos bits
circle_fits bits (Some n) =
    elim (cases_Bool (nat_lt n (2 ^ bits))) [
      | inl fits ↦ rw fits (ltb-true n (2 ^ bits) fits)
      | inr not_fits ↦ rw not_fits (pow_pos bits)
    ]

module _ (sc : Setup) (some : 0 < node_count sc) where
  node_at-below : (k : FileKey) (ms : Members) → node_at k sc.nodes ms < node_count sc
  node_at-below k ms = by_case (index_of (name_at k ms) sc.nodes) refl
    where
      by_case : (o : Option ℕ) → index_of (name_at k ms) sc.nodes ≡ o → unwrap_or o 0 < node_count sc
      by_case None e = some
      by_case (Some i) e = index_of-below sc.nodes i (name_at k ms) e

  action_fits : (ms : Members) → IsActionOf sc (action_of sc.bits sc.nodes ms)
  action_fits ms = by_operation (operation_at ms)
    where
      by_operation : (o : Option Operation) → IsActionOf sc (action_by sc.bits sc.nodes ms o)
      by_operation (Some operation.Join) = node_at-below key.Via ms
      by_operation (Some operation.Crash) = tt
      by_operation (Some operation.Leave) = tt
      by_operation (Some operation.Lookup) = circle_fits sc.bits (option_and_then identifier_of (data_at key.Key ms))
      by_operation None = circle_fits sc.bits (option_and_then identifier_of (data_at key.Key ms))

  commands_fit-each : (ss : List Section) → find (λ s. is_command s.at && nat_le sc.duration (number_at key.AtUs s.members)) ss ≡ None
      → AllByRecursion (IsCommandOf sc) (map (λ s. command_of sc.bits sc.nodes s.members) (filter (λ s. is_command s.at) ss))
  unfolding command_of
  commands_fit-each [] h = tt
  commands_fit-each (s ∷ ss) h =
      elim (cases_Bool (is_command s.at)) [
        | inl here ↦
            elim (cases_Bool (nat_le sc.duration (number_at key.AtUs s.members))) [
              | inl late ↦ absurd (cc (rw (here, late) at h))
              | inr in_time ↦
                  rw here (
                    record { in_time = grind (arith, nat_tests); node = node_at-below key.Node s.members; action = action_fits s.members },
                    commands_fit-each ss (rw (here, in_time) at h),
                  )
            ]
        | inr other ↦ rw other (commands_fit-each ss (rw other at h))
      ]

  pub commands_fit : (ss : List Section) → time_after_end sc.duration ss ≡ None → AllByRecursion (IsCommandOf sc) (commands_of sc.bits sc.nodes ss)
  unfolding commands_of time_after_end
  commands_fit ss h = commands_fit-each ss (mapped_none (λ (s : Section). TimeAfterEnd s.at)
      (find (λ s. is_command s.at && nat_le sc.duration (number_at key.AtUs s.members)) ss) h)
