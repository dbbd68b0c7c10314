-- Each user's lookup is accounted for along a history, and in the report of a run.
use Rattle.std.proofs.Common.{◌≡◌, ◌≢◌, ◌⊎◌, inl, inr, ℕ, zero, suc, ◌+◌, ◌<◌, Bool, true, false, cond, List, [], ◌∷◌, ◌++◌, map, refl, sym, ◌∙◌, ap, subst, arith, eq-eqb}
use Rattle.std.proofs.lemmas.Bool.{cases_eq, cond-true, cond-false, ne_eqb}
use Rattle.std.proofs.lemmas.List.Concat.{flat_map-append}
use Rattle.std.proofs.lemmas.List.Sums.{sum_by-append, sum_by-cons}
use Rattle.std.specs.List.{count_by, filter}
use Rattle.std.specs.Prelude.{is_none, nat_le, if◌then◌else◌}
use Rattle.chord_event.specs.declared.body.Body.{Body}
use Rattle.des_event.specs.declared.event.Event.{Event}
use Rattle.chord_event.specs.declared.line.Line.{Line}
use Rattle.chord_event.specs.declared.line.Line.TheVariants as line
use Rattle.des_model.specs.Histories.{IsPossible, audit_at, full_history, next, open_audits, output, state, trace}
use Rattle.des_model.proofs.Distinct.{fit_event, sound_state, state_here, state_other}
use Rattle.des_model.proofs.Pending.{waits_from}
use Rattle.des_model.proofs.Runs.{history_is_legal, possible_from_legal}
use Rattle.chord_node.specs.declared.state.NodeState.{NodeState}
use Rattle.chord_node.specs.Ring.{first_member, initial_state, never_up}
use Rattle.chord_ops.specs.Accounts.{IsAccountedFor, begun, cut_off, found, in_progress, lost, tells_begun, tells_found, tells_lost}
use Rattle.chord_ops.specs.Rules.{effect}
use Rattle.chord_ops.specs.Sound.{IsSoundEvent}
use Rattle.chord_ops.proofs.Accounts.{accounted_for}
use Rattle.chord_scenario.specs.declared.scenario.Scenario.{Scenario}
use Rattle.chord_scenario.specs.Range.{IsInRange}
use Rattle.chord_scenario.specs.World.{is_initial, node_count}
use Rattle.chord_trace.specs.Kinds.{is_found, is_lookup, is_lost}
use Rattle.chord_trace.specs.Pieces.{lines_in, lines_of}
use Rattle.chord_trace.specs.declared.piece.Piece.{Piece}
use Rattle.chord_trace.specs.declared.report.Report.{Report}
use Rattle.chord_laws.specs.Accounts.{LookupsAreAccountedFor, ReportsAddUp, UnfinishedAreUnended, cut_off_along, lines_along, over_nodes, unended}
use Rattle.chord_machine.specs.Chord.{chord}
use Rattle.chord_machine.specs.Run.{whole_trace}
use Rattle.chord_machine.specs.Sound.{IsStateOf}
use Rattle.chord_machine.proofs.WellFormed.{well_formed}

-- Counts

counted_append : {X : Type 0} (p : X → Bool) (xs ys : List X) → count_by p (xs ++ ys) ≡ count_by p xs + count_by p ys
counted_append {X} p xs ys = sum_by-append (λ (x : X). cond (p x) 1 0) xs ys

-- by the same test the same are counted
counted_same : {X : Type 0} (p q : X → Bool) (xs : List X) → ((x : X) → p x ≡ q x) → count_by p xs ≡ count_by q xs
counted_same p q [] same = refl
counted_same {X} p q (x ∷ xs) same =
    omega (
      arith,
      counted_same p q xs same,
      sum_by-cons (λ (y : X). cond (p y) 1 0) x xs,
      sum_by-cons (λ (y : X). cond (q y) 1 0) x xs,
      ap {B = ℕ} (λ (b : Bool). cond b 1 0) (same x),
    )

tells_lookup : (text : Line) → tells_begun text ≡ is_lookup text
tells_lookup (line.Lookup key) = refl
tells_lookup _ = refl

tells_end : (text : Line) → tells_found text ≡ is_found text
tells_end (line.Found key owner hops timeouts us) = refl
tells_end _ = refl

tells_loss : (text : Line) → tells_lost text ≡ is_lost text
tells_loss (line.Lost key hops timeouts us) = refl
tells_loss _ = refl

same_total : (k : ℕ) (f g : ℕ → ℕ) → ((n : ℕ) → n < k → f n ≡ g n) → over_nodes k f ≡ over_nodes k g
same_total zero f g same = refl
same_total (suc k) f g same = omega (arith, same_total k f g (λ n low. same n (omega (arith, low))), same k (omega arith))

-- a change at one node changes the sum by as much
changed_total : (k t : ℕ) (f g : ℕ → ℕ) → t < k → ((n : ℕ) → t ≢ n → f n ≡ g n) → over_nodes k f + g t ≡ over_nodes k g + f t
changed_total zero t f g within same = absurd (omega (arith, within))
changed_total (suc k) t f g within same = by (cases_eq t k) (λ below. changed_total k t f g below same)
  where
    by : (t ≡ k) ⊎ (t ≡ k → ⊥) → (t < k → over_nodes k f + g t ≡ over_nodes k g + f t) → over_nodes k f + f k + g t ≡ over_nodes k g + g k + f t
    by (inl last) ih =
        let others : over_nodes k f ≡ over_nodes k g = same_total k f g (λ n low. same n (λ is. omega (arith, low, is, last))) in
        omega (arith, others, ap f last, ap g last)
    by (inr other) ih = omega (arith, ih (omega (arith, within, other)), same k other)

-- Nodes

starts_idle : (sc : Scenario) (n : ℕ) → in_progress (initial_state sc n) ≡ 0
unfolding initial_state first_member
starts_idle sc n = by (is_initial sc n)
  where
    by : (b : Bool) → in_progress (if b then first_member sc n else never_up n) ≡ 0
    by true = refl
    by false = refl

module _ (sc : Scenario) (ranges : IsInRange sc) (h : List (Event Body)) (e : Event Body) (possible : IsPossible (chord sc) (e ∷ h)) where
  target_known : IsSoundEvent sc e
  target_known = fit_event (chord sc) (well_formed sc ranges) h possible.0 e (waits_from (chord sc) h e possible.1).known

  target_is : IsStateOf sc e.target (state (chord sc) h e.target)
  target_is = sound_state (chord sc) (well_formed sc ranges) h possible.0 e (waits_from (chord sc) h e possible.1).known

  accounted_here : IsAccountedFor (state (chord sc) h e.target) (effect sc (state (chord sc) h e.target) e)
  accounted_here = accounted_for sc (state (chord sc) h e.target) e target_is.invariant

-- a node's lookups after a history
abbrev Accounted : Scenario → List (Event Body) → ℕ → NodeState → Type 0
Accounted sc h n s =
    begun (lines_along sc h n) ≡ found (lines_along sc h n) + lost (lines_along sc h n) + in_progress s + cut_off_along sc h n

pub lookups_are_accounted_for : (sc : Scenario) → IsInRange sc → LookupsAreAccountedFor sc
lookups_are_accounted_for sc ranges [] p n inside = omega (arith, starts_idle sc n)
lookups_are_accounted_for sc ranges (e ∷ h) p n inside = by (cases_eq e.target n) (lookups_are_accounted_for sc ranges h p.0 n inside)
  where
    by : (e.target ≡ n) ⊎ (e.target ≡ n → ⊥) → Accounted sc h n (state (chord sc) h n) → Accounted sc (e ∷ h) n (state (chord sc) (e ∷ h) n)
    by (inl same) ih =
        let s : NodeState = state (chord sc) h n in
        let now : IsAccountedFor s (effect sc s e) =
        subst (λ (m : ℕ). IsAccountedFor (state (chord sc) h m) (effect sc (state (chord sc) h m) e)) same (accounted_here sc ranges h e p) in
        let old : List Line = lines_along sc h n in
        let new : List Line = (effect sc s e).lines in
        let lines : lines_along sc (e ∷ h) n ≡ old ++ new = cond-true _ _ _ (eq-eqb e.target n same) in
        let cut : cut_off_along sc (e ∷ h) n ≡ cut_off_along sc h n + cut_off s (effect sc s e).state = cond-true _ _ _ (eq-eqb e.target n same) in
        omega (
          arith,
          ih,
          now,
          cut,
          ap in_progress (state_here (chord sc) e h n same),
          ap begun lines,
          ap found lines,
          ap lost lines,
          counted_append tells_begun old new,
          counted_append tells_found old new,
          counted_append tells_lost old new,
        )
    by (inr apart) ih =
        let lines : lines_along sc (e ∷ h) n ≡ lines_along sc h n = cond-false _ _ _ (ne_eqb e.target n apart) in
        let cut : cut_off_along sc (e ∷ h) n ≡ cut_off_along sc h n = cond-false _ _ _ (ne_eqb e.target n apart) in
        omega (
          arith,
          ih,
          cut,
          ap in_progress (state_other (chord sc) e h n apart),
          ap begun lines,
          ap found lines,
          ap lost lines,
        )

-- The trace

-- audits have no lines
no_lines : (sc : Scenario) (h : List (Event Body)) (times : List ℕ) → lines_of (map (audit_at (chord sc) h) times) ≡ []
no_lines sc h [] = refl
no_lines sc h (t ∷ times) = no_lines sc h times

-- the lines of the pieces of one event more
pub lines_more : (sc : Scenario) (h : List (Event Body)) (e : Event Body)
    → lines_of (output (chord sc) (e ∷ h)) ≡ lines_of (output (chord sc) h) ++ ((effect sc (state (chord sc) h e.target) e).lines ++ [])
lines_more sc h e =
    let times : List ℕ = filter (λ t. nat_le t e.key.time) (open_audits (chord sc) h) in
    let audits : List Piece = map (audit_at (chord sc) h) times in
    let last : List Piece = ((chord sc).effect (state (chord sc) h e.target) e).piece ∷ [] in
    flat_map-append lines_in (output (chord sc) h) (audits ++ last)
    ∙ ap (λ ls. lines_of (output (chord sc) h) ++ ls) (flat_map-append lines_in audits last ∙ ap (λ ls. ls ++ lines_of last) (no_lines sc h times))

-- each lookup that has begun has ended, or has not
begun_by_ends : (sc : Scenario) → IsInRange sc → (h : List (Event Body)) → IsPossible (chord sc) h
    → begun (lines_of (output (chord sc) h)) ≡ found (lines_of (output (chord sc) h)) + lost (lines_of (output (chord sc) h)) + unended sc h
begun_by_ends sc ranges [] p =
    omega (
      arith,
      same_total (node_count sc) (λ n. in_progress (initial_state sc n) + 0) (λ n. 0) (λ n low. omega (arith, starts_idle sc n)),
      none (node_count sc),
    )
  where
    none : (k : ℕ) → over_nodes k (λ n. 0) ≡ 0
    none zero = refl
    none (suc k) = omega (arith, none k)
begun_by_ends sc ranges (e ∷ h) p =
    let s : NodeState = state (chord sc) h e.target in
    let old : List Line = lines_of (output (chord sc) h) in
    let new : List Line = (effect sc s e).lines in
    let lines = lines_more sc h e in
    let cut : cut_off_along sc (e ∷ h) e.target ≡ cut_off_along sc h e.target + cut_off s (effect sc s e).state =
    cond-true _ _ _ (eq-eqb e.target e.target refl) in
    let moved = changed_total (node_count sc) e.target (λ n. in_progress (state (chord sc) h n) + cut_off_along sc h n)
    (λ n. in_progress (state (chord sc) (e ∷ h) n) + cut_off_along sc (e ∷ h) n) (target_known sc ranges h e p).target (kept_apart sc h e) in
    omega (
      arith,
      begun_by_ends sc ranges h p.0,
      moved,
      cut,
      ap in_progress (state_here (chord sc) e h e.target refl),
      accounted_here sc ranges h e p,
      ap begun lines,
      ap found lines,
      ap lost lines,
      counted_append tells_begun old (new ++ []),
      counted_append tells_found old (new ++ []),
      counted_append tells_lost old (new ++ []),
      counted_append tells_begun new [],
      counted_append tells_found new [],
      counted_append tells_lost new [],
    )
  where
    kept_apart : (sc : Scenario) (h : List (Event Body)) (e : Event Body) (n : ℕ) → e.target ≢ n
        → in_progress (state (chord sc) h n) + cut_off_along sc h n ≡ in_progress (state (chord sc) (e ∷ h) n) + cut_off_along sc (e ∷ h) n
    kept_apart sc h e n apart =
        let cut : cut_off_along sc (e ∷ h) n ≡ cut_off_along sc h n = cond-false _ _ _ (ne_eqb e.target n apart) in
        omega (arith, cut, ap in_progress (state_other (chord sc) e h n apart))

-- the audits at the end add no line
pub lines_whole : (sc : Scenario) (h : List (Event Body)) → lines_of (trace (chord sc) h) ≡ lines_of (output (chord sc) h) ++ []
lines_whole sc h =
    flat_map-append lines_in (output (chord sc) h) _ ∙ ap (λ ls. lines_of (output (chord sc) h) ++ ls) (by (is_none (next (chord sc) h)))
  where
    by : (b : Bool) → lines_of (if b then map (audit_at (chord sc) h) (open_audits (chord sc) h) else []) ≡ []
    by true = no_lines sc h (open_audits (chord sc) h)
    by false = refl

counted_lookups : (sc : Scenario) → IsInRange sc → count_by is_lookup (lines_of (whole_trace sc))
    ≡ count_by is_found (lines_of (whole_trace sc)) + count_by is_lost (lines_of (whole_trace sc)) + unended sc (full_history (chord sc))
counted_lookups sc ranges =
    let h : List (Event Body) = full_history (chord sc) in
    let all : List Line = lines_of (output (chord sc) h) in
    let whole : List Line = lines_of (whole_trace sc) in
    let lines : whole ≡ all ++ [] = lines_whole sc h in
    omega (
      arith,
      begun_by_ends sc ranges h (possible_from_legal (chord sc) h (history_is_legal (chord sc) sc.max_events)),
      ap begun lines,
      ap found lines,
      ap lost lines,
      counted_append tells_begun all [],
      counted_append tells_found all [],
      counted_append tells_lost all [],
      counted_same tells_begun is_lookup whole tells_lookup,
      counted_same tells_found is_found whole tells_end,
      counted_same tells_lost is_lost whole tells_loss,
    )

pub reports_add_up : (sc : Scenario) → IsInRange sc → ReportsAddUp sc
reports_add_up sc ranges report is =
    subst (λ (r : Report). r.lines.found + r.lines.lost + r.unfinished ≡ r.lines.lookups) (sym is.numbers)
    (omega (arith, counted_lookups sc ranges))

pub unfinished_are_unended : (sc : Scenario) → IsInRange sc → UnfinishedAreUnended sc
unfinished_are_unended sc ranges report is =
    subst (λ (r : Report). r.unfinished ≡ unended sc (full_history (chord sc))) (sym is.numbers) (omega (arith, counted_lookups sc ranges))
