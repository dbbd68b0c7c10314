-- The fingers that the first successor covers become that successor, and no others do.
use Rattle.std.proofs.Common.{◌≡◌, ℕ, ◌+◌, ◌-◌, ◌<◌, ◌≤◌, zero, suc, Bool, true, false, List, [], ◌∷◌, ◌++◌, drop, length, replicate, Option, Some, nat_lt, refl, sym, ap, ◌∙◌, subst, arith}
use Rattle.std.proofs.lemmas.Bool.Decides.{nat_tests}
use Rattle.std.specs.Prelude.{IfSome, slice_get, if◌then◌else◌}
use Rattle.chord_circle.specs.Circle.{finger_start, in_half_open}
use Rattle.chord_scenario.specs.declared.scenario.Scenario.{Scenario}
use Rattle.chord_scenario.specs.Range.{IsInRange}
use Rattle.chord_scenario.specs.World.{ident_of, node_count}
use Rattle.chord_node.proofs.NearFingers.{near_skipped}
use Rattle.chord_node.proofs.RotationStart.{IsStart, start_within}
use Rattle.chord_node.specs.declared.state.Attempt.{Attempt}
use Rattle.chord_node.specs.declared.state.Status.{Status}
use Rattle.chord_node.specs.declared.state.Status.TheVariants as status
use Rattle.chord_node.specs.Invariant.{FitsStatus, IsNodeState}
use Rattle.chord_node.specs.Rotation.{rotation_start}
use Rattle.chord_ops.specs.declared.turn.Turn.{Turn}
use Rattle.chord_ops.specs.Rules.{first_in_turn, head, near_covered}
use Rattle.chord_ops.specs.Turns.{when_some}
use Rattle.chord_ops.proofs.KeptRules.{first_known}

-- a list whose first elements become one node
filled_at : (n i x : ℕ) (xs : List ℕ) → n ≤ length xs → slice_get (replicate n x ++ drop n xs) i ≡ (if nat_lt i n then Some x else slice_get xs i)
filled_at zero i x xs within = by (nat_lt i zero) (grind (arith, nat_tests))
  where
    by : (b : Bool) → b ≡ false → slice_get xs i ≡ (if b then Some x else slice_get xs i)
    by true is = absurd (cc)
    by false is = refl
filled_at (suc n) i x [] within = absurd (omega (arith, within))
filled_at (suc n) zero x (y ∷ ys) within =
    let first : nat_lt zero (suc n) ≡ true = grind (arith, nat_tests) in
    rw first refl
filled_at (suc n) (suc i) x (y ∷ ys) within =
    let same : nat_lt (suc i) (suc n) ≡ nat_lt i n = grind (arith, nat_tests) in
    filled_at n i x ys (omega (arith, within)) ∙ sym (ap (λ (b : Bool). if b then Some x else slice_get ys i) same)

-- a member has all its fingers but the first
all_fingers : (sc : Scenario) (s : Status) (via : Option ℕ) (succ fingers : List ℕ) (join : Option Attempt) → s ≡ status.Member
    → FitsStatus sc s via succ fingers join → length fingers + 1 ≡ sc.bits
all_fingers sc status.Down via succ fingers join is h = absurd (cc)
all_fingers sc status.Joining via succ fingers join is h = absurd (cc)
all_fingers sc status.Member via succ fingers join is h = h.has_fingers

-- two places back both places stay in order
two_back : (i n : ℕ) → 2 ≤ i → 2 ≤ n → nat_lt (i - 2) (n - 2) ≡ nat_lt i n
two_back i n one other = grind (arith, nat_tests)

pub covered : (sc : Scenario) (turn : Turn) (first i : ℕ) → IsInRange sc → sc.rules.skip_near ≡ true → IsNodeState sc turn.state
    → turn.state.status ≡ status.Member → slice_get turn.state.succ 0 ≡ Some first → 2 ≤ i → i ≤ sc.bits
    → slice_get (near_covered (first_in_turn sc turn.state) turn).state.fingers (i - 2)
    ≡ (if in_half_open sc.bits (ident_of sc turn.state.me) (finger_start sc.bits (ident_of sc turn.state.me) i) (ident_of sc first)
    then Some first
    else slice_get turn.state.fingers (i - 2))
unfolding near_covered
covered sc turn first i ranges skips h member at least most =
    let s = turn.state in
    let start : ℕ = first_in_turn sc s in
    let is : IsStart sc.bits start = start_within sc s.me (head s) ranges in
    let many : length s.fingers + 1 ≡ sc.bits = all_fingers sc s.status s.via s.succ s.fingers s.join member h.status in
    let known : first < node_count sc = subst (λ (o : Option ℕ). IfSome o (λ node. node < node_count sc)) at (first_known sc s.succ h.neighbours.succ_known) in
    ap (λ (o : Option ℕ). slice_get (when_some o (λ node. λ t. record t { state = record t.state { fingers = replicate (start - 2) node ++ drop (start - 2) t.state.fingers } }) turn).state.fingers (i - 2)) at
    ∙ filled_at (start - 2) (i - 2) first s.fingers (omega (arith, is.greatest, many))
    ∙ ap (λ (b : Bool). if b then Some first else slice_get s.fingers (i - 2))
    (two_back i start least is.least ∙ ap (λ (o : Option ℕ). nat_lt i (rotation_start sc s.me o)) at
    ∙ sym (near_skipped sc s.me first i ranges skips h.me known least most))
