-- A node that has left is gone from what a member knows, and its neighbours take its place.
use Rattle.std.proofs.Common.{◌≡◌, ◌≢◌, ◌==◌, ◌||◌, ◌∙◌, ℕ, ◌≤◌, zero, suc, Bool, true, false, not, List, [], ◌∷◌, Option, Some, None, ap, arith, cond, eq-eqb, refl, subst, sym, take}
use Rattle.std.proofs.lemmas.Bool.{false≢true, ne_eqb}
use Rattle.std.proofs.lemmas.Option.{same_Some}
use Rattle.std.specs.Prelude.{slice_get, if◌then◌else◌}
use Rattle.chord_scenario.specs.declared.scenario.Scenario.{Scenario}
use Rattle.chord_scenario.specs.Range.{IsInRange}
use Rattle.chord_node.specs.declared.state.Purpose.TheVariants as purpose
use Rattle.chord_node.specs.Ring.{or_itself}
use Rattle.chord_ops.specs.declared.turn.Turn.{Turn}
use Rattle.chord_ops.specs.Gone.{IsGone}
use Rattle.chord_ops.specs.Procedures.{created, holds, join_begun, other_via, own_step, stranded}
use Rattle.chord_ops.specs.Rules.{dropped, dropped_by, followed_by, inherited, list_after, list_left, mended, others_left, taken_over, with_heirs}
use Rattle.chord_ops.proofs.Going.{gone}
use Rattle.chord_ops.proofs.Ongoing.{going_if, going_when, same_node}
use Rattle.chord_ops.proofs.Sending.{called_as}

pub leaver_gone : (sc : Scenario) (turn : Turn) (leaver first : ℕ) (prdc : Option ℕ) (list : List ℕ)
    → slice_get (list_after sc leaver (with_heirs sc leaver prdc list turn).state) 0 ≡ Some first
    → IsGone leaver (taken_over sc leaver prdc list turn).state
leaver_gone sc turn leaver first prdc list at = gone sc (with_heirs sc leaver prdc list turn) leaver first at

-- who holds a node is told so
held : (o : Option ℕ) (n : ℕ) → holds o n ≡ false → o ≢ Some n
held None n other is = absurd cc
held (Some m) n other is = absurd (false≢true (sym other ∙ eq-eqb m n (same_Some m n is)))

no_heir_of_itself : (leaver : ℕ) (prdc own : Option ℕ) → inherited leaver prdc own ≢ Some leaver
no_heir_of_itself leaver prdc own = by (holds own leaver) (holds prdc leaver) refl refl
  where
    by : (b c : Bool) → holds own leaver ≡ b → holds prdc leaver ≡ c → (if b then (if c then None else prdc) else own) ≢ Some leaver
    by true true mine theirs is = absurd cc
    by true false mine theirs is = held prdc leaver theirs is
    by false c mine theirs is = held own leaver mine is

-- The predecessor after the drop

abbrev Lacks : ℕ → Turn → Type 0
Lacks leaver turn = turn.state.prdc ≢ Some leaver

lacks_begun : (sc : Scenario) (leaver via : ℕ) (turn : Turn) → turn.state.prdc ≡ None → Lacks leaver (join_begun sc [] via turn)
unfolding join_begun created
lacks_begun sc leaver via turn none =
    going_if (Lacks leaver) (via == turn.state.me) _ _
    (λ own is. let both : ◌≡◌ {A = Option ℕ} None (Some leaver) = sym none ∙ is in absurd (cc))
    (λ other. called_as (Lacks leaver) sc via (own_step sc [] turn.state) purpose.JoinStep turn
    (λ delay place late near is. let both : ◌≡◌ {A = Option ℕ} None (Some leaver) = sym none ∙ is in absurd (cc))
    (λ place near is. let both : ◌≡◌ {A = Option ℕ} None (Some leaver) = sym none ∙ is in absurd (cc)))

lacks_stranded : (sc : Scenario) (leaver via : ℕ) (turn : Turn) → Lacks leaver (stranded sc via turn)
unfolding stranded
lacks_stranded sc leaver via turn = lacks_begun sc leaver (other_via sc turn.state.me via) _ refl

lacks_dropped_by : (sc : Scenario) (leaver : ℕ) (o : Option ℕ) (turn : Turn) → Lacks leaver turn → Lacks leaver (dropped_by sc leaver (λ t. t) o turn)
lacks_dropped_by sc leaver None turn h =
    going_when (Lacks leaver) turn.state.via (stranded sc) turn h (λ via found. lacks_stranded sc leaver via turn)
lacks_dropped_by sc leaver (Some head) turn h = h

pub leaver_precedes_none : (sc : Scenario) (turn : Turn) (leaver : ℕ) (prdc : Option ℕ) (list : List ℕ) → Lacks leaver (taken_over sc leaver prdc list turn)
unfolding dropped list_left
leaver_precedes_none sc turn leaver prdc list =
    let after : Turn = with_heirs sc leaver prdc list turn in
    lacks_dropped_by sc leaver (slice_get (list_after sc leaver after.state) 0) (list_left sc leaver after) (no_heir_of_itself leaver prdc turn.state.prdc)

-- Heirs

pub predecessor_inherited : (leaver prdc : ℕ) (own : Option ℕ) → own ≡ Some leaver → prdc ≢ leaver → inherited leaver (Some prdc) own ≡ Some prdc
predecessor_inherited leaver prdc own is other =
    subst (λ (o : Option ℕ). inherited leaver (Some prdc) o ≡ Some prdc) (sym is)
    (ap (λ (b : Bool). if b then (if prdc == leaver then None else Some prdc) else Some leaver) (same_node leaver)
    ∙ ap (λ (b : Bool). if b then None else Some prdc) (ne_eqb prdc leaver other))

pub not_inherited : (leaver : ℕ) (prdc own : Option ℕ) → holds own leaver ≡ false → inherited leaver prdc own ≡ own
not_inherited leaver prdc own other = ap (λ (b : Bool). if b then (if holds prdc leaver then None else prdc) else own) other

not_held : (o : Option ℕ) (n : ℕ) → o ≢ Some n → holds o n ≡ false
not_held None n other = refl
not_held (Some m) n other = ne_eqb m n (λ same. other (ap (λ (x : ℕ). Some x) same))

pub predecessor_kept : (leaver : ℕ) (prdc own : Option ℕ) → own ≢ Some leaver → inherited leaver prdc own ≡ own
predecessor_kept leaver prdc own other = not_inherited leaver prdc own (not_held own leaver other)

heir_first : (leaver first most : ℕ) (others : List ℕ) → 1 ≤ most → slice_get others 0 ≡ Some first
    → slice_get (or_itself leaver (take most (followed_by [] others))) 0 ≡ Some first
heir_first leaver first zero others some at = absurd (omega (arith, some))
heir_first leaver first (suc n) [] some at = absurd (cc)
heir_first leaver first (suc n) (x ∷ xs) some at = at

pub successor_inherited : (sc : Scenario) (leaver first : ℕ) (list succ : List ℕ) → IsInRange sc → succ ≡ leaver ∷ []
    → slice_get (others_left leaver list) 0 ≡ Some first → slice_get (mended sc leaver list succ) 0 ≡ Some first
successor_inherited sc leaver first list succ ranges is at =
    subst (λ (xs : List ℕ). slice_get (mended sc leaver list xs) 0 ≡ Some first) (sym is) (by (leaver == leaver) (same_node leaver))
  where
    by : (b : Bool) → b ≡ true
        → slice_get (if b || false then or_itself leaver (take sc.list (followed_by (cond (not b) (leaver ∷ []) []) (others_left leaver list))) else leaver ∷ []) 0
        ≡ Some first
    by true same = heir_first leaver first sc.list (others_left leaver list) ranges.numbers.list_least at
    by false same = absurd (cc)
