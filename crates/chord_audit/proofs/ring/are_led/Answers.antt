use Rattle.std.proofs.Common.{◌≡◌, ◌≢◌, ◌∙◌, ◌<◌, ◌≤◌, ◌+◌, ◌⊎◌, Bool, List, ℕ, arith, false, inl, inr, length, refl, subst, sym, true, true≢false}
use Rattle.std.specs.Prelude.{◌==◌}
use Rattle.std.proofs.lemmas.Bool.{cases_lt}
use Rattle.std.proofs.lemmas.Bool.Decides.{nat_tests}
use Rattle.std.proofs.lemmas.List.{get_or_default, get_or_past}
use Rattle.chord_audit.specs.Tables.{is_marked}
use Rattle.chord_audit.proofs.ring.are_led.Goals as goal
use Rattle.chord_audit.proofs.ring.are_led.Goals.{else-marks-node-via-then-marks-node+else-not-index, else-marks-node-via-else-marks-node}

-- one node more that is led if it is marked
one_more : (marks led : List Bool) (k : ℕ) → ((n : ℕ) → n < k → is_marked marks n ≡ true → is_marked led n ≡ true)
    → (is_marked marks k ≡ true → is_marked led k ≡ true) → (n : ℕ) → n < k + 1 → is_marked marks n ≡ true → is_marked led n ≡ true
one_more marks led k before last n lt = go (n == k) refl
  where
    go : (b : Bool) → (n == k) ≡ b → is_marked marks n ≡ true → is_marked led n ≡ true
    go true e =
        let same : k ≡ n = grind (arith, nat_tests) in
        subst (λ m. is_marked marks m ≡ true → is_marked led m ≡ true) same last
    go false e = let other : n ≢ k = grind (arith, nat_tests) in before n (omega (arith, lt, other))

-- a node that a table marks is within it
is_within : (marks : List Bool) (n : ℕ) → is_marked marks n ≡ true → n < length marks
is_within marks n marked = go (cases_lt n (length marks))
  where
    go : (n < length marks) ⊎ (length marks ≤ n) → n < length marks
    go (inl lt) = lt
    go (inr past) = absurd (true≢false (sym marked ∙ get_or_past marks n false past))

pub loop-node-preserved : goal.loop-node-preserved
loop-node-preserved c =
    one_more c.args.marks.now c.in_ok-led.led.items c.loop-node.node c.loop-node.invariant
    (elim c.else-marks-node.branch [
      | else-marks-node-via-then-marks-node+else-not-index w ↦ λ h.
          get_or_default c.in_ok-led.led.items c.loop-node.node false w.index.result.now
          (omega (arith, c.loop-node-test.true, c.in_ok-led.ensures.length, c.requires.marks)) ∙ sym w.index.ensures ∙ w.if-not-index.false
      | else-marks-node-via-else-marks-node w ↦ λ h. absurd (true≢false (sym h ∙ w.if-marks-node.false))
    ])

pub returns : goal.returns
returns c = (
  λ e n marked. (c.in_ok-led.ensures.led n).0
      (c.loop-node.invariant n (omega (arith, is_within c.args.marks.now n marked, c.loop-node-test.false)) marked),
  λ led. refl,
)

pub returns-then-not-index : goal.returns-then-not-index
returns-then-not-index c = (
  λ e. absurd (true≢false (sym e)),
  λ led. sym c.if-not-index.true ∙ c.index.ensures
      ∙ get_or_default c.in_ok-led.led.items c.loop-node.node c.index.result.now false
      (omega (arith, c.loop-node-test.true, c.in_ok-led.ensures.length, c.requires.marks))
      ∙ (c.in_ok-led.ensures.led c.loop-node.node).1 (led c.loop-node.node c.if-marks-node.true),
)
