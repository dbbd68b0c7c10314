use Rattle.std.proofs.Common.{◌≡◌, ◌∙◌, ◌-◌, ◌+◌, ◌<◌, ◌≤◌, ◌++◌, ◌∷◌, [], ℕ, Bool, List, cond, nat_lt, ◌&&◌, length, get_or, take, refl, sym, ap, subst, arith}
use Rattle.std.proofs.lemmas.List.{take_all, take_more}
use Rattle.chord_judge.proofs.Walked.{HasWalked, walked_all, walked_on, walked_right, walked_stop}
use Rattle.chord_judge.specs.Members.{is_member_after}
use Rattle.chord_judge.specs.Owners.{way}
use Rattle.chord_judge.specs.declared.members.Change.{Change}
use Rattle.chord_judge.specs.declared.told.Told.{Told}
use Rattle.chord_scenario.specs.Setup.{Setup}
use Rattle.chord_scenario.specs.World.{node_count}
use Rattle.chord_judge.proofs.judge.Judge.was_right_owner.Goals as goal

pub returns-then-is_first : goal.returns-then-is_first
returns-then-is_first c = λ lines hold told.
    let sc = c.args.self.now.members.scenario.now in
    walked_right sc c.args.begun c.args.key c.args.node lines (take c.loop-left.left c.args.self.now.changes.items) c.loop-left.is_member c.loop-left.nearer
    (c.loop-left.invariant.walked lines hold told) (sym c.is_first.ensures ∙ c.if-is_first.true)

-- the walk before its next step
next : (sc : Setup) (begun key node : ℕ) (lines : List Told) (cs : List Change) (left : ℕ) (c : Change) (is_member : Bool) (nearer : ℕ) → 0 < left → left ≤ length cs
    → c ≡ get_or cs (left - 1) c → HasWalked sc begun key node lines (take left cs) is_member nearer
    → HasWalked sc begun key node lines (take (left - 1) cs ++ c ∷ []) is_member nearer
next sc begun key node lines cs left c is_member nearer some within is w =
    let one : left ≡ (left - 1) + 1 = omega arith in
    let whole : take left cs ≡ take (left - 1) cs ++ c ∷ [] =
    ap (λ (n : ℕ). take n cs) one ∙ take_more cs (left - 1) c (omega arith) ∙ ap (λ (x : Change). take (left - 1) cs ++ x ∷ []) (sym is) in
    subst (λ (l : List Change). HasWalked sc begun key node lines l is_member nearer) whole w

pub returns-then-change-begun : goal.returns-then-change-begun
returns-then-change-begun c = λ lines hold told.
    let sc = c.args.self.now.members.scenario.now in let cs = c.args.self.now.changes.items in let left = c.loop-left.left in
    walked_stop sc c.args.begun c.args.key c.args.node lines (take (left - 1) cs) c.index-change.result.now c.loop-left.is_member c.loop-left.nearer
    (next sc c.args.begun c.args.key c.args.node lines cs left c.index-change.result.now c.loop-left.is_member c.loop-left.nearer c.loop-left-test.true c.loop-left.invariant.within
    c.index-change.ensures (c.loop-left.invariant.walked lines hold told))
    (sym c.is_first.ensures ∙ c.if-is_first.false) c.if-change-begun.true

pub loop-left-init : goal.loop-left-init
loop-left-init c = record {
  within = omega (arith, c.len-left.ensures);
  walked = λ lines hold told. record {
    before = lines;
    changes = sym told ∙ sym (take_all c.len-left.result c.args.self.now.changes.items (omega (arith, c.len-left.ensures)));
    there = c.contains-is_member.ensures ∙ hold c.args.node c.requires.node;
    count = c.nearer_count-nearer.ensures (is_member_after c.args.self.now.members.scenario.now lines) hold;
    same = refl;
  };
}

pub loop-left-preserved : goal.loop-left-preserved
loop-left-preserved c = record {
  within = omega (arith, c.loop-left.invariant.within);
  walked = λ lines hold told.
      let sc = c.args.self.now.members.scenario.now in let cs = c.args.self.now.changes.items in let left = c.loop-left.left in
      let change = c.index-change.result.now in let key = c.args.key in let node = c.args.node in
      let w = next sc c.args.begun key node lines cs left change c.loop-left.is_member c.loop-left.nearer c.loop-left-test.true c.loop-left.invariant.within
      c.index-change.ensures (c.loop-left.invariant.walked lines hold told) in
      let there : change.node < node_count sc = subst (λ (x : Change). x.node < node_count sc) (sym c.index-change.ensures)
      (c.args.self.now.changed (left - 1) change (omega (arith, c.loop-left-test.true, c.loop-left.invariant.within))) in
      let near : nat_lt c.way-way.result c.way-limit.result ≡ nat_lt (way sc key change.node) (way sc key node) =
      ap (λ (n : ℕ). nat_lt n c.way-limit.result) c.way-way.ensures ∙ ap (λ (n : ℕ). nat_lt (way sc key change.node) n) c.way-limit.ensures in
      let is : ◌≡◌ {A = ℕ} (cond (change.is && nat_lt c.way-way.result c.way-limit.result) 1 0) (cond (change.is && nat_lt (way sc key change.node) (way sc key node)) 1 0) =
      ap (λ b. cond {A = ℕ} (change.is && b) 1 0) near in
      let was : ◌≡◌ {A = ℕ} (cond (change.was && nat_lt c.way-way.result c.way-limit.result) 1 0) (cond (change.was && nat_lt (way sc key change.node) (way sc key node)) 1 0) =
      ap (λ b. cond {A = ℕ} (change.was && b) 1 0) near in
      subst (λ (b : Bool). HasWalked sc c.args.begun key node lines (take (left - 1) cs) b c.nearer_before-nearer.result) (sym c.member_before-is_member.ensures)
      (walked_on sc c.args.begun key node lines (take (left - 1) cs) change c.loop-left.is_member c.loop-left.nearer c.recall_range.ensures there w
      (sym c.is_first.ensures ∙ c.if-is_first.false) c.if-change-begun.false c.nearer_before-nearer.result
      (λ before few e. c.nearer_before-nearer.ensures before few (omega (arith, e, is, was))));
}

pub returns : goal.returns
returns c = λ lines hold told.
    let sc = c.args.self.now.members.scenario.now in
    let zero : c.loop-left.left ≡ 0 = omega (arith, c.loop-left-test.false) in
    let none : take c.loop-left.left c.args.self.now.changes.items ≡ [] = ap (λ (n : ℕ). take n c.args.self.now.changes.items) zero in
    c.is_first-2.ensures ∙ walked_all sc c.args.begun c.args.key c.args.node lines c.loop-left.is_member c.loop-left.nearer
    (subst (λ (l : List Change). HasWalked sc c.args.begun c.args.key c.args.node lines l c.loop-left.is_member c.loop-left.nearer) none (c.loop-left.invariant.walked lines hold told))

pub way-way-requires : goal.way-way-requires
way-way-requires c = record {
  key = c.requires.key;
  node = subst (λ (x : Change). x.node < node_count c.args.self.now.members.scenario.now) (sym c.index-change.ensures)
      (c.args.self.now.changed (c.loop-left.left - 1) c.index-change.result.now (omega (arith, c.loop-left-test.true, c.loop-left.invariant.within)));
}
