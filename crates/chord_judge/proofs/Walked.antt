-- A walk back through the changes.
use Rattle.std.proofs.Common.{
  ◌≡◌,
  ◌⊎◌,
  inl,
  inr,
  ℕ,
  ◌+◌,
  ◌^◌,
  ◌==◌,
  ◌<◌,
  ◌≤◌,
  ◌&&◌,
  ◌||◌,
  Bool,
  true,
  false,
  cond,
  nat_le,
  nat_lt,
  List,
  [],
  ◌∷◌,
  ◌++◌,
  sym,
  ap,
  ◌∙◌,
  arith,
}
use Rattle.std.proofs.lemmas.Bool.{cases_eq, eq-eqb, le-leb, lt-leb, ne_eqb}
use Rattle.chord_judge.proofs.Counting.{count_most}
use Rattle.chord_judge.proofs.Owned.{is_nearer}
use Rattle.chord_judge.proofs.Undone.{IsBefore, nearer_changed, right_now, unchanged, unwind}
use Rattle.chord_judge.specs.Inside.{changes_after}
use Rattle.chord_judge.specs.Members.{is_member_after}
use Rattle.chord_judge.specs.Owners.{is_right_owner, nearer_count, was_right_owner, way}
use Rattle.chord_judge.specs.declared.members.Change.{Change}
use Rattle.chord_judge.specs.declared.told.Told.{Told}
use Rattle.chord_scenario.specs.Range.{IsInRange}
use Rattle.chord_scenario.specs.Setup.{Setup}
use Rattle.chord_scenario.specs.World.{node_count}

-- the lines up to which the walk came, and what holds after them: the answer of what is left is that of all
pub record HasWalked (sc : Setup) (begun key node : ℕ) (lines : List Told) (cs : List Change) (is_member : Bool) (nearer : ℕ) : Type 0 where
  pub before : List Told
  pub changes : changes_after sc before ≡ cs
  pub there : is_member ≡ is_member_after sc before node
  pub count : nearer ≡ nearer_count sc (is_member_after sc before) key node
  pub same : was_right_owner sc begun key node lines ≡ was_right_owner sc begun key node before

-- the test of the code is that of the right owner
fits : (sc : Setup) (begun key node : ℕ) (lines : List Told) (cs : List Change) (is_member : Bool) (nearer : ℕ) → (w : HasWalked sc begun key node lines cs is_member nearer)
    → (is_member && nearer == 0) ≡ is_right_owner sc (is_member_after sc w.before) key node
fits sc begun key node lines cs is_member nearer w =
    ap (λ b. b && nearer == 0) w.there ∙ ap (λ (n : ℕ). is_member_after sc w.before node && n == 0) w.count

pub walked_right : (sc : Setup) (begun key node : ℕ) (lines : List Told) (cs : List Change) (is_member : Bool) (nearer : ℕ) → HasWalked sc begun key node lines cs is_member nearer
    → (is_member && nearer == 0) ≡ true → true ≡ was_right_owner sc begun key node lines
walked_right sc begun key node lines cs is_member nearer w e =
    sym (w.same ∙ right_now sc begun key node w.before (sym (fits sc begun key node lines cs is_member nearer w) ∙ e))

pub walked_all : (sc : Setup) (begun key node : ℕ) (lines : List Told) (is_member : Bool) (nearer : ℕ) → HasWalked sc begun key node lines [] is_member nearer
    → (is_member && nearer == 0) ≡ was_right_owner sc begun key node lines
walked_all sc begun key node lines is_member nearer w =
    fits sc begun key node lines [] is_member nearer w ∙ sym (w.same ∙ unchanged sc begun key node w.before w.changes)

pub walked_stop : (sc : Setup) (begun key node : ℕ) (lines : List Told) (cs : List Change) (c : Change) (is_member : Bool) (nearer : ℕ)
    → HasWalked sc begun key node lines (cs ++ c ∷ []) is_member nearer → (is_member && nearer == 0) ≡ false → c.time < begun → false ≡ was_right_owner sc begun key node lines
walked_stop sc begun key node lines cs c is_member nearer w e over =
    let u : IsBefore sc begun key node w.before cs c = unwind sc begun key node w.before cs c w.changes in
    let wrong : is_right_owner sc (is_member_after sc w.before) key node ≡ false = sym (fits sc begun key node lines (cs ++ c ∷ []) is_member nearer w) ∙ e in
    sym (w.same ∙ u.rights ∙ ap (λ b. b || (nat_le begun c.time && was_right_owner sc begun key node u.before)) wrong
    ∙ ap (λ b. b && was_right_owner sc begun key node u.before) (lt-leb begun c.time over))

pub walked_on : (sc : Setup) (begun key node : ℕ) (lines : List Told) (cs : List Change) (c : Change) (is_member : Bool) (nearer : ℕ) → IsInRange sc → c.node < node_count sc
    → HasWalked sc begun key node lines (cs ++ c ∷ []) is_member nearer → (is_member && nearer == 0) ≡ false → begun ≤ c.time → (now : ℕ)
    → ((before : ℕ) → before < 2 ^ 31 → before + cond (c.is && nat_lt (way sc key c.node) (way sc key node)) 1 0 ≡ nearer + cond (c.was && nat_lt (way sc key c.node) (way sc key node)) 1 0 → now ≡ before)
    → HasWalked sc begun key node lines cs (cond (c.node == node) c.was is_member) now
walked_on sc begun key node lines cs c is_member nearer range there w e within now counted =
    let u : IsBefore sc begun key node w.before cs c = unwind sc begun key node w.before cs c w.changes in
    let wrong : is_right_owner sc (is_member_after sc w.before) key node ≡ false = sym (fits sc begun key node lines (cs ++ c ∷ []) is_member nearer w) ∙ e in
    let after = is_member_after sc w.before in let before = is_member_after sc u.before in
    let near = nat_lt (way sc key c.node) (way sc key node) in
    let few : nearer_count sc before key node ≤ node_count sc = count_most (is_nearer sc before key node) (node_count sc) in
    let changed : nearer_count sc before key node + cond (c.is && near) 1 0 ≡ nearer_count sc after key node + cond (before c.node && near) 1 0 =
    nearer_changed sc key node c.node after before c.is there u.members in
    let was : ◌≡◌ {A = ℕ} (cond (c.was && near) 1 0) (cond (before c.node && near) 1 0) = ap (λ b. cond {A = ℕ} (b && near) 1 0) u.was in
    record {
      before = u.before;
      changes = u.changes;
      there = by_node before (cases_eq c.node node) u.was (w.there ∙ u.members node);
      count = counted (nearer_count sc before key node) (omega (arith, few, range.nodes.greatest)) (omega (arith, changed, was, w.count));
      same = w.same ∙ u.rights ∙ ap (λ b. b || (nat_le begun c.time && was_right_owner sc begun key node u.before)) wrong
          ∙ ap (λ b. b && was_right_owner sc begun key node u.before) (le-leb begun c.time within);
    }
  where
    by_node : (before : ℕ → Bool) → (c.node ≡ node) ⊎ (c.node ≡ node → ⊥) → c.was ≡ before c.node → is_member ≡ cond (c.node == node) c.is (before node) → cond (c.node == node) c.was is_member ≡ before node
    by_node before (inl same) was there_now = ap (λ b. cond b c.was is_member) (eq-eqb c.node node same) ∙ was ∙ ap before same
    by_node before (inr apart) was there_now =
        ap (λ b. cond b c.was is_member) (ne_eqb c.node node apart) ∙ there_now ∙ ap (λ b. cond b c.is (before node)) (ne_eqb c.node node apart)
