-- The members and the right owner before a change.
use Rattle.std.proofs.Common.{◌≡◌, ℕ, ◌+◌, ◌==◌, ◌<◌, ◌&&◌, ◌||◌, not, Bool, true, false, cond, nat_le, nat_lt, List, [], ◌∷◌, ◌++◌, refl, sym, ap, ◌∙◌, subst, arith}
use Rattle.std.proofs.lemmas.Bool.{eq-eqb, false≢true, ne_eqb}
use Rattle.std.proofs.lemmas.List.{same_from_push}
use Rattle.chord_judge.proofs.Counting.{count_changed}
use Rattle.chord_judge.proofs.Owned.{is_nearer}
use Rattle.chord_judge.specs.Inside.{changes_after}
use Rattle.chord_judge.specs.Members.{is_change, is_member_after, makes_member}
use Rattle.chord_judge.specs.Owners.{is_right_owner, nearer_count, was_right_owner, way}
use Rattle.chord_judge.specs.declared.members.Change.{Change}
use Rattle.chord_judge.specs.declared.told.Told.{Told}
use Rattle.chord_scenario.specs.Setup.{Setup}
use Rattle.chord_scenario.specs.World.{node_count}

-- the lines before the one of the newest change, and what the change tells of them
pub record IsBefore (sc : Setup) (begun key node : ℕ) (lines : List Told) (cs : List Change) (c : Change) : Type 0 where
  pub before : List Told
  pub changes : changes_after sc before ≡ cs
  pub members : (n : ℕ) → is_member_after sc lines n ≡ cond (c.node == n) c.is (is_member_after sc before n)
  pub was : c.was ≡ is_member_after sc before c.node
  pub rights : was_right_owner sc begun key node lines
      ≡ (is_right_owner sc (is_member_after sc lines) key node || (nat_le begun c.time && was_right_owner sc begun key node before))

-- the change that a line makes
abbrev change_by : Setup → Told → List Told → Change
change_by sc told before = record { time = told.time; node = told.node; was = is_member_after sc before told.node; is = makes_member told.line }

abbrev is_filled : List Change → Bool
is_filled [] = false
is_filled (x ∷ xs) = true

not_empty : (cs : List Change) (c : Change) → [] ≡ cs ++ c ∷ [] → ⊥
not_empty [] c e = false≢true (ap is_filled e)
not_empty (x ∷ cs) c e = false≢true (ap is_filled e)

-- a line that changes no members
skipped : (sc : Setup) (begun key node : ℕ) (told : Told) (lines : List Told) → is_change told.line ≡ false
    → was_right_owner sc begun key node (told ∷ lines) ≡ (is_right_owner sc (is_member_after sc lines) key node || was_right_owner sc begun key node lines)
skipped sc begun key node told lines e = rw e refl

skipped_now : (sc : Setup) (key node : ℕ) (told : Told) (lines : List Told) → is_change told.line ≡ false
    → is_right_owner sc (is_member_after sc (told ∷ lines)) key node ≡ is_right_owner sc (is_member_after sc lines) key node
skipped_now sc key node told lines e = rw e refl

-- the newest instant is one of them
newest : (sc : Setup) (begun key node : ℕ) (lines : List Told)
    → (is_right_owner sc (is_member_after sc lines) key node || was_right_owner sc begun key node lines) ≡ was_right_owner sc begun key node lines
newest sc begun key node [] = twice (is_right_owner sc (is_member_after sc []) key node)
  where
    twice : (b : Bool) → (b || b) ≡ b
    twice true = refl
    twice false = refl
newest sc begun key node (told ∷ lines) =
    again (is_right_owner sc (is_member_after sc (told ∷ lines)) key node) ((not (is_change told.line) || nat_le begun told.time) && was_right_owner sc begun key node lines)
  where
    again : (b d : Bool) → (b || (b || d)) ≡ (b || d)
    again true d = refl
    again false d = refl

pub right_now : (sc : Setup) (begun key node : ℕ) (lines : List Told) → is_right_owner sc (is_member_after sc lines) key node ≡ true → was_right_owner sc begun key node lines ≡ true
right_now sc begun key node lines e =
    sym (newest sc begun key node lines) ∙ ap (λ b. b || was_right_owner sc begun key node lines) e

pub unwind : (sc : Setup) (begun key node : ℕ) (lines : List Told) (cs : List Change) (c : Change) → changes_after sc lines ≡ cs ++ c ∷ [] → IsBefore sc begun key node lines cs c
unwind sc begun key node [] cs c e = absurd (not_empty cs c e)
unwind sc begun key node (told ∷ lines) cs c e = by_change (unwind sc begun key node lines cs c) (is_change told.line) refl
  where
    by_change : (changes_after sc lines ≡ cs ++ c ∷ [] → IsBefore sc begun key node lines cs c) → (b : Bool) → is_change told.line ≡ b → IsBefore sc begun key node (told ∷ lines) cs c
    by_change rest true h =
        let parts = same_from_push (changes_after sc lines) cs (change_by sc told lines) c
        (sym (ap (λ b. cond b (changes_after sc lines ++ change_by sc told lines ∷ []) (changes_after sc lines)) h) ∙ e) in
        subst (λ (d : Change). IsBefore sc begun key node (told ∷ lines) cs d) parts.1 (record {
          before = lines;
          changes = parts.0;
          members = λ n. ap (λ b. cond (b && told.node == n) (makes_member told.line) (is_member_after sc lines n)) h;
          was = refl;
          rights = ap
              (λ b. is_right_owner sc (is_member_after sc (told ∷ lines)) key node || ((not b || nat_le begun told.time) && was_right_owner sc begun key node lines)) h;
        })
    by_change rest false h =
        let earlier : IsBefore sc begun key node lines cs c = rest (sym (ap (λ b. cond b (changes_after sc lines ++ change_by sc told lines ∷ []) (changes_after sc lines)) h) ∙ e) in
        record {
          before = earlier.before;
          changes = earlier.changes;
          members = λ n. ap (λ b. cond (b && told.node == n) (makes_member told.line) (is_member_after sc lines n)) h ∙ earlier.members n;
          was = earlier.was;
          rights = skipped sc begun key node told lines h ∙ newest sc begun key node lines ∙ earlier.rights
              ∙ ap (λ b. b || (nat_le begun c.time && was_right_owner sc begun key node earlier.before)) (sym (skipped_now sc key node told lines h));
        }

pub unchanged : (sc : Setup) (begun key node : ℕ) (lines : List Told) → changes_after sc lines ≡ [] → was_right_owner sc begun key node lines ≡ is_right_owner sc (is_member_after sc lines) key node
unchanged sc begun key node [] e = refl
unchanged sc begun key node (told ∷ lines) e = by_change (unchanged sc begun key node lines) (is_change told.line) refl
  where
    by_change : (changes_after sc lines ≡ [] → was_right_owner sc begun key node lines ≡ is_right_owner sc (is_member_after sc lines) key node)
        → (b : Bool) → is_change told.line ≡ b → was_right_owner sc begun key node (told ∷ lines) ≡ is_right_owner sc (is_member_after sc (told ∷ lines)) key node
    by_change rest true h =
        absurd (not_empty (changes_after sc lines) (change_by sc told lines)
        (sym (sym (ap (λ b. cond b (changes_after sc lines ++ change_by sc told lines ∷ []) (changes_after sc lines)) h) ∙ e)))
    by_change rest false h =
        skipped sc begun key node told lines h ∙ newest sc begun key node lines
        ∙ rest (sym (ap (λ b. cond b (changes_after sc lines ++ change_by sc told lines ∷ []) (changes_after sc lines)) h) ∙ e) ∙ sym (skipped_now sc key node told lines h)

-- how many members were nearer before a change of one node
pub nearer_changed : (sc : Setup) (key node m : ℕ) (after before : ℕ → Bool) (is : Bool) → m < node_count sc → ((n : ℕ) → after n ≡ cond (m == n) is (before n))
    → nearer_count sc before key node + cond (is && nat_lt (way sc key m) (way sc key node)) 1 0
    ≡ nearer_count sc after key node + cond (before m && nat_lt (way sc key m) (way sc key node)) 1 0
nearer_changed sc key node m after before is there members =
    let others = count_changed (is_nearer sc before key node) (is_nearer sc after key node) m 0 (node_count sc) (omega arith) (omega (arith, there))
    (λ y apart. ap (λ b. b && nat_lt (way sc key y) (way sc key node))
    (sym (members y ∙ ap (λ b. cond b is (before y)) (ne_eqb m y (λ s. apart (sym s)))))) in
    let at : after m ≡ is = members m ∙ ap (λ b. cond b is (before m)) (eq-eqb m m refl) in
    let one : ◌≡◌ {A = ℕ} (cond (after m && nat_lt (way sc key m) (way sc key node)) 1 0) (cond (is && nat_lt (way sc key m) (way sc key node)) 1 0) =
    ap (λ b. cond {A = ℕ} (b && nat_lt (way sc key m) (way sc key node)) 1 0) at in
    omega (arith, others, one)
