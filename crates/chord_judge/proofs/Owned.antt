-- The right owner, as a relation and as it is computed.
use Rattle.std.proofs.Common.{◌≡◌, ◌⊎◌, inl, inr, ℕ, ◌<◌, ◌≤◌, ◌^◌, ◌&&◌, ◌==◌, Bool, true, false, cond, is_some, unwrap_or, List, [], ◌∷◌, nat_lt, Option, Some, None, refl, sym, ap, ◌∙◌, arith, ltb-false, le-ltb}
use Rattle.std.specs.List.{find}
use Rattle.std.proofs.lemmas.Bool.{and_parts, and_right, and_left, false≢true, eqb-true, cases_Bool}
use Rattle.chord_audit.specs.Audit.{nodes}
use Rattle.chord_circle.proofs.Distance.{distance-injective}
use Rattle.chord_judge.proofs.Counting.{find_only, find_none, count_none, count_zero}
use Rattle.chord_judge.specs.Owners.{IsRightOwner, is_right_owner, nearer_count, right_owner, way}
use Rattle.chord_scenario.specs.Range.{IsInRange}
use Rattle.chord_scenario.specs.Setup.{Setup}
use Rattle.chord_scenario.specs.World.{node_count, ident_of}

-- whether a node is a member that is nearer to the key than another one
abbrev pub is_nearer : Setup → (member : ℕ → Bool) → (key node other : ℕ) → Bool
is_nearer sc member key node other = member other && nat_lt (way sc key other) (way sc key node)

-- the relation passes the test
pub passes : (sc : Setup) (member : ℕ → Bool) (key x : ℕ) → IsRightOwner sc member key x → is_right_owner sc member key x ≡ true
passes sc member key x right =
    let none : nearer_count sc member key x ≡ 0 = count_none (λ y. member y && nat_lt (way sc key y) (way sc key x)) 0 (node_count sc) (λ y l h. by_member y (omega arith) (cases_Bool (member y))) in
    ap (λ b. b && nearer_count sc member key x == 0) right.is_member ∙ ap (λ n. n == 0) none
  where
    by_member : (y : ℕ) → y < node_count sc → (member y ≡ true) ⊎ (member y ≡ false) → (member y && nat_lt (way sc key y) (way sc key x)) ≡ false
    by_member y h (inl is) = and_right (member y) (nat_lt (way sc key y) (way sc key x)) (le-ltb (way sc key y) (way sc key x) (right.nearest y h is))
    by_member y h (inr not_one) = and_left (member y) (nat_lt (way sc key y) (way sc key x)) not_one

-- what passes the test is in the relation
pub passes_only : (sc : Setup) (member : ℕ → Bool) (key x : ℕ) → x < node_count sc → is_right_owner sc member key x ≡ true → IsRightOwner sc member key x
passes_only sc member key x there test =
    let parts = and_parts (member x) (nearer_count sc member key x == 0) test in
    let none : nearer_count sc member key x ≡ 0 = eqb-true (nearer_count sc member key x) 0 parts.1 in
    record {
      there = there;
      is_member = parts.0;
      nearest = λ y h is. ltb-false (way sc key y) (way sc key x)
          (sym (ap (λ b. b && nat_lt (way sc key y) (way sc key x)) is)
          ∙ count_zero (λ y. member y && nat_lt (way sc key y) (way sc key x)) 0 (node_count sc) none y (omega arith) (omega arith));
    }

-- no two nodes are right owners of one key
pub unique : (sc : Setup) → IsInRange sc → (member : ℕ → Bool) (key x y : ℕ) → key < 2 ^ sc.bits → IsRightOwner sc member key x → IsRightOwner sc member key y → y ≡ x
unique sc range member key x y on rx ry =
    let up : way sc key x ≤ way sc key y = rx.nearest y ry.there ry.is_member in
    let down : way sc key y ≤ way sc key x = ry.nearest x rx.there rx.is_member in
    let same : way sc key y ≡ way sc key x = omega (arith, up, down) in
    range.nodes.apart y x ry.there rx.there
    (distance-injective sc.bits key (ident_of sc y) (ident_of sc x) on (range.nodes.on_circle y ry.there) (range.nodes.on_circle x rx.there) same)

-- the relation finds its node
pub owner_is : (sc : Setup) → IsInRange sc → (member : ℕ → Bool) (key x : ℕ) → key < 2 ^ sc.bits → IsRightOwner sc member key x → right_owner sc member key ≡ Some x
owner_is sc range member key x on right =
    find_only (is_right_owner sc member key) x 0 (node_count sc) (omega arith) (omega (arith, right.there)) (passes sc member key x right)
    (λ y l h t. unique sc range member key x y on right (passes_only sc member key y (omega arith) t))

-- without members there is no right owner
pub no_owner : (sc : Setup) (member : ℕ → Bool) (key : ℕ) → ((n : ℕ) → n < node_count sc → member n ≡ false) → right_owner sc member key ≡ None
no_owner sc member key none =
    find_none (is_right_owner sc member key) 0 (node_count sc) (λ y l h. and_left (member y) (nearer_count sc member key y == 0) (none y (omega arith)))

-- what is found passes the test
found_passes : (p : ℕ → Bool) (x : ℕ) (xs : List ℕ) → find p xs ≡ Some x → p x ≡ true
found_passes p x [] e = absurd (false≢true (ap is_some e))
found_passes p x (y ∷ ys) e = by_first (found_passes p x ys) (p y) refl
  where
    by_first : (find p ys ≡ Some x → p x ≡ true) → (b : Bool) → p y ≡ b → p x ≡ true
    by_first rest true h =
        let same : y ≡ x = ap (λ (o : Option ℕ). unwrap_or o y) (sym (ap (λ b. cond b (Some y) (find p ys)) h) ∙ e) in sym (ap p same) ∙ h
    by_first rest false h = rest (sym (ap (λ b. cond b (Some y) (find p ys)) h) ∙ e)

pub owner_only : (sc : Setup) (member : ℕ → Bool) (key x : ℕ) → right_owner sc member key ≡ Some x → is_right_owner sc member key x ≡ true
owner_only sc member key x e = found_passes (is_right_owner sc member key) x (nodes sc) e
