-- The first marked place from a key on is that of the key's right owner.
use Rattle.std.proofs.Common.{◌≡◌, ◌⊎◌, inl, inr, ℕ, ◌+◌, ◌-◌, ◌==◌, ◌<◌, ◌≤◌, ◌^◌, Bool, true, false, List, Some, None, length, get_or, take, drop, refl, sym, ap, ◌∙◌, subst, arith, length-drop}
use Rattle.std.proofs.lemmas.Bool.{cases_lt, eqb-true, false≢true}
use Rattle.std.proofs.lemmas.List.{get_or-drop, get_or-take, length-take-le}
use Rattle.std.proofs.lemmas.List.Folds.{Any-from_list_any}
use Rattle.chord_circle.proofs.Distance.{distance-ahead, distance-behind}
use Rattle.chord_judge.proofs.Owned.{no_owner, owner_is}
use Rattle.chord_judge.proofs.Scanned.{IsFirst, first_found, none_found, place_of}
use Rattle.chord_judge.specs.Owners.{right_owner, way}
use Rattle.chord_judge.specs.Places.{AreAllPlaces, first_marked, is_marked}
use Rattle.chord_judge.specs.declared.places.Place.{Place}
use Rattle.chord_scenario.specs.Range.{IsInRange}
use Rattle.chord_scenario.specs.Setup.{Setup}
use Rattle.chord_scenario.specs.World.{ident_of, node_count}

-- a search from a key: the places before the start are before the key, and the others are not
pub record IsSearch (sc : Setup) (places : List Place) (marks : List Bool) (member : ℕ → Bool) (key start : ℕ) : Type 0 where
  pub range : IsInRange sc
  pub placed : AreAllPlaces sc places
  pub marked : (n : ℕ) → n < node_count sc → is_marked marks n ≡ member n
  pub on_circle : key < 2 ^ sc.bits
  pub within : start ≤ length places
  pub below : (k : ℕ) (d : Place) → k < start → (get_or places k d).ident < key
  pub above : (k : ℕ) (d : Place) → start ≤ k → k < length places → key ≤ (get_or places k d).ident

-- a marked place of the list, with its node
pub record IsAt (sc : Setup) (places : List Place) (marks : List Bool) (node index : ℕ) : Type 0 where
  pub within : index < length places
  pub node_there : (d : Place) → (get_or places index d).node ≡ node
  pub ident : (d : Place) → (get_or places index d).ident ≡ ident_of sc node
  pub marked : is_marked marks node ≡ true

-- where a member's place is
at_member : (sc : Setup) (places : List Place) (marks : List Bool) (member : ℕ → Bool) (key start : ℕ) → IsSearch sc places marks member key start
    → (y : ℕ) → y < node_count sc → member y ≡ true → (k : ℕ) × (p : Place) × (k < length places) × (get_or places k p ≡ p) × (p.node ≡ y) × (p.ident ≡ ident_of sc y) × (is_marked marks p.node ≡ true)
at_member sc places marks member key start s y there is =
    let found = Any-from_list_any (λ (p : Place). p.node == y) places (s.placed.all y there) in
    let k = found.0 in let p = found.1 in
    let same : p.node ≡ y = eqb-true p.node y found.4 in
    let each = s.placed.each k p found.2 in
    let ident : p.ident ≡ ident_of sc p.node = sym (ap (λ (q : Place). q.ident) found.3) ∙ each.ident ∙ ap (λ (q : Place). ident_of sc q.node) found.3 in
    (k, p, found.2, found.3, same, ident ∙ ap (ident_of sc) same, ap (is_marked marks) same ∙ s.marked y there ∙ is)

-- the first marked place among those from an index on is at its own index
at_first : (sc : Setup) (places : List Place) (marks : List Bool) → AreAllPlaces sc places → (x index : ℕ) → index < length places → ((d : Place) → (get_or places index d).node ≡ x) → is_marked marks x ≡ true → IsAt sc places marks x index
at_first sc places marks placed x index lt node m = record {
  within = lt;
  node_there = node;
  ident = λ d. (placed.each index d lt).ident ∙ ap (ident_of sc) (node d);
  marked = m;
}

pub scanned_ahead : (sc : Setup) (places : List Place) (marks : List Bool) (member : ℕ → Bool) (key start : ℕ) → IsSearch sc places marks member key start → (x : ℕ) → first_marked marks (drop start places) ≡ Some x → right_owner sc member key ≡ Some x
scanned_ahead sc places marks member key start s x e = owner_is sc s.range member key x s.on_circle (record { there = there; is_member = sym (s.marked x there) ∙ f.marked; nearest = nearest })
  where
    f : IsFirst marks (drop start places) x
    f = first_found marks (drop start places) x e

    lt : start + f.index < length places
    lt = let n : length (drop start places) ≡ length places - start = length-drop start places in omega (arith, f.within, n)

    node : (d : Place) → (get_or places (start + f.index) d).node ≡ x
    node d = sym (ap (λ (p : Place). p.node) (get_or-drop start places f.index d)) ∙ f.node d

    at : IsAt sc places marks x (start + f.index)
    at = at_first sc places marks s.placed x (start + f.index) lt node f.marked

    there : x < node_count sc
    there = subst (λ (n : ℕ). n < node_count sc) (node (place_of sc x)) (s.placed.each (start + f.index) (place_of sc x) lt).node

    nearest : (y : ℕ) → y < node_count sc → member y ≡ true → way sc key x ≤ way sc key y
    nearest y there_y is_y =
        let a = at_member sc places marks member key start s y there_y is_y in
        let k = a.0 in let p = a.1 in
        let ahead : key ≤ ident_of sc x = subst (λ (n : ℕ). key ≤ n) (at.ident p) (s.above (start + f.index) p (omega arith) lt) in
        let wx : way sc key x ≡ ident_of sc x - key = distance-ahead sc.bits key (ident_of sc x) ahead (s.range.nodes.on_circle x there) in
        by_place a ahead wx (cases_lt k start) (cases_lt k (start + f.index))
      where
        by_place : (a : (k : ℕ) × (p : Place) × (k < length places) × (get_or places k p ≡ p) × (p.node ≡ y) × (p.ident ≡ ident_of sc y) × (is_marked marks p.node ≡ true))
            → key ≤ ident_of sc x → way sc key x ≡ ident_of sc x - key → (a.0 < start) ⊎ (start ≤ a.0) → (a.0 < start + f.index) ⊎ (start + f.index ≤ a.0) → way sc key x ≤ way sc key y
        by_place (k, p, l, g, n, i, m) ahead wx (inl before) o =
            let behind : ident_of sc y < key = subst (λ (n : ℕ). n < key) (ap (λ (q : Place). q.ident) g ∙ i) (s.below k p before) in
            let wy : way sc key y ≡ ident_of sc y + 2 ^ sc.bits - key = distance-behind sc.bits key (ident_of sc y) behind s.on_circle in
            let ox : ident_of sc x < 2 ^ sc.bits = s.range.nodes.on_circle x there in
            omega (arith, wx, wy, ox, behind, s.on_circle)
        by_place (k, p, l, g, n, i, m) ahead wx (inr after) (inl sooner) =
            let h = f.before (k - start) p (omega arith) in
            let e1 : get_or (drop start places) (k - start) p ≡ get_or places (start + (k - start)) p = get_or-drop start places (k - start) p in
            let e2 : start + (k - start) ≡ k = omega arith in
            let e3 : get_or (drop start places) (k - start) p ≡ p = e1 ∙ ap (λ (j : ℕ). get_or places j p) e2 ∙ g in
            absurd (false≢true (sym h ∙ ap (λ (q : Place). is_marked marks q.node) e3 ∙ m))
        by_place (k, p, l, g, n, i, m) ahead wx (inr after) (inr later) =
            let up : (get_or places (start + f.index) p).ident ≤ (get_or places k p).ident = s.placed.ascend (start + f.index) k p later l in
            let iy : (get_or places k p).ident ≡ ident_of sc y = ap (λ (q : Place). q.ident) g ∙ i in
            let over : key ≤ ident_of sc y = omega (arith, up, iy, at.ident p, ahead) in
            let wy : way sc key y ≡ ident_of sc y - key = distance-ahead sc.bits key (ident_of sc y) over (s.range.nodes.on_circle y there_y) in
            omega (arith, wx, wy, up, iy, at.ident p)

pub scanned_behind : (sc : Setup) (places : List Place) (marks : List Bool) (member : ℕ → Bool) (key start : ℕ) → IsSearch sc places marks member key start → first_marked marks (drop start places) ≡ None
    → (x : ℕ) → first_marked marks (take start places) ≡ Some x → right_owner sc member key ≡ Some x
scanned_behind sc places marks member key start s none x e = owner_is sc s.range member key x s.on_circle (record { there = there; is_member = sym (s.marked x there) ∙ f.marked; nearest = nearest })
  where
    f : IsFirst marks (take start places) x
    f = first_found marks (take start places) x e

    low : f.index < start
    low = let n : length (take start places) ≡ start = length-take-le start places s.within in omega (arith, f.within, n)

    lt : f.index < length places
    lt = omega (arith, low, s.within)

    node : (d : Place) → (get_or places f.index d).node ≡ x
    node d = sym (ap (λ (p : Place). p.node) (get_or-take start places f.index d low)) ∙ f.node d

    at : IsAt sc places marks x f.index
    at = at_first sc places marks s.placed x f.index lt node f.marked

    there : x < node_count sc
    there = subst (λ (n : ℕ). n < node_count sc) (node (place_of sc x)) (s.placed.each f.index (place_of sc x) lt).node

    nearest : (y : ℕ) → y < node_count sc → member y ≡ true → way sc key x ≤ way sc key y
    nearest y there_y is_y =
        let a = at_member sc places marks member key start s y there_y is_y in
        by_place a (cases_lt a.0 start) (cases_lt a.0 f.index)
      where
        by_place : (a : (k : ℕ) × (p : Place) × (k < length places) × (get_or places k p ≡ p) × (p.node ≡ y) × (p.ident ≡ ident_of sc y) × (is_marked marks p.node ≡ true))
            → (a.0 < start) ⊎ (start ≤ a.0) → (a.0 < f.index) ⊎ (f.index ≤ a.0) → way sc key x ≤ way sc key y
        by_place (k, p, l, g, n, i, m) (inr after) o =
            let ld : length (drop start places) ≡ length places - start = length-drop start places in
            let h = none_found marks (drop start places) none (k - start) p (omega (arith, ld, l, after)) in
            let e1 : get_or (drop start places) (k - start) p ≡ get_or places (start + (k - start)) p = get_or-drop start places (k - start) p in
            let e2 : start + (k - start) ≡ k = omega arith in
            let e3 : get_or (drop start places) (k - start) p ≡ p = e1 ∙ ap (λ (j : ℕ). get_or places j p) e2 ∙ g in
            absurd (false≢true (sym h ∙ ap (λ (q : Place). is_marked marks q.node) e3 ∙ m))
        by_place (k, p, l, g, n, i, m) (inl before) (inl sooner) =
            let h = f.before k p sooner in
            let e3 : get_or (take start places) k p ≡ p = get_or-take start places k p before ∙ g in
            absurd (false≢true (sym h ∙ ap (λ (q : Place). is_marked marks q.node) e3 ∙ m))
        by_place (k, p, l, g, n, i, m) (inl before) (inr later) =
            let up : (get_or places f.index p).ident ≤ (get_or places k p).ident = s.placed.ascend f.index k p later l in
            let iy : (get_or places k p).ident ≡ ident_of sc y = ap (λ (q : Place). q.ident) g ∙ i in
            let under : ident_of sc y < key = subst (λ (n : ℕ). n < key) iy (s.below k p before) in
            let under_x : ident_of sc x < key = omega (arith, up, iy, at.ident p, under) in
            let wx : way sc key x ≡ ident_of sc x + 2 ^ sc.bits - key = distance-behind sc.bits key (ident_of sc x) under_x s.on_circle in
            let wy : way sc key y ≡ ident_of sc y + 2 ^ sc.bits - key = distance-behind sc.bits key (ident_of sc y) under s.on_circle in
            omega (arith, wx, wy, up, iy, at.ident p, s.on_circle)

pub scanned_none : (sc : Setup) (places : List Place) (marks : List Bool) (member : ℕ → Bool) (key start : ℕ) → IsSearch sc places marks member key start → first_marked marks (drop start places) ≡ None
    → first_marked marks (take start places) ≡ None → right_owner sc member key ≡ None
scanned_none sc places marks member key start s ahead behind = no_owner sc member key none
  where
    none : (n : ℕ) → n < node_count sc → member n ≡ false
    none n there = by_mark (member n) refl
      where
        by_mark : (b : Bool) → member n ≡ b → member n ≡ false
        by_mark false e = e
        by_mark true e =
            let a = at_member sc places marks member key start s n there e in by_place a (cases_lt a.0 start)
          where
            by_place : (a : (k : ℕ) × (p : Place) × (k < length places) × (get_or places k p ≡ p) × (p.node ≡ n) × (p.ident ≡ ident_of sc n) × (is_marked marks p.node ≡ true))
                → (a.0 < start) ⊎ (start ≤ a.0) → member n ≡ false
            by_place (k, p, l, g, e0, i, m) (inr after) =
                let ld : length (drop start places) ≡ length places - start = length-drop start places in
                let h = none_found marks (drop start places) ahead (k - start) p (omega (arith, ld, l, after)) in
                let e1 : get_or (drop start places) (k - start) p ≡ get_or places (start + (k - start)) p = get_or-drop start places (k - start) p in
                let e2 : start + (k - start) ≡ k = omega arith in
                let e3 : get_or (drop start places) (k - start) p ≡ p = e1 ∙ ap (λ (j : ℕ). get_or places j p) e2 ∙ g in
                absurd (false≢true (sym h ∙ ap (λ (q : Place). is_marked marks q.node) e3 ∙ m))
            by_place (k, p, l, g, e0, i, m) (inl before) =
                let n : length (take start places) ≡ start = length-take-le start places s.within in
                let h = none_found marks (take start places) behind k p (omega (arith, n, before)) in
                let e3 : get_or (take start places) k p ≡ p = get_or-take start places k p before ∙ g in
                absurd (false≢true (sym h ∙ ap (λ (q : Place). is_marked marks q.node) e3 ∙ m))
