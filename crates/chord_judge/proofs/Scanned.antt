-- What the first marked of some places is.
use Rattle.std.proofs.Common.{◌≡◌, ℕ, zero, suc, ◌<◌, Bool, true, false, cond, List, [], ◌∷◌, Option, Some, None, length, get_or, refl, sym, ap, ◌∙◌, arith}
use Rattle.std.proofs.lemmas.Bool.{false≢true}
use Rattle.chord_judge.specs.Places.{first_marked, is_marked}
use Rattle.chord_judge.specs.declared.places.Place.{Place}
use Rattle.chord_scenario.specs.Setup.{Setup}
use Rattle.chord_scenario.specs.World.{ident_of}

-- the place of the first marked node, and none before it is marked
pub record IsFirst (marks : List Bool) (places : List Place) (x : ℕ) : Type 0 where
  pub index : ℕ
  pub within : index < length places
  pub node : (d : Place) → (get_or places index d).node ≡ x
  pub marked : is_marked marks x ≡ true
  pub before : (k : ℕ) (d : Place) → k < index → is_marked marks (get_or places k d).node ≡ false

some-cong : {x y : ℕ} → Some x ≡ Some y → x ≡ y
some-cong e = ap (λ (o : Option ℕ). unwrap o) e
  where
    unwrap : Option ℕ → ℕ
    unwrap None = 0
    unwrap (Some n) = n

abbrev is_there : Option ℕ → Bool
is_there None = false
is_there (Some n) = true

-- the first place and the others
pub first_more : (marks : List Bool) (place : Place) (places : List Place) (x : ℕ) → is_marked marks place.node ≡ false → IsFirst marks places x → IsFirst marks (place ∷ places) x
first_more marks place places x m rest = record {
  index = suc rest.index;
  within = omega (arith, rest.within);
  node = λ d. rest.node d;
  marked = rest.marked;
  before = before;
}
  where
    before : (k : ℕ) (d : Place) → k < suc rest.index → is_marked marks (get_or (place ∷ places) k d).node ≡ false
    before zero d h = m
    before (suc k) d h = rest.before k d (omega arith)

pub first_found : (marks : List Bool) (places : List Place) (x : ℕ) → first_marked marks places ≡ Some x → IsFirst marks places x
first_found marks [] x e = absurd (false≢true (ap is_there e))
first_found marks (place ∷ places) x e = by_mark (first_found marks places x) (is_marked marks place.node) refl
  where
    by_mark : (first_marked marks places ≡ Some x → IsFirst marks places x) → (b : Bool) → is_marked marks place.node ≡ b → IsFirst marks (place ∷ places) x
    by_mark rest true m =
        let same : place.node ≡ x = some-cong (sym (ap (λ b. cond b (Some place.node) (first_marked marks places)) m) ∙ e) in
        record { index = 0; within = omega arith; node = λ d. same; marked = sym (ap (is_marked marks) same) ∙ m; before = λ k d h. absurd (omega arith) }
    by_mark rest false m =
        first_more marks place places x m (rest (sym (ap (λ b. cond b (Some place.node) (first_marked marks places)) m) ∙ e))

pub none_found : (marks : List Bool) (places : List Place) → first_marked marks places ≡ None → (k : ℕ) (d : Place) → k < length places → is_marked marks (get_or places k d).node ≡ false
none_found marks [] e k d h = absurd (omega arith)
none_found marks (place ∷ places) e k d h = by_mark (none_found marks places) (is_marked marks place.node) refl k h
  where
    by_mark : (first_marked marks places ≡ None → (k : ℕ) (d : Place) → k < length places → is_marked marks (get_or places k d).node ≡ false)
        → (b : Bool) → is_marked marks place.node ≡ b → (k : ℕ) → k < length (place ∷ places) → is_marked marks (get_or (place ∷ places) k d).node ≡ false
    by_mark rest true m k h = absurd (false≢true (ap is_there (sym e ∙ ap (λ b. cond b (Some place.node) (first_marked marks places)) m)))
    by_mark rest false m zero h = m
    by_mark rest false m (suc k) h = rest (sym (ap (λ b. cond b (Some place.node) (first_marked marks places)) m) ∙ e) k d (omega arith)

-- the place of a node
abbrev pub place_of : Setup → ℕ → Place
place_of sc n = record { ident = ident_of sc n; node = n }
