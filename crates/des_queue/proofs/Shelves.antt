-- What calls do to a shelf.
use Rattle.std.proofs.Common.{◌≡◌, ◌⊎◌, inl, inr, ℕ, zero, suc, ◌/◌, ◌%◌, Bool, cond, nat_eq, [], Option, Some, None, IsSome, option_map, slice_index_or, sym, ap, ◌∙◌, subst, arith, refl}
use Rattle.std.proofs.Math.ListN.{get_or-map}
use Rattle.slab.specs.Slab as slab
use Rattle.slab.specs.Slab.{ContainsKey}
use Rattle.des_event.specs.declared.brief.Short.{Short}
use Rattle.des_event.specs.declared.event.Event.{Event}
use Rattle.des_queue.specs.Shelf.{ChangesAt, ContainsPlace, Shelved, get, shelved, spelled_out}
use Rattle.des_queue.specs.declared.shelf.OwnEvent.{OwnEvent}
use Rattle.des_queue.specs.declared.shelf.Shelf.TheInside.{Inside}

-- a place is even or odd
parity : (p : ℕ) → (p % 2 ≡ 0) ⊎ (p % 2 ≡ 1)
parity p = by_rest (p % 2) refl
  where
    by_rest : (n : ℕ) → p % 2 ≡ n → (p % 2 ≡ 0) ⊎ (p % 2 ≡ 1)
    by_rest zero h = inl h
    by_rest (suc zero) h = inr h
    by_rest (suc (suc n)) h = absurd (omega (arith, h))

module _ {B : Type 0} where
  -- room does not change what is at the places
  pub get_kept : (s t : Shelved B) (b : Bool) → t ≡ record s { ready = b } → get t ≡ get s
  unfolding get
  get_kept s t b same i place = get (same i) place

  get_even : (s : Shelved B) (p : ℕ) → p % 2 ≡ 0 → get s p ≡ slice_index_or s.own (p / 2) None
  unfolding get
  get_even s p even = ap (λ n. cond (nat_eq n 0) (slice_index_or s.own (p / 2) None) (slice_index_or s.others (p / 2) None)) even

  get_odd : (s : Shelved B) (p : ℕ) → p % 2 ≡ 1 → get s p ≡ slice_index_or s.others (p / 2) None
  unfolding get
  get_odd s p odd = ap (λ n. cond (nat_eq n 0) (slice_index_or s.own (p / 2) None) (slice_index_or s.others (p / 2) None)) odd

  some_before : {A : Type 0} (f : A → Event B) (o : Option A) → IsSome (option_map f o) → IsSome o
  some_before f None h = h
  some_before f (Some x) h = refl

module _ {B : Type 0} (long : Short → B) where
  abbrev spell : OwnEvent → Event B
  spell own = spelled_out long own

  -- what is at an even place, and at an odd one
  pub own_at : (s : Inside B) (now : Shelved B) → shelved long s ≡ now → (p : ℕ) → p % 2 ≡ 0
      → get now p ≡ option_map spell (slab.get s.own (p / 2))
  own_at s now view p even = ap (λ x. get x p) (sym view) ∙ get_even (shelved long s) p even ∙ get_or-map (option_map spell) s.own.slots (p / 2) None

  pub other_at : (s : Inside B) (now : Shelved B) → shelved long s ≡ now → (p : ℕ) → p % 2 ≡ 1 → get now p ≡ slab.get s.others (p / 2)
  other_at s now view p odd = ap (λ x. get x p) (sym view) ∙ get_odd (shelved long s) p odd

  pub own_there : (s : Inside B) (now : Shelved B) → shelved long s ≡ now → (p : ℕ) → p % 2 ≡ 0 → ContainsPlace now p
      → ContainsKey s.own (p / 2)
  own_there s now view p even some = some_before spell (slab.get s.own (p / 2)) (subst IsSome (own_at s now view p even) some)

  pub other_there : (s : Inside B) (now : Shelved B) → shelved long s ≡ now → (p : ℕ) → p % 2 ≡ 1 → ContainsPlace now p
      → ContainsKey s.others (p / 2)
  other_there s now view p odd some = subst IsSome (other_at s now view p odd) some

  -- one slab was changed
  pub changes_own : (s t : Inside B) (now : Shelved B) → shelved long s ≡ now → t.others ≡ s.others → (p : ℕ) (slot : Option OwnEvent) → p % 2 ≡ 0
      → slab.Updates s.own t.own (p / 2) slot → ChangesAt (get now) (get (shelved long t)) p (option_map spell slot)
  changes_own s t now view same p slot even u = record {
    changed = own_at t (shelved long t) refl p even ∙ ap (option_map spell) u.changed;
    others = λ q ne. elim (parity q) [
      | inl h ↦ own_at t (shelved long t) refl q h ∙ ap (option_map spell) (u.others (q / 2) (λ e. ne (omega (arith, e, h, even)))) ∙ sym (own_at s now view q h)
      | inr h ↦ other_at t (shelved long t) refl q h ∙ ap (λ x. slab.get x (q / 2)) same ∙ sym (other_at s now view q h)
    ];
  }

  pub changes_other : (s t : Inside B) (now : Shelved B) → shelved long s ≡ now → t.own ≡ s.own → (p : ℕ) (slot : Option (Event B)) → p % 2 ≡ 1
      → slab.Updates s.others t.others (p / 2) slot → ChangesAt (get now) (get (shelved long t)) p slot
  changes_other s t now view same p slot odd u = record {
    changed = other_at t (shelved long t) refl p odd ∙ u.changed;
    others = λ q ne. elim (parity q) [
      | inl h ↦ own_at t (shelved long t) refl q h ∙ ap (λ x. option_map spell (slab.get x (q / 2))) same ∙ sym (own_at s now view q h)
      | inr h ↦ other_at t (shelved long t) refl q h ∙ u.others (q / 2) (λ e. ne (omega (arith, e, h, odd))) ∙ sym (other_at s now view q h)
    ];
  }

  -- without values in the slabs there is nothing at any place
  pub none_at : (s : Inside B) → s.own.slots ≡ [] → s.others.slots ≡ [] → (p : ℕ) → get (shelved long s) p ≡ None
  none_at s own others p = elim (parity p) [
    | inl h ↦ own_at s (shelved long s) refl p h ∙ ap (λ os. option_map spell (slice_index_or os (p / 2) None)) own
    | inr h ↦ other_at s (shelved long s) refl p h ∙ ap (λ os. slice_index_or os (p / 2) None) others
  ]
