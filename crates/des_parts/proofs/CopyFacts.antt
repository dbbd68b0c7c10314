-- What a part sees of the states, as copies are made and changed.
use Rattle.std.proofs.Common.{◌≡◌, ◌≢◌, ℕ, ◌+◌, ◌<◌, List, [], ◌∷◌, ◌++◌, Option, Some, None, length, get_or, set, refl, ap, sym, ◌∙◌, subst, arith, inl, inr, ⊎_elim, get_or-set_same, get_or-set_other, length-append}
use Rattle.std.proofs.lemmas.Bool.{cases_eq, cases_lt}
use Rattle.std.proofs.lemmas.Option.{none-some}
use Rattle.std.proofs.Math.ListN.{get_or-append, length-set}
use Rattle.std.proofs.Math.Seq.{get_or-append_seam}
use Rattle.des_model.specs.Windows.{Division, part_of}
use Rattle.des_model.proofs.Course.{same_read}
use Rattle.des_parts.specs.declared.copies.Copies.{Copies}
use Rattle.des_parts.specs.declared.copies.Touched.{Touched}
use Rattle.des_parts.specs.Copies.{in_slot, seen, touched_as, IsSlot, AreCopies, HaveSeen}

some_is : {A : Type 0} (x y : A) → Some x ≡ Some y → x ≡ y
some_is x y e = ap (value x) e
  where
    value : {A : Type 0} → A → Option A → A
    value d None = d
    value d (Some z) = z

module _ {State : Type 0} where
  -- nothing was copied yet
  pub no_copies : (d : Division) (part : ℕ) (states : List State) (c : Copies State) → c.slots.items ≡ [] → c.states.items ≡ [] → AreCopies d part states c
  no_copies d part states c none empty = record {
    long = inr none;
    filled = λ i k e. absurd (none-some k (sym (ap (λ l. get_or l i None) none) ∙ e));
    named = λ i k s e. absurd (none-some k (sym (ap (λ l. get_or l i None) none) ∙ e));
    placed = λ k s l. absurd (omega (arith, l, ap length empty));
    inside = λ k s l. absurd (omega (arith, l, ap length empty));
  }

  pub seen_first : (states : List State) (c : Copies State) → c.slots.items ≡ [] → (i : ℕ) (s : State) → seen s states c i ≡ get_or states i s
  seen_first states c none i s = ap (λ l. in_slot s (get_or l i None) c.states.items states i) none

  -- slots are made
  module _ (states : List State) (old new : Copies State) (slots_are : (i : ℕ) → get_or new.slots.items i None ≡ get_or old.slots.items i None)
      (states_are : new.states.items ≡ old.states.items) where
    pub slots_seen : HaveSeen states old new
    slots_seen = record {
      same = λ i s l. ap (λ z. in_slot s z new.states.items states i) (slots_are i) ∙ ap (λ z. in_slot s (get_or old.slots.items i None) z states i) states_are;
    }

    as_before : (k : ℕ) (s : Touched State) → get_or new.states.items k s ≡ get_or old.states.items k s
    as_before k s = ap (λ z. get_or z k s) states_are

    pub slots_made : (d : Division) (part : ℕ) → length new.slots.items ≡ length states → AreCopies d part states old → AreCopies d part states new
    slots_made d part long are = record {
      long = inl long;
      filled = λ i k e. omega (arith, ap length states_are, are.filled i k (sym (slots_are i) ∙ e));
      named = λ i k s e. ap (λ (z : Touched State). z.node) (as_before k s) ∙ are.named i k s (sym (slots_are i) ∙ e);
      placed = λ k s l. slots_are (get_or new.states.items k s).node ∙ ap (λ (z : Touched State). get_or old.slots.items z.node None) (as_before k s)
          ∙ are.placed k s (omega (arith, l, ap length states_are));
      inside = λ k s l. subst (λ (z : Touched State). (z.node < length states) × (part_of d z.node ≡ part)) (sym (as_before k s))
          (are.inside k s (omega (arith, l, ap length states_are)));
    }

  -- a copy is made
  module _ (d : Division) (part : ℕ) (states : List State) (old new : Copies State) (are : AreCopies d part states old)
      (long : length old.slots.items ≡ length states) (node : ℕ) (copy : Touched State) (inside : node < length states)
      (slots_are : new.slots.items ≡ set old.slots.items node (Some (length old.states.items)))
      (states_are : new.states.items ≡ old.states.items ++ copy ∷ []) (none : get_or old.slots.items node None ≡ None) where
    last : (s : Touched State) → get_or new.states.items (length old.states.items) s ≡ copy
    last s = ap (λ l. get_or l (length old.states.items) s) states_are ∙ get_or-append_seam old.states.items copy [] s

    first : (k : ℕ) (s : Touched State) → k < length old.states.items → get_or new.states.items k s ≡ get_or old.states.items k s
    first k s l = ap (λ z. get_or z k s) states_are ∙ get_or-append old.states.items (copy ∷ []) s k l

    longer : length new.states.items ≡ length old.states.items + 1
    longer = omega (arith, ap length states_are, length-append old.states.items (copy ∷ []))

    here : get_or new.slots.items node None ≡ Some (length old.states.items)
    here = ap (λ z. get_or z node None) slots_are ∙ get_or-set_same old.slots.items node (Some (length old.states.items)) None (omega (arith, inside, long))

    other : (i : ℕ) → i ≢ node → get_or new.slots.items i None ≡ get_or old.slots.items i None
    other i ne = ap (λ z. get_or z i None) slots_are ∙ get_or-set_other old.slots.items node i (Some (length old.states.items)) None ne

    slots_long : length new.slots.items ≡ length old.slots.items
    slots_long = omega (arith, ap length slots_are, length-set old.slots.items node (Some (length old.states.items)))

    pub slot_made : IsSlot new node (length old.states.items)
    slot_made = record { slot = here; inside = omega (arith, longer) }

    pub copy_seen : (s : State) → copy.state ≡ get_or states node s → HaveSeen states old new
    copy_seen s0 is = record { same = same }
      where
        elsewhere : (i : ℕ) (s : State) (o : Option ℕ) → get_or old.slots.items i None ≡ o
            → in_slot s o new.states.items states i ≡ in_slot s o old.states.items states i
        elsewhere i s None e = refl
        elsewhere i s (Some k) e = ap (λ (z : Touched State). z.state) (first k (touched_as s) (are.filled i k e))

        same : (i : ℕ) (s : State) → i < length states → seen s states new i ≡ seen s states old i
        same i s l = ⊎_elim
            (λ t. ap (λ z. in_slot s z new.states.items states i) (ap (λ z. get_or new.slots.items z None) t ∙ here)
            ∙ ap (λ (z : Touched State). z.state) (last (touched_as s)) ∙ is
            ∙ same_read states node s0 s inside ∙ ap (λ z. get_or states z s) (sym t)
            ∙ sym (ap (λ z. in_slot s z old.states.items states i) (ap (λ z. get_or old.slots.items z None) t ∙ none)))
            (λ ne. ap (λ z. in_slot s z new.states.items states i) (other i ne) ∙ elsewhere i s (get_or old.slots.items i None) refl)
            (cases_eq i node)

    pub copies_more : part_of d node ≡ part → copy.node ≡ node → AreCopies d part states new
    copies_more in_part me = record { long = inl (omega (arith, slots_long, long)); filled = filled; named = named; placed = placed; inside = within }
      where
        filled : (i k : ℕ) → get_or new.slots.items i None ≡ Some k → k < length new.states.items
        filled i k e = ⊎_elim
            (λ t. let at : length old.states.items ≡ k = some_is (length old.states.items) k
            (sym here ∙ ap (λ z. get_or new.slots.items z None) (sym t) ∙ e) in omega (arith, at, longer))
            (λ ne. omega (arith, are.filled i k (sym (other i ne) ∙ e), longer))
            (cases_eq i node)

        named : (i k : ℕ) (s : Touched State) → get_or new.slots.items i None ≡ Some k → (get_or new.states.items k s).node ≡ i
        named i k s e = ⊎_elim
            (λ t. let at : length old.states.items ≡ k = some_is (length old.states.items) k (sym here ∙ ap (λ z. get_or new.slots.items z None) (sym t) ∙ e) in
            ap (λ z. (get_or new.states.items z s).node) (sym at) ∙ ap (λ (z : Touched State). z.node) (last s) ∙ me ∙ sym t)
            (λ ne. let free = sym (other i ne) ∙ e in ap (λ (z : Touched State). z.node) (first k s (are.filled i k free)) ∙ are.named i k s free)
            (cases_eq i node)

        -- the states that were there are not the node's
        differs : (k : ℕ) (s : Touched State) → k < length old.states.items → (get_or old.states.items k s).node ≢ node
        differs k s l e = none-some k (sym none ∙ ap (λ z. get_or old.slots.items z None) (sym e) ∙ are.placed k s l)

        placed : (k : ℕ) (s : Touched State) → k < length new.states.items → get_or new.slots.items (get_or new.states.items k s).node None ≡ Some k
        placed k s l = ⊎_elim
            (λ lt. ap (λ (z : Touched State). get_or new.slots.items z.node None) (first k s lt) ∙ other (get_or old.states.items k s).node (differs k s lt)
            ∙ are.placed k s lt)
            (λ ge. let at : length old.states.items ≡ k = omega (arith, ge, l, longer) in
            ap (λ z. get_or new.slots.items (get_or new.states.items z s).node None) (sym at)
            ∙ ap (λ (z : Touched State). get_or new.slots.items z.node None) (last s) ∙ ap (λ z. get_or new.slots.items z None) me ∙ here ∙ ap Some at)
            (cases_lt k (length old.states.items))

        within : (k : ℕ) (s : Touched State) → k < length new.states.items → ((get_or new.states.items k s).node < length states)
            × (part_of d (get_or new.states.items k s).node ≡ part)
        within k s l = ⊎_elim
            (λ lt. subst (λ (z : Touched State). (z.node < length states) × (part_of d z.node ≡ part)) (sym (first k s lt)) (are.inside k s lt))
            (λ ge. let at : length old.states.items ≡ k = omega (arith, ge, l, longer) in
            subst (λ z. ((get_or new.states.items z s).node < length states) × (part_of d (get_or new.states.items z s).node ≡ part)) at
            (subst (λ (z : Touched State). (z.node < length states) × (part_of d z.node ≡ part)) (sym (last s))
            (subst (λ z. (z < length states) × (part_of d z ≡ part)) (sym me) (inside, in_part))))
            (cases_lt k (length old.states.items))

  -- a copy is changed
  module _ (d : Division) (part : ℕ) (states : List State) (old new : Copies State) (are : AreCopies d part states old) (node slot : ℕ)
      (after : Touched State) (at : IsSlot old node slot)
      (slots_are : new.slots.items ≡ old.slots.items) (states_are : new.states.items ≡ set old.states.items slot after) (me : after.node ≡ node) where
    now_here : (s : Touched State) → get_or new.states.items slot s ≡ after
    now_here s = ap (λ l. get_or l slot s) states_are ∙ get_or-set_same old.states.items slot after s at.inside

    now_other : (k : ℕ) (s : Touched State) → k ≢ slot → get_or new.states.items k s ≡ get_or old.states.items k s
    now_other k s ne = ap (λ l. get_or l k s) states_are ∙ get_or-set_other old.states.items slot k after s ne

    as_long : length new.states.items ≡ length old.states.items
    as_long = omega (arith, ap length states_are, length-set old.states.items slot after)

    -- which state is where is as before
    same_me : (k : ℕ) (s : Touched State) → (get_or new.states.items k s).node ≡ (get_or old.states.items k s).node
    same_me k s = ⊎_elim
        (λ e. ap (λ z. (get_or new.states.items z s).node) e ∙ ap (λ (z : Touched State). z.node) (now_here s) ∙ me ∙ sym (are.named node slot s at.slot)
        ∙ ap (λ z. (get_or old.states.items z s).node) (sym e))
        (λ ne. ap (λ (z : Touched State). z.node) (now_other k s ne)) (cases_eq k slot)

    pub copies_changed : AreCopies d part states new
    copies_changed = record {
      long = ⊎_elim (λ l. inl (omega (arith, ap length slots_are, l))) (λ e. inr (slots_are ∙ e)) are.long;
      filled = λ i k e. omega (arith, are.filled i k (ap (λ z. get_or z i None) (sym slots_are) ∙ e), as_long);
      named = λ i k s e. same_me k s ∙ are.named i k s (ap (λ z. get_or z i None) (sym slots_are) ∙ e);
      placed = λ k s l. ap (λ z. get_or z (get_or new.states.items k s).node None) slots_are ∙ ap (λ z. get_or old.slots.items z None) (same_me k s)
          ∙ are.placed k s (omega (arith, l, as_long));
      inside = λ k s l. subst (λ z. (z < length states) × (part_of d z ≡ part)) (sym (same_me k s)) (are.inside k s (omega (arith, l, as_long)));
    }

    pub seen_changed : (s : State) → seen s states new node ≡ after.state
    seen_changed s = ap (λ z. in_slot s z new.states.items states node) (ap (λ z. get_or z node None) slots_are ∙ at.slot)
        ∙ ap (λ (z : Touched State). z.state) (now_here (touched_as s))

    pub seen_kept : (i : ℕ) (s : State) → i ≢ node → seen s states new i ≡ seen s states old i
    seen_kept i s ne = ap (λ z. in_slot s z new.states.items states i) (ap (λ z. get_or z i None) slots_are) ∙ go (get_or old.slots.items i None) refl
      where
        go : (o : Option ℕ) → get_or old.slots.items i None ≡ o → in_slot s o new.states.items states i ≡ in_slot s o old.states.items states i
        go None e = refl
        go (Some k) e = ap (λ (z : Touched State). z.state) (now_other k (touched_as s) (λ same. ne (sym (are.named i k (touched_as s) e)
            ∙ ap (λ z. (get_or old.states.items z (touched_as s)).node) same ∙ are.named node slot (touched_as s) at.slot)))

  -- what is in a slot is what is seen
  pub slot_seen : (states : List State) (c : Copies State) (i k : ℕ) (s : State) → IsSlot c i k
      → seen s states c i ≡ (get_or c.states.items k (touched_as s)).state
  slot_seen states c i k s at = ap (λ z. in_slot s z c.states.items states i) at.slot
