-- The states of all nodes, in the parts that have them.
use Rattle.std.proofs.Common.{Bor, ◌≡◌, ◌∙◌, ℕ, zero, suc, ◌<◌, List, [], ◌∷◌, Option, None, Some, length, map, get_or, slice_get, ap, refl, sym, subst, arith}
use Rattle.std.proofs.lemmas.List.FromFn.{get_or-map-range_with_len, get_or-range_with_len, length-map-range_with_len, length-range_with_len}
use Rattle.std.proofs.lemmas.List.{get_or_default}
use Rattle.std.proofs.lemmas.Option.{get_or_from_slice_get, none-some, option_and_then_some, same_Some, slice_get-get_or, slice_get_within}
use Rattle.std.specs.List.{All, range_with_len}
use Rattle.std.specs.Option.{IsSome, option_and_then, option_copied, some_prefix}
use Rattle.des_event.specs.declared.event.Event.{Event}
use Rattle.des_model.specs.Histories.{state}
use Rattle.des_model.specs.Windows.{part_of}
use Rattle.des_model.specs.Worlds.{AreStatesAfter}
use Rattle.des_team.specs.Chronicles.{Chronicle}
use Rattle.des_team.specs.declared.layout.Layout.{Layout}
use Rattle.des_team.specs.declared.part.Parcel.{Parcel}
use Rattle.des_team.specs.Layouts.{IsLayout, slot_of}
use Rattle.des_team.specs.Placed.{placed, state_at, state_of}
use Rattle.des_team.specs.Teams.{AreHere}

module _ {T : Type 0} where
  -- what stands before the first gap
  prefix_get : (os : List (Option T)) (k : ℕ) → k < length (some_prefix os)
      → (x : T) × (slice_get os k ≡ Some (Some x)) × (slice_get (some_prefix os) k ≡ Some x)
  prefix_get [] k inside = absurd (omega (arith, inside))
  prefix_get (None ∷ os) k inside = absurd (omega (arith, inside))
  prefix_get (Some x ∷ os) zero inside = (x, refl, refl)
  prefix_get (Some x ∷ os) (suc k) inside = prefix_get os k (omega (arith, inside))

  -- with no gap, all
  prefix_all : (g : ℕ → Option T) (f : ℕ → T) (ns : List ℕ) → All (λ n. g n ≡ Some (f n)) ns → some_prefix (map g ns) ≡ map f ns
  prefix_all g f [] each = refl
  prefix_all g f (n ∷ ns) each =
      ap (λ o. some_prefix (o ∷ map g ns)) (each 0 n (omega arith)) ∙ ap (λ xs. f n ∷ xs) (prefix_all g f ns (λ k d l. each (suc k) d (omega (arith, l))))

  -- a place that is not empty is inside the list
  filled_within : (os : List (Option T)) (i : ℕ) (x : T) → get_or os i None ≡ Some x → i < length os
  filled_within [] i x is = absurd (none-some x is)
  filled_within (o ∷ os) zero x is = omega arith
  filled_within (o ∷ os) (suc i) x is = omega (arith, filled_within os i x is)

  -- what stands behind a reference to a place that is not empty
  pub copied_is_some : (o : Option (Bor T)) (x : T) → option_copied o ≡ Some x → IsSome o
  copied_is_some None x is = absurd (none-some x is)
  copied_is_some (Some b) x is = refl

  pub copied_is : (o : Option (Bor T)) (b : Bor T) (x : T) → o ≡ Some b → option_copied o ≡ Some x → b.now ≡ x
  copied_is o b x some is = same_Some b.now x (ap option_copied (sym some) ∙ is)

module _ {M State Body Piece S : Type 0} where
  -- where the state of a node lies
  pub record LiesAt (l : Layout) (parcels : List (Option (Parcel M S State Body Piece))) (node : ℕ) (s : State) : Type 0 where
    pub part_known : node < length l.division.of_node
    pub slot_known : node < length l.slots.items
    pub parcel : Parcel M S State Body Piece
    pub part_inside : part_of l.division node < length parcels
    pub here : (other : Option (Parcel M S State Body Piece)) → get_or parcels (part_of l.division node) other ≡ Some parcel
    pub slot_inside : slot_of l node < length parcel.part.value.states.items
    pub is : (other : State) → get_or parcel.part.value.states.items (slot_of l node) other ≡ s

module _ {M State Body Piece S : Type 0} (l : Layout) (parcels : List (Option (Parcel M S State Body Piece))) where
  lies_at : (node : ℕ) (s : State) → state_of l parcels node ≡ Some s → LiesAt l parcels node s
  lies_at node s found =
      option_and_then_some (λ part. option_and_then (state_at parcels part) (slice_get l.slots.items node)) (slice_get l.division.of_node node) s found
      (λ part in_part then. option_and_then_some (state_at parcels part) (slice_get l.slots.items node) s then
      (λ slot in_slot at. option_and_then_some (λ (z : Parcel M S State Body Piece). slice_get z.part.value.states.items slot) (get_or parcels part None) s at
      (λ parcel in_parcel stored.
      let part_is : part_of l.division node ≡ part = get_or_from_slice_get l.division.of_node node part 0 in_part in
      let slot_is : slot_of l node ≡ slot = get_or_from_slice_get l.slots.items node slot 0 in_slot in
      let inside : part < length parcels = filled_within parcels part parcel in_parcel in
      record {
        part_known = slice_get_within l.division.of_node node part in_part;
        slot_known = slice_get_within l.slots.items node slot in_slot;
        parcel = parcel;
        part_inside = omega (arith, part_is, inside);
        here = λ other. ap (λ p. get_or parcels p other) part_is ∙ get_or_default parcels part other None inside ∙ in_parcel;
        slot_inside = omega (arith, slot_is, slice_get_within parcel.part.value.states.items slot s stored);
        is = λ other. ap (λ k. get_or parcel.part.value.states.items k other) slot_is
            ∙ get_or_from_slice_get parcel.part.value.states.items slot s other stored;
      })))

  -- a node whose state is in the list
  pub placed_at : (node : ℕ) → node < length (placed l parcels)
      → (s : State) × LiesAt l parcels node s × (slice_get (placed l parcels) node ≡ Some s)
  placed_at node inside =
      let numbers = range_with_len 0 (length l.slots.items) in
      let r = prefix_get (map (state_of l parcels) numbers) node inside in
      let few : node < length l.slots.items = omega (
        arith,
        slice_get_within (map (state_of l parcels) numbers) node (Some r.0) r.1,
        length-map-range_with_len (state_of l parcels) 0 (length l.slots.items),
      ) in (
        r.0,
        lies_at node r.0 (sym (get_or-map-range_with_len (state_of l parcels) 0 (length l.slots.items) node node None few (omega arith))
            ∙ get_or_from_slice_get (map (state_of l parcels) numbers) node (Some r.0) None r.1),
        r.2,
      )

module _ {M State Body Piece S : Type 0} (ch : Chronicle State Body Piece S) (l : Layout) (layout : IsLayout ch.machine.nodes l) (past : List (Event Body))
    (parcels : List (Option (Parcel M S State Body Piece))) (here : AreHere ch l past parcels) where
  state_of_is : (i : ℕ) → i < ch.machine.nodes → state_of l parcels i ≡ Some (state ch.machine past i)
  state_of_is i k =
      let s = state ch.machine past i in
      let d = l.division in
      let r = here (part_of d i) (layout.divides.in_range i 0 (omega (arith, k, layout.divides.whole))) in
      let states = r.0.part.value.states.items in
      let mine : part_of d i ≡ r.0.part.value.part = sym r.2.part_is in
      ap (option_and_then (λ part. option_and_then (state_at parcels part) (slice_get l.slots.items i)))
      (slice_get-get_or d.of_node i 0 (omega (arith, k, layout.divides.whole)))
      ∙ ap (option_and_then (state_at parcels (part_of d i))) (slice_get-get_or l.slots.items i 0 (omega (arith, k, layout.long)))
      ∙ ap (option_and_then (λ (z : Parcel M S State Body Piece). slice_get z.part.value.states.items (slot_of l i))) r.1
      ∙ slice_get-get_or states (slot_of l i) s (r.2.owned.places i k mine)
      ∙ ap Some (r.2.owned.states_are i s k mine)

  placed_is : placed l parcels ≡ map (state ch.machine past) (range_with_len 0 (length l.slots.items))
  placed_is = prefix_all (state_of l parcels) (state ch.machine past) (range_with_len 0 (length l.slots.items)) (λ n d k.
      let below : n < length l.slots.items = omega (arith, k, length-range_with_len 0 (length l.slots.items)) in
      let number : get_or (range_with_len 0 (length l.slots.items)) n d ≡ n = omega (arith, get_or-range_with_len 0 (length l.slots.items) n d below) in
      subst (λ i. state_of l parcels i ≡ Some (state ch.machine past i)) (sym number) (state_of_is n (omega (arith, below, layout.long))))

  pub placed_after : AreStatesAfter ch.machine past (placed l parcels)
  placed_after = record {
    nodes_are = ap length placed_is ∙ length-map-range_with_len (state ch.machine past) 0 (length l.slots.items) ∙ layout.long;
    state_at = λ i s k. ap (λ ss. get_or ss i s) placed_is
        ∙ get_or-map-range_with_len (state ch.machine past) 0 (length l.slots.items) i i s (omega (arith, k, layout.long)) (omega arith);
  }
