use Rattle.std.proofs.Common.{◌≡◌, ◌∙◌, Some, ap, arith, get_or, length, sym}
use Rattle.std.proofs.lemmas.List.{get_or_default}
use Rattle.des_team.specs.Layouts.{slot_of}
use Rattle.des_team.proofs.Placed.{copied_is, copied_is_some, placed_at}
use Rattle.des_team.proofs.audits.PlacedStatesStatesState.of.Goals as goal

pub part_of-part-requires : goal.part_of-part-requires
part_of-part-requires g c = (placed_at c.args.self.now.layout.now c.args.self.now.parcels.now c.args.node c.requires).1.part_known

pub index-requires : goal.index-requires
index-requires g c =
    let at = placed_at c.args.self.now.layout.now c.args.self.now.parcels.now c.args.node c.requires in
    omega (arith, at.1.slot_known)

pub bounds-self-part : goal.bounds-self-part
bounds-self-part g c =
    let at = placed_at c.args.self.now.layout.now c.args.self.now.parcels.now c.args.node c.requires in
    omega (arith, at.1.part_inside, c.part_of-part.ensures)

pub unwrap-parcel-requires : goal.unwrap-parcel-requires
unwrap-parcel-requires g c =
    let parcels = c.args.self.now.parcels.now in
    let at = placed_at c.args.self.now.layout.now parcels c.args.node c.requires in
    copied_is_some c.as_ref.result at.1.parcel (c.as_ref.ensures.value
    ∙ ap (λ p. get_or parcels p c.index-self-part.result) c.part_of-part.ensures ∙ at.1.here c.index-self-part.result)

pub index-requires-2 : goal.index-requires-2
index-requires-2 g c =
    let l = c.args.self.now.layout.now in
    let parcels = c.args.self.now.parcels.now in
    let at = placed_at l parcels c.args.node c.requires in
    let parcel = copied_is c.as_ref.result c.unwrap-parcel.result at.1.parcel c.unwrap-parcel.ensures (c.as_ref.ensures.value
    ∙ ap (λ p. get_or parcels p c.index-self-part.result) c.part_of-part.ensures ∙ at.1.here c.index-self-part.result) in
    let slot : c.index.result.now ≡ slot_of l c.args.node = c.index.ensures
    ∙ get_or_default l.slots.items c.args.node c.index.result.now 0 at.1.slot_known in
    omega (arith, slot, at.1.slot_inside, ap (λ p. length p.part.value.states.items) parcel, ap (λ p. length p.states.items) c.deref.ensures)

pub returns : goal.returns
returns g c =
    let l = c.args.self.now.layout.now in
    let parcels = c.args.self.now.parcels.now in
    let at = placed_at l parcels c.args.node c.requires in
    let parcel = copied_is c.as_ref.result c.unwrap-parcel.result at.1.parcel c.unwrap-parcel.ensures (c.as_ref.ensures.value
    ∙ ap (λ p. get_or parcels p c.index-self-part.result) c.part_of-part.ensures ∙ at.1.here c.index-self-part.result) in
    let slot : c.index.result.now ≡ slot_of l c.args.node = c.index.ensures
    ∙ get_or_default l.slots.items c.args.node c.index.result.now 0 at.1.slot_known in
    let other = c.index-2.result.now in
    at.2 ∙ ap Some (sym (c.index-2.ensures ∙ ap (λ k. get_or c.deref.result.now.states.items k other) slot
    ∙ ap (λ p. get_or p.states.items (slot_of l c.args.node) other) c.deref.ensures
    ∙ ap (λ p. get_or p.part.value.states.items (slot_of l c.args.node) other) parcel ∙ at.1.is other))
