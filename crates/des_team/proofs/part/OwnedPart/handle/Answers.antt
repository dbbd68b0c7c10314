use Rattle.std.proofs.Common.{◌≡◌, ◌∙◌, ◌<◌, ◌++◌, ◌^◌, ℕ, List, Vec, ap, arith, length, refl, subst, sym}
use Rattle.std.proofs.lemmas.List.Elements.{All-weaker}
use Rattle.std.specs.Global.{Global}
use Rattle.std.specs.List.{All}
use Rattle.std.specs.Vec.{with_item}
use Rattle.des_event.specs.declared.event.Event.{Event}
use Rattle.des_model.specs.Machine.{Machine}
use Rattle.des_model.specs.WellFormed.{IsWellFormed}
use Rattle.des_model.specs.Windows.{Division, Divides, part_of}
use Rattle.des_team.proofs.PartHandling.{handled, read_is}
use Rattle.des_team.proofs.TeamMail.{or_same}
use Rattle.des_team.specs.Layouts.{slot_of}
use Rattle.des_team.specs.Owned.{AreApart}
use Rattle.des_team.proofs.part.OwnedPart.handle.Goals as goal

-- what a node makes is for nodes of the division, and for its parts
module _ {State Body Piece : Type 0} (m : Machine State Body Piece) {Sound : ℕ → State → Type 0} {Fit : Event Body → Type 0} (ok : IsWellFormed m Sound Fit)
    (d : Division) (divides : Divides d m.nodes) (s : State) (e : Event Body) (sound : Sound e.target s) (fit : Fit e) (made : List (Event Body))
    (is : made ≡ (m.effect s e).events) where
  made_for_nodes : All (λ (x : Event Body). x.target < length d.of_node) made
  made_for_nodes = All-weaker Fit (λ (x : Event Body). x.target < length d.of_node)
      (λ x f. subst (λ n. x.target < n) (sym divides.whole) (ok.in_range x f)) made (subst (All Fit) (sym is) (ok.makes_fit s e sound fit))

  made_for_parts : (parts : ℕ) → parts ≡ d.parts → All (λ (x : Event Body). part_of d x.target < parts) made
  made_for_parts parts same = All-weaker (λ (x : Event Body). x.target < length d.of_node) (λ (x : Event Body). part_of d x.target < parts)
      (λ x lt. subst (λ n. part_of d x.target < n) (sym same) (divides.in_range x.target 0 lt)) made made_for_nodes

pub returns-clause-handled : goal.returns-clause-handled
returns-clause-handled g c =
    handled _ c.args.layout.now c.args.event.now c.args.self.now c.requires.can c.index.result.now
    (c.index.ensures ∙ or_same c.args.layout.now.slots.items c.args.event.now.target c.index.result.now 0 (omega
    (arith, c.requires.can.layout.long, c.requires.can.target)))
    c.index_mut.result.now c.index_mut.ensures.value
    (record c.args.self.now { states = with_item c.args.self.now.states c.index.result.now c.act.new.state; made = c.replace-made.new.dest })
    c.send.new.self c.act.new.state c.act.new.made.items c.in_ok-piece.piece c.put.new.scribe c.send.new.made c.args.output.now c.put.new.self
    c.in_ok-soonest.soonest refl refl c.in_ok-piece.ensures.state c.in_ok-piece.ensures.events c.in_ok-piece.ensures.piece
    c.in_ok-soonest.ensures.sent c.in_ok-soonest.ensures.states c.in_ok-soonest.ensures.inbox c.in_ok-soonest.ensures.scribe
    c.in_ok-soonest.ensures.none_left c.in_ok-put.ensures.counted c.in_ok-put.ensures.text

pub index-requires : goal.index-requires
index-requires g c = omega (arith, c.requires.can.layout.long, c.requires.can.target)

pub index_mut-requires : goal.index_mut-requires
index_mut-requires g c =
    let l = c.args.layout.now in
    let slot : c.index.result.now ≡ slot_of l c.args.event.now.target = c.index.ensures
    ∙ or_same l.slots.items c.args.event.now.target c.index.result.now 0 (omega (arith, c.requires.can.layout.long, c.requires.can.target)) in
    omega (arith, slot, c.requires.can.place)

pub act-requires-clause-sound : goal.act-requires-clause-sound
act-requires-clause-sound g c =
    let l = c.args.layout.now in
    let event = c.args.event.now in
    let slot : c.index.result.now ≡ slot_of l event.target = c.index.ensures
    ∙ or_same l.slots.items event.target c.index.result.now 0 (omega (arith, c.requires.can.layout.long, c.requires.can.target)) in
    let same = read_is _ l event c.args.self.now c.requires.can c.index.result.now slot c.index_mut.result.now c.index_mut.ensures.value in
    subst (λ z. g.M.Machine.Sound c.args.machine.now event.target z) (sym same) c.requires.can.state_is_sound

pub act-requires-clause-room : goal.act-requires-clause-room
act-requires-clause-room g c =
    let l = c.args.layout.now in
    let event = c.args.event.now in
    let slot : c.index.result.now ≡ slot_of l event.target = c.index.ensures
    ∙ or_same l.slots.items event.target c.index.result.now 0 (omega (arith, c.requires.can.layout.long, c.requires.can.target)) in
    let same = read_is _ l event c.args.self.now c.requires.can c.index.result.now slot c.index_mut.result.now c.index_mut.ensures.value in
    subst (λ z. g.M.Machine.Room c.args.machine.now z) (sym same) c.requires.can.room

pub send-requires-clause-apart : goal.send-requires-clause-apart
send-requires-clause-apart g c =
    let l = c.args.layout.now in
    let event = c.args.event.now in
    let slot : c.index.result.now ≡ slot_of l event.target = c.index.ensures
    ∙ or_same l.slots.items event.target c.index.result.now 0 (omega (arith, c.requires.can.layout.long, c.requires.can.target)) in
    let same = read_is _ l event c.args.self.now c.requires.can c.index.result.now slot c.index_mut.result.now c.index_mut.ensures.value in
    subst (λ (es : List (Event _)). AreApart (c.args.self.now.pending ++ es))
    (sym (c.in_ok-piece.ensures.events ∙ ap (λ z. ((g.M.Machine.model c.args.machine.now).effect z event).events) same)) c.requires.can.apart

pub act-requires-clause-fit : goal.act-requires-clause-fit
act-requires-clause-fit g c = c.requires.can.event_is_sound

pub act-requires-clause-in_time : goal.act-requires-clause-in_time
act-requires-clause-in_time g c = c.requires.can.in_time

pub act-requires-clause-empty : goal.act-requires-clause-empty
act-requires-clause-empty g c = ap (λ (v : Vec (Event _) Global). v.items) c.replace-made.ensures.value ∙ c.requires.can.none_made

pub send-requires-clause-parts : goal.send-requires-clause-parts
send-requires-clause-parts g c =
    let l = c.args.layout.now in
    let event = c.args.event.now in
    let slot : c.index.result.now ≡ slot_of l event.target = c.index.ensures
    ∙ or_same l.slots.items event.target c.index.result.now 0 (omega (arith, c.requires.can.layout.long, c.requires.can.target)) in
    let same = read_is _ l event c.args.self.now c.requires.can c.index.result.now slot c.index_mut.result.now c.index_mut.ensures.value in
    let sound = subst (λ z. g.M.Machine.Sound c.args.machine.now event.target z) (sym same) c.requires.can.state_is_sound in
    let m = g.M.Machine.model c.args.machine.now in
    let ok = g.met.M.Machine.simulable c.args.machine.now c.recall.ensures in
    made_for_parts m ok.well_formed l.division c.requires.can.layout.divides c.index_mut.result.now event sound c.requires.can.event_is_sound
    c.act.new.made.items c.in_ok-piece.ensures.events (length c.args.self.now.outbox) c.requires.can.out_long

pub send-requires-clause-nodes : goal.send-requires-clause-nodes
send-requires-clause-nodes g c =
    let l = c.args.layout.now in
    let event = c.args.event.now in
    let slot : c.index.result.now ≡ slot_of l event.target = c.index.ensures
    ∙ or_same l.slots.items event.target c.index.result.now 0 (omega (arith, c.requires.can.layout.long, c.requires.can.target)) in
    let same = read_is _ l event c.args.self.now c.requires.can c.index.result.now slot c.index_mut.result.now c.index_mut.ensures.value in
    let sound = subst (λ z. g.M.Machine.Sound c.args.machine.now event.target z) (sym same) c.requires.can.state_is_sound in
    let m = g.M.Machine.model c.args.machine.now in
    let ok = g.met.M.Machine.simulable c.args.machine.now c.recall.ensures in
    made_for_nodes m ok.well_formed l.division c.requires.can.layout.divides c.index_mut.result.now event sound c.requires.can.event_is_sound
    c.act.new.made.items c.in_ok-piece.ensures.events

pub put-requires-clause-known : goal.put-requires-clause-known
put-requires-clause-known g c = c.in_ok-piece.ensures.known

pub put-requires-clause-room : goal.put-requires-clause-room
put-requires-clause-room g c = subst (λ s. g.S.Scribe.size s < 2 ^ 40) (sym c.in_ok-soonest.ensures.scribe) c.requires.room

pub returns-clause-part : goal.returns-clause-part
returns-clause-part g c = c.in_ok-soonest.ensures.part
