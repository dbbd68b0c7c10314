-- An event that is handled at a part.
use Rattle.std.proofs.Common.{◌≡◌, ℕ, ◌^◌, ◌+◌, ◌<◌, List, [], ◌∷◌, ◌++◌, get_or, set, ap, sym, ◌∙◌, subst, length}
use Rattle.des_event.specs.declared.event.Event.{Event}
use Rattle.des_model.specs.Machine.{Machine}
use Rattle.des_model.specs.Windows.{Division}
use Rattle.des_model.proofs.Course.{same_read}
use Rattle.des_parts.specs.declared.copies.Copies.{Copies}
use Rattle.des_parts.specs.declared.copies.Touched.{Touched}
use Rattle.des_parts.specs.declared.part_run.PartRun.{PartRun}
use Rattle.des_parts.specs.Copies.{AreCopies, HaveSeen, IsSlot, touched_as}
use Rattle.des_parts.specs.Entries.{entry_of}
use Rattle.des_parts.specs.PartRuns.{HasHandled, IsReady, seen_in}
use Rattle.des_parts.proofs.CopyFacts.{copies_changed, seen_changed, seen_kept, slot_seen}

module _ {State Body Piece : Type 0} (m : Machine State Body Piece) (Sound : ℕ → State → Type 0) (Fit : Event Body → Type 0) (Room : State → Type 0)
    (Known : Piece → Type 0) (d : Division) (states : List State) (event : Event Body) (old : PartRun State Body Piece)
    (ready : IsReady m Sound Fit Room d states old event) (mid : Copies State) (same : HaveSeen states old.copies mid)
    (are : AreCopies d old.part states mid) (slot : ℕ) (at : IsSlot mid event.target slot) (s : Touched State)
    (read : s ≡ get_or mid.states.items slot s) where
  pub read_is : s.state ≡ seen_in m states old event.target
  read_is = ap (λ (z : Touched State). z.state) (read ∙ same_read mid.states.items slot s (touched_as (m.initial 0)) at.inside)
      ∙ sym (slot_seen states mid event.target slot (m.initial 0) at) ∙ same.same event.target (m.initial 0) ready.target

  pub state_sound : Sound event.target s.state
  state_sound = subst (λ z. Sound event.target z) (sym read_is) ready.state_is_sound

  pub state_room : Room s.state
  state_room = subst Room (sym read_is) ready.room

  pub handled : (new : PartRun State Body Piece) (after : Touched State) (piece : Piece) (made : List (Event Body)) → new.part ≡ old.part
      → new.taken ≡ old.taken → new.mail ≡ old.mail → new.copies.slots.items ≡ mid.slots.items
      → new.copies.states.items ≡ set mid.states.items slot after
      → new.entries.items ≡ old.entries.items ++ entry_of (event, piece) ∷ [] → after.node ≡ s.node → after.state ≡ (m.effect s.state event).state
      → made ≡ (m.effect s.state event).events → piece ≡ (m.effect s.state event).piece → Known piece
      → (new.pushes ≡ old.pushes + length made) × (new.pushes < 2 ^ 40) → HasHandled m Known d states event old new made
  handled new after piece made parts takens mails slots_are states_are entries node after_is made_is piece_is known pushes =
      let end : after.state ≡ (m.effect (seen_in m states old event.target) event).state = after_is ∙ ap (λ z. (m.effect z event).state) read_is in
      let whole : piece ≡ (m.effect (seen_in m states old event.target) event).piece = piece_is ∙ ap (λ z. (m.effect z event).piece) read_is in
      let me : after.node ≡ event.target = node ∙ ap (λ (z : Touched State). z.node) read ∙ are.named event.target slot s at.slot in
      record {
        same_part = parts;
        same_taken = takens;
        same_mail = mails;
        copies = subst (λ p. AreCopies d p states new.copies) (sym parts)
            (copies_changed d old.part states mid new.copies are event.target slot after at slots_are states_are me);
        changed = seen_changed d old.part states mid new.copies are event.target slot after at slots_are states_are me (m.initial 0) ∙ end;
        kept = λ i l ne. seen_kept d old.part states mid new.copies are event.target slot after at slots_are states_are me i (m.initial 0) ne
            ∙ same.same i (m.initial 0) l;
        made_is = made_is ∙ ap (λ z. (m.effect z event).events) read_is;
        entries_are = entries ∙ ap (λ (z : Piece). old.entries.items ++ entry_of (event, z) ∷ []) whole;
        known = subst Known whole known;
        pushes = pushes.0;
        few = pushes.1;
      }
