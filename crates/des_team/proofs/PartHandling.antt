-- The target of an event has acted on it.
use Rattle.std.proofs.Common.{◌≡◌, ◌∙◌, ℕ, List, [], ◌∷◌, ◌++◌, Option, get_or, set, ap, sym, subst, Vec}
use Rattle.std.specs.Global.{Global}
use Rattle.des_event.specs.declared.event.Event.{Event}
use Rattle.des_team.specs.Chronicles.{Chronicle}
use Rattle.des_team.specs.Entries.{Entry}
use Rattle.des_team.specs.declared.layout.Layout.{Layout}
use Rattle.des_team.specs.declared.output.Output.{Output}
use Rattle.des_team.specs.declared.part.OwnedPart.{OwnedPart}
use Rattle.des_team.specs.Layouts.{slot_of}
use Rattle.des_team.specs.Outputs.{IsText}
use Rattle.des_team.specs.Running.{HasHandled, HasSent, CanHandle, state_at}
use Rattle.des_team.proofs.TeamMail.{or_same}

module _ {M State Body Piece S : Type 0} (ch : Chronicle State Body Piece S) {Sound : ℕ → State → Type 0} {Fit : Event Body → Type 0} {Room : State → Type 0}
    (l : Layout) (event : Event Body) (old : OwnedPart M S State Body Piece) (ready : CanHandle ch Sound Fit Room l old event) (slot : ℕ)
    (at : slot ≡ slot_of l event.target) (s : State) (read : s ≡ get_or old.states.items slot s) where
  pub read_is : s ≡ state_at ch l old event.target
  read_is = read ∙ ap (λ k. get_or old.states.items k s) at ∙ or_same old.states.items (slot_of l event.target) s (ch.machine.initial 0) ready.place

  pub handled : (mid sent : OwnedPart M S State Body Piece) (after : State) (made : List (Event Body)) (piece : Piece) (scribe : S)
      (empty : Vec (Event Body) Global) (before out : Output) (away : Option ℕ) → mid ≡ record old { states = mid.states; made = mid.made }
      → mid.states.items ≡ set old.states.items slot after
      → after ≡ (ch.machine.effect s event).state → made ≡ (ch.machine.effect s event).events → piece ≡ (ch.machine.effect s event).piece
      → HasSent l.division made mid sent away → sent.states ≡ mid.states → sent.inbox ≡ mid.inbox → sent.scribe ≡ mid.scribe → empty.items ≡ []
      → ((pieces : List Piece) → ch.HasCounted pieces sent.scribe → ch.HasCounted (pieces ++ piece ∷ []) scribe)
      → ((entries : List Entry) → IsText entries before → IsText (entries ++ record { key = event.key; bytes = ch.text piece } ∷ []) out)
      → HasHandled ch l event old (record sent { scribe = scribe; made = empty }) before out away
  handled mid sent after made piece scribe empty before out away mid_is set_is after_is made_is piece_is h states_same inbox_same scribe_same none count put =
      let same_piece : piece ≡ (ch.machine.effect (state_at ch l old event.target) event).piece = piece_is
      ∙ ap (λ z. (ch.machine.effect z event).piece) read_is in
      let goes : HasSent l.division (ch.machine.effect (state_at ch l old event.target) event).events (record old { states = mid.states; made = mid.made }) sent
      away =
      subst (λ es. HasSent l.division es (record old { states = mid.states; made = mid.made }) sent away)
      (made_is ∙ ap (λ z. (ch.machine.effect z event).events) read_is)
      (subst (λ p. HasSent l.division made p sent away) mid_is h) in
      record {
        same_inbox = inbox_same ∙ ap (λ (p : OwnedPart M S State Body Piece). p.inbox) mid_is;
        states_are = ap (λ z. z.items) states_same ∙ set_is
            ∙ ap (λ k. set old.states.items k after) at
            ∙ ap (λ z. set old.states.items (slot_of l event.target) z) (after_is ∙ ap (λ z. (ch.machine.effect z event).state) read_is);
        sent = record { kept = goes.kept; ordered = goes.ordered; out_long = goes.out_long; sent = goes.sent; soonest_is = goes.soonest_is };
        none_made = none;
        counted = λ pieces t. subst (λ b. ch.HasCounted (pieces ++ b ∷ []) scribe) same_piece
            (count pieces (subst (λ z. ch.HasCounted pieces z) (sym (scribe_same ∙ ap (λ (p : OwnedPart M S State Body Piece). p.scribe) mid_is)) t));
        text_is = λ entries t. subst (λ b. IsText (entries ++ record { key = event.key; bytes = ch.text b } ∷ []) out) same_piece (put entries t);
      }
