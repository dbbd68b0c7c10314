-- The start and the end of a run by windows.
use Rattle.std.proofs.Common.{◌≡◌, ◌∙◌, ℕ, List, [], Option, None, ap, sym, subst}
use Rattle.std.proofs.KnownBytes.{Appends-nil}
use Rattle.des_machine.specs.Runs.{Writes}
use Rattle.des_machine.proofs.Ends.{audits_at_start}
use Rattle.des_model.specs.Histories.{history, open_audits, output}
use Rattle.des_model.specs.Machine.{Machine}
use Rattle.des_model.specs.Scribes.{IsAtEnd}
use Rattle.des_window.proofs.Openings.{opens_none}
use Rattle.des_parts.specs.declared.engine.WindowEngine.{WindowEngine}
use Rattle.des_parts.specs.WindowEngine.{IsAt}
use Rattle.des_parts.specs.Worlds.{IsWorldOf}

module _ {M S State Body Piece : Type 0} (text : Piece → List ℕ) (m : Machine State Body Piece) (HasCounted : List Piece → S → Type 0) where
  pub start_at : (now : Option (List ℕ)) (e : WindowEngine M S State Body Piece) → IsWorldOf m e.world → e.world.count ≡ 0 → e.journal.clock ≡ m.audit_times
      → HasCounted [] e.journal.scribe → IsAt text m HasCounted now now e
  start_at now e world count_is clock_is nothing =
      let none : history m e.world.count ≡ [] = ap (history m) count_is in
      record {
        world = world;
        audits = clock_is ∙ sym (audits_at_start m) ∙ ap (open_audits m) (sym none);
        written = subst (λ h. Writes text now now (output m h)) (sym none) (Appends-nil now);
        counted = subst (λ h. HasCounted (output m h) e.journal.scribe) (sym none) nothing;
      }

  pub at_end : (old now : Option (List ℕ)) (e : WindowEngine M S State Body Piece) → IsAt text m HasCounted old now e → e.world.opening ≡ None
      → IsAtEnd m (Writes text) old now e.world.count e.journal.clock
  at_end old now e at ended = record {
    long = at.world.long;
    within = at.world.within;
    ended = opens_none m (history m e.world.count) (sym at.world.opening_is ∙ ended);
    audits = at.audits;
    put = at.written;
  }
