-- A tally of a trace, of the trace with one piece more, and of two traces together.
use Rattle.std.proofs.Common.{◌≡◌, ◌∙◌, ◌+◌, ℕ, List, [], ◌∷◌, ◌++◌, ap, sym, subst, arith, append-nil, length}
use Rattle.std.specs.List.{filter_map}
use Rattle.std.proofs.lemmas.List.{length-append, length_push}
use Rattle.std.proofs.lemmas.List.Concat.{flat_map-append}
use Rattle.std.proofs.lemmas.List.Elements.{filter_map-append}
use Rattle.chord_audit.specs.declared.audit_line.AuditLine.{AuditLine}
use Rattle.chord_event.specs.declared.block.Block.{Block}
use Rattle.chord_event.specs.declared.line.Line.{Line}
use Rattle.chord_trace.specs.declared.audit_counts.AuditCounts.{AuditCounts}
use Rattle.chord_trace.specs.declared.piece.Piece.{Piece}
use Rattle.chord_trace.specs.declared.piece.Piece.TheVariants as piece
use Rattle.chord_trace.specs.declared.tally.Tally.{Tally}
use Rattle.chord_trace.specs.AuditCounts.{audit_counts_in, audits_plus}
use Rattle.chord_trace.specs.Counts.{counts_in, plus}
use Rattle.chord_trace.specs.FoundLookups.{HasFound}
use Rattle.chord_trace.specs.Kinds.{found_in}
use Rattle.chord_trace.specs.Pieces.{block_in, audit_in, lines_in, blocks_of, lines_of, audits_of}
use Rattle.chord_trace.specs.Report.{found_lookups}
use Rattle.chord_trace.specs.Tally.{IsTallyOf}
use Rattle.chord_trace.proofs.Additive.{count_by-append, blocks-add, audits-append, founds-append, lines-append}
use Rattle.chord_trace.specs.declared.found_lookups.Found.{Found}

blocks_more : (pieces : List Piece) (b : Block) → blocks_of (pieces ++ piece.OfEvent b ∷ []) ≡ blocks_of pieces ++ b ∷ []
blocks_more pieces b = filter_map-append block_in pieces (piece.OfEvent b ∷ [])

audits_same : (pieces : List Piece) (b : Block) → audits_of (pieces ++ piece.OfEvent b ∷ []) ≡ audits_of pieces
audits_same pieces b = filter_map-append audit_in pieces (piece.OfEvent b ∷ []) ∙ append-nil (audits_of pieces)

blocks_same : (pieces : List Piece) (a : AuditLine) → blocks_of (pieces ++ piece.OfAudit a ∷ []) ≡ blocks_of pieces
blocks_same pieces a = filter_map-append block_in pieces (piece.OfAudit a ∷ []) ∙ append-nil (blocks_of pieces)

audits_more : (pieces : List Piece) (a : AuditLine) → audits_of (pieces ++ piece.OfAudit a ∷ []) ≡ audits_of pieces ++ a ∷ []
audits_more pieces a = filter_map-append audit_in pieces (piece.OfAudit a ∷ [])

lines_more : (pieces : List Piece) (b : Block) → lines_of (pieces ++ piece.OfEvent b ∷ []) ≡ lines_of pieces ++ b.lines
lines_more pieces b = flat_map-append lines_in pieces (piece.OfEvent b ∷ []) ∙ ap (λ l. lines_of pieces ++ l) (append-nil b.lines)

lines_same : (pieces : List Piece) (a : AuditLine) → lines_of (pieces ++ piece.OfAudit a ∷ []) ≡ lines_of pieces
lines_same pieces a = flat_map-append lines_in pieces (piece.OfAudit a ∷ []) ∙ append-nil (lines_of pieces)

counts_in-append : (xs ys : List Line) → counts_in (xs ++ ys) ≡ plus (counts_in xs) (counts_in ys)
counts_in-append xs ys = simp count_by-append

audit_counts_in-append : (xs ys : List AuditLine) → audit_counts_in (xs ++ ys) ≡ audits_plus (audit_counts_in xs) (audit_counts_in ys)
audit_counts_in-append xs ys = simp (count_by-append, length-append)

-- with a block
pub with_block : (profile : ℕ) (pieces : List Piece) (b : Block) (old new : Tally) → IsTallyOf profile pieces old
    → new.profile ≡ old.profile → new.events ≡ old.events + 1 → new.counts ≡ plus old.counts (counts_in b.lines)
    → ((seen : List Found) → HasFound seen old.founds → HasFound (seen ++ filter_map found_in b.lines) new.founds)
    → new.audits ≡ old.audits → IsTallyOf profile (pieces ++ piece.OfEvent b ∷ []) new
with_block profile pieces b old new t same events counts founds audits =
    let lines = lines_more pieces b in
    let found = ap (filter_map found_in) lines ∙ filter_map-append found_in (lines_of pieces) b.lines in
    record {
      in_profile = same ∙ t.in_profile;
      size = omega (arith, events, ap AuditCounts.audits audits, t.size, length_push pieces (piece.OfEvent b));
      events = omega (arith, events, t.events, ap length (blocks_more pieces b), length_push (blocks_of pieces) b);
      counts = counts ∙ ap (λ c. plus c (counts_in b.lines)) t.counts ∙ sym (counts_in-append (lines_of pieces) b.lines) ∙ ap counts_in (sym lines);
      founds = subst (λ l. HasFound l new.founds) (sym found) (founds _ t.founds);
      audits = audits ∙ t.audits ∙ ap audit_counts_in (sym (audits_same pieces b));
    }

-- with an audit
pub with_audit : (profile : ℕ) (pieces : List Piece) (a : AuditLine) (old new : Tally) → IsTallyOf profile pieces old
    → new.profile ≡ old.profile → new.events ≡ old.events → new.counts ≡ old.counts → new.founds ≡ old.founds
    → new.audits ≡ audits_plus old.audits (audit_counts_in (a ∷ []))
    → IsTallyOf profile (pieces ++ piece.OfAudit a ∷ []) new
with_audit profile pieces a old new t same events counts founds audits =
    let lines = sym (lines_same pieces a) in
    let one = audit_counts_in (a ∷ []) in
    record {
      in_profile = same ∙ t.in_profile;
      size = omega (arith, events, ap AuditCounts.audits audits, t.size, length_push pieces (piece.OfAudit a));
      events = events ∙ t.events ∙ ap length (sym (blocks_same pieces a));
      counts = counts ∙ t.counts ∙ ap counts_in lines;
      founds = rw founds (subst (λ l. HasFound (filter_map found_in l) old.founds) lines t.founds);
      audits = audits ∙ ap (λ c. audits_plus c one) t.audits ∙ sym (audit_counts_in-append (audits_of pieces) (a ∷ []))
          ∙ ap audit_counts_in (sym (audits_more pieces a));
    }

-- of two traces together
pub joined : (profile : ℕ) (mine others : List Piece) (a b new : Tally) → IsTallyOf profile mine a → IsTallyOf profile others b
    → new.profile ≡ a.profile → new.events ≡ a.events + b.events → new.counts ≡ plus a.counts b.counts
    → ((seen more : List Found) → HasFound seen a.founds → HasFound more b.founds → HasFound (seen ++ more) new.founds)
    → new.audits ≡ audits_plus a.audits b.audits
    → IsTallyOf profile (mine ++ others) new
joined profile mine others a b new t u same events counts founds audits =
    record {
      in_profile = same ∙ t.in_profile;
      size = omega (arith, events, ap AuditCounts.audits audits, t.size, u.size, length-append mine others);
      events = omega (arith, events, t.events, u.events, blocks-add mine others);
      counts = counts ∙ ap (λ c. plus c b.counts) t.counts ∙ ap (plus (counts_in (lines_of mine))) u.counts
          ∙ sym (counts_in-append (lines_of mine) (lines_of others)) ∙ ap counts_in (sym (lines-append mine others));
      founds = subst (λ l. HasFound l new.founds) (sym (founds-append mine others)) (founds (found_lookups mine) (found_lookups others) t.founds u.founds);
      audits = audits ∙ ap (λ c. audits_plus c b.audits) t.audits ∙ ap (audits_plus (audit_counts_in (audits_of mine))) u.audits
          ∙ sym (audit_counts_in-append (audits_of mine) (audits_of others)) ∙ ap audit_counts_in (sym (audits-append mine others));
    }
