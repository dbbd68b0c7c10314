-- What a tally has of a trace.
use Rattle.std.specs.Prelude.{◌≡◌, ℕ, ◌+◌, List, length}
use Rattle.chord_trace.specs.AuditCounts.{audit_counts_in}
use Rattle.chord_trace.specs.Counts.{counts_in}
use Rattle.chord_trace.specs.FoundLookups.{HasFound}
use Rattle.chord_trace.specs.Pieces.{blocks_of, lines_of, audits_of}
use Rattle.chord_trace.specs.Report.{found_lookups}
use Rattle.chord_trace.specs.declared.piece.Piece.{Piece}
use Rattle.chord_trace.specs.declared.tally.Tally.{Tally}

-- how many blocks and audits the tally has
abbrev pub taken : Tally → ℕ
taken t = t.events + t.audits.audits

-- the tally has what the trace of these pieces has, in this profile
pub record IsTallyOf (profile : ℕ) (pieces : List Piece) (t : Tally) : Type 0 where
  pub in_profile : t.profile ≡ profile
  pub size : taken t ≡ length pieces
  pub events : t.events ≡ length (blocks_of pieces)
  pub counts : t.counts ≡ counts_in (lines_of pieces)
  pub founds : HasFound (found_lookups pieces) t.founds
  pub audits : t.audits ≡ audit_counts_in (audits_of pieces)
