-- What a trace is made of.
use Rattle.std.specs.Prelude.{List, [], Option, Some, None}
use Rattle.std.specs.List.{filter_map, flat_map}
use Rattle.chord_audit.specs.declared.audit_line.AuditLine.{AuditLine}
use Rattle.chord_event.specs.declared.block.Block.{Block}
use Rattle.chord_event.specs.declared.line.Line.{Line}
use Rattle.chord_trace.specs.declared.piece.Piece.{Piece}
use Rattle.chord_trace.specs.declared.piece.Piece.TheVariants as piece

-- the block of a piece, if the piece is of an event
abbrev pub block_in : Piece → Option Block
block_in (piece.OfEvent block) = Some block
block_in (piece.OfAudit audit) = None

-- the lines of an event's block, in the order in which they were made; an audit has none
abbrev pub lines_in : Piece → List Line
lines_in (piece.OfEvent block) = block.lines
lines_in (piece.OfAudit audit) = []

-- the audit line of a piece, if the piece is an audit
abbrev pub audit_in : Piece → Option AuditLine
audit_in (piece.OfEvent block) = None
audit_in (piece.OfAudit audit) = Some audit

-- the blocks of a trace, in its order: the event that was taken first comes first
abbrev pub blocks_of : List Piece → List Block
blocks_of = filter_map block_in

-- the lines of a trace, in the order of its blocks
abbrev pub lines_of : List Piece → List Line
lines_of = flat_map lines_in

-- the audit lines of a trace, in its order
abbrev pub audits_of : List Piece → List AuditLine
audits_of = filter_map audit_in
