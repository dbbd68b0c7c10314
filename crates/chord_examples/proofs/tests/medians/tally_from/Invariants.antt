-- The tally has a piece for each event so far.
use Rattle.std.proofs.Common.{◌≡◌, List, length}
use Rattle.chord_trace.specs.Tally.{IsTallyOf}
use Rattle.chord_trace.specs.declared.piece.Piece.{Piece}
use Rattle.chord_examples.proofs.tests.medians.tally_from.Given as goal

abbrev pub invariant-loop-number : goal.invariant-loop-number
invariant-loop-number l = (pieces : List Piece) × IsTallyOf 4 pieces l.tally × (length pieces ≡ l.number)
