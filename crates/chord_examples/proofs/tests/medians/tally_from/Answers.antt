use Rattle.std.proofs.Common.{◌++◌, ◌∷◌, [], arith}
use Rattle.std.proofs.lemmas.List.{length_push}
use Rattle.chord_trace.specs.declared.piece.Piece.TheVariants as piece
use Rattle.chord_examples.proofs.tests.medians.tally_from.Goals as goal

pub add-requires-clause-room : goal.add-requires-clause-room
add-requires-clause-room c =
    let i = c.loop-number.invariant in
    omega (arith, i.1.size, i.2)

pub loop-number-preserved : goal.loop-number-preserved
loop-number-preserved c =
    let i = c.loop-number.invariant in
    let found = piece.OfEvent c.in_ok-found_after.field-0 in
    (i.0 ++ found ∷ [], c.in_ok-add.ensures.piece 4 i.0 i.1, omega (arith, length_push i.0 found, i.2))
