use Rattle.std.proofs.Common.{◌≡◌, ◌++◌, ◌+◌, ◌-◌, ◌==◌, ℕ, [], ◌∷◌, ap, arith, refl, take, drop, length}
use Rattle.std.proofs.lemmas.Grind.{common_steps}
use Rattle.std.proofs.lemmas.List.{take_all, take_rest}
use Rattle.std.specs.List.{position_or_len}
use Rattle.chord_judge.proofs.Streams.{after_end, after_feed, no_feed_in, part_taken, piece_refused, taken_as}
use Rattle.chord_judge.proofs.stream.Stream.take.Goals.{then-length-rest+in_ok-end_line, else-length-rest}
use Rattle.chord_judge.proofs.stream.Stream.take.Goals as goal

pub loop-start-preserved : goal.loop-start-preserved
loop-start-preserved c =
    let piece = c.args.piece.now in
    let start = c.loop-start.start in
    let n = c.place_in-length.result in
    let rest = take (length piece - start) (drop start piece) in
    let same : rest ≡ drop start piece = take_rest piece start in
    let place : n ≡ position_or_len (λ (byte : ℕ). byte == 10) rest = c.place_in-length.ensures.place in
    let part = take n rest in
    elim c.if-length-rest.branch [
      | then-length-rest+in_ok-end_line w ↦ λ sc text written has.
          let before = c.loop-start.invariant sc text written has in
          taken_as sc (((text ++ take start piece) ++ part) ++ 10 ∷ []) (text ++ take (start + (n + 1)) piece) written w.end_line.new.self _
          (after_feed text piece rest start n same place w.if-length-rest.true) w.self-is
          (w.in_ok-end_line.ensures.taken sc ((text ++ take start piece) ++ part) written
          (part_taken sc (text ++ take start piece) written part c.loop-start.self _ (no_feed_in rest n place) before refl c.in_ok-extend_from_slice.ensures.items refl refl refl))
      | else-length-rest w ↦ λ sc text written has.
          let before = c.loop-start.invariant sc text written has in
          taken_as sc ((text ++ take start piece) ++ part) (text ++ take (start + (n + 1)) piece) written _ _
          (after_end text piece rest start n same w.if-length-rest.false) w.self-is
          (part_taken sc (text ++ take start piece) written part c.loop-start.self _ (no_feed_in rest n place) before refl c.in_ok-extend_from_slice.ensures.items refl refl refl)
    ]

pub returns-clause-taken : goal.returns-clause-taken
returns-clause-taken c = λ sc text written has.
    taken_as sc (text ++ take c.loop-start.start c.args.piece.now) (text ++ c.args.piece.now) written _ _
    (ap (λ l. text ++ l) (take_all c.loop-start.start c.args.piece.now (omega arith))) refl (c.loop-start.invariant sc text written has)

pub returns-in_err-end_line-clause-refused : goal.returns-in_err-end_line-clause-refused
returns-in_err-end_line-clause-refused c =
    let piece = c.args.piece.now in
    let start = c.loop-start.start in
    let n = c.place_in-length.result in
    let rest = take (length piece - start) (drop start piece) in
    let same : rest ≡ drop start piece = take_rest piece start in
    let place : n ≡ position_or_len (λ (byte : ℕ). byte == 10) rest = c.place_in-length.ensures.place in
    λ number is sc text written has.
    let before = c.loop-start.invariant sc text written has in
    piece_refused sc text piece rest start n number same place c.if-length-rest.true
    (c.end_line.ensures.refused number (let w = c.in_err-end_line.was in let f = c.from_residual-in_err-end_line.ensures in grind (arith, common_steps, w, f)) sc ((text ++ take start piece) ++ take n rest) written
    (part_taken sc (text ++ take start piece) written (take n rest) c.loop-start.self _ (no_feed_in rest n place) before refl c.in_ok-extend_from_slice.ensures.items refl refl refl))
