use Rattle.std.proofs.Common.{◌≡◌, ap, arith, ◌++◌, ◌-◌, List, ℕ, drop, length, refl, take}
use Rattle.std.proofs.lemmas.List.{take_all, take_rest}
use Rattle.chord_judge.proofs.Digesting.{digest_as, is_feedless, piece_on}
use Rattle.chord_judge.proofs.Streams.{no_feed_in}
use Rattle.chord_judge.proofs.digest.Digest.take.Goals as goal

pub loop-start-preserved : goal.loop-start-preserved
loop-start-preserved c =
    let piece = c.args.piece.now in
    let start = c.loop-start.start in
    let rest = take (length piece - start) (drop start piece) in
    λ text written has.
    digest_as _ _ written _ (piece_on text piece rest start c.place_in-length.result _ (take_rest piece start) c.place_in-length.ensures.place refl)
    (c.in_ok-take_line.ensures (text ++ take start piece) written (c.loop-start.invariant text written has))

pub returns : goal.returns
returns c = λ text written has.
    digest_as _ _ written _ (ap (λ (l : List ℕ). text ++ l) (take_all c.loop-start.start c.args.piece.now (omega arith))) (c.loop-start.invariant text written has)

pub take_line-requires : goal.take_line-requires
take_line-requires c = is_feedless _ (no_feed_in _ c.place_in-length.result c.place_in-length.ensures.place)
