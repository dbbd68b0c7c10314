use Rattle.std.proofs.Common.{◌≡◌, ◌∙◌, ap, append-nil, arith, length, refl, sym, ◌++◌, [], ◌∷◌, false, List, ℕ, true, vec_len}
use Rattle.std.proofs.lemmas.Bool.Decides.{nat_tests}
use Rattle.chord_judge.proofs.Digesting.{digest_as, line_ends, line_grows, with_end}
use Rattle.chord_judge.proofs.ReadTraces.{feedless}
use Rattle.chord_judge.proofs.Streams.{on_ok}
use Rattle.chord_judge.proofs.digest.Digest.take_line.Goals as goal

no_items : (items : List ℕ) → length items ≡ 0 → items ≡ []
no_items [] h = refl
no_items (x ∷ items) h = absurd (omega (arith, h))

pub returns-then-is_empty : goal.returns-then-is_empty
returns-then-is_empty c =
    let part = c.args.part.now in
    let test = c.if-is_empty.ensures in
    let len : vec_len c.args.self.now.line ≡ 0 = grind (arith, nat_tests, test) in
    let empty : c.args.self.now.line.items ≡ [] = no_items _ (omega (arith, len, c.args.self.now.line.ok.0)) in
    on_ok _ _ c.read.result
    (λ adds text written has.
    digest_as _ _ written _ (with_end (text ++ part) c.args.ends true c.if-ends.true)
    (line_ends text part written part _ _ (feedless part c.requires) has (sym (ap (λ (l : List ℕ). l ++ part) empty)) adds (rw c.read.ensures.line empty)))
    c.read.ensures.adds

pub returns-then-not-ends : goal.returns-then-not-ends
returns-then-not-ends c =
    let part = c.args.part.now in
    λ text written has.
    digest_as _ _ written _ (sym (append-nil (text ++ part)) ∙ with_end (text ++ part) c.args.ends false c.if-not-ends.true)
    (line_grows text part written _ _ (feedless part c.requires) has refl c.in_ok-extend_from_slice.ensures.items)

pub returns : goal.returns
returns c =
    let part = c.args.part.now in
    let line = c.as_slice.result.now in
    let grown : line ≡ c.args.self.now.line.items ++ part = rw (c.as_slice.ensures.value, c.replace-line.ensures.value) c.in_ok-extend_from_slice.ensures.items in
    on_ok _ _ c.read-outcome.result
    (λ adds text written has.
    digest_as _ _ written _ (with_end (text ++ part) c.args.ends true c.if-not-ends.false)
    (line_ends text part written line _ _ (feedless part c.requires) has grown adds c.clear.ensures.items))
    c.read-outcome.ensures.adds
