use Rattle.std.proofs.Common.{◌≡◌, ◌∙◌, ◌++◌, ◌∷◌, ◌<◌, ℕ, suc, Bool, true, cond, List, length, get_or, take, drop, sym, ap}
use Rattle.std.proofs.Math.Seq.{drop-cons}
use Rattle.chord_judge.specs.Judged.{is_ended_by, without_first}
use Rattle.chord_judge.specs.declared.row.Lookup.{Lookup}
use Rattle.chord_judge.proofs.open.first_place.Goals as goal

ends_there : (t : Lookup → Bool) (xs : List Lookup) (i : ℕ) (x : Lookup) → i < length xs → x ≡ get_or xs i x → t x ≡ true → without_first t (drop i xs) ≡ drop (suc i) xs
ends_there t xs i x lt is passes =
    ap (λ (l : List Lookup). without_first t l) (drop-cons xs i x lt ∙ ap (λ (y : Lookup). y ∷ drop (suc i) xs) (sym is))
    ∙ ap (λ b. cond b (drop (suc i) xs) (x ∷ without_first t (drop (suc i) xs))) passes

pub returns-then-is_of-clause-others : goal.returns-then-is_of-clause-others
returns-then-is_of-clause-others c =
    let t = is_ended_by c.args.ended.node c.args.ended.key c.args.ended.time c.args.ended.us in let xs = c.args.lookups.now in let i = c.loop-place.place in
    c.loop-place.invariant.others
    ∙ ap (λ (l : List Lookup). take i xs ++ l) (ends_there t xs i c.index-lookups-place.result c.loop-place-test.true c.index-lookups-place.is (sym c.is_of.ensures ∙ c.if-is_of.true))
