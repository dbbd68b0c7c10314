use Rattle.std.proofs.Common.{◌≡◌, ◌∙◌, ◌<◌, ◌+◌, ◌++◌, [], ◌∷◌, ap, get_or, Global, length, List, ℕ, sym, take, Vec}
use Rattle.std.proofs.lemmas.List.{flat_map_more, take_more}
use Rattle.std.specs.List.{flat_map}
use Rattle.chord_judge.specs.declared.row.Lookup.{Lookup}
use Rattle.chord_judge.proofs.open.all_in.Goals as goal

-- the lookups of one more list
more : (lists : List (Vec Lookup Global)) (i : ℕ) (x : Vec Lookup Global) (done after : List Lookup)
    → done ≡ flat_map (λ list. list.items) (take i lists) → i < length lists → x ≡ get_or lists i x → after ≡ done ++ x.items
    → after ≡ flat_map (λ list. list.items) (take (i + 1) lists)
more lists i x done after before within is added =
    let items : Vec Lookup Global → List Lookup = λ list. list.items in
    let next : take (i + 1) lists ≡ take i lists ++ x ∷ [] =
    take_more lists i x within ∙ ap (λ (y : Vec Lookup Global). take i lists ++ y ∷ []) (sym is) in
    added ∙ ap (λ (l : List Lookup). l ++ x.items) before ∙ flat_map_more items [] (take i lists) x ∙ sym (ap (flat_map items) next)

pub loop-list-preserved : goal.loop-list-preserved
loop-list-preserved c =
    more c.args.lists.now c.loop-list.list-index c.list-item.result c.loop-list.lookups.items c.extend_from_slice.new.self.items c.loop-list.invariant
    c.loop-list-test.true c.list-item.is
    (c.in_ok-extend_from_slice.ensures.items ∙ ap (λ (l : List Lookup). c.loop-list.lookups.items ++ l) c.as_slice.ensures.value)
