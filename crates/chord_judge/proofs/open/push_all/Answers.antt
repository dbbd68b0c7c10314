use Rattle.std.proofs.Common.{◌≡◌, ◌∙◌, ◌<◌, ◌+◌, ◌++◌, [], ◌∷◌, ap, append_assoc, get_or, length, List, map, ℕ, sym, take}
use Rattle.std.proofs.lemmas.List.{map-append, take_more}
use Rattle.chord_judge.specs.Rows.{ends_by}
use Rattle.chord_judge.specs.declared.row.Lookup.{Lookup}
use Rattle.chord_judge.specs.declared.row.Row.{Row}
use Rattle.chord_judge.proofs.open.push_all.Goals as goal

-- the row of one more lookup
more : (make : Lookup → Row) (old rows after : List Row) (xs : List Lookup) (i : ℕ) (x : Lookup) → rows ≡ old ++ map make (take i xs) → i < length xs
    → x ≡ get_or xs i x → after ≡ rows ++ make x ∷ [] → after ≡ old ++ map make (take (i + 1) xs)
more make old rows after xs i x before within is added =
    let next : take (i + 1) xs ≡ take i xs ++ x ∷ [] = take_more xs i x within ∙ ap (λ (y : Lookup). take i xs ++ y ∷ []) (sym is) in
    added ∙ ap (λ (l : List Row). l ++ make x ∷ []) before ∙ append_assoc old (map make (take i xs)) (make x ∷ [])
    ∙ ap (λ (l : List Row). old ++ l) (sym (ap (map make) next ∙ map-append make (take i xs) (x ∷ [])))

pub loop-lookup-preserved : goal.loop-lookup-preserved
loop-lookup-preserved c =
    more (ends_by c.args.end) c.args.rows.now.items c.loop-lookup.rows.items c.push.new.self.items c.args.lookups.now c.loop-lookup.lookup-index
    c.lookup-item.result c.loop-lookup.invariant c.loop-lookup-test.true c.lookup-item.is c.in_ok-push.ensures.items
