use Rattle.std.proofs.Common.{◌≡◌, ◌≤◌, ◌<◌, ◌∙◌, ◌+◌, ◌++◌, ◌∷◌, List, ap, append_assoc, append-nil, arith, drop, length, map, slice_index_or, sym}
use Rattle.std.proofs.lemmas.List.{drop_all, drop_more, map-append}
use Rattle.des_queue.specs.Shelf.{get}
use Rattle.des_queue.specs.Days.{IsListed}
use Rattle.des_queue.specs.Places.{Entry, entry_at}
use Rattle.des_queue.proofs.Placed.{PlaceList, all_there, joined, listed_at}
use Rattle.des_queue.proofs.days.Days.add_all.Goals as goal

pub add_entries-requires-clause-there : goal.add_entries-requires-clause-there
add_entries-requires-clause-there g c =
    let d = c.args.self.now in let s = get d.events in let l = c.list-item.result in let i = c.loop-list.list-index in
    all_there s d.today d.latest i l.items
    (listed_at (IsListed s d.today d.latest) i d.lists.items l l (omega (arith, c.loop-list-test.true, c.deref-list-items.ensures.len, d.lists.ok.0))
    (c.list-item.is ∙ ap (λ (ls : List PlaceList). slice_index_or ls i l) c.deref-list-items.ensures.value) c.requires.1.placed)

pub loop-list-preserved : goal.loop-list-preserved
loop-list-preserved g c =
    let d = c.args.self.now in let e = entry_at (get d.events) in let l = c.list-item.result in let i = c.loop-list.list-index in
    let ls = d.lists.items in let es = c.loop-list.entries.items in
    let inside : i < length ls = omega (arith, c.loop-list-test.true, c.deref-list-items.ensures.len, d.lists.ok.0) in
    let is = c.list-item.is ∙ ap (λ (ms : List PlaceList). slice_index_or ms i l) c.deref-list-items.ensures.value in
    let next : drop i ls ≡ l ∷ drop (i + 1) ls = drop_more ls i l inside ∙ ap (λ (m : PlaceList). m ∷ drop (i + 1) ls) (sym is) in
    let rest : List Entry = map e (joined (drop (i + 1) ls)) in
    let here : map e (joined (drop i ls)) ≡ map e l.items ++ rest = ap (λ (ms : List PlaceList). map e (joined ms)) next
    ∙ map-append e l.items (joined (drop (i + 1) ls)) in
    ap (λ (ws : List Entry). ws ++ rest) (c.add_entries.ensures.added ∙ ap (λ (ws : List Entry). ws ++ map e l.items) c.in_ok-reserve.ensures.items)
    ∙ append_assoc es (map e l.items) rest ∙ ap (λ (ws : List Entry). es ++ ws) (sym here) ∙ c.loop-list.invariant

pub returns : goal.returns
returns g c =
    let d = c.args.self.now in let i = c.loop-list.list-index in let ls = d.lists.items in let es = c.loop-list.entries.items in
    let all : length ls ≤ i = omega (arith, c.loop-list-test.false, c.deref-list-items.ensures.len, d.lists.ok.0) in
    sym (append-nil es) ∙ ap (λ (ms : List PlaceList). es ++ map (entry_at (get d.events)) (joined ms)) (sym (drop_all i ls all))
    ∙ c.loop-list.invariant
