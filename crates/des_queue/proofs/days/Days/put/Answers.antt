use Rattle.std.proofs.Common.{◌≡◌, ◌∙◌, ◌<◌, ◌≤◌, ◌++◌, ◌∷◌, [], List, ℕ, Some, IsSomeAnd, length, slice_index_or, sym, ap, subst, arith, refl}
use Rattle.des_queue.specs.Shelf.{get}
use Rattle.des_queue.specs.Days.{IsInPlace, IsListed}
use Rattle.des_queue.proofs.Placed.{PlaceList, all_set, joined_more, listed_more, placed_more}
use Rattle.des_queue.proofs.days.Days.put.Goals as goal

more : (g : _) (c : goal.After-self-2-1 g) → let d = c.args.self.now in
    c.push_reserved.new.self.items ≡ (slice_index_or d.lists.items c.args.at c.index_mut.result.now).items ++ c.insert_reserved-place.result ∷ []
more g c =
    ◌∙◌ {A = List ℕ} c.push_reserved.ensures.items (ap (λ (l : PlaceList). l.items ++ c.insert_reserved-place.result ∷ []) c.index_mut.ensures.value)

pub returns-clause-days : goal.returns-clause-days
returns-clause-days g c room days takes =
    let d = c.args.self.now in let s = get d.events in let t = get c.insert_reserved-place.new.self in let last = c.max-self.result in
    let at = c.args.at in let v = c.index_mut.result.now in let l = c.push_reserved.new.self in
    let place = c.insert_reserved-place.result in let e = c.args.event in let put = c.insert_reserved-place.ensures in
    let there = put.changed in
    let less : length v.items < room = subst (λ (m : PlaceList). length m.items < room) (sym c.index_mut.ensures.value) (takes.fit v) in record {
      placed = placed_more (IsListed s d.today d.latest) (IsListed t d.today last) at d.lists.items v l place takes.listed (more g c)
          (listed_more s t place e d.today d.latest last put.was_vacant there (omega (arith, c.max-self.ensures)))
          (subst (λ o. IsSomeAnd o (IsInPlace d.today last at)) (sym there.changed) (record {
            later = takes.later;
            soon = takes.soon;
            known = omega (arith, c.max-self.ensures);
            there = takes.there;
          }))
          days.placed;
      fit = all_set (λ (m : PlaceList). length m.items ≤ room) d.lists.items at l days.fit
          (omega (arith, c.push_reserved.ensures.len, less, l.ok.0, v.ok.0));
    }

pub returns-clause-taken : goal.returns-clause-taken
returns-clause-taken g c =
    let place = c.insert_reserved-place.result in let put = c.insert_reserved-place.ensures in record {
      place = place;
      today = refl;
      free = put.was_vacant;
      changed = put.changed;
      places = joined_more c.args.self.now.lists.items c.args.at c.index_mut.result.now c.push_reserved.new.self place c.requires.1.listed (more g c);
    }
