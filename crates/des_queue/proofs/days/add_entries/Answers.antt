use Rattle.std.proofs.Common.{
  ◌≡◌,
  ◌∙◌,
  ◌++◌,
  ◌∷◌,
  ◌+◌,
  ◌<◌,
  ◌≤◌,
  [],
  ℕ,
  List,
  length,
  suc,
  map,
  drop,
  get_or,
  refl,
  sym,
  ap,
  subst,
  arith,
  append_assoc,
  append-nil,
  add-one,
}
use Rattle.std.proofs.Math.Seq.{drop-cons}
use Rattle.std.proofs.lemmas.List.{drop_all}
use Rattle.des_queue.specs.Shelf.{ContainsPlace, get}
use Rattle.des_queue.specs.Places.{Entry, entry_at}
use Rattle.des_queue.proofs.days.add_entries.Goals as goal

pub loop-place-preserved : goal.loop-place-preserved
loop-place-preserved g c =
    let s = get c.args.events.now in let ps = c.args.places.now.items in let i = c.loop-place.place-index in let es = c.loop-place.entries.items in
    let rest = map (entry_at s) (drop (i + 1) ps) in let p = get_or c.deref-place-items.result.now i 0 in
    let w : Entry = record { key = record { 0 = c.key.result }; place = p } in
    let here : entry_at s (get_or ps i 0) ≡ w = ap (λ (l : List ℕ). entry_at s (get_or l i 0)) (sym c.deref-place-items.ensures.value)
    ∙ (λ j. record { key = record { 0 = sym c.key.ensures j }; place = p }) in
    let below : i < length ps = omega (arith, c.loop-place-test.true, c.deref-place-items.ensures.len, c.args.places.now.ok.0) in
    let next : map (entry_at s) (drop i ps) ≡ w ∷ rest = rw (add-one, drop-cons ps i 0) (ap (λ v. v ∷ map (entry_at s) (drop (suc i) ps)) here) in record {
      added = ap (λ l. l ++ rest) c.in-Ok.ensures.items ∙ append_assoc es (w ∷ []) rest ∙ ap (λ l. es ++ l) (sym next) ∙ c.loop-place.invariant.added;
      room = omega (arith, c.in-Ok.ensures.len, c.in-Ok.ensures.capacity, c.loop-place.invariant.room);
      capacity = omega (arith, c.in-Ok.ensures.capacity, c.loop-place.invariant.capacity);
    }

pub key-requires : goal.key-requires
key-requires g c =
    let i = c.loop-place.place-index in
    subst (λ (ps : List ℕ). ContainsPlace c.args.events.now (get_or ps i 0)) (sym c.deref-place-items.ensures.value)
    (c.requires.there i 0 (omega (arith, c.loop-place-test.true, c.deref-place-items.ensures.len, c.args.places.now.ok.0)))

pub loop-place-init : goal.loop-place-init
loop-place-init g c = record { added = refl; room = omega (arith, c.requires.room); capacity = omega arith }

pub returns-clause-added : goal.returns-clause-added
returns-clause-added g c =
    let ps = c.args.places.now.items in let i = c.loop-place.place-index in let es = c.loop-place.entries.items in
    let all : length ps ≤ i = omega (arith, c.loop-place-test.false, c.deref-place-items.ensures.len, c.args.places.now.ok.0) in
    sym (append-nil es) ∙ ap (λ (ns : List ℕ). es ++ map (entry_at (get c.args.events.now)) ns) (sym (drop_all i ps all))
    ∙ c.loop-place.invariant.added
