use Rattle.std.proofs.Common.{◌≡◌, ◌∙◌, ◌++◌, [], sym, arith, subst, vec_len, ◌==◌, true}
use Rattle.std.proofs.lemmas.Bool.Decides.{nat_tests}
use Rattle.std.specs.List.Sorted.{IsPermutation}
use Rattle.std.proofs.lemmas.List.Sorted.{IsPermutation-refl, IsPermutation-trans}
use Rattle.des_queue.specs.Shelf.{get}
use Rattle.des_queue.specs.Days.{IsListed, IsOpened, entries_in}
use Rattle.des_queue.proofs.Inserting.{empty}
use Rattle.des_queue.proofs.Placed.{none_listed, placed_none}
use Rattle.des_queue.proofs.days.Days.open_next.Goals as goal

pub loop-self-init : goal.loop-self-init
loop-self-init g c = record {
  days = c.requires.days;
  events = λ _. c.args.self.now.events;
  moved = subst (λ ws. IsPermutation (entries_in c.args.self.now) (ws ++ entries_in c.args.self.now)) (sym c.requires.empty)
      (IsPermutation-refl (entries_in c.args.self.now));
  opened = subst (IsOpened c.args.self.now) (sym c.requires.empty) tt;
}

pub loop-self-preserved : goal.loop-self-preserved
loop-self-preserved g c =
    let test : (vec_len c.loop-self.due == 0) ≡ true = sym c.is_empty.ensures ∙ c.loop-self-test.true in
    let zero : vec_len c.loop-self.due ≡ 0 = grind (arith, nat_tests) in
    let none : c.loop-self.due.items ≡ [] = empty c.loop-self.due.items (omega (arith, zero, c.loop-self.due.ok.0)) in record {
      days = c.open_day.ensures.days;
      events = c.open_day.ensures.events ∙ c.loop-self.invariant.events;
      moved = IsPermutation-trans _ _ _
          (subst (λ ws. IsPermutation (entries_in c.args.self.now) (ws ++ entries_in c.loop-self.self)) none c.loop-self.invariant.moved)
          c.open_day.ensures.moved;
      opened = c.open_day.ensures.opened;
    }

pub returns-else-self-clause-whole : goal.returns-else-self-clause-whole
returns-else-self-clause-whole g c none =
    let d = c.loop-self.self in
    placed_none (IsListed (get d.events) d.today d.latest) 0 d.lists.items
    (λ j n listed. none_listed (get d.events) d.today d.latest j n (omega (arith, c.if-self.false)) listed)
    c.loop-self.invariant.days.placed
