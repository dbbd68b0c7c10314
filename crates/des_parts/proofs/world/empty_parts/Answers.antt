use Rattle.std.proofs.Common.{◌≡◌, length, ap, subst, sym, arith, length-append, ◌∷◌, ◌++◌, [], List}
use Rattle.std.specs.List.{AllByRecursion}
use Rattle.des_parts.specs.declared.world.PartEvents.{PartEvents}
use Rattle.des_parts.proofs.world.empty_parts.Goals as goal

push_none : {B : Type 0} (xs : List (PartEvents B)) (x : PartEvents B) → AllByRecursion (λ (e : PartEvents _). e.later ≡ []) xs → x.later ≡ []
    → AllByRecursion (λ (e : PartEvents _). e.later ≡ []) (xs ++ x ∷ [])
push_none [] x all here = (here, tt)
push_none (y ∷ xs) x all here = (all.0, push_none xs x all.1 here)

pub loop-part-init : goal.loop-part-init
loop-part-init g c = record {
  long = ap length c.new-list.ensures.items;
  none = subst (λ (l : List (PartEvents _)). AllByRecursion (λ (e : PartEvents _). e.later ≡ []) l) (sym c.new-list.ensures.items) tt;
}

pub loop-part-preserved : goal.loop-part-preserved
loop-part-preserved g c =
    let e : PartEvents _ = record { due = c.new.result; later = c.new-in-loop-part.result } in
    record {
      long = omega (arith, ap length c.in_ok-push.ensures.items, length-append c.loop-part.list.items (e ∷ []), c.loop-part.invariant.long);
      none = subst (λ (l : List (PartEvents _)). AllByRecursion (λ (e : PartEvents _). e.later ≡ []) l) (sym c.in_ok-push.ensures.items)
          (push_none c.loop-part.list.items e c.loop-part.invariant.none c.new-in-loop-part.ensures);
    }

pub returns-clause-long : goal.returns-clause-long
returns-clause-long g c = omega (arith, c.loop-part.invariant.long, c.loop-part-test.false, c.loop-part.auto._part-end)

pub returns-clause-none : goal.returns-clause-none
returns-clause-none g c = c.loop-part.invariant.none
