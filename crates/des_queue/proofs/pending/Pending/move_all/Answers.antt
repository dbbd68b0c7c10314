use Rattle.std.proofs.Common.{◌≡◌, ◌↔◌, ◌++◌, ◌∷◌, [], List, ap, subst, ◌∙◌, arith, append-nil}
use Rattle.std.specs.List.{Contains}
use Rattle.des_event.specs.declared.event.Event.{Event}
use Rattle.des_event.specs.KeyOrder.{put_in_order}
use Rattle.des_queue.specs.EventKey.{event_key}
use Rattle.des_queue.proofs.Inserting.{AreApart, empty, last_apart, last_new, last_put}
use Rattle.des_queue.proofs.pending.Pending.move_all.Goals as goal

pub put-requires : goal.put-requires
put-requires g c =
    last_new c.in-Some.last c.loop-last.self c.pop.new.self.items (subst (λ es. AreApart (c.loop-last.self ++ es)) c.in-Some.ensures.items
    c.loop-last.invariant.apart)

pub loop-last-preserved : goal.loop-last-preserved
loop-last-preserved g c =
    let all = subst (λ es. AreApart (c.loop-last.self ++ es)) c.in-Some.ensures.items c.loop-last.invariant.apart in
    let put : List (Event _) = put_in_order event_key c.in-Some.last c.loop-last.self in
    let whole : List (Event _) → Type 0 = λ es. (x : Event _) → Contains es x ↔ Contains (c.args.self.now ++ c.args.events.now.items) x in
    let before : whole (c.loop-last.self ++ (c.pop.new.self.items ++ c.in-Some.last ∷ [])) = subst (λ es. whole (c.loop-last.self ++ es))
    c.in-Some.ensures.items c.loop-last.invariant.same in
    rw c.in_default-put.ensures (rw c.free_spare.ensures (record {
      apart = last_apart c.in-Some.last c.loop-last.self c.pop.new.self.items all c.recall_order.ensures;
      same = λ x.
          let moved = last_put c.in-Some.last c.loop-last.self c.pop.new.self.items all x in
          (λ d. (before x).0 (moved.0 d), λ d. moved.1 ((before x).1 d));
    }))

pub returns-clause-same : goal.returns-clause-same
returns-clause-same g c =
    let none : c.loop-last.events.items ≡ [] = empty c.loop-last.events.items (omega (arith, c.in_default.ensures.cases.0, c.loop-last.events.ok.0)) in
    subst (λ es. (x : Event _) → Contains es x ↔ Contains (c.args.self.now ++ c.args.events.now.items) x)
    (ap (λ es. c.loop-last.self ++ es) none ∙ append-nil c.loop-last.self) c.loop-last.invariant.same
