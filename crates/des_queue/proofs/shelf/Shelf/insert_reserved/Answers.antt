use Rattle.std.proofs.Common.{◌≡◌, ◌∙◌, ◌+◌, ◌*◌, ◌/◌, Some, ap, sym, subst, option_map, arith, refl}
use Rattle.slab.specs.Slab as slab
use Rattle.des_queue.specs.Shelf.{ChangesAt, get, shelved, spelled_out}
use Rattle.des_queue.proofs.Shelves.{own_at, other_at, changes_other, changes_own}
use Rattle.des_queue.proofs.shelf.Shelf.insert_reserved.Goals as goal

pub returns-in-Some-clause-was_vacant : goal.returns-in-Some-clause-was_vacant
returns-in-Some-clause-was_vacant g c =
    let s = c.self.inside in let k = c.insert_reserved.result in let half : k ≡ 2 * k / 2 = omega arith in
    own_at g.B.Brief.long s c.args.self.now c.self.view_is (2 * k) (omega arith)
    ∙ ap (option_map (spelled_out g.B.Brief.long)) (ap (slab.get s.own) (sym half) ∙ c.insert_reserved.ensures.was_vacant)

pub returns-in-Some-clause-changed : goal.returns-in-Some-clause-changed
returns-in-Some-clause-changed g c =
    let s = c.self.inside in let k = c.insert_reserved.result in let t = c.insert_reserved.new.self in let half : k ≡ 2 * k / 2 = omega arith in
    subst (λ e. ChangesAt (get c.args.self.now) (get (shelved g.B.Brief.long (record { own = t; others = s.others }))) (2 * k) (Some e)) c.in-Some.ensures
    (changes_own g.B.Brief.long s (record { own = t; others = s.others }) c.args.self.now c.self.view_is refl (2 * k) (Some c.in-Some.own) (omega arith)
    (subst (λ n. slab.Updates s.own t n (Some c.in-Some.own)) half c.insert_reserved.ensures.updates))

pub returns-in-None-clause-was_vacant : goal.returns-in-None-clause-was_vacant
returns-in-None-clause-was_vacant g c =
    let s = c.self.inside in let k = c.insert_reserved-in-None.result in let half : k ≡ (2 * k + 1) / 2 = omega arith in
    other_at g.B.Brief.long s c.args.self.now c.self.view_is (2 * k + 1) (omega arith) ∙ ap (slab.get s.others) (sym half) ∙ c.insert_reserved-in-None.ensures.was_vacant

pub returns-in-None-clause-changed : goal.returns-in-None-clause-changed
returns-in-None-clause-changed g c =
    let s = c.self.inside in let k = c.insert_reserved-in-None.result in let t = c.insert_reserved-in-None.new.self in
    let half : k ≡ (2 * k + 1) / 2 = omega arith in
    changes_other g.B.Brief.long s (record { own = s.own; others = t }) c.args.self.now c.self.view_is refl (2 * k + 1) (Some c.args.event) (omega arith)
    (subst (λ n. slab.Updates s.others t n (Some c.args.event)) half c.insert_reserved-in-None.ensures.updates)
