use Rattle.std.proofs.Common.{◌∙◌, None, Some, ap, sym, option_map, arith, refl}
use Rattle.des_queue.specs.Shelf.{spelled_out}
use Rattle.des_queue.proofs.Shelves.{own_at, own_there, other_at, other_there, changes_other, changes_own}
use Rattle.des_queue.proofs.shelf.Shelf.remove.Goals as goal

pub remove-requires : goal.remove-requires
remove-requires g c = own_there g.B.Brief.long c.self.inside c.args.self.now c.self.view_is c.args.place c.if-place-eq0.true c.requires

pub remove-requires-else-place-eq0 : goal.remove-requires-else-place-eq0
remove-requires-else-place-eq0 g c =
    other_there g.B.Brief.long c.self.inside c.args.self.now c.self.view_is c.args.place (omega (arith, c.if-place-eq0.false)) c.requires

pub returns-then-place-eq0-clause-value : goal.returns-then-place-eq0-clause-value
returns-then-place-eq0-clause-value g c =
    own_at g.B.Brief.long c.self.inside c.args.self.now c.self.view_is c.args.place c.if-place-eq0.true
    ∙ ap (option_map (spelled_out g.B.Brief.long)) c.remove.ensures.value ∙ ap Some (sym c.whole_event.ensures)

pub returns-then-place-eq0-clause-changed : goal.returns-then-place-eq0-clause-changed
returns-then-place-eq0-clause-changed g c =
    let s = c.self.inside in
    changes_own g.B.Brief.long s (record { own = c.remove.new.self; others = s.others }) c.args.self.now c.self.view_is refl c.args.place None c.if-place-eq0.true
    c.remove.ensures.updates

pub returns-else-place-eq0-clause-value : goal.returns-else-place-eq0-clause-value
returns-else-place-eq0-clause-value g c =
    other_at g.B.Brief.long c.self.inside c.args.self.now c.self.view_is c.args.place (omega (arith, c.if-place-eq0.false)) ∙ c.remove-else-place-eq0.ensures.value

pub returns-else-place-eq0-clause-changed : goal.returns-else-place-eq0-clause-changed
returns-else-place-eq0-clause-changed g c =
    let s = c.self.inside in
    changes_other g.B.Brief.long s (record { own = s.own; others = c.remove-else-place-eq0.new.self }) c.args.self.now c.self.view_is refl c.args.place None
    (omega (arith, c.if-place-eq0.false)) c.remove-else-place-eq0.ensures.updates
