use Rattle.std.proofs.Common.{◌≡◌, ◌∙◌, Some, ap, sym, option_map, arith}
use Rattle.std.proofs.lemmas.Result.{IfOk-weaker}
use Rattle.des_queue.specs.Shelf.{get, spelled_out}
use Rattle.des_queue.proofs.Shelves.{own_at, own_there, other_at, other_there}
use Rattle.des_queue.proofs.shelf.Shelf.copy_of.Goals as goal

pub index-requires : goal.index-requires
index-requires g c = own_there g.B.Brief.long c.self.inside c.args.self.now c.self.view_is c.args.place c.if-place-eq0.true c.requires

pub index-requires-else-place-eq0 : goal.index-requires-else-place-eq0
index-requires-else-place-eq0 g c =
    other_there g.B.Brief.long c.self.inside c.args.self.now c.self.view_is c.args.place (omega (arith, c.if-place-eq0.false)) c.requires

pub returns-then-place-eq0 : goal.returns-then-place-eq0
returns-then-place-eq0 g c =
    own_at g.B.Brief.long c.self.inside c.args.self.now c.self.view_is c.args.place c.if-place-eq0.true
    ∙ ap (option_map (spelled_out g.B.Brief.long)) c.index.ensures ∙ ap Some (sym c.whole_event.ensures)

pub returns-else-place-eq0 : goal.returns-else-place-eq0
returns-else-place-eq0 g c =
    IfOk-weaker c.try_clone.result (λ copy. copy ≡ c.index-else-place-eq0.result.now) (λ copy. get c.args.self.now c.args.place ≡ Some copy)
    (λ copy same. other_at g.B.Brief.long c.self.inside c.args.self.now c.self.view_is c.args.place (omega (arith, c.if-place-eq0.false))
    ∙ c.index-else-place-eq0.ensures ∙ ap Some (sym same)) c.try_clone.ensures
