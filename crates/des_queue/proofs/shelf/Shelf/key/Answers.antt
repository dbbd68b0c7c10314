use Rattle.std.proofs.Common.{◌∙◌, ap, sym, option_map, arith}
use Rattle.des_queue.specs.Places.{key_there}
use Rattle.des_queue.specs.Shelf.{spelled_out}
use Rattle.des_queue.proofs.Shelves.{own_at, own_there, other_at, other_there}
use Rattle.des_queue.proofs.shelf.Shelf.key.Goals as goal

pub index-own-requires : goal.index-own-requires
index-own-requires g c = own_there g.B.Brief.long c.self.inside c.args.self.now c.self.view_is c.args.place c.if-place-eq0.true c.requires

pub index-requires : goal.index-requires
index-requires g c = other_there g.B.Brief.long c.self.inside c.args.self.now c.self.view_is c.args.place (omega (arith, c.if-place-eq0.false)) c.requires

pub returns-then-place-eq0 : goal.returns-then-place-eq0
returns-then-place-eq0 g c =
    sym (ap key_there (own_at g.B.Brief.long c.self.inside c.args.self.now c.self.view_is c.args.place c.if-place-eq0.true
    ∙ ap (option_map (spelled_out g.B.Brief.long)) c.index-own.ensures))

pub returns-else-place-eq0 : goal.returns-else-place-eq0
returns-else-place-eq0 g c =
    sym (ap key_there (other_at g.B.Brief.long c.self.inside c.args.self.now c.self.view_is c.args.place (omega (arith, c.if-place-eq0.false))
    ∙ c.index.ensures))
