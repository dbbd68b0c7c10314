use Rattle.std.proofs.Common.{◌∙◌, ap, refl, set}
use Rattle.std.proofs.lemmas.Option.{IfSome_then}
use Rattle.chord_judge.proofs.InProgress.{ended_first, ended_held, ended_none, on_none}
use Rattle.chord_judge.proofs.open.OpenLookups.end.Goals as goal

pub returns-clause-taken : goal.returns-clause-taken
returns-clause-taken c =
    let e = c.args.ended in let list = c.index_mut.result.now in
    IfSome_then c.take_first.result c.take_first.ensures.taken (λ lookup first lookups held.
    ended_first e.node e.key e.time e.us lookups list.items lookup (ap (λ v. v.items) c.index_mut.ensures.value ∙ held e.node list c.requires) first)

pub returns-clause-left : goal.returns-clause-left
returns-clause-left c =
    let e = c.args.ended in let list = c.index_mut.result.now in let lists = c.args.self.now.lists.items in let now = c.take_first.new.lookups in
    IfSome_then c.take_first.result c.take_first.ensures.left (λ lookup left lookups held.
    ended_held e.node e.key e.time e.us lookups list.items lists (set lists e.node now) now refl c.requires held
    (ap (λ v. v.items) c.index_mut.ensures.value ∙ held e.node list c.requires) left)

pub returns-clause-none : goal.returns-clause-none
returns-clause-none c =
    let e = c.args.ended in let list = c.index_mut.result.now in
    on_none _ _ c.take_first.result (λ none lookups held.
    ended_none e.node e.key e.time e.us lookups list.items (ap (λ v. v.items) c.index_mut.ensures.value ∙ held e.node list c.requires) none) c.take_first.ensures.none
