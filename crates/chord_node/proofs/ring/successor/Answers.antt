use Rattle.std.proofs.Common.{◌∙◌, ◌<◌, List, ap, get_or, length, subst}
use Rattle.chord_node.specs.declared.ring.Place.{Place}
use Rattle.chord_node.specs.Places.{two_rounds}
use Rattle.chord_node.proofs.Rounds.{IsCount, successor-is}
use Rattle.chord_node.proofs.ring.successor.Goals as goal

pub returns : goal.returns
returns c =
    let sc = c.args.scenario.now in
    let at = c.count_before.result in
    let some : 0 < length (two_rounds sc) = subst (λ (xs : List Place). 0 < length xs) c.requires.rounds c.requires.some in
    let found : IsCount sc c.args.start at = record {
      bound = c.count_before.ensures.bound;
      before = c.count_before.ensures.before;
      rest = c.count_before.ensures.rest;
    } in
    ap (λ (xs : List Place). (get_or xs at (record { ident = 0; node = 0 })).node) c.requires.rounds
    ∙ successor-is sc c.args.start at (record { ident = 0; node = 0 }) found some
