use Rattle.std.proofs.Common.{◌∙◌, ◌==◌, ℕ, Bool, ap, find, not, slice_get, sym}
use Rattle.std.specs.Option.{option_or, unwrap_or}
use Rattle.chord_scenario.specs.Start.{initial_nodes}
use Rattle.chord_node.specs.Ring.{others}
use Rattle.chord_node.proofs.FingerStarts.{find-filter}
use Rattle.chord_node.proofs.ring.first_via.Goals as goal

pub returns-in-None : goal.returns-in-None
unfolding others
returns-in-None c =
    let sc = c.args.scenario.now in
    let other : ℕ → Bool = λ x. not (x == c.args.node) in
    let none = sym c.first_bootstrap.ensures.value ∙ c.in-None.is in
    c.unwrap_or.ensures ∙ ap (λ o. unwrap_or o c.args.node)
    (c.first_other.ensures ∙ ap (find other) c.requires ∙ find-filter other (initial_nodes sc)
    ∙ sym (ap (λ o. option_or o (slice_get (others sc c.args.node) 0)) none))
