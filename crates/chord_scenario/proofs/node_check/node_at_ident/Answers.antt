use Rattle.std.proofs.Common.{◌∙◌, ◌==◌, sym, ap, option_map, nat_cmp}
use Rattle.std.specs.BTreeMap.{get}
use Rattle.chord_scenario.specs.declared.setting.Node.{Node}
use Rattle.chord_scenario.proofs.Lent.{lent}
use Rattle.chord_scenario.proofs.FirstNumber.{found_item, later_among, none_among}
use Rattle.chord_scenario.proofs.node_check.node_at_ident.Goals as goal
use Rattle.chord_scenario.proofs.node_check.node_at_ident.Goals.{in_default-via-in-Some+else-number-before, in_default-via-in_default}

pub returns-in-Some : goal.returns-in-Some
returns-in-Some c =
    let nodes = c.args.nodes.now in
    let test = λ (x : Node). x.ident == c.args.ident in
    let number = sym (c.requires c.args.ident) ∙ ap (λ k. get nat_cmp c.args.numbers.now k) (sym c.raw.ensures) ∙ sym c.get.ensures.value
    ∙ sym c.copied.ensures ∙ c.in-Some.is in
    let here = c.get-in-Some.ensures.lookup in
    lent nodes c.in-Some.number c.get-in-Some.result here.0 here.1
    ∙ found_item test c.in-Some.number c.args.before nodes number c.if-number-before.true

pub returns-in_default : goal.returns-in_default
returns-in_default c =
    let nodes = c.args.nodes.now in
    let test = λ (x : Node). x.ident == c.args.ident in
    let number = sym (c.requires c.args.ident) ∙ ap (λ k. get nat_cmp c.args.numbers.now k) (sym c.raw.ensures) ∙ sym c.get.ensures.value
    ∙ sym c.copied.ensures in
    elim c.in_default.branch [
      | in_default-via-in-Some+else-number-before w ↦
          sym (ap (option_map (λ p. p.1)) (later_among test w.in-Some.number c.args.before nodes (number ∙ w.in-Some.is) w.if-number-before.false))
      | in_default-via-in_default w ↦ sym (ap (option_map (λ p. p.1)) (none_among test c.args.before nodes (number ∙ w.in_default.is)))
    ]
