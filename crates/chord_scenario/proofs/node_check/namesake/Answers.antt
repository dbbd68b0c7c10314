use Rattle.std.proofs.Common.{◌∙◌, sym, ap, bytes_eq, option_map, arith}
use Rattle.chord_scenario.specs.Settings.{index_of}
use Rattle.chord_scenario.proofs.FirstNumber.{found_number, later_among, none_among, index_of-first}
use Rattle.chord_scenario.proofs.node_check.namesake.Goals as goal

pub returns-in-Some : goal.returns-in-Some
returns-in-Some c =
    let nodes = c.args.names.now.nodes.now in
    let number = sym (index_of-first c.args.name.now nodes) ∙ sym (c.number_of.ensures ∙ ap (λ name. index_of name nodes) (c.as_bytes.ensures.value ∙ c.as_str.ensures)) ∙ c.in-Some.is in
    found_number (λ x. bytes_eq x.name c.args.name.now) c.in-Some.number c.args.before nodes number c.if-number-before.true

pub returns-in_default : goal.returns-in_default
returns-in_default c =
    let nodes = c.args.names.now.nodes.now in
    let number = sym (index_of-first c.args.name.now nodes) ∙ sym (c.number_of.ensures ∙ ap (λ name. index_of name nodes) (c.as_bytes.ensures.value ∙ c.as_str.ensures)) ∙ c.in-Some.is in
    sym (ap (option_map (λ p. p.0)) (later_among (λ x. bytes_eq x.name c.args.name.now) c.in-Some.number c.args.before nodes number (omega arith)))

pub returns-in_default-2 : goal.returns-in_default-2
returns-in_default-2 c =
    let nodes = c.args.names.now.nodes.now in
    let number = sym (index_of-first c.args.name.now nodes) ∙ sym (c.number_of.ensures ∙ ap (λ name. index_of name nodes) (c.as_bytes.ensures.value ∙ c.as_str.ensures)) ∙ c.in_default.is in
    sym (ap (option_map (λ p. p.0)) (none_among (λ x. bytes_eq x.name c.args.name.now) c.args.before nodes number))
