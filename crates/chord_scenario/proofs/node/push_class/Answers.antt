use Rattle.std.proofs.Common.{◌<◌, ◌^◌, List, subst, sym}
use Rattle.std.specs.List.{All}
use Rattle.std.proofs.lemmas.List.Elements.{All-push}
use Rattle.chord_scenario.specs.declared.setting.Node.{Node}
use Rattle.chord_scenario.specs.Settings.{numbered_node}
use Rattle.chord_scenario.proofs.Ranges.{mapped-range_more}
use Rattle.chord_scenario.proofs.node.push_class.Goals as goal

pub loop-number-preserved : goal.loop-number-preserved
loop-number-preserved c =
    let OnCircle : Node → Type 0 = λ n. n.ident < 2 ^ c.args.circle in
    let node = c.in_ok-numbered_node.field-0 in
    let made = c.in_ok-numbered_node.ensures in
    let before = c.loop-number.invariant in
    let added = c.in_ok-push.ensures.items in
    record {
      value = mapped-range_more (numbered_node c.args.circle c.name_at-prefix.result.now c.flags_at-flags.result) c.args.nodes.now.items
          c.loop-number.nodes.items c.push.new.self.items c.loop-number.number node added before.value made.value;
      on_circle = λ own. subst (All OnCircle) (sym {A = List Node} added) (All-push OnCircle c.loop-number.nodes.items node (before.on_circle own) made.on_circle);
    }
