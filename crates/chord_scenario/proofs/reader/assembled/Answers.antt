use Rattle.std.proofs.Common.{Bool, ap, sym, subst, length, ◌∙◌}
use Rattle.chord_scenario.specs.Latencies.{square_or_zeros}
use Rattle.chord_scenario.specs.Range.{IsInRange}
use Rattle.chord_scenario.specs.declared.key.FileKey.TheVariants as key
use Rattle.chord_scenario.specs.Settings.{check_of, join_pause_of, rules_of}
use Rattle.chord_scenario.specs.Values.{truth_or}
use Rattle.toml.specs.View.{table_view}
use Rattle.chord_scenario.proofs.Ranks.{ranks_of_setup}
use Rattle.chord_scenario.proofs.reader.assembled.Goals as goal

pub returns : goal.returns
returns c = λ i. record {
  profile = c.small_number_at.ensures i;
  bits = c.requires.circle i;
  list = c.small_number_at-2.ensures i;
  seed = c.number_at.ensures.value i;
  duration = c.number_at-2.ensures.value i;
  window = c.number_at-3.ensures.value i;
  latency = c.number_at-4.ensures.value i;
  timeout = c.number_at-5.ensures.value i;
  audit = c.number_at-6.ensures.value i;
  stabilize = c.number_at-7.ensures.value i;
  finger = c.number_at-8.ensures.value i;
  jitter = c.number_or.ensures i;
  max_events = c.number_or-2.ensures i;
  loss = c.number_or-3.ensures i;
  spread = c.number_or-4.ensures i;
  retries = c.number_or-5.ensures i;
  join_pause = (c.join_pause_of.ensures ∙ ap (λ (b : Bool). join_pause_of b (table_view c.args.top.now)) c.is_extended-extended.ensures) i;
  join_forever = (c.truth_or.ensures ∙ ap (λ (b : Bool). truth_or b key.JoinForever (table_view c.args.top.now)) c.is_extended-extended.ensures) i;
  check = (c.check_of.ensures ∙ ap (λ (b : Bool). check_of b (table_view c.args.top.now)) c.is_extended-extended.ensures) i;
  detail = c.truth_at.ensures i;
  rules = (c.rules_of.ensures ∙ ap (λ (b : Bool). rules_of b (table_view c.args.top.now)) c.is_extended-extended.ensures) i;
  jitters = c.jitters_of.ensures i;
  churn = c.churn_of.ensures i;
  lookups = c.lookups_of.ensures i;
  nodes = c.args.named.nodes.items;
  bootstraps = c.requires.bootstraps i;
  commands = c.args.linked.commands.items;
  latencies = square_or_zeros (length c.args.named.nodes.items) c.args.linked.distances.cells.items;
  coordinates = c.requires.coordinates i;
}

pub invariant_of-result : goal.invariant_of-result
invariant_of-result c = record {
  range = subst IsInRange (sym (returns c)) c.requires.in_range;
  ranks = ranks_of_setup _ c.args.named.order.ranks.items c.requires.ranks;
  in_order = c.requires.in_order;
  leading = c.requires.leading;
}
