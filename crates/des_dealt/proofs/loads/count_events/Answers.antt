use Rattle.std.proofs.Common.{◌∙◌, ap, arith}
use Rattle.std.proofs.lemmas.List.{at_drop_more}
use Rattle.des_parts.specs.declared.part_run.Done.{Done}
use Rattle.des_dealt.specs.Loads.{events_at, events_of}
use Rattle.des_dealt.proofs.loads.count_events.Goals as goal

pub loop-done-preserved : goal.loop-done-preserved
loop-done-preserved g c = record {
  long = c.count_entries.ensures.long ∙ c.loop-done.invariant.long;
  counted = λ node. omega (
    arith,
    c.count_entries.ensures.counted node,
    ap (events_of node) c.as_slice.ensures.value,
    ap (λ (done : Done _ _ _). events_of node done.entries.items) c.done-item.is,
    at_drop_more (events_at node) c.args.dones.now c.loop-done.done-index c.done-item.result c.loop-done-test.true,
    c.loop-done.invariant.counted node,
  );
}
