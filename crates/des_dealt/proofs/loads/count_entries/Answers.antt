use Rattle.std.proofs.Common.{◌<◌, ap, length, arith}
use Rattle.std.proofs.lemmas.List.{get_or_default}
use Rattle.des_parts.specs.declared.entries.Entry.{Entry}
use Rattle.des_dealt.proofs.EventCounts.{counts_its_target}
use Rattle.des_dealt.proofs.loads.count_entries.Goals as goal

pub overflow_add-index_mut : goal.overflow_add-index_mut
overflow_add-index_mut g c =
    let here = c.entry-item.result in
    let known : here.target < length c.loop-entry.loads.items = omega (
      arith,
      c.requires.targets c.loop-entry.entry-index here c.loop-entry-test.true,
      ap (λ (entry : Entry _). entry.target) c.entry-item.is,
      c.loop-entry.invariant.long,
    ) in omega (
      arith,
      c.index_mut.ensures.value,
      get_or_default c.loop-entry.loads.items here.target c.index_mut.result.now 0 known,
      c.loop-entry.invariant.counted here.target,
      c.requires.room here.target,
      counts_its_target c.args.entries.now c.loop-entry.entry-index here c.loop-entry-test.true c.entry-item.is,
    )
