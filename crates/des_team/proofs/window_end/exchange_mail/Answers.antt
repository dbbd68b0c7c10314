use Rattle.std.proofs.Common.{arith, sym, subst, Option, ◌+◌, Vec}
use Rattle.std.specs.Global.{Global}
use Rattle.des_team.specs.declared.part.Parcel.{Parcel}
use Rattle.des_team.specs.Exchanges.{HaveExchangedTo}
use Rattle.des_team.proofs.TeamMail.{exchanged_none, exchanged_raw, lists_are_long, not_here}
use Rattle.des_team.proofs.window_end.exchange_mail.Goals as goal
use Rattle.des_team.proofs.window_end.exchange_mail.Goals.{in-Some+in_ok-deliver+in-Some-1, in-Some+in_ok-deliver+in-None-1, in_default}

pub loop-from-init : goal.loop-from-init
loop-from-init g c = exchanged_none c.args.parcels.now.items c.requires

pub deliver-requires : goal.deliver-requires
deliver-requires g c = lists_are_long c.loop-from.from c.args.parcels.now.items c.loop-from.parcels.items c.requires c.loop-from.invariant
    (omega (arith, c.loop-from-test.true, c.len-from-end.ensures)) c.index_mut.result.now c.replace.new.dest c.in-Some.parcel c.index_mut.ensures.value
    c.in-Some.ensures.value c.deref_mut.result.now c.deref_mut.ensures.value

pub loop-from-preserved : goal.loop-from-preserved
loop-from-preserved g c = elim c.match-replace.branch [
  | in-Some+in_ok-deliver+in-Some-1 w ↦ subst (λ (z : Vec (Option (Parcel _ _ _ _ _)) Global). HaveExchangedTo (c.loop-from.from + 1)
      c.args.parcels.now.items z.items) (sym w.parcels-is)
      (exchanged_raw c.loop-from.from c.args.parcels.now.items c.loop-from.parcels.items c.requires c.loop-from.invariant
      (omega (arith, c.loop-from-test.true, c.len-from-end.ensures)) c.index_mut.result.now c.replace.new.dest w.in-Some.parcel c.index_mut.ensures.value
      w.in-Some.ensures.value c.replace.ensures.after w.deref_mut.result.now w.deref_mut.ensures.value w.deliver.new.parcels.items w.deliver.new.self
      w.in_ok-deliver.ensures.delivered w.in_ok-deliver.ensures.long w.in_ok-deliver.ensures.none_left)
  | in-Some+in_ok-deliver+in-None-1 w ↦ subst (λ (z : Vec (Option (Parcel _ _ _ _ _)) Global). HaveExchangedTo (c.loop-from.from + 1)
      c.args.parcels.now.items z.items) (sym w.parcels-is)
      (exchanged_raw c.loop-from.from c.args.parcels.now.items c.loop-from.parcels.items c.requires c.loop-from.invariant
      (omega (arith, c.loop-from-test.true, c.len-from-end.ensures)) c.index_mut.result.now c.replace.new.dest w.in-Some.parcel c.index_mut.ensures.value
      w.in-Some.ensures.value c.replace.ensures.after w.deref_mut.result.now w.deref_mut.ensures.value w.deliver.new.parcels.items w.deliver.new.self
      w.in_ok-deliver.ensures.delivered w.in_ok-deliver.ensures.long w.in_ok-deliver.ensures.none_left)
  | in_default w ↦ absurd (not_here c.loop-from.from c.args.parcels.now.items c.loop-from.parcels.items c.requires c.loop-from.invariant
      (omega (arith, c.loop-from-test.true, c.len-from-end.ensures)) c.index_mut.result.now c.index_mut.ensures.value w.in_default.ensures.value)
]
