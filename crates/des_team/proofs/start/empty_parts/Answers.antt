use Rattle.std.proofs.Common.{refl}
use Rattle.des_team.proofs.Starts.{parts_more, parts_none}
use Rattle.des_team.proofs.start.empty_parts.Goals as goal

pub loop-part-init : goal.loop-part-init
loop-part-init g c = parts_none (g.S.Scribe.HasCounted c.args.machine.now) c.args.parts c.new-list.result.items c.new-list.ensures.items

pub loop-part-preserved : goal.loop-part-preserved
loop-part-preserved g c = parts_more (g.S.Scribe.HasCounted c.args.machine.now) c.args.parts c.loop-part.part c.loop-part.list.items c.push.new.self.items _
    c.loop-part.invariant
    (record {
      part_is = refl;
      no_states = c.new-in-loop-part.ensures.items;
      none_pending = c.new-in-loop-part-2.ensures;
      out_long = c.in_ok-outbox.ensures.long;
      none_in = c.new-in-loop-part-3.ensures;
      none_out = c.in_ok-outbox.ensures.none;
      none_made = c.new-in-loop-part-4.ensures.items;
      none_counted = c.start.ensures;
    }) c.in_ok-push.ensures.items
