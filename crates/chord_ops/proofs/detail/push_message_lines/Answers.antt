use Rattle.std.proofs.Common.{append_assoc, refl}
use Rattle.chord_ops.specs.Detail.{line_for}
use Rattle.chord_ops.proofs.Found.{filter_map-more}
use Rattle.chord_ops.proofs.detail.push_message_lines.Goals as goal

pub loop-event-preserved : goal.loop-event-preserved
loop-event-preserved c =
    rw (
      c.in_ok-push_some.ensures,
      c.line_for.ensures,
      c.loop-event.invariant,
      filter_map-more (λ e. line_for c.args.state.now e.target e.body) c.args.events.now c.loop-event.event-index c.event-item.result c.loop-event-test.true,
      ← c.event-item.is,
      append_assoc,
    ) refl
