use Rattle.std.proofs.Common.{◌≡◌, ◌++◌, take}
use Rattle.chord_ops.specs.Detail.{message_lines}
use Rattle.chord_ops.proofs.detail.push_message_lines.Given as goal

abbrev pub invariant-loop-event : goal.invariant-loop-event
invariant-loop-event l =
    l.lines ≡ l.initial.lines ++ message_lines l.state (take l.event-index l.events)
