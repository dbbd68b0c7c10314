use Rattle.std.proofs.Common.{append_assoc}
use Rattle.chord_trace.proofs.audit_text.push_audit.Goals as goal

pub returns : goal.returns
returns c =
    rw (← c.yes_or_no-ordered.ensures, ← c.yes_or_no-sufficient.ensures) (simp append_assoc at c.writeln.ensures.bytes)
