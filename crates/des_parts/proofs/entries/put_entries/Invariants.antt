use Rattle.std.proofs.Common.{◌≡◌, ◌+◌, false, take}
use Rattle.des_machine.specs.Runs.{Adds}
use Rattle.des_output.specs.Watched.{wrapped, has_failed}
use Rattle.des_parts.specs.Entries.{pieces_of}
use Rattle.des_parts.proofs.entries.put_entries.Given as goal

abbrev pub invariant-loop-entry : goal.invariant-loop-entry
invariant-loop-entry g l = record {
  put : Adds (g.S.Scribe.text l.machine) (g.S.Scribe.HasCounted l.machine) (g.W.Write.contents (wrapped l.initial.writer))
      (g.W.Write.contents (wrapped l.writer)) l.initial.scribe l.scribe (pieces_of (take l.entry-index l.entries));
  size : g.S.Scribe.size l.scribe ≡ g.S.Scribe.size l.initial.scribe + l.entry-index;
  sound : has_failed l.writer ≡ false;
}
