use Rattle.std.proofs.Common.{◌≡◌, ◌+◌, ℕ, false, length}
use Rattle.std.specs.Prelude.{nat_lt}
use Rattle.std.specs.List.{filter}
use Rattle.des_machine.specs.Simulable.{AreStates}
use Rattle.des_machine.proofs.Puts.{HasPut}
use Rattle.des_machine.proofs.journal.Journal.put_audits.Given as goal
use Rattle.des_output.specs.Watched.{wrapped, has_failed}

abbrev pub invariant-loop-at : goal.invariant-loop-at
invariant-loop-at g l = record {
  put : (account : ℕ → _) → AreStates (g.M.Machine.model l.machine) (g.V.States.list l.states) account
      → HasPut (g.M.Machine.model l.machine) (g.S.Scribe.text l.machine) (g.S.Scribe.HasCounted l.machine) account l.time
      (g.W.Write.contents (wrapped l.initial.writer)) (g.W.Write.contents (wrapped l.writer)) l.initial.self.scribe l.self.scribe l.initial.self.clock l.self.clock;
  left : filter (λ t. nat_lt l.time t) l.self.clock ≡ filter (λ t. nat_lt l.time t) l.initial.self.clock;
  size : g.S.Scribe.size l.self.scribe + length l.self.clock ≡ g.S.Scribe.size l.initial.self.scribe + length l.initial.self.clock;
  sound : has_failed l.writer ≡ false;
}

abbrev pub decreases-loop-at : goal.decreases-loop-at
decreases-loop-at g l = length l.self.clock
