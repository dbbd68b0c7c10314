use Rattle.std.proofs.Common.{◌++◌, ◌∷◌, [], subst, sym}
use Rattle.chord_trace.specs.Tally.{IsTallyOf}
use Rattle.chord_output.proofs.chord_scribe.ChordScribeScribe.put.Goals as goal

pub returns-in_ok-add-in-OfEvent-clause-counted : goal.returns-in_ok-add-in-OfEvent-clause-counted
returns-in_ok-add-in-OfEvent-clause-counted g c = λ pieces before.
    subst (λ p. IsTallyOf (g.R.RingMachine.scenario_of c.args.ring.now).profile (pieces ++ p ∷ []) c.add.new.self) (sym c.in-OfEvent.is)
    (c.in_ok-add-in-OfEvent.ensures.piece (g.R.RingMachine.scenario_of c.args.ring.now).profile pieces before)

pub returns-in_ok-write_audit-in-OfAudit-clause-counted : goal.returns-in_ok-write_audit-in-OfAudit-clause-counted
returns-in_ok-write_audit-in-OfAudit-clause-counted g c = λ pieces before.
    subst (λ p. IsTallyOf (g.R.RingMachine.scenario_of c.args.ring.now).profile (pieces ++ p ∷ []) c.add_audit.new.self) (sym c.in-OfAudit.is)
    (c.add_audit.ensures.piece (g.R.RingMachine.scenario_of c.args.ring.now).profile pieces before)
