use Rattle.std.proofs.Common.{◌∙◌, ◌∷◌, sym, ap, arith, refl, length}
use Rattle.std.specs.Prelude.{nat_lt}
use Rattle.std.specs.List.{filter}
use Rattle.des_machine.proofs.Puts.{all-left, left-first, put_all, put_front, put_more, put_none, put_whole}
use Rattle.des_machine.proofs.journal.Journal.put_audits.Goals as goal

pub loop-at-init : goal.loop-at-init
loop-at-init g c =
    let k = c.args.machine.now in
    record {
      put = λ account are. put_none (g.M.Machine.model k) (g.S.Scribe.text k) (g.S.Scribe.HasCounted k) account c.args.time _ c.args.self.now.scribe c.args.self.now.clock;
      left = refl;
      size = refl;
      sound = c.requires.sound;
    }

pub loop-at-preserved : goal.loop-at-preserved
loop-at-preserved g c =
    let k = c.args.machine.now in
    let took = c.in-Some.ensures.0 ∙ ap (λ ts. c.in-Some.at ∷ ts) (sym c.in_ok-put_audit.ensures.clock) in
    record {
      put = λ account are. put_more (g.M.Machine.model k) (g.S.Scribe.text k) (g.S.Scribe.HasCounted k) account c.args.time c.in-Some.at _ _ _
          c.args.self.now.scribe c.loop-at.self.scribe _ c.args.self.now.clock c.loop-at.self.clock _ took c.in-Some.ensures.1
          (c.loop-at.invariant.put account are) (c.in_ok-put_audit.ensures.adds account are);
      left = sym (ap (filter (λ t. nat_lt c.args.time t)) took ∙ left-first c.args.time c.in-Some.at _ c.in-Some.ensures.1) ∙ c.loop-at.invariant.left;
      size = omega (arith, c.in_ok-put_audit.ensures.size, c.loop-at.invariant.size, ap length took);
      sound = c.in_ok-put_audit.ensures.writer;
    }

pub returns-in_err-put_audit-clause-front : goal.returns-in_err-put_audit-clause-front
returns-in_err-put_audit-clause-front g c = λ account are.
    let k = c.args.machine.now in
    put_front (g.M.Machine.model k) (g.S.Scribe.text k) (g.S.Scribe.HasCounted k) account c.args.time c.in-Some.at _ _ _
    c.args.self.now.scribe c.loop-at.self.scribe c.args.self.now.clock c.loop-at.self.clock _ c.in-Some.ensures.0 c.in-Some.ensures.1
    (c.loop-at.invariant.put account are) (c.in_err-put_audit.ensures.front account are)

pub returns-clause-adds : goal.returns-clause-adds
returns-clause-adds g c = λ account are.
    let k = c.args.machine.now in
    put_all (g.M.Machine.model k) (g.S.Scribe.text k) (g.S.Scribe.HasCounted k) account c.args.time _ _
    c.args.self.now.scribe c.loop-at.self.scribe c.args.self.now.clock c.loop-at.self.clock c.in_default.ensures.1 (c.loop-at.invariant.put account are)

pub returns-clause-left : goal.returns-clause-left
returns-clause-left g c = c.in_default.ensures.0 ∙ sym (all-left c.args.time c.loop-at.self.clock c.in_default.ensures.1) ∙ c.loop-at.invariant.left

pub returns-clause-front : goal.returns-clause-front
returns-clause-front g c = λ account are.
    let k = c.args.machine.now in
    put_whole (g.M.Machine.model k) (g.S.Scribe.text k) (g.S.Scribe.HasCounted k) account c.args.time _ _
    c.args.self.now.scribe c.loop-at.self.scribe c.args.self.now.clock c.loop-at.self.clock c.in_default.ensures.1 (c.loop-at.invariant.put account are)
