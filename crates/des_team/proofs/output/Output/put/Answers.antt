use Rattle.std.proofs.Common.{◌≡◌, ◌∙◌, ◌++◌, ◌<◌, ap, arith, length, subst, sym}
use Rattle.des_team.proofs.Texts.{text_put}
use Rattle.des_team.proofs.Told.{is_told, told_more}
use Rattle.des_team.specs.Entries.{Entry}
use Rattle.des_team.specs.declared.output.Output.{Output}
use Rattle.des_team.specs.Outputs.{IsMarked, told}
use Rattle.des_team.proofs.output.Output.put.Goals as goal

pub returns-in_ok-push-clause-text : goal.returns-in_ok-push-clause-text
returns-in_ok-push-clause-text g c = λ entries is.
    let new : Output = record { text = c.into_inner.result; marks = c.push.new.self } in
    let entry : Entry = record { key = c.args.key; bytes = g.S.Scribe.text c.args.machine.now c.args.piece.now } in
    let text : new.text.items ≡ c.args.self.now.text.items ++ entry.bytes = ap (λ v. v.items) c.into_inner.ensures ∙ c.in_default.ensures.written
    ∙ ap (λ v. v.items ++ entry.bytes) (c.new-writer.ensures.wrapped ∙ c.replace-text.ensures.value) in
    let grown : length c.args.self.now.text.items < length new.text.items = omega (
      arith,
      c.if-end-start.true,
      c.len-start.ensures,
      c.len-end.ensures,
      c.args.self.now.text.ok.0,
      c.into_inner.result.ok.0,
    ) in
    subst (λ es. IsMarked es new) (sym (told_more entries entry (is_told entry c.args.self.now.text.items new.text.items text grown)))
    (text_put (told entries) entry c.args.self.now new c.len-end.result text
    (omega (arith, c.len-end.ensures, c.into_inner.result.ok.0)) c.in_ok-push.ensures.items is)
