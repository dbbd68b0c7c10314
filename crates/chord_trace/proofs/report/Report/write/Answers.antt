-- The text is made, and then written.
use Rattle.std.proofs.Common.{◌≡◌, ◌∙◌, ◌++◌, ap, subst}
use Rattle.std.specs.Prelude.{OnOk}
use Rattle.std.specs.Io.KnownBytes.{Appends}
use Rattle.des_output.specs.Watched.{wrapped}
use Rattle.des_output.specs.Writing.{AppendsFront}
use Rattle.chord_trace.specs.ReportText.{report_text}
use Rattle.chord_trace.proofs.Written.{nothing_written, only_these}
use Rattle.chord_trace.proofs.report.Report.write.Goals as goal

made : (g : _) (c : goal.After-drop-text-2 g) → c.as_bytes.result.now ≡ report_text c.args.self.now
made g c = c.as_bytes.ensures.value ∙ c.in_ok-push.ensures ∙ ap (λ bytes. bytes ++ report_text c.args.self.now) c.new-text.ensures.bytes

pub returns-in_err-push-clause-front : goal.returns-in_err-push-clause-front
returns-in_err-push-clause-front g c = nothing_written (g.W.Write.contents (wrapped c.args.writer.now)) (report_text c.args.self.now)

pub returns-clause-whole : goal.returns-clause-whole
returns-clause-whole g c =
    subst (λ bytes. OnOk c.write_text.result (Appends (g.W.Write.contents (wrapped c.args.writer.now))
    (g.W.Write.contents (wrapped c.write_text.new.writer)) bytes)) (made g c) c.write_text.ensures.whole

pub returns-clause-front : goal.returns-clause-front
returns-clause-front g c =
    subst (λ bytes. AppendsFront (g.W.Write.contents (wrapped c.args.writer.now))
    (g.W.Write.contents (wrapped c.write_text.new.writer)) bytes) (made g c) c.write_text.ensures.front

pub returns-clause-writer : goal.returns-clause-writer
returns-clause-writer g c = c.write_text.ensures.writer

pub returns-clause-only : goal.returns-clause-only
returns-clause-only g c = only_these c.write_text.result c.write_text.ensures.only
