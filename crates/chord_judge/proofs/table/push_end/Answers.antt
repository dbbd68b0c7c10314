use Rattle.std.proofs.Common.{◌≡◌, ◌++◌, subst, sym}
use Rattle.std.specs.Prelude.{OnOk, string_bytes}
use Rattle.chord_judge.specs.Table.{end_text}
use Rattle.chord_judge.specs.declared.row.End.{End}
use Rattle.chord_judge.proofs.table.push_end.Goals as goal

pub returns-in-Found : goal.returns-in-Found
returns-in-Found c =
    subst
    (λ (end : End). OnOk c.push_answer.result (string_bytes c.push_answer.new.text ≡ string_bytes c.args.text.now ++ end_text c.args.scenario.now c.args.begun end))
    (sym c.in-Found.is) c.push_answer.ensures

pub returns-in-Crash : goal.returns-in-Crash
returns-in-Crash c =
    subst
    (λ (end : End). OnOk c.push_cut.result (string_bytes c.push_cut.new.text ≡ string_bytes c.args.text.now ++ end_text c.args.scenario.now c.args.begun end))
    (sym c.in-Crash.is) c.push_cut.ensures

pub returns-in-Leave : goal.returns-in-Leave
returns-in-Leave c =
    subst
    (λ (end : End). OnOk c.push_cut-in-Leave.result
    (string_bytes c.push_cut-in-Leave.new.text ≡ string_bytes c.args.text.now ++ end_text c.args.scenario.now c.args.begun end))
    (sym c.in-Leave.is) c.push_cut-in-Leave.ensures
