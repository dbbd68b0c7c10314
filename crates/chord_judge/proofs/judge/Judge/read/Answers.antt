use Rattle.std.proofs.Common.{◌∙◌, ap, arith, not}
use Rattle.std.proofs.lemmas.Grind.{common_steps}
use Rattle.chord_judge.specs.Inside.{setup_of}
use Rattle.chord_judge.specs.Judged.{is_ended_by, is_of, open_after}
use Rattle.chord_judge.proofs.InProgress.{any_first, any_none, askers_filter}
use Rattle.chord_judge.proofs.Judgements.{found_row, none_begun, same_answer}
use Rattle.chord_scenario.specs.World.{node_count}
use Rattle.chord_trace.specs.Kinds.{is_lookup}
use Rattle.chord_judge.proofs.judge.Judge.read.Goals as goal

pub returns-in_ok-stop-in-Crash-clause-read : goal.returns-in_ok-stop-in-Crash-clause-read
returns-in_ok-stop-in-Crash-clause-read c = λ lines has. record {
  members = λ n low. grind (arith, common_steps);
  changes = grind (arith, common_steps);
  lookups = rw c.in-Crash.is (c.in_ok-stop-in-Crash.ensures.left (open_after lines) has.lookups);
  askers = rw c.in-Crash.is (askers_filter (node_count (setup_of c.args.self.now)) (λ lookup. not (is_of c.args.told.node lookup)) (open_after lines) has.askers);
  begun = c.in_ok-stop-in-Crash.ensures.begun ∙ has.begun ∙ none_begun c.args.told lines (ap is_lookup c.in-Crash.is);
}

pub returns-in_ok-stop-in-Leave-clause-read : goal.returns-in_ok-stop-in-Leave-clause-read
returns-in_ok-stop-in-Leave-clause-read c = λ lines has. record {
  members = λ n low. grind (arith, common_steps);
  changes = grind (arith, common_steps);
  lookups = rw c.in-Leave.is (c.in_ok-stop-in-Leave.ensures.left (open_after lines) has.lookups);
  askers = rw c.in-Leave.is (askers_filter (node_count (setup_of c.args.self.now)) (λ lookup. not (is_of c.args.told.node lookup)) (open_after lines) has.askers);
  begun = c.in_ok-stop-in-Leave.ensures.begun ∙ has.begun ∙ none_begun c.args.told lines (ap is_lookup c.in-Leave.is);
}

pub returns-in_ok-push_row-in-Found-clause-rows : goal.returns-in_ok-push_row-in-Found-clause-rows
returns-in_ok-push_row-in-Found-clause-rows c = λ lines has.
    let f = c.in-Found in let lookup = c.in_ok-lookup-in-Found.lookup in let answer = c.answer-answer.result in let old = c.args.self.now in
    found_row (setup_of old) lines c.args.told f.key f.owner f.hops f.timeouts f.us (open_after lines) lookup answer c.args.rows.now.items c.push_row.new.rows.items
    f.is (c.in_ok-lookup-in-Found.ensures.taken (open_after lines) has.lookups)
    (same_answer old c.end.new.self lines answer f.key lookup.begun f.owner f.hops f.timeouts c.in_ok-lookup-in-Found.ensures.members c.in_ok-lookup-in-Found.ensures.changes has
    c.answer-answer.ensures)
    c.in_ok-push_row-in-Found.ensures

pub returns-in_ok-push_row-in-Found-clause-known : goal.returns-in_ok-push_row-in-Found-clause-known
returns-in_ok-push_row-in-Found-clause-known c = λ lines has.
    let told = c.args.told in let end = c.in-Found in
    rw end.is (any_first (is_ended_by told.node end.key told.time end.us) c.in_ok-lookup-in-Found.lookup (open_after lines)
    (c.in_ok-lookup-in-Found.ensures.taken (open_after lines) has.lookups))

pub returns-in_err-lookup-in-Found-clause-unknown : goal.returns-in_err-lookup-in-Found-clause-unknown
returns-in_err-lookup-in-Found-clause-unknown c = λ _ lines has.
    let told = c.args.told in let end = c.in-Found in
    rw end.is (any_none (is_ended_by told.node end.key told.time end.us) (open_after lines) (c.in_err-lookup-in-Found.ensures.none (open_after lines) has.lookups))

pub returns-in_ok-push_row-in-Lost-clause-known : goal.returns-in_ok-push_row-in-Lost-clause-known
returns-in_ok-push_row-in-Lost-clause-known c = λ lines has.
    let told = c.args.told in let end = c.in-Lost in
    rw end.is (any_first (is_ended_by told.node end.key told.time end.us) c.in_ok-lookup-in-Lost.lookup (open_after lines)
    (c.in_ok-lookup-in-Lost.ensures.taken (open_after lines) has.lookups))

pub returns-in_err-lookup-in-Lost-clause-unknown : goal.returns-in_err-lookup-in-Lost-clause-unknown
returns-in_err-lookup-in-Lost-clause-unknown c = λ _ lines has.
    let told = c.args.told in let end = c.in-Lost in
    rw end.is (any_none (is_ended_by told.node end.key told.time end.us) (open_after lines) (c.in_err-lookup-in-Lost.ensures.none (open_after lines) has.lookups))
