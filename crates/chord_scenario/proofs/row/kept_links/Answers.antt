use Rattle.std.proofs.Common.{Bor, List, ℕ, ◌≡◌, ◌∙◌, sym, ap, refl, rules, arith, inl, true, map, Some, ◌∷◌, ◌++◌, []}
use Rattle.std.specs.Result.{is_ok}
use Rattle.std.proofs.lemmas.List.{map-append}
use Rattle.csv.specs.Reading.{default_config, strip_bom}
use Rattle.csv.specs.Records.{fields_of}
use Rattle.csv.specs.declared.parser.State.TheVariants as st
use Rattle.csv.proofs.ReadFacts.{rows-end, rows-more}
use Rattle.chord_scenario.specs.Latencies.{kept_link}
use Rattle.chord_scenario.proofs.row.kept_links.Goals as goal

pub loop-record-init : goal.loop-record-init
loop-record-init c = λ text left. ([], c.new-links.ensures.items ∙ refl, left)

pub failed_read-requires : goal.failed_read-requires
failed_read-requires c =
    let (_, _, before) = c.loop-record.invariant c.requires.0 c.requires.1 in
    let why = (rw (c.in-Some.is, c.in-Err.is) at (c.next.ensures.steps before.left before.untrimmed)).0 before.ready in
    let flexible = before.flexible in
    grind (arith, why, flexible)

pub loop-record-preserved : goal.loop-record-preserved
loop-record-preserved c = λ text left.
    let (read, kept, before) = c.loop-record.invariant text left in
    let steps = c.next.ensures.steps before.left before.untrimmed in
    let step = rw (c.in-Some.is, c.in-Ok.is) at (steps.0 before.ready) in
    let row = fields_of c.in-Ok.record in
    let keep = kept_link c.args.names.now.nodes.now in
    let pushed : is_ok c.push.result ≡ true = search rules in
    let more =
    rows-more (λ (s : Bor (List ℕ)). Some s.now) c.loop-record.records.rdr c.next.new.self.rdr row default_config st.StartRecord
    (strip_bom text) before.unread read before.usual before.source before.reached step.0 in (
      read ++ row ∷ [],
      rw pushed at c.push.ensures.items ∙ ap (λ l. l ++ c.kept_link.result ∷ []) kept
          ∙ ap (λ k. map keep read ++ k ∷ []) c.kept_link.ensures
          ∙ sym (map-append keep read (row ∷ [])),
      record {
        unread = more.0;
        source = more.1;
        reached = more.2;
        flexible = rw (c.in-Some.is, c.in-Ok.is) at steps.3 ∙ before.flexible;
        usual = step.0.2 ∙ before.usual;
        untrimmed = step.0.3 ∙ before.untrimmed;
        ready = inl step.1;
        left = step.2;
      },
    )

pub returns : goal.returns
returns c = λ text left.
    let (read, kept, before) = c.loop-record.invariant text left in
    let end = rw c.in_default.is at ((c.next.ensures.steps before.left before.untrimmed).0 before.ready) in
    record {
      rows = read;
      are_rows = (
        c.loop-record.records.rdr.state,
        before.unread,
        before.reached,
        rows-end (λ (s : Bor (List ℕ)). Some s.now) c.loop-record.records.rdr c.next.new.self.rdr [] default_config before.unread before.usual
            before.source end,
      );
      are_kept = kept;
    }
