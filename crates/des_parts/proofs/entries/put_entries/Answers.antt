use Rattle.std.proofs.Common.{arith, drop, subst, suc, sym, take}
use Rattle.std.proofs.lemmas.List.{take_all}
use Rattle.des_machine.specs.Runs.{Adds}
use Rattle.des_output.specs.Watched.{wrapped}
use Rattle.des_parts.specs.Entries.{pieces_of}
use Rattle.des_parts.proofs.PutEntries.{put_none, put_one, put_part, put_whole, split_at, take_next}
use Rattle.des_parts.proofs.entries.put_entries.Goals as goal

pub loop-entry-init : goal.loop-entry-init
loop-entry-init g c =
    let k = c.args.machine.now in
    record {
      put = put_none (g.S.Scribe.text k) (g.S.Scribe.HasCounted k) _ c.args.scribe.now;
      size = omega arith;
      sound = c.requires.sound;
    }

pub put-requires-clause-room : goal.put-requires-clause-room
put-requires-clause-room g c = omega (arith, c.loop-entry.invariant.size, c.requires.room, c.loop-entry-test.true)

pub loop-entry-preserved : goal.loop-entry-preserved
loop-entry-preserved g c =
    let k = c.args.machine.now in
    let entries = c.args.entries.now in
    let i = c.loop-entry.entry-index in
    let x = c.entry-item.result in
    record {
      put = subst (λ es. Adds (g.S.Scribe.text k) (g.S.Scribe.HasCounted k) (g.W.Write.contents (wrapped c.args.writer.now))
          (g.W.Write.contents (wrapped c.put.new.writer)) c.args.scribe.now c.put.new.self (pieces_of es))
          (sym (take_next entries i x c.loop-entry-test.true c.entry-item.is))
          (put_one (g.S.Scribe.text k) (g.S.Scribe.HasCounted k) _ _ _ c.args.scribe.now c.loop-entry.scribe c.put.new.self (take i entries) x
          c.loop-entry.invariant.put c.in_ok-put.ensures.written c.in_ok-put.ensures.counted);
      size = omega (arith, c.in_ok-put.ensures.size, c.loop-entry.invariant.size);
      sound = c.in_ok-put.ensures.writer;
    }

pub returns-in_err-put-clause-front : goal.returns-in_err-put-clause-front
returns-in_err-put-clause-front g c =
    let k = c.args.machine.now in
    let entries = c.args.entries.now in
    let i = c.loop-entry.entry-index in
    let x = c.entry-item.result in
    put_part (g.S.Scribe.text k) (g.S.Scribe.HasCounted k) _ _ _ c.args.scribe.now c.loop-entry.scribe (take i entries) x (drop (suc i) entries) entries
    c.loop-entry.invariant.put (split_at entries i x c.loop-entry-test.true c.entry-item.is) c.in_err-put.ensures.front

pub returns-clause-adds : goal.returns-clause-adds
returns-clause-adds g c =
    let k = c.args.machine.now in
    subst (λ es. Adds (g.S.Scribe.text k) (g.S.Scribe.HasCounted k) (g.W.Write.contents (wrapped c.args.writer.now))
    (g.W.Write.contents (wrapped c.loop-entry.writer)) c.args.scribe.now c.loop-entry.scribe (pieces_of es))
    (take_all c.loop-entry.entry-index c.args.entries.now (omega (arith, c.loop-entry-test.false))) c.loop-entry.invariant.put

pub returns-clause-front : goal.returns-clause-front
returns-clause-front g c =
    let k = c.args.machine.now in
    put_whole (g.S.Scribe.text k) (g.S.Scribe.HasCounted k) _ _ c.args.scribe.now c.loop-entry.scribe c.args.entries.now
    (subst (λ es. Adds (g.S.Scribe.text k) (g.S.Scribe.HasCounted k) (g.W.Write.contents (wrapped c.args.writer.now))
    (g.W.Write.contents (wrapped c.loop-entry.writer)) c.args.scribe.now c.loop-entry.scribe (pieces_of es))
    (take_all c.loop-entry.entry-index c.args.entries.now (omega (arith, c.loop-entry-test.false))) c.loop-entry.invariant.put)
