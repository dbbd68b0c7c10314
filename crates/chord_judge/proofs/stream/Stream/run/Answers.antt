use Rattle.std.proofs.Common.{◌<◌, ◌||◌, ◌∙◌, false, ap, arith, length, take}
use Rattle.std.proofs.lemmas.Grind.{common_steps}
use Rattle.chord_judge.proofs.Streams.{begun_after, begun_at_end, begun_before, begun_here, begun_kept, judged_at_end, on_ok, refused_after, way_begun, way_on}
use Rattle.chord_judge.specs.Inside.{setup_of}
use Rattle.chord_judge.proofs.stream.Stream.run.Goals as goal

pub returns-in_default-clause-beginning : goal.returns-in_default-clause-beginning
returns-in_default-clause-beginning g c = let h = c.in_default.ensures.bytes in begun_kept (setup_of c.args.self.now.judge) _ _ _ _ _ c.loop.self c.loop.invariant.way h

pub returns-in_err-finish-clause-beginning : goal.returns-in_err-finish-clause-beginning
returns-in_err-finish-clause-beginning g c =
    let h = c.in-Ok.ensures.bytes in begun_before (setup_of c.args.self.now.judge) _ _ _ _ _ c.loop.self _ c.loop.invariant.way h.0

pub returns-then-count-eq0-clause-beginning : goal.returns-then-count-eq0-clause-beginning
returns-then-count-eq0-clause-beginning g c =
    let way = c.loop.invariant.way in
    let h = c.in-Ok.ensures.bytes in
    let table = c.in_ok-finish.ensures.table (setup_of c.args.self.now.judge) way.text way.written way.taken in
    begun_at_end (setup_of c.args.self.now.judge) _ _ _ _ _ _ c.loop.self _ _ way h.0 (ap (λ n. take n c.read.new.buf) c.if-count-eq0.true) table c.write.ensures.front

pub returns-then-count-eq0-clause-whole : goal.returns-then-count-eq0-clause-whole
returns-then-count-eq0-clause-whole g c =
    let way = c.loop.invariant.way in
    let h = c.in-Ok.ensures.bytes in
    let room : 0 < length c.read.new.buf = omega (arith, c.loop.invariant.room, c.read.auto.buf) in
    let table = c.in_ok-finish.ensures.table (setup_of c.args.self.now.judge) way.text way.written way.taken in
    on_ok _ _ c.write.result
    (judged_at_end (setup_of c.args.self.now.judge) _ _ _ _ _ _ c.loop.self _ _ way h.0 (ap (λ n. take n c.read.new.buf) c.if-count-eq0.true)
    (h.1 c.if-count-eq0.true room) table)
    c.write.ensures.whole

pub returns-in_err-take-clause-beginning : goal.returns-in_err-take-clause-beginning
returns-in_err-take-clause-beginning g c =
    let h = c.in-Ok.ensures.bytes in begun_before (setup_of c.args.self.now.judge) _ _ _ _ _ c.loop.self _ c.loop.invariant.way h.0

pub returns-in_err-write-clause-beginning : goal.returns-in_err-write-clause-beginning
returns-in_err-write-clause-beginning g c =
    let way = c.loop.invariant.way in
    let h = c.in-Ok.ensures.bytes in
    begun_after (setup_of c.args.self.now.judge) _ _ _ _ _ _ c.loop.self c.take.new.self _ way h.0
    (c.in_ok-take.ensures.taken (setup_of c.args.self.now.judge) way.text way.written way.taken) c.write-in-loop.ensures.front

pub loop-init : goal.loop-init
loop-init g c = record { room = c.requires.room; sound = c.requires.sound; heard = λ h. h; way = way_begun (setup_of c.args.self.now.judge) _ _ c.args.self.now c.requires.begun }

pub loop-preserved : goal.loop-preserved
loop-preserved g c =
    let way = c.loop.invariant.way in
    let h = c.in-Ok.ensures.bytes in
    let taken = c.in_ok-take.ensures.taken (setup_of c.args.self.now.judge) way.text way.written way.taken in record {
      room = omega (arith, c.loop.invariant.room, c.read.auto.buf);
      sound = c.in_ok-write.ensures.writer;
      heard = λ h. c.in-Ok.ensures.noted ∙ ap (λ b. b || false) (c.loop.invariant.heard h);
      way = way_on (setup_of c.args.self.now.judge) _ _ _ _ _ _ c.loop.self c.take.new.self c.write-in-loop.new.self _ way h.0 taken
          c.in_ok-write.ensures.whole (c.in_ok-write.ensures.taken (setup_of c.args.self.now.judge) _ way.written taken);
    }

pub returns-clause-beginning : goal.returns-clause-beginning
returns-clause-beginning g c = begun_here (setup_of c.args.self.now.judge) _ _ _ _ c.loop.self c.loop.invariant.way

pub returns-in_err-take-clause-refused : goal.returns-in_err-take-clause-refused
returns-in_err-take-clause-refused g c = λ number is.
    let way = c.loop.invariant.way in let sc = setup_of c.args.self.now.judge in
    refused_after sc _ _ _ _ _ c.loop.self _ number way c.in-Ok.ensures.bytes.0 (c.take.ensures.refused number (let w = c.in_err-take.was in let f = c.from_residual-in_err-take.ensures in grind (arith, common_steps, w, f)) sc way.text way.written way.taken)
