use Rattle.std.proofs.Common.{◌≡◌, ◌<◌, false, length}
use Rattle.chord_judge.proofs.Streams.{IsUnderWay}
use Rattle.chord_judge.specs.Inside.{setup_of}
use Rattle.des_output.specs.Watched.{has_failed, wrapped}
use Rattle.chord_judge.proofs.stream.Stream.run.Given as goal

abbrev pub invariant-loop : goal.invariant-loop
invariant-loop g l = record {
  room : 0 < length l.chunk;
  sound : has_failed l.output ≡ false;
  heard : has_failed l.initial.trace ≡ false → has_failed l.trace ≡ false;
  way : IsUnderWay (setup_of l.fn.self.judge) (g.R.Read.remaining (wrapped l.initial.trace)) (g.R.Read.remaining (wrapped l.trace))
      (g.W.Write.contents (wrapped l.initial.output)) (g.W.Write.contents (wrapped l.output)) l.self;
}
