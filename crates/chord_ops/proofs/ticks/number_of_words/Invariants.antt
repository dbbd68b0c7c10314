use Rattle.std.proofs.Common.{◌≡◌, ◌<◌, ◌*◌, ◌^◌}
use Rattle.chord_ops.specs.Rules.{words_number}
use Rattle.chord_ops.proofs.ticks.number_of_words.Given as goal

abbrev pub invariant-loop-word : goal.invariant-loop-word
invariant-loop-word l = record {
  value : l.number ≡ words_number l.stream.seed l.stream.number l.place l.word;
  below : l.number < 2 ^ (32 * l.word);
}
