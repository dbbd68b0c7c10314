use Rattle.chord_judge.proofs.NumberLemmas.{HasRead}
use Rattle.chord_judge.proofs.words.number_in.Given as goal

abbrev pub invariant-loop-byte : goal.invariant-loop-byte
invariant-loop-byte l = HasRead l.text l.byte-index l.number
