use Rattle.std.proofs.Common.{◌≡◌, ◌++◌, map, string_bytes, take}
use Rattle.chord_trace.specs.ReportText.{number_text}
use Rattle.chord_trace.proofs.report.push_numbers.Given as goal

abbrev pub invariant-loop-word : goal.invariant-loop-word
invariant-loop-word l =
    string_bytes l.text ≡ string_bytes l.initial.text ++ number_text (map (λ p. (p.0.now, p.1)) (take l.word-index l.numbers))
