use Rattle.std.proofs.Common.{◌≡◌, ◌++◌, string_bytes, take}
use Rattle.std.specs.List.{flat_map}
use Rattle.chord_trace.specs.Texts.{line_text}
use Rattle.chord_trace.proofs.block_text.push_block.Given as goal

abbrev pub invariant-loop-line : goal.invariant-loop-line
invariant-loop-line l =
    string_bytes l.text ≡ string_bytes l.initial.text
    ++ flat_map (line_text l.scenario l.block.key.time l.block.target) (take l.line-index l.line-items)
