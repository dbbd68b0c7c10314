use Rattle.std.proofs.Common.{◌≡◌, ◌-◌, ◌++◌, string_bytes}
use Rattle.std.specs.List.{flat_map, range_with_len}
use Rattle.chord_scenario.specs.World.{node_count}
use Rattle.chord_play.specs.Answers.{ident_line, ids_text}
use Rattle.chord_play.proofs.questions.ids_answer.Given as goal

-- the lines so far and those of the nodes left are all
abbrev pub invariant-loop-node : goal.invariant-loop-node
invariant-loop-node l =
    string_bytes l.answer ++ flat_map (ident_line l.scenario) (range_with_len l.node (node_count l.scenario - l.node)) ≡ ids_text l.scenario
