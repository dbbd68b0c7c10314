-- A Chord ring, as the kernel's team sees it.
use Rattle.chord_event.specs.declared.body.Body.{Body}
use Rattle.chord_machine.specs.Chord.{chord}
use Rattle.chord_node.specs.declared.state.NodeState.{NodeState}
use Rattle.chord_output.specs.declared.chord_scribe.ChordScribe.{ChordScribe}
use Rattle.chord_scenario.specs.declared.scenario.Scenario.{Scenario}
use Rattle.chord_trace.specs.declared.piece.Piece.{Piece}
use Rattle.chord_trace.specs.Tally.{IsTallyOf}
use Rattle.chord_trace.specs.Texts.{piece_text}
use Rattle.des_team.specs.Chronicles.{Chronicle, chronicle}

-- the machine, the texts and the tallies of a scenario
abbrev pub ring_of : Scenario → Chronicle NodeState Body Piece ChordScribe
ring_of sc = chronicle (chord sc) (piece_text sc) (λ pieces s. IsTallyOf sc.profile pieces s.tally)
