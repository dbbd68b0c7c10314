-- What is read of a line's text.
use Rattle.chord_judge.specs.Tellings.{IsToldOf}
use Rattle.chord_judge.specs.declared.lines.Said.{Said}
use Rattle.chord_judge.specs.declared.lines.Said.TheVariants as said
use Rattle.chord_scenario.specs.Setup.{Setup}

-- a line that a judge is to be told is one of the scenario
abbrev pub IfTold : Setup → Said → Type 0
IfTold sc (said.Told told) = IsToldOf sc told
IfTold sc _ = Unit {0}
