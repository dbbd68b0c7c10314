-- The trace of PHOLD.
use Rattle.std.specs.Prelude.{ℕ, List, [], ◌++◌, codes, decimal, if◌then◌else◌}
use Rattle.phold_rules.specs.declared.hop.Hop.{Hop}
use Rattle.phold_rules.specs.declared.settings.Settings.{Settings}

-- the line of a hop: its time, its node and its receiver
abbrev pub hop_text : Hop → List ℕ
hop_text hop = decimal hop.time ++ codes " " ++ decimal hop.node ++ codes " " ++ decimal hop.receiver ++ codes "\n"

-- the text of a hop: its line, or nothing if no trace is wanted
abbrev pub text_of : Settings → Hop → List ℕ
text_of p hop = if p.trace then hop_text hop else []
