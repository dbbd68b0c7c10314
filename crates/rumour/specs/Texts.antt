-- The trace of the rumour.
use Rattle.std.specs.Prelude.{ℕ, List, [], ◌++◌, codes, decimal, if◌then◌else◌}
use Rattle.rumour_rules.specs.declared.rules.Told.{Told}

-- the line of a node that is told: the time and the node
abbrev pub line_of : Told → List ℕ
line_of piece = decimal piece.time ++ codes " " ++ decimal piece.node ++ codes "\n"

-- the text of a telling: its line if the node hears the rumour for the first time, else nothing
abbrev pub text_of : Told → List ℕ
text_of piece = if piece.first then line_of piece else []
