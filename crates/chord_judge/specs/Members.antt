-- The members of the ring, by the lines of a trace. Lists of lines have the newest line first.
use Rattle.std.specs.Prelude.{ℕ, ◌==◌, ◌&&◌, Bool, false, true, cond, List, [], ◌∷◌}
use Rattle.chord_event.specs.declared.line.Line.{Line}
use Rattle.chord_event.specs.declared.line.Line.TheVariants as line
use Rattle.chord_judge.specs.declared.told.Told.{Told}
use Rattle.chord_scenario.specs.Setup.{Setup}
use Rattle.chord_scenario.specs.World.{is_initial}

-- the line makes its node a member
abbrev pub makes_member : Line → Bool
makes_member (line.Member predecessor) = true
makes_member line.Create = true
makes_member _ = false

-- the line says that its node becomes a member, or is none any more
abbrev pub is_change : Line → Bool
is_change (line.Member predecessor) = true
is_change line.Create = true
is_change line.Crash = true
is_change line.Leave = true
is_change (line.Stranded via) = true
is_change _ = false

-- whether node n is a member after these lines: its newest change decides, and the scenario if there is none
abbrev pub is_member_after : Setup → List Told → (n : ℕ) → Bool
is_member_after sc [] n = is_initial sc n
is_member_after sc (told ∷ before) n =
    let was = is_member_after sc before n in cond (is_change told.line && told.node == n) (makes_member told.line) was
