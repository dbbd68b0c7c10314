-- Each lookup that a user begins at a node is found, lost, in progress there, or cut off as the node goes down.
use Rattle.std.specs.Prelude.{◌≡◌, ℕ, ◌+◌, Bool, true, false, List, count_by, if◌then◌else◌}
use Rattle.chord_event.specs.declared.line.Line.{Line}
use Rattle.chord_event.specs.declared.line.Line.TheVariants as line
use Rattle.chord_node.specs.declared.state.NodeState.{NodeState}
use Rattle.chord_node.specs.Invariant.{is_user}
use Rattle.chord_ops.specs.declared.turn.Turn.{Turn}
use Rattle.chord_ops.specs.Rules.{is_down}

-- whether a line tells that a user's lookup begins
abbrev pub tells_begun : Line → Bool
tells_begun (line.Lookup key) = true
tells_begun _ = false

-- whether a line tells that a user's lookup is found
abbrev pub tells_found : Line → Bool
tells_found (line.Found key owner hops timeouts us) = true
tells_found _ = false

-- whether a line tells that a user's lookup is lost
abbrev pub tells_lost : Line → Bool
tells_lost (line.Lost key hops timeouts us) = true
tells_lost _ = false

-- how many users' lookups lines tell of as begun
abbrev pub begun : List Line → ℕ
begun lines = count_by tells_begun lines

-- how many users' lookups lines tell of as found
abbrev pub found : List Line → ℕ
found lines = count_by tells_found lines

-- how many users' lookups lines tell of as lost
abbrev pub lost : List Line → ℕ
lost lines = count_by tells_lost lines

-- the users' lookups that a node has in progress
abbrev pub in_progress : NodeState → ℕ
in_progress s = count_by is_user s.lookups

-- the users' lookups that an event cuts off: all that were in progress at a node that it takes down
abbrev pub cut_off : (before after : NodeState) → ℕ
cut_off before after = if is_down after then in_progress before else 0

-- each user's lookup that was in progress before a turn, or begins in it, is found, lost, in progress or cut off
abbrev pub IsAccountedFor : (before : NodeState) → Turn → Type 0
IsAccountedFor before turn =
    in_progress before + begun turn.lines ≡ found turn.lines + lost turn.lines + in_progress turn.state + cut_off before turn.state
