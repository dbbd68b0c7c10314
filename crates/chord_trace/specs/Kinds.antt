-- The kinds of line.
use Rattle.std.specs.Prelude.{Bool, true, false, Option, Some, None}
use Rattle.chord_event.specs.declared.line.Line.{Line}
use Rattle.chord_event.specs.declared.line.Line.TheVariants as line
use Rattle.chord_trace.specs.declared.found_lookups.Found.{Found}

-- the line says that a join has succeeded, and the node is a member behind its predecessor
abbrev pub is_member : Line → Bool
is_member (line.Member predecessor) = true
is_member _ = false

-- the line says that eight attempts to join have failed; the node is then down, goes on joining, or makes a ring of its
-- own
abbrev pub is_join_failed : Line → Bool
is_join_failed line.JoinFailed = true
is_join_failed _ = false

-- the line says that a node has crashed, by a command or at the end of its life; a leave is a kind of its own
abbrev pub is_crash : Line → Bool
is_crash line.Crash = true
is_crash _ = false

-- the line says that a member's successor list has become empty, and the node joins again
abbrev pub is_stranded : Line → Bool
is_stranded (line.Stranded via) = true
is_stranded _ = false

-- the line says that a message was not handled: a request, notify or leave at a node that is no member, or a reply at
-- one that is down
abbrev pub is_drop : Line → Bool
is_drop (line.Drop kind sender) = true
is_drop _ = false

-- the line says that a reply has arrived for which no call is out
abbrev pub is_late : Line → Bool
is_late (line.Late kind sender) = true
is_late _ = false

-- the line says that a request had no reply in time, even if it was sent again
abbrev pub is_timeout : Line → Bool
is_timeout (line.Timeout silent) = true
is_timeout _ = false

-- the line says that a message to another node was lost in the network
abbrev pub is_loss : Line → Bool
is_loss (line.Lose kind receiver) = true
is_loss _ = false

-- the line says that a request was sent again, since no reply to it came in time
abbrev pub is_again : Line → Bool
is_again (line.Again kind receiver) = true
is_again _ = false

-- the line says that a node's predecessor did not reply to a check, and the node has no predecessor now
abbrev pub is_forgotten : Line → Bool
is_forgotten (line.Forget predecessor) = true
is_forgotten _ = false

-- the line says that a node has left, by a command or at the end of its life
abbrev pub is_leave : Line → Bool
is_leave line.Leave = true
is_leave _ = false

-- the line says that a member with nobody else left in its successor list takes a finger as its successor
abbrev pub is_rescue : Line → Bool
is_rescue (line.Rescue finger) = true
is_rescue _ = false

-- the line says that a node has made a ring of its own, and is a member
abbrev pub is_create : Line → Bool
is_create line.Create = true
is_create _ = false

-- the line says that a user's lookup has begun; the lookup of a finger has no line
abbrev pub is_lookup : Line → Bool
is_lookup (line.Lookup key) = true
is_lookup _ = false

-- the line says that a user's lookup has ended with an owner, which need not be the right one
abbrev pub is_found : Line → Bool
is_found (line.Found key owner hops timeouts us) = true
is_found _ = false

-- the line says that a user's lookup has ended without an owner; one that a crash or a leave cuts off has no line
abbrev pub is_lost : Line → Bool
is_lost (line.Lost key hops timeouts us) = true
is_lost _ = false

-- the line says that a user's lookup was refused, since as many as a node may have are in progress
abbrev pub is_busy : Line → Bool
is_busy (line.Busy key) = true
is_busy _ = false

-- the line says that a command did not fit the state of its node, and had no effect
abbrev pub is_ignored : Line → Bool
is_ignored (line.Ignored command) = true
is_ignored _ = false

-- the hops, the timeouts and the time that a line tells of a lookup that was found; none for any other line
abbrev pub found_in : Line → Option Found
found_in (line.Found key owner hops timeouts us) = Some (record { hops = hops; timeouts = timeouts; us = us })
found_in _ = None
