-- The texts of a trace.
use Rattle.std.specs.Prelude.{ℕ, Bool, true, false, List, [], ◌∷◌, ◌++◌, codes, decimal}
use Rattle.std.specs.List.{concat, flat_map}
use Rattle.chord_audit.specs.declared.audit_line.AuditLine.{AuditLine}
use Rattle.chord_event.specs.declared.block.Block.{Block}
use Rattle.chord_event.specs.declared.line.CommandKind.{CommandKind}
use Rattle.chord_event.specs.declared.line.CommandKind.TheVariants as command
use Rattle.chord_event.specs.declared.line.Line.{Line}
use Rattle.chord_event.specs.declared.line.Line.TheVariants as line
use Rattle.chord_event.specs.declared.line.MessageKind.{MessageKind}
use Rattle.chord_event.specs.declared.line.MessageKind.TheVariants as message
use Rattle.chord_scenario.specs.Setup.{Setup}
use Rattle.chord_scenario.specs.World.{name_of}
use Rattle.chord_trace.specs.declared.piece.Piece.{Piece}
use Rattle.chord_trace.specs.declared.piece.Piece.TheVariants as piece

-- the name of a kind of message
abbrev pub message_text : MessageKind → List ℕ
message_text message.Step = codes "step"
message_text message.GetState = codes "get-state"
message_text message.GetList = codes "get-list"
message_text message.Ping = codes "ping"
message_text message.Notify = codes "notify"
message_text message.Leave = codes "leave"
message_text message.StepReply = codes "step-reply"
message_text message.StateReply = codes "state-reply"
message_text message.ListReply = codes "list-reply"
message_text message.Pong = codes "pong"

-- the name of a kind of command
abbrev pub command_text : CommandKind → List ℕ
command_text command.Join = codes "join"
command_text command.Crash = codes "crash"
command_text command.Leave = codes "leave"
command_text command.Lookup = codes "lookup"

-- what a line says of a message, with the other node
abbrev pub message_words : Setup → (word : List ℕ) → MessageKind → (other : ℕ) → List ℕ
message_words sc word kind other = word ++ codes " " ++ message_text kind ++ codes " " ++ name_of sc other

-- what a line says of its node
abbrev pub line_words : Setup → Line → List ℕ
line_words sc (line.Join via) = codes "join " ++ name_of sc via
line_words sc (line.Member predecessor) = codes "member " ++ name_of sc predecessor
line_words sc line.JoinFailed = codes "join-failed"
line_words sc line.Crash = codes "crash"
line_words sc line.Leave = codes "leave"
line_words sc (line.Stranded via) = codes "stranded " ++ name_of sc via
line_words sc (line.Drop kind sender) = message_words sc (codes "drop") kind sender
line_words sc (line.Late kind sender) = message_words sc (codes "late") kind sender
line_words sc (line.Timeout silent) = codes "timeout " ++ name_of sc silent
line_words sc (line.Lose kind receiver) = message_words sc (codes "lose") kind receiver
line_words sc (line.Again kind receiver) = message_words sc (codes "again") kind receiver
line_words sc (line.Forget predecessor) = codes "forget " ++ name_of sc predecessor
line_words sc (line.Rescue finger) = codes "rescue " ++ name_of sc finger
line_words sc line.Create = codes "create"
line_words sc (line.Ask kind receiver call) = message_words sc (codes "ask") kind receiver ++ codes " call=" ++ decimal call
line_words sc (line.Seek kind receiver call key since) =
    message_words sc (codes "ask") kind receiver
    ++ codes " call=" ++ decimal call ++ codes " key=" ++ decimal key ++ codes " since=" ++ decimal since
line_words sc (line.Send kind receiver) = message_words sc (codes "send") kind receiver
line_words sc (line.Lookup key) = codes "lookup " ++ decimal key
line_words sc (line.Found key owner hops timeouts us) =
    codes "found " ++ decimal key ++ codes " " ++ name_of sc owner ++ codes " hops=" ++ decimal hops
    ++ codes " timeouts=" ++ decimal timeouts ++ codes " us=" ++ decimal us
line_words sc (line.Lost key hops timeouts us) =
    codes "lost " ++ decimal key ++ codes " hops=" ++ decimal hops
    ++ codes " timeouts=" ++ decimal timeouts ++ codes " us=" ++ decimal us
line_words sc (line.Busy key) = codes "busy " ++ decimal key
line_words sc (line.Ignored command) = codes "ignored " ++ command_text command

-- a line of an event at this time and node
abbrev pub line_text : Setup → (time node : ℕ) → Line → List ℕ
line_text sc time node line =
    decimal time ++ codes " " ++ name_of sc node ++ codes " " ++ line_words sc line ++ codes "\n"

-- the lines of an event, in the order made
abbrev pub block_text : Setup → Block → List ℕ
block_text sc block = flat_map (line_text sc block.key.time block.target) block.lines

-- the name of a truth value
abbrev pub yes_or_no : Bool → List ℕ
yes_or_no true = codes "yes"
yes_or_no false = codes "no"

-- the line of an audit
abbrev pub audit_text : AuditLine → List ℕ
audit_text audit = concat (
    decimal audit.time ∷ codes " audit members=" ∷ decimal audit.members
    ∷ codes " dead=" ∷ decimal audit.dead ∷ codes " ring=" ∷ decimal audit.ring
    ∷ codes " ordered=" ∷ yes_or_no audit.ordered ∷ codes " principals=" ∷ decimal audit.principals
    ∷ codes " sufficient=" ∷ yes_or_no audit.sufficient ∷ codes "\n" ∷ [])

-- the text of one piece
abbrev pub piece_text : Setup → Piece → List ℕ
piece_text sc (piece.OfEvent block) = block_text sc block
piece_text sc (piece.OfAudit audit) = audit_text audit

-- the text of a trace, the first piece first
abbrev pub pieces_text : Setup → List Piece → List ℕ
pieces_text sc = flat_map (piece_text sc)
