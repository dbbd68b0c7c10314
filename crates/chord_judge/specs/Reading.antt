-- What the text of a line says.
use Rattle.std.specs.Prelude.{ℕ, ◌==◌, ◌^◌, List, Option, Some, None, codes, length, option_map, if◌then◌else◌}
use Rattle.std.specs.Str.{bytes_eq}
use Rattle.chord_event.specs.declared.line.Line.{Line}
use Rattle.chord_event.specs.declared.line.Line.TheVariants as line
use Rattle.chord_judge.specs.Words.{after_word, first_word, number_after, number_below}
use Rattle.chord_judge.specs.declared.lines.Kind.{Kind}
use Rattle.chord_judge.specs.declared.lines.Kind.TheVariants as kind
use Rattle.chord_judge.specs.declared.lines.Said.{Said}
use Rattle.chord_judge.specs.declared.lines.Said.TheVariants as outcome
use Rattle.chord_scenario.specs.Settings.{index_of}
use Rattle.chord_scenario.specs.Setup.{Setup}

-- the number of the node of this name
abbrev pub node_named : Setup → List ℕ → Option ℕ
node_named sc name = index_of name sc.nodes

-- the key that a text writes, if it is on the circle
abbrev pub key_in : Setup → List ℕ → Option ℕ
key_in sc = number_below (2 ^ sc.bits)

-- the kind of judged lines that a word names
abbrev pub kind_named : List ℕ → Option Kind
kind_named word =
    if bytes_eq word (codes "member") then Some kind.Member
    else if bytes_eq word (codes "create") then Some kind.Create
    else if bytes_eq word (codes "crash") then Some kind.Crash
    else if bytes_eq word (codes "leave") then Some kind.Leave
    else if bytes_eq word (codes "stranded") then Some kind.Stranded
    else if bytes_eq word (codes "lookup") then Some kind.Lookup
    else if bytes_eq word (codes "found") then Some kind.Found
    else if bytes_eq word (codes "lost") then Some kind.Lost
    else None

-- the line, if no text follows its kind
abbrev pub line_alone : Line → List ℕ → Option Line
line_alone line text = if length text == 0 then Some line else None

-- the end of a lookup with an answer, if all its parts are there
abbrev pub found_with : (key owner hops timeouts us : Option ℕ) → Option Line
found_with (Some key) (Some owner) (Some hops) (Some timeouts) (Some us) = Some (line.Found key owner hops timeouts us)
found_with _ _ _ _ _ = None

-- the end of a lookup without an answer, if all its parts are there
abbrev pub lost_with : (key hops timeouts us : Option ℕ) → Option Line
lost_with (Some key) (Some hops) (Some timeouts) (Some us) = Some (line.Lost key hops timeouts us)
lost_with _ _ _ _ = None

-- the end of a lookup with an answer: the key, the name of the node that it names, and the numbers with their names
abbrev pub found_in : Setup → List ℕ → Option Line
found_in sc text =
    found_with (key_in sc (first_word text)) (node_named sc (first_word (after_word text)))
    (number_after (codes "hops=") (2 ^ 32) (first_word (after_word (after_word text))))
    (number_after (codes "timeouts=") (2 ^ 32) (first_word (after_word (after_word (after_word text)))))
    (number_after (codes "us=") (2 ^ 64) (after_word (after_word (after_word (after_word text)))))

-- the end of a lookup without an answer: the key, and the numbers with their names
abbrev pub lost_in : Setup → List ℕ → Option Line
lost_in sc text =
    lost_with (key_in sc (first_word text))
    (number_after (codes "hops=") (2 ^ 32) (first_word (after_word text)))
    (number_after (codes "timeouts=") (2 ^ 32) (first_word (after_word (after_word text))))
    (number_after (codes "us=") (2 ^ 64) (after_word (after_word (after_word text))))

-- the line of a kind with this text after the kind
abbrev pub line_of : Setup → Kind → List ℕ → Option Line
line_of sc kind.Member text = option_map line.Member (node_named sc text)
line_of sc kind.Create text = line_alone line.Create text
line_of sc kind.Crash text = line_alone line.Crash text
line_of sc kind.Leave text = line_alone line.Leave text
line_of sc kind.Stranded text = option_map line.Stranded (node_named sc text)
line_of sc kind.Lookup text = option_map line.Lookup (key_in sc text)
line_of sc kind.Found text = found_in sc text
line_of sc kind.Lost text = lost_in sc text

-- a line with its time and node, if all of them are there
abbrev pub said_with : (time node : Option ℕ) → Option Line → Said
said_with (Some time) (Some node) (Some line) = outcome.Told (record { time = time; node = node; line = line })
said_with _ _ _ = outcome.Nothing

-- what a text says with these words and the text after them, if this kind has the name in its third word
abbrev pub said_of : Setup → Option Kind → (time name text : List ℕ) → Said
said_of sc None time name text = outcome.Other
said_of sc (Some kind) time name text = said_with (number_below (2 ^ 64) time) (node_named sc name) (line_of sc kind text)

-- what the text of a line says: its time, its node, its kind, and what belongs to the kind
abbrev pub said : Setup → List ℕ → Said
said sc text =
    said_of sc (kind_named (first_word (after_word (after_word text))))
    (first_word text)
    (first_word (after_word text))
    (after_word (after_word (after_word text)))
