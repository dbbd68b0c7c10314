-- The trace of a run is read as the lines that it was written from.
use Rattle.std.proofs.Common.{◌≡◌, ◌∙◌, sym, ap, refl, subst, ℕ, ◌<◌, ◌≤◌, ◌==◌, Bool, true, false, not, List, [], ◌∷◌, ◌++◌, Option, Some, None, codes, if◌then◌else◌}
use Rattle.std.specs.Fmt.{decimal}
use Rattle.std.specs.List.{All, AllByRecursion, concat, cons_option, filter_map, flat_map, list_all}
use Rattle.std.proofs.lemmas.Bool.{and_parts}
use Rattle.std.proofs.lemmas.List.Folds.{concat-append}
use Rattle.std.proofs.lemmas.List.Elements.{All-append, All-cons, All-head, All-nil, All-tail}
use Rattle.chord_audit.specs.declared.audit_line.AuditLine.{AuditLine}
use Rattle.chord_event.specs.declared.line.CommandKind.{CommandKind}
use Rattle.chord_event.specs.declared.line.CommandKind.TheVariants as command
use Rattle.chord_event.specs.declared.line.Line.{Line}
use Rattle.chord_event.specs.declared.line.Line.TheVariants as line
use Rattle.chord_event.specs.declared.line.MessageKind.{MessageKind}
use Rattle.chord_event.specs.declared.line.MessageKind.TheVariants as message
use Rattle.chord_judge.specs.Judged.{judged}
use Rattle.chord_judge.specs.Reading.{said}
use Rattle.chord_judge.specs.Table.{heading, rows_text}
use Rattle.chord_judge.specs.Traces.{IsLine, IsReadable, lines_from, rest_from, table_text, told_in, told_lines}
use Rattle.chord_judge.specs.Written.{HasPlainNames, IsWritable, IsWritableBlock, is_judged, saying, telling, told_of, told_of_block}
use Rattle.chord_judge.specs.declared.lines.Said.TheVariants as outcome
use Rattle.chord_judge.specs.declared.told.Told.{Told}
use Rattle.chord_judge.proofs.ReadBack.{audit_read, name_word, text_read, words_text, written_text}
use Rattle.chord_judge.proofs.Streams.{HasNoFeed, lines_append, lines_none, rest_append, rest_grows, told_append}
use Rattle.chord_judge.proofs.WordLemmas.{IsWord, decimal_word, no_feed}
use Rattle.chord_scenario.specs.Blocks.{IsLineOf}
use Rattle.chord_scenario.specs.Setup.{Setup}
use Rattle.chord_scenario.specs.World.{name_of, node_count}
use Rattle.chord_trace.specs.Pieces.{blocks_of}
use Rattle.chord_trace.specs.Texts.{audit_text, block_text, command_text, line_text, line_words, message_text, message_words, pieces_text, yes_or_no}
use Rattle.chord_trace.specs.declared.piece.Piece.{Piece}
use Rattle.chord_trace.specs.declared.piece.Piece.TheVariants as piece

-- texts without line feeds
pub word_feedless : (word : List ℕ) → IsWord word → HasNoFeed word
word_feedless [] h = tt
word_feedless (byte ∷ word) h = (no_feed byte h.0, word_feedless word h.1)

pub number : (n : ℕ) → HasNoFeed (decimal n)
number n = word_feedless (decimal n) (decimal_word n)

pub feedless : (text : List ℕ) → list_all (λ byte. not (byte == 10)) text ≡ true → HasNoFeed text
feedless [] h = tt
feedless (byte ∷ text) h =
    let parts = and_parts (not (byte == 10)) (list_all (λ b. not (b == 10)) text) h in (plain (byte == 10) parts.0, feedless text parts.1)
  where
    plain : (b : Bool) → not b ≡ true → b ≡ false
    plain false e = refl
    plain true e = absurd (cc)

pub joined : (a b : List ℕ) → HasNoFeed a → HasNoFeed b → HasNoFeed (a ++ b)
joined [] b p q = q
joined (x ∷ a) b p q = (p.0, joined a b p.1 q)

-- texts one after another, from the left
abbrev from_left : List ℕ → List (List ℕ) → List ℕ
from_left front [] = front
from_left front (text ∷ texts) = from_left (front ++ text) texts

all_feedless : (front : List ℕ) (texts : List (List ℕ)) → HasNoFeed front → AllByRecursion HasNoFeed texts → HasNoFeed (from_left front texts)
all_feedless front [] p q = p
all_feedless front (text ∷ texts) p q = all_feedless (front ++ text) texts (joined front text p q.0) q.1

concat_feedless : (texts : List (List ℕ)) → AllByRecursion HasNoFeed texts → HasNoFeed (concat texts)
concat_feedless [] q = tt
concat_feedless (text ∷ texts) q = joined text (concat texts) q.0 (concat_feedless texts q.1)

message_feedless : (kind : MessageKind) → HasNoFeed (message_text kind)
message_feedless message.Step = feedless (codes "step") refl
message_feedless message.GetState = feedless (codes "get-state") refl
message_feedless message.GetList = feedless (codes "get-list") refl
message_feedless message.Ping = feedless (codes "ping") refl
message_feedless message.Notify = feedless (codes "notify") refl
message_feedless message.Leave = feedless (codes "leave") refl
message_feedless message.StepReply = feedless (codes "step-reply") refl
message_feedless message.StateReply = feedless (codes "state-reply") refl
message_feedless message.ListReply = feedless (codes "list-reply") refl
message_feedless message.Pong = feedless (codes "pong") refl

command_feedless : (kind : CommandKind) → HasNoFeed (command_text kind)
command_feedless command.Join = feedless (codes "join") refl
command_feedless command.Crash = feedless (codes "crash") refl
command_feedless command.Leave = feedless (codes "leave") refl
command_feedless command.Lookup = feedless (codes "lookup") refl

truth_feedless : (b : Bool) → HasNoFeed (yes_or_no b)
truth_feedless true = feedless (codes "yes") refl
truth_feedless false = feedless (codes "no") refl

name_feedless : (sc : Setup) (node : ℕ) → HasPlainNames sc → All (λ n. n < node_count sc) (node ∷ []) → HasNoFeed (name_of sc node)
name_feedless sc node plain named = word_feedless (name_of sc node) (name_word sc node plain (All-head (λ n. n < node_count sc) node [] named))

then_name : (sc : Setup) (word : List ℕ) (node : ℕ) → HasPlainNames sc → HasNoFeed word → All (λ n. n < node_count sc) (node ∷ []) → HasNoFeed (word ++ name_of sc node)
then_name sc word node plain w named = joined word (name_of sc node) w (name_feedless sc node plain named)

of_message : (sc : Setup) (word : List ℕ) (kind : MessageKind) (node : ℕ) → HasPlainNames sc → HasNoFeed word → All (λ n. n < node_count sc) (node ∷ [])
    → HasNoFeed (message_words sc word kind node)
of_message sc word kind node plain w named =
    all_feedless word (codes " " ∷ message_text kind ∷ codes " " ∷ name_of sc node ∷ []) w
    (feedless (codes " ") refl, (message_feedless kind, (feedless (codes " ") refl, (name_feedless sc node plain named, tt))))

words_feedless : (sc : Setup) (l : Line) → HasPlainNames sc → IsLineOf sc l → HasNoFeed (line_words sc l)
words_feedless sc (line.Join via) plain named = then_name sc (codes "join ") via plain (feedless (codes "join ") refl) named
words_feedless sc (line.Member p) plain named = then_name sc (codes "member ") p plain (feedless (codes "member ") refl) named
words_feedless sc line.JoinFailed plain named = feedless (codes "join-failed") refl
words_feedless sc line.Crash plain named = feedless (codes "crash") refl
words_feedless sc line.Leave plain named = feedless (codes "leave") refl
words_feedless sc (line.Stranded via) plain named = then_name sc (codes "stranded ") via plain (feedless (codes "stranded ") refl) named
words_feedless sc (line.Drop k o) plain named = of_message sc (codes "drop") k o plain (feedless (codes "drop") refl) named
words_feedless sc (line.Late k o) plain named = of_message sc (codes "late") k o plain (feedless (codes "late") refl) named
words_feedless sc (line.Timeout n) plain named = then_name sc (codes "timeout ") n plain (feedless (codes "timeout ") refl) named
words_feedless sc (line.Lose k o) plain named = of_message sc (codes "lose") k o plain (feedless (codes "lose") refl) named
words_feedless sc (line.Again k o) plain named = of_message sc (codes "again") k o plain (feedless (codes "again") refl) named
words_feedless sc (line.Forget n) plain named = then_name sc (codes "forget ") n plain (feedless (codes "forget ") refl) named
words_feedless sc (line.Rescue n) plain named = then_name sc (codes "rescue ") n plain (feedless (codes "rescue ") refl) named
words_feedless sc line.Create plain named = feedless (codes "create") refl
words_feedless sc (line.Ask k o call) plain named =
    all_feedless (message_words sc (codes "ask") k o) (codes " call=" ∷ decimal call ∷ []) (of_message sc (codes "ask") k o plain (feedless (codes "ask") refl) named)
    (feedless (codes " call=") refl, (number call, tt))
words_feedless sc (line.Seek k o call key since) plain named =
    all_feedless (message_words sc (codes "ask") k o)
    (codes " call=" ∷ decimal call ∷ codes " key=" ∷ decimal key ∷ codes " since=" ∷ decimal since ∷ [])
    (of_message sc (codes "ask") k o plain (feedless (codes "ask") refl) named)
    (feedless (codes " call=") refl, (number call, (feedless (codes " key=") refl, (number key, (feedless (codes " since=") refl, (number since, tt))))))
words_feedless sc (line.Send k o) plain named = of_message sc (codes "send") k o plain (feedless (codes "send") refl) named
words_feedless sc (line.Lookup key) plain named = joined (codes "lookup ") (decimal key) (feedless (codes "lookup ") refl) (number key)
words_feedless sc (line.Found key owner hops timeouts us) plain named =
    all_feedless (codes "found ")
    (decimal key ∷ codes " " ∷ name_of sc owner ∷ codes " hops=" ∷ decimal hops ∷ codes " timeouts=" ∷ decimal timeouts ∷ codes " us=" ∷ decimal us ∷ [])
    (feedless (codes "found ") refl) (
      number key,
      (
        feedless (codes " ") refl,
        (
          name_feedless sc owner plain named,
          (
            feedless (codes " hops=") refl,
            (
              number hops,
              (feedless (codes " timeouts=") refl, (number timeouts, (feedless (codes " us=") refl, (number us, tt)))),
            ),
          ),
        ),
      ),
    )
words_feedless sc (line.Lost key hops timeouts us) plain named =
    all_feedless (codes "lost ")
    (decimal key ∷ codes " hops=" ∷ decimal hops ∷ codes " timeouts=" ∷ decimal timeouts ∷ codes " us=" ∷ decimal us ∷ [])
    (feedless (codes "lost ") refl)
    (number key, (feedless (codes " hops=") refl, (number hops, (feedless (codes " timeouts=") refl, (number timeouts, (feedless (codes " us=") refl, (number us, tt)))))))
words_feedless sc (line.Busy key) plain named = joined (codes "busy ") (decimal key) (feedless (codes "busy ") refl) (number key)
words_feedless sc (line.Ignored command) plain named =
    joined (codes "ignored ") (command_text command) (feedless (codes "ignored ") refl) (command_feedless command)

line_feedless : (sc : Setup) (time node : ℕ) (l : Line) → HasPlainNames sc → IsWritable sc time node l → HasNoFeed (words_text sc time node l)
line_feedless sc time node l plain fits =
    joined (decimal time) (32 ∷ (name_of sc node ++ 32 ∷ line_words sc l)) (number time)
    (refl, joined (name_of sc node) (32 ∷ line_words sc l) (word_feedless (name_of sc node) (name_word sc node plain fits.there)) (refl, words_feedless sc l plain fits.names))

-- a text of whole lines, of which a judge is told these
record IsWhole (sc : Setup) (text : List ℕ) (tolds : List Told) : Type 0 where
  told : told_lines sc text ≡ tolds
  readable : IsReadable sc text
  rest : rest_from [] text ≡ []

whole_none : (sc : Setup) → IsWhole sc [] []
whole_none sc = record { told = refl; readable = All-nil (λ (l : List ℕ). IsLine (said sc l)); rest = refl }

whole_then : (sc : Setup) (a b : List ℕ) (xs ys : List Told) → IsWhole sc a xs → IsWhole sc b ys → IsWhole sc (a ++ b) (xs ++ ys)
whole_then sc a b xs ys p q = record {
  told = told_append sc a b
      ∙ ap (λ (r : List ℕ). told_lines sc a ++ filter_map (λ (l : List ℕ). told_in (said sc l)) (lines_from r b)) p.rest
      ∙ ap (λ (t : List Told). t ++ told_lines sc b) p.told ∙ ap (λ (t : List Told). xs ++ t) q.told;
  readable = subst (All (λ (l : List ℕ). IsLine (said sc l))) (sym (lines_append [] a b ∙ ap (λ (r : List ℕ). lines_from [] a ++ lines_from r b) p.rest))
      (All-append (λ (l : List ℕ). IsLine (said sc l)) (lines_from [] a) (lines_from [] b) p.readable q.readable);
  rest = rest_append [] a b ∙ ap (λ (r : List ℕ). rest_from r b) p.rest ∙ q.rest;
}

pub one_line : (text : List ℕ) → HasNoFeed text → lines_from [] (text ++ 10 ∷ []) ≡ text ∷ []
one_line text plain =
    lines_append [] text (10 ∷ []) ∙ ap (λ (ls : List (List ℕ)). ls ++ rest_from [] text ∷ []) (lines_none [] text plain)
    ∙ ap (λ (l : List ℕ). l ∷ []) (rest_grows [] text plain)

whole_line : (sc : Setup) (text : List ℕ) → HasNoFeed text → IsLine (said sc text) → IsWhole sc (text ++ 10 ∷ []) (cons_option (told_in (said sc text)) [])
whole_line sc text plain is_line = record {
  told = ap (filter_map (λ (l : List ℕ). told_in (said sc l))) (one_line text plain);
  readable = subst (All (λ (l : List ℕ). IsLine (said sc l))) (sym (one_line text plain))
      (All-cons (λ (l : List ℕ). IsLine (said sc l)) text [] is_line (All-nil (λ (l : List ℕ). IsLine (said sc l))));
  rest = rest_append [] text (10 ∷ []);
}

-- a line
says_something : (time node : ℕ) (l : Line) → IsLine (saying time node l)
says_something time node l = by_kind (is_judged l)
  where
    by_kind : (b : Bool) → IsLine (if b then outcome.Told (record { time = time; node = node; line = l }) else outcome.Other)
    by_kind true = tt
    by_kind false = tt

told_as : (time node : ℕ) (l : Line) → told_in (saying time node l) ≡ telling time node l
told_as time node l = by_kind (is_judged l)
  where
    by_kind : (b : Bool) → told_in (if b then outcome.Told (record { time = time; node = node; line = l }) else outcome.Other)
        ≡ if b then Some (record { time = time; node = node; line = l }) else None
    by_kind true = refl
    by_kind false = refl

line_whole : (sc : Setup) → sc.bits ≤ 128 → HasPlainNames sc → (time node : ℕ) (l : Line) → IsWritable sc time node l
    → IsWhole sc (line_text sc time node l) (cons_option (telling time node l) [])
line_whole sc range plain time node l fits =
    subst (λ (t : List ℕ). IsWhole sc t (cons_option (telling time node l) [])) (sym (written_text sc time node l))
    (subst (λ (o : Option Told). IsWhole sc (words_text sc time node l ++ 10 ∷ []) (cons_option o []))
    (ap told_in (text_read sc range plain time node l fits) ∙ told_as time node l)
    (whole_line sc (words_text sc time node l) (line_feedless sc time node l plain fits)
    (subst IsLine (sym (text_read sc range plain time node l fits)) (says_something time node l))))

lines_whole : (sc : Setup) → sc.bits ≤ 128 → HasPlainNames sc → (time node : ℕ) (ls : List Line) → All (IsWritable sc time node) ls
    → IsWhole sc (flat_map (line_text sc time node) ls) (filter_map (telling time node) ls)
lines_whole sc range plain time node [] fits = whole_none sc
lines_whole sc range plain time node (l ∷ ls) fits =
    subst (IsWhole sc (line_text sc time node l ++ flat_map (line_text sc time node) ls)) (one_then (telling time node l) (filter_map (telling time node) ls))
    (whole_then sc (line_text sc time node l) (flat_map (line_text sc time node) ls) (cons_option (telling time node l) []) (filter_map (telling time node) ls)
    (line_whole sc range plain time node l (All-head (IsWritable sc time node) l ls fits))
    (lines_whole sc range plain time node ls (All-tail (IsWritable sc time node) l ls fits)))
  where
    one_then : (o : Option Told) (ts : List Told) → cons_option o [] ++ ts ≡ cons_option o ts
    one_then None ts = refl
    one_then (Some t) ts = refl

-- an audit
abbrev audit_parts : AuditLine → List (List ℕ)
audit_parts audit =
    decimal audit.time ∷ codes " audit members=" ∷ decimal audit.members
    ∷ codes " dead=" ∷ decimal audit.dead ∷ codes " ring=" ∷ decimal audit.ring
    ∷ codes " ordered=" ∷ yes_or_no audit.ordered ∷ codes " principals=" ∷ decimal audit.principals
    ∷ codes " sufficient=" ∷ yes_or_no audit.sufficient ∷ []

audit_whole : (sc : Setup) (audit : AuditLine) → IsWhole sc (audit_text audit) []
audit_whole sc audit =
    let text = concat (audit_parts audit) in
    let plain : HasNoFeed text = concat_feedless (audit_parts audit) (
      number audit.time,
      (
        feedless (codes " audit members=") refl,
        (
          number audit.members,
          (
            feedless (codes " dead=") refl,
            (
              number audit.dead,
              (
                feedless (codes " ring=") refl,
                (
                  number audit.ring,
                  (
                    feedless (codes " ordered=") refl,
                    (
                      truth_feedless audit.ordered,
                      (
                        feedless (codes " principals=") refl,
                        (
                          number audit.principals,
                          (
                            feedless (codes " sufficient=") refl,
                            (truth_feedless audit.sufficient, tt),
                          ),
                        ),
                      ),
                    ),
                  ),
                ),
              ),
            ),
          ),
        ),
      ),
    ) in
    subst (λ (t : List ℕ). IsWhole sc t []) (sym (concat-append (audit_parts audit) (codes "\n" ∷ [])))
    (subst (λ (o : Option Told). IsWhole sc (text ++ 10 ∷ []) (cons_option o [])) (ap told_in (audit_read sc audit))
    (whole_line sc text plain (subst IsLine (sym (audit_read sc audit)) tt)))

pieces_whole : (sc : Setup) → sc.bits ≤ 128 → HasPlainNames sc → (pieces : List Piece) → All (IsWritableBlock sc) (blocks_of pieces)
    → IsWhole sc (pieces_text sc pieces) (told_of pieces)
pieces_whole sc range plain [] fits = whole_none sc
pieces_whole sc range plain (piece.OfEvent block ∷ pieces) fits =
    whole_then sc (block_text sc block) (pieces_text sc pieces) (told_of_block block) (told_of pieces)
    (lines_whole sc range plain block.key.time block.target block.lines (All-head (IsWritableBlock sc) block (blocks_of pieces) fits))
    (pieces_whole sc range plain pieces (All-tail (IsWritableBlock sc) block (blocks_of pieces) fits))
pieces_whole sc range plain (piece.OfAudit audit ∷ pieces) fits =
    whole_then sc (audit_text audit) (pieces_text sc pieces) [] (told_of pieces) (audit_whole sc audit) (pieces_whole sc range plain pieces fits)

-- the laws
pub trace_read : (sc : Setup) → sc.bits ≤ 128 → HasPlainNames sc → (pieces : List Piece) → All (IsWritableBlock sc) (blocks_of pieces)
    → told_lines sc (pieces_text sc pieces) ≡ told_of pieces
trace_read sc range plain pieces fits = (pieces_whole sc range plain pieces fits).told

pub trace_judged : (sc : Setup) → sc.bits ≤ 128 → HasPlainNames sc → (pieces : List Piece) → All (IsWritableBlock sc) (blocks_of pieces)
    → table_text sc (pieces_text sc pieces) ≡ heading ++ rows_text sc (judged sc (told_of pieces))
trace_judged sc range plain pieces fits = ap (λ (t : List Told). heading ++ rows_text sc (judged sc t)) (trace_read sc range plain pieces fits)

pub trace_readable : (sc : Setup) → sc.bits ≤ 128 → HasPlainNames sc → (pieces : List Piece) → All (IsWritableBlock sc) (blocks_of pieces)
    → IsReadable sc (pieces_text sc pieces)
trace_readable sc range plain pieces fits = (pieces_whole sc range plain pieces fits).readable
