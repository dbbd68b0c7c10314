-- A line that a run writes is read as it was.
use Rattle.std.proofs.Common.{◌≡◌, ◌∙◌, sym, ap, refl, ℕ, zero, suc, ◌+◌, ◌<◌, ◌≤◌, ◌^◌, Bool, true, false, not, List, [], ◌∷◌, ◌++◌, Option, Some, None, arith, length, inl, inr, bytes_eq, codes, append_assoc, option_map, unwrap_or}
use Rattle.std.specs.Fmt.{decimal}
use Rattle.std.specs.List.{concat, list_all, slice_get}
use Rattle.std.proofs.Math.Pow.{pow_mono}
use Rattle.std.proofs.lemmas.Bool.{and_parts, cases_Bool}
use Rattle.std.proofs.lemmas.List.{append_cancel_right}
use Rattle.std.proofs.lemmas.List.Elements.{All-head, recursion_from_All}
use Rattle.std.proofs.lemmas.Slice.Eq.{bytes_eq-Decides}
use Rattle.chord_audit.specs.declared.audit_line.AuditLine.{AuditLine}
use Rattle.chord_event.specs.declared.line.Line.{Line}
use Rattle.chord_event.specs.declared.line.Line.TheVariants as line
use Rattle.chord_judge.specs.Reading.{found_in, found_with, key_in, kind_named, line_of, lost_in, lost_with, node_named, said, said_of, said_with}
use Rattle.chord_judge.specs.Words.{after_word, first_word, number_after, number_below}
use Rattle.chord_judge.specs.Written.{AreInRange, HasPlainNames, IsWritable, is_break, saying}
use Rattle.chord_judge.specs.declared.lines.Kind.{Kind}
use Rattle.chord_judge.specs.declared.lines.Kind.TheVariants as kind
use Rattle.chord_judge.specs.declared.lines.Said.TheVariants as outcome
use Rattle.chord_judge.proofs.WordLemmas.{IsWord, after_word_alone, after_word_of, decimal_word, first_word_alone, first_word_of, number_after_read, number_read}
use Rattle.chord_scenario.specs.Settings.{index_from}
use Rattle.chord_scenario.specs.Setup.{Setup}
use Rattle.chord_scenario.specs.World.{name_of, node_count}
use Rattle.chord_scenario.specs.declared.setting.Node.{Node}
use Rattle.chord_trace.specs.Texts.{command_text, line_text, line_words, message_text, yes_or_no}

-- the name at a place among nodes
abbrev name_at : List Node → ℕ → List ℕ
name_at nodes i = unwrap_or (option_map (λ (x : Node). x.name) (slice_get nodes i)) []

own_number : (nodes : List Node) (k i : ℕ) (name : List ℕ) → i < length nodes → bytes_eq name (name_at nodes i) ≡ true
    → ((j : ℕ) → j < i → bytes_eq name (name_at nodes j) ≡ false) → index_from k name nodes ≡ Some (k + i)
own_number [] k i name within same apart = absurd (omega arith)
own_number (x ∷ xs) k zero name within same apart = rw same (ap Some (omega arith))
own_number (x ∷ xs) k (suc i) name within same apart =
    rw (apart 0 (omega arith)) (own_number xs (k + 1) i name (omega (arith, within)) same (λ j low. apart (suc j) (omega (arith, low))) ∙ ap Some (omega arith))

differ : (a b : List ℕ) → (a ≡ b → ⊥) → bytes_eq a b ≡ false
differ a b h =
    elim (cases_Bool (bytes_eq a b)) [
      | inl same ↦ absurd (h ((bytes_eq-Decides a b).0 same))
      | inr other ↦ other
    ]

-- a name is read as its node
pub name_read : (sc : Setup) (node : ℕ) → HasPlainNames sc → node < node_count sc → node_named sc (name_of sc node) ≡ Some node
unfolding name_of
name_read sc node plain within =
    own_number sc.nodes 0 node (name_at sc.nodes node) within ((bytes_eq-Decides (name_at sc.nodes node) (name_at sc.nodes node)).1 refl)
    (λ j low. differ (name_at sc.nodes node) (name_at sc.nodes j) (λ same. let twice : node ≡ j = plain.apart node j within (omega (arith, low, within)) same in omega (arith, twice, low))) ∙ ap Some (omega arith)

pub name_word : (sc : Setup) (node : ℕ) → HasPlainNames sc → node < node_count sc → IsWord (name_of sc node)
name_word sc node plain within = recursion_from_All (λ byte. is_break byte ≡ false) (name_of sc node) (plain.words node within)

-- a literal is a word, by a computed test
pub literal : (text : List ℕ) → list_all (λ byte. not (is_break byte)) text ≡ true → IsWord text
literal [] h = tt
literal (byte ∷ text) h =
    let parts = and_parts (not (is_break byte)) (list_all (λ b. not (is_break b)) text) h in (plain (is_break byte) parts.0, literal text parts.1)
  where
    plain : (b : Bool) → not b ≡ true → b ≡ false
    plain false e = refl
    plain true e = absurd (cc)

pub joined : (a b : List ℕ) → IsWord a → IsWord b → IsWord (a ++ b)
joined [] b p q = q
joined (x ∷ a) b p q = (p.0, joined a b p.1 q)

-- what a text says, from what follows its words
said_from : (sc : Setup) (t t1 t2 time name word rest : List ℕ) → after_word t ≡ t1 → after_word t1 ≡ t2
    → first_word t ≡ time → first_word t1 ≡ name → first_word t2 ≡ word → after_word t2 ≡ rest → said sc t ≡ said_of sc (kind_named word) time name rest
said_from sc t t1 t2 time name word rest a b c d e f =
    ap (λ (u : List ℕ). said_of sc (kind_named (first_word (after_word u))) (first_word t) (first_word u) (after_word (after_word u))) a
    ∙ ap (λ (u : List ℕ). said_of sc (kind_named (first_word u)) (first_word t) (first_word t1) (after_word u)) b
    ∙ ap (λ (u : List ℕ). said_of sc (kind_named (first_word t2)) u (first_word t1) (after_word t2)) c
    ∙ ap (λ (u : List ℕ). said_of sc (kind_named (first_word t2)) time u (after_word t2)) d
    ∙ ap (λ (u : List ℕ). said_of sc (kind_named u) time name (after_word t2)) e
    ∙ ap (λ (u : List ℕ). said_of sc (kind_named word) time name u) f

three_words : (sc : Setup) (time name word text : List ℕ) → IsWord time → IsWord name → IsWord word
    → said sc (time ++ 32 ∷ (name ++ 32 ∷ (word ++ 32 ∷ text))) ≡ said_of sc (kind_named word) time name text
three_words sc time name word text t n w =
    said_from sc (time ++ 32 ∷ (name ++ 32 ∷ (word ++ 32 ∷ text))) (name ++ 32 ∷ (word ++ 32 ∷ text)) (word ++ 32 ∷ text) time name word text
    (after_word_of time (name ++ 32 ∷ (word ++ 32 ∷ text)) t) (after_word_of name (word ++ 32 ∷ text) n)
    (first_word_of time (name ++ 32 ∷ (word ++ 32 ∷ text)) t) (first_word_of name (word ++ 32 ∷ text) n)
    (first_word_of word text w) (after_word_of word text w)

two_words : (sc : Setup) (time name word : List ℕ) → IsWord time → IsWord name → IsWord word
    → said sc (time ++ 32 ∷ (name ++ 32 ∷ word)) ≡ said_of sc (kind_named word) time name []
two_words sc time name word t n w =
    said_from sc (time ++ 32 ∷ (name ++ 32 ∷ word)) (name ++ 32 ∷ word) word time name word []
    (after_word_of time (name ++ 32 ∷ word) t) (after_word_of name word n)
    (first_word_of time (name ++ 32 ∷ word) t) (first_word_of name word n)
    (first_word_alone word w) (after_word_alone word w)

-- a line of an event, without its line feed
abbrev pub words_text : Setup → (time node : ℕ) → Line → List ℕ
words_text sc time node l = decimal time ++ 32 ∷ (name_of sc node ++ 32 ∷ line_words sc l)

-- what is known of a line
record Known (sc : Setup) (time node : ℕ) : Type 0 where
  range : sc.bits ≤ 128
  plain : HasPlainNames sc
  early : time < 2 ^ 64
  there : node < node_count sc

judged_line : (sc : Setup) (time node : ℕ) (k : Kind) (l : Line) (text : List ℕ) → Known sc time node → line_of sc k text ≡ Some l
    → said_of sc (Some k) (decimal time) (name_of sc node) text ≡ outcome.Told (record { time = time; node = node; line = l })
judged_line sc time node k l text known reads =
    ap (λ (o : Option ℕ). said_with o (node_named sc (name_of sc node)) (line_of sc k text)) (number_read (2 ^ 64) time known.early (omega (arith, known.early)))
    ∙ ap (λ (o : Option ℕ). said_with (Some time) o (line_of sc k text)) (name_read sc node known.plain known.there)
    ∙ ap (λ (o : Option Line). said_with (Some time) (Some node) o) reads

with_text : (sc : Setup) (time node : ℕ) (k : Kind) (word : List ℕ) (l : Line) (text : List ℕ) → Known sc time node → IsWord word → kind_named word ≡ Some k
    → line_of sc k text ≡ Some l
    → said sc (decimal time ++ 32 ∷ (name_of sc node ++ 32 ∷ (word ++ 32 ∷ text))) ≡ outcome.Told (record { time = time; node = node; line = l })
with_text sc time node k word l text known is_word named reads =
    three_words sc (decimal time) (name_of sc node) word text (decimal_word time) (name_word sc node known.plain known.there) is_word
    ∙ ap (λ (o : Option Kind). said_of sc o (decimal time) (name_of sc node) text) named
    ∙ judged_line sc time node k l text known reads

alone : (sc : Setup) (time node : ℕ) (k : Kind) (word : List ℕ) (l : Line) → Known sc time node → IsWord word → kind_named word ≡ Some k
    → line_of sc k [] ≡ Some l
    → said sc (decimal time ++ 32 ∷ (name_of sc node ++ 32 ∷ word)) ≡ outcome.Told (record { time = time; node = node; line = l })
alone sc time node k word l known is_word named reads =
    two_words sc (decimal time) (name_of sc node) word (decimal_word time) (name_word sc node known.plain known.there) is_word
    ∙ ap (λ (o : Option Kind). said_of sc o (decimal time) (name_of sc node) []) named
    ∙ judged_line sc time node k l [] known reads

other : (sc : Setup) (time node : ℕ) (word text : List ℕ) → Known sc time node → IsWord word → kind_named word ≡ None
    → said sc (decimal time ++ 32 ∷ (name_of sc node ++ 32 ∷ (word ++ 32 ∷ text))) ≡ outcome.Other
other sc time node word text known is_word named =
    three_words sc (decimal time) (name_of sc node) word text (decimal_word time) (name_word sc node known.plain known.there) is_word
    ∙ ap (λ (o : Option Kind). said_of sc o (decimal time) (name_of sc node) text) named

-- the numbers at the end of a lookup's end
abbrev hops_text : ℕ → List ℕ
hops_text hops = codes "hops=" ++ decimal hops

abbrev timeouts_text : ℕ → List ℕ
timeouts_text timeouts = codes "timeouts=" ++ decimal timeouts

abbrev us_text : ℕ → List ℕ
us_text us = codes "us=" ++ decimal us

hops_word : (n : ℕ) → IsWord (hops_text n)
hops_word n = joined (codes "hops=") (decimal n) (literal (codes "hops=") refl) (decimal_word n)

timeouts_word : (n : ℕ) → IsWord (timeouts_text n)
timeouts_word n = joined (codes "timeouts=") (decimal n) (literal (codes "timeouts=") refl) (decimal_word n)

us_word : (n : ℕ) → IsWord (us_text n)
us_word n = joined (codes "us=") (decimal n) (literal (codes "us=") refl) (decimal_word n)

key_read : (sc : Setup) (key : ℕ) → sc.bits ≤ 128 → key < 2 ^ sc.bits → number_below (2 ^ sc.bits) (decimal key) ≡ Some key
key_read sc key range low =
    let few : 2 ^ sc.bits ≤ 2 ^ 128 = pow_mono range in
    number_read (2 ^ sc.bits) key low (omega (arith, low, few))

-- what is read of the end of a lookup with an answer
abbrev found_text : Setup → (key owner hops timeouts us : ℕ) → List ℕ
found_text sc key owner hops timeouts us =
    decimal key ++ 32 ∷ (name_of sc owner ++ 32 ∷ (hops_text hops ++ 32 ∷ (timeouts_text timeouts ++ 32 ∷ us_text us)))

found_from : (sc : Setup) (t t1 t2 t3 t4 key owner hops timeouts : List ℕ) → after_word t ≡ t1 → after_word t1 ≡ t2 → after_word t2 ≡ t3 → after_word t3 ≡ t4
    → first_word t ≡ key → first_word t1 ≡ owner → first_word t2 ≡ hops → first_word t3 ≡ timeouts
    → found_in sc t
    ≡ found_with (key_in sc key) (node_named sc owner) (number_after (codes "hops=") (2 ^ 32) hops) (number_after (codes "timeouts=") (2 ^ 32) timeouts)
    (number_after (codes "us=") (2 ^ 64) t4)
found_from sc t t1 t2 t3 t4 key owner hops timeouts a b c d e f g h =
    ap (λ (u : List ℕ). read (first_word t) (first_word u) (first_word (after_word u)) (first_word (after_word (after_word u))) (after_word (after_word (after_word u)))) a
    ∙ ap (λ (u : List ℕ). read (first_word t) (first_word t1) (first_word u) (first_word (after_word u)) (after_word (after_word u))) b
    ∙ ap (λ (u : List ℕ). read (first_word t) (first_word t1) (first_word t2) (first_word u) (after_word u)) c
    ∙ ap (λ (u : List ℕ). read (first_word t) (first_word t1) (first_word t2) (first_word t3) u) d
    ∙ ap (λ (u : List ℕ). read u (first_word t1) (first_word t2) (first_word t3) t4) e
    ∙ ap (λ (u : List ℕ). read key u (first_word t2) (first_word t3) t4) f
    ∙ ap (λ (u : List ℕ). read key owner u (first_word t3) t4) g
    ∙ ap (λ (u : List ℕ). read key owner hops u t4) h
  where
    read : (a b c d e : List ℕ) → Option Line
    read a b c d e =
        found_with (key_in sc a) (node_named sc b) (number_after (codes "hops=") (2 ^ 32) c) (number_after (codes "timeouts=") (2 ^ 32) d)
        (number_after (codes "us=") (2 ^ 64) e)

found_read : (sc : Setup) (key owner hops timeouts us : ℕ) → sc.bits ≤ 128 → HasPlainNames sc → owner < node_count sc → AreInRange sc key hops timeouts us
    → found_in sc (found_text sc key owner hops timeouts us) ≡ Some (line.Found key owner hops timeouts us)
found_read sc key owner hops timeouts us range plain within numbers =
    let t3 = timeouts_text timeouts ++ 32 ∷ us_text us in
    let t2 = hops_text hops ++ 32 ∷ t3 in
    let t1 = name_of sc owner ++ 32 ∷ t2 in
    let owner_word = name_word sc owner plain within in
    found_from sc (decimal key ++ 32 ∷ t1) t1 t2 t3 (us_text us) (decimal key) (name_of sc owner) (hops_text hops) (timeouts_text timeouts)
    (after_word_of (decimal key) t1 (decimal_word key)) (after_word_of (name_of sc owner) t2 owner_word)
    (after_word_of (hops_text hops) t3 (hops_word hops)) (after_word_of (timeouts_text timeouts) (us_text us) (timeouts_word timeouts))
    (first_word_of (decimal key) t1 (decimal_word key)) (first_word_of (name_of sc owner) t2 owner_word)
    (first_word_of (hops_text hops) t3 (hops_word hops)) (first_word_of (timeouts_text timeouts) (us_text us) (timeouts_word timeouts))
    ∙ all (key_in sc (decimal key)) (node_named sc (name_of sc owner)) (number_after (codes "hops=") (2 ^ 32) (hops_text hops))
    (number_after (codes "timeouts=") (2 ^ 32) (timeouts_text timeouts)) (number_after (codes "us=") (2 ^ 64) (us_text us))
    (key_read sc key range numbers.on_circle) (name_read sc owner plain within)
    (number_after_read (codes "hops=") (2 ^ 32) hops numbers.few_hops (omega (arith, numbers.few_hops)))
    (number_after_read (codes "timeouts=") (2 ^ 32) timeouts numbers.few_timeouts (omega (arith, numbers.few_timeouts)))
    (number_after_read (codes "us=") (2 ^ 64) us numbers.short (omega (arith, numbers.short)))
  where
    all : (a b c d e : Option ℕ) → a ≡ Some key → b ≡ Some owner → c ≡ Some hops → d ≡ Some timeouts → e ≡ Some us
        → found_with a b c d e ≡ Some (line.Found key owner hops timeouts us)
    all a b c d e p q r s t = rw (p, q, r, s, t) refl

-- what is read of the end of a lookup without an answer
abbrev lost_text : (key hops timeouts us : ℕ) → List ℕ
lost_text key hops timeouts us = decimal key ++ 32 ∷ (hops_text hops ++ 32 ∷ (timeouts_text timeouts ++ 32 ∷ us_text us))

lost_from : (sc : Setup) (t t1 t2 t3 key hops timeouts : List ℕ) → after_word t ≡ t1 → after_word t1 ≡ t2 → after_word t2 ≡ t3
    → first_word t ≡ key → first_word t1 ≡ hops → first_word t2 ≡ timeouts
    → lost_in sc t
    ≡ lost_with (key_in sc key) (number_after (codes "hops=") (2 ^ 32) hops) (number_after (codes "timeouts=") (2 ^ 32) timeouts) (number_after (codes "us=") (2 ^ 64) t3)
lost_from sc t t1 t2 t3 key hops timeouts a b c e g h =
    ap (λ (u : List ℕ). read (first_word t) (first_word u) (first_word (after_word u)) (after_word (after_word u))) a
    ∙ ap (λ (u : List ℕ). read (first_word t) (first_word t1) (first_word u) (after_word u)) b
    ∙ ap (λ (u : List ℕ). read (first_word t) (first_word t1) (first_word t2) u) c
    ∙ ap (λ (u : List ℕ). read u (first_word t1) (first_word t2) t3) e
    ∙ ap (λ (u : List ℕ). read key u (first_word t2) t3) g
    ∙ ap (λ (u : List ℕ). read key hops u t3) h
  where
    read : (a c d e : List ℕ) → Option Line
    read a c d e =
        lost_with (key_in sc a) (number_after (codes "hops=") (2 ^ 32) c) (number_after (codes "timeouts=") (2 ^ 32) d) (number_after (codes "us=") (2 ^ 64) e)

lost_read : (sc : Setup) (key hops timeouts us : ℕ) → sc.bits ≤ 128 → AreInRange sc key hops timeouts us
    → lost_in sc (lost_text key hops timeouts us) ≡ Some (line.Lost key hops timeouts us)
lost_read sc key hops timeouts us range numbers =
    let t2 = timeouts_text timeouts ++ 32 ∷ us_text us in
    let t1 = hops_text hops ++ 32 ∷ t2 in
    lost_from sc (decimal key ++ 32 ∷ t1) t1 t2 (us_text us) (decimal key) (hops_text hops) (timeouts_text timeouts)
    (after_word_of (decimal key) t1 (decimal_word key))
    (after_word_of (hops_text hops) t2 (hops_word hops)) (after_word_of (timeouts_text timeouts) (us_text us) (timeouts_word timeouts))
    (first_word_of (decimal key) t1 (decimal_word key))
    (first_word_of (hops_text hops) t2 (hops_word hops)) (first_word_of (timeouts_text timeouts) (us_text us) (timeouts_word timeouts))
    ∙ all (key_in sc (decimal key)) (number_after (codes "hops=") (2 ^ 32) (hops_text hops))
    (number_after (codes "timeouts=") (2 ^ 32) (timeouts_text timeouts)) (number_after (codes "us=") (2 ^ 64) (us_text us))
    (key_read sc key range numbers.on_circle)
    (number_after_read (codes "hops=") (2 ^ 32) hops numbers.few_hops (omega (arith, numbers.few_hops)))
    (number_after_read (codes "timeouts=") (2 ^ 32) timeouts numbers.few_timeouts (omega (arith, numbers.few_timeouts)))
    (number_after_read (codes "us=") (2 ^ 64) us numbers.short (omega (arith, numbers.short)))
  where
    all : (a c d e : Option ℕ) → a ≡ Some key → c ≡ Some hops → d ≡ Some timeouts → e ≡ Some us → lost_with a c d e ≡ Some (line.Lost key hops timeouts us)
    all a c d e p r s t = rw (p, r, s, t) refl

-- a line is read as it was written
line_read : (sc : Setup) (time node : ℕ) (l : Line) → Known sc time node → IsWritable sc time node l → said sc (words_text sc time node l) ≡ saying time node l
line_read sc time node (line.Join via) known fits = other sc time node (codes "join") (name_of sc via) known (literal (codes "join") refl) refl
line_read sc time node (line.Member p) known fits =
    with_text sc time node kind.Member (codes "member") (line.Member p) (name_of sc p) known (literal (codes "member") refl) refl
    (ap (λ (o : Option ℕ). option_map line.Member o) (name_read sc p known.plain (All-head (λ n. n < node_count sc) p [] fits.names)))
line_read sc time node line.JoinFailed known fits =
    two_words sc (decimal time) (name_of sc node) (codes "join-failed") (decimal_word time) (name_word sc node known.plain known.there) (literal (codes "join-failed") refl)
line_read sc time node line.Crash known fits = alone sc time node kind.Crash (codes "crash") line.Crash known (literal (codes "crash") refl) refl refl
line_read sc time node line.Leave known fits = alone sc time node kind.Leave (codes "leave") line.Leave known (literal (codes "leave") refl) refl refl
line_read sc time node (line.Stranded via) known fits =
    with_text sc time node kind.Stranded (codes "stranded") (line.Stranded via) (name_of sc via) known (literal (codes "stranded") refl) refl
    (ap (λ (o : Option ℕ). option_map line.Stranded o) (name_read sc via known.plain (All-head (λ n. n < node_count sc) via [] fits.names)))
line_read sc time node (line.Drop k o) known fits =
    other sc time node (codes "drop") (message_text k ++ codes " " ++ name_of sc o) known (literal (codes "drop") refl) refl
line_read sc time node (line.Late k o) known fits =
    other sc time node (codes "late") (message_text k ++ codes " " ++ name_of sc o) known (literal (codes "late") refl) refl
line_read sc time node (line.Timeout n) known fits = other sc time node (codes "timeout") (name_of sc n) known (literal (codes "timeout") refl) refl
line_read sc time node (line.Lose k o) known fits =
    other sc time node (codes "lose") (message_text k ++ codes " " ++ name_of sc o) known (literal (codes "lose") refl) refl
line_read sc time node (line.Again k o) known fits =
    other sc time node (codes "again") (message_text k ++ codes " " ++ name_of sc o) known (literal (codes "again") refl) refl
line_read sc time node (line.Forget n) known fits = other sc time node (codes "forget") (name_of sc n) known (literal (codes "forget") refl) refl
line_read sc time node (line.Rescue n) known fits = other sc time node (codes "rescue") (name_of sc n) known (literal (codes "rescue") refl) refl
line_read sc time node line.Create known fits = alone sc time node kind.Create (codes "create") line.Create known (literal (codes "create") refl) refl refl
line_read sc time node (line.Ask k o call) known fits =
    other sc time node (codes "ask") (message_text k ++ codes " " ++ name_of sc o ++ codes " call=" ++ decimal call) known (literal (codes "ask") refl) refl
line_read sc time node (line.Seek k o call key since) known fits =
    other sc time node (codes "ask")
    (message_text k ++ codes " " ++ name_of sc o ++ codes " call=" ++ decimal call ++ codes " key=" ++ decimal key ++ codes " since=" ++ decimal since) known
    (literal (codes "ask") refl) refl
line_read sc time node (line.Send k o) known fits =
    other sc time node (codes "send") (message_text k ++ codes " " ++ name_of sc o) known (literal (codes "send") refl) refl
line_read sc time node (line.Lookup key) known fits =
    with_text sc time node kind.Lookup (codes "lookup") (line.Lookup key) (decimal key) known (literal (codes "lookup") refl) refl
    (ap (λ (o : Option ℕ). option_map line.Lookup o) (key_read sc key known.range fits.numbers))
line_read sc time node (line.Found key owner hops timeouts us) known fits =
    let regrouped : decimal key ++ codes " " ++ name_of sc owner ++ codes " hops=" ++ decimal hops ++ codes " timeouts=" ++ decimal timeouts ++ codes " us=" ++ decimal us
    ≡ found_text sc key owner hops timeouts us = simp append_assoc in
    with_text sc time node kind.Found (codes "found") (line.Found key owner hops timeouts us)
    (decimal key ++ codes " " ++ name_of sc owner ++ codes " hops=" ++ decimal hops ++ codes " timeouts=" ++ decimal timeouts ++ codes " us=" ++ decimal us) known
    (literal (codes "found") refl) refl
    (ap (found_in sc) regrouped ∙ found_read sc key owner hops timeouts us known.range known.plain (All-head (λ n. n < node_count sc) owner [] fits.names) fits.numbers)
line_read sc time node (line.Lost key hops timeouts us) known fits =
    let regrouped : decimal key ++ codes " hops=" ++ decimal hops ++ codes " timeouts=" ++ decimal timeouts ++ codes " us=" ++ decimal us ≡ lost_text key hops timeouts us =
    simp append_assoc in
    with_text sc time node kind.Lost (codes "lost") (line.Lost key hops timeouts us)
    (decimal key ++ codes " hops=" ++ decimal hops ++ codes " timeouts=" ++ decimal timeouts ++ codes " us=" ++ decimal us) known (literal (codes "lost") refl) refl
    (ap (lost_in sc) regrouped ∙ lost_read sc key hops timeouts us known.range fits.numbers)
line_read sc time node (line.Busy key) known fits = other sc time node (codes "busy") (decimal key) known (literal (codes "busy") refl) refl
line_read sc time node (line.Ignored command) known fits = other sc time node (codes "ignored") (command_text command) known (literal (codes "ignored") refl) refl

pub written_text : (sc : Setup) (time node : ℕ) (l : Line) → line_text sc time node l ≡ words_text sc time node l ++ 10 ∷ []
written_text sc time node l = simp append_assoc

pub text_read : (sc : Setup) → sc.bits ≤ 128 → HasPlainNames sc → (time node : ℕ) (l : Line) → IsWritable sc time node l
    → said sc (words_text sc time node l) ≡ saying time node l
text_read sc range plain time node l fits = line_read sc time node l (record { range = range; plain = plain; early = fits.early; there = fits.there }) fits

-- the line of an audit says nothing to a judge
pub audit_read : (sc : Setup) (audit : AuditLine)
    → said sc
    (concat (
    decimal audit.time ∷ codes " audit members=" ∷ decimal audit.members
    ∷ codes " dead=" ∷ decimal audit.dead ∷ codes " ring=" ∷ decimal audit.ring
    ∷ codes " ordered=" ∷ yes_or_no audit.ordered ∷ codes " principals=" ∷ decimal audit.principals
    ∷ codes " sufficient=" ∷ yes_or_no audit.sufficient ∷ []))
    ≡ outcome.Other
audit_read sc audit =
    let more = decimal audit.dead ++ (codes " ring=" ++ (decimal audit.ring ++ (codes " ordered=" ++ (yes_or_no audit.ordered ++ (codes " principals=" ++ (decimal audit.principals
    ++ (codes " sufficient=" ++ (yes_or_no audit.sufficient ++ [])))))))) in
    three_words sc (decimal audit.time) (codes "audit") (codes "members=" ++ decimal audit.members) (codes "dead=" ++ more) (decimal_word audit.time)
    (literal (codes "audit") refl)
    (joined (codes "members=") (decimal audit.members) (literal (codes "members=") refl) (decimal_word audit.members))

-- the law
pub read_back : (sc : Setup) → sc.bits ≤ 128 → HasPlainNames sc → (time node : ℕ) (l : Line) (text : List ℕ) → IsWritable sc time node l
    → line_text sc time node l ≡ text ++ codes "\n" → said sc text ≡ saying time node l
read_back sc range plain time node l text fits is =
    let same : text ≡ words_text sc time node l = append_cancel_right text (words_text sc time node l) (10 ∷ []) (sym is ∙ written_text sc time node l) in
    ap (said sc) same ∙ text_read sc range plain time node l fits
