-- What a stream holds after more of a text.
use Rattle.std.proofs.Common.{◌≡◌, ◌∙◌, sym, ap, refl, subst, ℕ, suc, ◌+◌, ◌<◌, ◌≤◌, ◌==◌, Bool, true, false, cond, not, List, [], ◌∷◌, ◌++◌, Option, Some, None, arith, reverse, string_bytes, append_assoc, append-nil, length, take, drop, get_or, map, min, length-append, take-append-drop, ◌-◌, ◌^◌, Result, Ok, Err, OnOk}
use Rattle.std.specs.List.{All, AllByRecursion, cons_option, filter_map, position_or_len}
use Rattle.std.proofs.KnownBytes.{Appends-nil, Appends-trans, Consumes-kept, Consumes-nil, Consumes-trans}
use Rattle.std.proofs.Math.Seq.{take-add}
use Rattle.std.specs.Io.KnownBytes.{Appends, Consumes, IsAtEnd, Keeps}
use Rattle.std.proofs.lemmas.Bool.Decides.{nat_tests}
use Rattle.std.proofs.lemmas.List.{reverse-append, take_all, take_more}
use Rattle.std.proofs.lemmas.List.Concat.{flat_map-append}
use Rattle.std.proofs.lemmas.List.Elements.{All-push, filter_map-append}
use Rattle.std.proofs.lemmas.List.Sums.{passes_at_first}
use Rattle.chord_judge.specs.Inside.{HasRead, setup_of}
use Rattle.chord_judge.specs.Judged.{is_known, open_after, rows_after, rows_by}
use Rattle.chord_judge.specs.Reading.{said}
use Rattle.chord_judge.specs.Table.{heading, row_text, rows_text}
use Rattle.chord_judge.specs.Taken.{HasTaken}
use Rattle.chord_judge.specs.Traces.{AreKnown, EndsRefused, HasRefused, IsLine, WasBegun, WasJudged, WasRefused, lines_from, rest_from, table_text, told_in, told_lines}
use Rattle.chord_judge.specs.declared.judge.Judge.{Judge}
use Rattle.chord_judge.specs.declared.lines.Said.{Said}
use Rattle.chord_judge.specs.declared.lines.Said.TheVariants as outcome
use Rattle.chord_judge.specs.Rows.{ends_by}
use Rattle.chord_judge.specs.declared.row.End.TheVariants as ended
use Rattle.chord_judge.specs.declared.row.Row.{Row}
use Rattle.chord_judge.specs.declared.stream.Stream.{Stream}
use Rattle.chord_judge.specs.declared.told.Told.{Told}
use Rattle.chord_scenario.specs.Setup.{Setup}
use Rattle.des_output.specs.Writing.{AppendsFront}
use Rattle.des_output.proofs.Fronts.{front_after, front_of_longer, front_of_whole}

-- a text without line feeds
abbrev pub HasNoFeed : List ℕ → Type 0
HasNoFeed = AllByRecursion (λ byte. (byte == 10) ≡ false)

pub lines_append : (begun xs ys : List ℕ) → lines_from begun (xs ++ ys) ≡ lines_from begun xs ++ lines_from (rest_from begun xs) ys
lines_append begun [] ys = refl
lines_append begun (byte ∷ xs) ys = by_case (lines_append [] xs ys) (lines_append (begun ++ byte ∷ []) xs ys) (byte == 10) refl
  where
    by_case : lines_from [] (xs ++ ys) ≡ lines_from [] xs ++ lines_from (rest_from [] xs) ys
        → lines_from (begun ++ byte ∷ []) (xs ++ ys) ≡ lines_from (begun ++ byte ∷ []) xs ++ lines_from (rest_from (begun ++ byte ∷ []) xs) ys
        → (b : Bool) → (byte == 10) ≡ b
        → lines_from begun (byte ∷ (xs ++ ys)) ≡ lines_from begun (byte ∷ xs) ++ lines_from (rest_from begun (byte ∷ xs)) ys
    by_case ended longer true e = rw e (ap (λ l. begun ∷ l) ended)
    by_case ended longer false e = rw e longer

pub rest_append : (begun xs ys : List ℕ) → rest_from begun (xs ++ ys) ≡ rest_from (rest_from begun xs) ys
rest_append begun [] ys = refl
rest_append begun (byte ∷ xs) ys = by_case (rest_append [] xs ys) (rest_append (begun ++ byte ∷ []) xs ys) (byte == 10) refl
  where
    by_case : rest_from [] (xs ++ ys) ≡ rest_from (rest_from [] xs) ys
        → rest_from (begun ++ byte ∷ []) (xs ++ ys) ≡ rest_from (rest_from (begun ++ byte ∷ []) xs) ys
        → (b : Bool) → (byte == 10) ≡ b
        → rest_from begun (byte ∷ (xs ++ ys)) ≡ rest_from (rest_from begun (byte ∷ xs)) ys
    by_case ended longer true e = rw e ended
    by_case ended longer false e = rw e longer

-- a text without line feeds ends no line
pub lines_none : (begun part : List ℕ) → HasNoFeed part → lines_from begun part ≡ []
lines_none begun [] h = refl
lines_none begun (byte ∷ part) h = rw h.0 (lines_none (begun ++ byte ∷ []) part h.1)

pub rest_grows : (begun part : List ℕ) → HasNoFeed part → rest_from begun part ≡ begun ++ part
rest_grows begun [] h = sym (append-nil begun)
rest_grows begun (byte ∷ part) h = rw h.0 (rest_grows (begun ++ byte ∷ []) part h.1 ∙ append_assoc begun (byte ∷ []) part)

abbrev telling : Setup → List ℕ → Option Told
telling sc line = told_in (said sc line)

-- what is told of a text, and of more of it
pub told_append : (sc : Setup) (xs ys : List ℕ) → told_lines sc (xs ++ ys) ≡ told_lines sc xs ++ filter_map (telling sc) (lines_from (rest_from [] xs) ys)
told_append sc xs ys =
    ap (filter_map (telling sc)) (lines_append [] xs ys) ∙ filter_map-append (telling sc) (lines_from [] xs) (lines_from (rest_from [] xs) ys)

told_part : (sc : Setup) (text part : List ℕ) → HasNoFeed part → told_lines sc (text ++ part) ≡ told_lines sc text
told_part sc text part h =
    told_append sc text part
    ∙ ap (λ (ls : List (List ℕ)). told_lines sc text ++ filter_map (telling sc) ls) (lines_none (rest_from [] text) part h)
    ∙ append-nil (told_lines sc text)

told_feed : (sc : Setup) (text : List ℕ) (o : Option Told) → telling sc (rest_from [] text) ≡ o → told_lines sc (text ++ 10 ∷ []) ≡ told_lines sc text ++ cons_option o []
told_feed sc text o h =
    told_append sc text (10 ∷ []) ∙ ap (λ (p : Option Told). told_lines sc text ++ cons_option p []) h

lines_part : (text part : List ℕ) → HasNoFeed part → lines_from [] (text ++ part) ≡ lines_from [] text
lines_part text part h =
    lines_append [] text part ∙ ap (λ (ls : List (List ℕ)). lines_from [] text ++ ls) (lines_none (rest_from [] text) part h) ∙ append-nil (lines_from [] text)

-- more bytes of a line
pub part_taken : (sc : Setup) (text written part : List ℕ) (s s2 : Stream) → HasNoFeed part → HasTaken sc text written s → s2.judge ≡ s.judge
    → s2.line.items ≡ s.line.items ++ part → s2.rows ≡ s.rows → s2.text ≡ s.text → s2.lines ≡ s.lines → HasTaken sc (text ++ part) written s2
part_taken sc text written part s s2 plain has judge line rows table count =
    let same = told_part sc text part plain in
    record {
      setup = ap setup_of judge ∙ has.setup;
      judge = rw (same, judge) has.judge;
      readable = subst (All (λ (l : List ℕ). IsLine (said sc l))) (sym (lines_part text part plain)) has.readable;
      known = subst (λ (t : List Told). AreKnown (reverse t)) (sym same) has.known;
      count = count ∙ has.count ∙ ap (λ (ls : List (List ℕ)). min (length ls) (2 ^ 64 - 1)) (sym (lines_part text part plain));
      line = line ∙ ap (λ (l : List ℕ). l ++ part) has.line ∙ sym (rest_grows (rest_from [] text) part plain) ∙ sym (rest_append [] text part);
      rows = ap (λ r. r.items) rows ∙ has.rows;
      table = rw (same, table) has.table;
    }

-- the end of a line
feed_taken : (sc : Setup) (text written : List ℕ) (o : Said) (s s2 : Stream) (rows : List Row) (lines : List Told) → HasTaken sc text written s
    → said sc (rest_from [] text) ≡ o → IsLine o → AreKnown lines → s2.lines ≡ min (s.lines + 1) (2 ^ 64 - 1)
    → reverse (told_lines sc (text ++ 10 ∷ [])) ≡ lines → setup_of s2.judge ≡ sc → HasRead sc lines s2.judge → s2.line.items ≡ [] → s2.rows.items ≡ []
    → string_bytes s2.text ≡ string_bytes s.text ++ rows_text sc rows
    → rows_after sc lines ≡ rows_after sc (reverse (told_lines sc text)) ++ rows
    → HasTaken sc (text ++ 10 ∷ []) written s2
feed_taken sc text written o s s2 rows lines has says is_line known count told setup read line empty table more =
    let before = rows_after sc (reverse (told_lines sc text)) in
    record {
      setup = setup;
      judge = rw told read;
      readable = subst (All (λ (l : List ℕ). IsLine (said sc l))) (sym (lines_append [] text (10 ∷ [])))
          (All-push (λ (l : List ℕ). IsLine (said sc l)) (lines_from [] text) (rest_from [] text) has.readable (subst IsLine (sym says) is_line));
      known = subst AreKnown (sym told) known;
      count =
          let ended : lines_from [] (text ++ 10 ∷ []) ≡ lines_from [] text ++ rest_from [] text ∷ [] = lines_append [] text (10 ∷ []) in
          let one : length (lines_from [] (text ++ 10 ∷ [])) ≡ length (lines_from [] text) + 1 = ap length ended ∙ length-append (lines_from [] text) (rest_from [] text ∷ []) in
          omega (arith, count, has.count, one);
      line = line ∙ sym (rest_append [] text (10 ∷ []));
      rows = empty;
      table = rw told (
          ap (λ (r : List Row). heading ++ rows_text sc r) more
          ∙ ap (λ (t : List ℕ). heading ++ t) (flat_map-append (row_text sc) before rows)
          ∙ sym (append_assoc heading (rows_text sc before) (rows_text sc rows))
          ∙ ap (λ (t : List ℕ). t ++ rows_text sc rows) has.table
          ∙ append_assoc written (string_bytes s.text) (rows_text sc rows)
          ∙ ap (λ (t : List ℕ). written ++ t) (sym table));
    }

-- the end of a line that says nothing to a judge: `o` is what was read of it, in the scenario of the reader
pub other_taken : (sc own : Setup) (text written line : List ℕ) (o : Said) (s s2 : Stream) (rows : List Row) → HasTaken sc text written s → own ≡ setup_of s.judge
    → o ≡ said own line → line ≡ s.line.items → o ≡ outcome.Other → s2.judge ≡ s.judge → s2.line.items ≡ [] → s2.rows.items ≡ []
    → rows ≡ s.rows.items → string_bytes s2.text ≡ string_bytes s.text ++ rows_text own rows → s2.lines ≡ min (s.lines + 1) (2 ^ 64 - 1)
    → HasTaken sc (text ++ 10 ∷ []) written s2
other_taken sc own text written line o s s2 rows has owner read of other judge ended empty none table count =
    let lines = reverse (told_lines sc text) in
    let is : said sc (rest_from [] text) ≡ outcome.Other =
    ap (λ (l : List ℕ). said sc l) (sym (of ∙ has.line)) ∙ ap (λ (u : Setup). said u line) (sym (owner ∙ has.setup)) ∙ sym read ∙ other in
    feed_taken sc text written outcome.Other s s2 [] lines has is tt has.known count (ap reverse (told_feed sc text None (ap told_in is) ∙ append-nil (told_lines sc text)))
    (ap setup_of judge ∙ has.setup) (rw judge has.judge) ended empty
    (table ∙ ap (λ (r : List Row). string_bytes s.text ++ rows_text own r) (none ∙ has.rows))
    (sym (append-nil (rows_after sc lines)))

-- the end of a line that a judge was told; the judge then, and the rows
pub line_taken : (sc own : Setup) (text written line : List ℕ) (o : Said) (told : Told) (s s2 : Stream) (judge : Judge) (rows made : List Row) → HasTaken sc text written s
    → own ≡ setup_of s.judge → o ≡ said own line → line ≡ s.line.items → o ≡ outcome.Told told
    → setup_of judge ≡ setup_of s.judge
    → ((lines : List Told) → HasRead (setup_of s.judge) lines s.judge → HasRead (setup_of s.judge) (told ∷ lines) judge)
    → ((lines : List Told) → HasRead (setup_of s.judge) lines s.judge
    → made ≡ s.rows.items ++ rows_by (setup_of s.judge) lines (open_after lines) told.line told.time told.node)
    → ((lines : List Told) → HasRead (setup_of s.judge) lines s.judge → is_known told.line told.time told.node (open_after lines) ≡ true)
    → s2.judge ≡ judge → rows ≡ made
    → s2.line.items ≡ [] → s2.rows.items ≡ []
    → string_bytes s2.text ≡ string_bytes s.text ++ rows_text own rows → s2.lines ≡ min (s.lines + 1) (2 ^ 64 - 1)
    → HasTaken sc (text ++ 10 ∷ []) written s2
line_taken sc own text written line o told s s2 judge rows made has owner read of is setup reads more knows now same ended empty table count =
    let lines = reverse (told_lines sc text) in
    let before : HasRead (setup_of s.judge) lines s.judge = subst (λ (u : Setup). HasRead u lines s.judge) (sym has.setup) has.judge in
    let after : HasRead sc (told ∷ lines) judge = subst (λ (u : Setup). HasRead u (told ∷ lines) judge) has.setup (reads lines before) in
    let says : said sc (rest_from [] text) ≡ outcome.Told told =
    ap (λ (l : List ℕ). said sc l) (sym (of ∙ has.line)) ∙ ap (λ (u : Setup). said u line) (sym (owner ∙ has.setup)) ∙ sym read ∙ is in
    let new : rows ≡ rows_by sc lines (open_after lines) told.line told.time told.node =
    same
    ∙ more lines before ∙ ap (λ (r : List Row). r ++ rows_by (setup_of s.judge) lines (open_after lines) told.line told.time told.node) has.rows
    ∙ ap (λ (u : Setup). rows_by u lines (open_after lines) told.line told.time told.node) has.setup in
    feed_taken sc text written (outcome.Told told) s s2 rows (told ∷ lines) has says tt (knows lines before, has.known) count
    (ap reverse (told_feed sc text (Some told) (ap told_in says)) ∙ reverse-append (told_lines sc text) (told ∷ []))
    (ap setup_of now ∙ setup ∙ has.setup) (subst (HasRead sc (told ∷ lines)) (sym now) after) ended empty
    (table ∙ ap (λ (u : Setup). string_bytes s.text ++ rows_text u rows) (owner ∙ has.setup))
    (ap (λ (r : List Row). rows_after sc lines ++ r) (sym new))

-- pieces of a text up to a line feed
no_feed_before : (text : List ℕ) → HasNoFeed (take (position_or_len (λ (byte : ℕ). byte == 10) text) text)
no_feed_before [] = tt
no_feed_before (byte ∷ text) = by_case (no_feed_before text) (byte == 10) refl
  where
    one_more : (n : ℕ) → 1 + n ≡ suc n
    one_more n = omega arith

    by_case : HasNoFeed (take (position_or_len (λ (b : ℕ). b == 10) text) text) → (b : Bool) → (byte == 10) ≡ b
        → HasNoFeed (take (position_or_len (λ (c : ℕ). c == 10) (byte ∷ text)) (byte ∷ text))
    by_case rest true e = rw e tt
    by_case rest false e =
        subst (λ (n : ℕ). HasNoFeed (take n (byte ∷ text))) (sym (ap (λ (b : Bool). cond (not b) (1 + position_or_len (λ (c : ℕ). c == 10) text) 0) e ∙ one_more (position_or_len (λ (c : ℕ). c == 10) text)))
        (e, rest)

-- the piece up to a line feed, and that
pub up_to_feed : (piece : List ℕ) (start n : ℕ) → n ≡ position_or_len (λ (byte : ℕ). byte == 10) (drop start piece) → n < length (drop start piece)
    → take start piece ++ take n (drop start piece) ++ 10 ∷ [] ≡ take (start + (n + 1)) piece
up_to_feed piece start n is within =
    let rest = drop start piece in
    let at : (get_or rest n 0 == 10) ≡ true = rw is (passes_at_first (λ (byte : ℕ). byte == 10) rest 0 (rw is at within)) in
    let feed : get_or rest n 0 ≡ 10 = grind (arith, nat_tests) in
    append_assoc (take start piece) (take n rest) (10 ∷ [])
    ∙ ap (λ (l : List ℕ). take start piece ++ l) (ap (λ (b : ℕ). take n rest ++ b ∷ []) (sym feed) ∙ sym (take_more rest n 0 within))
    ∙ sym (take-add start (n + 1) piece)

-- the rest of a piece
pub up_to_end : (piece : List ℕ) (start n : ℕ) → length (drop start piece) ≤ n → take start piece ++ take n (drop start piece) ≡ take (start + (n + 1)) piece
up_to_end piece start n past =
    ap (λ (l : List ℕ). take start piece ++ l) (take_all n (drop start piece) past ∙ sym (take_all (n + 1) (drop start piece) (omega (arith, past))))
    ∙ sym (take-add start (n + 1) piece)

-- the same after a text, with the rest of the piece by its name
pub after_feed : (text piece rest : List ℕ) (start n : ℕ) → rest ≡ drop start piece → n ≡ position_or_len (λ (byte : ℕ). byte == 10) rest → n < length rest
    → ((text ++ take start piece) ++ take n rest) ++ 10 ∷ [] ≡ text ++ take (start + (n + 1)) piece
after_feed text piece rest start n same is within =
    ap (λ (l : List ℕ). l ++ 10 ∷ []) (append_assoc text (take start piece) (take n rest))
    ∙ append_assoc text (take start piece ++ take n rest) (10 ∷ [])
    ∙ ap (λ (r : List ℕ). text ++ ((take start piece ++ take n r) ++ 10 ∷ [])) same
    ∙ ap (λ (l : List ℕ). text ++ l)
    (up_to_feed piece start n (is ∙ ap (position_or_len (λ (byte : ℕ). byte == 10)) same) (subst (λ (r : List ℕ). n < length r) same within))

pub after_end : (text piece rest : List ℕ) (start n : ℕ) → rest ≡ drop start piece → length rest ≤ n
    → (text ++ take start piece) ++ take n rest ≡ text ++ take (start + (n + 1)) piece
after_end text piece rest start n same past =
    append_assoc text (take start piece) (take n rest)
    ∙ ap (λ (r : List ℕ). text ++ (take start piece ++ take n r)) same
    ∙ ap (λ (l : List ℕ). text ++ l) (up_to_end piece start n (subst (λ (r : List ℕ). length r ≤ n) same past))

pub no_feed_in : (rest : List ℕ) (n : ℕ) → n ≡ position_or_len (λ (byte : ℕ). byte == 10) rest → HasNoFeed (take n rest)
no_feed_in rest n is = subst (λ (m : ℕ). HasNoFeed (take m rest)) (sym is) (no_feed_before rest)

pub taken_as : (sc : Setup) (text longer written : List ℕ) (s now : Stream) → text ≡ longer → now ≡ s → HasTaken sc text written s → HasTaken sc longer written now
taken_as sc text longer written s now same is has =
    subst (λ (t : List ℕ). HasTaken sc t written now) same (subst (HasTaken sc text written) (sym is) has)

-- the table so far is a beginning of that of a longer text
abbrev pub begun_text : Setup → List ℕ → List ℕ
begun_text sc text = heading ++ rows_text sc (rows_after sc (reverse (told_lines sc text)))

-- the rows of lines are a beginning of those of more lines
rows_grow : (sc : Setup) (more lines : List Told) → (rest : List Row) × (rows_after sc (more ++ lines) ≡ rows_after sc lines ++ rest)
rows_grow sc [] lines = ([], sym (append-nil (rows_after sc lines)))
rows_grow sc (told ∷ more) lines =
    let earlier = rows_grow sc more lines in
    let new = rows_by sc (more ++ lines) (open_after (more ++ lines)) told.line told.time told.node in
    (earlier.0 ++ new, ap (λ (r : List Row). r ++ new) earlier.1 ∙ append_assoc (rows_after sc lines) earlier.0 new)

pub table_grows : (sc : Setup) (text more : List ℕ) → (rest : List ℕ) × (table_text sc (text ++ more) ≡ begun_text sc text ++ rest)
table_grows sc text more =
    let before = reverse (told_lines sc text) in
    let later = filter_map (telling sc) (lines_from (rest_from [] text) more) in
    let lines = reverse (told_lines sc (text ++ more)) in
    let all : lines ≡ reverse later ++ before = ap reverse (told_append sc text more) ∙ reverse-append (told_lines sc text) later in
    let grown = rows_grow sc (reverse later) before in
    let cut = map (ends_by ended.Trace) (open_after lines) in
    let rows : rows_after sc lines ++ cut ≡ rows_after sc before ++ (grown.0 ++ cut) =
    ap (λ (r : List Row). r ++ cut) (ap (rows_after sc) all ∙ grown.1) ∙ append_assoc (rows_after sc before) grown.0 cut in (
      rows_text sc (grown.0 ++ cut),
      ap (λ (r : List Row). heading ++ rows_text sc r) rows
          ∙ ap (λ (t : List ℕ). heading ++ t) (flat_map-append (row_text sc) (rows_after sc before) (grown.0 ++ cut))
          ∙ sym (append_assoc heading (rows_text sc (rows_after sc before)) (rows_text sc (grown.0 ++ cut))),
    )

-- a stream under way: it has taken what was read, and what was written is the table so far without the text that is still
-- to be written
pub record IsUnderWay (sc : Setup) (unread left old new : Option (List ℕ)) (stream : Stream) : Type 0 where
  pub text : List ℕ
  pub written : List ℕ
  pub read : Consumes unread left text
  pub out : Appends old new written
  pub taken : HasTaken sc text written stream

-- the table of a text, from what is written and still to be written of a beginning of it
rest_of_table : (sc : Setup) (text more written waiting : List ℕ) → begun_text sc text ≡ written ++ waiting
    → (rest : List ℕ) × (table_text sc (text ++ more) ≡ (written ++ waiting) ++ rest)
rest_of_table sc text more written waiting so_far =
    let grown = table_grows sc text more in (grown.0, grown.1 ∙ ap (λ (t : List ℕ). t ++ grown.0) so_far)

-- a stream under way has written a beginning of the table of what was read, and of what is read next
pub begun_before : (sc : Setup) (unread left next old new : Option (List ℕ)) (s : Stream) (more : List ℕ) → IsUnderWay sc unread left old new s
    → Consumes left next more → WasBegun sc unread next old new
begun_before sc unread left next old new s more way consumed =
    let table = rest_of_table sc way.text more way.written (string_bytes s.text) way.taken.table in
    let front = front_of_longer old new way.written (string_bytes s.text ++ table.0) (front_of_whole old new way.written way.out) in
    record {
      text = way.text ++ more;
      read = Consumes-trans unread left next way.text more way.read consumed;
      front = subst (AppendsFront old new) (sym (table.1 ∙ append_assoc way.written (string_bytes s.text) table.0)) front;
    }

pub begun_here : (sc : Setup) (unread left old new : Option (List ℕ)) (s : Stream) → IsUnderWay sc unread left old new s → WasBegun sc unread left old new
begun_here sc unread left old new s way = begun_before sc unread left left old new s [] way (Consumes-nil left)

pub begun_kept : (sc : Setup) (unread left next old new : Option (List ℕ)) (s : Stream) → IsUnderWay sc unread left old new s → Keeps left next
    → WasBegun sc unread next old new
begun_kept sc unread left next old new s way kept = begun_before sc unread left next old new s [] way (Consumes-kept left left next [] (Consumes-nil left) kept)

-- a beginning of what waited was written after the next piece was taken
pub begun_after : (sc : Setup) (unread left next old new newer : Option (List ℕ)) (s s2 : Stream) (more : List ℕ) (way : IsUnderWay sc unread left old new s)
    → Consumes left next more → HasTaken sc (way.text ++ more) way.written s2 → AppendsFront new newer (string_bytes s2.text) → WasBegun sc unread next old newer
begun_after sc unread left next old new newer s s2 more way consumed taken front =
    let table = rest_of_table sc (way.text ++ more) [] way.written (string_bytes s2.text) taken.table in
    let both = front_after old new newer way.written (string_bytes s2.text) way.out front in
    record {
      text = way.text ++ more;
      read = Consumes-trans unread left next way.text more way.read consumed;
      front = subst (AppendsFront old newer) (sym (ap (table_text sc) (sym (append-nil (way.text ++ more))) ∙ table.1))
          (front_of_longer old newer (way.written ++ string_bytes s2.text) table.0 both);
    }

-- a beginning of what waited was written after the end
pub begun_at_end : (sc : Setup) (unread left next old new newer : Option (List ℕ)) (s : Stream) (more waiting : List ℕ) (way : IsUnderWay sc unread left old new s)
    → Consumes left next more → more ≡ [] → table_text sc way.text ≡ way.written ++ waiting → AppendsFront new newer waiting → WasBegun sc unread next old newer
begun_at_end sc unread left next old new newer s more waiting way consumed none table front = record {
  text = way.text;
  read = subst (Consumes unread next) (append-nil way.text)
      (Consumes-trans unread left next way.text [] way.read (subst (Consumes left next) none consumed));
  front = subst (AppendsFront old newer) (sym table) (front_after old new newer way.written waiting way.out front);
}

-- all that waited was written after the end
pub judged_at_end : (sc : Setup) (unread left next old new newer : Option (List ℕ)) (s : Stream) (more waiting : List ℕ) (way : IsUnderWay sc unread left old new s)
    → Consumes left next more → more ≡ [] → IsAtEnd next → table_text sc way.text ≡ way.written ++ waiting → Appends new newer waiting
    → WasJudged sc unread next old newer
judged_at_end sc unread left next old new newer s more waiting way consumed none end table out = record {
  text = way.text;
  read = subst (Consumes unread next) (append-nil way.text)
      (Consumes-trans unread left next way.text [] way.read (subst (Consumes left next) none consumed));
  end = end;
  readable = way.taken.readable;
  known = way.taken.known;
  table = subst (Appends old newer) (sym table) (Appends-trans old new newer way.written waiting way.out out);
}

-- the next piece was taken, and what waited was written
pub way_on : (sc : Setup) (unread left next old new newer : Option (List ℕ)) (s s2 s3 : Stream) (more : List ℕ) (way : IsUnderWay sc unread left old new s)
    → Consumes left next more → HasTaken sc (way.text ++ more) way.written s2 → Appends new newer (string_bytes s2.text)
    → HasTaken sc (way.text ++ more) (way.written ++ string_bytes s2.text) s3
    → IsUnderWay sc unread next old newer s3
way_on sc unread left next old new newer s s2 s3 more way consumed taken out after = record {
  text = way.text ++ more;
  written = way.written ++ string_bytes s2.text;
  read = Consumes-trans unread left next way.text more way.read consumed;
  out = Appends-trans old new newer way.written (string_bytes s2.text) way.out out;
  taken = after;
}

pub way_begun : (sc : Setup) (unread old : Option (List ℕ)) (s : Stream) → HasTaken sc [] [] s → IsUnderWay sc unread unread old old s
way_begun sc unread old s taken = record { text = []; written = []; read = Consumes-nil unread; out = Appends-nil old; taken = taken }

pub on_ok : {A E : Type 0} (P Q : Type 0) (r : Result A E) → (P → Q) → OnOk r P → OnOk r Q
on_ok P Q (Ok x) f p = f p
on_ok P Q (Err e) f p = tt

-- the line at whose end a piece has this line feed is refused
pub piece_refused : (sc : Setup) (text piece rest : List ℕ) (start n number : ℕ) → rest ≡ drop start piece → n ≡ position_or_len (λ (byte : ℕ). byte == 10) rest
    → n < length rest → EndsRefused sc ((text ++ take start piece) ++ take n rest) number → HasRefused sc (text ++ piece) number
piece_refused sc text piece rest start n number same is within ends =
    let k = start + (n + 1) in
    let before = (text ++ take start piece) ++ take n rest in
    record {
      before = before;
      more = drop k piece;
      parts = ap (λ (l : List ℕ). text ++ l) (sym (take-append-drop k piece))
          ∙ sym (append_assoc text (take k piece) (drop k piece))
          ∙ ap (λ (l : List ℕ). l ++ drop k piece) (sym (after_feed text piece rest start n same is within))
          ∙ append_assoc before (10 ∷ []) (drop k piece);
      ends = ends;
    }

-- a piece that was read has the line
pub refused_after : (sc : Setup) (unread left next old new : Option (List ℕ)) (s : Stream) (more : List ℕ) (number : ℕ) (way : IsUnderWay sc unread left old new s)
    → Consumes left next more → HasRefused sc (way.text ++ more) number → WasRefused sc number unread next
refused_after sc unread left next old new s more number way consumed refused =
    record { text = way.text ++ more; read = Consumes-trans unread left next way.text more way.read consumed; refused = refused }
