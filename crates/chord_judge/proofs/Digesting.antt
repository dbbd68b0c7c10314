-- Lines that are added to a digest.
use Rattle.std.proofs.Common.{◌≡◌, ◌∙◌, sym, ap, refl, subst, ℕ, ◌+◌, ◌<◌, ◌^◌, ◌==◌, Bool, true, false, cond, List, [], ◌∷◌, ◌++◌, Option, append_assoc, append-nil, arith, codes, drop, length, nat_lt, take}
use Rattle.std.specs.Fmt.{decimal}
use Rattle.std.specs.List.{filter, position_or_len}
use Rattle.std.proofs.lemmas.Bool.Decides.{nat_tests}
use Rattle.std.proofs.lemmas.List.Elements.{filter-append}
use Rattle.chord_judge.specs.Digests.{IsDigestOf}
use Rattle.chord_judge.specs.Kept.{Adds, IsUnkept, is_kept, is_kept_at, is_kept_word, is_part_of_line, is_word, kept_from}
use Rattle.chord_judge.specs.Traces.{lines_from, rest_from}
use Rattle.chord_judge.specs.Words.{after_word, first_word, number_below}
use Rattle.chord_judge.specs.declared.digest.Digest.{Digest}
use Rattle.chord_judge.proofs.ReadBack.{literal}
use Rattle.chord_judge.proofs.ReadTraces.{feedless, joined, number, one_line, word_feedless}
use Rattle.chord_judge.proofs.Streams.{HasNoFeed, after_end, after_feed, lines_append, lines_none, rest_append, rest_grows}
use Rattle.chord_judge.proofs.WordLemmas.{IsWord, after_word_of, decimal_word, first_word_of, number_read}

-- a test of texts without line feeds
pub is_feedless : (text : List ℕ) → HasNoFeed text → is_part_of_line text ≡ true
is_feedless [] h = refl
is_feedless (byte ∷ text) h = rw h.0 (is_feedless text h.1)

-- nothing is added, and one thing after another
pub adds_nothing : (text : List ℕ) → Adds [] text text
adds_nothing text = record { more = []; text = sym (append-nil text); whole = refl; kept = refl }

pub kept_append : (begun xs ys : List ℕ) → kept_from begun (xs ++ ys) ≡ kept_from begun xs ++ kept_from (rest_from begun xs) ys
kept_append begun xs ys = ap (filter is_kept) (lines_append begun xs ys) ∙ filter-append is_kept (lines_from begun xs) (lines_from (rest_from begun xs) ys)

kept_whole : (xs ys : List ℕ) → rest_from [] xs ≡ [] → kept_from [] (xs ++ ys) ≡ kept_from [] xs ++ kept_from [] ys
kept_whole xs ys whole = kept_append [] xs ys ∙ ap (λ (begun : List ℕ). kept_from [] xs ++ kept_from begun ys) whole

rest_whole : (xs ys : List ℕ) → rest_from [] xs ≡ [] → rest_from [] (xs ++ ys) ≡ rest_from [] ys
rest_whole xs ys whole = rest_append [] xs ys ∙ ap (λ (begun : List ℕ). rest_from begun ys) whole

pub adds_both : (first second : List (List ℕ)) (old mid new : List ℕ) → Adds first old mid → Adds second mid new → Adds (first ++ second) old new
adds_both first second old mid new a b = record {
  more = a.more ++ b.more;
  text = b.text ∙ ap (λ (l : List ℕ). l ++ b.more) a.text ∙ append_assoc old a.more b.more;
  whole = rest_whole a.more b.more a.whole ∙ b.whole;
  kept = kept_whole a.more b.more a.whole ∙ ap (λ (l : List (List ℕ)). l ++ kept_from [] b.more) a.kept ∙ ap (λ (l : List (List ℕ)). first ++ l) b.kept;
}

-- a line is added
ended : (line : List ℕ) → rest_from [] (line ++ 10 ∷ []) ≡ []
ended line = rest_append [] line (10 ∷ [])

pub adds_line : (line old new : List ℕ) → is_part_of_line line ≡ true → new ≡ old ++ line ++ 10 ∷ [] → Adds (filter is_kept (line ∷ [])) old new
adds_line line old new h is = record {
  more = line ++ 10 ∷ [];
  text = is ∙ append_assoc old line (10 ∷ []);
  whole = ended line;
  kept = ap (filter is_kept) (one_line line (feedless line h));
}

-- the line of a count is not kept
abbrev count_line : (since : ℕ) → (word kind : List ℕ) → (count : ℕ) → List ℕ
count_line since word kind count = decimal since ++ 32 ∷ (codes "messages" ++ 32 ∷ (word ++ 32 ∷ (kind ++ 32 ∷ decimal count)))

count_unkept : (since count : ℕ) (word kind : List ℕ) → since < 2 ^ 64 → IsWord word → is_kept_word word ≡ false → is_kept (count_line since word kind count) ≡ false
count_unkept since count word kind low is unkept =
    let numbers = kind ++ 32 ∷ decimal count in
    let behind = codes "messages" ++ 32 ∷ (word ++ 32 ∷ numbers) in
    let time : first_word (decimal since ++ 32 ∷ behind) ≡ decimal since = first_word_of (decimal since) behind (decimal_word since) in
    let rest : after_word (decimal since ++ 32 ∷ behind) ≡ behind = after_word_of (decimal since) behind (decimal_word since) in
    let more : after_word behind ≡ word ++ 32 ∷ numbers = after_word_of (codes "messages") (word ++ 32 ∷ numbers) (literal (codes "messages") refl) in
    let third : first_word (word ++ 32 ∷ numbers) ≡ word = first_word_of word numbers is in
    ap (λ (l : List ℕ). is_kept_at (number_below (2 ^ 64) l) (first_word (after_word (after_word (decimal since ++ 32 ∷ behind))))) time
    ∙ ap (λ (o : Option ℕ). is_kept_at o (first_word (after_word (after_word (decimal since ++ 32 ∷ behind))))) (number_read (2 ^ 64) since low (omega (arith, low)))
    ∙ ap (λ (l : List ℕ). is_kept_word (first_word (after_word l))) rest
    ∙ ap (λ (l : List ℕ). is_kept_word (first_word l)) more
    ∙ ap is_kept_word third
    ∙ unkept

count_feedless : (since count : ℕ) (word kind : List ℕ) → IsWord word → IsWord kind → HasNoFeed (count_line since word kind count)
count_feedless since count word kind w k =
    let numbers = joined kind (32 ∷ decimal count) (word_feedless kind k) (refl, number count) in
    let words = joined word (32 ∷ (kind ++ 32 ∷ decimal count)) (word_feedless word w) (refl, numbers) in
    joined (decimal since) (32 ∷ (codes "messages" ++ 32 ∷ (word ++ 32 ∷ (kind ++ 32 ∷ decimal count)))) (number since)
    (refl, joined (codes "messages") (32 ∷ (word ++ 32 ∷ (kind ++ 32 ∷ decimal count))) (word_feedless (codes "messages") (literal (codes "messages") refl)) (refl, words))

pub adds_count : (since count : ℕ) (word kind line old new : List ℕ) → since < 2 ^ 64 → is_word word ≡ true → is_kept_word word ≡ false → is_word kind ≡ true
    → line ≡ count_line since word kind count → new ≡ old ++ line ++ 10 ∷ [] → Adds [] old new
adds_count since count word kind line old new low w unkept k is added =
    let adds = adds_line line old new (rw is (is_feedless (count_line since word kind count) (count_feedless since count word kind (literal word w) (literal kind k)))) added in
    subst (λ (kept : List (List ℕ)). Adds kept old new) (ap (λ (l : List ℕ). filter is_kept (l ∷ [])) is ∙ ap (λ (b : Bool). cond b (count_line since word kind count ∷ []) []) (count_unkept since count word kind low (literal word w) unkept)) adds

-- a line that is not kept is added
pub adds_unkept : (line old new : List ℕ) → IsUnkept line → new ≡ old ++ line ++ 10 ∷ [] → Adds [] old new
adds_unkept line old new is added =
    subst (λ (kept : List (List ℕ)). Adds kept old new) (ap (λ (b : Bool). cond b (line ∷ []) []) is.1) (adds_line line old new is.0 added)

-- a line that is kept is added
pub adds_kept : (line old new : List ℕ) → is_part_of_line line ≡ true → is_kept line ≡ true → new ≡ old ++ line ++ 10 ∷ [] → Adds (line ∷ []) old new
adds_kept line old new is kept added =
    subst (λ (lines : List (List ℕ)). Adds lines old new) (ap (λ (b : Bool). cond b (line ∷ []) []) kept) (adds_line line old new is added)

-- a digest after more was added to its text, and taken
pub digest_after : (text more written : List ℕ) (lines : List (List ℕ)) (d e : Digest) → IsDigestOf text written d → Adds lines d.text.items e.text.items
    → e.line.items ≡ rest_from (rest_from [] text) more → kept_from (rest_from [] text) more ≡ lines → IsDigestOf (text ++ more) written e
digest_after text more written lines d e has adds line kept = record {
  line = line ∙ sym (rest_append [] text more);
  whole = ap (rest_from []) longer ∙ rest_whole (written ++ d.text.items) adds.more has.whole ∙ adds.whole;
  kept =
      ap (kept_from []) longer
      ∙ kept_whole (written ++ d.text.items) adds.more has.whole
      ∙ ap (λ (l : List (List ℕ)). l ++ kept_from [] adds.more) has.kept
      ∙ ap (λ (l : List (List ℕ)). kept_from [] text ++ l) (adds.kept ∙ sym kept)
      ∙ sym (kept_append [] text more);
}
  where
    longer : written ++ e.text.items ≡ (written ++ d.text.items) ++ adds.more
    longer = ap (λ (l : List ℕ). written ++ l) adds.text ∙ sym (append_assoc written d.text.items adds.more)

-- a digest to whose text nothing was added that is kept
pub digest_more : (text written : List ℕ) (d e : Digest) → IsDigestOf text written d → Adds [] d.text.items e.text.items → e.line.items ≡ d.line.items
    → IsDigestOf text written e
digest_more text written d e has adds line =
    subst (λ (l : List ℕ). IsDigestOf l written e) (append-nil text) (digest_after text [] written [] d e has adds (line ∙ has.line) refl)

-- a digest after a part of a line
pub line_grows : (text part written : List ℕ) (d e : Digest) → HasNoFeed part → IsDigestOf text written d → e.text.items ≡ d.text.items
    → e.line.items ≡ d.line.items ++ part → IsDigestOf (text ++ part) written e
line_grows text part written d e h has same line =
    digest_after text part written [] d e has (rw same (adds_nothing d.text.items))
    (line ∙ ap (λ (l : List ℕ). l ++ part) has.line ∙ sym (rest_grows (rest_from [] text) part h))
    (ap (filter is_kept) (lines_none (rest_from [] text) part h))

-- a digest after the end of a line
ends_line : (begun part : List ℕ) → HasNoFeed part → lines_from begun (part ++ 10 ∷ []) ≡ (begun ++ part) ∷ []
ends_line begun part h =
    lines_append begun part (10 ∷ [])
    ∙ ap (λ (l : List (List ℕ)). l ++ lines_from (rest_from begun part) (10 ∷ [])) (lines_none begun part h)
    ∙ ap (λ (l : List ℕ). l ∷ []) (rest_grows begun part h)

pub line_ends : (text part written line : List ℕ) (d e : Digest) → HasNoFeed part → IsDigestOf text written d → line ≡ d.line.items ++ part
    → Adds (filter is_kept (line ∷ [])) d.text.items e.text.items → e.line.items ≡ [] → IsDigestOf (text ++ part ++ 10 ∷ []) written e
line_ends text part written line d e h has is adds empty =
    subst (λ (l : List ℕ). IsDigestOf l written e) (sym (append_assoc text part (10 ∷ [])))
    (digest_after text (part ++ 10 ∷ []) written (filter is_kept (line ∷ [])) d e has adds (empty ∙ sym (rest_append (rest_from [] text) part (10 ∷ [])))
    (ap (filter is_kept) (ends_line (rest_from [] text) part h ∙ ap (λ (l : List ℕ). l ∷ []) (ap (λ (l : List ℕ). l ++ part) (sym has.line) ∙ sym is))))

pub digest_as : (text longer written : List ℕ) (d : Digest) → text ≡ longer → IsDigestOf text written d → IsDigestOf longer written d
digest_as text longer written d same has = subst (λ (taken : List ℕ). IsDigestOf taken written d) same has

-- a text with a part of a line behind it, and the line feed if the line ends there
pub with_end : (text : List ℕ) (b c : Bool) → b ≡ c → text ++ cond c (10 ∷ []) [] ≡ text ++ cond b (10 ∷ []) []
with_end text b c same = ap (λ (x : Bool). text ++ cond x (10 ∷ []) []) (sym same)

-- a text with a piece of it up to a line feed, or up to its end
pub piece_on : (text piece rest : List ℕ) (start n : ℕ) (b : Bool) → rest ≡ drop start piece → n ≡ position_or_len (λ (byte : ℕ). byte == 10) rest
    → nat_lt n (length rest) ≡ b → text ++ take start piece ++ take n rest ++ cond b (10 ∷ []) [] ≡ text ++ take (start + (n + 1)) piece
piece_on text piece rest start n true same is test = after_feed text piece rest start n same is (grind (arith, nat_tests, test))
piece_on text piece rest start n false same is test =
    append-nil (text ++ take start piece ++ take n rest) ∙ after_end text piece rest start n same (grind (arith, nat_tests, test))
