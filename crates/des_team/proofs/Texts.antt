-- The texts of entries, one after another, and their marks.
use Rattle.std.proofs.Common.{◌≡◌, ◌∙◌, ℕ, zero, suc, ◌+◌, ◌-◌, ◌<◌, ◌≤◌, List, [], ◌∷◌, ◌++◌, ap, append-nil, arith, drop, get_or, length, refl, sym, take}
use Rattle.std.proofs.Math.Seq.{take-add}
use Rattle.std.proofs.lemmas.List.{drop_at, length-append, take-append-drop, take_at}
use Rattle.std.proofs.lemmas.List.Concat.{flat_map-append}
use Rattle.std.specs.List.{flat_map}
use Rattle.des_team.specs.Entries.{Entry, entry_bytes}
use Rattle.des_team.specs.Outputs.{IsMarked, marks_from}
use Rattle.des_team.specs.declared.output.Mark.{Mark}
use Rattle.des_team.specs.declared.output.Output.{Output}

-- the part of a list between two places
cut : (a b c : List ℕ) (start end : ℕ) → length a ≡ start → start + length b ≡ end → take (end - start) (drop start (a ++ (b ++ c))) ≡ b
cut a b c start end is to = ap (take (end - start)) (drop_at a (b ++ c) start is) ∙ take_at b c (end - start) (omega (arith, to))

module _ where
  abbrev pub text_of : List Entry → List ℕ
  text_of entries = flat_map entry_bytes entries

  pub text-append : (xs ys : List Entry) → text_of (xs ++ ys) ≡ text_of xs ++ text_of ys
  text-append xs ys = flat_map-append entry_bytes xs ys

  pub text_one : (b : Entry) → text_of (b ∷ []) ≡ entry_bytes b
  text_one b = append-nil (entry_bytes b)

  marks-append : (start : ℕ) (xs ys : List Entry) → marks_from start (xs ++ ys) ≡ marks_from start xs ++ marks_from (start + length (text_of xs)) ys
  marks-append start [] ys = let none : start ≡ start + 0 = omega arith in ap (λ n. marks_from n ys) none
  marks-append start (x ∷ xs) ys =
      let end : ℕ = start + length (entry_bytes x) in
      let first : Mark = record { key = x.key; end = end } in
      let same : end + length (text_of xs) ≡ start + length (entry_bytes x ++ text_of xs) = omega (arith, length-append (entry_bytes x) (text_of xs)) in
      ap (λ l. first ∷ l) (marks-append end xs ys ∙ ap (λ n. marks_from end xs ++ marks_from n ys) same)

  marks-length : (start : ℕ) (xs : List Entry) → length (marks_from start xs) ≡ length xs
  marks-length start [] = refl
  marks-length start (x ∷ xs) = ap (λ n. suc n) (marks-length (start + length (entry_bytes x)) xs)

  key_of_mark : (start : ℕ) (xs : List Entry) (k : ℕ) (b : Entry) (m : Mark) → k < length xs → (get_or (marks_from start xs) k m).key ≡ (get_or xs k b).key
  key_of_mark start [] k b m lt = absurd (omega arith)
  key_of_mark start (x ∷ xs) zero b m lt = refl
  key_of_mark start (x ∷ xs) (suc k) b m lt = key_of_mark (start + length (entry_bytes x)) xs k b m (omega arith)

  end_of_mark : (start : ℕ) (xs : List Entry) (k : ℕ) (m : Mark) → k < length xs
      → (get_or (marks_from start xs) k m).end ≡ start + length (text_of (take (suc k) xs))
  end_of_mark start [] k m lt = absurd (omega arith)
  end_of_mark start (x ∷ xs) zero m lt = ap (λ l. start + length l) (sym (text_one x))
  end_of_mark start (x ∷ xs) (suc k) m lt =
      let rest : List ℕ = text_of (take (suc k) xs) in
      omega (arith, end_of_mark (start + length (entry_bytes x)) xs k m (omega arith), length-append (entry_bytes x) rest)

  -- the output of one event more
  pub text_put : (entries : List Entry) (b : Entry) (old new : Output) (end : ℕ) → new.text.items ≡ old.text.items ++ entry_bytes b
      → end ≡ length new.text.items → new.marks.items ≡ old.marks.items ++ record { key = b.key; end = end } ∷ []
      → IsMarked entries old → IsMarked (entries ++ b ∷ []) new
  text_put entries b old new end text at marks is =
      let before : old.text.items ≡ text_of entries = is.text_is in
      let stop : end ≡ 0 + length (text_of entries) + length (entry_bytes b) =
      omega (arith, at, ap length text, length-append old.text.items (entry_bytes b), ap length before) in
      record {
        text_is = text ∙ ap (λ l. l ++ entry_bytes b) before ∙ sym (text-append entries (b ∷ []) ∙ ap (λ l. text_of entries ++ l) (text_one b));
        marks_are = marks ∙ ap (λ l. l ++ record { key = b.key; end = end } ∷ []) is.marks_are
            ∙ ap (λ n. marks_from 0 entries ++ record { key = b.key; end = n } ∷ []) stop ∙ sym (marks-append 0 entries (b ∷ []));
      }

  -- what the marks say
  module _ (entries : List Entry) (o : Output) (is : IsMarked entries o) where
    pub as_many : length o.marks.items ≡ length entries
    as_many = ap length is.marks_are ∙ marks-length 0 entries

    pub mark_key : (k : ℕ) (b : Entry) (m : Mark) → k < length entries → (get_or o.marks.items k m).key ≡ (get_or entries k b).key
    mark_key k b m lt = ap (λ l. (get_or l k m).key) is.marks_are ∙ key_of_mark 0 entries k b m lt

    pub mark_end : (k n : ℕ) (m : Mark) → k + 1 ≡ n → k < length entries → (get_or o.marks.items k m).end ≡ length (text_of (take n entries))
    mark_end k n m next lt =
        let here : suc k ≡ n = omega (arith, next) in
        let end : (get_or o.marks.items k m).end ≡ 0 + length (text_of (take (suc k) entries)) =
        ap (λ l. (get_or l k m).end) is.marks_are ∙ end_of_mark 0 entries k m lt in
        omega (arith, end, ap (λ j. length (text_of (take j entries))) here)

    pub text_within : (n : ℕ) → length (text_of (take n entries)) ≤ length o.text.items
    text_within n =
        omega (
          arith,
          ap length is.text_is,
          ap (λ l. length (text_of l)) (take-append-drop n entries),
          ap length (text-append (take n entries) (drop n entries)),
          length-append (text_of (take n entries)) (text_of (drop n entries)),
        )

    -- the text from one place to another
    pub text_between : (i j start end : ℕ) → i ≤ j → start ≡ length (text_of (take i entries)) → end ≡ length (text_of (take j entries))
        → (start ≤ end) × (take (end - start) (drop start o.text.items) ≡ text_of (take (j - i) (drop i entries)))
    text_between i j start end le from to =
        let run : List Entry = take (j - i) (drop i entries) in
        let rest : List Entry = drop (j - i) (drop i entries) in
        let add : i + (j - i) ≡ j = omega arith in
        let upto : text_of (take j entries) ≡ text_of (take i entries) ++ text_of run =
        ap (λ n. text_of (take n entries)) (sym add) ∙ ap text_of (take-add i (j - i) entries) ∙ text-append (take i entries) run in
        let stop : start + length (text_of run) ≡ end =
        omega (arith, from, to, ap length upto, length-append (text_of (take i entries)) (text_of run)) in
        let whole : o.text.items ≡ text_of (take i entries) ++ (text_of run ++ text_of rest) =
        is.text_is ∙ ap text_of (sym (take-append-drop i entries)) ∙ text-append (take i entries) (drop i entries)
        ∙ ap (λ l. text_of (take i entries) ++ l) (ap text_of (sym (take-append-drop (j - i) (drop i entries))) ∙ text-append run rest) in (
          omega (arith, stop),
          ap (λ l. take (end - start) (drop start l)) whole ∙ cut (text_of (take i entries)) (text_of run) (text_of rest) start end (sym from) stop,
        )
