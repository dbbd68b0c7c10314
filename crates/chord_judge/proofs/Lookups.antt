-- Each lookup has one row.
use Rattle.std.proofs.Common.{◌≡◌, ℕ, ◌+◌, Bool, true, false, cond, not, List, [], ◌∷◌, ◌++◌, filter, length, map, reverse, refl, arith, count_by, length-append}
use Rattle.std.proofs.lemmas.List.{length-map}
use Rattle.std.proofs.lemmas.List.Sorted.{IsPermutation-reverse, sum_by-IsPermutation}
use Rattle.chord_judge.specs.Judged.{answer_of}
use Rattle.chord_judge.specs.Rows.{ends_by}
use Rattle.chord_judge.specs.declared.row.End.TheVariants as ended
use Rattle.chord_judge.specs.declared.row.Row.{Row}
use Rattle.std.proofs.lemmas.List.Sums.{sum_by-cons}
use Rattle.chord_event.specs.declared.line.Line.{Line}
use Rattle.chord_event.specs.declared.line.Line.TheVariants as line
use Rattle.chord_judge.specs.Judged.{first_alone, is_begin, is_ended_by, is_of, judged, open_after, open_by, rows_after, rows_by, without_first}
use Rattle.chord_judge.specs.declared.row.Lookup.{Lookup}
use Rattle.chord_judge.specs.declared.told.Told.{Told}
use Rattle.chord_scenario.specs.Setup.{Setup}
use Rattle.chord_trace.specs.Kinds.{is_lookup}

taken : (test : Lookup → Bool) (xs : List Lookup) → length (first_alone test xs) + length (without_first test xs) ≡ length xs
taken test [] = refl
taken test (x ∷ xs) = by_test (taken test xs) (test x) refl
  where
    by_test : length (first_alone test xs) + length (without_first test xs) ≡ length xs → (b : Bool) → test x ≡ b
        → length (first_alone test (x ∷ xs)) + length (without_first test (x ∷ xs)) ≡ length (x ∷ xs)
    by_test rest true e = rw e (omega arith)
    by_test rest false e = rw e (omega (arith, rest))

parted : (test : Lookup → Bool) (xs : List Lookup) → length (filter test xs) + length (filter (λ x. not (test x)) xs) ≡ length xs
parted test [] = refl
parted test (x ∷ xs) = by_test (parted test xs) (test x) refl
  where
    by_test : length (filter test xs) + length (filter (λ y. not (test y)) xs) ≡ length xs → (b : Bool) → test x ≡ b
        → length (filter test (x ∷ xs)) + length (filter (λ y. not (test y)) (x ∷ xs)) ≡ length (x ∷ xs)
    by_test rest true e = rw e (omega (arith, rest))
    by_test rest false e = rw e (omega (arith, rest))

-- a line's rows and the lookups in progress after it, of those before
stepped : (sc : Setup) (lines : List Told) (l : Line) (number time node : ℕ) (xs : List Lookup)
    → length (rows_by sc lines xs l time node) + length (open_by l number time node xs) ≡ length xs + cond (is_lookup l) 1 0
stepped sc lines (line.Join a) number time node xs = omega arith
stepped sc lines (line.Member a) number time node xs = omega arith
stepped sc lines line.JoinFailed number time node xs = omega arith
stepped sc lines (line.Stranded a) number time node xs = omega arith
stepped sc lines (line.Drop a b) number time node xs = omega arith
stepped sc lines (line.Late a b) number time node xs = omega arith
stepped sc lines (line.Timeout a) number time node xs = omega arith
stepped sc lines (line.Lose a b) number time node xs = omega arith
stepped sc lines (line.Again a b) number time node xs = omega arith
stepped sc lines (line.Forget a) number time node xs = omega arith
stepped sc lines (line.Rescue a) number time node xs = omega arith
stepped sc lines line.Create number time node xs = omega arith
stepped sc lines (line.Ask a b c) number time node xs = omega arith
stepped sc lines (line.Seek a b c d e) number time node xs = omega arith
stepped sc lines (line.Send a b) number time node xs = omega arith
stepped sc lines (line.Busy a) number time node xs = omega arith
stepped sc lines (line.Ignored a) number time node xs = omega arith
stepped sc lines (line.Lookup key) number time node xs =
    let more : length (xs ++ record { number = number; asker = node; key = key; begun = time } ∷ []) ≡ length xs + 1 = length-append xs (record { number = number; asker = node; key = key; begun = time } ∷ []) in omega (arith, more)
stepped sc lines (line.Found key owner hops timeouts us) number time node xs =
    let test = is_ended_by node key time us in
    let row : Lookup → Row = λ lookup. ends_by (ended.Found time (answer_of sc lines key lookup.begun owner hops timeouts)) lookup in
    let many : length (map row (first_alone test xs)) ≡ length (first_alone test xs) = length-map (first_alone test xs) row in omega (arith, many, taken test xs)
stepped sc lines (line.Lost key hops timeouts us) number time node xs =
    let test = is_ended_by node key time us in
    let many : length (map (ends_by (ended.Lost time hops timeouts)) (first_alone test xs)) ≡ length (first_alone test xs) =
    length-map (first_alone test xs) (ends_by (ended.Lost time hops timeouts)) in omega (arith, many, taken test xs)
stepped sc lines line.Crash number time node xs =
    let many : length (map (ends_by (ended.Crash time)) (filter (is_of node) xs)) ≡ length (filter (is_of node) xs) =
    length-map (filter (is_of node) xs) (ends_by (ended.Crash time)) in omega (arith, many, parted (is_of node) xs)
stepped sc lines line.Leave number time node xs =
    let many : length (map (ends_by (ended.Leave time)) (filter (is_of node) xs)) ≡ length (filter (is_of node) xs) =
    length-map (filter (is_of node) xs) (ends_by (ended.Leave time)) in omega (arith, many, parted (is_of node) xs)

-- the rows so far and the lookups in progress are as many as the lookups that have begun
all_begun : (sc : Setup) (lines : List Told) → length (rows_after sc lines) + length (open_after lines) ≡ count_by is_begin lines
all_begun sc [] = refl
all_begun sc (told ∷ lines) =
    let rest : length (rows_after sc lines) + length (open_after lines) ≡ count_by is_begin lines = all_begun sc lines in
    let step : length (rows_by sc lines (open_after lines) told.line told.time told.node) + length (open_by told.line (count_by is_begin lines) told.time told.node (open_after lines))
    ≡ length (open_after lines) + cond (is_lookup told.line) 1 0 = stepped sc lines told.line (count_by is_begin lines) told.time told.node (open_after lines) in
    let more : count_by is_begin (told ∷ lines) ≡ cond (is_lookup told.line) 1 0 + count_by is_begin lines = sum_by-cons (λ (t : Told). cond (is_begin t) 1 0) told lines in
    let all : length (rows_after sc lines ++ rows_by sc lines (open_after lines) told.line told.time told.node)
    ≡ length (rows_after sc lines) + length (rows_by sc lines (open_after lines) told.line told.time told.node) = length-append (rows_after sc lines) (rows_by sc lines (open_after lines) told.line told.time told.node) in
    omega (arith, rest, step, more, all)

pub all_have_rows : (sc : Setup) (lines : List Told) → length (judged sc lines) ≡ count_by is_begin lines
all_have_rows sc lines =
    let back = reverse lines in
    let cut = map (ends_by ended.Trace) (open_after back) in
    let all : length (rows_after sc back ++ cut) ≡ length (rows_after sc back) + length cut = length-append (rows_after sc back) cut in
    let left : length cut ≡ length (open_after back) = length-map (open_after back) (ends_by ended.Trace) in
    let same : count_by is_begin back ≡ count_by is_begin lines = sum_by-IsPermutation (λ (t : Told). cond (is_begin t) 1 0) lines back (IsPermutation-reverse lines) in
    omega (arith, all, left, same, all_begun sc back)
