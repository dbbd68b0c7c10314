-- Runs of equal neighbours, and the lists that they stand for.
use Rattle.std.proofs.Common.{◌≡◌, ℕ, ◌+◌, ◌-◌, ◌<◌, ◌≤◌, zero, suc, List, [], ◌∷◌, ◌++◌, drop, get_or, length, map, replicate, take, Some, refl, sym, ap, ◌∙◌, subst, arith}
use Rattle.std.proofs.lemmas.List.{append-nil, append_assoc, drop_more, map-append, replicate-append-replicate, take-append-drop, take_more}
use Rattle.std.proofs.lemmas.Grind.{flat_map-append}
use Rattle.std.proofs.lemmas.Option.{same_Some, slice_get_within}
use Rattle.std.specs.List.{All, Contains}
use Rattle.des_event.proofs.Members.{All_at, contains_here, contains_right}
use Rattle.std.specs.Prelude.{slice_get, slice_set}
use Rattle.chord_node.specs.declared.fingers.Run.{Run}
use Rattle.chord_node.specs.Fingers.{expanded, run_nodes}

-- one more run
pub expanded_more : (runs : List Run) (run : Run) → expanded (runs ++ run ∷ []) ≡ expanded runs ++ run_nodes run
expanded_more runs run = flat_map-append run_nodes runs (run ∷ []) ∙ ap (λ (xs : List ℕ). expanded runs ++ xs) (append-nil (run_nodes run))

-- the runs from one on
pub expanded_from : (runs : List Run) (i : ℕ) (d : Run) → i < length runs → expanded (drop i runs) ≡ run_nodes (get_or runs i d) ++ expanded (drop (i + 1) runs)
expanded_from runs i d within = ap expanded (drop_more runs i d within)

-- the runs up to one
pub expanded_until : (runs : List Run) (i : ℕ) (d : Run) → i < length runs → expanded (take (i + 1) runs) ≡ expanded (take i runs) ++ run_nodes (get_or runs i d)
expanded_until runs i d within = ap expanded (take_more runs i d within) ∙ expanded_more (take i runs) (get_or runs i d)

-- the node of a run is among the fingers
contains_run : (runs : List Run) (i : ℕ) (d : Run) → i < length runs → Contains (expanded runs) (get_or runs i d).node
contains_run [] i d within = absurd (omega (arith, within))
contains_run (run ∷ rest) zero d within = contains_here run.node (replicate run.repeats run.node ++ expanded rest)
contains_run (run ∷ rest) (suc i) d within =
    contains_right (run_nodes run) (expanded rest) (get_or rest i d).node (contains_run rest i d (omega (arith, within)))

-- what holds for each finger holds for the node of each run
pub run_known : (P : ℕ → Type 0) (runs : List Run) (i : ℕ) (d : Run) → i < length runs → All P (expanded runs) → P (get_or runs i d).node
run_known P runs i d within all = All_at P (expanded runs) (get_or runs i d).node all (contains_run runs i d within)

-- a run and another one of the same node are one run
pub joined_run : (node a b : ℕ) → node ∷ replicate (a + 1 + b) node ≡ (node ∷ replicate a node) ++ (node ∷ replicate b node)
joined_run node a b =
    let same : a + 1 + b ≡ a + suc b = omega arith in
    ap (λ (n : ℕ). node ∷ replicate n node) same ∙ ap (λ (xs : List ℕ). node ∷ xs) (sym (replicate-append-replicate a (suc b) node))

-- the last run grows by another one of its node
grown_at : (k : ℕ) (runs : List Run) (last run : Run) → length runs ≡ k + 1 → slice_get runs k ≡ Some last → last.node ≡ run.node
    → expanded (slice_set runs k (record { node = run.node; repeats = last.repeats + 1 + run.repeats })) ≡ expanded runs ++ run_nodes run
grown_at k [] last run many at same = absurd (omega (arith, many))
grown_at zero (first ∷ []) last run many at same =
    let is : first ≡ last = same_Some first last at in
    let node : first.node ≡ run.node = ap (λ (r : Run). r.node) is ∙ same in
    append-nil (run.node ∷ replicate (last.repeats + 1 + run.repeats) run.node) ∙ joined_run run.node last.repeats run.repeats
    ∙ ap (λ (xs : List ℕ). xs ++ run_nodes run) (ap (λ (n : ℕ). n ∷ replicate last.repeats n) (sym same) ∙ ap run_nodes (sym is) ∙ sym (append-nil (run_nodes first)))
grown_at zero (first ∷ next ∷ rest) last run many at same = absurd (omega (arith, many))
grown_at (suc k) (first ∷ rest) last run many at same =
    ap (λ (xs : List ℕ). run_nodes first ++ xs) (grown_at k rest last run (omega (arith, many)) at same)
    ∙ sym (append_assoc (run_nodes first) (expanded rest) (run_nodes run))

pub grown : (runs : List Run) (last run : Run) → slice_get runs (length runs - 1) ≡ Some last → last.node ≡ run.node
    → expanded (slice_set runs (length runs - 1) (record { node = run.node; repeats = last.repeats + 1 + run.repeats })) ≡ expanded runs ++ run_nodes run
grown runs last run at same =
    let within : length runs - 1 < length runs = slice_get_within runs (length runs - 1) last at in
    grown_at (length runs - 1) runs last run (omega (arith, within)) at same

-- places before the end of the first run
take_inside : (node k n : ℕ) (xs : List ℕ) → n ≤ k → take n (replicate k node ++ xs) ≡ replicate n node
take_inside node k zero xs within = refl
take_inside node zero (suc n) xs within = absurd (omega (arith, within))
take_inside node (suc k) (suc n) xs within = ap (λ (ys : List ℕ). node ∷ ys) (take_inside node k n xs (omega (arith, within)))

-- places beyond the end of the first nodes
take_beyond : (node k n m : ℕ) (xs : List ℕ) → m ≡ k + n → take m (replicate k node ++ xs) ≡ replicate k node ++ take n xs
take_beyond node zero n m xs is = let same : m ≡ n = omega (arith, is) in ap (λ (i : ℕ). take i xs) same
take_beyond node (suc k) n zero xs is = absurd (omega (arith, is))
take_beyond node (suc k) n (suc m) xs is = ap (λ (ys : List ℕ). node ∷ ys) (take_beyond node k n m xs (omega (arith, is)))

drop_inside : (node k n m : ℕ) (xs : List ℕ) → m + n ≡ k → drop n (replicate k node ++ xs) ≡ replicate m node ++ xs
drop_inside node k zero m xs is = let same : k ≡ m = omega (arith, is) in ap (λ (i : ℕ). replicate i node ++ xs) same
drop_inside node zero (suc n) m xs is = absurd (omega (arith, is))
drop_inside node (suc k) (suc n) m xs is = drop_inside node k n m xs (omega (arith, is))

drop_beyond : (node k n m : ℕ) (xs : List ℕ) → m ≡ k + n → drop m (replicate k node ++ xs) ≡ drop n xs
drop_beyond node zero n m xs is = let same : m ≡ n = omega (arith, is) in ap (λ (i : ℕ). drop i xs) same
drop_beyond node (suc k) n zero xs is = absurd (omega (arith, is))
drop_beyond node (suc k) n (suc m) xs is = drop_beyond node k n m xs (omega (arith, is))

get_inside : (node k n : ℕ) (xs : List ℕ) → n < k → slice_get (replicate k node ++ xs) n ≡ Some node
get_inside node zero n xs within = absurd (omega (arith, within))
get_inside node (suc k) zero xs within = refl
get_inside node (suc k) (suc n) xs within = get_inside node k n xs (omega (arith, within))

get_beyond : (node k n m : ℕ) (xs : List ℕ) → m ≡ k + n → slice_get (replicate k node ++ xs) m ≡ slice_get xs n
get_beyond node zero n m xs is = let same : m ≡ n = omega (arith, is) in ap (λ (i : ℕ). slice_get xs i) same
get_beyond node (suc k) n zero xs is = absurd (omega (arith, is))
get_beyond node (suc k) n (suc m) xs is = get_beyond node k n m xs (omega (arith, is))

-- a function of a repeated node
map-replicate : (f : ℕ → ℕ) (k node : ℕ) → map f (replicate k node) ≡ replicate k (f node)
map-replicate f zero node = refl
map-replicate f (suc k) node = ap (λ (xs : List ℕ). f node ∷ xs) (map-replicate f k node)

-- what is left to take, once a run was added whole
pub taken_whole : (run : Run) (left : ℕ) (rest : List ℕ) → run.repeats < left
    → run_nodes run ++ take (left - (run.repeats + 1)) rest ≡ take left (run_nodes run ++ rest)
taken_whole run left rest within =
    sym (take_beyond run.node (suc run.repeats) (left - (run.repeats + 1)) left rest (omega (arith, within)))

-- the part of a run that ends what is taken
pub taken_part : (run : Run) (left : ℕ) (rest : List ℕ) → 0 < left → left ≤ run.repeats
    → run_nodes (record { node = run.node; repeats = left - 1 }) ≡ take left (run_nodes run ++ rest)
taken_part run zero rest some within = absurd (omega (arith, some))
taken_part run (suc n) rest some within =
    let same : suc n - 1 ≡ n = omega arith in
    ap (λ (k : ℕ). run.node ∷ replicate k run.node) same
    ∙ ap (λ (xs : List ℕ). run.node ∷ xs) (sym (take_inside run.node run.repeats n rest (omega (arith, within))))

-- what is left to drop, once a run was dropped whole
pub dropped_whole : (run : Run) (left : ℕ) (rest : List ℕ) → run.repeats < left → drop (left - (run.repeats + 1)) rest ≡ drop left (run_nodes run ++ rest)
dropped_whole run left rest within = sym (drop_beyond run.node (suc run.repeats) (left - (run.repeats + 1)) left rest (omega (arith, within)))

-- the part of a run that is not dropped
pub dropped_part : (run : Run) (left : ℕ) (rest : List ℕ) → left ≤ run.repeats
    → run_nodes (record { node = run.node; repeats = run.repeats - left }) ++ rest ≡ drop left (run_nodes run ++ rest)
dropped_part run left rest within = sym (drop_inside run.node (suc run.repeats) left (suc (run.repeats - left)) rest (omega (arith, within)))

-- a place of a run
pub found_inside : (run : Run) (left : ℕ) (rest : List ℕ) → left ≤ run.repeats → slice_get (run_nodes run ++ rest) left ≡ Some run.node
found_inside run left rest within = get_inside run.node (suc run.repeats) left rest (omega (arith, within))

-- a place after a run
pub found_beyond : (run : Run) (left : ℕ) (rest : List ℕ) → run.repeats < left
    → slice_get rest (left - (run.repeats + 1)) ≡ slice_get (run_nodes run ++ rest) left
found_beyond run left rest within = sym (get_beyond run.node (suc run.repeats) (left - (run.repeats + 1)) left rest (omega (arith, within)))

-- fingers that begin with these are not changed by a write of these
pub begun : (count : ℕ) (run : Run) (rest : List ℕ) → count ≤ run.repeats
    → run_nodes run ++ rest ≡ replicate count run.node ++ drop count (run_nodes run ++ rest)
begun count run rest within =
    sym (take-append-drop count (run_nodes run ++ rest))
    ∙ ap (λ (xs : List ℕ). xs ++ drop count (run_nodes run ++ rest)) (take_inside run.node (suc run.repeats) count rest (omega (arith, within)))

-- each finger of a run is replaced alike
pub mapped_run : (f : ℕ → ℕ) (run : Run) → map f (run_nodes run) ≡ run_nodes (record { node = f run.node; repeats = run.repeats })
mapped_run f run = ap (λ (xs : List ℕ). f run.node ∷ xs) (map-replicate f run.repeats run.node)

-- one step of a loop that adds runs: what was added and what is left are all that there was
pub step : (done more part next now all : List ℕ) → more ≡ done ++ part → part ++ next ≡ now → done ++ now ≡ all → more ++ next ≡ all
step done more part next now all added whole before =
    ap (λ (xs : List ℕ). xs ++ next) added ∙ append_assoc done part next ∙ ap (λ (xs : List ℕ). done ++ xs) whole ∙ before

-- fingers whose first run is long enough are not changed by a write of its node to the first places
pub begun_runs : (runs : List Run) (count node : ℕ) (run : Run) → slice_get runs 0 ≡ Some run → run.node ≡ node → count ≤ run.repeats
    → expanded runs ≡ replicate count node ++ drop count (expanded runs)
begun_runs [] count node run at same within = absurd (cc)
begun_runs (first ∷ rest) count node run at same within =
    let is : first ≡ run = same_Some first run at in
    let near : count ≤ first.repeats = subst (λ (r : Run). count ≤ r.repeats) (sym is) within in
    begun count first (expanded rest) near
    ∙ ap (λ (n : ℕ). replicate count n ++ drop count (expanded (first ∷ rest))) (ap (λ (r : Run). r.node) is ∙ same)

-- a run whose node is replaced
pub replaced_whole : (f : ℕ → ℕ) (run : Run) (y : ℕ) (rest : List ℕ) → y ≡ f run.node
    → run_nodes (record { node = y; repeats = run.repeats }) ++ map f rest ≡ map f (run_nodes run ++ rest)
replaced_whole f run y rest is =
    ap (λ (n : ℕ). run_nodes (record { node = n; repeats = run.repeats }) ++ map f rest) is
    ∙ ap (λ (xs : List ℕ). xs ++ map f rest) (sym (mapped_run f run)) ∙ sym (map-append f (run_nodes run) rest)
