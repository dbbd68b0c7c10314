-- The square that the rows fill is the one that a scenario's definition names.
use Rattle.std.proofs.Common.{◌≡◌, ◌∙◌, sym, ap, ap₂, ℕ, suc, ◌+◌, ◌*◌, ◌<◌, List, [], ◌∷◌, ◌++◌, length, map, take, drop, get_or, None, arith}
use Rattle.std.specs.List.{flat_map}
use Rattle.std.proofs.lemmas.List.{ext_get_or, get_or-drop, get_or-map, get_or-take, length-drop, length-map, length-take-le, take-append-drop}
use Rattle.chord_scenario.specs.declared.setting.Node.{Node}
use Rattle.chord_scenario.specs.Rows.{Row}
use Rattle.chord_scenario.specs.Latencies.{HasLatencies}
use Rattle.chord_scenario.specs.Faults.{latency_by_rows, same_name}
use Rattle.chord_scenario.specs.Accepted.{square_by_rows}
use Rattle.chord_scenario.proofs.DistinctNames.{index_of-own}

-- a list that is made of pieces of one length
pieces : {A : Type 0} (n : ℕ) (piece : A → List ℕ) (xs : List A) (cells : List ℕ) → ((x : A) → length (piece x) ≡ n) → length cells ≡ length xs * n
    → ((i j : ℕ) (d : A) → i < length xs → j < n → get_or cells (i * n + j) 0 ≡ get_or (piece (get_or xs i d)) j 0)
    → cells ≡ flat_map piece xs
pieces n piece [] cells fixed size each = ext_get_or 0 cells [] (omega arith) (λ i h. absurd (omega arith))
pieces {A} n piece (x ∷ xs) cells fixed size each =
    let whole : length cells ≡ n + length xs * n = omega arith in
    let front : length (take n cells) ≡ n = length-take-le n cells (omega arith) in
    let first : take n cells ≡ piece x =
    ext_get_or 0 (take n cells) (piece x) (front ∙ sym (fixed x)) (λ j h. get_or-take n cells j 0 (omega arith)
    ∙ ap (λ k. get_or cells k 0) (omega arith) ∙ each 0 j x (omega arith) (omega arith)) in
    let rest : drop n cells ≡ flat_map piece xs =
    pieces n piece xs (drop n cells) fixed (omega (arith, length-drop n cells))
    (λ i j d hi hj. get_or-drop n cells (i * n + j) 0 ∙ ap (λ k. get_or cells k 0) (omega arith) ∙ each (suc i) j d (omega arith) hj) in
    sym (take-append-drop n cells) ∙ ap₂ (λ l k. l ++ k) first rest

pub square_is : (nodes : List Node) (rows : List Row) (cells : List ℕ) → HasLatencies nodes rows cells → same_name nodes ≡ None
    → cells ≡ square_by_rows rows nodes
square_is nodes rows cells has distinct =
    pieces (length nodes) (λ x. map (latency_by_rows 0 rows x) nodes) nodes cells (λ x. length-map nodes (latency_by_rows 0 rows x)) has.size
    (λ i j d hi hj. has.cell (get_or nodes i d).name (get_or nodes j d).name i j (index_of-own nodes i d distinct hi) (index_of-own nodes j d distinct hj)
    ∙ sym (get_or-map (latency_by_rows 0 rows (get_or nodes i d)) nodes j d 0 hj))
