-- What holds if a latency file has no rows, and a square without cells.
use Rattle.std.proofs.Common.{◌≡◌, ◌∙◌, sym, ap, refl, ℕ, ◌*◌, ◌≤◌, Bool, true, false, List, [], ◌∷◌, length, replicate, find, nat_lt, ◌==◌, None}
use Rattle.std.proofs.lemmas.Bool.{eqb-true, le-ltb}
use Rattle.std.proofs.lemmas.List.{length-replicate, get_or-replicate, nil_from_length}
use Rattle.chord_scenario.specs.declared.setting.Node.{Node}
use Rattle.chord_scenario.specs.Faults.{latency_by_rows, latency_below_window}
use Rattle.chord_scenario.specs.Latencies.{HasLatencies, square_or_zeros}
use Rattle.chord_scenario.specs.Rows.{Row}
use Rattle.chord_scenario.specs.Search.{first_meeting}
use Rattle.chord_scenario.proofs.LatencyLemmas.{index_of-below, cell-within}

pub no_rows : (rows : List Row) (empty : Bool) → empty ≡ (length rows == 0) → empty ≡ true → rows ≡ []
no_rows rows empty is h = nil_from_length rows (eqb-true (length rows) 0 (sym is ∙ h))

-- zeros are the square of no rows
pub zeros_have : (nodes : List Node) → HasLatencies nodes [] (replicate (length nodes * length nodes) 0)
zeros_have nodes = record {
  size = length-replicate (length nodes * length nodes) 0;
  cell = λ a b i j ia ib. get_or-replicate _ _ 0 0 (cell-within (length nodes) i j (index_of-below nodes i a ia) (index_of-below nodes j b ib));
}

-- a square with all its cells is its cells
pub square-full : (n : ℕ) (cells : List ℕ) → length cells ≡ n * n → square_or_zeros n cells ≡ cells
square-full n [] size = ap (λ k. replicate k 0) (sym size)
square-full n (cell ∷ cells) size = refl

-- without rows every two nodes are as far apart as the default
find-far : (window default : ℕ) (x : Node) (nodes : List Node) → nat_lt default window ≡ false
    → find (λ y. nat_lt (latency_by_rows default [] x y) window) nodes ≡ None
find-far window default x [] far = refl
find-far window default x (y ∷ nodes) far = rw far (find-far window default x nodes far)

no_meeting : (window default : ℕ) (nodes : List Node) → nat_lt default window ≡ false
    → first_meeting (λ x y. nat_lt (latency_by_rows default [] x y) window) nodes ≡ None
no_meeting window default [] far = refl
no_meeting window default (x ∷ nodes) far = rw (find-far window default x nodes far) (no_meeting window default nodes far)

pub far_by_default : (window default : ℕ) (nodes : List Node) (rows : List Row) → rows ≡ [] → window ≤ default
    → latency_below_window window default nodes rows ≡ None
unfolding latency_below_window
far_by_default window default nodes rows none far = rw (none, no_meeting window default nodes (le-ltb default window far))
