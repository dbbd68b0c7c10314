use Rattle.std.proofs.Common.{◌≡◌, ◌∙◌, sym, refl, ℕ, false, ◌==◌, List, [], ◌∷◌, length}
use Rattle.std.proofs.lemmas.Bool.{eqb-true, false≢true}
use Rattle.std.proofs.lemmas.List.{get_or-replicate, nil_from_length}
use Rattle.chord_scenario.specs.Latencies.{square_or_zeros}
use Rattle.chord_scenario.proofs.LatencyLemmas.{cell-within}
use Rattle.chord_scenario.proofs.latency.cell_at.Goals as goal

some_cells : (n : ℕ) (cells : List ℕ) → (length cells == 0) ≡ false → square_or_zeros n cells ≡ cells
some_cells n [] some = absurd (false≢true (sym some))
some_cells n (cell ∷ cells) some = refl

pub returns-then-is_empty : goal.returns-then-is_empty
returns-then-is_empty c =
    let none = nil_from_length c.args.cells.now (eqb-true (length c.args.cells.now) 0 (sym c.is_empty.ensures ∙ c.if-is_empty.true)) in
    rw none (sym (get_or-replicate _ _ 0 0 (cell-within c.args.n c.args.i c.args.j c.requires.row c.requires.column)))

pub returns : goal.returns
returns c =
    let all = some_cells c.args.n c.args.cells.now (sym c.is_empty.ensures ∙ c.if-is_empty.false) in
    rw (all, c.cell_of.ensures.value) refl
