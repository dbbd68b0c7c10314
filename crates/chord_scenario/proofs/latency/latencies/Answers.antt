use Rattle.std.proofs.Common.{
  ◌≡◌,
  ◌∙◌,
  ◌+◌,
  ◌*◌,
  ◌<◌,
  ◌≤◌,
  sym,
  ap,
  subst,
  ℕ,
  List,
  [],
  ◌∷◌,
  ◌++◌,
  Option,
  None,
  map,
  take,
  drop,
  length,
  get_or,
  option_map,
  unwrap_or,
  inr,
  arith,
  false,
  refl,
}
use Rattle.chord_scenario.specs.declared.setting.Node.{Node}
use Rattle.chord_scenario.specs.declared.latency.Ends.{Ends}
use Rattle.chord_scenario.specs.declared.row.RowLink.{RowLink}
use Rattle.std.proofs.lemmas.List.{take_more, take_all, length-map, drop_all, get_or-map}
use Rattle.csv.proofs.ReadFacts.{get-same}
use Rattle.std.proofs.lemmas.Nat.{mul-le}
use Rattle.std.proofs.lemmas.Option.{same_Some, slice_get-get_or}
use Rattle.chord_scenario.specs.Search.{Repeat, first_repeat}
use Rattle.chord_scenario.specs.declared.key.Place.TheVariants as place
use Rattle.chord_scenario.specs.declared.fault.ScenarioFault.TheVariants.{UnknownNode, BadLatencyRow, SameLinkTwice}
use Rattle.chord_scenario.specs.Rows.{Row, rows_of, is_bad_row, name_one_pair, row_latency}
use Rattle.chord_scenario.specs.Latencies.{HasLatencies, KeepsEnds, kept_link, keeps_unknown, keeps_bad_row}
use Rattle.chord_scenario.specs.Faults.{row_names_unknown, bad_latency_row, same_link_twice}
use Rattle.chord_scenario.proofs.FirstRepeat.{first_repeat-found, first_repeat-none}
use Rattle.chord_scenario.proofs.Kept.{kept_bad, kept_unknown, kept_ends}
use Rattle.chord_scenario.proofs.LatencyLemmas.{IsEndsOf, index_of-below, latencies-more, unnamed-zero}
use Rattle.chord_scenario.proofs.NoRows.{no_rows, square-full, zeros_have}
use Rattle.chord_scenario.proofs.RowScans.{row_fault-none-at, bad_latency_row-none, AreGood-take, earlier-none, earlier-some}
use Rattle.chord_scenario.proofs.latency.latencies.Goals as goal

pub returns-then-is_empty-clause-once : goal.returns-then-is_empty-clause-once
unfolding same_link_twice
returns-then-is_empty-clause-once c =
    let none = no_rows (rows_of c.args.rows.now.text.now) c.is_empty.result c.is_empty.ensures c.if-is_empty.true in
    rw none refl

pub returns-then-is_empty-clause-square : goal.returns-then-is_empty-clause-square
returns-then-is_empty-clause-square c =
    let none = no_rows (rows_of c.args.rows.now.text.now) c.is_empty.result c.is_empty.ensures c.if-is_empty.true in
    rw (none, c.new.ensures.items) (zeros_have c.args.rows.now.names.nodes.now)

-- what is kept at a place is of the row there
record At (nodes : List Node) (rows : List Row) (kept : List (Option RowLink)) (i : ℕ) : Type 0 where
  row : Row
  within : i < length rows
  here : row ≡ get_or rows i row
  is : get_or kept i None ≡ kept_link nodes row

at : (nodes : List Node) (rows : List Row) (kept : List (Option RowLink)) (i : ℕ) → kept ≡ map (kept_link nodes) rows → i < length kept → At nodes rows kept i
at nodes rows kept i same h =
    let within : i < length rows = omega (arith, ap length same, length-map rows (kept_link nodes)) in
    record {
      row = get_or rows i [];
      within = within;
      here = same_Some _ _ (sym (slice_get-get_or rows i [] within) ∙ slice_get-get_or rows i (get_or rows i []) within);
      is = ap (λ l. get_or l i None) same ∙ get_or-map (kept_link nodes) rows i [] None within;
    }

bad_none-at : (rows : List Row) (i : ℕ) (d : Row) → bad_latency_row rows ≡ None → i < length rows → is_bad_row (get_or rows i d) ≡ false
unfolding bad_latency_row
bad_none-at rows i d h within = row_fault-none-at BadLatencyRow is_bad_row rows i d h within

pub ends_of-ends-requires-clause-known : goal.ends_of-ends-requires-clause-known
ends_of-ends-requires-clause-known c =
    let nodes = c.args.rows.now.names.nodes.now in
    let rows = rows_of c.args.rows.now.text.now in
    let a = at nodes rows c.deref-row-items.result.now c.loop-i.i (c.deref-row-items.ensures.value ∙ c.args.rows.now.kept) c.loop-i-test.true in
    ap keeps_unknown a.is ∙ kept_unknown nodes a.row ∙ ap (row_names_unknown nodes) a.here
    ∙ row_fault-none-at UnknownNode (row_names_unknown nodes) rows c.loop-i.i a.row c.requires.known a.within

pub ends_of-ends-requires-clause-good : goal.ends_of-ends-requires-clause-good
ends_of-ends-requires-clause-good c =
    let nodes = c.args.rows.now.names.nodes.now in
    let rows = rows_of c.args.rows.now.text.now in
    let a = at nodes rows c.deref-row-items.result.now c.loop-i.i (c.deref-row-items.ensures.value ∙ c.args.rows.now.kept) c.loop-i-test.true in
    ap keeps_bad_row a.is ∙ kept_bad nodes a.row ∙ ap is_bad_row a.here ∙ bad_none-at rows c.loop-i.i a.row c.requires.good a.within

pub cell_of-place-requires-clause-row : goal.cell_of-place-requires-clause-row
cell_of-place-requires-clause-row c =
    let nodes = c.args.rows.now.names.nodes.now in
    let a = at nodes (rows_of c.args.rows.now.text.now) c.deref-row-items.result.now c.loop-i.i
    (c.deref-row-items.ensures.value ∙ c.args.rows.now.kept) c.loop-i-test.true in
    let e = kept_ends nodes a.row c.ends_of-ends.result (subst (λ k. KeepsEnds k c.ends_of-ends.result) a.is c.ends_of-ends.ensures) in
    index_of-below nodes c.ends_of-ends.result.first e.link.first e.first

pub cell_of-place-requires-clause-column : goal.cell_of-place-requires-clause-column
cell_of-place-requires-clause-column c =
    let nodes = c.args.rows.now.names.nodes.now in
    let a = at nodes (rows_of c.args.rows.now.text.now) c.deref-row-items.result.now c.loop-i.i
    (c.deref-row-items.ensures.value ∙ c.args.rows.now.kept) c.loop-i-test.true in
    let e = kept_ends nodes a.row c.ends_of-ends.result (subst (λ k. KeepsEnds k c.ends_of-ends.result) a.is c.ends_of-ends.ensures) in
    index_of-below nodes c.ends_of-ends.result.second e.link.second e.second

pub cell_of-mirrored-requires-clause-row : goal.cell_of-mirrored-requires-clause-row
cell_of-mirrored-requires-clause-row c =
    let nodes = c.args.rows.now.names.nodes.now in
    let a = at nodes (rows_of c.args.rows.now.text.now) c.deref-row-items.result.now c.loop-i.i
    (c.deref-row-items.ensures.value ∙ c.args.rows.now.kept) c.loop-i-test.true in
    let e = kept_ends nodes a.row c.ends_of-ends.result (subst (λ k. KeepsEnds k c.ends_of-ends.result) a.is c.ends_of-ends.ensures) in
    index_of-below nodes c.ends_of-ends.result.second e.link.second e.second

-- what was read at the cell of the row's nodes is the latency that the rows before give them
held : (nodes : List Node) (rows : List Row) (r : Row) (e : Ends) (cells : List ℕ) (cell read : ℕ) → HasLatencies nodes rows cells → (ends : IsEndsOf nodes r e)
    → cell ≡ e.first * length nodes + e.second → cell < length nodes * length nodes → read ≡ get_or cells cell read
    → unwrap_or (row_latency ends.link.first ends.link.second rows) 0 ≡ read
held nodes rows r e cells cell read has ends at within is =
    let inside : cell < length cells = rw has.size within in
    sym (has.cell ends.link.first ends.link.second e.first e.second ends.first ends.second) ∙ ap (λ k. get_or cells k 0) (sym at)
    ∙ get-same cells cell 0 read inside ∙ sym is

pub returns-then-index-ne0-clause-refused : goal.returns-then-index-ne0-clause-refused
unfolding same_link_twice
returns-then-index-ne0-clause-refused c =
    let nodes = c.args.rows.now.names.nodes.now in
    let rows = rows_of c.args.rows.now.text.now in
    let a = at nodes rows c.deref-row-items.result.now c.loop-i.i (c.deref-row-items.ensures.value ∙ c.args.rows.now.kept) c.loop-i-test.true in
    let e = kept_ends nodes a.row c.ends_of-ends.result (subst (λ k. KeepsEnds k c.ends_of-ends.result) a.is c.ends_of-ends.ensures) in
    let read = held nodes (take c.loop-i.i rows) a.row c.ends_of-ends.result c.loop-i.cells.items c.cell_of-place.result c.index.result.now
    c.loop-i.invariant.has e c.cell_of-place.ensures.value c.cell_of-place.ensures.within c.index.ensures in
    let w = earlier-some rows c.loop-i.i a.row e.link e.is (λ none. c.if-index-ne0.true (sym read ∙ none)) in
    let first = first_repeat-found name_one_pair rows c.loop-i.i a.row c.loop-i.invariant.first a.within a.here w.0 w.1 in
    inr (sym (ap (option_map (λ (r : Repeat Row). SameLinkTwice (place.Row r.second_number))) first))

pub loop-i-preserved : goal.loop-i-preserved
loop-i-preserved c =
    let nodes = c.args.rows.now.names.nodes.now in
    let rows = rows_of c.args.rows.now.text.now in
    let a = at nodes rows c.deref-row-items.result.now c.loop-i.i (c.deref-row-items.ensures.value ∙ c.args.rows.now.kept) c.loop-i-test.true in
    let e = kept_ends nodes a.row c.ends_of-ends.result (subst (λ k. KeepsEnds k c.ends_of-ends.result) a.is c.ends_of-ends.ensures) in
    let read = held nodes (take c.loop-i.i rows) a.row c.ends_of-ends.result c.loop-i.cells.items c.cell_of-place.result c.index.result.now
    c.loop-i.invariant.has e c.cell_of-place.ensures.value c.cell_of-place.ensures.within c.index.ensures in
    let inv = c.loop-i.invariant in
    let good = AreGood-take c.loop-i.i rows (bad_latency_row-none rows c.requires.good) in
    let unnamed = unnamed-zero e.link.first e.link.second (take c.loop-i.i rows) good (read ∙ c.if-index-ne0.false) in
    let next : take (c.loop-i.i + 1) rows ≡ take c.loop-i.i rows ++ a.row ∷ [] = take_more rows c.loop-i.i a.row a.within
    ∙ ap (λ z. take c.loop-i.i rows ++ z ∷ []) (sym a.here) in
    record {
      has = rw (next, c.cell_of-place.ensures.value, c.cell_of-mirrored.ensures.value)
          (latencies-more nodes (take c.loop-i.i rows) a.row c.ends_of-ends.result c.loop-i.cells.items inv.has e unnamed);
      first = first_repeat-none name_one_pair rows c.loop-i.i a.row inv.first a.within a.here (earlier-none rows c.loop-i.i a.row e.link e.is unnamed);
    }

pub returns-clause-once : goal.returns-clause-once
unfolding same_link_twice
returns-clause-once c =
    let rows = rows_of c.args.rows.now.text.now in
    let kept = c.deref-row-items.ensures.value ∙ c.args.rows.now.kept in
    let size : length c.deref-row-items.result.now ≡ length rows = ap length kept ∙ length-map rows (kept_link c.args.rows.now.names.nodes.now) in
    let over : length rows ≤ c.loop-i.i = omega arith in
    let none : drop c.loop-i.i rows ≡ [] = drop_all c.loop-i.i rows over in
    ap (option_map (λ (r : Repeat Row). SameLinkTwice (place.Row r.second_number)))
    (sym c.loop-i.invariant.first ∙ ap (first_repeat name_one_pair (take c.loop-i.i rows)) none)

pub returns-clause-square : goal.returns-clause-square
returns-clause-square c =
    let nodes = c.args.rows.now.names.nodes.now in
    let rows = rows_of c.args.rows.now.text.now in
    let kept = c.deref-row-items.ensures.value ∙ c.args.rows.now.kept in
    let over : length rows ≤ c.loop-i.i = omega (arith, ap length kept, length-map rows (kept_link nodes)) in
    let all : HasLatencies nodes rows c.loop-i.cells.items =
    subst (λ l. HasLatencies nodes l c.loop-i.cells.items) (take_all c.loop-i.i rows over) c.loop-i.invariant.has in
    rw (square-full (length nodes) c.loop-i.cells.items all.size) all

-- a square for at most 16,842,752 nodes has fewer than 2 ^ 64 cells
square_fits : (n : ℕ) → n ≤ 16842752 → n * n < 18446744073709551616
square_fits n few = omega (arith, mul-le n n 16842752 16842752 few few)

pub overflow_mul-n : goal.overflow_mul-n
overflow_mul-n c = omega (arith, square_fits (length c.args.rows.now.names.nodes.now) c.requires.few)

pub cell_of-place-requires-clause-fits : goal.cell_of-place-requires-clause-fits
cell_of-place-requires-clause-fits c = square_fits (length c.args.rows.now.names.nodes.now) c.requires.few

pub cell_of-mirrored-requires-clause-fits : goal.cell_of-mirrored-requires-clause-fits
cell_of-mirrored-requires-clause-fits c = square_fits (length c.args.rows.now.names.nodes.now) c.requires.few

pub cell_of-mirrored-requires-clause-column : goal.cell_of-mirrored-requires-clause-column
cell_of-mirrored-requires-clause-column c =
    let nodes = c.args.rows.now.names.nodes.now in
    let a = at nodes (rows_of c.args.rows.now.text.now) c.deref-row-items.result.now c.loop-i.i
    (c.deref-row-items.ensures.value ∙ c.args.rows.now.kept) c.loop-i-test.true in
    let e = kept_ends nodes a.row c.ends_of-ends.result (subst (λ k. KeepsEnds k c.ends_of-ends.result) a.is c.ends_of-ends.ensures) in
    index_of-below nodes c.ends_of-ends.result.first e.link.first e.first

pub loop-i-init : goal.loop-i-init
loop-i-init c =
    let zeros = c.in_ok-cells.ensures.items_if_clones_equal (λ _ e. e) in
    record { has = rw zeros (zeros_have c.args.rows.now.names.nodes.now); first = refl }

pub index-requires : goal.index-requires
index-requires c = omega (arith, c.cell_of-place.ensures.within, c.loop-i.invariant.has.size, c.loop-i.cells.ok)

pub index_mut-requires : goal.index_mut-requires
index_mut-requires c = omega (arith, c.cell_of-place.ensures.within, c.loop-i.invariant.has.size, c.loop-i.cells.ok)

pub index_mut-requires-in-loop-i : goal.index_mut-requires-in-loop-i
index_mut-requires-in-loop-i c = omega (arith, c.cell_of-mirrored.ensures.within, c.loop-i.invariant.has.size, c.loop-i.cells.ok)
