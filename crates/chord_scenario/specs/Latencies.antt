-- What is kept of the rows of a latency file, and the square of latencies, one for each two nodes.
use Rattle.std.specs.Prelude.{
  ◌≡◌,
  ℕ,
  ◌+◌,
  ◌*◌,
  ◌<◌,
  ◌||◌,
  Bool,
  true,
  false,
  List,
  [],
  ◌∷◌,
  map,
  length,
  bytes_eq,
  replicate,
  slice_index,
  Option,
  Some,
  is_none,
  option_map,
  unwrap_or,
  ◌==◌,
  if◌then◌else◌,
}
use Rattle.std.specs.Borrow.{Bor}
use Rattle.std.specs.Option.{option_map_or}
use Rattle.csv.specs.Reading.{
  AreRecords,
  Reached,
  Ready,
  default_config,
  is_flexible,
  owned_rows_left,
  owned_rows_reader,
  reader_config,
  reader_state,
  reader_trim,
  source_of,
  strip_bom,
}
use Rattle.csv.specs.declared.iter.ByteRecordsIntoIter.{ByteRecordsIntoIter}
use Rattle.csv.specs.declared.parser.State.TheVariants as st
use Rattle.csv.specs.declared.reader.Trim.TheVariants as trim
use Rattle.chord_scenario.specs.declared.setting.Node.{Node}
use Rattle.chord_scenario.specs.declared.row.RowLink.{RowLink}
use Rattle.chord_scenario.specs.declared.latency.Ends.{Ends}
use Rattle.chord_scenario.specs.Settings.{index_of}
use Rattle.chord_scenario.specs.Rows.{Row, link_of, row_latency}

-- what is kept of a row, if it has three fields
abbrev pub kept_link : List Node → Row → Option RowLink
kept_link nodes r =
    option_map
    (λ l. record { first = index_of l.first nodes; second = index_of l.second nodes; itself = bytes_eq l.first l.second; latency = l.latency })
    (link_of r)

-- the reader has given these rows of a text, and has the others left
pub record HasLeft (text : List ℕ) (read : List Row) (rows : ByteRecordsIntoIter (Bor (List ℕ))) : Type 0 where
  pub unread : List ℕ
  pub source : source_of (λ s. Some s.now) (owned_rows_reader rows) ≡ Some unread
  pub reached : Reached default_config st.StartRecord (strip_bom text) read (reader_state (owned_rows_reader rows)) unread
  pub flexible : is_flexible (owned_rows_reader rows) ≡ true
  pub usual : reader_config (owned_rows_reader rows) ≡ default_config
  pub untrimmed : reader_trim (owned_rows_reader rows) ≡ trim.None
  pub ready : Ready (owned_rows_reader rows)
  pub left : 0 < owned_rows_left rows

-- this is kept of the rows of a text
pub record AreKept (nodes : List Node) (text : List ℕ) (kept : List (Option RowLink)) : Type 0 where
  pub rows : List Row
  pub are_rows : AreRecords default_config st.StartRecord (strip_bom text) rows
  pub are_kept : kept ≡ map (kept_link nodes) rows

-- the row does not have three fields, or its third is no latency
abbrev pub keeps_bad_row : Option RowLink → Bool
keeps_bad_row kept = option_map_or (λ l. is_none l.latency) kept true

-- one of the row's two names is not that of a node; false if the row does not have three fields
abbrev pub keeps_unknown : Option RowLink → Bool
keeps_unknown kept = option_map_or (λ l. is_none l.first || is_none l.second) kept false

-- the row names one node twice; false if the row does not have three fields
abbrev pub keeps_itself : Option RowLink → Bool
keeps_itself kept = option_map_or (λ l. l.itself) kept false

-- the square has the latency that the rows give each two nodes, and 0 if they give none
pub record HasLatencies (nodes : List Node) (rows : List Row) (cells : List ℕ) : Type 0 where
  pub size : length cells ≡ length nodes * length nodes
  pub cell : (a b : List ℕ) (i j : ℕ) → index_of a nodes ≡ Some i → index_of b nodes ≡ Some j
      → slice_index cells (i * length nodes + j) ≡ unwrap_or (row_latency a b rows) 0

-- the cells of a square for n nodes; no cells mean zeros
abbrev pub square_or_zeros : (n : ℕ) → (cells : List ℕ) → List ℕ
square_or_zeros n [] = replicate (n * n) 0
square_or_zeros n (cell ∷ cells) = cell ∷ cells

-- the latency of two different nodes by a square of n by n: its cell, or the default if that is 0
abbrev pub latency_in : List ℕ → ℕ → ℕ → ℕ → ℕ → ℕ
latency_in cells n default i j =
    if slice_index cells (i * n + j) == 0 then default else slice_index cells (i * n + j)

-- the ends and the latency that are kept of a row
pub record KeepsEnds (kept : Option RowLink) (e : Ends) : Type 0 where
  pub link : RowLink
  pub is : kept ≡ Some link
  pub first : link.first ≡ Some e.first
  pub second : link.second ≡ Some e.second
  pub latency : link.latency ≡ Some e.latency
