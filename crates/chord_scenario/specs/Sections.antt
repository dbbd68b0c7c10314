-- The tables of a scenario file, each with its place.
use Rattle.std.specs.Prelude.{ℕ, ◌+◌, List, [], ◌∷◌, ◌++◌, Option, Some}
use Rattle.toml.specs.Data.{Data, table, array, Items, no_items, item, Members}
use Rattle.chord_scenario.specs.declared.key.Place.{Place}
use Rattle.chord_scenario.specs.declared.key.Place.TheVariants as place
use Rattle.chord_scenario.specs.declared.key.FileKey.{FileKey}
use Rattle.chord_scenario.specs.declared.key.FileKey.TheVariants as key
use Rattle.chord_scenario.specs.declared.key.Group.{Group}
use Rattle.chord_scenario.specs.declared.key.Group.TheVariants.{Nodes, Classes, Commands}
use Rattle.toml.specs.View.{table_view}
use Rattle.chord_scenario.specs.declared.section.PlacedTable.{PlacedTable}
use Rattle.chord_scenario.specs.Values.{data_at}

-- a table and its place
pub record Section : Type 0 where
  pub at : Place
  pub members : Members

-- what a clause sees of a table of the program
abbrev pub section_of : PlacedTable → Section
section_of t = record { at = t.at; members = table_view t.table.now }

-- the key that holds the tables of a group
abbrev pub key_of : Group → FileKey
key_of Nodes = key.Node
key_of Classes = key.Nodes
key_of Commands = key.Command

-- the place of the table of this number in a group, counted from 1
abbrev pub place_in : Group → ℕ → Place
place_in Nodes n = place.Node n
place_in Classes n = place.Nodes n
place_in Commands n = place.Command n

-- a value that is a table, as a section
abbrev pub table_at : Place → Option Data → List Section
table_at p (Some (table ms)) = record { at = p; members = ms } ∷ []
table_at p _ = []

-- the items that are tables, numbered with the others from n
abbrev pub tables_among : Group → ℕ → Items → List Section
tables_among g n no_items = []
tables_among g n (item d ds) = table_at (place_in g n) (Some d) ++ tables_among g (n + 1) ds

-- the tables of a group
abbrev pub tables_of : Group → Option Data → List Section
tables_of g (Some (array ds)) = tables_among g 1 ds
tables_of g _ = []

-- every table of a file: top, churn, lookups, the nodes, the classes of nodes, the commands
unfoldable pub sections : Members → List Section
sections top =
    record { at = place.Top; members = top } ∷ []
    ++ table_at place.Churn (data_at key.Churn top)
    ++ table_at place.Lookups (data_at key.Lookups top)
    ++ tables_of Nodes (data_at key.Node top)
    ++ tables_of Classes (data_at key.Nodes top)
    ++ tables_of Commands (data_at key.Command top)
