-- The files that an order names.
use Rattle.std.specs.Prelude.{ℕ, List, [], string_bytes}
use Rattle.std.specs.Option.{option_map_or}
use Rattle.chord_command.specs.declared.order.Files.{Files}
use Rattle.chord_command.specs.declared.order.Order.{Order}
use Rattle.chord_command.specs.declared.order.Order.TheVariants as order
use Rattle.chord_plan.specs.declared.text.Text.{Text}
use Rattle.chord_plan.specs.declared.text.Text.TheVariants as text

-- the files that an order names
abbrev pub files_of : Order → Files
files_of (order.Check files) = files
files_of (order.Ids files) = files
files_of (order.Judge files trace) = files
files_of (order.Run files plan trace) = files

-- the name of the file of a text, which is empty if the order names none
abbrev pub name_of : Text → Files → List ℕ
name_of text.Scenario files = string_bytes files.scenario
name_of text.Latency files = option_map_or string_bytes files.latency []
