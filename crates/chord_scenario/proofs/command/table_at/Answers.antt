use Rattle.std.proofs.Common.{◌∙◌, ap, option_and_then}
use Rattle.toml.specs.Data.{as_table}
use Rattle.chord_scenario.proofs.command.table_at.Goals as goal

pub returns-in-Some : goal.returns-in-Some
returns-in-Some c = c.as_table.ensures ∙ ap (option_and_then as_table) c.in-Some.ensures
