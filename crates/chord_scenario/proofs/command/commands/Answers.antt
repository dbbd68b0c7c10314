use Rattle.std.proofs.Common.{◌≡◌, ◌∙◌, ap, refl, ℕ, List, [], ◌∷◌, ◌++◌, Vec, Global}
use Rattle.toml.specs.Data.{Members}
use Rattle.toml.specs.View.{table_view}
use Rattle.chord_scenario.specs.declared.key.FileKey.TheVariants as key
use Rattle.chord_scenario.specs.declared.setting.Action.{Action}
use Rattle.chord_scenario.specs.declared.setting.Command.{Command}
use Rattle.chord_scenario.specs.declared.setting.Node.{Node}
use Rattle.chord_scenario.specs.Sections.{Section, section_of}
use Rattle.chord_scenario.specs.Settings.{is_command, node_at, action_of, command_of, commands_of}
use Rattle.chord_scenario.specs.Values.{number_at}
use Rattle.chord_scenario.proofs.Built.{no-command, made-more, made-other, made-all}
use Rattle.chord_scenario.proofs.command.commands.Goals as goal
use Rattle.chord_scenario.proofs.command.commands.Goals.{in-Command+in_ok-push, in_default}

same_command : (bits : ℕ) (nodes : List Node) (ms : Members) (command : Command) (action : Action)
    → command ≡ record { at = number_at key.AtUs ms; node = node_at key.Node nodes ms; action = action }
    → action ≡ action_of bits nodes ms
    → command ≡ command_of bits nodes ms
unfolding command_of
same_command bits nodes ms command action is asked = is ∙ ap (λ (a : Action). record { at = number_at key.AtUs ms; node = node_at key.Node nodes ms; action = a }) asked

pub loop-table-preserved : goal.loop-table-preserved
unfolding commands_of
loop-table-preserved c =
    let bits = c.args.circle in
    let nodes = c.args.names.now.nodes.now in
    let of : Section → Command = λ s. command_of bits nodes s.members in
    let t = c.table-item.result in
    let before = c.loop-table.invariant in
    elim c.match-table.branch [
      | in-Command+in_ok-push w ↦
          let added : c.match-table.commands.items ≡ c.loop-table.commands.items ++ w.command_that.result ∷ [] =
          ap (λ (v : Vec Command Global). v.items) w.commands-is ∙ w.in_ok-push.ensures.items in
          rw added (made-more section_of (λ s. is_command s.at) of c.args.tables.now c.loop-table.table-index t c.loop-table.commands.items
          w.command_that.result before c.loop-table-test.true c.table-item.is (ap is_command w.in-Command.is)
          (same_command bits nodes (table_view t.table.now) w.command_that.result w.action_of-action.result w.command_that.ensures w.action_of-action.ensures))
      | in_default w ↦
          rw (ap (λ (v : Vec Command Global). v.items) w.commands-is)
          (made-other section_of (λ s. is_command s.at) of c.args.tables.now c.loop-table.table-index t c.loop-table.commands.items
          before c.loop-table-test.true c.table-item.is (no-command t.at (λ n e. w.in_default.not-Command n e)))
    ]

pub loop-table-init : goal.loop-table-init
loop-table-init c = rw c.new-commands.ensures.items refl

pub returns : goal.returns
unfolding commands_of
returns c =
    made-all section_of (λ s. is_command s.at) (λ s. command_of c.args.circle c.args.names.now.nodes.now s.members) c.args.tables.now c.loop-table.table-index
    c.loop-table.commands.items c.loop-table.invariant c.loop-table-test.false
