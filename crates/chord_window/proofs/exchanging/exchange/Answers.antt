use Rattle.std.proofs.Common.{◌∙◌, ◌+◌, ap}
use Rattle.chord_window.proofs.Exchanged.{events_same, lists_are_blocks, parts_done}
use Rattle.chord_window.proofs.exchanging.exchange.Goals as goal

pub exchange-requires-clause-done : goal.exchange-requires-clause-done
exchange-requires-clause-done c = (
  c.requires.done.0,
  parts_done c.args.scenario.now c.args.world.now c.requires.done.0 c.args.dones.items c.in_ok-kernels.kernels.items c.in_ok-kernels.ensures c.requires.done.1,
)

pub lists_of_blocks-requires : goal.lists_of_blocks-requires
lists_of_blocks-requires c = lists_are_blocks c.args.dones.items c.in_ok-kernels.kernels.items c.args.world.now.kernel.division.parts c.in_ok-lists.lists.items
    c.in_ok-kernels.ensures c.in_ok-lists.ensures.entries

pub returns-clause-count : goal.returns-clause-count
returns-clause-count c = c.in_ok-lists.ensures.count
    ∙ ap (λ n. c.args.world.now.kernel.count + n) (events_same c.args.dones.items c.in_ok-kernels.kernels.items c.in_ok-kernels.ensures)
