use Rattle.std.proofs.Common.{List, subst, sym}
use Rattle.std.specs.List.{All}
use Rattle.chord_event.specs.declared.block.Block.{Block}
use Rattle.chord_window.specs.PartRuns.{IsShortBlock}
use Rattle.chord_window.proofs.Dones.{blocks_short}
use Rattle.chord_examples.proofs.tests.team_windows.by_run_part.Goals as goal

pub text_of-text-requires : goal.text_of-text-requires
text_of-text-requires g c =
    subst (λ (l : List Block). All (IsShortBlock c.args.window.now.scenario.now) l) (sym c.as_slice.ensures.value)
    (blocks_short c.args.window.now.scenario.now c.args.window.now.world.now c.args.window.now.horizon c.args.part c.value_of-done.result
    (rw c.value_of-done.ensures at c.run_part.ensures.done))
