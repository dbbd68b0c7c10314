-- The results of a window's parts, each with its part.
use Rattle.std.proofs.Common.{ℕ, List, sym, subst}
use Rattle.chord_scenario.specs.declared.scenario.Scenario.{Scenario}
use Rattle.chord_window.specs.declared.part_done.Done.{Done}
use Rattle.chord_window.specs.declared.world.World.{World}
use Rattle.chord_window.specs.Ordering.{ArePartsDone}
use Rattle.chord_window.specs.PartRuns.{IsDone, IsHorizon}
use Rattle.chord_window.proofs.Dones.{part_is}
use Rattle.des_crew.specs.Windows.{HasResults}
use Rattle.des_crew.proofs.Results.{each_told, parts_told}
use Rattle.des_parts.specs.Ordering.{HasEachOnce}

-- there is one result of each part
pub all_done : (sc : Scenario) (w : World) (horizon : ℕ) (dones : List Done) → IsHorizon w horizon
    → HasResults (IsDone sc w horizon) w.kernel.division.parts dones → ArePartsDone sc w horizon dones
all_done sc w horizon dones next has =
    let numbers = parts_told (IsDone sc w horizon) (λ (done : Done). done.part) (part_is sc w horizon) has.numbers dones has.results in
    record {
      time = next.0;
      opening = next.1;
      once = subst (HasEachOnce w.kernel.division.parts) (sym numbers) has.once;
      each = each_told (IsDone sc w horizon) (λ (done : Done). done.part) (part_is sc w horizon) has.numbers dones has.results;
    }
