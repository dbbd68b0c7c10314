-- The results of a window's parts, each with its part.
use Rattle.std.proofs.Common.{ℕ, List, sym, subst}
use Rattle.des_model.specs.Machine.{Machine}
use Rattle.des_parts.specs.declared.part_run.Done.{Done}
use Rattle.des_parts.specs.declared.world.World.{World}
use Rattle.des_parts.specs.Ordering.{ArePartsDone, HasEachOnce}
use Rattle.des_parts.specs.PartRuns.{IsDone, IsHorizon}
use Rattle.des_crew.specs.Windows.{HasResults}
use Rattle.des_crew.proofs.Results.{each_told, parts_told}

-- there is one result of each part
pub all_done : {State Body Piece : Type 0} (m : Machine State Body Piece) (Known : Piece → Type 0) (w : World State Body) (horizon : ℕ)
    (dones : List (Done State Body Piece)) → IsHorizon w horizon → HasResults (IsDone m Known w horizon) w.division.parts dones
    → ArePartsDone m Known w horizon dones
all_done m Known w horizon dones next has = record {
  time = next.0;
  opening = next.1;
  once = subst (HasEachOnce w.division.parts)
      (sym (parts_told (IsDone m Known w horizon) (λ (done : Done _ _ _). done.part) (λ part done is. is.part_is) has.numbers dones has.results)) has.once;
  each = each_told (IsDone m Known w horizon) (λ (done : Done _ _ _). done.part) (λ part done is. is.part_is) has.numbers dones has.results;
}
