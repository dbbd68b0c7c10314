-- The steps of a worker.
use Rattle.std.proofs.Common.{◌≡◌, ℕ, ◌<◌, ◌≤◌, None, Some, sym, subst}
use Rattle.des_queue.specs.Queue.{Queue}
use Rattle.des_parts.specs.declared.part_run.PartRun.{PartRun}
use Rattle.des_picks.specs.declared.worker.Worker.{Worker}
use Rattle.des_parts.specs.declared.world.World.{World}
use Rattle.des_parts.specs.PartRuns.{HasBegun, IsFresh}
use Rattle.des_picks.specs.Workers.{HasDrawn, IsBusy, IsIdle, MayGoOn, MayGoOnWith}
use Rattle.des_model.specs.Machine.{Machine}

module _ {State Body Piece : Type 0} (m : Machine State Body Piece) (Known : Piece → Type 0) (w : World State Body) (horizon drawn : ℕ)
    (x : Worker State Body Piece) (may : MayGoOn m Known w horizon drawn x) where
  pub idle_from : x.run ≡ None → IsIdle x × (drawn < w.division.parts)
  idle_from none = subst (MayGoOnWith m Known w horizon drawn x) none may

  pub busy_from : (run : PartRun State Body Piece) → x.run ≡ Some run → IsBusy m Known w horizon drawn x run × (drawn ≤ w.division.parts)
  busy_from run some = subst (MayGoOnWith m Known w horizon drawn x) some may

  -- it begins with the next part
  pub has_drawn : (new : Worker State Body Piece) (run : PartRun State Body Piece) → x.run ≡ None → HasBegun m Known w horizon drawn run
      → new.run ≡ Some run → new.queue ≡ x.queue
      → HasDrawn m Known w horizon drawn x new
  has_drawn new run none begun run_is same = record {
    was_idle = (idle_from none).0;
    run = run;
    run_is = run_is;
    part_is = begun.part_is;
    none = begun.none;
    running = begun.running new.queue (subst (λ (q : Queue Body). IsFresh q) (sym same) (idle_from none).0.fresh);
  }
