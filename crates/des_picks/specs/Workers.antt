-- The steps of a worker.
use Rattle.std.specs.Prelude.{◌≡◌, ◌+◌, ◌<◌, ◌≤◌, ℕ, Option, None, Some, length}
use Rattle.des_parts.specs.declared.part_run.PartRun.{PartRun}
use Rattle.des_picks.specs.declared.worker.Progress.{Progress}
use Rattle.des_picks.specs.declared.worker.Progress.TheVariants as progress
use Rattle.des_picks.specs.declared.worker.Worker.{Worker}
use Rattle.des_parts.specs.declared.world.World.{World}
use Rattle.des_parts.specs.PartRuns.{IsDone, IsFresh, IsNextKey, IsRunningAt}
use Rattle.des_model.specs.Machine.{Machine}

module _ {State Body Piece : Type 0} where
  -- the worker has no part
  pub record IsIdle (x : Worker State Body Piece) : Type 0 where
    pub none : x.run ≡ None
    pub fresh : IsFresh x.queue

  -- the worker has a part, of those that were drawn, and its run has come so far
  pub record IsBusy (m : Machine State Body Piece) (Known : Piece → Type 0) (w : World State Body) (horizon drawn : ℕ) (x : Worker State Body Piece)
      (run : PartRun State Body Piece) : Type 0 where
    pub run_is : x.run ≡ Some run
    pub part : run.part < drawn
    pub running : IsRunningAt m Known w horizon run x.queue

  -- a worker that has this part, or none, can take a step
  abbrev pub MayGoOnWith : Machine State Body Piece → (Known : Piece → Type 0) → World State Body → (horizon drawn : ℕ) → Worker State Body Piece
      → Option (PartRun State Body Piece) → Type 0
  MayGoOnWith m Known w horizon drawn x None = IsIdle x × (drawn < w.division.parts)
  MayGoOnWith m Known w horizon drawn x (Some run) = IsBusy m Known w horizon drawn x run × (drawn ≤ w.division.parts)

  -- the worker can take a step
  abbrev pub MayGoOn : Machine State Body Piece → (Known : Piece → Type 0) → World State Body → (horizon drawn : ℕ) → Worker State Body Piece → Type 0
  MayGoOn m Known w horizon drawn x = MayGoOnWith m Known w horizon drawn x x.run

  -- the worker began with the part
  pub record HasDrawn (m : Machine State Body Piece) (Known : Piece → Type 0) (w : World State Body) (horizon part : ℕ)
      (old new : Worker State Body Piece) : Type 0 where
    pub was_idle : IsIdle old
    pub run : PartRun State Body Piece
    pub run_is : new.run ≡ Some run
    pub part_is : run.part ≡ part
    pub none : length run.entries.items ≡ 0
    pub running : IsRunningAt m Known w horizon run new.queue

  -- the run went on by one event
  pub record HasRunOne (m : Machine State Body Piece) (Known : Piece → Type 0) (w : World State Body) (horizon : ℕ) (run : PartRun State Body Piece)
      (new : Worker State Body Piece) (next : PartRun State Body Piece) : Type 0 where
    pub run_is : new.run ≡ Some next
    pub part_is : next.part ≡ run.part
    pub more : length next.entries.items ≡ length run.entries.items + 1
    pub running : IsRunningAt m Known w horizon next new.queue

  -- the run went on, or ended
  abbrev pub HasGoneOn : Machine State Body Piece → (Known : Piece → Type 0) → World State Body → (horizon : ℕ) → PartRun State Body Piece
      → Worker State Body Piece → Progress State Body Piece → Type 0
  HasGoneOn m Known w horizon run new progress.Drew = ⊥
  HasGoneOn m Known w horizon run new (progress.Ran key) = IsNextKey m w horizon run key
      × ((next : PartRun State Body Piece) × HasRunOne m Known w horizon run new next)
  HasGoneOn m Known w horizon run new (progress.Sealed done) = IsDone m Known w horizon run.part done × (done.events ≡ length run.entries.items) × IsIdle new

  -- the worker has taken one step: it has drawn a part, run an event of its part, or come to the part's end
  abbrev pub HasProgressed : Machine State Body Piece → (Known : Piece → Type 0) → World State Body → (horizon drawn : ℕ)
      → (old new : Worker State Body Piece) → Progress State Body Piece → Type 0
  HasProgressed m Known w horizon drawn old new progress.Drew = HasDrawn m Known w horizon drawn old new
  HasProgressed m Known w horizon drawn old new (progress.Ran key) = (run : PartRun State Body Piece) × IsBusy m Known w horizon drawn old run
      × HasGoneOn m Known w horizon run new (progress.Ran key)
  HasProgressed m Known w horizon drawn old new (progress.Sealed done) = (run : PartRun State Body Piece) × IsBusy m Known w horizon drawn old run
      × HasGoneOn m Known w horizon run new (progress.Sealed done)
