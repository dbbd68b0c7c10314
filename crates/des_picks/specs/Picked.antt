-- Windows whose workers take their steps in turn.
use Rattle.std.specs.Prelude.{◌≡◌, ◌+◌, ◌-◌, ◌*◌, ◌<◌, ◌≤◌, ◌++◌, ◌&&◌, ◌||◌, ℕ, zero, suc, Bool, false, List, [], ◌∷◌, Option, None, Some, if◌then◌else◌, is_some, true, ◌⊎◌, length, map, nat_lt, slice_get, sum_by}
use Rattle.std.specs.List.{AllByRecursion}
use Rattle.std.specs.Option.{option_or}
use Rattle.des_event.specs.declared.event.Event.{Event}
use Rattle.des_model.specs.Histories.{history}
use Rattle.des_model.specs.PartRuns.{part_run}
use Rattle.des_model.specs.Schedules.{Goes, Run, begun, settled}
use Rattle.des_model.specs.Schedules.Run.{Within}
use Rattle.des_model.specs.Windows.{Division, Step, Window, after_step, next_step, opened}
use Rattle.des_model.specs.Windows.Step.{Drew, Ran, Sealed}
use Rattle.des_parts.specs.declared.part_run.Done.{Done}
use Rattle.des_parts.specs.declared.part_run.PartRun.{PartRun}
use Rattle.des_picks.specs.declared.picked_window.PickedWindow.{PickedWindow}
use Rattle.des_picks.specs.declared.step.Step.{Step as AStep}
use Rattle.des_picks.specs.declared.step.Step.TheVariants as answer
use Rattle.des_picks.specs.declared.step.Taken.{Taken}
use Rattle.des_picks.specs.declared.worker.Worker.{Worker}
use Rattle.des_parts.specs.declared.world.World.{World}
use Rattle.des_parts.specs.PartRuns.{IsDone, ran_by}
use Rattle.des_picks.specs.Workers.{IsBusy, IsIdle}
use Rattle.des_model.specs.Machine.{Machine}

module _ {Body : Type 0} where
  -- a step as it is returned: an event is named by its key
  abbrev pub shown_step : Step Body → AStep
  shown_step (Drew p) = answer.Drew p
  shown_step (Ran p e) = answer.Ran e.key
  shown_step (Sealed p) = answer.Sealed p

  -- a step with its worker
  abbrev pub shown : ℕ × Step Body → Taken
  shown s = record { worker = s.0; step = shown_step s.1 }

module _ {State Body Piece : Type 0} where
  -- there is such a worker, and it has a part
  abbrev pub has_part : Option (Worker State Body Piece) → Bool
  has_part None = false
  has_part (Some x) = is_some x.run

  -- of these workers and places for results: the worker can take a step, since it has a part, or not all parts were
  -- drawn
  abbrev pub can_go_with : (drawn : ℕ) → List (Worker State Body Piece) → List (Option (Done State Body Piece)) → ℕ → Bool
  can_go_with drawn workers dones i = has_part (slice_get workers i) || nat_lt drawn (length dones)

  -- the worker can take a step in the window: it has a part, or not all parts were drawn
  abbrev pub can_go : PickedWindow State Body Piece → ℕ → Bool
  can_go b = can_go_with b.drawn b.workers.items b.dones.items

-- the lowest of the first n workers that can take a step, by this test
abbrev pub lowest_by : (ℕ → Bool) → ℕ → Option ℕ
lowest_by can zero = None
lowest_by can (suc n) = option_or (lowest_by can n) (if can n then Some n else None)

-- whose turn it is, and what is left of the picks
abbrev pub turn_by : (ℕ → Bool) → (workers : ℕ) → List ℕ → Option ℕ × List ℕ
turn_by can n [] = (lowest_by can n, [])
turn_by can n (i ∷ picks) = if nat_lt i n && can i then (Some i, picks) else turn_by can n picks

module _ {State Body Piece : Type 0} where
  -- nothing was drawn, and nothing is left by any part
  pub record IsOpened (parts : ℕ) (old new : PickedWindow State Body Piece) : Type 0 where
    pub drawn_is : new.drawn ≡ 0
    pub slots : length new.dones.items ≡ parts
    pub empty : AllByRecursion (λ (slot : Option (Done State Body Piece)). slot ≡ None) new.dones.items
    pub same_workers : new.workers ≡ old.workers

  module _ (m : Machine State Body Piece) (Known : Piece → Type 0) (world : World State Body) (horizon : ℕ) where
    -- the worker has the part that it has in the window, and has run as much of it
    abbrev pub IsHeldBy : (drawn : ℕ) → Window Body → ℕ → Worker State Body Piece → Option (PartRun State Body Piece) → Type 0
    IsHeldBy drawn w i x None = IsIdle x × (w.held i ≡ None)
    IsHeldBy drawn w i x (Some run) = IsBusy m Known world horizon drawn x run × (w.held i ≡ Some run.part)
        × (w.part run.part ≡ record {
          ran = part_run m world.division (history m world.count) horizon run.part (length run.entries.items);
          sealed = false;
        })

    -- the part left what it left in the window, or is not done there
    abbrev pub IsPartOf : (drawn : ℕ) → Window Body → ℕ → Option (Done State Body Piece) → Type 0
    IsPartOf drawn w p None = ((w.part p).sealed ≡ false) × (drawn ≤ p → w.part p ≡ record { ran = []; sealed = false })
    IsPartOf drawn w p (Some done) = IsDone m Known world horizon p done × (p < drawn)
        × (w.part p ≡ record { ran = ran_by m world horizon done; sealed = true })

    -- these workers and places for results, with this many parts drawn, make this window of the window machine
    pub record IsPickedWith (drawn : ℕ) (workers : List (Worker State Body Piece)) (dones : List (Option (Done State Body Piece)))
        (w : Window Body) : Type 0 where
      pub history_is : w.history ≡ history m world.count
      pub horizon_is : w.horizon ≡ horizon
      pub drawn_is : w.drawn ≡ drawn
      pub few : drawn ≤ world.division.parts
      pub slots : length dones ≡ world.division.parts
      pub workers_are : (i : ℕ) (x : Worker State Body Piece) → slice_get workers i ≡ Some x → IsHeldBy drawn w i x x.run
      pub apart : (i j : ℕ) (x y : Worker State Body Piece) (r s : PartRun State Body Piece) → slice_get workers i ≡ Some x
          → slice_get workers j ≡ Some y → x.run ≡ Some r
          → y.run ≡ Some s → r.part ≡ s.part → i ≡ j
      pub parts_are : (p : ℕ) (o : Option (Done State Body Piece)) → slice_get dones p ≡ Some o → IsPartOf drawn w p o
      -- a part that was drawn is done, or some worker has it
      pub held : (p : ℕ) → p < w.drawn → ((w.part p).sealed ≡ true) ⊎ ((i : ℕ) × (i < length workers) × (w.held i ≡ Some p))

    -- the window, whose workers take turns, is this window of the window machine
    abbrev pub IsPicked : PickedWindow State Body Piece → Window Body → Type 0
    IsPicked b = IsPickedWith b.drawn b.workers.items b.dones.items

    -- the worker took this step of the window machine
    pub record HasTurned (worker : ℕ) (w : Window Body) (new : PickedWindow State Body Piece) (answered : AStep) : Type 0 where
      pub step : Step Body
      pub shown_is : shown_step step ≡ answered
      pub next_is : next_step m world.division w (w.held worker) ≡ Some step
      pub picked : IsPicked new (after_step w worker step)

  module _ (m : Machine State Body Piece) (world : World State Body) (horizon : ℕ) where
    -- a bound on the steps that are left to a worker for the run of a part; 0 if it has no part
    abbrev pub weight_of : Option (PartRun State Body Piece) → ℕ
    weight_of None = 0
    weight_of (Some run) = m.max_events - (world.count + length run.entries.items) + 1

    -- a bound on the steps that are left to a worker for the part that it has
    abbrev pub weight : Worker State Body Piece → ℕ
    weight x = weight_of x.run

    -- a bound on the steps that are left to these workers, with those for the parts that are not drawn yet
    abbrev pub potential_with : (drawn : ℕ) → List (Worker State Body Piece) → (parts : ℕ) → ℕ
    potential_with drawn workers parts = (parts - drawn) * (m.max_events - world.count + 2) + sum_by weight workers

    -- a bound on the steps that are left in a window
    abbrev pub potential : PickedWindow State Body Piece → ℕ
    potential b = potential_with b.drawn b.workers.items (length b.dones.items)

  -- the picks lead from the one window to the other, by these steps
  abbrev pub Leads : Machine State Body Piece → Division → (workers : ℕ) → Window Body → (picks : List ℕ) → List (ℕ × Step Body) → (ℕ → Run Body)
      → (rest : List ℕ) → Type 0
  Leads m d workers from picks steps to rest =
      (number : ℕ) (more : List (ℕ × Step Body)) (h : List (Event Body)) → Goes m (λ _. d) workers (to number) rest more h
      → Goes m (λ _. d) workers (Within number from) picks (steps ++ more) h

  -- from the window's first step on turns were taken until no worker could go
  pub record HasTakenTurns (m : Machine State Body Piece) (Known : Piece → Type 0) (world : World State Body) (horizon : ℕ)
      (old new : PickedWindow State Body Piece) (picks rest : List ℕ) (before after : List Taken) : Type 0 where
    pub window : Window Body
    pub picked : IsPicked m Known world horizon new window
    pub ended : lowest_by (can_go new) (length new.workers.items) ≡ None
    pub same_workers : length new.workers.items ≡ length old.workers.items
    pub steps : List (ℕ × Step Body)
    pub told : after ≡ before ++ map shown steps
    pub leads : Leads m world.division (length old.workers.items) (opened (history m world.count) horizon) picks steps
        (λ number. settled m (λ _. world.division) number window) rest

  -- a window of the window machine was run, from the first step to the last
  pub record HasStepped (m : Machine State Body Piece) (d : Division) (workers count horizon : ℕ) (picks rest : List ℕ) (before after : List Taken)
      (events : ℕ) : Type 0 where
    pub steps : List (ℕ × Step Body)
    pub told : after ≡ before ++ map shown steps
    pub leads : Leads m d workers (opened (history m count) horizon) picks steps
        (λ number. begun m (number + 1) (history m (count + events))) rest
