-- What the parts of a window leave, in the order of the parts.
use Rattle.std.specs.Prelude.{◌≡◌, ◌+◌, ℕ, List, [], ◌∷◌, Some, All, map, ⊤, Vec}
use Rattle.std.specs.Global.{Global}
use Rattle.chord_event.specs.declared.block.Block.{Block}
use Rattle.chord_scenario.specs.declared.scenario.Scenario.{Scenario}
use Rattle.chord_trace.specs.declared.piece.Piece.{Piece}
use Rattle.chord_window.specs.declared.part_done.Done.{Done}
use Rattle.chord_window.specs.declared.world.World.{World}
use Rattle.chord_window.specs.Dones.{AreSame, RingDone, entry_of}
use Rattle.chord_window.specs.PartRuns.{IsDone}
use Rattle.des_parts.specs.declared.entries.Entry.{Entry}
use Rattle.des_parts.specs.Ordering.{AreEntriesInOrder, HasEachOnce}

-- the parts of results, in their order
abbrev pub parts_of : List Done → List ℕ
parts_of dones = map (λ (done : Done). done.part) dones

-- how many events were run
abbrev pub events_in : List Done → ℕ
events_in [] = 0
events_in (done ∷ dones) = done.events + events_in dones

-- the result is what its part leaves, in the world's window up to the horizon
abbrev pub IsResult : Scenario → World → (horizon : ℕ) → Done → Type 0
IsResult sc w horizon done = IsDone sc w horizon done.part done

-- one result of each part, in any order, of this world's next window, which ends at the horizon
pub record ArePartsDone (sc : Scenario) (w : World) (horizon : ℕ) (dones : List Done) : Type 0 where
  pub time : ℕ
  pub opening : w.kernel.opening ≡ Some (record { time = time; horizon = horizon })
  pub once : HasEachOnce w.kernel.division.parts (parts_of dones)
  pub each : All (IsResult sc w horizon) dones

-- lists of blocks, and the same blocks as the kernel keeps them
abbrev pub AreEntriesOf : List (Vec Block Global) → List (Vec (Entry Piece) Global) → Type 0
AreEntriesOf [] [] = ⊤
AreEntriesOf [] (entries ∷ lists) = ⊥
AreEntriesOf (blocks ∷ lists) [] = ⊥
AreEntriesOf (blocks ∷ lists) (entries ∷ others) = (entries.items ≡ map entry_of blocks.items) × AreEntriesOf lists others

-- the blocks of each result, in the order of the parts
pub record AreBlocksInOrder (dones : List Done) (parts : ℕ) (blocks : List (Vec Block Global)) : Type 0 where
  pub kernels : List RingDone
  pub same : AreSame dones kernels
  pub entries : List (Vec (Entry Piece) Global)
  pub order : AreEntriesInOrder kernels parts entries
  pub are : AreEntriesOf blocks entries
