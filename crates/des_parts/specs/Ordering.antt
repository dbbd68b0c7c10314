-- What the parts of a window leave, in the order of the parts.
use Rattle.std.specs.Prelude.{◌≡◌, ◌⊎◌, ◌<◌, ◌==◌, ℕ, suc, List, [], ◌∷◌, Option, None, Some, All, length, map, count_by, ⊤, Vec}
use Rattle.std.specs.Global.{Global}
use Rattle.std.specs.List.{AllByRecursion, Contains}
use Rattle.des_parts.specs.declared.part_run.Done.{Done}
use Rattle.des_parts.specs.declared.world.World.{World}
use Rattle.des_parts.specs.Exchanges.{entry_lists}
use Rattle.des_parts.specs.PartRuns.{IsDone}
use Rattle.des_model.specs.Machine.{Machine}
use Rattle.des_parts.specs.declared.entries.Entry.{Entry}

-- how often a list has a number
abbrev pub count_of : ℕ → List ℕ → ℕ
count_of x numbers = count_by (λ y. y == x) numbers

-- the list has each number below `parts` once, and no other
pub record HasEachOnce (parts : ℕ) (numbers : List ℕ) : Type 0 where
  pub each_once : (x : ℕ) → x < parts → count_of x numbers ≡ 1
  pub no_other : All (λ x. x < parts) numbers

module _ {State Body Piece : Type 0} where
  -- the parts of results, in their order
  abbrev pub parts_of : List (Done State Body Piece) → List ℕ
  parts_of dones = map (λ (done : Done State Body Piece). done.part) dones

  -- the result is what its part leaves, in the world's window up to the horizon
  abbrev pub IsResult : Machine State Body Piece → (Known : Piece → Type 0) → World State Body → (horizon : ℕ) → Done State Body Piece → Type 0
  IsResult m Known w horizon done = IsDone m Known w horizon done.part done

  -- one result of each part, in any order, of this world's next window, which ends at the horizon
  pub record ArePartsDone (m : Machine State Body Piece) (Known : Piece → Type 0) (w : World State Body) (horizon : ℕ)
      (dones : List (Done State Body Piece)) : Type 0 where
    pub time : ℕ
    pub opening : w.opening ≡ Some (record { time = time; horizon = horizon })
    pub once : HasEachOnce w.division.parts (parts_of dones)
    pub each : All (IsResult m Known w horizon) dones

  -- what the part leaves is at its place
  abbrev pub IsFilled : List (Done State Body Piece) → (part : ℕ) → Option (Done State Body Piece) → Type 0
  IsFilled dones part None = ⊥
  IsFilled dones part (Some done) = (done.part ≡ part) × Contains dones done

  -- what the part leaves is among those that are still to come
  abbrev pub IsToCome : (part : ℕ) → List (Done State Body Piece) → Type 0
  IsToCome part [] = ⊥
  IsToCome part (done ∷ dones) = (done.part ≡ part) ⊎ IsToCome part dones

  -- the results that are still to come are among these, and of parts below the number
  abbrev pub AreOf : List (Done State Body Piece) → (parts : ℕ) → List (Done State Body Piece) → Type 0
  AreOf dones parts rest = AllByRecursion (λ (done : Done State Body Piece). (done.part < parts) × Contains dones done) rest

  -- one of these for each part, from this one on
  abbrev pub AreInOrderFrom : List (Done State Body Piece) → (part : ℕ) → List (Done State Body Piece) → Type 0
  AreInOrderFrom dones part [] = ⊤
  AreInOrderFrom dones part (done ∷ list) = ((done.part ≡ part) × Contains dones done) × AreInOrderFrom dones (suc part) list

  -- one of these for each part, in the order of the parts
  pub record AreInOrder (dones : List (Done State Body Piece)) (parts : ℕ) (list : List (Done State Body Piece)) : Type 0 where
    pub long : length list ≡ parts
    pub each : AreInOrderFrom dones 0 list

  -- the entries of each result, in the order of the parts
  pub record AreEntriesInOrder (dones : List (Done State Body Piece)) (parts : ℕ) (entries : List (Vec (Entry Piece) Global)) : Type 0 where
    pub list : List (Done State Body Piece)
    pub order : AreInOrder dones parts list
    pub are : entries ≡ entry_lists list
