-- What a judge holds of the lines that it was told. Lists of lines have the newest line first.
use Rattle.std.specs.Prelude.{◌≡◌, ℕ, ◌<◌, Bool, cond, List, [], ◌∷◌, ◌++◌, count_by}
use Rattle.std.specs.List.{All}
use Rattle.chord_judge.specs.Judged.{is_begin, open_after}
use Rattle.chord_judge.specs.Members.{is_change, is_member_after, makes_member}
use Rattle.chord_judge.specs.Open.{Holds}
use Rattle.chord_judge.specs.Places.{is_marked}
use Rattle.chord_judge.specs.declared.judge.Judge.{Judge}
use Rattle.chord_judge.specs.declared.members.Change.{Change}
use Rattle.chord_judge.specs.declared.members.Members.{Members}
use Rattle.chord_judge.specs.declared.told.Told.{Told}
use Rattle.chord_scenario.specs.Setup.{Setup}
use Rattle.chord_scenario.specs.World.{node_count}

-- the members by their marks
abbrev pub holds : Members → ℕ → Bool
holds members = is_marked members.marks.items

-- the marks are those of the nodes of which `member` holds
abbrev pub HoldMembers : Setup → (member : ℕ → Bool) → Members → Type 0
HoldMembers sc member members = (n : ℕ) → n < node_count sc → holds members n ≡ member n

-- the changes of members by these lines, the oldest first
abbrev pub changes_after : Setup → List Told → List Change
changes_after sc [] = []
changes_after sc (told ∷ before) =
    let earlier = changes_after sc before in
    cond (is_change told.line)
    (earlier
    ++ record { time = told.time; node = told.node; was = is_member_after sc before told.node; is = makes_member told.line } ∷ [])
    earlier

-- the scenario of a judge
abbrev pub setup_of : Judge → Setup
setup_of judge = judge.members.scenario.now

-- the judge holds what it needs of these lines
pub record HasRead (sc : Setup) (lines : List Told) (judge : Judge) : Type 0 where
  pub members : HoldMembers sc (is_member_after sc lines) judge.members
  pub changes : judge.changes.items ≡ changes_after sc lines
  pub lookups : Holds (open_after lines) judge.lookups
  pub askers : All (λ lookup. lookup.asker < node_count sc) (open_after lines)
  pub begun : judge.begun ≡ count_by is_begin lines
