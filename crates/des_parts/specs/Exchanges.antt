-- What the parts of a window leave together.
use Rattle.std.specs.Prelude.{◌≡◌, ◌+◌, ◌<◌, ◌++◌, ℕ, suc, List, [], ◌∷◌, length, map, slice_set, ⊤, Vec, Some}
use Rattle.std.specs.Global.{Global}
use Rattle.std.specs.List.{AllByRecursion}
use Rattle.des_event.specs.declared.event.Event.{Event}
use Rattle.des_parts.specs.declared.part_run.Done.{Done}
use Rattle.des_parts.specs.declared.world.World.{World}
use Rattle.des_parts.specs.PartRuns.{IsDone}
use Rattle.des_model.specs.Machine.{Machine}
use Rattle.des_parts.specs.declared.copies.Touched.{Touched}
use Rattle.des_parts.specs.declared.entries.Entry.{Entry}

module _ {State : Type 0} where
  -- the states with these put in the places of their nodes, one after another
  abbrev pub with_states : List (Touched State) → List State → List State
  with_states [] states = states
  with_states (s ∷ nodes) states = with_states nodes (slice_set states s.node s.state)

module _ {State Body Piece : Type 0} where
  -- the states with those of all parts in their places
  abbrev pub with_all : List (Done State Body Piece) → List State → List State
  with_all [] states = states
  with_all (done ∷ dones) states = with_all dones (with_states done.nodes.items states)

  -- all events that were made for the horizon or later
  abbrev pub mails : List (Done State Body Piece) → List (Event Body)
  mails [] = []
  mails (done ∷ dones) = done.mail.items ++ mails dones

  -- how many events were run
  abbrev pub events_in : List (Done State Body Piece) → ℕ
  events_in [] = 0
  events_in (done ∷ dones) = done.events + events_in dones

  -- the entries of each part
  abbrev pub entry_lists : List (Done State Body Piece) → List (Vec (Entry Piece) Global)
  entry_lists dones = map (λ (done : Done State Body Piece). done.entries) dones

  -- the states are of nodes below this number
  abbrev pub NameNodes : ℕ → List (Done State Body Piece) → Type 0
  NameNodes nodes [] = ⊤
  NameNodes nodes (done ∷ dones) = AllByRecursion (λ (s : Touched State). s.node < nodes) done.nodes.items × NameNodes nodes dones

  -- the results of the parts, from this part on
  abbrev pub AreDoneFrom : Machine State Body Piece → (Known : Piece → Type 0) → World State Body → (horizon part : ℕ) → List (Done State Body Piece) → Type 0
  AreDoneFrom m Known w horizon part [] = ⊤
  AreDoneFrom m Known w horizon part (done ∷ dones) = IsDone m Known w horizon part done × AreDoneFrom m Known w horizon (suc part) dones

  -- the results of all parts, of this world's next window
  pub record AreDone (m : Machine State Body Piece) (Known : Piece → Type 0) (w : World State Body) (horizon : ℕ)
      (dones : List (Done State Body Piece)) : Type 0 where
    pub time : ℕ
    pub opening : w.opening ≡ Some (record { time = time; horizon = horizon })
    pub long : length dones ≡ w.division.parts
    pub each : AreDoneFrom m Known w horizon 0 dones
