-- What a machine has to meet so that engines can run it.
use Rattle.std.specs.Prelude.{ℕ, ◌≡◌, ◌+◌, ◌<◌, ◌≤◌, ◌^◌, List, length, slice_index_or}
use Rattle.std.specs.List.{All}
use Rattle.des_event.specs.declared.event.Event.{Event}
use Rattle.des_machine.specs.Times.{IsAscending}
use Rattle.des_model.specs.Histories.{IsPossible, state}
use Rattle.des_model.specs.Machine.{Machine}
use Rattle.des_model.specs.WellFormed.{IsWellFormed}

module _ {State Body Piece : Type 0} (m : Machine State Body Piece) where
  -- the function gives the states of the list, by node
  abbrev pub AreStates : List State → (ℕ → State) → Type 0
  AreStates states account = (n : ℕ) → n < m.nodes → slice_index_or states n (account n) ≡ account n

  -- there is a state of each node, and it is sound
  pub record AreSound (Sound : ℕ → State → Type 0) (states : List State) : Type 0 where
    pub long : length states ≡ m.nodes
    pub each : (n : ℕ) (d : State) → n < m.nodes → Sound n (slice_index_or states n d)

  -- `Sound`, `Fit` and `Room` are those of `IsWellFormed` and of the trait `Machine`
  pub record IsSimulable (Sound : ℕ → State → Type 0) (Fit : Event Body → Type 0) (Room : State → Type 0) : Type 0 where
    pub well_formed : IsWellFormed m Sound Fit
    -- within the event limit each state has room for one event more, in whatever order the events are taken
    pub room_is_left : (h : List (Event Body)) → IsPossible m h → length h ≤ m.max_events → (n : ℕ) → n < m.nodes → Room (state m h n)
    -- all events and audits can be counted
    pub few : m.max_events + length m.audit_times ≤ 2 ^ 40
    -- the audits come one after another, none twice, and none after the end
    pub ascending : IsAscending m.audit_times
    pub in_time : All (λ t. t ≤ m.duration) m.audit_times
