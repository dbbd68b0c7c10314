-- The run of a part.
use Rattle.std.specs.Prelude.{◌≡◌, ◌≢◌, ◌+◌, ◌^◌, ◌<◌, ◌≤◌, ◌++◌, ◌∷◌, ◌↔◌, ℕ, Bool, true, false, List, [], Option, None, Some, drop, length, map, reverse, slice_get, slice_index_or}
use Rattle.std.specs.List.{All, AllPairs, Contains}
use Rattle.des_event.specs.declared.event.Event.{Event}
use Rattle.des_event.specs.declared.key.Key.{Key}
use Rattle.des_event.specs.Keys.{is_before}
use Rattle.des_event.specs.KeyOrder.{InKeyOrder}
use Rattle.des_model.specs.Histories.{history, least, state}
use Rattle.des_model.specs.Laws.{MayOpen}
use Rattle.des_model.specs.PartRuns.{IsPartAt, part_run}
use Rattle.des_model.specs.Windows.{Division, part_of, IsSealedRun, made_since, pieces_since, waiting}
use Rattle.des_queue.specs.EventKey.{event_key}
use Rattle.des_queue.specs.Queue.{Queue}
use Rattle.des_parts.specs.declared.part_run.Done.{Done}
use Rattle.des_parts.specs.declared.part_run.PartRun.{PartRun}
use Rattle.des_parts.specs.declared.world.PartEvents.{PartEvents}
use Rattle.des_parts.specs.declared.world.World.{World}
use Rattle.des_parts.specs.Copies.{AreCopies, seen}
use Rattle.des_parts.specs.Worlds.{IsWorldOf}
use Rattle.des_parts.specs.declared.copies.Touched.{Touched}
use Rattle.des_model.specs.Machine.{Machine}
use Rattle.des_parts.specs.declared.entries.Entry.{Entry}
use Rattle.des_parts.specs.Entries.{entry_of, pieces_of}

module _ {State Body Piece : Type 0} where
  -- the state of a node as a part's run sees it
  abbrev pub seen_in : Machine State Body Piece → List State → PartRun State Body Piece → ℕ → State
  seen_in m states run i = seen (m.initial 0) states run.copies i

module _ {State Body Piece : Type 0} where
  -- the event may be handled: its target is a node of the part, and the machine may be asked about its state
  pub record IsReady (m : Machine State Body Piece) (Sound : ℕ → State → Type 0) (Fit : Event Body → Type 0) (Room : State → Type 0) (d : Division)
      (states : List State) (run : PartRun State Body Piece) (event : Event Body) : Type 0 where
    pub nodes_are : length states ≡ m.nodes
    pub copies : AreCopies d run.part states run.copies
    pub target : event.target < length states
    pub in_part : part_of d event.target ≡ run.part
    pub state_is_sound : Sound event.target (seen_in m states run event.target)
    pub room : Room (seen_in m states run event.target)
    pub event_is_sound : Fit event
    pub in_time : event.key.time < m.duration

module _ {State Body Piece : Type 0} where
  -- the event was handled, and these events were made
  pub record HasHandled (m : Machine State Body Piece) (Known : Piece → Type 0) (d : Division) (states : List State) (event : Event Body)
      (old new : PartRun State Body Piece)
      (made : List (Event Body)) : Type 0 where
    pub same_part : new.part ≡ old.part
    pub same_taken : new.taken ≡ old.taken
    pub same_mail : new.mail ≡ old.mail
    pub copies : AreCopies d new.part states new.copies
    pub changed : seen_in m states new event.target ≡ (m.effect (seen_in m states old event.target) event).state
    pub kept : (i : ℕ) → i < length states → i ≢ event.target → seen_in m states new i ≡ seen_in m states old i
    pub made_is : made ≡ (m.effect (seen_in m states old event.target) event).events
    pub entries_are : new.entries.items ≡ old.entries.items ++ entry_of (event, (m.effect (seen_in m states old event.target) event).piece) ∷ []
    pub known : Known (m.effect (seen_in m states old event.target) event).piece
    pub pushes : new.pushes ≡ old.pushes + length made
    pub few : new.pushes < 2 ^ 40

module _ {Body : Type 0} where
  -- whether the due event at this place comes before the first of the queue; a missing event comes last
  abbrev pub is_ahead : Option (Event Body) → Option (Event Body) → Bool
  is_ahead None first = false
  is_ahead (Some event) None = true
  is_ahead (Some event) (Some first) = is_before event.key first.key

  -- whether the next due event comes before all that were made
  abbrev pub comes_first : List (Event Body) → (taken : ℕ) → List (Event Body) → Bool
  comes_first due taken made = is_ahead (slice_get due taken) (slice_get made 0)

module _ {State Body Piece : Type 0} where
  -- a window up to the horizon may follow the world, and the due events are in the order of their keys
  pub record IsWindow (m : Machine State Body Piece) (w : World State Body) (horizon : ℕ) (due : List (Event Body)) : Type 0 where
    pub time : ℕ
    pub may_open : MayOpen m (history m w.count) time horizon
    pub ordered : InKeyOrder event_key due

module _ {Body : Type 0} where
  -- nothing waits in the queue, and nothing was pushed
  pub record IsFresh (q : Queue Body) : Type 0 where
    pub empty : q.events ≡ []
    pub unused : q.pushes ≡ 0

module _ {State Body Piece : Type 0} where
  -- the part's run has come so far, with what is left of the due events and in the queue
  pub record IsRunning (m : Machine State Body Piece) (Known : Piece → Type 0) (w : World State Body) (horizon : ℕ) (due : List (Event Body))
      (run : PartRun State Body Piece) (q : Queue Body) : Type 0 where
    pub at : IsPartAt m w.division (history m w.count) horizon run.part (length run.entries.items) (seen_in m w.states.items run)
        (drop run.taken due ++ q.events) run.mail.items (pieces_of run.entries.items)
    pub copies : AreCopies w.division run.part w.states.items run.copies
    pub entries_are : run.entries.items ≡ reverse (map entry_of
        (pieces_since m (history m w.count) (part_run m w.division (history m w.count) horizon run.part (length run.entries.items))))
    pub known : All (λ (x : Entry Piece). Known x.piece) run.entries.items
    pub within : w.count + length run.entries.items ≤ m.max_events
    pub pushes : q.pushes ≤ run.pushes

module _ {State Body : Type 0} where
  -- the world's next window ends here
  abbrev pub IsHorizon : World State Body → (horizon : ℕ) → Type 0
  IsHorizon w horizon = (time : ℕ) × (w.opening ≡ Some (record { time = time; horizon = horizon }))

module _ {State Body Piece : Type 0} where
  -- the world is one of the machine, and its next window ends at the horizon
  pub record IsNextWindow (m : Machine State Body Piece) (w : World State Body) (horizon : ℕ) : Type 0 where
    pub world : IsWorldOf m w
    pub next : IsHorizon w horizon

  -- the part's run has come so far in the world's next window
  abbrev pub IsRunningAt : Machine State Body Piece → (Known : Piece → Type 0) → World State Body → (horizon : ℕ) → PartRun State Body Piece
      → Queue Body → Type 0
  IsRunningAt m Known w horizon run q = (e : PartEvents Body) → IsRunning m Known w horizon (slice_index_or w.parts.items run.part e).due.items run q

  -- the run of this part in the world's next window has begun, and has run no event so far
  pub record HasBegun (m : Machine State Body Piece) (Known : Piece → Type 0) (w : World State Body) (horizon part : ℕ)
      (run : PartRun State Body Piece) : Type 0 where
    pub part_is : run.part ≡ part
    pub none : length run.entries.items ≡ 0
    pub running : (q : Queue Body) → IsFresh q → IsRunningAt m Known w horizon run q

  -- the event of this key is the next that the part runs
  pub record IsNextKey (m : Machine State Body Piece) (w : World State Body) (horizon : ℕ) (run : PartRun State Body Piece) (key : Key) : Type 0 where
    pub event : Event Body
    pub is_least : least (waiting m w.division (history m w.count) horizon run.part
        (part_run m w.division (history m w.count) horizon run.part (length run.entries.items))) ≡ Some event
    pub key_is : event.key ≡ key

  -- this is what the run has come to
  pub record HasLeft (run : PartRun State Body Piece) (done : Done State Body Piece) : Type 0 where
    pub part_is : done.part ≡ run.part
    pub nodes_are : done.nodes ≡ run.copies.states
    pub mail_is : done.mail ≡ run.mail
    pub entries_are : done.entries ≡ run.entries
    pub events_are : done.events ≡ length run.entries.items

module _ {State Body Piece : Type 0} where
  -- the events that the part ran
  abbrev pub ran_by : Machine State Body Piece → World State Body → (horizon : ℕ) → Done State Body Piece → List (Event Body)
  ran_by m w horizon done = part_run m w.division (history m w.count) horizon done.part done.events

  -- what the part's events make of the states of its nodes
  pub record HasTouched (m : Machine State Body Piece) (d : Division) (h ran : List (Event Body)) (part : ℕ) (nodes : List (Touched State)) : Type 0 where
    pub touched : All (λ (s : Touched State). (s.node < m.nodes) × (part_of d s.node ≡ part) × (s.state ≡ state m (ran ++ h) s.node)) nodes
    pub others : (i : ℕ) → i < m.nodes → part_of d i ≡ part → All (λ (s : Touched State). s.node ≢ i) nodes → state m (ran ++ h) i ≡ state m h i

  -- the part has run all its events below the horizon
  pub record IsDone (m : Machine State Body Piece) (Known : Piece → Type 0) (w : World State Body) (horizon part : ℕ)
      (done : Done State Body Piece) : Type 0 where
    pub part_is : done.part ≡ part
    pub sealed : IsSealedRun m w.division (history m w.count) horizon done.part (ran_by m w horizon done)
    pub long : length (ran_by m w horizon done) ≡ done.events
    pub within : w.count + done.events ≤ m.max_events
    pub nodes_are : HasTouched m w.division (history m w.count) (ran_by m w horizon done) done.part done.nodes.items
    pub mail_is : (x : Event Body) → Contains done.mail.items x ↔ (Contains
        (made_since m (history m w.count) (ran_by m w horizon done)) x × (horizon ≤ x.key.time))
    pub mail_apart : AllPairs (λ (a b : Event Body). a.key ≢ b.key) done.mail.items
    -- what the events leave, in the order of their keys
    pub entries_are : done.entries.items ≡ reverse (map entry_of (pieces_since m (history m w.count) (ran_by m w horizon done)))
    pub known : All (λ (x : Entry Piece). Known x.piece) done.entries.items
