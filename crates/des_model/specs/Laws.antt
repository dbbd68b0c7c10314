-- The laws: of histories, of windows, of whole runs. Each is the contract of a function of this crate.
use Rattle.std.specs.Prelude.{
  ℕ,
  ◌≡◌,
  ◌≢◌,
  ◌+◌,
  ◌*◌,
  ◌<◌,
  ◌≤◌,
  ◌==◌,
  nat_le,
  nat_lt,
  List,
  [],
  ◌∷◌,
  ◌++◌,
  map,
  reverse,
  length,
  None,
  Some,
  IsSome,
  IsTrue,
  Bool,
  false,
  true,
  ◌⊎◌,
  ◌↔◌,
}
use Rattle.std.specs.List.{All, AllPairs, Contains, filter}
use mathlib.Core.List.{IsPrefix}
use Rattle.des_event.specs.Keys.{IsBefore}
use Rattle.des_event.specs.declared.event.Event.{Event}
use Rattle.des_model.specs.Machine.{Machine}
use Rattle.des_model.specs.WellFormed.{IsWellFormedBy}
use Rattle.des_model.specs.Histories.{
  state,
  effect_after,
  all_events,
  pending,
  IsPossible,
  IsNext,
  IsLegal,
  next,
  history,
  IsOverLimit,
  full_history,
  history_below,
  audit_at,
  open_audits,
  output,
  trace,
}
use Rattle.des_model.specs.Windows.{
  Division,
  part_of,
  Divides,
  Step,
  restrict,
  opened,
  after_picks,
  IsClosed,
  ran_by,
  waiting,
  IsPartRun,
  IsSealedRun,
  events_run,
  left_by,
  made_since,
  pieces_since,
}
use Rattle.des_model.specs.Schedules.{Run, horizon_from, begun, Goes, all_sealed, lowest}

module _ {State Body Piece : Type 0} (m : Machine State Body Piece) where
  -- No two events that are ever made have the same key, in whatever order the events are taken.
  abbrev pub KeysAreDistinct : Type 0
  KeysAreDistinct = (h : List (Event Body)) → IsPossible m h → AllPairs (λ (a b : Event Body). a.key ≢ b.key) (all_events m h)

  -- The pending events are those that were made and not taken.
  abbrev pub PendingIsTheRest : Type 0
  PendingIsTheRest = (h : List (Event Body)) → IsPossible m h → (x : Event Body) → Contains (pending m h) x ↔ (Contains (all_events m h) x × (Contains h x → ⊥))

  -- `next` finds the event that may follow.
  abbrev pub NextIsFound : Type 0
  NextIsFound = (h : List (Event Body)) → IsPossible m h → (e : Event Body) → (next m h ≡ Some e) ↔ IsNext m h e

  -- After an event is taken, it is no longer pending, and the events that it made are.
  abbrev pub PendingMoves : Type 0
  PendingMoves =
      (h : List (Event Body)) (e : Event Body) → IsPossible m (e ∷ h) → (x : Event Body)
      → Contains (pending m (e ∷ h)) x ↔ ((Contains (pending m h) x × (x ≢ e)) ⊎ Contains (effect_after m h e).events x)

  -- A node that is no event's target keeps its state.
  abbrev pub OthersKeepTheirStates : Type 0
  OthersKeepTheirStates = (h ran : List (Event Body)) (n : ℕ) → All (λ (e : Event Body). e.target ≢ n) ran → state m (ran ++ h) n ≡ state m h n

  -- The states of all nodes after a history are sound, and the events at the start and all that were made along it fit.
  pub record Meets (Sound : ℕ → State → Type 0) (Fit : Event Body → Type 0) (h : List (Event Body)) : Type 0 where
    pub sound : (n : ℕ) → n < m.nodes → Sound n (state m h n)
    pub fit : All Fit (all_events m h)

  -- Along each possible history the states of all nodes pass the test `sound`, and the events at the start and all that
  -- are made pass the test `fit`.
  abbrev pub HistoriesMeet : (ℕ → State → Bool) → (Event Body → Bool) → Type 0
  HistoriesMeet sound fit = (h : List (Event Body)) → IsPossible m h → Meets (λ n s. IsTrue (sound n s)) (λ e. IsTrue (fit e)) h

  -- If no event adds more than `most` to a measure of its target's state, no node's has grown by more than `most` for
  -- each event.
  abbrev pub CountsAreBounded : (ℕ → State → Bool) → (Event Body → Bool) → Type 0
  CountsAreBounded sound fit =
      (measure : State → ℕ) (most : ℕ) → ((s : State) (e : Event Body) → IsTrue (sound e.target s) → IsTrue (fit e)
      → measure (m.effect s e).state ≤ measure s + most)
      → (h : List (Event Body)) → IsPossible m h → (n : ℕ) → n < m.nodes → measure (state m h n) ≤ measure (m.initial n) + most * length h

  -- A legal history is possible.
  abbrev pub LegalIsPossible : Type 0
  LegalIsPossible = (h : List (Event Body)) → IsLegal m h → IsPossible m h

  -- The events of a legal history are in the order of their keys.
  abbrev pub LegalIsAscending : Type 0
  LegalIsAscending = (h : List (Event Body)) → IsLegal m h → AllPairs (λ (a b : Event Body). IsBefore b.key a.key) h

  -- There is one run: each legal history is `history` of its length.
  abbrev pub LegalIsUnique : Type 0
  LegalIsUnique = (h : List (Event Body)) → IsLegal m h → h ≡ history m (length h)

  -- `history` is legal.
  abbrev pub HistoryIsLegal : Type 0
  HistoryIsLegal = (k : ℕ) → IsLegal m (history m k)

  -- `history` has as many events as requested, or none may follow.
  abbrev pub HistoryIsWhole : Type 0
  HistoryIsWhole = (k : ℕ) → (length (history m k) ≡ k) ⊎ ((e : Event Body) → IsNext m (history m k) e → ⊥)

  -- What was output is never taken back.
  abbrev pub TraceGrows : Type 0
  TraceGrows = (k : ℕ) → IsPrefix (trace m (history m k)) (trace m (history m (k + 1)))

  -- An audit whose time no event has reached sees the whole history.
  abbrev pub AuditsSeeAll : Type 0
  AuditsSeeAll = (h : List (Event Body)) (t : ℕ) → Contains (open_audits m h) t → audit_at m h t ≡ m.audit t (state m h)

  -- An event closes the audits up to its time: those that are later stay open.
  abbrev pub EventsCloseAudits : Type 0
  EventsCloseAudits = (h : List (Event Body)) (e : Event Body) → open_audits m (e ∷ h) ≡ filter (λ t. nat_lt e.key.time t) (open_audits m h)

  -- A window may follow h: `time` is the least time of a pending event, and the horizon is above it, by at most the
  -- lookahead.
  pub record MayOpen (h : List (Event Body)) (time horizon : ℕ) : Type 0 where
    pub legal : IsLegal m h
    pub reached : (e : Event Body) × Contains (pending m h) e × (e.key.time ≡ time)
    pub earliest : (x : Event Body) → Contains (pending m h) x → time ≤ x.key.time
    pub above : time < horizon
    pub ahead : horizon ≤ time + m.lookahead
    pub in_time : horizon ≤ m.duration

  -- What a part runs after a possible history is possible.
  abbrev pub PartRunsArePossible : Type 0
  PartRunsArePossible =
      (d : Division) (h : List (Event Body)) (horizon p : ℕ) (ran : List (Event Body)) → IsPossible m h → IsPartRun m d h horizon p ran
      → IsPossible m (ran ++ h)

  -- What one node makes in a window for another is due at the horizon or later. What it makes for itself stays in its part.
  abbrev pub OthersComeLater : Type 0
  OthersComeLater =
      (d : Division) (h : List (Event Body)) (time horizon : ℕ) → MayOpen h time horizon
      → (p : ℕ) (ran : List (Event Body)) → IsPartRun m d h horizon p ran → (x : Event Body) → Contains (made_since m h ran) x
      → (x.key.origin ≢ 2 + x.target → horizon ≤ x.key.time) × (x.key.origin ≡ 2 + x.target → part_of d x.target ≡ p)

  -- After a part has run an event, it no longer waits there, and of what it made the events for the part below the
  -- horizon do.
  abbrev pub WaitingMoves : Type 0
  WaitingMoves =
      (d : Division) (h : List (Event Body)) (horizon p : ℕ) (ran : List (Event Body)) (e : Event Body) → IsPossible m h
      → IsPartRun m d h horizon p (e ∷ ran) → (x : Event Body)
      → Contains (waiting m d h horizon p (e ∷ ran)) x
      ↔ ((Contains (waiting m d h horizon p ran) x × (x ≢ e))
      ⊎ (Contains (effect_after m (ran ++ h) e).events x × (part_of d x.target ≡ p) × (x.key.time < horizon)))

  -- The lists that the parts ran leave what one event at a time leaves. Some fields follow from others: engines cite
  -- each of them, so a shorter record would need lemmas that every engine imports.
  pub record Commutes (d : Division) (h : List (Event Body)) (horizon : ℕ) (ran : ℕ → List (Event Body)) : Type 0 where
    -- `taken` is what the one run takes from h up to the horizon
    pub taken : List (Event Body)
    pub legal : IsLegal m (taken ++ h)
    pub below : All (λ (x : Event Body). x.key.time < horizon) taken
    pub whole : All (λ (x : Event Body). horizon ≤ x.key.time) (pending m (taken ++ h))
    pub within_limit : length (history_below m horizon) ≤ m.max_events → history_below m horizon ≡ taken ++ h
    -- each part ran its events of it, and together they ran just these
    pub parts : (p : ℕ) → p < d.parts → ran p ≡ restrict d p taken
    pub left : left_by d h ran ≡ taken ++ h
    -- each node is where its part left it
    pub states : (n : ℕ) → n < m.nodes → state m (ran (part_of d n) ++ h) n ≡ state m (taken ++ h) n
    -- the parts add to the trace what the one run does
    pub pieces : (p : ℕ) → p < d.parts → pieces_since m h (ran p) ≡ filter (λ b. part_of d b.0.target == p) (pieces_since m h taken)
    -- an event is pending if it was pending before or a part made it, and it is due at the horizon or later
    pub mail : (x : Event Body)
        → Contains (pending m (taken ++ h)) x
        ↔ ((Contains (pending m h) x ⊎ ((p : ℕ) × (p < d.parts) × Contains (made_since m h (ran p)) x)) × (horizon ≤ x.key.time))
    -- in other words, if it waits at its part, or was made for it at another one
    pub waits : (x : Event Body) → x.target < m.nodes
        → Contains (pending m (taken ++ h)) x
        ↔ (Contains (pending m (ran (part_of d x.target) ++ h)) x ⊎ ((p : ℕ) × (p < d.parts) × (p ≢ part_of d x.target) × Contains (made_since m h (ran p)) x))

  -- Lists of parts that were each run independently, until no event waits there, leave what one event at a time leaves,
  -- whoever ran them.
  abbrev pub PartsCommute : Type 0
  PartsCommute =
      (d : Division) → Divides d m.nodes → (h : List (Event Body)) (time horizon : ℕ) → MayOpen h time horizon
      → (ran : ℕ → List (Event Body)) → ((p : ℕ) → p < d.parts → IsSealedRun m d h horizon p (ran p)) → Commutes d h horizon ran

  -- In whatever order the workers take steps, the list of each part is that of an independent run, and of one to its
  -- end if the part is sealed.
  abbrev pub StepsRunParts : Type 0
  StepsRunParts =
      (d : Division) (h : List (Event Body)) (horizon : ℕ) (picks : List ℕ) (p : ℕ)
      → let part = (after_picks m d (opened h horizon) picks).part p in
      IsPartRun m d h horizon p part.ran × (part.sealed ≡ true → IsSealedRun m d h horizon p part.ran)

  -- A closed window leaves what one event at a time leaves, in whatever order its workers took steps.
  abbrev pub WindowsCommute : Type 0
  WindowsCommute =
      (d : Division) → Divides d m.nodes → (h : List (Event Body)) (time horizon : ℕ) → MayOpen h time horizon
      → (picks : List ℕ) → IsClosed d (after_picks m d (opened h horizon) picks) → Commutes d h horizon (ran_by (after_picks m d (opened h horizon) picks))

  -- A window after the first k events leaves first events of the run again: as many more as its parts ran.
  abbrev pub WindowsLeaveHistories : Type 0
  WindowsLeaveHistories =
      (d : Division) → Divides d m.nodes → (k time horizon : ℕ) → MayOpen (history m k) time horizon
      → (ran : ℕ → List (Event Body)) → ((p : ℕ) → p < d.parts → IsSealedRun m d (history m k) horizon p (ran p))
      → left_by d (history m k) ran ≡ history m (k + events_run ran d.parts)

  -- If the parts together run too many events, done or not, the run has too many.
  abbrev pub LimitIsFound : Type 0
  LimitIsFound =
      (d : Division) → Divides d m.nodes → (h : List (Event Body)) (time horizon : ℕ) → MayOpen h time horizon
      → (ran : ℕ → List (Event Body)) → ((p : ℕ) → p < d.parts → IsPartRun m d h horizon p (ran p)) → m.max_events < length h + events_run ran d.parts
      → IsOverLimit m

  -- A window from the next event up to its horizon may open, and no audit lies inside it.
  abbrev pub HorizonsMayOpen : Type 0
  HorizonsMayOpen = (h : List (Event Body)) (e : Event Body) → IsLegal m h → next m h ≡ Some e
      → MayOpen h e.key.time (horizon_from m e.key.time) × All (λ t. (t ≤ e.key.time) ⊎ (horizon_from m e.key.time ≤ t)) m.audit_times

  -- In a window without an audit the pieces of its events follow each other, after the audits that are due.
  abbrev pub WindowsAddPieces : Type 0
  WindowsAddPieces =
      (h : List (Event Body)) (time horizon : ℕ) → MayOpen h time horizon → All (λ t. (t ≤ time) ⊎ (horizon ≤ t)) m.audit_times
      → (ran : List (Event Body)) → 0 < length ran → IsLegal m (ran ++ h) → All (λ (x : Event Body). x.key.time < horizon) ran
      → output m (ran ++ h) ≡ output m h ++ (map (audit_at m h) (filter (λ t. nat_le t time) (open_audits m h))
      ++ reverse (map (λ b. b.1) (pieces_since m h ran)))

  -- A window without an audit closes the audits up to its first time: those that are later stay open.
  abbrev pub WindowsCloseAudits : Type 0
  WindowsCloseAudits =
      (h : List (Event Body)) (time horizon : ℕ) → MayOpen h time horizon → All (λ t. (t ≤ time) ⊎ (horizon ≤ t)) m.audit_times
      → (ran : List (Event Body)) → 0 < length ran → IsLegal m (ran ++ h) → All (λ (x : Event Body). x.key.time < horizon) ran
      → open_audits m (ran ++ h) ≡ filter (λ t. nat_lt time t) (open_audits m h)

  -- The pieces of the parts, put in key order, are the pieces of the window.
  abbrev pub PiecesMerge : Type 0
  PiecesMerge =
      (d : Division) → Divides d m.nodes → (h : List (Event Body)) (horizon : ℕ) (ran : ℕ → List (Event Body)) (c : Commutes d h horizon ran)
      → (pieces : List (Event Body × Piece)) → AllPairs (λ (a b : Event Body × Piece). IsBefore a.0.key b.0.key) pieces
      → ((x : Event Body × Piece) → Contains pieces x ↔ ((p : ℕ) × (p < d.parts) × Contains (pieces_since m h (ran p)) x))
      → pieces ≡ reverse (pieces_since m h c.taken)

  -- h is the whole run.
  pub record IsWhole (h : List (Event Body)) : Type 0 where
    pub legal : IsLegal m h
    pub ended : next m h ≡ None
    pub within_limit : length h ≤ m.max_events → (h ≡ full_history m) × (IsOverLimit m → ⊥)
    pub over_limit : m.max_events < length h → IsOverLimit m

  -- A legal history after which no event may follow is the whole run.
  abbrev pub EndsAreWhole : Type 0
  EndsAreWhole = (h : List (Event Body)) → IsLegal m h → next m h ≡ None → IsWhole h

  -- A run by windows that comes to its end is the whole run, whatever the divisions, the number of workers and the schedule.
  abbrev pub SchedulesAgree : Type 0
  SchedulesAgree =
      (deals : ℕ → Division) → ((number : ℕ) → Divides (deals number) m.nodes)
      → (workers : ℕ) (picks : List ℕ) (taken : List (ℕ × Step Body)) (h : List (Event Body))
      → Goes m deals workers (begun m 0 []) picks taken h → IsWhole h

  -- One list of worker numbers has one run: its steps and its end.
  abbrev pub RunsAreUnique : Type 0
  RunsAreUnique =
      (deals : ℕ → Division) (workers : ℕ) (r : Run Body) (picks : List ℕ) (taken taken' : List (ℕ × Step Body)) (h h' : List (Event Body))
      → Goes m deals workers r picks taken h → Goes m deals workers r picks taken' h' → (taken ≡ taken') × (h ≡ h')

  -- Until a window is closed, some worker can take a step.
  abbrev pub WindowsProgress : Type 0
  WindowsProgress =
      (d : Division) (h : List (Event Body)) (horizon workers : ℕ) → 0 < workers → (picks : List ℕ) → All (λ i. i < workers) picks
      → all_sealed (after_picks m d (opened h horizon) picks) d.parts ≡ false → IsSome (lowest m d (after_picks m d (opened h horizon) picks) workers)

-- a law of every machine that is well formed
abbrev pub IsLaw : (State Body Piece : Type 0) → (Machine State Body Piece → Type 0) → Type 0
IsLaw State Body Piece law = (m : Machine State Body Piece) (sound : ℕ → State → Bool) (fit : Event Body → Bool) → IsWellFormedBy m sound fit → law m
