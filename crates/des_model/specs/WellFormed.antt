-- What the laws require of a machine.
use Rattle.std.specs.Prelude.{ℕ, ◌≡◌, ◌≢◌, ◌+◌, ◌<◌, ◌≤◌, Bool, IsTrue}
use Rattle.std.specs.List.{All, AllPairs}
use Rattle.des_event.specs.declared.event.Event.{Event}
use Rattle.des_model.specs.Machine.{Machine}

-- `Sound n` holds of each state of node n, and `Fit` of each event. Node n makes events of origin 2 + n, and their
-- numbers ascend.
pub record IsWellFormed {State Body Piece : Type 0} (m : Machine State Body Piece) (Sound : ℕ → State → Type 0) (Fit : Event Body → Type 0) : Type 0 where
  pub looks_ahead : 0 < m.lookahead
  pub starts_sound : (n : ℕ) → n < m.nodes → Sound n (m.initial n)
  pub starts_fit : All Fit m.start_events
  pub in_range : (e : Event Body) → Fit e → e.target < m.nodes
  -- no two events at the start have one key, and the nodes have counted theirs
  pub starts_apart : AllPairs (λ (a b : Event Body). a.key ≢ b.key) m.start_events
  pub starts_counted : (n : ℕ) → All (λ (x : Event Body). x.key.origin ≡ 2 + n → x.key.number ≤ m.events_made (m.initial n)) m.start_events
  -- an event leaves a sound state, and makes fit events
  pub keeps_sound : (s : State) (e : Event Body) → Sound e.target s → Fit e → Sound e.target (m.effect s e).state
  pub makes_fit : (s : State) (e : Event Body) → Sound e.target s → Fit e → All Fit (m.effect s e).events
  -- they are for a later time, and for another node at least the lookahead later
  pub later : (s : State) (e : Event Body) → Sound e.target s → Fit e → All (λ (x : Event Body). e.key.time < x.key.time) (m.effect s e).events
  pub ahead : (s : State) (e : Event Body) → Sound e.target s → Fit e
      → All (λ (x : Event Body). x.target ≢ e.target → e.key.time + m.lookahead ≤ x.key.time) (m.effect s e).events
  -- they have the origin of their node, and numbers that it has not used yet
  pub origin : (s : State) (e : Event Body) → Sound e.target s → Fit e → All (λ (x : Event Body). x.key.origin ≡ 2 + e.target) (m.effect s e).events
  pub apart : (s : State) (e : Event Body) → Sound e.target s → Fit e → AllPairs (λ (a b : Event Body). a.key ≢ b.key) (m.effect s e).events
  pub unused : (s : State) (e : Event Body) → Sound e.target s → Fit e → All (λ (x : Event Body). m.events_made s < x.key.number) (m.effect s e).events
  pub counted : (s : State) (e : Event Body) → Sound e.target s → Fit e
      → All (λ (x : Event Body). x.key.number ≤ m.events_made (m.effect s e).state) (m.effect s e).events
  pub counts_up : (s : State) (e : Event Body) → Sound e.target s → Fit e → m.events_made s ≤ m.events_made (m.effect s e).state

-- the machine is well formed, if soundness and fitness are these tests
abbrev pub IsWellFormedBy : {State Body Piece : Type 0} → Machine State Body Piece → (ℕ → State → Bool) → (Event Body → Bool) → Type 0
IsWellFormedBy m sound fit = IsWellFormed m (λ n s. IsTrue (sound n s)) (λ e. IsTrue (fit e))
