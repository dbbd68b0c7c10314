-- What a protocol has to meet so that its machine can be run.
use Rattle.std.specs.Prelude.{ℕ, ◌≡◌, ◌≢◌, ◌+◌, ◌*◌, ◌<◌, ◌≤◌, ◌^◌, List, length, slice_index_or}
use Rattle.std.specs.List.{All}
use Rattle.des_machine.specs.Times.{IsAscending}
use Rattle.des_protocol.specs.declared.numbered.Counted.{Counted}
use Rattle.des_protocol.specs.declared.telling.Telling.{Telling}
use Rattle.des_protocol.specs.Protocols.{Protocol}

module _ {State Body Piece : Type 0} (p : Protocol State Body Piece) where
  -- the states at the start, by node
  pub record AreFirst (states : List State) : Type 0 where
    pub long : length states ≡ p.nodes
    pub each : (n : ℕ) (d : State) → n < p.nodes → slice_index_or states n d ≡ p.initial n

  -- the function gives the states of the list, by node
  abbrev pub AreAccounted : List (Counted State) → (ℕ → State) → Type 0
  AreAccounted states account = (n : ℕ) (d : Counted State) → n < p.nodes → (slice_index_or states n d).state ≡ account n

  -- there is a state of each node, and it is sound
  pub record AreSoundStates (Sound : ℕ → State → Type 0) (states : List (Counted State)) : Type 0 where
    pub long : length states ≡ p.nodes
    pub each : (n : ℕ) (d : Counted State) → n < p.nodes → Sound n (slice_index_or states n d).state

  -- the telling is for a node, and what it says is fit for that node
  abbrev pub IsFitTelling : (Fit : ℕ → Body → Type 0) → Telling Body → Type 0
  IsFitTelling Fit t = (t.target < p.nodes) × Fit t.target t.body

  -- the telling arrives later than it is made, and at another node at least the lookahead later
  pub record IsDelayed (node : ℕ) (t : Telling Body) : Type 0 where
    pub later : 0 < t.delay
    pub ahead : t.target ≢ node → p.lookahead ≤ t.delay

  -- `Sound n` holds of each state of node n, and `Fit n` of all that node n is told; `most` is the most that a node tells
  -- at once
  pub record IsRunnable (Sound : ℕ → State → Type 0) (Fit : ℕ → Body → Type 0) (most : ℕ) : Type 0 where
    pub looks_ahead : 0 < p.lookahead
    pub starts_sound : (n : ℕ) → n < p.nodes → Sound n (p.initial n)
    pub starts_fit : All (IsFitTelling Fit) p.start
    -- a node that is told something is in a sound state after it, and tells what is fit, later
    pub keeps_sound : (n time : ℕ) (s : State) (b : Body) → n < p.nodes → Sound n s → Fit n b → Sound n (p.outcome s n time b).state
    pub tells_fit : (n time : ℕ) (s : State) (b : Body) → n < p.nodes → Sound n s → Fit n b → All (IsFitTelling Fit) (p.outcome s n time b).tellings
    pub tells_later : (n time : ℕ) (s : State) (b : Body) → n < p.nodes → Sound n s → Fit n b → All (IsDelayed n) (p.outcome s n time b).tellings
    pub tells_few : (n time : ℕ) (s : State) (b : Body) → n < p.nodes → Sound n s → Fit n b → length (p.outcome s n time b).tellings ≤ most
    -- all nodes, tellings, events and audits can be counted
    pub few_nodes : p.nodes + 2 ≤ 2 ^ 32
    pub few_told : most * p.max_events + most < 2 ^ 64
    pub few : p.max_events + length p.audit_times ≤ 2 ^ 40
    -- the audits come one after another, none twice, and none after the end
    pub ascending : IsAscending p.audit_times
    pub in_time : All (λ t. t ≤ p.duration) p.audit_times
