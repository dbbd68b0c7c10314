-- A small machine: two nodes pass a number to each other until it is 0, and each sends itself an event in between.
use Rattle.std.specs.Prelude.{ℕ, zero, suc, ◌+◌, ◌-◌, ◌≡◌, List, [], ◌∷◌, Bool, true, nat_lt}
use Rattle.des_event.specs.declared.event.Event.{Event}
use Rattle.des_model.specs.Machine.{Machine}
use Rattle.des_model.specs.Histories.{full_history, trace}

-- an event of the relay, by the three numbers of its key, its target and the number that it carries
abbrev pub message : ℕ → ℕ → ℕ → ℕ → ℕ → Event ℕ
message time origin number target body = record { key = record { time = time; origin = origin; number = number }; target = target; body = body }

-- the events that a node makes when it gets one, given how many it has made before and the number that it gets: one
-- less goes to the other node 10 microseconds later, and a 0 to the node itself 1 microsecond later; a 0 makes no event
abbrev pub relayed : ℕ → Event ℕ → ℕ → List (Event ℕ)
relayed count e zero = []
relayed count e (suc left) =
    message (e.key.time + 10) (2 + e.target) (count + 1) (1 - e.target) left ∷ message (e.key.time + 1) (2 + e.target) (count + 2) e.target 0 ∷ []

-- the state of a node is how many events it made, and a piece is the time of an event, or 1000 more than that of an audit
abbrev pub relay : Machine ℕ ℕ ℕ
relay = record {
  nodes = 2;
  initial = λ n. 0;
  start_events = message 0 1 1 0 3 ∷ [];
  effect = λ s e. record { state = s + 2; events = relayed s e e.body; piece = e.key.time };
  events_made = λ s. s;
  lookahead = 10;
  duration = 100;
  max_events = 7;
  audit_times = 50 ∷ 100 ∷ [];
  audit = λ t states. 1000 + t;
}

-- each state of a node is sound
abbrev pub any_state : ℕ → ℕ → Bool
any_state n s = true

-- the target is one of the two nodes
abbrev pub has_node : Event ℕ → Bool
has_node e = nat_lt e.target 2

-- the trace of the whole run: the times of its seven events in microseconds, and 1050 and 1100 for its two audits
abbrev pub RelayTrace : Type 0
RelayTrace = trace relay (full_history relay) ≡ 0 ∷ 1 ∷ 10 ∷ 11 ∷ 20 ∷ 21 ∷ 30 ∷ 1050 ∷ 1100 ∷ []
