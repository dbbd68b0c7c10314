-- A protocol as a machine: each telling is an event, whose key tells who made it and as which of its events.
use Rattle.std.specs.Prelude.{ℕ, ◌+◌, List, [], ◌∷◌, length}
use Rattle.des_event.specs.declared.event.Event.{Event}
use Rattle.des_model.specs.Machine.{Machine}
use Rattle.des_protocol.specs.declared.numbered.Counted.{Counted}
use Rattle.des_protocol.specs.declared.telling.Telling.{Telling}
use Rattle.des_protocol.specs.Protocols.{Protocol}

-- the event of a telling that is made at a time, by an origin, as the event of a number
abbrev pub event_of : {Body : Type 0} → (time origin number : ℕ) → Telling Body → Event Body
event_of time origin number t = record {
  key = record { time = time + t.delay; origin = origin; number = number };
  target = t.target;
  body = t.body;
}

-- the events of tellings, numbered upwards after those that the origin has made before
abbrev pub events_of : {Body : Type 0} → (time origin made : ℕ) → List (Telling Body) → List (Event Body)
events_of time origin made [] = []
events_of time origin made (t ∷ ts) = event_of time origin (made + 1) t ∷ events_of time origin (made + 1) ts

-- the state of a node that has made nothing
abbrev pub uncounted : {State : Type 0} → State → Counted State
uncounted s = record { state = s; made = 0 }

-- The machine of a protocol. A node's state has the number of events that the node has made. The start is told at time 0,
-- by origin 1.
abbrev pub numbered : {State Body Piece : Type 0} → Protocol State Body Piece → Machine (Counted State) Body Piece
numbered p = record {
  nodes = p.nodes;
  initial = λ n. uncounted (p.initial n);
  start_events = events_of 0 1 0 p.start;
  effect = λ s e. record {
    state = record { state = (p.outcome s.state e.target e.key.time e.body).state; made = s.made + length (p.outcome s.state e.target e.key.time e.body).tellings };
    events = events_of e.key.time (2 + e.target) s.made (p.outcome s.state e.target e.key.time e.body).tellings;
    piece = (p.outcome s.state e.target e.key.time e.body).piece;
  };
  events_made = λ s. s.made;
  lookahead = p.lookahead;
  duration = p.duration;
  max_events = p.max_events;
  audit_times = p.audit_times;
  audit = λ time account. p.audit time (λ n. (account n).state);
}
