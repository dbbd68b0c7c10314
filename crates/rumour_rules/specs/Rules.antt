-- The rules of a rumour, as a protocol.
use Rattle.std.specs.Prelude.{ℕ, ◌+◌, ◌*◌, ◌%◌, true, false, [], ◌∷◌, if◌then◌else◌}
use Rattle.des_protocol.specs.Protocols.{Outcome, Protocol}
use Rattle.des_protocol.specs.declared.telling.Telling.{Telling}
use Rattle.rumour_rules.specs.declared.rules.Node.{Node}
use Rattle.rumour_rules.specs.declared.rules.Rumour.{Rumour}
use Rattle.rumour_rules.specs.declared.rules.Told.{Told}
use Rattle.rumour_rules.specs.declared.settings.Settings.{Settings}

-- node 0 is told at time 1
abbrev pub first_telling : Telling Rumour
first_telling = record { delay = 1; target = 0; body = record {} }

-- a node tells its friend of this place, 1 or 2
abbrev pub telling : Settings → (node place : ℕ) → Telling Rumour
telling p node place = record { delay = p.delay; target = (2 * node + place) % p.nodes; body = record {} }

-- rule 1: a node that hears the rumour for the first time tells two nodes
abbrev pub hears_first : Settings → (node time : ℕ) → Outcome Node Rumour Told
hears_first p node time = record {
  state = record { heard = true };
  tellings = telling p node 1 ∷ telling p node 2 ∷ [];
  piece = record { time = time; node = node; first = true };
}

-- rule 2: a node that has heard it before says nothing
abbrev pub hears_again : Node → (node time : ℕ) → Outcome Node Rumour Told
hears_again s node time = record {
  state = s;
  tellings = [];
  piece = record { time = time; node = node; first = false };
}

-- what a node does when it hears the rumour: by rule 2 if it has heard it before, and by rule 1 if not
abbrev pub outcome_of : Settings → Node → (node time : ℕ) → Outcome Node Rumour Told
outcome_of p s node time = if s.heard then hears_again s node time else hears_first p node time

-- the rumour as a protocol: node 0 is told at the start, and there are no audits
abbrev pub rumour : Settings → Protocol Node Rumour Told
rumour p = record {
  nodes = p.nodes;
  initial = λ n. record { heard = false };
  start = first_telling ∷ [];
  outcome = λ s node time body. outcome_of p s node time;
  lookahead = p.delay;
  duration = p.duration;
  max_events = p.max_events;
  audit_times = [];
  audit = λ time account. record { time = time; node = 0; first = false };
}
