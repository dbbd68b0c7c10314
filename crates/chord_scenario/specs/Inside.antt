-- What the fields of a scenario say.
use Rattle.std.specs.Prelude.{◌≡◌, length, map}
use Rattle.chord_circle.specs.Circle.{leading}
use Rattle.chord_scenario.specs.declared.scenario.Scenario.TheInside.{Inside}
use Rattle.chord_scenario.specs.Latencies.{square_or_zeros}
use Rattle.chord_scenario.specs.Order.{AreInOrder, AreRanks}
use Rattle.chord_scenario.specs.Range.{IsInRange}
use Rattle.chord_scenario.specs.Setup.{Setup}

-- what contracts see of a scenario, from its fields: if it keeps no square of latencies, since no row gives any, they
-- see one of zeros
abbrev pub setup_of : Inside → Setup
setup_of s = record {
  profile = s.profile;
  bits = s.circle;
  list = s.list;
  seed = s.seed;
  duration = s.duration;
  window = s.window;
  latency = s.latency;
  timeout = s.timeout;
  audit = s.audit;
  stabilize = s.stabilize;
  finger = s.finger;
  jitter = s.jitter;
  max_events = s.max_events;
  loss = s.loss;
  spread = s.spread;
  retries = s.retries;
  join_pause = s.join_pause;
  join_forever = s.join_forever;
  check = s.check;
  detail = s.detail;
  rules = s.rules;
  jitters = s.jitters;
  churn = s.churn;
  lookups = s.lookups;
  nodes = s.nodes.items;
  bootstraps = s.bootstraps.items;
  commands = s.commands.items;
  latencies = square_or_zeros (length s.nodes.items) s.latencies.items;
  coordinates = s.coordinates.items;
}

-- what every scenario keeps: its numbers are in range, its order is that of its nodes, and so are its leading bits
pub record IsKept (s : Inside) : Type 0 where
  pub range : IsInRange (setup_of s)
  pub ranks : AreRanks (setup_of s) s.order.ranks.items
  pub in_order : AreInOrder s.order.ranks.items s.order.nodes.items
  pub leading : s.leading.items ≡ map (λ n. leading s.circle n.ident) s.nodes.items
