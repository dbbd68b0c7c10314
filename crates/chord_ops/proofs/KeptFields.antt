-- A state that keeps the invariant keeps it with another field, if what the invariant says of that field holds of it.
use Rattle.std.proofs.Common.{◌≡◌, ℕ, ◌<◌, ◌≤◌, List, length, Option, sym, subst, arith}
use Rattle.std.specs.Prelude.{IfSome}
use Rattle.chord_scenario.specs.declared.scenario.Scenario.{Scenario}
use Rattle.chord_scenario.specs.World.{node_count}
use Rattle.chord_node.specs.declared.state.Attempt.{Attempt}
use Rattle.chord_node.specs.declared.state.Call.{Call}
use Rattle.chord_node.specs.declared.state.Lookup.{Lookup}
use Rattle.chord_node.specs.declared.state.NodeState.{NodeState}
use Rattle.chord_node.specs.declared.state.Status.{Status}
use Rattle.chord_node.specs.declared.state.Status.TheVariants as status
use Rattle.chord_node.specs.Invariant.{AllNodes, AreCalls, AreLookups, AreMatched, FitsStatus, IsAttempt, IsNodeState}
use Rattle.chord_ops.proofs.Kept.{calls_more}

-- What a status allows

fits_succ : (sc : Scenario) (s : Status) (via : Option ℕ) (succ new fingers : List ℕ) (join : Option Attempt)
    → 1 ≤ length new → FitsStatus sc s via succ fingers join → FitsStatus sc s via new fingers join
fits_succ sc status.Down via succ new fingers join some h = tt
fits_succ sc status.Joining via succ new fingers join some h = h
fits_succ sc status.Member via succ new fingers join some h =
    record { has_successor = some; has_via = h.has_via; has_fingers = h.has_fingers }

-- fingers that are as many fit the status too
fits_fingers : (sc : Scenario) (s : Status) (via : Option ℕ) (succ old new : List ℕ) (join : Option Attempt)
    → length new ≡ length old → FitsStatus sc s via succ old join → FitsStatus sc s via succ new join
fits_fingers sc status.Down via succ old new join same h = tt
fits_fingers sc status.Joining via succ old new join same h = h
fits_fingers sc status.Member via succ old new join same h =
    record {
      has_successor = h.has_successor;
      has_via = h.has_via;
      has_fingers = omega (arith, same, h.has_fingers);
    }

-- A state with another field

-- the count has gone on, and the place is any
pub with_count : (sc : Scenario) (s : NodeState) (count place : ℕ)
    → s.count ≤ count → IsNodeState sc s → IsNodeState sc (record s { count = count; place = place })
with_count sc s count place le h =
    record {
      me = h.me;
      epoch = omega (arith, h.epoch, le);
      next_finger = h.next_finger;
      neighbours = h.neighbours;
      status = h.status;
      attempt = h.attempt;
      calls = calls_more sc s.status s.count count s.calls le h.calls;
      lookups = h.lookups;
      matched = h.matched;
    }

pub with_next_finger : (sc : Scenario) (s : NodeState) (index : ℕ)
    → (2 ≤ index) × (index ≤ sc.bits) → IsNodeState sc s → IsNodeState sc (record s { next_finger = index })
with_next_finger sc s index is h =
    record {
      me = h.me;
      epoch = h.epoch;
      next_finger = is;
      neighbours = h.neighbours;
      status = h.status;
      attempt = h.attempt;
      calls = h.calls;
      lookups = h.lookups;
      matched = h.matched;
    }

pub with_prdc : (sc : Scenario) (s : NodeState) (prdc : Option ℕ)
    → IfSome prdc (λ node. node < node_count sc) → IsNodeState sc s → IsNodeState sc (record s { prdc = prdc })
with_prdc sc s prdc known h =
    record {
      me = h.me;
      epoch = h.epoch;
      next_finger = h.next_finger;
      neighbours =
          record {
            via_known = h.neighbours.via_known;
            prdc_known = known;
            succ_known = h.neighbours.succ_known;
            fingers_known = h.neighbours.fingers_known;
            list = h.neighbours.list;
          };
      status = h.status;
      attempt = h.attempt;
      calls = h.calls;
      lookups = h.lookups;
      matched = h.matched;
    }

-- the successors are others, and there is one
pub with_succ : (sc : Scenario) (s : NodeState) (new : List ℕ)
    → AllNodes sc new → length new ≤ sc.list → 1 ≤ length new → IsNodeState sc s → IsNodeState sc (record s { succ = new })
with_succ sc s new known few some h =
    record {
      me = h.me;
      epoch = h.epoch;
      next_finger = h.next_finger;
      neighbours =
          record {
            via_known = h.neighbours.via_known;
            prdc_known = h.neighbours.prdc_known;
            succ_known = known;
            fingers_known = h.neighbours.fingers_known;
            list = few;
          };
      status = fits_succ sc s.status s.via s.succ new s.fingers s.join some h.status;
      attempt = h.attempt;
      calls = h.calls;
      lookups = h.lookups;
      matched = h.matched;
    }

-- the fingers are others, and as many
pub with_fingers : (sc : Scenario) (s : NodeState) (new : List ℕ)
    → AllNodes sc new → length new ≡ length s.fingers → IsNodeState sc s → IsNodeState sc (record s { fingers = new })
with_fingers sc s new known same h =
    record {
      me = h.me;
      epoch = h.epoch;
      next_finger = h.next_finger;
      neighbours =
          record {
            via_known = h.neighbours.via_known;
            prdc_known = h.neighbours.prdc_known;
            succ_known = h.neighbours.succ_known;
            fingers_known = known;
            list = h.neighbours.list;
          };
      status = fits_fingers sc s.status s.via s.succ s.fingers new s.join same h.status;
      attempt = h.attempt;
      calls = h.calls;
      lookups = subst (λ (n : ℕ). AreLookups sc n s.lookups) (sym same) h.lookups;
      matched = h.matched;
    }

pub with_join : (sc : Scenario) (s : NodeState) (join : Option Attempt)
    → FitsStatus sc s.status s.via s.succ s.fingers join → IfSome join IsAttempt
    → IsNodeState sc s → IsNodeState sc (record s { join = join })
with_join sc s join fits is h =
    record {
      me = h.me;
      epoch = h.epoch;
      next_finger = h.next_finger;
      neighbours = h.neighbours;
      status = fits;
      attempt = is;
      calls = h.calls;
      lookups = h.lookups;
      matched = h.matched;
    }

-- the calls and the lookups are others, and still matched
pub with_calls_and_lookups : (sc : Scenario) (s : NodeState) (calls : List Call) (lookups : List Lookup)
    → AreCalls sc s.status s.count calls → AreLookups sc (length s.fingers) lookups → AreMatched calls lookups
    → IsNodeState sc s → IsNodeState sc (record s { calls = calls; lookups = lookups })
with_calls_and_lookups sc s calls lookups are_calls are_lookups matched h =
    record {
      me = h.me;
      epoch = h.epoch;
      next_finger = h.next_finger;
      neighbours = h.neighbours;
      status = h.status;
      attempt = h.attempt;
      calls = are_calls;
      lookups = are_lookups;
      matched = matched;
    }

pub with_calls : (sc : Scenario) (s : NodeState) (calls : List Call)
    → AreCalls sc s.status s.count calls → AreMatched calls s.lookups
    → IsNodeState sc s → IsNodeState sc (record s { calls = calls })
with_calls sc s calls are_calls matched h = with_calls_and_lookups sc s calls s.lookups are_calls h.lookups matched h
