-- Each lookup ends in time: while it is in progress, its next timeout comes no later than so many timeouts after it began.
use Rattle.std.specs.Prelude.{ℕ, ◌≡◌, ◌+◌, ◌*◌, ◌<◌, ◌≤◌, All, List, ◌∷◌}
use Rattle.std.specs.List.{Contains}
use Rattle.chord_event.specs.declared.body.Body.{Body}
use Rattle.chord_event.specs.declared.body.Body.TheVariants as body
use Rattle.des_event.specs.declared.event.Event.{Event}
use Rattle.des_model.specs.Histories.{IsLegal, pending, state}
use Rattle.chord_node.specs.declared.state.Lookup.{Lookup}
use Rattle.chord_node.specs.declared.state.NodeState.{NodeState}
use Rattle.chord_ops.specs.Ends.{TakesAtMost, most_sends, sends}
use Rattle.chord_scenario.specs.declared.scenario.Scenario.{Scenario}
use Rattle.chord_scenario.specs.World.{node_count}
use Rattle.chord_trace.specs.Pieces.{lines_of}
use Rattle.chord_machine.specs.Chord.{chord}
use Rattle.chord_machine.specs.Run.{whole_trace}

-- an event is the timeout of node n's call under this number
abbrev pub IsTimeoutOf : (n number : ℕ) → Event Body → Type 0
IsTimeoutOf n number x = (x.target ≡ n) × (x.body ≡ body.Timeout number)

-- the pending timeout of a lookup at node n comes no later than this many timeouts after the lookup began
abbrev pub EndsWithin : Scenario → List (Event Body) → (n : ℕ) → Lookup → (timeouts : ℕ) → Type 0
EndsWithin sc h n lookup timeouts =
    (x : Event Body) → Contains (pending (chord sc) h) x → IsTimeoutOf n lookup.call x → x.key.time ≤ lookup.started + timeouts * sc.timeout

-- something holds of each lookup of each node, whatever events of a run have been taken in their order
abbrev pub OfLookups : Scenario → (List (Event Body) → ℕ → NodeState → Lookup → Type 0) → Type 0
OfLookups sc P =
    (h : List (Event Body)) → IsLegal (chord sc) h → (n : ℕ) → n < node_count sc
    → All (P h n (state (chord sc) h n)) (state (chord sc) h n).lookups

-- the pending timeout of each lookup comes no later than one timeout for each request that the lookup has sent, from
-- its beginning on
abbrev pub LookupsAreInTime : Scenario → Type 0
LookupsAreInTime sc = OfLookups sc (λ h n s lookup. EndsWithin sc h n lookup (sends sc s lookup))

-- the pending timeout of each lookup comes no later than one timeout for each request that a lookup may send, from its
-- beginning on
abbrev pub LookupsAreShort : Scenario → Type 0
LookupsAreShort sc = OfLookups sc (λ h n s lookup. EndsWithin sc h n lookup (most_sends sc))

-- when an event of a run has been taken, no lookup is in progress that began longer before it than one timeout for each
-- request that a lookup may send
abbrev pub NoneLastsLonger : Scenario → Type 0
NoneLastsLonger sc =
    (h : List (Event Body)) (e : Event Body) → IsLegal (chord sc) (e ∷ h) → (n : ℕ) → n < node_count sc
    → All (λ lookup. e.key.time ≤ lookup.started + most_sends sc * sc.timeout) (state (chord sc) (e ∷ h) n).lookups

-- no lookup of a run's trace has taken longer than one timeout for each request that a lookup may send
abbrev pub LookupsTakeAtMost : Scenario → Type 0
LookupsTakeAtMost sc = All (TakesAtMost (most_sends sc * sc.timeout)) (lines_of (whole_trace sc))
