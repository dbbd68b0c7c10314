-- The members at the start in the order of their identifiers.
use Rattle.std.specs.Prelude.{ℕ, nat_le, List, ◌++◌, find, map, slice_index, unwrap_or}
use Rattle.chord_scenario.specs.declared.scenario.Scenario.{Scenario}
use Rattle.chord_scenario.specs.Start.{initial_nodes}
use Rattle.chord_scenario.specs.World.{ident_of}
use Rattle.chord_node.specs.declared.ring.Place.{Place}
use Rattle.chord_node.specs.Ring.{sorted_by}

-- the members at the start, the least identifier first
unfoldable pub ring : Scenario → List ℕ
ring sc = sorted_by (ident_of sc) (initial_nodes sc)

-- nodes with their identifiers
abbrev pub placed : Scenario → List ℕ → List Place
placed sc xs = map (λ x. record { ident = ident_of sc x; node = x }) xs

-- two rounds of the ring: the way from any member round to itself is one part of these
abbrev pub two_rounds : Scenario → List Place
two_rounds sc = placed sc (ring sc ++ ring sc)

-- the first member at an identifier or after it, or the first one of the ring if there is none
abbrev pub successor : Scenario → (start : ℕ) → ℕ
successor sc start = unwrap_or (find (λ x. nat_le start (ident_of sc x)) (ring sc)) (slice_index (ring sc) 0)
