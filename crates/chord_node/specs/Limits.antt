-- How far a node goes before it gives up.
use Rattle.std.specs.Prelude.{ℕ, ◌+◌, ◌*◌}
use Rattle.chord_scenario.specs.declared.scenario.Scenario.{Scenario}

-- the most requests of an attempt to join after its first request
abbrev pub most_steps : ℕ
most_steps = 128

-- the most requests of a lookup, without those that are sent again: those of a long way, and two for each node that the
-- lookup may have to avoid
abbrev pub most_lookup_steps : Scenario → ℕ
most_lookup_steps sc = 112 + 2 * sc.rules.lookup_timeouts

-- the most lookups of its users that a node works on at once
abbrev pub most_user_lookups : ℕ
most_user_lookups = 60

-- the most failures that an attempt to join survives
abbrev pub most_failures : ℕ
most_failures = 7
