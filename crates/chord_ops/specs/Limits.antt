-- The most that one event makes and draws. All other files cite these names.
use Rattle.std.specs.Prelude.{ℕ, ◌+◌}
use Rattle.chord_scenario.specs.Start.{most_timers}

-- the most events that one event makes: a node comes up, and its timers, a request and the request's timeout are made
abbrev pub most_made : ℕ
most_made = most_timers + 2

-- the most words by which one event moves the place in the node's stream on: one for the time of the next generated
-- lookup, at most four for the key of this one and two for its request; a node that comes up draws as many, one for
-- each timer and two for its request
abbrev pub most_drawn : ℕ
most_drawn = 7
