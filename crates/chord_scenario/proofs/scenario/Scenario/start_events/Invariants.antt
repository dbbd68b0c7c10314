use Rattle.std.proofs.Common.{◌≡◌, ◌-◌, ◌++◌, filter}
use Rattle.std.specs.List.{flat_map, range_with_len}
use Rattle.chord_scenario.specs.Start.{first_timers, start_events}
use Rattle.chord_scenario.specs.World.{node_count, is_initial}
use Rattle.chord_scenario.proofs.scenario.Scenario.start_events.Given as goal

-- the events so far, followed by the timers of the nodes left, are all
abbrev pub invariant-loop-node : goal.invariant-loop-node
invariant-loop-node l = l.events.items ++ flat_map (first_timers l.self)
    (filter (is_initial l.self) (range_with_len l.node (node_count l.self - l.node))) ≡ start_events l.self
