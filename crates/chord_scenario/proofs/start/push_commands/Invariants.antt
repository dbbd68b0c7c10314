use Rattle.std.proofs.Common.{◌≡◌, ◌+◌, ◌++◌, map, drop}
use Rattle.std.specs.List.{enumerate_from}
use Rattle.chord_scenario.specs.Start.{command_event}
use Rattle.chord_scenario.proofs.start.push_commands.Given as goal

-- the events so far, followed by the commands left, are all
abbrev pub invariant-loop-i : goal.invariant-loop-i
invariant-loop-i l = l.events.items ++ map (λ p. command_event p.0 p.1) (enumerate_from (l.i + 1) (drop l.i l.commands)) ≡ l.initial.events.items
    ++ map (λ p. command_event p.0 p.1) (enumerate_from 1 l.commands)
