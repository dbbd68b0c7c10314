use Rattle.std.proofs.Common.{◌++◌, map}
use Rattle.std.specs.List.{enumerate_from}
use Rattle.chord_scenario.specs.Start.{command_event}
use Rattle.chord_scenario.proofs.Starts.{numbered-more, numbered-end}
use Rattle.chord_scenario.proofs.start.push_commands.Goals as goal

pub loop-i-preserved : goal.loop-i-preserved
loop-i-preserved c =
    let commands = c.args.commands.now in
    let all = c.args.events.now.items ++ map (λ p. command_event p.0 p.1) (enumerate_from 1 commands) in
    rw c.in_ok-push.ensures.items
    (numbered-more (λ p. command_event p.0 p.1) commands c.loop-i.i c.loop-i.events.items all c.index-commands-i.result c.command_event.result
    c.loop-i-test.true c.index-commands-i.is c.command_event.ensures c.loop-i.invariant)

pub returns : goal.returns
returns c =
    let commands = c.args.commands.now in
    let all = c.args.events.now.items ++ map (λ p. command_event p.0 p.1) (enumerate_from 1 commands) in
    numbered-end (λ p. command_event p.0 p.1) commands c.loop-i.i c.loop-i.events.items all c.loop-i-test.false c.loop-i.invariant
