use Rattle.std.proofs.Common.{◌≡◌, ◌∙◌, ◌-◌, ◌<◌, ◌++◌, ℕ, arith, append-nil, filter, sym, ap, map, Vec, Global}
use Rattle.chord_event.specs.declared.body.Body.{Body}
use Rattle.des_event.specs.declared.event.Event.{Event}
use Rattle.std.specs.List.{enumerate_from, flat_map, range_with_len}
use Rattle.chord_scenario.specs.Setup.{Setup}
use Rattle.chord_scenario.specs.Start.{command_event, command_events, first_timers, initial_nodes, start_events}
use Rattle.chord_scenario.specs.World.{node_count, is_initial}
use Rattle.chord_scenario.proofs.Starts.{pass, pass_over}
use Rattle.chord_scenario.proofs.scenario.Scenario.start_events.Goals as goal
use Rattle.chord_scenario.proofs.scenario.Scenario.start_events.Goals.{then-initial+in_ok-push_first_timers, else-initial}

pub loop-node-init : goal.loop-node-init
unfolding start_events command_events initial_nodes
loop-node-init c =
    let sc = c.args.self.now in
    let commands : c.as_slice.result.now ≡ sc.commands = c.as_slice.ensures.value ∙ ap (λ (s : Setup). s.commands) c.self.view_is in
    let made : c.push_commands.new.events.items ≡ command_events sc =
    c.in_ok-push_commands.ensures ∙ rw (c.new-events.ensures.items) (ap (λ l. map (λ p. command_event p.0 p.1) (enumerate_from 1 l)) commands) in
    let whole : node_count sc - 0 ≡ node_count sc = omega arith in
    rw whole (ap (λ l. l ++ flat_map (first_timers sc) (initial_nodes sc)) made)

pub loop-node-preserved : goal.loop-node-preserved
loop-node-preserved c =
    let sc = c.args.self.now in
    let at = c.loop-node.node in
    let within : at < node_count sc = rw (← c.nodes-node-end.ensures) c.loop-node-test.true in
    elim c.if-initial.branch [
      | then-initial+in_ok-push_first_timers w ↦
          pass (first_timers sc) (is_initial sc) c.loop-node.events.items at (node_count sc) within c.if-initial.events.items (start_events sc)
          (sym c.initial.ensures ∙ w.if-initial.true) (ap (λ (v : Vec (Event Body) Global). v.items) w.events-is
          ∙ w.in_ok-push_first_timers.ensures) c.loop-node.invariant
      | else-initial w ↦
          pass_over (first_timers sc) (is_initial sc) c.loop-node.events.items at (node_count sc) within c.if-initial.events.items (start_events sc)
          (sym c.initial.ensures ∙ w.if-initial.false) (ap (λ (v : Vec (Event Body) Global). v.items) w.events-is) c.loop-node.invariant
    ]

pub returns : goal.returns
returns c =
    let sc = c.args.self.now in
    let at = c.loop-node.node in
    let done = c.loop-node.events.items in
    let none : node_count sc - at ≡ 0 = omega (arith, c.nodes-node-end.ensures, c.loop-node-test.false) in
    sym (append-nil done) ∙ ap (λ (n : ℕ). done ++ flat_map (first_timers sc) (filter (is_initial sc) (range_with_len at n))) (sym none)
    ∙ c.loop-node.invariant
