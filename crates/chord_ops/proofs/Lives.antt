-- A timer of an earlier life of its node changes nothing.
use Rattle.std.proofs.Common.{◌≡◌, ◌≢◌, ◌==◌, ◌∙◌, ◌++◌, ◌-◌, if◌then◌else◌, ℕ, true, false, [], Some, sym, ap, refl, ne_eqb}
use Rattle.std.proofs.lemmas.Option.{same_Some}
use Rattle.chord_event.specs.declared.body.Body.{Body}
use Rattle.chord_event.specs.declared.body.Body.TheVariants as body
use Rattle.des_event.specs.declared.event.Event.{Event}
use Rattle.chord_scenario.specs.declared.scenario.Scenario.{Scenario}
use Rattle.chord_node.specs.declared.state.NodeState.{NodeState}
use Rattle.chord_ops.specs.declared.turn.Turn.{Turn}
use Rattle.chord_ops.specs.Detail.{detailed, message_lines}
use Rattle.chord_ops.specs.Lives.{life_of}
use Rattle.chord_ops.specs.Rules.{acted, check_tick, effect, finger_tick, life_end, opening, rejoin, rise, stabilize_tick, traffic_tick}

-- the timer's life is not the node's
past : (epoch life now : ℕ) → Some epoch ≡ Some life → life ≢ now → (now == epoch) ≡ false
past epoch life now is other = ne_eqb now epoch (λ same. other (sym (same ∙ same_Some epoch life is)))

nothing : (sc : Scenario) (sender : ℕ) (turn : Turn) (b : Body) (life : ℕ) → life_of b ≡ Some life → life ≢ turn.state.epoch
    → acted sc sender b turn ≡ turn
unfolding check_tick finger_tick life_end rejoin rise stabilize_tick traffic_tick
nothing sc sender turn (body.StabilizeTick epoch) life is other = rw (past epoch life turn.state.epoch is other) refl
nothing sc sender turn (body.FingerTick epoch) life is other = rw (past epoch life turn.state.epoch is other) refl
nothing sc sender turn (body.TrafficTick epoch) life is other = rw (past epoch life turn.state.epoch is other) refl
nothing sc sender turn (body.CheckTick epoch) life is other = rw (past epoch life turn.state.epoch is other) refl
nothing sc sender turn (body.LifeEnd epoch) life is other = rw (past epoch life turn.state.epoch is other) refl
nothing sc sender turn (body.Rise epoch) life is other = rw (past epoch life turn.state.epoch is other) refl
nothing sc sender turn (body.Rejoin epoch) life is other = rw (past epoch life turn.state.epoch is other) refl
nothing sc sender turn (body.CmdJoin via) life is other = absurd cc
nothing sc sender turn body.CmdCrash life is other = absurd cc
nothing sc sender turn body.CmdLeave life is other = absurd cc
nothing sc sender turn (body.CmdLookup key) life is other = absurd cc
nothing sc sender turn (body.Timeout number) life is other = absurd cc
nothing sc sender turn (body.Step number key avoid) life is other = absurd cc
nothing sc sender turn (body.GetState number) life is other = absurd cc
nothing sc sender turn (body.GetList number) life is other = absurd cc
nothing sc sender turn (body.Ping number) life is other = absurd cc
nothing sc sender turn body.Notify life is other = absurd cc
nothing sc sender turn (body.Leave prdc list) life is other = absurd cc
nothing sc sender turn (body.StepReply number answer) life is other = absurd cc
nothing sc sender turn (body.StateReply number prdc list) life is other = absurd cc
nothing sc sender turn (body.ListReply number list) life is other = absurd cc
nothing sc sender turn (body.Pong number) life is other = absurd cc

-- telling of no message leaves a turn as it is
untold : (sc : Scenario) (turn : Turn) → turn.events ≡ [] → turn.lines ≡ [] → detailed sc turn ≡ turn
unfolding detailed
untold sc turn none silent =
    elim sc.detail as (λ b. (if b then record turn { lines = turn.lines ++ message_lines turn.state turn.events } else turn) ≡ turn) [
      | true ↦ rw (none, silent) refl
      | false ↦ refl
    ]

pub over : (sc : Scenario) (s : NodeState) (e : Event Body) (life : ℕ) → life_of e.body ≡ Some life → life ≢ s.epoch → effect sc s e ≡ opening s e
unfolding effect
over sc s e life is other = ap (detailed sc) (nothing sc (e.key.origin - 2) (opening s e) e.body life is other) ∙ untold sc (opening s e) refl refl
