-- No message is lost if none may be, and all messages to other nodes are if all have to be.
use Rattle.std.proofs.Common.{◌≡◌, ◌≢◌, ◌==◌, ◌&&◌, ℕ, ◌+◌, ◌<◌, not, nat_lt, refl, arith, true, false, mod-lt, Bool, ne_eqb}
use Rattle.std.proofs.lemmas.Bool.Decides.{nat_tests}
use Rattle.std.specs.Prelude.{if◌then◌else◌}
use Rattle.chord_event.specs.declared.body.Body.{Body}
use Rattle.chord_event.specs.declared.line.MessageKind.{MessageKind}
use Rattle.chord_scenario.specs.declared.scenario.Scenario.{Scenario}
use Rattle.chord_scenario.specs.Draws.{chance, drawn, extra, message_purpose}
use Rattle.chord_scenario.specs.World.{latency}
use Rattle.des_stream.specs.Draws.{first_number, own_stream}
use Rattle.des_stream.proofs.Drawn.{first_below}
use Rattle.chord_ops.specs.declared.turn.Turn.{Turn}
use Rattle.chord_ops.specs.Turns.{after_words, carried, lost_on_the_way, made, sent}

-- what the network does with a message: it loses it or carries it
abbrev on_the_way : Scenario → MessageKind → (to : ℕ) → Body → Turn → Bool → Turn
on_the_way sc kind to message turn lost =
    let drawn = record turn { state = after_words 2 turn.state } in
    if lost
    then lost_on_the_way kind to drawn
    else made (latency sc turn.state.me to + extra sc turn.state.me turn.state.place (turn.state.count + 1)) to message drawn

-- the number that decides about a turn's next message
abbrev decides : Scenario → Turn → ℕ
decides sc turn = chance sc turn.state.me turn.state.place (turn.state.count + 1)

pub none_lost : (sc : Scenario) (kind : MessageKind) (to : ℕ) (message : Body) (turn : Turn) → sc.loss ≡ 0 → (sent sc kind to message turn).lines ≡ turn.lines
unfolding sent carried
none_lost sc kind to message turn none =
    elim (nat_lt 1 sc.profile && not (to == turn.state.me)) as (λ b. (if b then carried sc kind to message turn
    else made (latency sc turn.state.me to) to message turn).lines ≡ turn.lines) [
      | true ↦ kept (nat_lt (decides sc turn) sc.loss) (grind (arith, nat_tests))
      | false ↦ refl
    ]
  where
    kept : (b : Bool) → b ≡ false → (on_the_way sc kind to message turn b).lines ≡ turn.lines
    kept true is = absurd (cc)
    kept false is = refl

chance_small : (sc : Scenario) (n place number : ℕ) → chance sc n place number < 1000000
chance_small sc n place number =
    elim (sc.profile == 4) as (λ b. (if b then first_number sc.seed (own_stream n message_purpose) number 1000000
    else drawn sc n place 1000000) < 1000000) [
      | true ↦ first_below sc.seed (own_stream n message_purpose) number 1000000 (omega arith)
      | false ↦ mod-lt _ (omega arith)
    ]

pub all_lost : (sc : Scenario) (kind : MessageKind) (to : ℕ) (message : Body) (turn : Turn) → 1 < sc.profile → to ≢ turn.state.me → sc.loss ≡ 1000000
    → (sent sc kind to message turn).events ≡ turn.events
unfolding sent carried
all_lost sc kind to message turn lossy other all = by (nat_lt 1 sc.profile) (to == turn.state.me) (grind (arith, nat_tests)) (ne_eqb to turn.state.me other)
  where
    gone : (b : Bool) → b ≡ true → (on_the_way sc kind to message turn b).events ≡ turn.events
    gone true is = refl
    gone false is = absurd (cc)

    by : (a b : Bool) → a ≡ true → b ≡ false
        → (if a && not b then carried sc kind to message turn else made (latency sc turn.state.me to) to message turn).events ≡ turn.events
    by true false is off =
        let small : decides sc turn < 1000000 = chance_small sc turn.state.me turn.state.place (turn.state.count + 1) in
        gone (nat_lt (decides sc turn) sc.loss) (grind (arith, nat_tests))
    by true true is off = absurd (cc)
    by false b is off = absurd (cc)
