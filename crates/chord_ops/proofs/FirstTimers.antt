-- The timers that a run starts with are those that a node arms at time 0 in its first life.
use Rattle.std.proofs.Common.{◌≡◌, ℕ, ◌+◌, List, [], ◌∷◌, ◌++◌, Option, Some, None, refl, sym, ap, ◌∙◌, append_assoc, append-nil, arith, map, option_map, zero-add}
use Rattle.std.specs.List.{enumerate_from, filter_map}
use Rattle.chord_event.specs.declared.body.Body.{Body}
use Rattle.des_event.specs.declared.event.Event.{Event}
use Rattle.chord_scenario.specs.declared.scenario.Scenario.{Scenario}
use Rattle.chord_scenario.specs.declared.setting.Span.{Span}
use Rattle.chord_scenario.specs.Draws.{delay}
use Rattle.chord_scenario.specs.Start.{at_first, check_timer, first_timers, life_timer, timer_event, timer_table, timers, traffic_timer}
use Rattle.chord_node.specs.declared.state.NodeState.{NodeState}
use Rattle.chord_ops.specs.declared.turn.Turn.{Turn}
use Rattle.chord_ops.specs.FirstTurns.{IsNew, first_turn}
use Rattle.chord_ops.specs.Procedures.{armed, check_started, finger_started, life_armed, row_armed, rows_armed, stabilize_started, traffic_started}
use Rattle.chord_ops.specs.Turns.{timer_made}
use Rattle.chord_ops.proofs.KeptJoins.{same_row_armed}

-- the timers of these rows as events of node n, the first at this place of its stream
abbrev events_of : Scenario → (n place : ℕ) → List (Option (Span × Body)) → List (Event Body)
events_of sc n place rows = map (λ p. timer_event sc n p.0 p.1) (enumerate_from place (filter_map (λ row. row) rows))

-- rows that are armed at time 0 are first timers
rows_are_first : (sc : Scenario) (rows : List (Option (Span × Body))) (turn : Turn) → turn.time ≡ 0 → turn.state.count ≡ turn.state.place
    → (rows_armed sc rows turn).events ≡ turn.events ++ events_of sc turn.state.me turn.state.place rows
unfolding timer_made
rows_are_first sc [] turn at same = sym (append-nil turn.events)
rows_are_first sc (None ∷ rows) turn at same = rows_are_first sc rows turn at same
rows_are_first sc (Some timer ∷ rows) turn at same =
    let me : ℕ = turn.state.me in
    let place : ℕ = turn.state.place in
    let wait : ℕ → ℕ = λ time. delay sc me place time timer.0 timer.1 in
    let later : ℕ = wait 0 in
    let rest : List (Event Body) = events_of sc me (place + 1) rows in
    let set : ℕ → ℕ → Event Body = λ time number.
    record { key = record { time = time; origin = 2 + me; number = number }; target = me; body = timer.1 } in
    let time_is : turn.time + wait turn.time ≡ later = ap (λ (time : ℕ). time + wait time) at ∙ zero-add later in
    let number_is : turn.state.count + 1 ≡ place + 1 = omega (arith, same) in
    rows_are_first sc rows (timer_made sc timer.0 timer.1 turn) at number_is
    ∙ append_assoc turn.events (set (turn.time + wait turn.time) (turn.state.count + 1) ∷ []) rest
    ∙ ap (λ (time : ℕ). turn.events ++ set time (turn.state.count + 1) ∷ rest) time_is
    ∙ ap (λ (number : ℕ). turn.events ++ set later number ∷ rest) number_is

pub timers_armed : (sc : Scenario) (s : NodeState) → IsNew s → first_timers sc s.me ≡ (armed sc (first_turn s)).events
unfolding first_timers timers armed
timers_armed sc s is =
    ap (λ (epoch : ℕ). events_of sc s.me 0 (timer_table sc s.me epoch)) (sym is.epoch)
    ∙ ap (λ (place : ℕ). events_of sc s.me place (timer_table sc s.me s.epoch)) (sym is.place)
    ∙ sym (rows_are_first sc (timer_table sc s.me s.epoch) (first_turn s) refl (is.count ∙ sym is.place))

-- the table is armed timer by timer
pub armed_in_order : (sc : Scenario) (turn : Turn)
    → check_started sc (life_armed sc (traffic_started sc (finger_started sc (stabilize_started sc turn)))) ≡ armed sc turn
unfolding armed check_started life_armed traffic_started finger_started stabilize_started timer_made
armed_in_order sc turn =
    let two : Turn = finger_started sc (stabilize_started sc turn) in
    let traffic : Option (Span × Body) = option_map (at_first sc) (traffic_timer sc turn.state.epoch) in
    let three : Turn = row_armed sc traffic two in
    let life : ℕ → ℕ → Turn = λ me epoch. row_armed sc (life_timer sc me epoch) three in
    let check : ℕ → Turn → Turn = λ epoch before. row_armed sc (option_map (at_first sc) (check_timer sc epoch)) before in
    let epoch_is : three.state.epoch ≡ turn.state.epoch = same_row_armed (λ s. s.epoch) sc traffic two (λ s count place. refl) in
    let me_is : three.state.me ≡ turn.state.me = same_row_armed (λ s. s.me) sc traffic two (λ s count place. refl) in
    let four : Turn = life three.state.me three.state.epoch in
    ap (λ (epoch : ℕ). check epoch four)
    (same_row_armed (λ s. s.epoch) sc (life_timer sc three.state.me three.state.epoch) three (λ s count place. refl) ∙ epoch_is)
    ∙ ap (λ (epoch : ℕ). check turn.state.epoch (life three.state.me epoch)) epoch_is
    ∙ ap (λ (me : ℕ). check turn.state.epoch (life me turn.state.epoch)) me_is
