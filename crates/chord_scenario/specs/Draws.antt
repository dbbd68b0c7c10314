-- What a node draws. In the first two profiles each draw takes the next words of the node's one stream. In the extended
-- profile each draw has a group of words of its own, by the purpose and the occasion, so that no draw depends on earlier
-- ones.
use Rattle.std.specs.Prelude.{ℕ, ◌==◌, ◌+◌, ◌-◌, ◌%◌, if◌then◌else◌}
use Rattle.chord_event.specs.declared.body.Body.{Body}
use Rattle.chord_event.specs.declared.body.Body.TheVariants as body
use Rattle.chord_scenario.specs.declared.setting.Span.{Span}
use Rattle.chord_scenario.specs.Setup.{Setup}
use Rattle.des_stream.specs.Draws.{first_number, own_stream, second_number}
use Rattle.des_stream.specs.Word.{word}

-- the purpose of the draw of a timer's delay, 1 to 5 or 8 by the kind of timer; 0 for a body whose delay is not drawn
abbrev pub timer_purpose : Body → ℕ
timer_purpose (body.StabilizeTick epoch) = 1
timer_purpose (body.FingerTick epoch) = 2
timer_purpose (body.TrafficTick epoch) = 3
timer_purpose (body.LifeEnd epoch) = 4
timer_purpose (body.Rise epoch) = 5
timer_purpose (body.CheckTick epoch) = 8
timer_purpose _ = 0

-- the purpose of the draw of a random key to look up
abbrev pub key_purpose : ℕ
key_purpose = 6

-- the purpose of the two draws for a message to another node: whether it is lost, and its spread
abbrev pub message_purpose : ℕ
message_purpose = 7

-- the purpose of the draw of the finger that an initial node looks up first
abbrev pub finger_purpose : ℕ
finger_purpose = 9

-- the purpose of the draw that decides whether a life ends with a leave in place of a crash
abbrev pub leave_purpose : ℕ
leave_purpose = 10

-- the purpose of the draw of the place of a node of a class
abbrev pub place_purpose : ℕ
place_purpose = 11

-- when a timer's delay is drawn: in which life of the node, for the end of a life and for the rise after it; otherwise
-- at which time
abbrev pub timer_occasion : (time : ℕ) → Body → ℕ
timer_occasion time (body.LifeEnd epoch) = epoch
timer_occasion time (body.Rise epoch) = epoch
timer_occasion time _ = time

-- a number below the bound, drawn at a place of the stream of node n
abbrev pub drawn : Setup → (n place bound : ℕ) → ℕ
drawn sc n place bound = word sc.seed n place % bound

-- the number that decides how long a timer takes which node n sets
abbrev pub timer_number : Setup → (n place time : ℕ) → Body → (bound : ℕ) → ℕ
timer_number sc n place time timer bound =
    if sc.profile == 4
    then first_number sc.seed (own_stream n (timer_purpose timer)) (timer_occasion time timer) bound
    else drawn sc n place bound

-- how long a timer takes that node n sets at this time: a time of the span
abbrev pub delay : Setup → (n place time : ℕ) → Span → Body → ℕ
delay sc n place time span timer = span.least + timer_number sc n place time timer (span.greatest - span.least + 1)

-- the number below 1,000,000 that decides whether the message of this number is lost
abbrev pub chance : Setup → (n place number : ℕ) → ℕ
chance sc n place number =
    if sc.profile == 4
    then first_number sc.seed (own_stream n message_purpose) number 1000000
    else drawn sc n place 1000000

-- how much longer than its latency this message takes, in microseconds: at most the scenario's spread
abbrev pub extra : Setup → (n place number : ℕ) → ℕ
extra sc n place number =
    if sc.profile == 4
    then second_number sc.seed (own_stream n message_purpose) number (sc.spread + 1)
    else drawn sc n (place + 1) (sc.spread + 1)

-- the number below a bound that decides which finger node n looks up first
abbrev pub finger_number : Setup → (n bound : ℕ) → ℕ
finger_number sc n bound = first_number sc.seed (own_stream n finger_purpose) 0 bound

-- the number that decides whether a life of node n ends with a leave
abbrev pub leave_number : Setup → (n epoch : ℕ) → ℕ
leave_number sc n epoch = first_number sc.seed (own_stream n leave_purpose) epoch 1000000
