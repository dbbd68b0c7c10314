-- The short forms of bodies.
use Rattle.std.specs.Prelude.{ℕ, cond, nat_eq}
use Rattle.des_event.specs.declared.brief.Short.{Short}
use Rattle.chord_event.specs.declared.body.Body.{Body}
use Rattle.chord_event.specs.declared.body.Body.TheVariants.{StabilizeTick, FingerTick, TrafficTick, LifeEnd, Rise, CheckTick, Rejoin, Timeout}

-- the timer of each kind, from 1 on, with the number of a life, or else the timeout of the call of this number
abbrev pub timer : (kind number : ℕ) → Body
timer kind number =
    cond (nat_eq kind 1) (StabilizeTick number)
    (cond (nat_eq kind 2) (FingerTick number)
    (cond (nat_eq kind 3) (TrafficTick number)
    (cond (nat_eq kind 4) (LifeEnd number)
    (cond (nat_eq kind 5) (Rise number)
    (cond (nat_eq kind 6) (CheckTick number)
    (cond (nat_eq kind 7) (Rejoin number)
    (Timeout number)))))))

-- the body of a short form
abbrev pub spelled_out : Short → Body
spelled_out short = timer short.kind short.number
