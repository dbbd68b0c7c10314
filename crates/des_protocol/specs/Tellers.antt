-- What contracts see of a teller.
use Rattle.std.specs.Prelude.{ℕ, ◌-◌, List}
use Rattle.des_event.specs.declared.event.Event.{Event}
use Rattle.des_protocol.specs.declared.telling.Telling.{Telling}

-- the time, who tells, how many events it had made before, and what it has told since, in this order
pub record Speech (Body : Type 0) : Type 0 where
  pub time : ℕ
  pub origin : ℕ
  pub made : ℕ
  pub told : List (Telling Body)

-- what an event tells that was made at a time
abbrev pub telling_of : {Body : Type 0} → (time : ℕ) → Event Body → Telling Body
telling_of time e = record { delay = e.key.time - time; target = e.target; body = e.body }
