-- What a teller keeps inside.
use Rattle.std.specs.Prelude.{◌≡◌, ◌-◌, ◌≤◌, length, map}
use Rattle.des_protocol.specs.declared.teller.Teller.TheInside as teller
use Rattle.des_protocol.specs.Numbered.{events_of}
use Rattle.des_protocol.specs.Tellers.{telling_of}

-- the teller's events are those of its tellings, and are counted
pub record IsNumbered {Body : Type 0} (t : teller.Inside Body) : Type 0 where
  pub counted : length t.events.items ≤ t.made
  pub are : t.events.items ≡ events_of t.time t.origin (t.made - length t.events.items) (map (telling_of t.time) t.events.items)
