use Rattle.des_event.specs.declared.event.Event.{Event}
use Rattle.des_event.specs.declared.key.Key.{Key}

-- the key of an event
abbrev pub event_key : {B : Type 0} → Event B → Key
event_key e = e.key
