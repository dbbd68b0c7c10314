-- The lives of a node: it begins one each time that it joins, and numbers them.
use Rattle.std.specs.Prelude.{ℕ, Option, Some, None}
use Rattle.chord_event.specs.declared.body.Body.{Body}
use Rattle.chord_event.specs.declared.body.Body.TheVariants as body

-- the life in which a timer was set; the other events belong to no life
abbrev pub life_of : Body → Option ℕ
life_of (body.StabilizeTick epoch) = Some epoch
life_of (body.FingerTick epoch) = Some epoch
life_of (body.TrafficTick epoch) = Some epoch
life_of (body.CheckTick epoch) = Some epoch
life_of (body.LifeEnd epoch) = Some epoch
life_of (body.Rise epoch) = Some epoch
life_of (body.Rejoin epoch) = Some epoch
life_of _ = None
