-- A turn that has gone on can act again, as far as it has room left.
use Rattle.std.proofs.Common.{◌≡◌, ◌∙◌, ℕ, ◌+◌, ◌^◌, ◌<◌, ◌≤◌, Bool, Err, None, Ok, OnOk, Option, Result, Some, arith, false, refl, subst, sym, true}
use Rattle.std.specs.Prelude.{if◌then◌else◌}
use Rattle.chord_event.specs.declared.line.Line.{Line}
use Rattle.chord_scenario.specs.declared.scenario.Scenario.{Scenario}
use Rattle.chord_scenario.specs.World.{node_count}
use Rattle.chord_ops.specs.declared.turn.Turn.{Turn}
use Rattle.chord_ops.specs.Turns.{CanAct, GoesOn, noted, when_some}

-- what is left for a turn that has made some events and drawn some words
pub acts_on : (sc : Scenario) (events words made drawn left rest : ℕ) (old new : Turn) → CanAct sc events words old → GoesOn made drawn old new
    → made + left ≤ events → drawn + rest ≤ words → CanAct sc left rest new
acts_on sc events words made drawn left rest old new able gone room place =
    record {
      scenario = able.scenario;
      me = subst (λ (n : ℕ). n < node_count sc) (sym gone.me) able.me;
      time = subst (λ (n : ℕ). n < 2 ^ 40) (sym gone.time) able.time;
      room = omega (arith, able.room, gone.room, room);
      place = omega (arith, able.place, gone.place, place);
    }

-- a turn that goes on twice goes on as far as both together
pub goes_further : (made drawn more again events words : ℕ) (old mid new : Turn) → GoesOn made drawn old mid → GoesOn more again mid new
    → made + more ≤ events → drawn + again ≤ words → GoesOn events words old new
goes_further made drawn more again events words old mid new first second room place =
    record {
      time = second.time ∙ first.time;
      me = second.me ∙ first.me;
      room = omega (arith, first.room, second.room, room);
      place = omega (arith, first.place, second.place, place);
    }

-- what follows from what holds if no allocation failed
pub when_ok : {A E P Q : Type 0} (r : Result A E) → (P → Q) → OnOk r P → OnOk r Q
when_ok (Ok x) f p = f p
when_ok (Err e) f p = tt

-- what a turn is if no allocation failed
pub equal_on_ok : {A E : Type 0} (r : Result A E) (new made wanted : Turn) → made ≡ wanted → OnOk r (new ≡ made) → OnOk r (new ≡ wanted)
equal_on_ok (Ok x) new made wanted same is = is ∙ same
equal_on_ok (Err e) new made wanted same is = tt

-- a turn that adds a line
pub notes_on : (line : Line) (old new : Turn) → new ≡ noted line old → GoesOn 0 0 old new
notes_on line old new is = rw is (record { time = refl; me = refl; room = omega arith; place = omega arith })

-- a step with a value, if there is one
pub with_some : {A : Type 0} (o : Option A) (value : A) (step : A → Turn → Turn) (old new : Turn) → o ≡ Some value → new ≡ step value old
    → new ≡ when_some o step old
with_some o value step old new is made = rw is made

-- a step without a value
pub with_none : {A : Type 0} (o : Option A) (step : A → Turn → Turn) (old new : Turn) → o ≡ None → new ≡ old
    → new ≡ when_some o step old
with_none o step old new is made = rw is made

-- the second and the third of three ways
pub second_way : (a b : Bool) (x y z : Turn) → a ≡ false → b ≡ true → (if a then x else if b then y else z) ≡ y
second_way a b x y z first second = rw (first, second) refl

pub third_way : (a b : Bool) (x y z : Turn) → a ≡ false → b ≡ false → (if a then x else if b then y else z) ≡ z
third_way a b x y z first second = rw (first, second) refl

-- a turn goes on from one that is as far
pub goes_from : (events words : ℕ) (old mid new : Turn) → GoesOn events words mid new → mid.time ≡ old.time → mid.state.me ≡ old.state.me
    → mid.state.count ≤ old.state.count → mid.state.place ≤ old.state.place → GoesOn events words old new
goes_from events words old mid new on time me room place =
    record { time = on.time ∙ time; me = on.me ∙ me; room = omega (arith, on.room, room); place = omega (arith, on.place, place) }
