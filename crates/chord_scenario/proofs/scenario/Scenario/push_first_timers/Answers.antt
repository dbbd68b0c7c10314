use Rattle.std.proofs.Common.{◌≡◌, ◌∙◌, ◌≤◌, sym, ap, arith, refl, subst, ◌+◌, ◌++◌, [], ◌∷◌, IfSome, List, Option, option_map, Some, Vec, Global}
use Rattle.std.proofs.lemmas.List.{append-nil}
use Rattle.chord_event.specs.declared.body.Body.{Body}
use Rattle.chord_event.specs.declared.body.Body.TheVariants as body
use Rattle.des_event.specs.declared.event.Event.{Event}
use Rattle.chord_scenario.specs.declared.setting.Churn.{Churn}
use Rattle.chord_scenario.specs.declared.setting.Span.{Span}
use Rattle.chord_scenario.specs.Range.{IsChurn, IsSpan, IsSpanUpTo}
use Rattle.chord_scenario.specs.Start.{at_first, first_span, stabilize_timer, finger_timer, traffic_timer, life_timer, check_timer, first_timers, timers}
use Rattle.chord_scenario.proofs.Starts.{row-some, row-none, timers_from, no_life, no_span, some_life, no_check, some_check}
use Rattle.chord_scenario.proofs.scenario.Scenario.push_first_timers.Goals as goal
use Rattle.chord_scenario.proofs.scenario.Scenario.push_first_timers.Goals.{Joined-churn, in-Some+in_ok-push_timer-3, in_default, then-churn+in-Some-churn_times+in_ok-push_timer-4, then-churn+in_default-churn_times, else-churn}

-- a span that a scenario names is one of a timer
of_timer : (span : Span) → IsSpan span → IsSpanUpTo 2000000000 span
of_timer span is = record { positive = is.positive; ordered = is.ordered; bounded = omega (arith, is.bounded) }

-- the events that were pushed before the check, with the timer of its row, are all
before_check : (c : Joined-churn)
    → c.if-churn.events.items ++ timers_from c.args.self.now c.args.node c.if-churn.place (option_map (at_first c.args.self.now) (check_timer c.args.self.now 1) ∷ [])
    ≡ c.args.events.now.items ++ first_timers c.args.self.now c.args.node
unfolding first_timers timers
before_check c =
    let sc = c.args.self.now in
    let n = c.args.node in
    let old = c.args.events.now.items in
    let all : List (Event Body) = old ++ first_timers sc n in
    let left : List (Option (Span × Body)) = option_map (at_first sc) (check_timer sc 1) ∷ [] in
    let one = row-some sc n (Some (at_first sc (finger_timer sc 1)) ∷ option_map (at_first sc) (traffic_timer sc 1) ∷ life_timer sc n 1 ∷ left)
    (Some (at_first sc (stabilize_timer sc 1))) 0 1 old c.push_timer.new.events.items all
    (c.first_span-stabilize.result, body.StabilizeTick 1)
    (ap (λ (s : Span). Some (s, body.StabilizeTick 1)) (sym (c.first_span-stabilize.ensures.value ∙ ap (first_span sc) c.stabilize_span.ensures.value))) refl c.in_ok-push_timer.ensures refl in
    let two = row-some sc n (option_map (at_first sc) (traffic_timer sc 1) ∷ life_timer sc n 1 ∷ left) (Some (at_first sc (finger_timer sc 1))) 1 2 c.push_timer.new.events.items c.push_timer-2.new.events.items all
    (c.first_span-finger.result, body.FingerTick 1)
    (ap (λ (s : Span). Some (s, body.FingerTick 1)) (sym (c.first_span-finger.ensures.value ∙ ap (first_span sc) c.finger_span.ensures.value))) refl c.in_ok-push_timer-2.ensures one in
    let three : c.match-lookups.events.items ++ timers_from sc n c.match-lookups.place (life_timer sc n 1 ∷ left) ≡ all =
    elim c.match-lookups.branch [
      | in-Some+in_ok-push_timer-3 w ↦
          row-some sc n (life_timer sc n 1 ∷ left) (option_map (at_first sc) (traffic_timer sc 1)) 2 c.match-lookups.place c.push_timer-2.new.events.items c.match-lookups.events.items all
          (w.first_span-first.result, body.TrafficTick 1)
          (ap (λ (o : Option Span). option_map (at_first sc) (option_map (λ gap. (gap, body.TrafficTick 1)) o)) (sym c.lookups.ensures ∙ w.in-Some.is)
          ∙ ap (λ (s : Span). Some (s, body.TrafficTick 1)) (sym w.first_span-first.ensures.value)) w.place-is
          (ap (λ (v : Vec (Event Body) Global). v.items) w.events-is ∙ w.in_ok-push_timer-3.ensures) two
      | in_default w ↦
          row-none sc n (life_timer sc n 1 ∷ left) (option_map (at_first sc) (traffic_timer sc 1)) 2 c.match-lookups.place c.push_timer-2.new.events.items c.match-lookups.events.items all
          (ap (λ (o : Option Span). option_map (at_first sc) (option_map (λ gap. (gap, body.TrafficTick 1)) o)) (sym c.lookups.ensures ∙ w.in_default.is)) w.place-is
          (ap (λ (v : Vec (Event Body) Global). v.items) w.events-is) two
    ] in
    elim c.if-churn.branch [
      | then-churn+in-Some-churn_times+in_ok-push_timer-4 w ↦
          row-some sc n left (life_timer sc n 1) c.match-lookups.place c.if-churn.place c.match-lookups.events.items c.if-churn.events.items all
          (w.in-Some-churn_times.churn.life, body.LifeEnd 1)
          (some_life sc n w.in-Some-churn_times.churn (sym c.churn.ensures ∙ w.if-churn.true) (sym w.churn_times.ensures ∙ w.in-Some-churn_times.is)) w.place-is
          (ap (λ (v : Vec (Event Body) Global). v.items) w.events-is ∙ w.in_ok-push_timer-4.ensures) three
      | then-churn+in_default-churn_times w ↦
          row-none sc n left (life_timer sc n 1) c.match-lookups.place c.if-churn.place c.match-lookups.events.items c.if-churn.events.items all
          (no_span sc n (sym w.churn_times.ensures ∙ w.in_default-churn_times.is)) w.place-is
          (ap (λ (v : Vec (Event Body) Global). v.items) w.events-is) three
      | else-churn w ↦
          row-none sc n left (life_timer sc n 1) c.match-lookups.place c.if-churn.place c.match-lookups.events.items c.if-churn.events.items all
          (no_life sc n (sym c.churn.ensures ∙ w.if-churn.false)) w.place-is
          (ap (λ (v : Vec (Event Body) Global). v.items) w.events-is) three
    ]

pub returns-in_default-check_span : goal.returns-in_default-check_span
returns-in_default-check_span c =
    let sc = c.args.self.now in
    let all = c.args.events.now.items ++ first_timers sc c.args.node in
    let none = no_check sc c.in_default-check_span.ensures.value in
    sym (append-nil c.if-churn.events.items)
    ∙ row-none sc c.args.node [] (option_map (at_first sc) (check_timer sc 1)) c.if-churn.place c.if-churn.place c.if-churn.events.items c.if-churn.events.items all
    none refl refl (before_check (goal.at.returns-in_default-check_span c).Joined-churn)

pub returns-in_ok-push_timer-5 : goal.returns-in_ok-push_timer-5
returns-in_ok-push_timer-5 c =
    let sc = c.args.self.now in
    let all = c.args.events.now.items ++ first_timers sc c.args.node in
    let first = c.first_span-check.result in
    let some = some_check sc c.in-Some-check_span.span first c.in-Some-check_span.ensures.value c.first_span-check.ensures.value in
    let last = c.push_timer-in-Some-check_span.new.events.items in
    sym (append-nil last)
    ∙ row-some sc c.args.node [] (option_map (at_first sc) (check_timer sc 1)) c.if-churn.place (c.if-churn.place + 1) c.if-churn.events.items last all
    (first, body.CheckTick 1) some refl c.in_ok-push_timer-5.ensures (before_check (goal.at.returns-in_ok-push_timer-5 c).Joined-churn)

pub first_span-first-requires : goal.first_span-first-requires
first_span-first-requires c =
    of_timer c.in-Some.gap (subst (λ (o : Option Span). IfSome o IsSpan) (sym c.in-Some.ensures) c.recall_range.ensures.lookups)

pub push_timer-requires-in-Some-clause-place : goal.push_timer-requires-in-Some-clause-place
push_timer-requires-in-Some-clause-place c = omega arith

pub push_timer-requires-in-Some-churn_times-clause-place : goal.push_timer-requires-in-Some-churn_times-clause-place
push_timer-requires-in-Some-churn_times-clause-place c =
    let few : c.match-lookups.place ≤ 3 = elim c.match-lookups.branch [
      | in-Some+in_ok-push_timer-3 w ↦ omega (arith, w.place-is)
      | in_default w ↦ omega (arith, w.place-is)
    ] in
    omega (arith, few)

pub push_timer-requires-in-Some-churn_times-clause-span : goal.push_timer-requires-in-Some-churn_times-clause-span
push_timer-requires-in-Some-churn_times-clause-span c =
    let is : IsChurn c.in-Some-churn_times.churn =
    subst (λ (o : Option Churn). IfSome o IsChurn) (sym c.in-Some-churn_times.ensures) c.recall_range.ensures.churn in
    of_timer c.in-Some-churn_times.churn.life is.life

pub overflow_add-place-in-Some-churn_times : goal.overflow_add-place-in-Some-churn_times
overflow_add-place-in-Some-churn_times c =
    let few : c.match-lookups.place ≤ 3 = elim c.match-lookups.branch [
      | in-Some+in_ok-push_timer-3 w ↦ omega (arith, w.place-is)
      | in_default w ↦ omega (arith, w.place-is)
    ] in
    omega (arith, few)

pub push_timer-requires-in-Some-check_span-clause-place : goal.push_timer-requires-in-Some-check_span-clause-place
push_timer-requires-in-Some-check_span-clause-place c =
    let few : c.match-lookups.place ≤ 3 = elim c.match-lookups.branch [
      | in-Some+in_ok-push_timer-3 w ↦ omega (arith, w.place-is)
      | in_default w ↦ omega (arith, w.place-is)
    ] in
    let all : c.if-churn.place ≤ 4 = elim c.if-churn.branch [
      | then-churn+in-Some-churn_times+in_ok-push_timer-4 w ↦ omega (arith, few, w.place-is)
      | then-churn+in_default-churn_times w ↦ omega (arith, few, w.place-is)
      | else-churn w ↦ omega (arith, few, w.place-is)
    ] in
    omega (arith, all)
