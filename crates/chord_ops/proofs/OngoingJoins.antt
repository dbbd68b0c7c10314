-- What a node waits for stays pending while it comes up, joins and goes down.
use Rattle.std.proofs.Common.{◌≡◌, ◌≢◌, ◌==◌, ◌*◌, ℕ, ◌+◌, ◌-◌, ◌<◌, ◌≤◌, Bool, true, false, cond, nat_lt, List, [], ◌∷◌, ◌++◌, Option, Some, None, option_map, refl, sym, ◌∙◌, ap, subst, arith}
use Rattle.std.proofs.lemmas.Bool.Decides.{nat_tests}
use Rattle.std.specs.List.{AllByRecursion}
use Rattle.std.specs.Prelude.{IfSome, IsSome, is_some, replicate, if◌then◌else◌}
use Rattle.chord_event.specs.declared.body.Body.{Body}
use Rattle.chord_event.specs.declared.body.Body.TheVariants as body
use Rattle.des_event.specs.declared.event.Event.{Event}
use Rattle.chord_event.specs.declared.line.Line.TheVariants as line
use Rattle.chord_scenario.specs.declared.scenario.Scenario.{Scenario}
use Rattle.chord_scenario.specs.declared.setting.Churn.{Churn}
use Rattle.chord_scenario.specs.declared.setting.Span.{Span}
use Rattle.chord_scenario.specs.Draws.{delay}
use Rattle.chord_scenario.specs.Range.{IsInRange}
use Rattle.chord_scenario.specs.Start.{at_first, check_timer, jittered, life_timer, timer_table, traffic_timer}
use Rattle.chord_scenario.specs.World.{is_churn_node}
use Rattle.chord_node.specs.declared.state.Attempt.{Attempt}
use Rattle.chord_node.specs.declared.state.Call.{Call}
use Rattle.chord_node.specs.declared.state.Purpose.TheVariants as purpose
use Rattle.chord_node.specs.declared.state.Status.{Status}
use Rattle.chord_node.specs.declared.state.Status.TheVariants as status
use Rattle.chord_node.specs.Invariant.{calls_for, is_for_join}
use Rattle.chord_node.specs.Limits.{most_failures}
use Rattle.chord_ops.specs.declared.turn.Turn.{Turn}
use Rattle.chord_ops.specs.Procedures.{alone, armed, as_member, came_up, created, for_attempt, fresh_attempt, gone_down, is_founder, join_begun, join_ended, join_failed, join_given_up, join_paused, join_retried, other_via, own_step, rise_armed, risen, rows_armed, stranded, stranded_lines, via_after, via_moved, with_attempt, without_attempt}
use Rattle.chord_ops.specs.Timers.{Timer, is_timer, wanted}
use Rattle.chord_ops.specs.Timers.Timer.{Stabilize, Finger, Traffic, Life, Check, Rejoin, Timeout}
use Rattle.chord_ops.specs.Turns.{after_words, made, noted, timer_made}
use Rattle.chord_ops.proofs.KeptRules.{none_of}
use Rattle.chord_ops.proofs.Growing.{known}
use Rattle.chord_ops.proofs.KeptJoins.{same_armed, same_rows_armed}
use Rattle.chord_ops.proofs.TimerTable.{IfSome-if, IfSome-map}
use Rattle.chord_ops.specs.Ongoing.{FitsJoin, FitsTick, IsOngoing, is_lived, is_tick, waits}
use Rattle.chord_ops.proofs.Ongoing.{going_called, going_if, going_made, going_when, going_with, joins_alike, not_set, same_node, other_node, set_elsewhere, set_for-push, set_here, tick_lived, ticks_alike}

module _ (sc : Scenario) (claim : Timer → ℕ) (rest : List (Event Body)) where
  -- a joining node becomes a member
  pub going_as_member : (prdc : Option ℕ) (succ fingers : List ℕ) (turn : Turn) → turn.state.status ≡ status.Joining
      → IsOngoing sc claim 1 rest turn → IsOngoing sc claim 0 rest (record turn { state = as_member prdc succ fingers turn.state })
  going_as_member prdc succ fingers turn joining h =
      let pauses : ℕ = waits turn.state.me Rejoin turn.state.epoch rest turn.events in
      let calls : ℕ = calls_for is_for_join turn.state.calls in
      let one : calls + (pauses + 1) ≡ 1 = subst (λ (s : Status). FitsJoin s calls (pauses + 1)) joining h.joins in
      record {
        timed = h.timed;
        seldom = h.seldom;
        later = h.later;
        ticks = λ t is.
            subst (λ (s : Status). FitsTick s (waits turn.state.me t turn.state.epoch rest turn.events) (claim t)) joining (h.ticks t is);
        joins = omega (arith, one);
        own = h.own;
      }

  going_created : (turn : Turn) → turn.state.status ≡ status.Joining → IsOngoing sc claim 1 rest turn → IsOngoing sc claim 0 rest (created sc turn)
  unfolding created
  going_created turn joining h = going_as_member turn.state.prdc (turn.state.me ∷ []) (replicate (sc.bits - 1) turn.state.me) turn joining h

  going_join_begun : (avoid : List ℕ) (via : ℕ) (turn : Turn) → turn.state.status ≡ status.Joining → IsOngoing sc claim 1 rest turn
      → IsOngoing sc claim 0 rest (join_begun sc avoid via turn)
  unfolding join_begun
  going_join_begun avoid via turn joining h =
      going_if (IsOngoing sc claim 0 rest) (via == turn.state.me) _ _
      (λ own. going_created turn joining h)
      (λ other. going_called sc claim rest via (own_step sc avoid turn.state) purpose.JoinStep turn h)

  pub going_join_retried : (attempt : Attempt) (turn : Turn) → turn.state.status ≡ status.Joining → IsSome turn.state.via
      → IsOngoing sc claim 1 rest turn → IsOngoing sc claim 0 rest (join_retried sc attempt turn)
  unfolding join_retried
  going_join_retried attempt turn joining has h =
      going_with (IsOngoing sc claim 0 rest) turn.state.via (join_begun sc attempt.avoid) (with_attempt (record attempt { steps = 0 }) turn) has
      (λ via found. going_join_begun attempt.avoid via (with_attempt (record attempt { steps = 0 }) turn) joining h)

  -- a pause begins
  going_pause : (pause : ℕ) (turn : Turn) → turn.state.status ≡ status.Joining → IsOngoing sc claim 1 rest turn
      → IsOngoing sc claim 0 rest (made pause turn.state.me (body.Rejoin turn.state.epoch) turn)
  going_pause pause turn joining h =
      let me : ℕ = turn.state.me in
      let epoch : ℕ = turn.state.epoch in
      let e : Event Body =
      record {
        key = record { time = turn.time + pause; origin = 2 + me; number = turn.state.count + 1 };
        target = me;
        body = body.Rejoin epoch;
      } in
      let push : (t : Timer) (number : ℕ) → waits me t number rest (turn.events ++ e ∷ []) ≡ waits me t number rest turn.events + cond (is_timer
      (body.Rejoin epoch) t number) 1 0 = λ t number.
      omega (arith, set_for-push me t number turn.events e, set_here me t number e refl) in
      let one : calls_for is_for_join turn.state.calls + (waits me Rejoin epoch rest turn.events + 1) ≡ 1 =
      subst (λ (s : Status). FitsJoin s (calls_for is_for_join turn.state.calls) (waits me Rejoin epoch rest turn.events + 1)) joining h.joins in
      let here : ◌≡◌ {A = ℕ} (cond (epoch == epoch) 1 0) 1 = ap (λ (b : Bool). cond b 1 0) (same_node epoch) in
      record {
        timed = λ number.
            let was = h.timed number in
            record {
              enough = omega (arith, was.enough, push Timeout number);
              once = omega (arith, was.once, push Timeout number);
              counted = λ above. omega (arith, was.counted (omega (arith, above)), push Timeout number);
            };
        seldom = h.seldom;
        later = λ t number lived above.
            omega (arith, h.later t number lived above, push t number, not_yet t number epoch above);
        ticks = λ t is. ticks_alike turn.state.status _ (claim t) _ (omega (arith, push t epoch, no_tick t epoch epoch is)) (h.ticks t is);
        joins =
            subst (λ (s : Status). FitsJoin s (calls_for is_for_join turn.state.calls) (waits me Rejoin epoch rest (turn.events ++ e ∷ []) + 0)) (sym joining)
            (omega (arith, one, push Rejoin epoch, here));
        own = λ n t number apart.
            omega (arith, set_for-push n t number turn.events e, set_elsewhere n t number e (other_node me n apart), h.own n t number apart);
      }
    where
      not_yet : (t : Timer) (number epoch : ℕ) → epoch < number → ◌≡◌ {A = ℕ} (cond (is_timer (body.Rejoin epoch) t number) 1 0) 0
      not_yet Rejoin number epoch above =
          let apart : (epoch == number) ≡ false = grind (arith, nat_tests) in ap (λ (b : Bool). cond b 1 0) apart
      not_yet _ number epoch above = refl

      no_tick : (t : Timer) (number epoch : ℕ) → is_tick t ≡ true → ◌≡◌ {A = ℕ} (cond (is_timer (body.Rejoin epoch) t number) 1 0) 0
      no_tick Rejoin number epoch is = absurd (cc)
      no_tick _ number epoch is = refl

  going_join_paused : (pause : ℕ) (attempt : Attempt) (turn : Turn) → turn.state.status ≡ status.Joining → IsSome turn.state.via
      → IsOngoing sc claim 1 rest turn → IsOngoing sc claim 0 rest (join_paused sc pause attempt turn)
  unfolding join_paused
  going_join_paused pause attempt turn joining has h =
      going_if (IsOngoing sc claim 0 rest) (pause == 0) _ _
      (λ at_once. going_join_retried attempt turn joining has h)
      (λ after. going_pause pause (with_attempt (record attempt { steps = 0 }) turn) joining h)

  -- what is down waits for nothing
  pub going_down : (owed : ℕ) (turn : Turn) → IsOngoing sc claim owed rest turn → IsOngoing sc claim 0 rest (gone_down sc turn)
  going_down owed turn h =
      record {
        timed = λ number. record { enough = omega arith; once = (h.timed number).once; counted = (h.timed number).counted };
        seldom = none_of (λ (c : Call). c.resent ≤ sc.retries);
        later = h.later;
        ticks = λ t is. tt;
        joins = tt;
        own = h.own;
      }

  pub going_rise_armed : (turn : Turn) → IsOngoing sc claim 0 rest turn → IsOngoing sc claim 0 rest (rise_armed sc turn)
  unfolding rise_armed timer_made
  going_rise_armed turn h =
      going_if (IsOngoing sc claim 0 rest) (is_churn_node sc turn.state.me) _ turn
      (λ churns. going_when (IsOngoing sc claim 0 rest) sc.churn _ turn h
      (λ churn set.
      going_made sc claim rest 0 (delay sc turn.state.me turn.state.place turn.time churn.down (body.Rise turn.state.epoch)) turn.state.me
      (body.Rise turn.state.epoch) (record turn { state = after_words 1 turn.state }) (λ t number. refl) h))
      (λ stays. h)

  going_join_given_up : (turn : Turn) → turn.state.status ≡ status.Joining → IsSome turn.state.via
      → IsOngoing sc claim 1 rest turn → IsOngoing sc claim 0 rest (join_given_up sc turn)
  unfolding join_given_up
  going_join_given_up turn joining has h =
      going_if (IsOngoing sc claim 0 rest) sc.join_forever _ _
      (λ forever. going_join_paused ((most_failures + 1) * sc.join_pause) fresh_attempt turn joining has h)
      (λ over. going_rise_armed (gone_down sc turn) (going_down 1 turn h))

  going_join_ended : (attempt : Attempt) (turn : Turn) → turn.state.status ≡ status.Joining → IsSome turn.state.via
      → IsOngoing sc claim 1 rest turn → IsOngoing sc claim 0 rest (join_ended sc attempt turn)
  unfolding join_ended
  going_join_ended attempt turn joining has h =
      going_if (IsOngoing sc claim 0 rest) (is_founder sc turn.state.me attempt) _ _
      (λ founds. going_created (noted line.JoinFailed turn) joining h)
      (λ others. going_join_given_up (noted line.JoinFailed turn) joining has h)

  moved_has : (f : ℕ → ℕ) (o : Option ℕ) → IsSome o → IsSome (option_map f o)
  moved_has f None has = absurd (cc)
  moved_has f (Some via) has = refl

  pub going_join_failed : (attempt : Attempt) (turn : Turn) → turn.state.status ≡ status.Joining → IsSome turn.state.via
      → IsOngoing sc claim 1 rest turn → IsOngoing sc claim 0 rest (join_failed sc attempt turn)
  unfolding join_failed
  going_join_failed attempt turn joining has h =
      let moved : IsSome (via_moved sc turn).state.via = moved_has (via_after sc turn.state.me) turn.state.via has in
      going_if (IsOngoing sc claim 0 rest) (nat_lt attempt.failures most_failures) _ _
      (λ again. going_join_paused sc.join_pause (record attempt { failures = attempt.failures + 1 }) (via_moved sc turn) joining moved h)
      (λ over. going_join_ended attempt (via_moved sc turn) joining moved h)

  cleared_joins : (s : Status) (calls pauses : ℕ) → s ≡ status.Member → FitsJoin s calls pauses → FitsJoin s 0 pauses
  cleared_joins status.Down calls pauses is h = tt
  cleared_joins status.Joining calls pauses is h = absurd (cc)
  cleared_joins status.Member calls pauses is h = omega (arith, h)

  -- a member without calls
  pub going_cleared : (turn : Turn) → turn.state.status ≡ status.Member → IsOngoing sc claim 0 rest turn
      → IsOngoing sc claim 0 rest (record turn { state = record turn.state { calls = [] } })
  going_cleared turn member h =
      record {
        timed = λ number. record { enough = omega arith; once = (h.timed number).once; counted = (h.timed number).counted };
        seldom = none_of (λ (c : Call). c.resent ≤ sc.retries);
        later = h.later;
        ticks = h.ticks;
        joins =
            cleared_joins turn.state.status (calls_for is_for_join turn.state.calls)
            (waits turn.state.me Rejoin turn.state.epoch rest turn.events + 0) member h.joins;
        own = h.own;
      }

  -- a member is stranded
  pub going_stranded : (via : ℕ) (turn : Turn) → turn.state.status ≡ status.Member
      → IsOngoing sc claim 0 rest (record turn { state = record turn.state { calls = [] } }) → IsOngoing sc claim 0 rest (stranded sc via turn)
  unfolding stranded
  going_stranded via turn member h =
      let next : ℕ = other_via sc turn.state.me via in
      let pauses : ℕ = waits turn.state.me Rejoin turn.state.epoch rest turn.events in
      let none : 0 + (pauses + 0) ≡ 0 = subst (λ (s : Status). FitsJoin s 0 (pauses + 0)) member h.joins in
      going_join_begun [] next
      (record turn { state = alone next turn.state; lines = turn.lines ++ stranded_lines next turn.time turn.state.lookups }) refl
      (record {
        timed = h.timed;
        seldom = h.seldom;
        later = h.later;
        ticks = λ t is.
            subst (λ (s : Status). FitsTick s (waits turn.state.me t turn.state.epoch rest turn.events) (claim t)) member (h.ticks t is);
        joins = omega (arith, none);
        own = h.own;
      })

  -- the step with the attempt of a joining node
  pub going_for_attempt : (step : Attempt → Turn → Turn) (turn : Turn) → IsSome turn.state.join
      → ((attempt : Attempt) → IsOngoing sc claim 0 rest (step attempt (without_attempt turn))) → IsOngoing sc claim 0 rest (for_attempt step turn)
  unfolding for_attempt
  going_for_attempt step turn has go =
      going_with (IsOngoing sc claim 0 rest) turn.state.join (λ attempt. λ t. step attempt (without_attempt t)) turn has (λ attempt found. go attempt)

-- The timers of a life

-- a tick of this life
pub record IsTickOf (epoch : ℕ) (message : Body) : Type 0 where
  pub no_timeout : (number : ℕ) → is_timer message Timeout number ≡ false
  pub no_pause : (number : ℕ) → is_timer message Rejoin number ≡ false
  pub others : (t : Timer) (number : ℕ) → number ≢ epoch → is_timer message t number ≡ false

-- a row that has one, if it has any
abbrev pub HasTickOf : (epoch : ℕ) → Option (Span × Body) → Type 0
HasTickOf epoch row = IfSome row (λ timer. IsTickOf epoch timer.1)

pub stabilize_is : (epoch : ℕ) → IsTickOf epoch (body.StabilizeTick epoch)
stabilize_is epoch = record { no_timeout = λ number. refl; no_pause = λ number. refl; others = others }
  where
    others : (t : Timer) (number : ℕ) → number ≢ epoch → is_timer (body.StabilizeTick epoch) t number ≡ false
    others Stabilize number apart = other_node epoch number apart
    others _ number apart = refl

pub finger_is : (epoch : ℕ) → IsTickOf epoch (body.FingerTick epoch)
finger_is epoch = record { no_timeout = λ number. refl; no_pause = λ number. refl; others = others }
  where
    others : (t : Timer) (number : ℕ) → number ≢ epoch → is_timer (body.FingerTick epoch) t number ≡ false
    others Finger number apart = other_node epoch number apart
    others _ number apart = refl

pub traffic_is : (epoch : ℕ) → IsTickOf epoch (body.TrafficTick epoch)
traffic_is epoch = record { no_timeout = λ number. refl; no_pause = λ number. refl; others = others }
  where
    others : (t : Timer) (number : ℕ) → number ≢ epoch → is_timer (body.TrafficTick epoch) t number ≡ false
    others Traffic number apart = other_node epoch number apart
    others _ number apart = refl

pub life_is : (epoch : ℕ) → IsTickOf epoch (body.LifeEnd epoch)
life_is epoch = record { no_timeout = λ number. refl; no_pause = λ number. refl; others = others }
  where
    others : (t : Timer) (number : ℕ) → number ≢ epoch → is_timer (body.LifeEnd epoch) t number ≡ false
    others Life number apart = other_node epoch number apart
    others _ number apart = refl

pub check_is : (epoch : ℕ) → IsTickOf epoch (body.CheckTick epoch)
check_is epoch = record { no_timeout = λ number. refl; no_pause = λ number. refl; others = others }
  where
    others : (t : Timer) (number : ℕ) → number ≢ epoch → is_timer (body.CheckTick epoch) t number ≡ false
    others Check number apart = other_node epoch number apart
    others _ number apart = refl

-- how many ticks of a kind rows set
abbrev claim_of : Option (Span × Body) → (epoch : ℕ) → Timer → ℕ
claim_of None epoch t = 0
claim_of (Some row) epoch t = cond (is_timer row.1 t epoch) 1 0

abbrev claims_of : List (Option (Span × Body)) → (epoch : ℕ) → Timer → ℕ
claims_of [] epoch t = 0
claims_of (row ∷ rows) epoch t = claim_of row epoch t + claims_of rows epoch t

-- other claims that are the same
reclaimed : (sc : Scenario) (old new : Timer → ℕ) (rest : List (Event Body)) (turn : Turn) → ((t : Timer) → is_tick t ≡ true → old t ≡ new t)
    → IsOngoing sc old 1 rest turn → IsOngoing sc new 1 rest turn
reclaimed sc old new rest turn same h =
    record {
      timed = h.timed;
      seldom = h.seldom;
      later = h.later;
      ticks = λ t is. subst (λ (n : ℕ). FitsTick turn.state.status (waits turn.state.me t turn.state.epoch rest turn.events) n) (same t is) (h.ticks t is);
      joins = h.joins;
      own = h.own;
    }

-- a tick more is set
going_ticked : (sc : Scenario) (claim : Timer → ℕ) (rest : List (Event Body)) (wait : ℕ) (message : Body) (turn : Turn) → turn.state.status ≡ status.Joining
    → IsTickOf turn.state.epoch message → IsOngoing sc claim 1 rest turn
    → IsOngoing sc (λ t. claim t + cond (is_timer message t turn.state.epoch) 1 0) 1 rest (made wait turn.state.me message turn)
going_ticked sc claim rest wait message turn joining is h =
    let me : ℕ = turn.state.me in
    let epoch : ℕ = turn.state.epoch in
    let e : Event Body =
    record { key = record { time = turn.time + wait; origin = 2 + me; number = turn.state.count + 1 }; target = me; body = message } in
    let push : (t : Timer) (number : ℕ) → waits me t number rest (turn.events ++ e ∷ []) ≡ waits me t number rest turn.events + cond
    (is_timer message t number) 1 0 = λ t number.
    omega (arith, set_for-push me t number turn.events e, set_here me t number e refl) in
    let none : (t : Timer) (number : ℕ) → is_timer message t number ≡ false → waits me t number rest turn.events ≡ waits me t number rest
    (turn.events ++ e ∷ []) = λ t number other.
    omega (arith, set_for-push me t number turn.events e, not_set me t number e other) in
    record {
      timed = λ number.
          let was = h.timed number in
          record {
            enough = omega (arith, was.enough, none Timeout number (is.no_timeout number));
            once = omega (arith, was.once, none Timeout number (is.no_timeout number));
            counted = λ above. omega (arith, was.counted (omega (arith, above)), none Timeout number (is.no_timeout number));
          };
      seldom = h.seldom;
      later = λ t number lived above. omega (arith, h.later t number lived above, none t number (is.others t number (λ same. omega (arith, above, same))));
      ticks = λ t tick.
          let was : waits me t epoch rest turn.events ≡ claim t =
          subst (λ (s : Status). FitsTick s (waits me t epoch rest turn.events) (claim t)) joining (h.ticks t tick) in
          subst (λ (s : Status). FitsTick s (waits me t epoch rest (turn.events ++ e ∷ [])) (claim t + cond (is_timer message t epoch) 1 0)) (sym joining)
          (omega (arith, was, push t epoch));
      joins =
          joins_alike turn.state.status (calls_for is_for_join turn.state.calls) (waits me Rejoin epoch rest turn.events + 1) _ _
          (omega (arith, none Rejoin epoch (is.no_pause epoch))) h.joins;
      own = λ n t number apart.
          omega (arith, set_for-push n t number turn.events e, set_elsewhere n t number e (other_node me n apart), h.own n t number apart);
    }

going_rows : (sc : Scenario) (claim : Timer → ℕ) (rest : List (Event Body)) (rows : List (Option (Span × Body))) (turn : Turn)
    → turn.state.status ≡ status.Joining → AllByRecursion (HasTickOf turn.state.epoch) rows
    → IsOngoing sc claim 1 rest turn → IsOngoing sc (λ t. claim t + claims_of rows turn.state.epoch t) 1 rest (rows_armed sc rows turn)
unfolding timer_made
going_rows sc claim rest [] turn joining all h = reclaimed sc claim (λ t. claim t + 0) rest turn (λ t is. omega arith) h
going_rows sc claim rest (None ∷ rows) turn joining all h =
    reclaimed sc (λ t. claim t + claims_of rows turn.state.epoch t) (λ t. claim t + (0 + claims_of rows turn.state.epoch t)) rest (rows_armed sc rows turn)
    (λ t is. omega arith)
    (going_rows sc claim rest rows turn joining all.1 h)
going_rows sc claim rest (Some row ∷ rows) turn joining all h =
    let next : Turn = timer_made sc row.0 row.1 turn in
    let epoch : ℕ = turn.state.epoch in
    reclaimed sc (λ t. claim t + cond (is_timer row.1 t epoch) 1 0 + claims_of rows epoch t) (λ t. claim t + (cond
    (is_timer row.1 t epoch) 1 0 + claims_of rows epoch t)) rest (rows_armed sc rows next)
    (λ t is. omega arith)
    (going_rows sc (λ t. claim t + cond (is_timer row.1 t epoch) 1 0) rest rows next joining all.1
    (going_ticked sc claim rest (delay sc turn.state.me turn.state.place turn.time row.0 row.1) row.1 (record turn { state = after_words 1 turn.state })
    joining all.0 h))

-- The table of timers claims what the scenario wants

claim_first : (sc : Scenario) (row : Option (Span × Body)) (epoch : ℕ) (t : Timer) → claim_of (option_map (at_first sc) row) epoch t ≡ claim_of row epoch t
claim_first sc None epoch t = refl
claim_first sc (Some row) epoch t = refl

claim_mapped : {A : Type 0} (f : A → Span × Body) (o : Option A) (epoch : ℕ) (t : Timer) (b : Bool) → ((a : A) → is_timer (f a).1 t epoch ≡ b)
    → claim_of (option_map f o) epoch t ≡ (if is_some o then cond b 1 0 else 0)
claim_mapped f None epoch t b is = refl
claim_mapped f (Some a) epoch t b is = ap (λ (v : Bool). cond v 1 0) (is a)

claim_if : (b : Bool) (row : Option (Span × Body)) (epoch : ℕ) (t : Timer)
    → claim_of (if b then row else None) epoch t ≡ (if b then claim_of row epoch t else 0)
claim_if true row epoch t = refl
claim_if false row epoch t = refl

claim_unless : (b : Bool) (row : Option (Span × Body)) (epoch : ℕ) (t : Timer)
    → claim_of (if b then None else row) epoch t ≡ (if b then 0 else claim_of row epoch t)
claim_unless true row epoch t = refl
claim_unless false row epoch t = refl

nothing : (b : Bool) → ◌≡◌ {A = ℕ} (if b then 0 else 0) 0
nothing true = refl
nothing false = refl

module _ (sc : Scenario) (n epoch : ℕ) (ranges : IsInRange sc) where
  traffic_claim : (t : Timer) (b : Bool) → is_timer (body.TrafficTick epoch) t epoch ≡ b
      → claim_of (option_map (at_first sc) (traffic_timer sc epoch)) epoch t ≡ (if is_some sc.lookups then cond b 1 0 else 0)
  traffic_claim t b is =
      claim_first sc (traffic_timer sc epoch) epoch t ∙ claim_mapped (λ (gap : Span). (gap, body.TrafficTick epoch)) sc.lookups epoch t b (λ gap. is)

  life_claim : (t : Timer) (b : Bool) → is_timer (body.LifeEnd epoch) t epoch ≡ b
      → claim_of (life_timer sc n epoch) epoch t ≡ (if is_churn_node sc n then cond b 1 0 else 0)
  life_claim t b is = claim_if (is_churn_node sc n) _ epoch t ∙ by (is_churn_node sc n) refl
    where
      by : (c : Bool) → is_churn_node sc n ≡ c
          → (if c then claim_of (option_map (λ (churn : Churn). (churn.life, body.LifeEnd epoch)) sc.churn) epoch t else 0) ≡ (if c then cond b 1 0 else 0)
      by true churns =
          claim_mapped (λ (churn : Churn). (churn.life, body.LifeEnd epoch)) sc.churn epoch t b (λ churn. is)
          ∙ ap (λ (v : Bool). if v then cond b 1 0 else 0) (ranges.churn_is_set n churns)
      by false stays = refl

  check_claim : (t : Timer) (b : Bool) → is_timer (body.CheckTick epoch) t epoch ≡ b
      → claim_of (option_map (at_first sc) (check_timer sc epoch)) epoch t ≡ (if sc.check == 0 then 0 else cond b 1 0)
  check_claim t b is =
      claim_first sc (check_timer sc epoch) epoch t ∙ claim_unless (sc.check == 0) _ epoch t
      ∙ ap (λ (v : Bool). if sc.check == 0 then 0 else cond v 1 0) is

  traffic_none : (t : Timer) → is_timer (body.TrafficTick epoch) t epoch ≡ false
      → ◌≡◌ {A = ℕ} (claim_of (option_map (at_first sc) (traffic_timer sc epoch)) epoch t) 0
  traffic_none t is = traffic_claim t false is ∙ nothing (is_some sc.lookups)

  life_none : (t : Timer) → is_timer (body.LifeEnd epoch) t epoch ≡ false → ◌≡◌ {A = ℕ} (claim_of (life_timer sc n epoch) epoch t) 0
  life_none t is = life_claim t false is ∙ nothing (is_churn_node sc n)

  check_none : (t : Timer) → is_timer (body.CheckTick epoch) t epoch ≡ false
      → ◌≡◌ {A = ℕ} (claim_of (option_map (at_first sc) (check_timer sc epoch)) epoch t) 0
  check_none t is = check_claim t false is ∙ nothing (sc.check == 0)

  table_claims : (t : Timer) → is_tick t ≡ true → claims_of (timer_table sc n epoch) epoch t ≡ wanted sc n t
  table_claims Stabilize is =
      let one : ◌≡◌ {A = ℕ} (cond (epoch == epoch) 1 0) 1 = ap (λ (b : Bool). cond b 1 0) (same_node epoch) in
      omega (arith, one, traffic_none Stabilize refl, life_none Stabilize refl, check_none Stabilize refl)
  table_claims Finger is =
      let one : ◌≡◌ {A = ℕ} (cond (epoch == epoch) 1 0) 1 = ap (λ (b : Bool). cond b 1 0) (same_node epoch) in
      omega (arith, one, traffic_none Finger refl, life_none Finger refl, check_none Finger refl)
  table_claims Traffic is =
      omega (arith, traffic_claim Traffic true (same_node epoch), life_none Traffic refl, check_none Traffic refl)
  table_claims Life is =
      omega (arith, traffic_none Life refl, life_claim Life true (same_node epoch), check_none Life refl)
  table_claims Check is =
      omega (arith, traffic_none Check refl, life_none Check refl, check_claim Check true (same_node epoch))
  table_claims Rejoin is = absurd (cc)
  table_claims Timeout is = absurd (cc)

-- each row of the table is a tick of the life
pub table_of_life : (sc : Scenario) (n epoch : ℕ) → AllByRecursion (HasTickOf epoch) (timer_table sc n epoch)
table_of_life sc n epoch =
    let is : Span × Body → Type 0 = λ timer. IsTickOf epoch timer.1 in (
      stabilize_is epoch,
      (
        finger_is epoch,
        (
          IfSome-map is is (at_first sc) (traffic_timer sc epoch)
              (IfSome-map (λ _. Unit {0}) is (λ gap. (gap, body.TrafficTick epoch)) sc.lookups (known sc.lookups) (λ gap _. traffic_is epoch)) (λ timer h. h),
          (
            IfSome-if is (is_churn_node sc n) _
                (IfSome-map (λ _. Unit {0}) is (λ churn. (churn.life, body.LifeEnd epoch)) sc.churn (known sc.churn) (λ churn _. life_is epoch)),
            (IfSome-map is is (at_first sc) (check_timer sc epoch) (check_row (sc.check == 0)) (λ timer h. h), tt),
          ),
        ),
      ),
    )
  where
    check_row : (b : Bool) → HasTickOf epoch (if b then None else Some (jittered sc.check sc.jitters.check, body.CheckTick epoch))
    check_row true = tt
    check_row false = check_is epoch

-- all ticks of a life are set as it begins
pub going_armed : (sc : Scenario) (rest : List (Event Body)) (turn : Turn) → IsInRange sc → turn.state.status ≡ status.Joining
    → IsOngoing sc (λ _. 0) 1 rest turn → IsOngoing sc (wanted sc turn.state.me) 1 rest (armed sc turn)
unfolding armed
going_armed sc rest turn ranges joining h =
    let n : ℕ = turn.state.me in
    let epoch : ℕ = turn.state.epoch in
    let table : List (Option (Span × Body)) = timer_table sc n epoch in
    let same_epoch : (rows_armed sc table turn).state.epoch ≡ epoch = same_rows_armed (λ s. s.epoch) sc table turn (λ s count place. refl) in
    reclaimed sc (λ t. 0 + claims_of table epoch t) (wanted sc n) rest (rows_armed sc table turn)
    (λ t is. omega (arith, table_claims sc n epoch ranges t is))
    (going_rows sc (λ _. 0) rest table turn joining (table_of_life sc n epoch) h)

-- a node comes up
pub going_came_up : (sc : Scenario) (rest : List (Event Body)) (via : ℕ) (turn : Turn) → IsInRange sc → calls_for is_for_join turn.state.calls ≡ 0
    → IsOngoing sc (wanted sc turn.state.me) 0 rest turn → IsOngoing sc (wanted sc turn.state.me) 0 rest (came_up sc via turn)
unfolding came_up
going_came_up sc rest via turn ranges none h =
    let me : ℕ = turn.state.me in
    let epoch : ℕ = turn.state.epoch in
    let first : Turn = record (noted (line.Join via) turn) { state = risen via turn.state } in
    let fresh : (t : Timer) → is_lived t ≡ true → waits me t (epoch + 1) rest turn.events ≡ 0 = λ t lived. h.later t (epoch + 1) lived (omega arith) in
    going_join_begun sc (wanted sc me) rest [] via (armed sc first)
    (same_armed (λ s. s.status) sc first (λ s count place. refl))
    (going_armed sc rest first ranges refl
    (record {
      timed = h.timed;
      seldom = h.seldom;
      later = λ t number lived above. h.later t number lived (omega (arith, above));
      ticks = λ t is. fresh t (tick_lived t is);
      joins = omega (arith, none, fresh Rejoin refl);
      own = h.own;
    }))
