-- What a node waits for is pending: the timeouts of its calls, the ticks of its life, and the end of a pause while it joins.
use Rattle.std.proofs.Common.{◌≡◌, ◌≢◌, ◌==◌, ◌&&◌, ◌⊎◌, inl, inr, ℕ, ◌+◌, ◌≤◌, Bool, true, false, not, cond, List, [], ◌∷◌, ◌++◌, Option, Some, None, refl, sym, ◌∙◌, ap, subst, arith}
use Rattle.std.proofs.lemmas.Bool.Decides.{nat_tests}
use Rattle.std.proofs.lemmas.List.Elements.{All-filter, All-head, All-push, All-tail}
use Rattle.std.proofs.lemmas.List.Filters.{sum_by-filter_both}
use Rattle.std.proofs.lemmas.List.Sums.{sum_by-cons}
use Rattle.std.specs.List.{All, AllPairs, count_by, filter, find}
use Rattle.std.specs.Prelude.{IsSome, if◌then◌else◌}
use Rattle.chord_event.specs.declared.body.Body.{Body}
use Rattle.chord_event.specs.declared.body.Body.TheVariants as body
use Rattle.des_event.specs.declared.event.Event.{Event}
use Rattle.chord_event.specs.declared.line.MessageKind.{MessageKind}
use Rattle.chord_scenario.specs.declared.scenario.Scenario.{Scenario}
use Rattle.chord_node.specs.declared.state.Call.{Call}
use Rattle.chord_node.specs.declared.state.Purpose.{Purpose}
use Rattle.chord_node.specs.declared.state.Status.{Status}
use Rattle.chord_node.specs.declared.state.Status.TheVariants as status
use Rattle.chord_node.specs.Invariant.{calls_for, is_for_join}
use Rattle.chord_ops.specs.Ongoing.{FitsJoin, FitsTick, IsOngoing, IsTimed, Ongoing, is_lived, is_tick, numbered, waits}
use Rattle.chord_ops.specs.Timers.{Timer, is_timer, set_for}
use Rattle.chord_ops.specs.Timers.Timer.{Stabilize, Finger, Traffic, Life, Check, Rejoin, Timeout}
use Rattle.chord_ops.specs.declared.turn.Turn.{Turn}
use Rattle.chord_ops.specs.declared.turn.Request.{Request}
use Rattle.chord_ops.specs.declared.turn.Request.TheVariants as request
use Rattle.chord_ops.specs.Procedures.{call_of, without_call}
use Rattle.chord_ops.specs.Turns.{asked, body_of, called, kind_of, lost_on_the_way, made, sent, when_some}
use Rattle.chord_ops.proofs.Kept.{calls_for-push, count_by-push}
use Rattle.chord_ops.proofs.Removed.{all_pairs_head, all_pairs_tail, count_by-filter}
use Rattle.chord_ops.proofs.Sending.{asked_as, asked_over, at_place, sent_as}

-- what a call owes its join when it is taken out
abbrev pub owes : Purpose → ℕ
owes purpose = cond (is_for_join purpose) 1 0

-- Steps of two, and steps that a value allows

pub going_if : (P : Turn → Type 0) (b : Bool) (x y : Turn) → (b ≡ true → P x) → (b ≡ false → P y) → P (if b then x else y)
going_if P true x y left right = left refl
going_if P false x y left right = right refl

pub going_when : {A : Type 0} (P : Turn → Type 0) (o : Option A) (step : A → Turn → Turn) (turn : Turn) → P turn
    → ((a : A) → o ≡ Some a → P (step a turn)) → P (when_some o step turn)
going_when P None step turn h go = h
going_when P (Some a) step turn h go = go a refl

pub going_with : {A : Type 0} (P : Turn → Type 0) (o : Option A) (step : A → Turn → Turn) (turn : Turn) → IsSome o
    → ((a : A) → o ≡ Some a → P (step a turn)) → P (when_some o step turn)
going_with P None step turn is go = absurd (cc)
going_with P (Some a) step turn is go = go a refl

-- Counts

pub same_node : (n : ℕ) → (n == n) ≡ true
same_node n = grind (arith, nat_tests)

pub other_node : (me n : ℕ) → n ≢ me → (me == n) ≡ false
other_node me n apart = by (me == n) refl
  where
    by : (b : Bool) → (me == n) ≡ b → (me == n) ≡ false
    by true test = absurd (apart (grind (arith, nat_tests)))
    by false test = test

pub and_none : (b : Bool) → (b && false) ≡ false
and_none true = refl
and_none false = refl

and_all : (b : Bool) → (b && true) ≡ b
and_all true = refl
and_all false = refl

-- whether an event is this timer of node n, as a number
abbrev pub is_set : (n : ℕ) → Timer → (number : ℕ) → Event Body → ℕ
is_set n t number e = cond (is_timer e.body t number && (e.target == n)) 1 0

pub set_for-push : (n : ℕ) (t : Timer) (number : ℕ) (events : List (Event Body)) (e : Event Body)
    → set_for n t number (events ++ e ∷ []) ≡ set_for n t number events + is_set n t number e
set_for-push n t number events e = count_by-push (λ (x : Event Body). is_timer x.body t number && (x.target == n)) events e

pub set_for-cons : (n : ℕ) (t : Timer) (number : ℕ) (e : Event Body) (events : List (Event Body))
    → set_for n t number (e ∷ events) ≡ is_set n t number e + set_for n t number events
set_for-cons n t number e events = sum_by-cons (λ (x : Event Body). cond (is_timer x.body t number && (x.target == n)) 1 0) e events

-- a body that is no timer, or not this one
pub not_set : (n : ℕ) (t : Timer) (number : ℕ) (e : Event Body) → is_timer e.body t number ≡ false → ◌≡◌ {A = ℕ} (is_set n t number e) 0
not_set n t number e other = ap (λ (b : Bool). cond (b && (e.target == n)) 1 0) other

-- a timer for another node
pub set_elsewhere : (n : ℕ) (t : Timer) (number : ℕ) (e : Event Body) → (e.target == n) ≡ false → ◌≡◌ {A = ℕ} (is_set n t number e) 0
set_elsewhere n t number e other =
    ap (λ (b : Bool). cond (is_timer e.body t number && b) 1 0) other ∙ ap (λ (b : Bool). cond b 1 0) (and_none (is_timer e.body t number))

-- a timer for this node
pub set_here : (n : ℕ) (t : Timer) (number : ℕ) (e : Event Body) → e.target ≡ n → is_set n t number e ≡ cond (is_timer e.body t number) 1 0
set_here n t number e here =
    ap (λ (b : Bool). cond (is_timer e.body t number && b) 1 0) (ap (λ (m : ℕ). m == n) here ∙ same_node n)
    ∙ ap (λ (b : Bool). cond b 1 0) (and_all (is_timer e.body t number))

-- The same counts under another list

pub recounted : (sc : Scenario) (claim : Timer → ℕ) (owed : ℕ) (rest more : List (Event Body)) (old new : Turn)
    → ((t : Timer) (number : ℕ) → waits old.state.me t number rest old.events ≡ waits old.state.me t number more new.events)
    → new.state.me ≡ old.state.me → old.state.count ≤ new.state.count → new.state.epoch ≡ old.state.epoch → new.state.status ≡ old.state.status
    → new.state.calls ≡ old.state.calls
    → ((n : ℕ) (t : Timer) (number : ℕ) → n ≢ old.state.me → set_for n t number new.events ≡ 0) → IsOngoing sc claim owed rest old
    → IsOngoing sc claim owed more new
recounted sc claim owed rest more old new same me le epoch is calls own h =
    subst (λ (n : ℕ). Ongoing claim owed sc.retries more new.events n new.state.count new.state.epoch new.state.status new.state.calls) (sym me)
    (subst (λ (n : ℕ). Ongoing claim owed sc.retries more new.events old.state.me new.state.count n new.state.status new.state.calls) (sym epoch)
    (subst (λ (s : Status). Ongoing claim owed sc.retries more new.events old.state.me new.state.count old.state.epoch s new.state.calls) (sym is)
    (subst (λ (cs : List Call). Ongoing claim owed sc.retries more new.events old.state.me new.state.count old.state.epoch old.state.status cs) (sym calls)
    (record {
      timed = λ number.
          let was = h.timed number in
          record {
            enough = omega (arith, was.enough, same Timeout number);
            once = omega (arith, was.once, same Timeout number);
            counted = λ above. omega (arith, was.counted (omega (arith, above, le)), same Timeout number);
          };
      seldom = h.seldom;
      later = λ t number lived above. sym (same t number) ∙ h.later t number lived above;
      ticks = λ t is_one. subst (λ (n : ℕ). FitsTick old.state.status n (claim t)) (same t old.state.epoch) (h.ticks t is_one);
      joins = subst (λ (n : ℕ). FitsJoin old.state.status (calls_for is_for_join old.state.calls) (n + owed)) (same Rejoin old.state.epoch) h.joins;
      own = own;
    }))))

-- What a node makes

module _ (sc : Scenario) (claim : Timer → ℕ) (rest : List (Event Body)) where
  -- a message is none of its timers
  pub going_made : (owed delay target : ℕ) (message : Body) (turn : Turn) → ((t : Timer) (number : ℕ) → is_timer message t number ≡ false)
      → IsOngoing sc claim owed rest turn → IsOngoing sc claim owed rest (made delay target message turn)
  going_made owed delay target message turn quiet h =
      let e : Event Body =
      record {
        key = record { time = turn.time + delay; origin = 2 + turn.state.me; number = turn.state.count + 1 };
        target = target;
        body = message;
      } in
      recounted sc claim owed rest rest turn (made delay target message turn)
      (λ t number. omega (arith, set_for-push turn.state.me t number turn.events e, not_set turn.state.me t number e (quiet t number)))
      refl (omega arith) refl refl refl
      (λ n t number apart. omega (arith, set_for-push n t number turn.events e, not_set n t number e (quiet t number), h.own n t number apart))
      h

  pub going_lost : (owed : ℕ) (k : MessageKind) (to : ℕ) (turn : Turn) → IsOngoing sc claim owed rest turn
      → IsOngoing sc claim owed rest (lost_on_the_way k to turn)
  going_lost owed k to turn h =
      recounted sc claim owed rest rest turn (lost_on_the_way k to turn) (λ t number. refl) refl (omega arith) refl refl refl h.own h

  pub going_sent : (owed : ℕ) (k : MessageKind) (to : ℕ) (message : Body) (turn : Turn) → ((t : Timer) (number : ℕ) → is_timer message t number ≡ false)
      → IsOngoing sc claim owed rest turn → IsOngoing sc claim owed rest (sent sc k to message turn)
  going_sent owed k to message turn quiet h =
      sent_as (IsOngoing sc claim owed rest) sc k to message turn
      (λ delay place late near. going_made owed delay to message (at_place place turn) quiet h)
      (λ place near. going_lost owed k to (at_place place turn) h)

-- Calls

pub joins_alike : (s : Status) (calls pauses new left : ℕ) → calls + pauses ≡ new + left → FitsJoin s calls pauses → FitsJoin s new left
joins_alike status.Down calls pauses new left same h = tt
joins_alike status.Joining calls pauses new left same h = sym same ∙ h
joins_alike status.Member calls pauses new left same h = sym same ∙ h

pub ticks_alike : (s : Status) (have claim new : ℕ) → have ≡ new → FitsTick s have claim → FitsTick s new claim
ticks_alike s have claim new same h = subst (λ (n : ℕ). FitsTick s n claim) same h

-- one call more under a number that has no timeout, with its timeout
timed_more : (calls timeouts count more k number : ℕ) → k ≤ more → count ≤ more → (k ≡ number → timeouts ≡ 0) → IsTimed calls timeouts count number
    → IsTimed (calls + cond (k == number) 1 0) (timeouts + cond (k == number) 1 0) more number
timed_more calls timeouts count more k number low le none was = by (k == number) refl
  where
    by : (b : Bool) → (k == number) ≡ b → IsTimed (calls + cond b 1 0) (timeouts + cond b 1 0) more number
    by true test =
        let same : k ≡ number = grind (arith, nat_tests) in
        record {
          enough = omega (arith, was.enough);
          once = omega (arith, none same);
          counted = λ above. absurd (omega (arith, above, same, low));
        }
    by false test = record {
      enough = omega (arith, was.enough);
      once = omega (arith, was.once);
      counted = λ above. omega (arith, was.counted (omega (arith, above, le)));
    }

pub lived_no_timeout : (k : ℕ) (t : Timer) (number : ℕ) → is_lived t ≡ true → is_timer (body.Timeout k) t number ≡ false
lived_no_timeout k Timeout number lived = absurd (cc)
lived_no_timeout k Stabilize number lived = refl
lived_no_timeout k Finger number lived = refl
lived_no_timeout k Traffic number lived = refl
lived_no_timeout k Life number lived = refl
lived_no_timeout k Check number lived = refl
lived_no_timeout k Rejoin number lived = refl

pub tick_lived : (t : Timer) → is_tick t ≡ true → is_lived t ≡ true
tick_lived Timeout is = absurd (cc)
tick_lived Rejoin is = refl
tick_lived Stabilize is = refl
tick_lived Finger is = refl
tick_lived Traffic is = refl
tick_lived Life is = refl
tick_lived Check is = refl

pub request_quiet : (request : Request) (k : ℕ) (t : Timer) (number : ℕ) → is_timer (body_of request k) t number ≡ false
request_quiet (request.Step key avoid) k t number = refl
request_quiet request.GetState k t number = refl
request_quiet request.GetList k t number = refl
request_quiet request.Ping k t number = refl

-- without the calls of a number none of it is left, and none of another is more
pub numbered_same : (k : ℕ) (calls : List Call) → numbered k (filter (λ (c : Call). not (c.number == k)) calls) ≡ 0
numbered_same k [] = refl
numbered_same k (x ∷ xs) = by (x.number == k) refl (numbered_same k xs)
  where
    by : (b : Bool) → (x.number == k) ≡ b → numbered k (filter (λ (c : Call). not (c.number == k)) xs) ≡ 0
        → numbered k (cond (not b) (x ∷ filter (λ (c : Call). not (c.number == k)) xs) (filter (λ (c : Call). not (c.number == k)) xs)) ≡ 0
    by true test ih = ih
    by false test ih =
        let one : ◌≡◌ {A = ℕ} (cond (x.number == k) 1 0) 0 = ap (λ (b : Bool). cond b 1 0) test in
        omega (arith, sum_by-cons (λ (c : Call). cond (c.number == k) 1 0) x (filter (λ (c : Call). not (c.number == k)) xs), one, ih)

-- the one call of a number is all that is found of it
none_numbered : (k : ℕ) (calls : List Call) → All (λ (c : Call). k ≢ c.number) calls → filter (λ (c : Call). c.number == k) calls ≡ []
none_numbered k [] all = refl
none_numbered k (x ∷ xs) all =
    ap (λ (b : Bool). cond b (x ∷ filter (λ (c : Call). c.number == k) xs) (filter (λ (c : Call). c.number == k) xs))
    (other_node x.number k (All-head (λ (c : Call). k ≢ c.number) x xs all))
    ∙ none_numbered k xs (All-tail (λ (c : Call). k ≢ c.number) x xs all)

found_alone : (k : ℕ) (calls : List Call) (call : Call) → AllPairs (λ (c d : Call). c.number ≢ d.number) calls
    → find (λ (c : Call). c.number == k) calls ≡ Some call → filter (λ (c : Call). c.number == k) calls ≡ call ∷ []
found_alone k [] call distinct found = absurd (cc)
found_alone k (x ∷ xs) call distinct found =
    by (x.number == k) refl found (λ later. found_alone k xs call (all_pairs_tail (λ (c d : Call). c.number ≢ d.number) x xs distinct) later)
  where
    by : (b : Bool) → (x.number == k) ≡ b → (if b then Some x else find (λ (c : Call). c.number == k) xs) ≡ Some call
        → (find (λ (c : Call). c.number == k) xs ≡ Some call → filter (λ (c : Call). c.number == k) xs ≡ call ∷ [])
        → cond b (x ∷ filter (λ (c : Call). c.number == k) xs) (filter (λ (c : Call). c.number == k) xs) ≡ call ∷ []
    by true test is ih =
        let same : x ≡ call = cc in
        let number : x.number ≡ k = grind (arith, nat_tests) in
        ap (λ (ys : List Call). x ∷ ys)
        (none_numbered k xs (subst (λ (n : ℕ). All (λ (c : Call). n ≢ c.number) xs) number (all_pairs_head (λ
        (c d : Call). c.number ≢ d.number) x xs distinct)))
        ∙ ap (λ (c : Call). c ∷ []) same
    by false test is ih = ih is

-- a call that is taken out is one fewer of its kind
pub calls_split : (p : Purpose → Bool) (k : ℕ) (calls : List Call) (call : Call) → AllPairs (λ (c d : Call). c.number ≢ d.number) calls
    → find (λ (c : Call). c.number == k) calls ≡ Some call
    → calls_for p calls ≡ cond (p call.purpose) 1 0 + calls_for p (filter (λ (c : Call). not (c.number == k)) calls)
calls_split p k calls call distinct found =
    let split : calls_for p (filter (λ (c : Call). c.number == k) calls) + calls_for p (filter (λ (c : Call). not (c.number == k)) calls) ≡ calls_for p calls =
    sum_by-filter_both (λ (c : Call). c.number == k) (λ (c : Call). not (c.number == k)) (λ _. refl) (λ (c : Call). cond (p c.purpose) 1 0) calls in
    let one : calls_for p (filter (λ (c : Call). c.number == k) calls) ≡ calls_for p (call ∷ []) = ap (calls_for p) (found_alone k calls call distinct found) in
    let here : calls_for p (call ∷ []) ≡ cond (p call.purpose) 1 0 + calls_for p [] = sum_by-cons (λ (c : Call). cond (p c.purpose) 1 0) call [] in
    omega (arith, split, one, here)

-- nothing is found, so there is none
pub none_found : {X : Type 0} (p : X → Bool) (xs : List X) → find p xs ≡ None → count_by p xs ≡ 0
none_found p [] none = refl
none_found {X} p (x ∷ xs) none = by (p x) refl none (λ later. none_found p xs later)
  where
    by : (b : Bool) → p x ≡ b → (if b then Some x else find p xs) ≡ None → (find p xs ≡ None → count_by p xs ≡ 0) → count_by p (x ∷ xs) ≡ 0
    by true test is ih = absurd (cc)
    by false test is ih =
        let one : ◌≡◌ {A = ℕ} (cond (p x) 1 0) 0 = ap (λ (b : Bool). cond b 1 0) test in
        omega (arith, sum_by-cons (λ (y : X). cond (p y) 1 0) x xs, one, ih is)

module _ (sc : Scenario) (claim : Timer → ℕ) (rest : List (Event Body)) where
  -- the timeout of a call is set, and the call is kept
  going_timed : (call : Call) (out : Turn) → call.resent ≤ sc.retries → call.number ≤ out.state.count + 1
      → waits out.state.me Timeout call.number rest out.events ≡ 0 → IsOngoing sc claim (owes call.purpose) rest out
      → IsOngoing sc claim 0 rest (asked_over sc call out out)
  going_timed call out few low none h =
      let me : ℕ = out.state.me in
      let e : Event Body =
      record {
        key = record { time = out.time + sc.timeout; origin = 2 + out.state.me; number = out.state.count + 1 };
        target = out.state.me;
        body = body.Timeout call.number;
      } in
      let one_more : (number : ℕ) → numbered number (out.state.calls ++ call ∷ []) ≡ numbered number out.state.calls + cond
      (call.number == number) 1 0 = λ number.
      count_by-push (λ (c : Call). c.number == number) out.state.calls call in
      let set : (number : ℕ) → waits me Timeout number rest (out.events ++ e ∷ []) ≡ waits me Timeout number rest out.events + cond
      (call.number == number) 1 0 = λ number.
      omega (arith, set_for-push me Timeout number out.events e, set_here me Timeout number e refl) in
      let still : (t : Timer) (number : ℕ) → is_lived t ≡ true → waits me t number rest out.events ≡ waits me t number rest
      (out.events ++ e ∷ []) = λ t number lived.
      omega (arith, set_for-push me t number out.events e, not_set me t number e (lived_no_timeout call.number t number lived)) in
      record {
        timed = λ number.
            let now = timed_more (numbered number out.state.calls) (waits me Timeout number rest out.events) out.state.count
            (out.state.count + 1) call.number number
            low (omega arith) (λ same. ap (λ (n : ℕ). waits me Timeout n rest out.events) (sym same) ∙ none) (h.timed number) in
            record {
              enough = omega (arith, now.enough, one_more number, set number);
              once = omega (arith, now.once, set number);
              counted = λ above. set number ∙ now.counted above;
            };
        seldom = All-push (λ (c : Call). c.resent ≤ sc.retries) out.state.calls call h.seldom few;
        later = λ t number lived above. sym (still t number lived) ∙ h.later t number lived above;
        ticks = λ t is. ticks_alike out.state.status _ (claim t) _ (still t out.state.epoch (tick_lived t is)) (h.ticks t is);
        joins =
            joins_alike out.state.status (calls_for is_for_join out.state.calls) (waits me Rejoin out.state.epoch rest out.events + owes call.purpose) _ _
            (omega (arith, calls_for-push is_for_join out.state.calls call, still Rejoin out.state.epoch refl)) h.joins;
        own = λ n t number apart.
            omega (arith, set_for-push n t number out.events e, set_elsewhere n t number e (other_node me n apart), h.own n t number apart);
      }

  pub going_asked : (request : Request) (call : Call) (turn : Turn) → call.resent ≤ sc.retries → call.number ≤ turn.state.count + 1
      → waits turn.state.me Timeout call.number rest turn.events ≡ 0 → IsOngoing sc claim (owes call.purpose) rest turn
      → IsOngoing sc claim 0 rest (asked sc request call turn)
  going_asked request call turn few low none h =
      asked_as (IsOngoing sc claim 0 rest) sc request call turn
      (λ delay place late near.
      let e : Event Body =
      record {
        key = record { time = turn.time + delay; origin = 2 + turn.state.me; number = turn.state.count + 1 };
        target = call.to;
        body = body_of request call.number;
      } in
      going_timed call (made delay call.to (body_of request call.number) (at_place place turn)) few (omega (arith, low))
      (omega (
        arith,
        none,
        set_for-push turn.state.me Timeout call.number turn.events e,
        not_set turn.state.me Timeout call.number e (request_quiet request call.number Timeout call.number),
      ))
      (going_made sc claim rest (owes call.purpose) delay call.to (body_of request call.number) (at_place place turn) (request_quiet request call.number) h))
      (λ place near.
      going_timed call (lost_on_the_way (kind_of request) call.to (at_place place turn)) few (omega (arith, low)) none
      (going_lost sc claim rest (owes call.purpose) (kind_of request) call.to (at_place place turn) h))

  pub going_called : (to : ℕ) (request : Request) (wanted : Purpose) (turn : Turn) → IsOngoing sc claim (owes wanted) rest turn
      → IsOngoing sc claim 0 rest (called sc to request wanted turn)
  unfolding called
  going_called to request wanted turn h =
      going_asked request (record { number = turn.state.count + 1; to = to; purpose = wanted; resent = 0 }) turn (omega arith) (omega arith)
      ((h.timed (turn.state.count + 1)).counted (omega arith)) h

  -- a call is taken out
  pub going_without : (k : ℕ) (call : Call) (turn : Turn) → AllPairs (λ (c d : Call). c.number ≢ d.number) turn.state.calls
      → call_of k turn.state ≡ Some call → IsOngoing sc claim 0 rest turn → IsOngoing sc claim (owes call.purpose) rest (without_call k turn)
  going_without k call turn distinct found h =
      record {
        timed = λ number.
            let was = h.timed number in
            record {
              enough = omega (arith, was.enough, count_by-filter (λ (c : Call). c.number == number) (λ (c : Call). not (c.number == k)) turn.state.calls);
              once = was.once;
              counted = was.counted;
            };
        seldom = All-filter (λ (c : Call). not (c.number == k)) (λ (c : Call). c.resent ≤ sc.retries) turn.state.calls h.seldom;
        later = h.later;
        ticks = h.ticks;
        joins =
            joins_alike turn.state.status (calls_for is_for_join turn.state.calls) (waits turn.state.me Rejoin turn.state.epoch rest turn.events + 0) _ _
            (omega (arith, calls_split is_for_join k turn.state.calls call distinct found)) h.joins;
        own = h.own;
      }

  -- Events that are taken, and need not be replaced

  -- an event that no outstanding call and no life waits for
  pub going_over : (owed : ℕ) (e : Event Body) (turn : Turn)
      → ((number : ℕ) → (numbered number turn.state.calls ≡ 0) ⊎ (is_timer e.body Timeout number ≡ false))
      → ((t : Timer) → is_lived t ≡ true → (turn.state.status ≡ status.Down) ⊎ (is_timer e.body t turn.state.epoch ≡ false))
      → IsOngoing sc claim owed (e ∷ rest) turn → IsOngoing sc claim owed rest turn
  going_over owed e turn no_call no_life h =
      let me : ℕ = turn.state.me in
      let split : (t : Timer) (number : ℕ) → waits me t number (e ∷ rest) turn.events ≡ is_set me t number e + waits me t number rest turn.events = λ t number.
      omega (arith, set_for-cons me t number e rest) in
      let still : (t : Timer) → is_timer e.body t turn.state.epoch ≡ false
      → waits me t turn.state.epoch (e ∷ rest) turn.events ≡ waits me t turn.state.epoch rest turn.events = λ t other.
      omega (arith, split t turn.state.epoch, not_set me t turn.state.epoch e other) in
      record {
        timed = λ number.
            let was = h.timed number in
            record {
              enough = elim (no_call number) [
                | inl none ↦ omega (arith, none)
                | inr other ↦ omega (arith, was.enough, split Timeout number, not_set me Timeout number e other)
              ];
              once = omega (arith, was.once, split Timeout number);
              counted = λ above. omega (arith, was.counted above, split Timeout number);
            };
        seldom = h.seldom;
        later = λ t number lived above. omega (arith, h.later t number lived above, split t number);
        ticks = λ t is. elim (no_life t (tick_lived t is)) [
          | inl down ↦ subst (λ (s : Status). FitsTick s (waits me t turn.state.epoch rest turn.events) (claim t)) (sym down) tt
          | inr other ↦ ticks_alike turn.state.status _ (claim t) _ (still t other) (h.ticks t is)
        ];
        joins = elim (no_life Rejoin refl) [
          | inl down ↦
              subst (λ (s : Status). FitsJoin s (calls_for is_for_join turn.state.calls) (waits me Rejoin turn.state.epoch rest turn.events + owed))
              (sym down) tt
          | inr other ↦
              joins_alike turn.state.status (calls_for is_for_join turn.state.calls) (waits me Rejoin turn.state.epoch (e ∷ rest) turn.events + owed) _ _
              (omega (arith, still Rejoin other)) h.joins
        ];
        own = h.own;
      }

  -- an event that is no timer
  pub going_past : (e : Event Body) (turn : Turn) → ((t : Timer) (number : ℕ) → is_timer e.body t number ≡ false)
      → IsOngoing sc claim 0 (e ∷ rest) turn → IsOngoing sc claim 0 rest turn
  going_past e turn quiet h = going_over 0 e turn (λ number. inr (quiet Timeout number)) (λ t lived. inr (quiet t turn.state.epoch)) h

  -- a timer that is set again as it is taken
  pub going_again : (e : Event Body) (delay : ℕ) (message : Body) (turn : Turn) → e.target ≡ turn.state.me → e.body ≡ message
      → IsOngoing sc claim 0 (e ∷ rest) turn → IsOngoing sc claim 0 rest (made delay turn.state.me message turn)
  going_again e delay message turn here is h =
      let me : ℕ = turn.state.me in
      let new : Event Body =
      record {
        key = record { time = turn.time + delay; origin = 2 + me; number = turn.state.count + 1 };
        target = me;
        body = message;
      } in
      recounted sc claim 0 (e ∷ rest) rest turn (made delay me message turn)
      (λ t number.
      let alike : is_set me t number e ≡ is_set me t number new = set_here me t number e here
      ∙ ap (λ (b : Body). cond (is_timer b t number) 1 0) is ∙ sym (set_here me t number new refl) in
      omega (arith, set_for-cons me t number e rest, set_for-push me t number turn.events new, alike))
      refl (omega arith) refl refl refl
      (λ n t number apart. omega (arith, set_for-push n t number turn.events new, set_elsewhere n t number new (other_node me n apart), h.own n t number apart))
      h
