-- Each lookup waits as before, begins, or goes on with more requests than before, and never has more than a limit.
use Rattle.std.proofs.Common.{◌≡◌, ◌≢◌, ◌==◌, ◌⊎◌, inl, inr, ℕ, ◌+◌, ◌-◌, ◌*◌, ◌<◌, ◌≤◌, ◌&&◌, not, Bool, true, false, cond, List, [], ◌∷◌, get_or, Option, Some, None, refl, sym, ◌∙◌, ap, subst, arith}
use Rattle.std.proofs.Math.Nat.{add-mul, mul-le-mul_right, zero-mul}
use Rattle.std.proofs.lemmas.Bool.Decides.{nat_tests}
use Rattle.std.proofs.lemmas.List.Elements.{All-filter, All-push}
use Rattle.std.proofs.lemmas.List.Sums.{sum_by-cons}
use Rattle.std.specs.List.{All, AllPairs, Contains, count_by, filter, find}
use Rattle.std.specs.Prelude.{IfSome, if◌then◌else◌}
use Rattle.chord_event.specs.declared.body.Body.{Body}
use Rattle.chord_event.specs.declared.body.Body.TheVariants as body
use Rattle.des_event.specs.declared.event.Event.{Event}
use Rattle.des_event.proofs.Members.{AllPairs_at, AllPairs_rest, All_at, All_from, contains_at, contains_cons, contains_none, filter_contains}
use Rattle.chord_scenario.specs.declared.scenario.Scenario.{Scenario}
use Rattle.chord_scenario.specs.Range.{IsInRange}
use Rattle.chord_node.specs.declared.state.Call.{Call}
use Rattle.chord_node.specs.declared.state.Lookup.{Lookup}
use Rattle.chord_node.specs.declared.state.NodeState.{NodeState}
use Rattle.chord_node.specs.Invariant.{IsNodeState, asking, is_for_lookup, waiting}
use Rattle.chord_node.specs.Limits.{most_lookup_steps}
use Rattle.chord_ops.specs.Ends.{Proceeds, concerns, most_sends, sends, times_again}
use Rattle.chord_ops.specs.Ongoing.{numbered}
use Rattle.chord_ops.specs.Procedures.{call_of}
use Rattle.chord_ops.specs.Rules.{effect, sent_once_more}
use Rattle.chord_ops.specs.Sound.{IsSoundEvent}
use Rattle.chord_ops.proofs.Carried.{AreTimely, IsTimely, Carries, Facts, IsSame, facts, is_timeout, on_effect}
use Rattle.chord_ops.proofs.Found.{IfSome-find}
use Rattle.chord_ops.proofs.Kept.{All-insert}
use Rattle.chord_ops.proofs.KeptRules.{none_of}
use Rattle.chord_ops.proofs.KeptTable.{found_number, kept_effect}
use Rattle.chord_ops.proofs.Ongoing.{none_found, same_node}
use Rattle.chord_ops.proofs.Removed.{All-remove}

-- Counts of requests

product : (n r : ℕ) → 1 ≤ n → n * r ≡ (n - 1) * r + r
product n r some =
    let split : n ≡ n - 1 + 1 = omega (arith, some) in
    omega (arith, ap (λ (k : ℕ). k * r) split, add-mul (n - 1) 1 r)

-- the first request
sends_first : (steps r : ℕ) → steps ≡ 1 → (steps - 1) * r ≡ 0
sends_first steps r is = ap (λ (n : ℕ). (n - 1) * r) is ∙ zero-mul r

-- one request more
sends_next : (old steps r again : ℕ) → steps ≡ old + 1 → 1 ≤ old → again < r → (old - 1) * r + again + 1 < (steps - 1) * r + 0 + 1
sends_next old steps r again is some few =
    let less : steps - 1 ≡ old = omega (arith, is) in
    omega (arith, ap (λ (n : ℕ). n * r) less, product old r some, few)

sends_few : (steps most r again : ℕ) → 1 ≤ steps → steps ≤ most → again < r → (steps - 1) * r + again + 1 ≤ most * r
sends_few steps most r again some le few = omega (arith, product steps r some, mul-le-mul_right r le, few)

-- Calls

-- a call of a list is the one that is found under its number
found_own : (calls : List Call) (call : Call) → AllPairs (λ (c d : Call). c.number ≢ d.number) calls → Contains calls call
    → find (λ (c : Call). c.number == call.number) calls ≡ Some call
found_own [] call distinct c = absurd (contains_none call c)
found_own (x ∷ xs) call distinct c =
    go (contains_cons call x xs c) (λ r. found_own xs call (AllPairs_rest (λ (a b : Call). a.number ≢ b.number) x xs distinct) r)
  where
    by : (b : Bool) → (x.number == call.number) ≡ b → x.number ≢ call.number → find (λ (c : Call). c.number == call.number) xs ≡ Some call
        → (if b then Some x else find (λ (c : Call). c.number == call.number) xs) ≡ Some call
    by true test apart later = absurd (apart (grind (arith, nat_tests)))
    by false test apart later = later

    go : (x ≡ call) ⊎ Contains xs call → (Contains xs call → find (λ (c : Call). c.number == call.number) xs ≡ Some call)
        → (if x.number == call.number then Some x else find (λ (c : Call). c.number == call.number) xs) ≡ Some call
    go (inl same) ih =
        ap (λ (b : Bool). if b then Some x else find (λ (c : Call). c.number == call.number) xs)
        (ap (λ (n : ℕ). n == call.number) (ap (λ (c : Call). c.number) same) ∙ same_node call.number)
        ∙ ap (λ (c : Call). Some c) same
    go (inr rest) ih =
        by (x.number == call.number) refl (AllPairs_at (λ (a b : Call). a.number ≢ b.number) x xs distinct call rest) (ih rest)

abbrev number_of : Body → ℕ
number_of (body.Timeout n) = n
number_of _ = 0

not_itself : (n m : ℕ) → n ≡ m → not (n == m) ≡ true → ⊥
not_itself n m same test =
    let is : (n == m) ≡ true = grind (arith, nat_tests) in absurd (cc)

-- Where the calls and the lookups of a node come from

-- a call that was found before
abbrev Seen : NodeState → Call → Type 0
Seen s call = call_of call.number s ≡ Some call

record IsNew (s : NodeState) (call : Call) : Type 0 where
  pub above : s.count < call.number
  pub once : call.resent ≡ 0

record IsAgain (s : NodeState) (message : Body) (call : Call) : Type 0 where
  pub old : Call
  pub was : call_of call.number s ≡ Some old
  pub timed : message ≡ body.Timeout call.number
  pub resent : call.resent ≡ old.resent + 1

abbrev Arises : NodeState → Body → Call → Type 0
Arises s message call = (Seen s call × (message ≢ body.Timeout call.number)) ⊎ IsNew s call ⊎ IsAgain s message call

-- a lookup that has a new call: it begins
record IsFirst (s : NodeState) (time : ℕ) (lookup : Lookup) : Type 0 where
  pub above : s.count < lookup.call
  pub started : lookup.started ≡ time
  pub steps : lookup.steps ≡ 1

-- or it is the next step of one that was there
record IsNext (s : NodeState) (message : Body) (steps : ℕ) (lookup : Lookup) : Type 0 where
  pub old : Lookup
  pub was : Contains s.lookups old
  pub key : lookup.key ≡ old.key
  pub aim : lookup.aim ≡ old.aim
  pub started : lookup.started ≡ old.started
  pub its_call : concerns message old.call ≡ true
  pub further : lookup.steps ≡ old.steps + steps

abbrev Comes : NodeState → Event Body → Lookup → Type 0
Comes s e lookup =
    Contains s.lookups lookup ⊎ IsFirst s e.key.time lookup ⊎ ((s.count < lookup.call) × IsNext s e.body 1 lookup)

-- a lookup that is taken out has sent nothing yet, or is one that was there
abbrev Stems : NodeState → Event Body → Lookup → Type 0
Stems s e lookup = ((lookup.started ≡ e.key.time) × (lookup.steps ≡ 0)) ⊎ IsNext s e.body 0 lookup

record Follows
    (sc : Scenario) (s : NodeState) (e : Event Body) (C : Call → Type 0) (now number : ℕ) (list : List Lookup) (waited : List Call) (es : List (Event Body))
    : Type 0 where
  pub lookups : All (Comes s e) list
  pub calls : All C waited
  pub count : s.count ≤ number
  pub time : now ≡ e.key.time
  pub events : AreTimely sc now es

module _ (sc : Scenario) (s : NodeState) (e : Event Body) where
  abbrev Before : Facts → Type 0
  Before f = Follows sc s e (Seen s) f.time f.count f.lookups f.calls f.events

  abbrev After : Facts → Type 0
  After f = Follows sc s e (Arises s e.body) f.time f.count f.lookups f.calls f.events

  abbrev Taken : Lookup → Facts → Type 0
  Taken lookup f = After f × Stems s e lookup

  stems_on : (old new : Lookup) → IsSame old new → Stems s e old → Stems s e new
  stems_on old new alike (inl first) = inl (alike.started ∙ first.0, alike.steps ∙ first.1)
  stems_on old new alike (inr next) = inr (record {
    old = next.old;
    was = next.was;
    key = alike.key ∙ next.key;
    aim = alike.aim ∙ next.aim;
    started = alike.started ∙ next.started;
    its_call = next.its_call;
    further = alike.steps ∙ next.further;
  })

  comes_on : (lookup : Lookup) (count : ℕ) → s.count ≤ count → Stems s e lookup
      → Comes s e (record lookup { call = count + 1; steps = lookup.steps + 1 })
  comes_on lookup count le (inl first) =
      inr (inl (record { above = omega (arith, le); started = first.0; steps = omega (arith, first.1) }))
  comes_on lookup count le (inr next) = inr (inr (
    omega (arith, le),
    record {
      old = next.old;
      was = next.was;
      key = next.key;
      aim = next.aim;
      started = next.started;
      its_call = next.its_call;
      further = omega (arith, next.further);
    },
  ))

  -- without the call that has timed out, the others are as they were
  others_stay : (number : ℕ) (calls : List Call) → e.body ≡ body.Timeout number → All (Seen s) calls
      → All (Arises s e.body) (filter (λ (c : Call). not (c.number == number)) calls)
  others_stay number calls is seen =
      All_from (Arises s e.body) (filter (λ (c : Call). not (c.number == number)) calls)
      (λ call r.
      let parts = filter_contains (λ (c : Call). not (c.number == number)) calls call r in
      inl (All_at (Seen s) calls call seen parts.0, λ timed. not_itself call.number number (ap number_of (sym timed ∙ is)) parts.1))

  carries : Carries sc s e.body Before After Taken
  carries =
      record {
        opens = λ f other h. record {
          lookups = h.lookups;
          calls = λ k d within.
              inl (h.calls k d within, λ timed. let yes : is_timeout e.body ≡ true = ap is_timeout timed in absurd (cc));
          count = h.count;
          time = h.time;
          events = h.events;
        };
        absent = λ f number is none h. record {
          lookups = h.lookups;
          calls = λ k d within.
              inl (
                h.calls k d within,
                λ timed.
                    let none_here : call_of (get_or f.calls k d).number s ≡ None =
                    subst (λ (n : ℕ). call_of n s ≡ None) (ap number_of (sym is ∙ timed)) none in
                    let some_here : call_of (get_or f.calls k d).number s ≡ Some (get_or f.calls k d) = h.calls k d within in
                    absurd (cc),
              );
          count = h.count;
          time = h.time;
          events = h.events;
        };
        noted = λ f more still h. h;
        over = λ f number is h.
            record { lookups = h.lookups; calls = others_stay number f.calls is h.calls; count = h.count; time = h.time; events = h.events };
        leaves = λ f via member h.
            record { lookups = none_of (Comes s e); calls = none_of (Arises s e.body); count = h.count; time = h.time; events = h.events };
        made = λ f es timely h. record {
          lookups = h.lookups;
          calls = h.calls;
          count = omega (arith, h.count);
          time = h.time;
          events = timely h.events;
        };
        quiet = λ f more still h. h;
        called = λ f call es timely number resent h. record {
          lookups = h.lookups;
          calls =
              All-push (Arises s e.body) f.calls call h.calls (inr (inl (record { above = omega (arith, number, h.count); once = resent })));
          count = omega (arith, h.count);
          time = h.time;
          events = timely h.events;
        };
        again = λ f number call es timely is found h. record {
          lookups = h.lookups;
          calls =
              All-push (Arises s e.body) (filter (λ (c : Call). not (c.number == number)) f.calls) (sent_once_more number call)
              (others_stay number f.calls is h.calls)
              (inr (inr (record { old = call; was = found; timed = is; resent = refl })));
          count = omega (arith, h.count);
          time = h.time;
          events = timely h.events;
        };
        without = λ f number h. record {
          lookups = h.lookups;
          calls = All-filter (λ (c : Call). not (c.number == number)) (Arises s e.body) f.calls h.calls;
          count = h.count;
          time = h.time;
          events = h.events;
        };
        member = λ f joining h. h;
        rises = λ f down h. h;
        falls = λ f still h.
            record { lookups = none_of (Comes s e); calls = none_of (Arises s e.body); count = h.count; time = h.time; events = h.events };
        strands = λ f via member h.
            record { lookups = none_of (Comes s e); calls = none_of (Arises s e.body); count = h.count; time = h.time; events = h.events };
        begun = λ f key h. (h, inl (h.time, refl));
        turned = λ f key index h. (h, inl (h.time, refl));
        taken = λ f number place lookup first is its within here h.
            let here_is : Contains f.lookups lookup =
            subst (λ (l : Lookup). Contains f.lookups l) (sym here) (contains_at f.lookups place lookup within) in
            let number_is : number ≡ lookup.call = call_is lookup number its in (
              record { lookups = All-remove (Comes s e) f.lookups place h.lookups; calls = h.calls; count = h.count; time = h.time; events = h.events },
              inr (record {
                old = lookup;
                was = subst (λ (ls : List Lookup). Contains ls lookup) first here_is;
                key = refl;
                aim = refl;
                started = refl;
                its_call = subst (λ (n : ℕ). concerns e.body n ≡ true) number_is is;
                further = omega arith;
              }),
            );
        same = λ f old new alike r. (r.0, stems_on old new alike r.1);
        asked = λ f call place lookup es timely number resent r. record {
          lookups =
              All-insert (Comes s e) f.lookups place (record lookup { call = f.count + 1; steps = lookup.steps + 1 }) r.0.lookups
              (comes_on lookup f.count r.0.count r.1);
          calls =
              All-push (Arises s e.body) f.calls call r.0.calls
              (inr (inl (record { above = omega (arith, number, r.0.count); once = resent })));
          count = omega (arith, r.0.count);
          time = r.0.time;
          events = timely r.0.events;
        };
        failed = λ f lookup r. r.0;
        found = λ f lookup owner is r. r.0;
        fixed = λ f lookup index is r. r.0;
      }
    where
      call_is : (lookup : Lookup) (number : ℕ) → (lookup.call == number) ≡ true → number ≡ lookup.call
      call_is lookup number its = grind (arith, nat_tests)

-- What a state says of its calls

-- whoever asks for a lookup has a call
fewer_asked : (number : ℕ) (calls : List Call) → asking number calls ≤ count_by (λ (c : Call). c.number == number) calls
fewer_asked number [] = omega arith
fewer_asked number (x ∷ xs) =
    omega (
      arith,
      fewer_asked number xs,
      sum_by-cons (λ (c : Call). cond ((c.number == number) && is_for_lookup c.purpose) 1 0) x xs,
      sum_by-cons (λ (c : Call). cond (c.number == number) 1 0) x xs,
      both (x.number == number) (is_for_lookup x.purpose),
    )
  where
    both : (a b : Bool) → ◌≤◌ (cond (a && b) 1 0) (cond a 1 0)
    both true true = omega arith
    both true false = omega arith
    both false b = omega arith

-- a lookup of a list waits for its call
waits_itself : (lookup : Lookup) (lookups : List Lookup) → Contains lookups lookup → 1 ≤ waiting lookup.call lookups
waits_itself lookup [] c = absurd (contains_none lookup c)
waits_itself lookup (x ∷ xs) c = go (contains_cons lookup x xs c) (λ r. waits_itself lookup xs r)
  where
    go : (x ≡ lookup) ⊎ Contains xs lookup → (Contains xs lookup → 1 ≤ waiting lookup.call xs) → 1 ≤ waiting lookup.call (x ∷ xs)
    go (inl same) ih =
        let one : ◌≡◌ {A = ℕ} (cond (x.call == lookup.call) 1 0) 1 =
        ap {B = ℕ} (λ (b : Bool). cond b 1 0)
        (ap (λ (n : ℕ). n == lookup.call) (ap (λ (l : Lookup). l.call) same) ∙ same_node lookup.call) in
        omega (arith, sum_by-cons (λ (l : Lookup). cond (l.call == lookup.call) 1 0) x xs, one)
    go (inr rest) ih = omega (arith, sum_by-cons (λ (l : Lookup). cond (l.call == lookup.call) 1 0) x xs, ih rest)

module _ (sc : Scenario) (s : NodeState) (known : IsNodeState sc s) where
  number_used : (number : ℕ) (call : Call) → call_of number s ≡ Some call → number ≤ s.count
  number_used number call found =
      let few : call.number ≤ s.count =
      subst (λ (o : Option Call). IfSome o (λ (c : Call). c.number ≤ s.count)) found
      (IfSome-find (λ (c : Call). c.number ≤ s.count) (λ (c : Call). c.number == number) s.calls known.calls.numbers) in
      omega (arith, few, found_number number call s found)

  few_again : (number : ℕ) → All (λ (c : Call). c.resent ≤ sc.retries) s.calls → times_again (call_of number s) < sc.retries + 1
  few_again number seldom =
      by (call_of number s) (IfSome-find (λ (c : Call). c.resent ≤ sc.retries) (λ (c : Call). c.number == number) s.calls seldom)
    where
      by : (o : Option Call) → IfSome o (λ (c : Call). c.resent ≤ sc.retries) → times_again o < sc.retries + 1
      by None is = omega arith
      by (Some call) is = omega (arith, is)

  -- a lookup waits for a call
  call_waits : (lookup : Lookup) → Contains s.lookups lookup → call_of lookup.call s ≢ None
  call_waits lookup c none =
      let asks : asking lookup.call s.calls ≤ count_by (λ (x : Call). x.number == lookup.call) s.calls = fewer_asked lookup.call s.calls in
      omega (arith, asks, none_found (λ (x : Call). x.number == lookup.call) s.calls none, known.matched lookup.call, waits_itself lookup s.lookups c)

-- a lookup's call is counted
pub call_counted : (sc : Scenario) (s : NodeState) → IsNodeState sc s → (lookup : Lookup) → Contains s.lookups lookup → 1 ≤ numbered lookup.call s.calls
call_counted sc s known lookup c =
    omega (arith, fewer_asked lookup.call s.calls, known.matched lookup.call, waits_itself lookup s.lookups c)

pub few_requests : (sc : Scenario) (s : NodeState) → IsNodeState sc s → All (λ (c : Call). c.resent ≤ sc.retries) s.calls
    → All (λ (lookup : Lookup). sends sc s lookup ≤ most_sends sc) s.lookups
few_requests sc s known seldom = λ k d within.
    let lookup : Lookup = get_or s.lookups k d in
    let asked : lookup.hops < lookup.steps = known.lookups.asked k d within in
    sends_few lookup.steps (most_lookup_steps sc) (sc.retries + 1) (times_again (call_of lookup.call s)) (omega (arith, asked))
    (known.lookups.each k d within).steps (few_again sc s known lookup.call seldom)

module _ (sc : Scenario) (s : NodeState) (e : Event Body) (ranges : IsInRange sc) (known : IsNodeState sc s) (sound : IsSoundEvent sc e)
    (seldom : All (λ (c : Call). c.resent ≤ sc.retries) s.calls) where
  abbrev after : NodeState
  after = (effect sc s e).state

  ends : After sc s e (facts (effect sc s e))
  ends =
      on_effect sc s e (Before sc s e) (After sc s e) (Taken sc s e) (carries sc s e) known
      (record {
        lookups = λ k d within. inl (contains_at s.lookups k d within);
        calls = λ k d within. found_own s.calls (get_or s.calls k d) known.calls.distinct (contains_at s.calls k d within);
        count = omega arith;
        time = refl;
        events = none_of (IsTimely sc e.key.time);
      })

  -- each timeout that the event makes is as late as the scenario says
  pub all_timely : AreTimely sc e.key.time (effect sc s e).events
  all_timely = subst (λ (time : ℕ). AreTimely sc time (effect sc s e).events) ends.time ends.events

  known_after : IsNodeState sc after
  known_after = (kept_effect sc s e ranges known sound).state

  -- where the call under a number comes from
  arises : (number : ℕ) (call : Call) → call_of number after ≡ Some call → Arises s e.body call
  arises number call found =
      subst (λ (o : Option Call). IfSome o (Arises s e.body)) found
      (IfSome-find (Arises s e.body) (λ (c : Call). c.number == number) after.calls ends.calls)

  -- the call under a new number was sent once
  new_once : (number : ℕ) → s.count < number → times_again (call_of number after) ≡ 0
  new_once number above = by (call_of number after) refl
    where
      sent : (call : Call) → call.number ≡ number → Arises s e.body call → call.resent ≡ 0
      sent call is (inl seen) = absurd (omega (arith, above, is, number_used sc s known call.number call seen.0))
      sent call is (inr (inl new)) = new.once
      sent call is (inr (inr again)) = absurd (omega (arith, above, is, number_used sc s known call.number again.old again.was))

      by : (o : Option Call) → call_of number after ≡ o → times_again o ≡ 0
      by None is = refl
      by (Some call) is = sent call (found_number number call after is) (arises number call is)

  steps_some : (lookup : Lookup) → Contains s.lookups lookup → 1 ≤ lookup.steps
  steps_some lookup c =
      let asked : lookup.hops < lookup.steps = All_at (λ (l : Lookup). l.hops < l.steps) s.lookups lookup known.lookups.asked c in
      omega (arith, asked)

  proceeds : (lookup : Lookup) → Contains after.lookups lookup → Comes s e lookup → Proceeds sc e s after lookup
  proceeds lookup here (inr (inl first)) =
      inr (inl (record {
        new_call = first.above;
        started = first.started;
        one = omega (arith, sends_first lookup.steps (sc.retries + 1) first.steps, new_once lookup.call first.above);
      }))
  proceeds lookup here (inr (inr next)) =
      let old : Lookup = next.1.old in
      let again = few_again sc s known old.call seldom in
      inr (inr (record {
        old = old;
        was = next.1.was;
        key = next.1.key;
        aim = next.1.aim;
        started = next.1.started;
        its_call = next.1.its_call;
        more =
            omega (
              arith,
              sends_next old.steps lookup.steps (sc.retries + 1) (times_again (call_of old.call s)) next.1.further (steps_some old next.1.was) again,
              new_once lookup.call next.0,
            );
        asks = inl next.0;
      }))
  proceeds lookup here (inl was) = by (call_of lookup.call after) refl
    where
      by_call : (call : Call) → call_of lookup.call after ≡ Some call → call.number ≡ lookup.call → Arises s e.body call → Proceeds sc e s after lookup
      by_call call found is (inl seen) =
          inl (record {
            was = was;
            same_call = found ∙ sym (subst (λ (n : ℕ). call_of n s ≡ Some call) is seen.0);
            other = subst (λ (n : ℕ). e.body ≢ body.Timeout n) is seen.1;
          })
      by_call call found is (inr (inl new)) =
          absurd (unused (call_of lookup.call s) refl)
        where
          unused : (o : Option Call) → call_of lookup.call s ≡ o → ⊥
          unused None none = call_waits sc s known lookup was none
          unused (Some old) some = omega (arith, new.above, is, number_used sc s known lookup.call old some)
      by_call call found is (inr (inr again)) =
          let before : call_of lookup.call s ≡ Some again.old = subst (λ (n : ℕ). call_of n s ≡ Some again.old) is again.was in
          let timed : e.body ≡ body.Timeout lookup.call = subst (λ (n : ℕ). e.body ≡ body.Timeout n) is again.timed in
          inr (inr (record {
            old = lookup;
            was = was;
            key = refl;
            aim = refl;
            started = refl;
            its_call = ap (λ (b : Body). concerns b lookup.call) timed ∙ same_node lookup.call;
            more = omega (arith, ap times_again before, ap times_again found, again.resent);
            asks = inr timed;
          }))

      by : (o : Option Call) → call_of lookup.call after ≡ o → Proceeds sc e s after lookup
      by None none = absurd (call_waits sc after known_after lookup here none)
      by (Some call) found = by_call call found (found_number lookup.call call after found) (arises lookup.call call found)

  pub all_proceed : All (Proceeds sc e s after) after.lookups
  all_proceed = λ k d within. proceeds (get_or after.lookups k d) (contains_at after.lookups k d within) (ends.lookups k d within)
