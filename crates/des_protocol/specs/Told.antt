-- Which events tell what was told.
use Rattle.std.proofs.Common.{◌≡◌, ◌≢◌, ℕ, ◌+◌, ◌<◌, ◌≤◌, List, [], ◌∷◌, length, ap, subst, arith, ⊎_elim}
use Rattle.std.specs.List.{All, AllPairs, Contains}
use Rattle.des_event.specs.declared.event.Event.{Event}
use Rattle.des_event.specs.declared.key.Key.{Key}
use Rattle.des_event.proofs.Members.{All_at, All_from, AllPairs_cons, AllPairs_none, contains_cons, contains_here, contains_none, contains_there}
use Rattle.des_protocol.specs.declared.telling.Telling.{Telling}
use Rattle.des_protocol.specs.Numbered.{event_of, events_of}

module _ {Body : Type 0} where
  -- the event is one of these tellings, and has a number of its own
  pub record IsTold (time origin made : ℕ) (ts : List (Telling Body)) (x : Event Body) : Type 0 where
    pub telling : Telling Body
    pub number : ℕ
    pub among : Contains ts telling
    pub least : made < number
    pub most : number ≤ made + length ts
    pub is : event_of time origin number telling ≡ x

  pub told : (time origin made : ℕ) (ts : List (Telling Body)) (x : Event Body) → Contains (events_of time origin made ts) x → IsTold time origin made ts x
  told time origin made [] x c = absurd (contains_none x c)
  told time origin made (t ∷ ts) x c = ⊎_elim
      (λ is. record { telling = t; number = made + 1; among = contains_here t ts; least = omega arith; most = omega arith; is = is })
      (λ rest. let later = told time origin (made + 1) ts x rest in record {
        telling = later.telling;
        number = later.number;
        among = contains_there later.telling t ts later.among;
        least = omega (arith, later.least);
        most = omega (arith, later.most);
        is = later.is;
      })
      (contains_cons x (event_of time origin (made + 1) t) (events_of time origin (made + 1) ts) c)

  -- what holds of all that was told holds of the events
  pub all_told : (P : Event Body → Type 0) (Q : Telling Body → Type 0) (time origin made : ℕ) (ts : List (Telling Body))
      → ((t : Telling Body) (number : ℕ) → made < number → number ≤ made + length ts → Q t → P (event_of time origin number t))
      → All Q ts → All P (events_of time origin made ts)
  all_told P Q time origin made ts each all = All_from P (events_of time origin made ts)
      (λ x c.
      let one = told time origin made ts x c in
      subst P one.is (each one.telling one.number one.least one.most (All_at Q ts one.telling all one.among)))

  -- no two events have one key
  pub told_apart : (time origin made : ℕ) (ts : List (Telling Body)) → AllPairs (λ (a b : Event Body). a.key ≢ b.key) (events_of time origin made ts)
  told_apart time origin made [] = AllPairs_none (λ (a b : Event Body). a.key ≢ b.key)
  told_apart time origin made (t ∷ ts) = AllPairs_cons (λ (a b : Event Body). a.key ≢ b.key) (event_of time origin (made + 1) t)
      (events_of time origin (made + 1) ts) differ (told_apart time origin (made + 1) ts)
    where
      differ : (x : Event Body) → Contains (events_of time origin (made + 1) ts) x → (event_of time origin (made + 1) t).key ≢ x.key
      differ x c same =
          let later = told time origin (made + 1) ts x c in
          let number : made + 1 ≡ x.key.number = ap (λ (k : Key). k.number) same in
          let its : later.number ≡ x.key.number = ap (λ (e : Event Body). e.key.number) later.is in
          omega (arith, number, its, later.least)
