-- Events that a node makes one after another: each number lies above the old count and is at most the new one, and no two
-- are the same.
use Rattle.std.proofs.Common.{◌≡◌, ◌≢◌, ℕ, ◌<◌, ◌≤◌, List, [], ◌∷◌, ap, arith, subst, ⊎_elim}
use Rattle.std.specs.List.{AllPairs, Contains}
use Rattle.chord_event.specs.declared.body.Body.{Body}
use Rattle.des_event.specs.declared.event.Event.{Event}
use Rattle.des_event.specs.declared.key.Key.{Key}
use Rattle.des_event.proofs.Members.{contains_none, contains_cons, AllPairs_none, AllPairs_cons}
use Rattle.chord_scenario.specs.declared.scenario.Scenario.{Scenario}
use Rattle.chord_ops.specs.Growth.{AreMade, IsMade}
use Rattle.chord_ops.proofs.Growing.{AreMade-counts_up}

-- an event that was made, its number above the old count and at most the new one
pub record IsOneOf (sc : Scenario) (me time old new : ℕ) (e : Event Body) : Type 0 where
  pub made : IsMade sc me time e
  pub above : old < e.key.number
  pub at_most : e.key.number ≤ new

pub one_of : (sc : Scenario) (me time old new : ℕ) (es : List (Event Body)) → AreMade sc me time old new es → (e : Event Body)
    → Contains es e → IsOneOf sc me time old new e
one_of sc me time old new [] made e c = absurd (contains_none e c)
one_of sc me time old new (x ∷ es) made e c =
    ⊎_elim here (λ k. there (one_of sc me time x.key.number new es made.2 e k)) (contains_cons e x es c)
  where
    here : x ≡ e → IsOneOf sc me time old new e
    here s = subst (λ z. IsOneOf sc me time old new z) s (record {
      made = made.0;
      above = made.1;
      at_most = AreMade-counts_up sc me time x.key.number new es made.2;
    })

    there : IsOneOf sc me time x.key.number new e → IsOneOf sc me time old new e
    there q = record {
      made = q.made;
      above = omega (arith, q.above, made.1);
      at_most = q.at_most;
    }

pub made_apart : (sc : Scenario) (me time old new : ℕ) (es : List (Event Body)) → AreMade sc me time old new es
    → AllPairs (λ (a b : Event Body). a.key ≢ b.key) es
made_apart sc me time old new [] made = AllPairs_none (λ (a b : Event Body). a.key ≢ b.key)
made_apart sc me time old new (x ∷ es) made =
    AllPairs_cons (λ (a b : Event Body). a.key ≢ b.key) x es
    (λ e c s. omega (arith, (one_of sc me time x.key.number new es made.2 e c).above, ap (λ (k : Key). k.number) s))
    (made_apart sc me time x.key.number new es made.2)
