-- The clock has all audits after the next event.
use Rattle.std.proofs.Common.{refl, Contains, le-ltb, lt-ltb, ⊎_elim, ◌≡◌, ◌∙◌, ℕ, ◌≤◌, Bool, true, false, cond, List, [], ◌∷◌, Some, ap, sym, arith}
use Rattle.std.proofs.lemmas.Bool.{cases_lt}
use Rattle.std.specs.List.{filter}
use Rattle.std.specs.Prelude.{nat_lt}
use Rattle.des_event.proofs.Members.{contains_here, contains_there, AllPairs_at}
use Rattle.des_event.proofs.Order.{at_most_from_before}
use Rattle.des_event.specs.declared.event.Event.{Event}
use Rattle.des_event.specs.Keys.{IsBefore}
use Rattle.des_machine.proofs.Ends.{audits_at_start}
use Rattle.des_model.proofs.Audits.{open_after}
use Rattle.des_model.proofs.Runs.{history_is_legal, legal_ascends, next-Some}
use Rattle.des_model.specs.Histories.{history, next, open_audits}
use Rattle.des_model.specs.Machine.{Machine}
use Rattle.des_model.specs.WellFormed.{IsWellFormed}

module _ {State Body Piece : Type 0} (m : Machine State Body Piece) where
  -- what was above one time and is above a later one
  later_within : (time s : ℕ) (xs : List ℕ) → s ≤ time
      → filter (λ u. nat_lt time u) (filter (λ u. nat_lt s u) xs) ≡ filter (λ u. nat_lt time u) xs
  later_within time s [] le = refl
  later_within time s (x ∷ xs) le = ⊎_elim
      (λ lt. ap (λ b. filter (λ u. nat_lt time u) (cond b (x ∷ filter (λ u. nat_lt s u) xs) (filter (λ u. nat_lt s u) xs))) (lt-ltb s x (omega (arith, le, lt)))
      ∙ ap (λ b. cond b (x ∷ filter (λ u. nat_lt time u) (filter (λ u. nat_lt s u) xs)) (filter (λ u. nat_lt time u) (filter (λ u. nat_lt s u) xs)))
      (lt-ltb time x lt)
      ∙ ap (λ ys. x ∷ ys) (later_within time s xs le)
      ∙ sym (ap (λ b. cond b (x ∷ filter (λ u. nat_lt time u) xs) (filter (λ u. nat_lt time u) xs)) (lt-ltb time x lt)))
      (λ ge. go (nat_lt s x) ge ∙ later_within time s xs le
      ∙ sym (ap (λ b. cond b (x ∷ filter (λ u. nat_lt time u) xs) (filter (λ u. nat_lt time u) xs)) (le-ltb time x ge)))
      (cases_lt time x)
    where
      go : (b : Bool) → x ≤ time → filter (λ u. nat_lt time u) (cond b (x ∷ filter (λ u. nat_lt s u) xs) (filter (λ u. nat_lt s u) xs))
          ≡ filter (λ u. nat_lt time u) (filter (λ u. nat_lt s u) xs)
      go true ge = ap (λ b. cond b (x ∷ filter (λ u. nat_lt time u) (filter (λ u. nat_lt s u) xs)) (filter (λ u. nat_lt time u) (filter (λ u. nat_lt s u) xs)))
          (le-ltb time x ge)
      go false ge = refl

  -- no event has closed an audit after its time
  pub later_open : (time : ℕ) (h : List (Event Body)) → ((e : Event Body) → Contains h e → e.key.time ≤ time)
      → filter (λ u. nat_lt time u) (open_audits m h) ≡ filter (λ u. nat_lt time u) m.audit_times
  later_open time [] early = ap (filter (λ u. nat_lt time u)) (audits_at_start m)
  later_open time (e ∷ h) early = ap (filter (λ u. nat_lt time u)) (open_after m e h)
      ∙ later_within time e.key.time (open_audits m h) (early e (contains_here e h))
      ∙ later_open time h (λ x c. early x (contains_there x e h c))

  -- the events of the run come before the next one
  pub before_next : {Sound : ℕ → State → Type 0} {Fit : Event Body → Type 0} (w : IsWellFormed m Sound Fit) (count : ℕ) (e : Event Body)
      → next m (history m count) ≡ Some e → (x : Event Body) → Contains (history m count) x → x.key.time ≤ e.key.time
  before_next w count e is x c = (at_most_from_before x.key e.key
      (AllPairs_at (λ (a b : Event Body). IsBefore b.key a.key) e (history m count)
      (legal_ascends m w (e ∷ history m count) (history_is_legal m count, next-Some m (history m count) e is)) x c)).time
