-- The clock of a world has all audits that its next window may meet.
use Rattle.std.proofs.Common.{◌≡◌, ◌∙◌, ℕ, zero, suc, ◌<◌, ◌≤◌, List, [], ◌∷◌, Option, None, Some, length, get_or, ap, refl, arith}
use Rattle.std.specs.Prelude.{nat_lt}
use Rattle.std.specs.List.{Contains, filter}
use Rattle.des_event.specs.declared.event.Event.{Event}
use Rattle.des_machine.specs.Simulable.{IsSimulable}
use Rattle.des_model.specs.Histories.{history, next, open_audits, pending}
use Rattle.des_model.specs.Machine.{Machine}
use Rattle.des_model.specs.Windows.{Division, Divides, part_of}
use Rattle.des_model.proofs.Runs.{next-None, next-Some}
use Rattle.des_window.proofs.Clocks.{before_next, later_open}
use Rattle.des_parts.specs.declared.world.PartEvents.{PartEvents}
use Rattle.des_parts.specs.Delivery.{IsAhead}
use Rattle.des_parts.specs.Worlds.{HasEvents}
use Rattle.des_parts.proofs.Standing.{pending_inside}

item_at : {A : Type 0} (xs : List A) (i : ℕ) → i < length xs → A
item_at [] i l = absurd (omega (arith, l))
item_at (x ∷ xs) zero l = x
item_at (x ∷ xs) (suc i) l = item_at xs i (omega (arith, l))

module _ {State Body Piece : Type 0} (m : Machine State Body Piece) {Sound : ℕ → State → Type 0} {Fit : Event Body → Type 0} {Room : State → Type 0}
    (sim : IsSimulable m Sound Fit Room) (d : Division) (divides : Divides d m.nodes) (count : ℕ)
    (old : List (PartEvents Body)) (long : length old ≡ d.parts)
    (has : (p : ℕ) (e : PartEvents Body) → p < d.parts → HasEvents m d (history m count) p (get_or old p e).later) where
  pub clock_ahead : (clock : List ℕ) → clock ≡ open_audits m (history m count) → IsAhead m clock old
  clock_ahead clock is time least early = ap (filter (λ u. nat_lt time u)) is ∙ go (next m (history m count)) refl
    where
      e : PartEvents Body
      e = item_at old least.reached.0 least.reached.1

      there : (x : Event Body) × Contains (pending m (history m count)) x × (x.key.time ≡ time)
      there = let r = least.reached in let q = r.2 e in (q.0, (((has r.0 e (omega (arith, r.1, long))).same q.0).0 q.1).0, q.2)

      go : (z : Option (Event Body)) → next m (history m count) ≡ z
          → filter (λ u. nat_lt time u) (open_audits m (history m count)) ≡ filter (λ u. nat_lt time u) m.audit_times
      go None s = absurd (omega (arith, next-None m (history m count) s there.0 there.1, there.2, early))
      go (Some z) s =
          let n = next-Some m (history m count) z s in
          let inside = pending_inside m sim count d divides z n.waits in
          let found = ((has (part_of d z.target) e inside).same z).1 (n.waits, refl) in
          let low : time ≤ z.key.time = least.least (part_of d z.target) e z (omega (arith, inside, long)) found in
          let high : z.key.time ≤ there.0.key.time = (n.first there.0 there.1).time in
          later_open m time (history m count) (λ x c.
          let first : x.key.time ≤ z.key.time = before_next m sim.well_formed count z s x c in
          let there_is : there.0.key.time ≡ time = there.2 in
          omega (arith, first, high, there_is))
