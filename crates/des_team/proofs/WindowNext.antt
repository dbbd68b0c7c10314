-- The time of the first event after a window.
use Rattle.std.proofs.Common.{◌≡◌, ◌∙◌, ◌↔◌, ◌⊎◌, ⊎_elim, inl, inr, ℕ, zero, suc, ◌<◌, ◌≤◌, Bool, true, false, cond, List, [], ◌∷◌, ◌++◌, Option, None, Some, option_map, length, get_or, refl, ap, sym, subst, arith, lt-ltb, ltb-true}
use Rattle.std.specs.Prelude.{nat_lt}
use Rattle.std.proofs.lemmas.Bool.{cases_lt}
use Rattle.std.specs.List.{Contains}
use Rattle.des_event.specs.declared.event.Event.{Event}
use Rattle.des_event.proofs.Members.{contains_append, contains_left, contains_none, contains_right}
use Rattle.des_model.specs.Histories.{next, pending}
use Rattle.des_model.specs.Windows.{part_of}
use Rattle.des_model.proofs.Runs.{next-None, next-Some, none_from_late}
use Rattle.des_machine.specs.Simulable.{IsSimulable}
use Rattle.des_window.specs.Openings.{sooner}
use Rattle.des_team.specs.Chronicles.{Chronicle}
use Rattle.des_team.specs.declared.layout.Layout.{Layout}
use Rattle.des_team.specs.declared.part.Done.{Done}
use Rattle.des_team.specs.declared.team.Team.{Team}
use Rattle.des_team.specs.Exchanges.{soonest}
use Rattle.des_team.specs.Orders.{AreResults, HaveNoFault}
use Rattle.des_team.specs.Mail.{all_of}
use Rattle.des_team.specs.Owned.{LeastTimeIs}
use Rattle.des_team.specs.Teams.{CanSend, before_end}
use Rattle.des_team.proofs.LeastTimes.{least_of_both, least_of_none}
use Rattle.des_team.proofs.PartLists.{listed_at, listed_from, listed_in}
use Rattle.des_team.proofs.TeamMail.{first}
use Rattle.des_team.proofs.WindowParts.{after_window, made_there, pending_part, pending_target, result_of, waits_here, where_pending}

module _ {M State Body Piece S : Type 0} where
  -- what a part has left, and what it made for others
  abbrev pub left_of : Done M S State Body Piece → List (Event Body)
  left_of f = f.parcel.part.value.pending ++ all_of f.parcel.part.value.outbox

  abbrev pub all_left : List (Done M S State Body Piece) → List (Event Body)
  all_left [] = []
  all_left (f ∷ fs) = left_of f ++ all_left fs

  left_in : (fs : List (Done M S State Body Piece)) (q : ℕ) (f : Done M S State Body Piece) (x : Event Body) → q < length fs
      → Contains (left_of (get_or fs q f)) x → Contains (all_left fs) x
  left_in [] q f x lt c = absurd (omega (arith, lt))
  left_in (g ∷ fs) zero f x lt c = contains_left (left_of g) (all_left fs) x c
  left_in (g ∷ fs) (suc q) f x lt c = contains_right (left_of g) (all_left fs) x (left_in fs q f x (omega (arith, lt)) c)

  -- whose event it is
  record IsLeft (fs : List (Done M S State Body Piece)) (x : Event Body) : Type 0 where
    pub place : ℕ
    pub inside : place < length fs
    pub result : Done M S State Body Piece
    pub among : Contains (left_of (get_or fs place result)) x

  left_from : (fs : List (Done M S State Body Piece)) (x : Event Body) → Contains (all_left fs) x → IsLeft fs x
  left_from [] x c = absurd (contains_none x c)
  left_from (g ∷ fs) x c = ⊎_elim
      (λ k. record { place = 0; inside = omega arith; result = g; among = k })
      (λ k. let r = left_from fs x k in record { place = suc r.place; inside = omega (arith, r.inside); result = r.result; among = r.among })
      (contains_append (left_of g) (all_left fs) x c)

  -- the soonest of the times is the least time of all
  soonest_after : (fs : List (Done M S State Body Piece)) (least : Option ℕ) (es : List (Event Body)) → LeastTimeIs es least
      → ((q : ℕ) (f : Done M S State Body Piece) → q < length fs → LeastTimeIs (left_of (get_or fs q f)) (get_or fs q f).next)
      → (all : List (Event Body)) → ((x : Event Body) → Contains all x ↔ (Contains es x ⊎ Contains (all_left fs) x)) → LeastTimeIs all (soonest least fs)
  soonest_after [] least es is each all same = least_of_both es [] all least None is least_of_none same
  soonest_after (f ∷ fs) least es is each all same = soonest_after fs (sooner least f.next) (es ++ left_of f)
      (least_of_both es (left_of f) (es ++ left_of f) least f.next is (each 0 f (omega arith))
      (λ x. (contains_append es (left_of f) x, ⊎_elim (contains_left es (left_of f) x) (contains_right es (left_of f) x))))
      (λ q g lt. each (suc q) g (omega (arith, lt))) all
      (λ x. (
        λ c. ⊎_elim
            (λ k. inl (contains_left es (left_of f) x k))
            (λ k. ⊎_elim (λ m. inl (contains_right es (left_of f) x m)) (λ m. inr m) (contains_append (left_of f) (all_left fs) x k))
            ((same x).0 c),
        λ c. (same x).1 (⊎_elim
            (λ k. ⊎_elim (λ m. inl m) (λ m. inr (contains_left (left_of f) (all_left fs) x m)) (contains_append es (left_of f) x k))
            (λ k. inr (contains_right (left_of f) (all_left fs) x k)) c),
      ))

module _ {State Body Piece S : Type 0} where
  -- the time of the next event, by the least time of those that are pending
  next_by : (ch : Chronicle State Body Piece S) (h es : List (Event Body)) → ((x : Event Body) → Contains es x ↔ Contains (pending ch.machine h) x)
      → (o : Option ℕ)
      → LeastTimeIs es o → option_map (λ (e : Event Body). e.key.time) (next ch.machine h) ≡ before_end ch.machine.duration o
  next_by ch h es same None none = ap (option_map (λ (e : Event Body). e.key.time)) (none_from_late ch.machine h
      (λ x c. absurd (contains_none x (subst (λ l. Contains l x) none ((same x).1 c)))))
  next_by ch h es same (Some time) least = ⊎_elim
      (λ lt. early lt (next ch.machine h) refl)
      (λ ge. ap (option_map (λ (e : Event Body). e.key.time)) (none_from_late ch.machine h (λ x c. omega (arith, ge, least.0 x ((same x).1 c))))
      ∙ sym (late (nat_lt time ch.machine.duration) refl ge))
      (cases_lt time ch.machine.duration)
    where
      in_time : time < ch.machine.duration → Some time ≡ before_end ch.machine.duration (Some time)
      in_time lt = sym (ap (λ b. cond b (Some time) None) (lt-ltb time ch.machine.duration lt))

      late : (b : Bool) → nat_lt time ch.machine.duration ≡ b → ch.machine.duration ≤ time → cond b (Some time) None ≡ None
      late true e ge = absurd (omega (arith, ltb-true time ch.machine.duration e, ge))
      late false e ge = refl

      early : time < ch.machine.duration → (o : Option (Event Body)) → next ch.machine h ≡ o
          → option_map (λ (e : Event Body). e.key.time) o ≡ before_end ch.machine.duration (Some time)
      early lt None s =
          let soon = least.1 in
          absurd (omega (arith, next-None ch.machine h s soon.0 ((same soon.0).0 soon.1), soon.2, lt))
      early lt (Some e) s =
          let n = next-Some ch.machine h e s in
          let soon = least.1 in
          let low : time ≤ e.key.time = least.0 e ((same e).1 n.waits) in
          let high : e.key.time ≤ soon.0.key.time = (n.first soon.0 ((same soon.0).0 soon.1)).time in
          let is : e.key.time ≡ time = omega (arith, low, high, soon.2) in
          ap (λ z. Some z) is ∙ in_time lt

module _ {M State Body Piece S : Type 0} (ch : Chronicle State Body Piece S) {Sound : ℕ → State → Type 0} {Fit : Event Body → Type 0} {Room : State
    → Type 0} (ok : IsSimulable ch.machine Sound Fit Room) (l : Layout) (t : Team M S State Body Piece) (can : CanSend ch l t)
    (fs : List (Done M S State Body Piece))
    (results : AreResults ch l t.count t.window.horizon fs) (none : HaveNoFault fs) where
  abbrev later : List (Event Body)
  later = after_window ch ok l t can fs results none

  left_pending : (q : ℕ) (f : Done M S State Body Piece) → q < l.division.parts → (x : Event Body) → Contains (left_of (get_or fs q f)) x
      → Contains (pending ch.machine later) x
  left_pending q f lt x c =
      let run = result_of ch ok l t can fs results none q f lt in
      let part = (get_or fs q f).parcel.part.value in
      ⊎_elim
      (λ k. let g = (run.owned.same x).0 (contains_left part.pending part.inbox x k) in
      waits_here ch ok l t can fs results none q lt x g.0 (g.1 ∙ run.part_is))
      (λ k.
      let at = listed_from part.outbox x k in
      let inside : at.place < l.division.parts = omega (arith, at.inside, run.owned.out_long) in
      let v = first part.outbox (omega (arith, at.inside)) in
      let g = (run.sent at.place v x inside).0 (listed_at part.outbox x at v) in
      made_there ch ok l t can fs results none q at.place lt x g.0 g.1 g.2)
      (contains_append part.pending (all_of part.outbox) x c)

  pending_left : (x : Event Body) → Contains (pending ch.machine later) x → Contains (all_left fs) x
  pending_left x c =
      let inside = pending_part ch ok l t can fs results none x c in
      ⊎_elim
      (λ k.
      let p = part_of l.division x.target in
      let lt : p < length fs = omega (arith, inside, results.long) in
      let f = first fs (omega (arith, lt)) in
      let run = result_of ch ok l t can fs results none p f inside in
      let part = (get_or fs p f).parcel.part.value in
      left_in fs p f x lt (contains_left part.pending (all_of part.outbox) x (⊎_elim
      (λ m. m)
      (λ m. absurd (contains_none x (subst (λ es. Contains es x) run.taken_in m)))
      (contains_append part.pending part.inbox x ((run.owned.same x).1 (k, sym run.part_is))))))
      (λ k.
      let q = k.0 in
      let lt : q < length fs = omega (arith, k.1, results.long) in
      let f = first fs (omega (arith, lt)) in
      let run = result_of ch ok l t can fs results none q f k.1 in
      let part = (get_or fs q f).parcel.part.value in
      let p = part_of l.division x.target in
      let at : p < length part.outbox = omega (arith, inside, run.owned.out_long) in
      let v = first part.outbox (omega (arith, at)) in
      left_in fs q f x lt (contains_right part.pending (all_of part.outbox) x
      (listed_in part.outbox p v x at ((run.sent p v x inside).1 (k.3, refl, (λ e. k.2 (sym e)))))))
      (where_pending ch ok l t can fs results none x (pending_target ch ok l t can fs results none x c) c)

  pub next_after : option_map (λ (e : Event Body). e.key.time) (next ch.machine later) ≡ before_end ch.machine.duration (soonest None fs)
  next_after = next_by ch later (all_left fs)
      (λ x. (
        λ c. let r = left_from fs x c in left_pending r.place r.result (omega (arith, r.inside, results.long)) x r.among,
        pending_left x,
      ))
      (soonest None fs)
      (soonest_after fs None [] least_of_none
      (λ q f lt. (result_of ch ok l t can fs results none q f (omega (arith, lt, results.long))).next_is)
      (all_left fs) (λ x. (λ c. inr c, ⊎_elim (λ k. absurd (contains_none x k)) (λ k. k))))
