-- What the parts ran in a window.
use Rattle.std.proofs.Common.{◌≡◌, ◌≢◌, ◌∙◌, ◌↔◌, ℕ, zero, suc, ◌+◌, ◌<◌, List, [], ◌∷◌, ◌++◌, None, length, get_or, refl, ap, sym, subst, arith}
use Rattle.std.specs.List.{Contains}
use Rattle.std.specs.Prelude.{IfNone}
use Rattle.des_event.specs.declared.event.Event.{Event}
use Rattle.des_model.specs.Histories.{IsOverLimit, history}
use Rattle.des_model.specs.Laws.{Commutes, MayOpen}
use Rattle.des_model.specs.WellFormed.{IsWellFormed}
use Rattle.des_model.specs.Windows.{part_of, IsSealedRun, events_run, made_since, pieces_since}
use Rattle.des_model.proofs.Horizons.{horizon_may_open}
use Rattle.des_model.proofs.Runs.{history_is_legal}
use Rattle.des_model.proofs.WindowCourse.{events_run_is, sum_to, window_commutes, window_history, window_long, window_over, window_some}
use Rattle.des_machine.specs.Simulable.{IsSimulable}
use Rattle.des_window.proofs.Openings.{OpensWith, opens_with}
use Rattle.des_team.specs.Chronicles.{Chronicle}
use Rattle.des_team.specs.Entries.{entries_of}
use Rattle.des_team.specs.declared.layout.Layout.{Layout}
use Rattle.des_team.specs.declared.part.Done.{Done}
use Rattle.des_team.specs.declared.team.Team.{Team}
use Rattle.des_team.specs.Orders.{AreResults, AreResultsFrom, HasRun, HaveNoFault, IsResultOf}
use Rattle.des_team.specs.Outputs.{IsText}
use Rattle.des_team.specs.Mail.{all_of}
use Rattle.des_team.specs.Owned.{AreApart, HasTakenAll, IsOwned, LeastTimeIs}
use Rattle.des_team.specs.Running.{ran_first}
use Rattle.des_team.specs.Teams.{CanSend, events_in}
use Rattle.des_team.proofs.TeamMail.{first}

module _ {M State Body Piece S : Type 0} where
  -- the part has run these events of its window, this many
  pub record IsRunOf (ch : Chronicle State Body Piece S) (l : Layout) (count horizon part n : ℕ) (f : Done M S State Body Piece) : Type 0 where
    pub part_is : f.parcel.part.value.part ≡ part
    pub sealed : IsSealedRun ch.machine l.division (history ch.machine count) horizon part (ran_first ch.machine l count horizon part n)
    pub long : length (ran_first ch.machine l count horizon part n) ≡ n
    pub owned : IsOwned ch l (ran_first ch.machine l count horizon part n ++ history ch.machine count) f.parcel.part.value
    pub taken_in : HasTakenAll f.parcel.part.value
    pub sent : (q : ℕ) (v : List (Event Body)) (x : Event Body) → q < l.division.parts
        → Contains (get_or f.parcel.part.value.outbox q v) x
        ↔ (Contains (made_since ch.machine (history ch.machine count)
        (ran_first ch.machine l count horizon part n)) x × (part_of l.division x.target ≡ q) × (q ≢ part))
    pub sent_apart : (q : ℕ) (v : List (Event Body)) → q < l.division.parts → AreApart (get_or f.parcel.part.value.outbox q v)
    pub next_is : LeastTimeIs (f.parcel.part.value.pending ++ all_of f.parcel.part.value.outbox) f.next
    pub text_is : IsText (entries_of ch.text (pieces_since ch.machine (history ch.machine count) (ran_first ch.machine l count horizon part n))) f.parcel.output

  run_of_result : (ch : Chronicle State Body Piece S) (l : Layout) (part count horizon : ℕ) (f : Done M S State Body Piece)
      → IsResultOf ch l part count horizon f → f.fault ≡ None
      → IsRunOf ch l count horizon part f.events f
  run_of_result ch l part count horizon f is none =
      let run : HasRun ch l f = subst (λ o. IfNone o (HasRun ch l f)) none is.done.ran in
      subst (λ c. IsRunOf ch l c horizon part f.events f) is.count_is
      (subst (λ z. IsRunOf ch l f.parcel.count z part f.events f) is.horizon_is
      (subst (λ p. IsRunOf ch l f.parcel.count f.parcel.horizon p f.events f) is.part_is (record {
        part_is = refl;
        sealed = run.sealed;
        long = run.long;
        owned = run.owned;
        taken_in = run.taken_in;
        sent = run.sent;
        sent_apart = run.sent_apart;
        next_is = run.next_is;
        text_is = run.text_is;
      })))

  runs_from : (ch : Chronicle State Body Piece S) (l : Layout) (count horizon k : ℕ) (fs : List (Done M S State Body Piece))
      → AreResultsFrom ch l count horizon k fs → HaveNoFault fs
      → (q : ℕ) (f : Done M S State Body Piece) → q < length fs → IsRunOf ch l count horizon (k + q) (get_or fs q f).events (get_or fs q f)
  runs_from ch l count horizon k [] each none q f lt = absurd (omega (arith, lt))
  runs_from ch l count horizon k (g ∷ fs) each none zero f lt = subst (λ p. IsRunOf ch l count horizon p g.events g) (omega arith)
      (run_of_result ch l k count horizon g each.0 (none 0 g (omega arith)))
  runs_from ch l count horizon k (g ∷ fs) each none (suc q) f lt =
      subst (λ p. IsRunOf ch l count horizon p (get_or fs q f).events (get_or fs q f)) (omega arith)
      (runs_from ch l count horizon (suc k) fs each.1 (λ i d i_lt. none (suc i) d (omega (arith, i_lt))) q f (omega (arith, lt)))

  -- the number of events of the part at a place
  abbrev pub events_at : List (Done M S State Body Piece) → ℕ → ℕ
  events_at [] q = 0
  events_at (f ∷ fs) zero = f.events
  events_at (f ∷ fs) (suc q) = events_at fs q

  events_there : (fs : List (Done M S State Body Piece)) (q : ℕ) (f : Done M S State Body Piece) → q < length fs
      → (get_or fs q f).events ≡ events_at fs q
  events_there [] q f lt = absurd (omega (arith, lt))
  events_there (g ∷ fs) zero f lt = refl
  events_there (g ∷ fs) (suc q) f lt = events_there fs q f (omega (arith, lt))

sum_first : (n : ℕ → ℕ) (k : ℕ) → sum_to n (suc k) ≡ n 0 + sum_to (λ q. n (suc q)) k
sum_first n zero = refl
sum_first n (suc k) = omega (arith, sum_first n k)

module _ {M State Body Piece S : Type 0} where
  events_sum : (fs : List (Done M S State Body Piece)) → events_in fs ≡ sum_to (events_at fs) (length fs)
  events_sum [] = refl
  events_sum (f ∷ fs) = ap (λ z. f.events + z) (events_sum fs) ∙ sym (sum_first (events_at (f ∷ fs)) (length fs))

module _ {M State Body Piece S : Type 0} (ch : Chronicle State Body Piece S) {Sound : ℕ → State → Type 0} {Fit : Event Body → Type 0} {Room : State
    → Type 0} (ok : IsSimulable ch.machine Sound Fit Room) (l : Layout) (t : Team M S State Body Piece) (can : CanSend ch l t)
    (fs : List (Done M S State Body Piece))
    (results : AreResults ch l t.count t.window.horizon fs) (none : HaveNoFault fs) where
  abbrev pub past : List (Event Body)
  past = history ch.machine t.count

  pub w : IsWellFormed ch.machine Sound Fit
  w = ok.well_formed

  pub opening : OpensWith ch.machine past t.window
  opening = opens_with ch.machine past t.window can.opens

  pub may : MayOpen ch.machine past t.window.time t.window.horizon
  may = subst (λ time. MayOpen ch.machine past time t.window.horizon) (sym opening.time_is)
      (subst (λ k. MayOpen ch.machine past opening.event.key.time k) (sym opening.horizon_is)
      (horizon_may_open ch.machine w past opening.event (history_is_legal ch.machine t.count) opening.next_is))

  -- the events that a part ran
  abbrev pub ran : ℕ → List (Event Body)
  ran q = ran_first ch.machine l t.count t.window.horizon q (events_at fs q)

  pub run_at : (q : ℕ) (f : Done M S State Body Piece) → q < l.division.parts → IsRunOf ch l t.count t.window.horizon q (events_at fs q) (get_or fs q f)
  run_at q f lt =
      let inside : q < length fs = omega (arith, lt, results.long) in
      subst (λ n. IsRunOf ch l t.count t.window.horizon q n (get_or fs q f)) (events_there fs q f inside)
      (subst (λ p. IsRunOf ch l t.count t.window.horizon p (get_or fs q f).events (get_or fs q f)) (omega arith)
      (runs_from ch l t.count t.window.horizon 0 fs results.each none q f inside))

  pub sealed : (q : ℕ) → q < l.division.parts → IsSealedRun ch.machine l.division past t.window.horizon q (ran q)
  sealed q lt = (run_at q (first fs (omega (arith, lt, results.long))) lt).sealed

  pub ran_long : (q : ℕ) → q < l.division.parts → length (ran q) ≡ events_at fs q
  ran_long q lt = (run_at q (first fs (omega (arith, lt, results.long))) lt).long

  pub total_is : events_run ran l.division.parts ≡ events_in fs
  total_is = events_run_is ran (events_at fs) l.division.parts ran_long ∙ ap (sum_to (events_at fs)) (sym results.long) ∙ sym (events_sum fs)

  -- they are the next events of the run
  abbrev pub commuted : Commutes ch.machine l.division past t.window.horizon ran
  commuted = window_commutes ch.machine w l.division can.layout.divides t.count t.window.time t.window.horizon may can.long ran sealed

  pub after_is : commuted.taken ++ past ≡ history ch.machine (t.count + events_in fs)
  after_is = window_history ch.machine w l.division can.layout.divides t.count t.window.time t.window.horizon may can.long ran sealed
      ∙ ap (λ k. history ch.machine (t.count + k)) total_is

  pub after_long : length (history ch.machine (t.count + events_in fs)) ≡ t.count + events_in fs
  after_long = ap (λ k. length (history ch.machine (t.count + k))) (sym total_is)
      ∙ window_long ch.machine w l.division can.layout.divides t.count t.window.time t.window.horizon may can.long ran sealed
      ∙ ap (λ k. t.count + k) total_is

  -- too many events
  pub window_has_too_many : ch.machine.max_events < t.count + events_in fs → IsOverLimit ch.machine
  window_has_too_many many = window_over ch.machine w l.division can.layout.divides t.count t.window.time t.window.horizon may ran
      (λ q lt. (sealed q lt).runs) l.division.parts (omega arith) can.long (omega (arith, many, total_is))

  -- some event was run
  pub window_has_some : 0 < events_in fs
  window_has_some = omega (
    arith,
    total_is,
    window_some ch.machine w l.division can.layout.divides t.count t.window.time t.window.horizon may can.long ran
        sealed,
  )
