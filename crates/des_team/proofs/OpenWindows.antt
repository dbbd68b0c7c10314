-- A window is opened: the audits that are due are made.
use Rattle.std.proofs.Common.{refl, option_map, lt-ltb, ◌≡◌, ◌∙◌, ℕ, ◌+◌, ◌<◌, ◌≤◌, ◌^◌, Bool, true, false, cond, List, [], ◌∷◌, ◌++◌, Option, None, Some, Vec, slice_get, length, append-nil, get_or, ap, sym, subst, arith}
use Rattle.std.specs.Global.{Global}
use Rattle.std.specs.List.{AllByRecursion, filter, flat_map}
use Rattle.std.specs.Prelude.{IfSome, nat_le, nat_lt}
use Rattle.std.proofs.lemmas.Option.{none-some}
use Rattle.des_event.specs.declared.event.Event.{Event}
use Rattle.des_model.specs.Histories.{history, state, next, open_audits}
use Rattle.des_model.specs.Scribes.{due, audits_at}
use Rattle.des_model.specs.Worlds.{AreStatesAfter}
use Rattle.des_model.proofs.Audits.{open_see}
use Rattle.des_machine.specs.declared.journal.Journal.{Journal}
use Rattle.des_machine.specs.Times.{IsAscending}
use Rattle.des_machine.proofs.Ends.{pieces_and_audits}
use Rattle.des_machine.proofs.Puts.{all-left, none-due}
use Rattle.des_machine.specs.Simulable.{IsSimulable}
use Rattle.des_window.proofs.Clocks.{before_next, later_open}
use Rattle.des_window.specs.declared.opening.Opening.{Opening}
use Rattle.des_window.specs.Openings.{opening_after}
use Rattle.des_team.specs.Teams.{before_end, AreHere, IsHere, IsOpened, IsTeam, HasAudited, audits_due}
use Rattle.des_team.specs.Chronicles.{Chronicle}
use Rattle.des_team.proofs.TeamShares.{audited_more, audits_fewer}
use Rattle.des_team.specs.declared.layout.Layout.{Layout}
use Rattle.des_team.specs.declared.part.Parcel.{Parcel}
use Rattle.des_team.specs.declared.team.Team.{Team}
use Rattle.des_team.specs.Placed.{placed}
use Rattle.des_team.proofs.Placed.{placed_after}

-- The clock

each_picked : (p : ℕ → Bool) (x : ℕ) (xs : List ℕ) → AllByRecursion (λ u. x < u) xs → AllByRecursion (λ u. x < u) (filter p xs)
each_picked p x [] all = tt
each_picked p x (y ∷ xs) all = go (p y) (each_picked p x xs all.1)
  where
    go : (b : Bool) → AllByRecursion (λ u. x < u) (filter p xs) → AllByRecursion (λ u. x < u) (cond b (y ∷ filter p xs) (filter p xs))
    go true others = (all.0, others)
    go false others = others

ascending_still : (p : ℕ → Bool) (xs : List ℕ) → IsAscending xs → IsAscending (filter p xs)
ascending_still p [] up = tt
ascending_still p (x ∷ xs) up = go (p x) (ascending_still p xs up.1)
  where
    go : (b : Bool) → IsAscending (filter p xs) → IsAscending (cond b (x ∷ filter p xs) (filter p xs))
    go true others = (each_picked p x xs up.0, others)
    go false others = others

each_later : (x time : ℕ) (xs : List ℕ) → time < x → AllByRecursion (λ u. x < u) xs → AllByRecursion (λ u. time < u) xs
each_later x time [] l all = tt
each_later x time (y ∷ xs) l all = (omega (arith, all.0, l), each_later x time xs l all.1)

all_late : (clock : List ℕ) (time : ℕ) → IsAscending clock → IfSome (slice_get clock 0) (λ first. time < first) → AllByRecursion (λ u. time < u) clock
all_late [] time up late = tt
all_late (x ∷ xs) time up late = (late, each_later x time xs late up.0)

module _ {M State Body Piece S : Type 0} (ch : Chronicle State Body Piece S) {Sound : ℕ → State → Type 0} {Fit : Event Body → Type 0} {Room : State
    → Type 0} (ok : IsSimulable ch.machine Sound Fit Room) (l : Layout) (old now : Option (List ℕ)) (t : Team M S State Body Piece)
    (at : IsTeam ch l old now t) where
  abbrev past : List (Event Body)
  past = history ch.machine t.count

  pub late_clock : (time : ℕ) → IfSome (slice_get t.journal.clock 0) (λ first. time < first) → AllByRecursion (λ u. time < u) t.journal.clock
  late_clock time late = all_late t.journal.clock time (subst IsAscending (sym at.audits) (ascending_still _ ch.machine.audit_times ok.ascending)) late

  -- the clock has all audits after the next event
  pub clock_after : (time : ℕ) → t.next ≡ Some time → time < ch.machine.duration
      → filter (λ u. nat_lt time u) t.journal.clock ≡ filter (λ u. nat_lt time u) ch.machine.audit_times
  clock_after time is early = ap (filter (λ u. nat_lt time u)) at.audits ∙ go (next ch.machine past) refl
      (at.next_is ∙ ap (before_end ch.machine.duration) is ∙ ap (λ b. cond b (Some time) None) (lt-ltb time ch.machine.duration early))
    where
      value : Option ℕ → ℕ
      value None = 0
      value (Some n) = n

      go : (n : Option (Event Body)) → next ch.machine past ≡ n → option_map (λ (e : Event Body). e.key.time) n ≡ Some time
          → filter (λ u. nat_lt time u) (open_audits ch.machine past) ≡ filter (λ u. nat_lt time u) ch.machine.audit_times
      go None found same = absurd (none-some time same)
      go (Some e) found same = later_open ch.machine time past (λ x c.
          let first : e.key.time ≡ time = ap value same in
          omega (arith, before_next ch.machine ok.well_formed t.count e found x c, first))

  -- the scribe has room for all audits
  pub audits_fit : length (at.audited.audits ++ []) + length t.journal.clock ≤ 2 ^ 40
  audits_fit = omega (
    arith,
    audits_fewer ch past t.journal.scribe at.audited,
    pieces_and_audits ch.machine past t.journal.clock at.audits,
    at.long,
    at.within,
    ok.few,
  )

  -- the states of all nodes, in the parts
  pub states_after : AreStatesAfter ch.machine past (placed l t.parcels.items)
  states_after = placed_after ch l at.layout past t.parcels.items at.here

  some_here : (parcels : List (Option (Parcel M S State Body Piece))) → AreHere ch l past parcels → (p : ℕ) → p < l.division.parts
      → IfSome (get_or parcels p None) (IsHere ch l past p)
  some_here parcels here p k = let r = here p k in subst (λ z. IfSome z (IsHere ch l past p)) (sym r.1) r.2

  module _ (w : Opening) (opens : opening_after ch.machine (history ch.machine t.count) ≡ Some w) (journal : Journal S) (text : Vec ℕ Global) where
    abbrev made : List Piece
    made = audits_at ch.machine (state ch.machine past) (due w.time t.journal.clock)

    same_made : made ≡ audits_due ch.machine (history ch.machine t.count) w.time
    same_made = ap (λ ts. audits_at ch.machine (state ch.machine past) (due w.time ts)) at.audits ∙ sym (open_see ch.machine (λ u. nat_le u w.time) past)

    pub opened_at : journal.clock ≡ filter (λ u. nat_lt w.time u) t.journal.clock
        → text.items ≡ flat_map ch.text (audits_at ch.machine (state ch.machine (history ch.machine t.count)) (due w.time t.journal.clock))
        → ((earlier : List Piece) → ch.HasCounted earlier t.journal.scribe
        → ch.HasCounted (earlier ++ audits_at ch.machine (state ch.machine (history ch.machine t.count)) (due w.time t.journal.clock)) journal.scribe)
        → IsOpened ch l old now (record t { journal = journal; due = text; window = w })
    opened_at left text_is counted = record {
      can_send = record {
        layout = at.layout;
        within = at.within;
        long = at.long;
        opens = opens;
        parcels_long = at.parcels_long;
        here = some_here t.parcels.items at.here;
      };
      due_is = text_is ∙ ap (flat_map ch.text) same_made;
      audits = left ∙ ap (filter (λ u. nat_lt w.time u)) at.audits;
      written = at.written;
      audited = subst (λ z. HasAudited ch past z journal.scribe) same_made (audited_more ch past made t.journal.scribe journal.scribe counted at.audited);
    }

  -- if no audit is due, the clock and the scribe stay as they are
  pub opened_without : (w : Opening) → opening_after ch.machine (history ch.machine t.count) ≡ Some w → (text : Vec ℕ Global) → text.items ≡ []
      → IfSome (slice_get t.journal.clock 0) (λ first. w.time < first) → IsOpened ch l old now (record t { due = text; window = w })
  opened_without w opens text none late =
      let all = late_clock w.time late in
      let nothing : due w.time t.journal.clock ≡ [] = none-due w.time t.journal.clock all in
      opened_at w opens t.journal text (sym (all-left w.time t.journal.clock all))
      (none ∙ sym (ap (λ ts. flat_map ch.text (audits_at ch.machine (state ch.machine past) ts)) nothing))
      (λ earlier h. subst (λ z. ch.HasCounted z t.journal.scribe)
      (sym (ap (λ ts. earlier ++ audits_at ch.machine (state ch.machine past) ts) nothing ∙ append-nil earlier)) h)
