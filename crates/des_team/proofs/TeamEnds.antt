-- The end of a run by a team.
use Rattle.std.proofs.Common.{◌≡◌, ℕ, suc, ◌<◌, List, ◌∷◌, ◌++◌, Option, None, Some, length, get_or, sym, subst, arith, ◌≤◌, ◌^◌, append-nil, Ok, ap}
use Rattle.std.specs.List.{Contains}
use Rattle.std.specs.List.Sorted.{IsPermutation}
use Rattle.std.proofs.lemmas.List.Sorted.{IsPermutation-sym, length_permutation}
use Rattle.des_event.specs.declared.event.Event.{Event}
use Rattle.des_event.proofs.Members.{All_at}
use Rattle.des_model.specs.Histories.{all_events, history, output, state}
use Rattle.des_model.specs.Scribes.{IsAtEnd, audits_at, due}
use Rattle.des_model.specs.Windows.{part_of}
use Rattle.des_model.proofs.Commuting.{node_in_range}
use Rattle.des_model.proofs.Distinct.{meets}
use Rattle.des_model.proofs.Runs.{history_is_legal, legal_known, possible_from_legal}
use Rattle.des_model.specs.Worlds.{AreStatesAfter}
use Rattle.des_model.proofs.Ends.{run_ended}
use Rattle.des_machine.specs.Runs.{Adds, IsRun, Writes, WritesFront}
use Rattle.des_machine.proofs.Ends.{OfAccounts, last_added}
use Rattle.des_machine.proofs.Puts.{writer_laws}
use Rattle.des_machine.specs.Simulable.{IsSimulable}
use Rattle.des_window.proofs.Shares.{first_counted}
use Rattle.des_window.specs.Shares.{HaveCountedShares, shares_to}
use Rattle.des_window.specs.Openings.{opening_after}
use Rattle.des_window.proofs.Openings.{opens_none}
use Rattle.des_team.specs.Chronicles.{Chronicle}
use Rattle.des_team.specs.declared.layout.Layout.{Layout}
use Rattle.des_team.specs.declared.part.Parcel.{Parcel}
use Rattle.des_team.specs.declared.team.Team.{Team}
use Rattle.des_team.specs.Owned.{share_of}
use Rattle.des_team.specs.Shares.{scribes_in}
use Rattle.des_team.specs.Teams.{IsTeam}
use Rattle.des_team.proofs.TeamShares.{all_shared, counted_by, scribes_are}

module _ {M State Body Piece S : Type 0} (ch : Chronicle State Body Piece S) {Sound : ℕ → State → Type 0} {Fit : Event Body → Type 0} {Room : State
    → Type 0} (ok : IsSimulable ch.machine Sound Fit Room) (l : Layout) (old now : Option (List ℕ)) (t : Team M S State Body Piece)
    (at : IsTeam ch l old now t) where
  abbrev past : List (Event Body)
  past = history ch.machine t.count

  pub at_end : opening_after ch.machine past ≡ None → IsAtEnd ch.machine (Writes ch.text) old now t.count t.journal.clock
  at_end ended = record { long = at.long; within = at.within; ended = opens_none ch.machine past ended; audits = at.audits; put = at.written }

  events_inside : (e : Event Body) → Contains past e → part_of l.division e.target < l.division.parts
  events_inside e c = node_in_range ch.machine ok.well_formed l.division at.layout.divides e.target
      (ok.well_formed.in_range e (All_at Fit (all_events ch.machine past) e (meets ch.machine ok.well_formed past
      (possible_from_legal ch.machine past (history_is_legal ch.machine t.count))).fit
      (legal_known ch.machine past (history_is_legal ch.machine t.count) e c)))

  -- the scribe of the audits has counted the last ones, too
  module _ (rest : List Piece) (scribe : S)
      (adds : (earlier : List Piece) → ch.HasCounted earlier t.journal.scribe → ch.HasCounted (earlier ++ rest) scribe) where
    part_counted : (p : ℕ) → p < l.division.parts → (parcel : Parcel M S State Body Piece) × (get_or t.parcels.items p None ≡ Some parcel)
        × ch.HasCounted (share_of ch.machine l.division p past) parcel.part.value.scribe
    part_counted p k =
        let r = at.here p k in
        (r.0, r.1, subst (λ q. ch.HasCounted (share_of ch.machine l.division q past) r.0.part.value.scribe) r.2.part_is r.2.owned.counted)

    abbrev shares : ℕ → List Piece
    shares = counted_by ch.machine l.division past (at.audited.audits ++ rest)

    parts_counted : HaveCountedShares ch.HasCounted (λ p. shares (suc p)) (scribes_in t.parcels.items) × (length (scribes_in t.parcels.items) ≡ length t.parcels.items)
    parts_counted = scribes_are ch.HasCounted (λ p. shares (suc p)) t.parcels.items (λ p k. part_counted p (omega (arith, k, at.parcels_long)))

    scribes_long : length (scribe ∷ scribes_in t.parcels.items) ≡ suc l.division.parts
    scribes_long = omega (arith, parts_counted.1, at.parcels_long)

    each_counted : HaveCountedShares ch.HasCounted shares (scribe ∷ scribes_in t.parcels.items)
    each_counted = first_counted ch.HasCounted shares scribe (scribes_in t.parcels.items)
        (adds at.audited.audits (subst (λ ps. ch.HasCounted ps t.journal.scribe) (append-nil at.audited.audits) at.audited.counted)) parts_counted.0

    all_counted : IsPermutation (output ch.machine past ++ rest) (shares_to shares (length (scribe ∷ scribes_in t.parcels.items)))
    all_counted = subst (λ k. IsPermutation (output ch.machine past ++ rest) (shares_to shares k)) (sym scribes_long)
        (all_shared ch.machine l.division l.division.parts past events_inside (output ch.machine past) at.audited.audits rest at.audited.rest)

    module _ (scribes : List S) (same : scribes ≡ scribe ∷ scribes_in t.parcels.items) where
      -- the scribes can be joined
      pub can_join : length (output ch.machine past ++ rest) ≤ 2 ^ 40
          → (share : ℕ → List Piece) × HaveCountedShares ch.HasCounted share scribes × (length (shares_to share (length scribes)) ≤ 2 ^ 40)
      can_join few = (
        shares,
        subst (HaveCountedShares ch.HasCounted shares) (sym same) each_counted,
        omega (
          arith,
          length_permutation (output ch.machine past ++ rest) (shares_to shares (length (scribe ∷ scribes_in t.parcels.items))) all_counted,
          ap (λ ss. length (shares_to shares (length ss))) same,
          few,
        ),
      )

      -- and what they have counted together is what was output
      pub joined_report : {Report : Type 0} (IsReport : List Piece → Report → Type 0)
          → ((pieces others : List Piece) (report : Report) → IsPermutation pieces others → IsReport pieces report → IsReport others report)
          → (joined : S) (report : Report)
          → ((share : ℕ → List Piece) → HaveCountedShares ch.HasCounted share scribes → ch.HasCounted (shares_to share (length scribes)) joined)
          → ((pieces : List Piece) → ch.HasCounted pieces joined → IsReport pieces report) → IsReport (output ch.machine past ++ rest) report
      joined_report IsReport unordered joined report joins reports =
          let all : List Piece = shares_to shares (length (scribe ∷ scribes_in t.parcels.items)) in
          unordered all (output ch.machine past ++ rest) report (IsPermutation-sym (output ch.machine past ++ rest) all all_counted)
          (reports all (subst (λ (ss : List S). ch.HasCounted (shares_to shares (length ss)) joined) same
          (joins shares (subst (HaveCountedShares ch.HasCounted shares) (sym same) each_counted))))

  -- the run ends when the last audits are written and the report is that of all pieces
  pub team_ends : (states : List State) (after : AreStatesAfter ch.machine past states) (ended : opening_after ch.machine past ≡ None) (slice : List State)
      (sliced : slice ≡ states) (time : ℕ) (is_end : time ≡ ch.machine.duration) (new : Option (List ℕ)) (scribe : S)
      → OfAccounts ch.machine slice (λ account. Adds ch.text ch.HasCounted now new t.journal.scribe scribe (audits_at ch.machine account (due time
      t.journal.clock)))
      → {Report : Type 0} (IsReport : List Piece → Report → Type 0) (report : Report)
      → IsReport (output ch.machine past ++ audits_at ch.machine (state ch.machine past) (due ch.machine.duration t.journal.clock)) report
      → IsRun ch.text ch.machine IsReport old new (Ok report)
  team_ends states after ended slice sliced time is_end new scribe each IsReport report reported =
      let adds = last_added ch.machine ok states t.count after ch.text (at_end ended) slice sliced time is_end ch.HasCounted new t.journal.scribe scribe each in
      run_ended ch.machine (Writes ch.text) (WritesFront ch.text)
      (writer_laws ch.text) IsReport ok.well_formed ok.in_time (at_end ended) new report adds.written
      reported
