-- The team after a window.
use Rattle.std.proofs.Common.{◌≡◌, ◌∙◌, ℕ, suc, ◌+◌, ◌<◌, ◌≤◌, List, [], ◌∷◌, ◌++◌, Option, None, length, get_or, refl, ap, sym, subst, arith, option_map, take_all}
use Rattle.std.specs.Io.KnownBytes.{Appends}
use Rattle.std.specs.List.{flat_map}
use Rattle.des_event.specs.declared.event.Event.{Event}
use Rattle.des_output.specs.Writing.{AppendsFront}
use Rattle.des_model.specs.Histories.{history, next, open_audits, output}
use Rattle.des_machine.specs.Simulable.{IsSimulable}
use Rattle.des_machine.specs.Runs.{IsBeginning, Writes}
use Rattle.des_machine.proofs.Puts.{fronts_longer, fronts_then, writes_then}
use Rattle.des_machine.proofs.Runs.{begun_next}
use Rattle.des_team.specs.Chronicles.{Chronicle}
use Rattle.des_team.specs.declared.layout.Layout.{Layout}
use Rattle.des_team.specs.declared.part.Done.{Done}
use Rattle.des_team.specs.declared.part.OwnedPart.{OwnedPart}
use Rattle.des_team.specs.declared.part.Parcel.{Parcel}
use Rattle.des_team.specs.declared.team.Team.{Team}
use Rattle.des_team.specs.Exchanges.{AreBack, AreReady, HasExchanged, HaveExchanged, IsReady, mail_for, soonest}
use Rattle.des_team.specs.Orders.{AreResults, HaveNoFault}
use Rattle.des_team.specs.Outputs.{IsText, told}
use Rattle.des_team.specs.Mail.{all_of}
use Rattle.des_team.specs.Owned.{IsOwned}
use Rattle.des_team.specs.Teams.{AreHere, CanSend, IsHere, IsOpened, IsTeam, HasAudited, audits_due, before_end, events_in}
use Rattle.des_team.proofs.PartLists.{none_contained}
use Rattle.des_team.proofs.TeamMail.{first}
use Rattle.des_team.specs.Entries.{Entry, entry_bytes}
use Rattle.des_team.proofs.TeamShares.{audited_then}
use Rattle.des_team.proofs.WindowNext.{next_after}
use Rattle.des_team.proofs.WindowParts.{after_window, owned_with_mail, result_of, sent_by}
use Rattle.des_team.proofs.WindowRuns.{after_is, after_long}
use Rattle.des_team.proofs.Told.{told_text}
use Rattle.des_team.proofs.WindowTexts.{window_adds, window_entries, window_leaves, window_pieces, window_puts_out, window_text}

module _ {M State Body Piece S : Type 0} where
  -- what the parts that came back have for one of them is what the results have for it
  mail_of_results : (part : ℕ) (fs : List (Done M S State Body Piece)) (mid : List (Option (Parcel M S State Body Piece))) → AreBack fs mid
      → length fs ≡ length mid
      → mail_for part mid ≡ all_of (sent_by fs part)
  mail_of_results part [] [] back long = refl
  mail_of_results part [] (m ∷ mid) back long = absurd (omega (arith, long))
  mail_of_results part (f ∷ fs) [] back long = absurd (omega (arith, long))
  mail_of_results part (f ∷ fs) (m ∷ mid) back long =
      let b = back 0 f (omega arith) in
      ap (λ z. mail_for part (z ∷ mid)) b.1 ∙ ap (λ (z : OwnedPart M S State Body Piece). get_or z.outbox part [] ++ mail_for part mid) b.2
      ∙ ap (λ es. get_or f.parcel.part.value.outbox part [] ++ es)
      (mail_of_results part fs mid (λ p g lt. back (suc p) g (omega (arith, lt))) (omega (arith, long)))

module _ {M State Body Piece S : Type 0} (ch : Chronicle State Body Piece S) {Sound : ℕ → State → Type 0} {Fit : Event Body → Type 0} {Room : State
    → Type 0} (ok : IsSimulable ch.machine Sound Fit Room) (l : Layout) (t : Team M S State Body Piece) (can : CanSend ch l t)
    (fs : List (Done M S State Body Piece))
    (results : AreResults ch l t.count t.window.horizon fs) (none : HaveNoFault fs) (mid : List (Option (Parcel M S State Body Piece))) (back : AreBack fs mid)
    (mid_long : length mid ≡ length t.parcels.items) where
  pub parts_back : length fs ≡ length mid
  parts_back = omega (arith, results.long, can.parcels_long, mid_long)

  -- the parts may exchange what they made for each other
  pub parts_ready : AreReady mid
  parts_ready p lt =
      let inside : p < length fs = omega (arith, lt, parts_back) in
      let part : p < l.division.parts = omega (arith, inside, results.long) in
      let f = first fs (omega (arith, inside)) in
      let b = back p f inside in
      let run = result_of ch ok l t can fs results none p f part in
      let parts : length mid ≡ l.division.parts = omega (arith, results.long, parts_back) in (
        b.0,
        b.1,
        subst (λ (z : OwnedPart M S State Body Piece). IsReady (length mid) p z) (sym b.2) (record {
          out_long = run.owned.out_long ∙ sym parts;
          none_in = run.taken_in;
          none_own = none_contained (get_or (get_or fs p f).parcel.part.value.outbox p []) (λ x c. let g = (run.sent p [] x part).0 c in g.2 refl);
        }),
      )

  module _ (new : List (Option (Parcel M S State Body Piece))) (exchanged : HaveExchanged mid new) where
    -- a part with its mail
    parcel_here : (p : ℕ) (f : Done M S State Body Piece) (before after : Parcel M S State Body Piece) → p < l.division.parts
        → before.part.value ≡ (get_or fs p f).parcel.part.value
        → IsText [] before.output → HasExchanged (length mid) p mid before after
        → IsHere ch l (history ch.machine (t.count + events_in fs)) p after
    parcel_here p f before after inside part_is text x =
        let run = result_of ch ok l t can fs results none p f inside in
        let parts : length mid ≡ l.division.parts = omega (arith, results.long, parts_back) in
        let same : after.part.value ≡ record (get_or fs p f).parcel.part.value { inbox = after.part.value.inbox; outbox = after.part.value.outbox } =
        ap (λ (z : Parcel M S State Body Piece). z.part.value) x.same
        ∙ ap (λ (z : OwnedPart M S State Body Piece). record z { inbox = after.part.value.inbox; outbox = after.part.value.outbox }) part_is in
        record {
          part_is = ap (λ (z : OwnedPart M S State Body Piece). z.part) same ∙ run.part_is;
          owned = subst (λ h. IsOwned ch l h after.part.value) (after_is ch ok l t can fs results none)
              (subst (λ (z : OwnedPart M S State Body Piece). IsOwned ch l (after_window ch ok l t can fs results none) z) (sym same)
              (owned_with_mail ch ok l t can fs results none p inside f after.part.value.inbox after.part.value.outbox (x.out_long ∙ parts)
              (x.received ∙ ap (mail_for p) (take_all (length mid) mid (omega arith)) ∙ mail_of_results p fs mid back parts_back)));
          none_sent = x.sent (omega (arith, inside, parts));
          no_text = subst (λ (z : Parcel M S State Body Piece). IsText [] z.output) (sym x.same) text;
        }

    pub parts_here : AreHere ch l (history ch.machine (t.count + events_in fs)) new
    parts_here p inside =
        let there : p < length fs = omega (arith, inside, results.long) in
        let f = first fs (omega (arith, there)) in
        let b = back p f there in
        let e = exchanged.each p b.0 (omega (arith, there, parts_back)) b.1 in
        (e.0, e.1, parcel_here p f b.0 e.0 inside b.2 b.3 e.2)

module _ {M State Body Piece S : Type 0} where
  -- how many events were run when the parts are back and the new ones are counted
  pub count_then : (t b u : Team M S State Body Piece) (events new : ℕ) → b ≡ record t { parcels = b.parcels; next = b.next }
      → u ≡ record b { count = b.count + events; parcels = u.parcels } → events ≡ new → u.count ≡ t.count + new
  count_then t b u events new same then are = omega (
    arith,
    ap (λ (z : Team M S State Body Piece). z.count) then,
    ap
        (λ (z : Team M S State Body Piece). z.count) same,
    are,
  )

module _ {M State Body Piece S : Type 0} (ch : Chronicle State Body Piece S) {Sound : ℕ → State → Type 0} {Fit : Event Body → Type 0} {Room : State
    → Type 0} (ok : IsSimulable ch.machine Sound Fit Room) (l : Layout) (t : Team M S State Body Piece) (fs : List (Done M S State Body Piece))
    (results : AreResults ch l t.count t.window.horizon fs)
    (none : HaveNoFault fs) (old now : Option (List ℕ)) (opened : IsOpened ch l old now t) where
  abbrev before : List (Event Body)
  before = history ch.machine t.count

  abbrev new_audits : List Piece
  new_audits = audits_due ch.machine before t.window.time

  abbrev entries : List Entry
  entries = window_entries ch ok l t opened.can_send fs results none

  abbrev pieces : List Piece
  pieces = window_pieces ch ok l t opened.can_send fs results none

  puts_out : output ch.machine (history ch.machine (t.count + events_in fs)) ≡ output ch.machine before ++ (new_audits ++ pieces)
  puts_out = window_puts_out ch ok l t opened.can_send fs results none

  -- the text of the audits is as it was when the parts are back
  due_of_back : (b : Team M S State Body Piece) → b ≡ record t { parcels = b.parcels; next = b.next } → b.due.items ≡ t.due.items
  due_of_back b same = ap (λ (z : Team M S State Body Piece). z.due.items) same

  -- what was written of the audits that are due
  pub begin_due : (b : Team M S State Body Piece) (x : Option (List ℕ)) (text : List ℕ) → b ≡ record t { parcels = b.parcels; next = b.next }
      → text ≡ b.due.items
      → AppendsFront now x text → IsBeginning ch.text ch.machine old x
  begin_due b x text same is front = begun_next ch.text ch.machine old now x t.count (t.count + events_in fs) (new_audits ++ pieces) opened.written puts_out
      (fronts_longer ch.text now x new_audits pieces (subst (λ z. AppendsFront now x z) (is ∙ due_of_back b same ∙ opened.due_is) front))

  -- and then of the entries
  pub begin_entries : (b : Team M S State Body Piece) (middle x : Option (List ℕ)) (text : List ℕ) → b ≡ record t { parcels = b.parcels; next = b.next }
      → text ≡ b.due.items → Appends now middle text → AppendsFront middle x (flat_map entry_bytes (told entries)) → IsBeginning ch.text ch.machine old x
  begin_entries b middle x text same is due front =
      begun_next ch.text ch.machine old now x t.count (t.count + events_in fs) (new_audits ++ pieces) opened.written puts_out
      (fronts_then ch.text now middle x new_audits pieces (subst (λ z. Appends now middle z) (is ∙ due_of_back b same ∙ opened.due_is) due)
      (subst (λ z. AppendsFront middle x z) (told_text entries ∙ window_text ch ok l t opened.can_send fs results none) front))

  -- the team after the window, once its parts are back: the events are counted, the parts have their mail, and what the
  -- window puts out is written
  pub next_team : (b u : Team M S State Body Piece) (events : ℕ) (middle new : Option (List ℕ)) (text : List ℕ)
      → b ≡ record t { parcels = b.parcels; next = b.next }
      → b.next ≡ soonest None fs → u ≡ record b { count = b.count + events; parcels = u.parcels } → events ≡ events_in fs
      → t.count + events_in fs ≤ ch.machine.max_events → length u.parcels.items ≡ length t.parcels.items
      → AreHere ch l (history ch.machine (t.count + events_in fs)) u.parcels.items → text ≡ b.due.items → Appends now middle text
      → Appends middle new (flat_map entry_bytes (told entries)) → IsTeam ch l old new u
  next_team b u events middle new text same next_time then events_are within long here is due written =
      let can = opened.can_send in
      let count : u.count ≡ t.count + events_in fs = count_then t b u events (events_in fs) same then events_are in
      let clock : u.journal.clock ≡ t.journal.clock = ap (λ (z : Team M S State Body Piece). z.journal.clock) then
      ∙ ap (λ (z : Team M S State Body Piece). z.journal.clock) same in
      let scribe : u.journal.scribe ≡ t.journal.scribe = ap (λ (z : Team M S State Body Piece). z.journal.scribe) then
      ∙ ap (λ (z : Team M S State Body Piece). z.journal.scribe) same in
      record {
        layout = can.layout;
        within = omega (arith, count, within);
        long = ap (λ k. length (history ch.machine k)) count ∙ after_long ch ok l t can fs results none ∙ sym count;
        parcels_long = long ∙ can.parcels_long;
        here = subst (λ k. AreHere ch l (history ch.machine k) u.parcels.items) (sym count) here;
        next_is = ap (λ k. option_map (λ (e : Event Body). e.key.time) (next ch.machine (history ch.machine k))) count
            ∙ ap (λ h. option_map (λ (e : Event Body). e.key.time) (next ch.machine h)) (sym (after_is ch ok l t can fs results none))
            ∙ next_after ch ok l t can fs results none ∙ ap (before_end ch.machine.duration)
            (sym (ap (λ (z : Team M S State Body Piece). z.next) then ∙ next_time));
        audits = clock ∙ opened.audits ∙ sym (window_leaves ch ok l t can fs results none) ∙ ap (λ k. open_audits ch.machine (history ch.machine k))
            (sym count);
        written = subst (λ k. Writes ch.text old new (output ch.machine (history ch.machine k))) (sym count)
            (subst (λ ps. Writes ch.text old new ps) (sym puts_out)
            (writes_then ch.text old now new (output ch.machine before) (new_audits ++ pieces) opened.written
            (writes_then ch.text now middle new new_audits pieces
            (subst (λ z. Appends now middle z) (is ∙ due_of_back b same ∙ opened.due_is) due)
            (subst (λ z. Appends middle new z) (told_text entries ∙ window_text ch ok l t opened.can_send fs results none) written))));
        audited = subst (λ k. HasAudited ch (history ch.machine k) [] u.journal.scribe) (sym count)
            (audited_then ch before (history ch.machine (t.count + events_in fs)) new_audits pieces u.journal.scribe puts_out
            (window_adds ch ok l t can fs results none) (subst (HasAudited ch before new_audits) (sym scribe) opened.audited));
      }
