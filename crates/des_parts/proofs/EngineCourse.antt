-- How a run goes on from window to window.
use Rattle.std.proofs.Common.{◌≡◌, ◌∙◌, ℕ, suc, ◌+◌, ◌≤◌, ◌^◌, List, [], ◌∷◌, ◌++◌, Option, None, Some, length, map, ap, sym, refl, subst, arith, add-one, ⊎_elim}
use Rattle.std.specs.Prelude.{nat_lt}
use Rattle.std.specs.List.{All, Contains, cons_option, filter}
use Rattle.std.proofs.lemmas.List.{length-append, length-map, length-reverse}
use Rattle.des_event.specs.declared.event.Event.{Event}
use Rattle.des_event.proofs.Members.{All_at, All_from, contains_append, contains_none}
use Rattle.des_machine.specs.Runs.{Adds, IsBeginning, Writes, WritesFront}
use Rattle.des_machine.specs.Simulable.{AreSound, IsSimulable}
use Rattle.des_machine.proofs.Ends.{OfAccounts, are_sound, of_slice, pieces_and_audits}
use Rattle.des_machine.proofs.Puts.{adds_then, fronts_longer, writer_laws}
use Rattle.des_machine.proofs.Runs.{begun_at, begun_next}
use Rattle.des_model.specs.Histories.{effect_after, history, open_audits, output, state}
use Rattle.des_model.specs.Machine.{Machine}
use Rattle.des_model.specs.Scribes.{audits_at, due}
use Rattle.des_model.specs.Windows.{pieces_since}
use Rattle.des_model.proofs.Audits.{output_next}
use Rattle.des_window.specs.declared.opening.Opening.{Opening}
use Rattle.des_window.proofs.Openings.{OpensWith, opens_with}
use Rattle.des_parts.specs.declared.engine.WindowEngine.{WindowEngine}
use Rattle.des_parts.specs.declared.entries.Entry.{Entry}
use Rattle.des_parts.specs.declared.part_run.Done.{Done}
use Rattle.des_parts.specs.declared.world.World.{World}
use Rattle.des_parts.specs.WindowEngine.{IsAt}
use Rattle.des_parts.specs.Entries.{IsMerged, all_entries, entry_of, pieces_of}
use Rattle.des_parts.specs.Exchanges.{AreDone, AreDoneFrom, entry_lists, events_in}
use Rattle.des_parts.specs.PartRuns.{IsDone, ran_by}
use Rattle.des_parts.specs.Worlds.{IsWorldOf}
use Rattle.des_parts.proofs.WindowOutput.{window_adds, window_leaves_open}

time_in : ℕ → Option Opening → ℕ
time_in other None = other
time_in other (Some o) = o.time

pub same_opening : (o : Opening) (other : Option Opening) (time horizon : ℕ) → other ≡ Some (record {
  time = time;
  horizon = horizon;
}) → other ≡ Some o → time ≡ o.time
unfolding time_in
same_opening o other time horizon a b = ap (time_in 0) (sym a ∙ b)

module _ {State Body Piece : Type 0} (m : Machine State Body Piece) where
  pieces_long : (h g : List (Event Body)) → length (pieces_since m h g) ≡ length g
  pieces_long h [] = refl
  pieces_long h (e ∷ g) = ap suc (pieces_long h g)

  module _ (Known : Piece → Type 0) (world : World State Body) (horizon : ℕ) where
    -- a part has an entry for each of its events
    pub done_length : (k : ℕ) (done : Done State Body Piece) → IsDone m Known world horizon k done → length done.entries.items ≡ done.events
    done_length k done is =
        let pieces = pieces_since m (history m world.count) (ran_by m world horizon done) in
        omega (
          arith,
          ap length is.entries_are,
          length-reverse (map entry_of pieces),
          length-map pieces entry_of,
          pieces_long (history m world.count) (ran_by m world horizon done),
          is.long,
        )

    all_length : (k : ℕ) (xs : List (Done State Body Piece)) → AreDoneFrom m Known world horizon k xs → length (all_entries (entry_lists xs)) ≡ events_in xs
    all_length k [] each = refl
    all_length k (d ∷ xs) each = omega (
      arith,
      length-append d.entries.items (all_entries (entry_lists xs)),
      done_length k d each.0,
      all_length (suc k) xs each.1,
    )

    known_lists : (k : ℕ) (xs : List (Done State Body Piece)) → AreDoneFrom m Known world horizon k xs → (x : Entry Piece)
        → Contains (all_entries (entry_lists xs)) x → Known x.piece
    known_lists k [] each x c = absurd (contains_none x c)
    known_lists k (d ∷ xs) each x c = ⊎_elim (λ h. All_at (λ (z : Entry Piece). Known z.piece) d.entries.items x (each.0).known h)
        (λ h. known_lists (suc k) xs each.1 x h) (contains_append d.entries.items (all_entries (entry_lists xs)) x c)

module _ {M S State Body Piece : Type 0} (text : Piece → List ℕ) (m : Machine State Body Piece) (HasCounted : List Piece → S → Type 0) where
  -- what an engine has written is the beginning of a trace
  pub begin_at : (old now : Option (List ℕ)) (e : WindowEngine M S State Body Piece) → IsAt text m HasCounted old now e → IsBeginning text m old now
  begin_at old now e at = begun_at text m old now e.world.count at.written

  -- the division says nothing of the run
  pub at_divided : (old now : Option (List ℕ)) (e f : WindowEngine M S State Body Piece) → IsWorldOf m f.world → f.world.count ≡ e.world.count → f.journal ≡ e.journal
      → IsAt text m HasCounted old now e → IsAt text m HasCounted old now f
  at_divided old now e f world count journal at = record {
    world = world;
    audits = ap (λ j. j.clock) journal ∙ at.audits ∙ ap (λ k. open_audits m (history m k)) (sym count);
    written = subst (λ k. Writes text old now (output m (history m k))) (sym count) at.written;
    counted = subst (λ k. HasCounted (output m (history m k)) f.journal.scribe) (sym count)
        (subst (λ j. HasCounted (output m (history m e.world.count)) j.scribe) (sym journal) at.counted);
  }

  module _ {Sound : ℕ → State → Type 0} {Fit : Event Body → Type 0} {Room : State → Type 0} (sim : IsSimulable m Sound Fit Room) (old now : Option (List ℕ))
      (e : WindowEngine M S State Body Piece) (at : IsAt text m HasCounted old now e) where
    abbrev past : List (Event Body)
    past = history m e.world.count

    pub states_sound : AreSound m Sound e.world.states.items
    states_sound = are_sound m sim e.world.states.items e.world.count at.world.states_are

    -- the scribe has counted few pieces, and few audits are left
    pub counted_few : (size : S → ℕ) → ((pieces : List Piece) (s : S) → HasCounted pieces s → size s ≡ length pieces)
        → size e.journal.scribe + length e.journal.clock ≡ e.world.count + length m.audit_times
    counted_few size sized =
        omega (arith, sized _ _ at.counted, pieces_and_audits m past e.journal.clock at.audits, at.world.long)

    pub audits_fit : (size : S → ℕ) → ((pieces : List Piece) (s : S) → HasCounted pieces s → size s ≡ length pieces)
        → size e.journal.scribe + length e.journal.clock ≤ 2 ^ 40
    audits_fit size sized = omega (arith, counted_few size sized, at.world.within, sim.few)

    -- the audits are written with a slice of the states
    module _ (slice : List State) (sliced : slice ≡ e.world.states.items) where
      -- what holds of every account of the slice holds of the run's own
      of_states : (P : (ℕ → State) → Type 0) → OfAccounts m slice P → P (state m past)
      of_states P each = of_slice m sim e.world.states.items e.world.count at.world.states_are P slice sliced each

      module _ (o : Opening) (opening : e.world.opening ≡ Some o) where
        -- the audits that are due at the next window
        abbrev audits_due : (ℕ → State) → List Piece
        audits_due account = audits_at m account (due o.time e.journal.clock)

        abbrev audits : List Piece
        audits = audits_due (state m past)

        first : OpensWith m past o
        first = opens_with m past o (sym at.world.opening_is ∙ opening)

        goes_on : history m (e.world.count + 1) ≡ first.event ∷ past
        goes_on = subst (λ k. history m k ≡ first.event ∷ past) (sym (add-one e.world.count)) (ap (λ z. cons_option z past) first.next_is)

        -- the audits that are due come before the next event
        pub begin_audits : (x : Option (List ℕ)) → OfAccounts m slice (λ account. WritesFront text now x (audits_due account)) → IsBeginning text m old x
        begin_audits x fronts = begun_next text m old now x e.world.count (e.world.count + 1) (audits ++ last) at.written outputs
            (fronts_longer text now x audits last (of_states (λ account. WritesFront text now x (audits_due account)) fronts))
          where
            last : List Piece
            last = (effect_after m past first.event).piece ∷ []

            outputs : output m (history m (e.world.count + 1)) ≡ output m past ++ (audits ++ last)
            outputs = ap (output m) goes_on ∙ output_next m first.event past
                ∙ ap (λ t. output m past ++ (audits_at m (state m past) (due t (open_audits m past)) ++ last)) (sym first.time_is)
                ∙ ap (λ ts. output m past ++ (audits_at m (state m past) (due o.time ts) ++ last)) (sym at.audits)

        module _ (mid : Option (List ℕ)) (middle : S)
            (added : OfAccounts m slice (λ account. Adds text HasCounted now mid e.journal.scribe middle (audits_due account))) where
          audits_add : Adds text HasCounted now mid e.journal.scribe middle audits
          audits_add = of_states (λ account. Adds text HasCounted now mid e.journal.scribe middle (audits_due account)) added

          pub begin_middle : IsBeginning text m old mid
          begin_middle = begin_audits mid (λ account are. (writer_laws text).fronts_whole now mid (audits_due account) (added account are).written)

          module _ {Known : Piece → Type 0} (dones : List (Done State Body Piece)) (a : AreDone m Known e.world o.horizon dones) (bs : List (Entry Piece))
              (merged : IsMerged (entry_lists dones) bs) where
            abbrev put : List Piece
            put = audits ++ pieces_of bs

            same_time : a.time ≡ o.time
            same_time = same_opening o e.world.opening a.time o.horizon a.opening opening

            outputs : output m (history m (e.world.count + events_in dones)) ≡ output m past ++ put
            outputs = window_adds m sim e.world at.world o.horizon dones a bs merged
                ∙ ap (λ t. output m past ++ (audits_at m (state m past) (due t (open_audits m past)) ++ pieces_of bs)) same_time
                ∙ ap (λ ts. output m past ++ (audits_at m (state m past) (due o.time ts) ++ pieces_of bs)) (sym at.audits)

            pub all_known : All (λ (x : Entry Piece). Known x.piece) bs
            all_known = All_from (λ (x : Entry Piece). Known x.piece) bs (λ x c. known_lists m Known e.world o.horizon 0 dones a.each x ((merged.same x).0 c))

            -- the scribe has room for the entries
            pub entries_fit : (size : S → ℕ) → ((pieces : List Piece) (s : S) → HasCounted pieces s → size s ≡ length pieces) → (left : ℕ)
                → size middle + left ≡ size e.journal.scribe + length e.journal.clock → e.world.count + events_in dones ≤ m.max_events
                → size middle + length bs ≤ 2 ^ 40
            entries_fit size sized left same room = omega (
              arith,
              counted_few size sized,
              same,
              merged.long,
              all_length m Known e.world o.horizon 0 dones a.each,
              room,
              sim.few,
            )

            pub begin_entries : (x : Option (List ℕ)) → WritesFront text mid x (pieces_of bs) → IsBeginning text m old x
            begin_entries x front = begun_next text m old now x e.world.count (e.world.count + events_in dones) put at.written outputs
                ((writer_laws text).fronts_then now mid x audits (pieces_of bs) audits_add.written front)

            pub next_at : (f : WindowEngine M S State Body Piece) (new : Option (List ℕ)) → IsWorldOf m f.world → f.world.count ≡ e.world.count + events_in dones
                → f.journal.clock ≡ filter (λ u. nat_lt o.time u) e.journal.clock → Adds text HasCounted mid new middle f.journal.scribe (pieces_of bs)
                → IsAt text m HasCounted old new f
            next_at f new world count clock more =
                let all : Adds text HasCounted now new e.journal.scribe f.journal.scribe put
                = adds_then text HasCounted now mid new e.journal.scribe middle f.journal.scribe audits (pieces_of bs) audits_add more in
                let pieces : output m (history m f.world.count) ≡ output m past ++ put = ap (λ k. output m (history m k)) count ∙ outputs in
                record {
                  world = world;
                  audits = clock ∙ ap (filter (λ u. nat_lt o.time u)) at.audits ∙ ap (λ t. filter (λ u. nat_lt t u) (open_audits m past)) (sym same_time)
                      ∙ sym (window_leaves_open m sim e.world at.world o.horizon dones a) ∙ ap (λ k. open_audits m (history m k)) (sym count);
                  written = subst (λ ps. Writes text old new ps) (sym pieces)
                      ((writer_laws text).adds_then old now new (output m past) put at.written all.written);
                  counted = subst (λ ps. HasCounted ps f.journal.scribe) (sym pieces) (all.counted (output m past) at.counted);
                }
