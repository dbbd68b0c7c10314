-- The audits at the start and at the end of a run.
use Rattle.std.proofs.Common.{◌≡◌, ◌⊎◌, ℕ, ◌+◌, ◌≤◌, ◌^◌, Bool, true, false, cond, List, [], ◌∷◌, ◌++◌, Option, Result, Ok, Err, length, length-append, ap, sym, refl, subst, arith}
use Rattle.std.proofs.lemmas.List.{length-map}
use Rattle.std.specs.Prelude.{nat_le}
use Rattle.std.specs.List.{filter}
use Rattle.des_event.specs.declared.error.RunError.{RunError}
use Rattle.des_event.specs.declared.error.RunError.TheVariants as run
use Rattle.des_event.specs.declared.event.Event.{Event}
use Rattle.des_machine.specs.Runs.{Adds, IsRun, Writes, WritesFront}
use Rattle.des_machine.specs.Simulable.{AreSound, AreStates, IsSimulable}
use Rattle.des_machine.proofs.Puts.{writer_laws}
use Rattle.des_model.specs.Histories.{history, open_audits, output, state}
use Rattle.des_model.specs.Machine.{Machine}
use Rattle.des_model.specs.Scribes.{IsAtEnd, audits_at, due}
use Rattle.des_model.specs.Worlds.{AreStatesAfter}
use Rattle.des_model.proofs.Distinct.{meets}
use Rattle.des_model.proofs.Ends.{end_failed, pieces_counted, run_ended}
use Rattle.des_model.proofs.Runs.{history_is_legal, possible_from_legal}

filter_all : (xs : List ℕ) → filter (λ x. true) xs ≡ xs
filter_all [] = refl
filter_all (x ∷ xs) = ap (λ l. x ∷ l) (filter_all xs)

pub filter_shorter : {A : Type 0} (p : A → Bool) (xs : List A) → length (filter p xs) ≤ length xs
filter_shorter p [] = omega arith
filter_shorter p (x ∷ xs) = go (p x) (filter_shorter p xs)
  where
    go : (b : Bool) → length (filter p xs) ≤ length xs → length (cond b (x ∷ filter p xs) (filter p xs)) ≤ length (x ∷ xs)
    go true others = omega (arith, others)
    go false others = omega (arith, others)

module _ {State Body Piece : Type 0} (m : Machine State Body Piece) where
  -- no more audits are due than are open
  pub due_shorter : (account : ℕ → State) (time : ℕ) (clock : List ℕ) → length (audits_at m account (due time clock)) ≤ length clock
  due_shorter account time clock = omega (arith, length-map (due time clock) (λ t. m.audit t account), filter_shorter (λ t. nat_le t time) clock)

  -- before the first event all audits are open
  pub audits_at_start : open_audits m [] ≡ m.audit_times
  audits_at_start = filter_all m.audit_times

  -- each event leaves a piece, and each audit does or is still open
  pub pieces_and_audits : (h : List (Event Body)) (clock : List ℕ) → clock ≡ open_audits m h
      → length (output m h) + length clock ≡ length h + length m.audit_times
  pieces_and_audits h clock is = omega (arith, pieces_counted m h, ap length is, ap length audits_at_start)

  -- what holds of every account of some states
  abbrev pub OfAccounts : List State → ((ℕ → State) → Type 0) → Type 0
  OfAccounts states P = (account : ℕ → State) → AreStates m states account → P account

  module _ {Sound : ℕ → State → Type 0} {Fit : Event Body → Type 0} {Room : State → Type 0} (sim : IsSimulable m Sound Fit Room) (states : List State) (count : ℕ)
      (after : AreStatesAfter m (history m count) states) where
    abbrev past : List (Event Body)
    past = history m count

    -- what audits need of the states, and what they see
    pub are_states : AreStates m states (state m past)
    are_states n node = after.state_at n (state m past n) node

    pub are_sound : AreSound m Sound states
    are_sound = record {
      long = after.nodes_are;
      each = λ n d node. subst (λ s. Sound n s) (sym (after.state_at n d node))
          ((meets m sim.well_formed past (possible_from_legal m past (history_is_legal m count))).sound n node);
    }

    -- what holds of every account of a slice of them holds of the run's own
    pub of_slice : (P : (ℕ → State) → Type 0) (slice : List State) → slice ≡ states → OfAccounts slice P → P (state m past)
    of_slice P slice is each = each (state m past) (subst (λ ss. AreStates m ss (state m past)) (sym is) are_states)

    -- after the last event, the audits that are left end the trace
    module _ (text : Piece → List ℕ) {old now : Option (List ℕ)} {clock : List ℕ} (at : IsAtEnd m (Writes text) old now count clock) (slice : List State)
        (sliced : slice ≡ states) (time : ℕ) (is_end : time ≡ m.duration) where
      -- these audits
      abbrev last : List Piece
      last = audits_at m (state m past) (due m.duration clock)

      of_last : (P : List Piece → Type 0) → OfAccounts slice (λ account. P (audits_at m account (due time clock))) → P last
      of_last P each = subst (λ t. P (audits_at m (state m past) (due t clock))) is_end (of_slice (λ account. P (audits_at m account (due time clock))) slice sliced each)

      pub pieces_fit : length (output m past ++ last) ≤ 2 ^ 40
      pieces_fit = omega (
        arith,
        length-append (output m past) last,
        due_shorter (state m past) m.duration clock,
        pieces_and_audits past clock at.audits,
        at.long,
        at.within,
        sim.few,
      )

      module _ {S : Type 0} (HasCounted : List Piece → S → Type 0) where
        pub last_added : (new : Option (List ℕ)) (before after : S)
            → OfAccounts slice (λ account. Adds text HasCounted now new before after (audits_at m account (due time clock)))
            → Adds text HasCounted now new before after last
        last_added new before after each = of_last (λ ps. Adds text HasCounted now new before after ps) each

      module _ {Report : Type 0} (IsReport : List Piece → Report → Type 0) where
        pub run_ends : {S : Type 0} (HasCounted : List Piece → S → Type 0) (new : Option (List ℕ)) (before after : S) (report : Report)
            → OfAccounts slice (λ account. Adds text HasCounted now new before after (audits_at m account (due time clock)))
            → HasCounted (output m past) before → (HasCounted (output m past ++ last) after → IsReport (output m past ++ last) report)
            → IsRun text m IsReport old new (Ok report)
        run_ends HasCounted new before after report each counted reported =
            let adds = last_added HasCounted new before after each in
            run_ended m (Writes text) (WritesFront text) (writer_laws text) IsReport sim.well_formed sim.in_time at new report adds.written
            (reported (adds.counted (output m past) counted))

        pub end_fails : (new : Option (List ℕ)) (result : Result Report RunError) (e : RunError) → result ≡ Err e → (e ≡ run.Memory) ⊎ (e ≡ run.Write)
            → OfAccounts slice (λ account. WritesFront text now new (audits_at m account (due time clock))) → IsRun text m IsReport old new result
        end_fails new result e is mild each =
            end_failed m (Writes text) (WritesFront text) (writer_laws text) IsReport sim.well_formed sim.in_time at new result e is mild
            (of_last (λ ps. WritesFront text now new ps) each)
