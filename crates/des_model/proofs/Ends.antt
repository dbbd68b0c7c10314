-- How a run ends, of any machine, into any scribe.
use Rattle.std.proofs.Common.{
  ◌≡◌,
  ◌∙◌,
  ◌⊎◌,
  inl,
  inr,
  rules,
  ℕ,
  ◌+◌,
  ◌≤◌,
  Bool,
  true,
  false,
  cond,
  List,
  [],
  ◌∷◌,
  ◌++◌,
  Result,
  Ok,
  Err,
  length,
  length-append,
  ap,
  sym,
  refl,
  subst,
  arith,
}
use Rattle.std.specs.Prelude.{nat_le, nat_lt, not}
use Rattle.std.specs.List.{All, Contains, filter}
use Rattle.std.proofs.lemmas.List.{length-map}
use Rattle.std.proofs.lemmas.Bool.Decides.{nat_tests}
use Rattle.des_event.specs.declared.error.RunError.{RunError}
use Rattle.des_event.specs.declared.error.RunError.TheVariants as run
use Rattle.des_event.specs.declared.event.Event.{Event}
use Rattle.des_event.proofs.Members.{All_at, contains_here, contains_there, filter_contains}
use Rattle.des_model.specs.Histories.{IsOverLimit, effect_after, full_history, history, open_audits, output, state, trace}
use Rattle.des_model.specs.Laws.{IsWhole}
use Rattle.des_model.specs.Machine.{Machine}
use Rattle.des_model.specs.Scribes.{AreLaws, IsAtEnd, IsBeginningBy, IsRunBy, audits_at, due, whole_trace}
use Rattle.des_model.specs.WellFormed.{IsWellFormed}
use Rattle.des_model.proofs.Audits.{open_after, output_next, trace_at_end}
use Rattle.des_model.proofs.Horizons.{whole_from}
use Rattle.des_model.proofs.Runs.{history_is_legal}

-- all are due by the end
all_due : (time : ℕ) (times : List ℕ) → ((t : ℕ) → Contains times t → t ≤ time) → due time times ≡ times
all_due time [] early = refl
all_due time (t ∷ times) early = let come : t ≤ time = early t (contains_here t times) in let is : nat_le t time ≡ true = grind (arith, nat_tests)
    in ap (λ b. cond b (t ∷ due time times) (due time times)) is ∙ ap (λ ts. t ∷ ts) (all_due time times (λ u c. early u (contains_there u t times c)))

-- some are due, and the others are not
due_or_not : (time : ℕ) (times : List ℕ) → length (due time times) + length (filter (λ t. nat_lt time t) times) ≡ length times
due_or_not time [] = refl
due_or_not time (t ∷ times) = let is : nat_lt time t ≡ not (nat_le t time) = grind (arith, nat_tests) in
    subst (λ b. length (due time (t ∷ times)) + length (cond b (t ∷ not_due) not_due) ≡ length (t ∷ times)) (sym is) (go (nat_le t time) (due_or_not time times))
  where
    not_due : List ℕ
    not_due = filter (λ t. nat_lt time t) times

    go : (a : Bool) → length (due time times) + length not_due ≡ length times
        → length (cond a (t ∷ due time times) (due time times)) + length (cond (not a) (t ∷ not_due) not_due) ≡ length (t ∷ times)
    go true rest = omega (arith, rest)
    go false rest = omega (arith, rest)

module _ {State Body Piece : Type 0} (m : Machine State Body Piece) where
  -- each event outputs a piece, and so does each audit that it closes
  pub pieces_counted : (h : List (Event Body)) → length (output m h) + length (open_audits m h) ≡ length h + length (open_audits m [])
  pieces_counted [] = refl
  pieces_counted (e ∷ h) =
      let closed = due e.key.time (open_audits m h) in
      omega (
        arith,
        pieces_counted h,
        ap length (output_next m e h),
        length-append (output m h) (audits_at m (state m h) closed ++ (effect_after m h e).piece ∷ []),
        length-append (audits_at m (state m h) closed) ((effect_after m h e).piece ∷ []),
        length-map closed (λ t. m.audit t (state m h)),
        ap length (open_after m e h),
        due_or_not e.key.time (open_audits m h),
      )

  module _ {S Report : Type 0} (Adds Fronts : S → S → List Piece → Type 0) (Tells : List Piece → Report → Type 0) where
    -- an error ended the run
    pub run_stopped : (old new : S) (result : Result Report RunError) (e : RunError) → result ≡ Err e → (e ≡ run.TooManyEvents → IsOverLimit m)
        → IsBeginningBy m Fronts old new → IsRunBy m Adds Fronts Tells old new result
    run_stopped old new (Ok report) e is over begun = cc
    run_stopped old new (Err found) e is over begun = record {
      trace = search rules;
      report = search rules;
      within = search rules;
      over = λ same. over cc;
      beginning = begun;
    }

    -- a failed scribe or a failed allocation ended it
    pub run_failed : (old new : S) (result : Result Report RunError) (e : RunError) → result ≡ Err e → (e ≡ run.Memory) ⊎ (e ≡ run.Write)
        → IsBeginningBy m Fronts old new → IsRunBy m Adds Fronts Tells old new result
    run_failed old new result e is (inl memory) begun = run_stopped old new result e is (λ over. cc) begun
    run_failed old new result e is (inr write) begun = run_stopped old new result e is (λ over. cc) begun

  module _ {S : Type 0} (Adds Fronts : S → S → List Piece → Type 0) (laws : AreLaws Adds Fronts) where
    -- what the first events output is a beginning of their trace
    pub begins_here : (old now : S) (count : ℕ) → Adds old now (output m (history m count)) → IsBeginningBy m Fronts old now
    begins_here old now count put = (count, laws.fronts_longer old now (output m (history m count)) _ (laws.fronts_whole old now (output m (history m count)) put))

    -- a beginning of what the next event outputs, after that, is a beginning of the trace
    pub begins_next : (old now new : S) (count more : ℕ) (pieces : List Piece) → Adds old now (output m (history m count))
        → output m (history m more) ≡ output m (history m count) ++ pieces → Fronts now new pieces → IsBeginningBy m Fronts old new
    begins_next old now new count more pieces put outputs front = (
      more,
      laws.fronts_longer old new (output m (history m more)) _
          (subst (λ ps. Fronts old new ps) (sym outputs) (laws.fronts_then old now new (output m (history m count)) pieces put front)),
    )

    -- nothing is a beginning
    pub begins_with_nothing : (old : S) → IsBeginningBy m Fronts old old
    begins_with_nothing old = begins_here old old 0 (laws.adds_none old)

    -- after the last event, the audits that are left end the trace
    module _ {Report : Type 0} (Tells : List Piece → Report → Type 0) {Sound : ℕ → State → Type 0} {Fit : Event Body → Type 0} (w : IsWellFormed m Sound Fit)
        (in_time : All (λ t. t ≤ m.duration) m.audit_times) {old now : S} {count : ℕ} {clock : List ℕ} (at : IsAtEnd m Adds old now count clock) where
      abbrev past : List (Event Body)
      past = history m count

      -- the audits that are left
      abbrev last : List Piece
      last = audits_at m (state m past) (due m.duration clock)

      whole : IsWhole m past
      whole = whole_from m w past (history_is_legal m count) at.ended

      full : (past ≡ full_history m) × (IsOverLimit m → ⊥)
      full = whole.within_limit (omega (arith, at.long, at.within))

      traced : output m past ++ last ≡ trace m past
      traced = ap (λ ts. output m past ++ audits_at m (state m past) ts) (all_due m.duration clock
          (λ t c. All_at (λ t. t ≤ m.duration) m.audit_times t in_time (filter_contains _ m.audit_times t (subst (λ ts. Contains ts t) at.audits c)).0)
          ∙ at.audits) ∙ sym (trace_at_end m past at.ended)

      pub run_ended : (new : S) (report : Report) → Adds now new last → Tells (output m past ++ last) report → IsRunBy m Adds Fronts Tells old new (Ok report)
      run_ended new report put tells =
          let is : output m past ++ last ≡ whole_trace m = traced ∙ ap (trace m) full.0 in
          let all : Adds old new (output m past ++ last) = laws.adds_then old now new (output m past) last at.put put in
          record {
            trace = subst (λ ps. Adds old new ps) is all;
            report = subst (λ ps. Tells ps report) is tells;
            within = full.1;
            over = λ none. cc;
            beginning = (count, subst (λ ps. Fronts old new ps) traced (laws.fronts_whole old new (output m past ++ last) all));
          }

      pub end_failed : (new : S) (result : Result Report RunError) (e : RunError) → result ≡ Err e → (e ≡ run.Memory) ⊎ (e ≡ run.Write) → Fronts now new last
          → IsRunBy m Adds Fronts Tells old new result
      end_failed new result e is mild front = run_failed Adds Fronts Tells old new result e is mild
          (count, subst (λ ps. Fronts old new ps) traced (laws.fronts_then old now new (output m past) last at.put front))
