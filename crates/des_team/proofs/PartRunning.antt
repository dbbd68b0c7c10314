-- The run of a part in its window: its start, one event more, and its end.
use Rattle.std.proofs.Common.{◌≡◌, ◌≢◌, ◌∙◌, ◌↔◌, ℕ, suc, ◌+◌, ◌<◌, ◌≤◌, ◌^◌, List, [], ◌∷◌, ◌++◌, Option, None, length, get_or, refl, ap, sym, subst, arith, append-nil, length-append}
use Rattle.std.specs.List.{Contains, cons_option}
use Rattle.std.specs.Prelude.{option_map, slice_get}
use Rattle.des_event.specs.declared.event.Event.{Event}
use Rattle.des_event.specs.KeyOrder.{InKeyOrder}
use Rattle.des_event.proofs.Members.{AllPairs_none, contains_none}
use Rattle.des_model.specs.Histories.{IsOverLimit, history}
use Rattle.des_model.specs.Laws.{MayOpen}
use Rattle.des_model.specs.Windows.{part_of, IsPartRun, made_since, pieces_since}
use Rattle.des_model.proofs.Horizons.{horizon_may_open}
use Rattle.des_model.proofs.Runs.{history_is_legal}
use Rattle.des_model.specs.Machine.{Machine}
use Rattle.des_model.specs.WellFormed.{IsWellFormed}
use Rattle.des_machine.specs.Simulable.{IsSimulable}
use Rattle.des_queue.specs.EventKey.{event_key}
use Rattle.des_queue.proofs.Inserting.{ordered_apart}
use Rattle.des_window.specs.Openings.{sooner}
use Rattle.des_window.specs.declared.opening.Opening.{Opening}
use Rattle.des_window.proofs.Openings.{opens_with}
use Rattle.des_team.specs.Chronicles.{Chronicle}
use Rattle.des_team.specs.Entries.{entries_of}
use Rattle.des_team.specs.Outputs.{IsText}
use Rattle.des_team.specs.declared.layout.Layout.{Layout}
use Rattle.des_team.specs.declared.output.Output.{Output}
use Rattle.des_team.specs.declared.part.OwnedPart.{OwnedPart}
use Rattle.des_team.specs.Layouts.{IsLayout, slot_of}
use Rattle.des_team.specs.Orders.{HasRunAll, MayRun, OpensTo}
use Rattle.des_team.specs.Mail.{all_of}
use Rattle.des_team.specs.Owned.{AreApart, IsOwned, LeastTimeIs, share_of}
use Rattle.des_team.specs.Running.{HasHandled, HasTakenIn, CanHandle, IsRunning, ran_first}
use Rattle.des_team.proofs.LeastTimes.{least_of_joined, least_of_ordered}
use Rattle.des_team.proofs.PartLists.{none_listed}
use Rattle.des_team.proofs.PartSteps.{is_least, is_over, is_ready, longer, none_came, none_is_due, share_is_short, still_owned, still_sent, still_sent_apart, still_soonest, still_text}

-- the window that follows the first events of the run
pub may_open : {State Body Piece : Type 0} (m : Machine State Body Piece) {Sound : ℕ → State → Type 0} {Fit : Event Body
    → Type 0} (w : IsWellFormed m Sound Fit)
    (count horizon : ℕ) (opens : OpensTo m count horizon) → MayOpen m (history m count) opens.0 horizon
may_open m w count horizon opens =
    let o : Opening = record { time = opens.0; horizon = horizon } in
    let first = opens_with m (history m count) o opens.1 in
    subst (λ t. MayOpen m (history m count) t horizon) (sym first.time_is)
    (subst (λ k. MayOpen m (history m count) first.event.key.time k) (sym first.horizon_is)
    (horizon_may_open m w (history m count) first.event (history_is_legal m count) first.next_is))

module _ {M State Body Piece S : Type 0} where
  -- when what the other parts made is pending, the part has run nothing
  pub running_first : (ch : Chronicle State Body Piece S) (l : Layout) (count horizon : ℕ) (old : OwnedPart M S State Body Piece) (o : Output)
      → MayRun ch l count horizon old o → (new : OwnedPart M S State Body Piece)
      → HasTakenIn old new → IsRunning ch l count horizon 0 None new o
  running_first ch l count horizon old o order new took = record {
    runs = tt;
    long = refl;
    within = omega (arith, order.within);
    owned = record {
      inside = omega (arith, part_is, order.owned.inside);
      places = λ i k part. omega (
        arith,
        order.owned.places i k (part
            ∙ part_is),
        ap (λ (z : OwnedPart M S State Body Piece). length z.states.items) took.others,
      );
      states_are = λ i s k part. ap (λ (z : OwnedPart M S State Body Piece). get_or z.states.items (slot_of l i) s) took.others
          ∙ order.owned.states_are i s k (part ∙ part_is);
      same = λ x. (
        λ c. let f = (order.owned.same x).0 ((took.same x).0 (subst (λ es. Contains es x) only_pending c)) in (f.0, f.1 ∙ sym part_is),
        λ c. subst (λ es. Contains es x) (sym only_pending) ((took.same x).1 ((order.owned.same x).1 (c.0, c.1 ∙ part_is))),
      );
      apart = subst (λ es. AreApart es) (sym only_pending) (ordered_apart new.pending took.ordered);
      out_long = ap (λ (z : OwnedPart M S State Body Piece). length z.outbox) took.others ∙ order.owned.out_long;
      none_made = ap (λ (z : OwnedPart M S State Body Piece). z.made.items) took.others ∙ order.owned.none_made;
      counted = subst (λ (z : OwnedPart M S State Body Piece). ch.HasCounted (share_of ch.machine l.division z.part (history ch.machine count)) z.scribe)
          (sym took.others) order.owned.counted;
    };
    taken_in = took.none_left;
    sent = λ q v x k. (
      λ c. absurd (contains_none x (subst (λ es. Contains es x) (nothing_sent q v k) c)),
      λ c. absurd (contains_none x c.0),
    );
    sent_apart = λ q v k. subst (λ es. AreApart es) (sym (nothing_sent q v k)) (AllPairs_none (λ (a b : Event Body). a.key ≢ b.key));
    soonest_is = ap (λ (z : OwnedPart M S State Body Piece). all_of z.outbox) took.others ∙ order.none_sent;
    text_is = order.no_text;
  }
    where
      part_is : new.part ≡ old.part
      part_is = ap (λ (z : OwnedPart M S State Body Piece). z.part) took.others

      only_pending : new.pending ++ new.inbox ≡ new.pending
      only_pending = ap (λ es. new.pending ++ es) took.none_left ∙ append-nil new.pending

      nothing_sent : (q : ℕ) (v : List (Event Body)) → q < l.division.parts → get_or new.outbox q v ≡ []
      nothing_sent q v k = ap (λ (z : OwnedPart M S State Body Piece). get_or z.outbox q v) took.others
          ∙ none_listed old.outbox order.none_sent q v (omega (arith, k, order.owned.out_long))

module _ {M State Body Piece S : Type 0} (ch : Chronicle State Body Piece S) {Sound : ℕ → State → Type 0} {Fit : Event Body → Type 0} {Room : State
    → Type 0} (ok : IsSimulable ch.machine Sound Fit Room) (l : Layout) (lay : IsLayout ch.machine.nodes l) (count horizon time : ℕ)
    (o : MayOpen ch.machine (history ch.machine count) time horizon) (whole : length (history ch.machine count) ≡ count)
    (n : ℕ) (soonest : Option ℕ) (p : OwnedPart M S State Body Piece) (before : Output) (r : IsRunning ch l count horizon n soonest p before)
    (ordered : InKeyOrder event_key p.pending) where
  -- the run ends when nothing is due
  pub run_ends : ((x : Event Body) → Contains p.pending x → horizon ≤ x.key.time) → (next : Option ℕ)
      → next ≡ sooner soonest (option_map (λ (e : Event Body). e.key.time) (slice_get p.pending 0)) → HasRunAll ch l count horizon n next p before
  run_ends late next next_is = record {
    sealed = record {
      runs = r.runs;
      done = none_is_due ch ok l lay (history ch.machine count) time horizon o p (ran_first ch.machine l count horizon p.part n) r.runs r.owned r.taken_in
          ordered late;
    };
    long = r.long;
    within = r.within;
    owned = r.owned;
    taken_in = r.taken_in;
    sent = r.sent;
    sent_apart = r.sent_apart;
    next_is = subst (LeastTimeIs (p.pending ++ all_of p.outbox)) (sym next_is)
        (least_of_joined (all_of p.outbox) p.pending soonest (option_map (λ (e : Event Body). e.key.time) (slice_get p.pending 0))
        r.soonest_is (least_of_ordered p.pending ordered));
    text_is = r.text_is;
  }

  module _ (e : Event Body) (rest : List (Event Body)) (is : p.pending ≡ e ∷ rest) (early : e.key.time < horizon) where
    pub run_is_over : ch.machine.max_events ≤ count + n → IsOverLimit ch.machine
    run_is_over full = is_over ch ok l lay (history ch.machine count) time horizon o p (ran_first ch.machine l count horizon p.part n) r.runs r.owned r.taken_in
        ordered e rest is early (omega (arith, full, whole, r.long))

    -- the scribe has room for one piece more
    pub run_has_room : count + n < ch.machine.max_events
        → length (share_of ch.machine l.division p.part (ran_first ch.machine l count horizon p.part n ++ history ch.machine count)) < 2 ^ 40
    run_has_room room = omega (
      arith,
      share_is_short ch.machine l.division p.part (ran_first ch.machine l count horizon p.part n ++ history ch.machine count),
      length-append (ran_first ch.machine l count horizon p.part n) (history ch.machine count),
      whole,
      r.long,
      room,
      ok.few,
    )

    pub run_is_ready : (mid : OwnedPart M S State Body Piece) → mid ≡ record p { pending = rest } → CanHandle ch Sound Fit Room l mid e
    run_is_ready mid mid_is = is_ready ch ok l lay (history ch.machine count) time horizon o p (ran_first ch.machine l count horizon p.part n) r.runs r.owned
        r.taken_in ordered e rest is early
        (omega (arith, length-append (ran_first ch.machine l count horizon p.part n) (history ch.machine count), whole, r.long, r.within)) mid mid_is

    pub run_goes_on : (mid new : OwnedPart M S State Body Piece) → mid ≡ record p { pending = rest } → (after : Output) (away : Option ℕ) → new.part ≡ p.part
        → HasHandled ch l e mid new before after away → count + n < ch.machine.max_events
        → IsRunning ch l count horizon (suc n) (sooner soonest away) new after
    run_goes_on mid new mid_is after away same_part handled room = record {
      runs = subst (λ q. IsPartRun ch.machine l.division (history ch.machine count) horizon q (ran_first ch.machine l count horizon new.part (suc n)))
          (sym same_part)
          (subst (λ z. IsPartRun ch.machine l.division (history ch.machine count) horizon p.part z) (sym grown)
          (longer ch ok l lay (history ch.machine count) time horizon o p (ran_first ch.machine l count horizon p.part n) r.runs r.owned r.taken_in ordered e
          rest
          is early));
      long = omega (arith, ap length grown, r.long);
      within = omega (arith, room);
      owned = subst (λ z. IsOwned ch l (z ++ history ch.machine count) new) (sym grown)
          (still_owned ch ok l lay (history ch.machine count) time horizon o p (ran_first ch.machine l count horizon p.part n) r.runs r.owned r.taken_in ordered
          e rest is early mid new mid_is before after away same_part handled);
      taken_in = none_came ch ok l lay (history ch.machine count) time horizon o p (ran_first ch.machine l count horizon p.part n) r.runs r.owned r.taken_in
          ordered e rest is early mid new mid_is before after away same_part handled;
      sent = λ q v x k. subst (λ z. Contains (get_or new.outbox q v) x
          ↔ (Contains (made_since ch.machine (history ch.machine count) z) x × (part_of l.division x.target ≡ q) × (q ≢ new.part))) (sym grown)
          (still_sent ch ok l lay (history ch.machine count) time horizon o p (ran_first ch.machine l count horizon p.part n) r.runs r.owned r.taken_in ordered
          e rest is early mid new mid_is before after away same_part handled r.sent q v x k);
      sent_apart = still_sent_apart ch ok l lay (history ch.machine count) time horizon o p (ran_first ch.machine l count horizon p.part n) r.runs r.owned
          r.taken_in ordered e rest is early mid new mid_is before after away same_part handled r.sent r.sent_apart;
      soonest_is = still_soonest ch ok l lay (history ch.machine count) time horizon o p (ran_first ch.machine l count horizon p.part n) r.runs r.owned
          r.taken_in ordered e rest is early mid new mid_is before after away same_part handled soonest r.soonest_is;
      text_is = subst (λ z. IsText (entries_of ch.text (pieces_since ch.machine (history ch.machine count) z)) after) (sym grown)
          (still_text ch ok l lay (history ch.machine count) time horizon o p (ran_first ch.machine l count horizon p.part n) r.runs r.owned r.taken_in ordered
          e rest is early mid new mid_is before after away same_part handled r.text_is);
    }
      where
        grown : ran_first ch.machine l count horizon new.part (suc n) ≡ e ∷ ran_first ch.machine l count horizon p.part n
        grown = ap (λ q. ran_first ch.machine l count horizon q (suc n)) same_part ∙ ap (λ z. cons_option z (ran_first ch.machine l count horizon p.part n))
            (is_least ch ok l lay (history ch.machine count) time horizon o p (ran_first ch.machine l count horizon p.part n) r.runs r.owned r.taken_in ordered
            e rest is early)
