-- The first pending event of a part, and what is left when its target has acted on it.
use Rattle.std.proofs.Common.{◌≡◌, ◌≢◌, ◌∙◌, ◌↔◌, ◌⊎◌, ⊎_elim, inl, inr, ℕ, zero, suc, ◌+◌, ◌<◌, ◌≤◌, Bool, true, false, cond, nat_lt, List, [], ◌∷◌, ◌++◌, Option, Some, length, map, get_or, set, refl, ap, sym, subst, arith, append-nil, eq-eqb, lt-ltb, length-append, get_or-set_same, get_or-set_other}
use Rattle.std.proofs.lemmas.Bool.{and_from, and_parts, cases_eq, eqb-true, not-true, not_from_false, ne_eqb}
use Rattle.std.proofs.lemmas.List.{length-set}
use Rattle.std.specs.List.{Contains, filter}
use Rattle.std.specs.Prelude.{◌==◌, ◌&&◌}
use mathlib.Core.List.{reverse-cons}
use Rattle.des_event.specs.declared.event.Event.{Event}
use Rattle.des_event.specs.Keys.{IsAtMost}
use Rattle.des_event.specs.KeyOrder.{InKeyOrder}
use Rattle.des_event.proofs.Members.{AllPairs_append, AllPairs_at, AllPairs_rest, contains_append, contains_cons, contains_filter, contains_here, contains_left, contains_right, contains_there, filter_contains}
use Rattle.des_model.specs.Histories.{IsOverLimit, IsPossible, all_events, effect_after, least, pending, state}
use Rattle.des_model.specs.Laws.{MayOpen}
use Rattle.des_model.specs.WellFormed.{IsWellFormed}
use Rattle.des_model.specs.Windows.{Division, part_of, put, waiting, IsPartRun, events_run, made_since, pieces_since}
use Rattle.des_model.proofs.Commuting.{known_in_range, limit_found}
use Rattle.des_model.proofs.Distinct.{fit_event, made_apart, made_fresh, one_event, sound_state, state_here, state_other}
use Rattle.des_model.proofs.Least.{least_is}
use Rattle.des_model.proofs.Made.{known_from_since}
use Rattle.des_model.proofs.Parts.{possible_from_part_run, waiting_parts}
use Rattle.des_model.proofs.Pending.{Waits, pending_from, waits_from}
use Rattle.des_model.proofs.Rest.{pending_moves}
use Rattle.des_model.proofs.Runs.{possible_from_legal}
use Rattle.des_model.proofs.Steps.{put_other, put_same}
use Rattle.des_model.specs.Machine.{Machine}
use Rattle.des_machine.specs.Simulable.{IsSimulable}
use Rattle.des_queue.specs.EventKey.{event_key}
use Rattle.des_queue.proofs.Inserting.{ordered_apart}
use Rattle.des_window.specs.Openings.{sooner}
use Rattle.des_window.proofs.EventLists.{head_first}
use Rattle.des_team.specs.Chronicles.{Chronicle}
use Rattle.des_team.specs.Entries.{entries_of, entry_at}
use Rattle.des_team.specs.Outputs.{IsText}
use Rattle.des_team.specs.declared.layout.Layout.{Layout}
use Rattle.des_team.specs.declared.output.Output.{Output}
use Rattle.des_team.specs.declared.part.OwnedPart.{OwnedPart}
use Rattle.des_team.specs.Layouts.{IsLayout, slot_of}
use Rattle.des_team.specs.Mail.{all_of}
use Rattle.des_team.specs.Owned.{AreApart, HasTakenAll, IsOwned, LeastTimeIs, share_of}
use Rattle.des_team.specs.Running.{HasHandled, CanHandle, is_for_others, sent_to, state_at}
use Rattle.des_team.proofs.LeastTimes.{least_of_both}
use Rattle.des_team.proofs.PartLists.{apart_filter, first_list, listed_from, listed_in, none_contained}

module _ {M State Body Piece S : Type 0} where
  -- what an event makes at a part that has its target
  abbrev pub made_by : Chronicle State Body Piece S → Layout → OwnedPart M S State Body Piece → Event Body → List (Event Body)
  made_by ch l p e = (ch.machine.effect (state_at ch l p e.target) e).events

-- a part's events add no more pieces than there are events
pub share_is_short : {State Body Piece : Type 0} (m : Machine State Body Piece) (d : Division) (part : ℕ) (h : List (Event Body))
    → length (share_of m d part h) ≤ length h
share_is_short m d part [] = omega arith
share_is_short m d part (e ∷ h) = go (part_of d e.target == part) (share_is_short m d part h)
  where
    go : (b : Bool) → length (share_of m d part h) ≤ length h
        → length (cond b (share_of m d part h ++ (effect_after m h e).piece ∷ []) (share_of m d part h)) ≤ suc (length h)
    go true short = omega (arith, length-append (share_of m d part h) ((effect_after m h e).piece ∷ []), short)
    go false short = omega (arith, short)

module _ {Body : Type 0} where
  goes_away : (d : Division) (part : ℕ) (x : Event Body) → part_of d x.target ≢ part → is_for_others d part x ≡ true
  goes_away d part x ne = not_from_false (part_of d x.target == part) (ne_eqb (part_of d x.target) part ne)

  gone_away : (d : Division) (part : ℕ) (x : Event Body) → is_for_others d part x ≡ true → part_of d x.target ≢ part
  gone_away d part x goes at = let f = not-true (part_of d x.target == part) goes in let t = eq-eqb (part_of d x.target) part at in absurd (cc (f, t))

  events_run_at : (ran : ℕ → List (Event Body)) (n p : ℕ) → p < n → length (ran p) ≤ events_run ran n
  events_run_at ran zero p l = absurd (omega (arith, l))
  events_run_at ran (suc n) p l = ⊎_elim (λ e. omega (arith, ap (λ z. length (ran z)) e))
      (λ ne. let differ : p ≢ n = ne in omega (arith, events_run_at ran n p (omega (arith, l, differ)))) (cases_eq p n)

module _ {M State Body Piece S : Type 0} (ch : Chronicle State Body Piece S) {Sound : ℕ → State → Type 0} {Fit : Event Body → Type 0} {Room : State
    → Type 0} (ok : IsSimulable ch.machine Sound Fit Room) (l : Layout) (lay : IsLayout ch.machine.nodes l) (h : List (Event Body)) (time horizon : ℕ)
    (o : MayOpen ch.machine h time horizon) (p : OwnedPart M S State Body Piece) (ran : List (Event Body))
    (runs : IsPartRun ch.machine l.division h horizon p.part ran)
    (owned : IsOwned ch l (ran ++ h) p) (none : HasTakenAll p) (ordered : InKeyOrder event_key p.pending) where
  w : IsWellFormed ch.machine Sound Fit
  w = ok.well_formed

  here : IsPossible ch.machine (ran ++ h)
  here = possible_from_part_run ch.machine l.division h horizon (possible_from_legal ch.machine h o.legal) p.part ran runs

  -- its pending events are those of its nodes
  pub are_pending : (x : Event Body) → Contains p.pending x ↔ (Contains (pending ch.machine (ran ++ h)) x × (part_of l.division x.target ≡ p.part))
  are_pending x = subst (λ es. Contains es x ↔ (Contains (pending ch.machine (ran ++ h)) x × (part_of l.division x.target ≡ p.part)))
      (ap (λ es. p.pending ++ es) none ∙ append-nil p.pending) (owned.same x)

  waits_there : (x : Event Body) → Contains p.pending x → Waits ch.machine (ran ++ h) x
  waits_there x c = waits_from ch.machine (ran ++ h) x ((are_pending x).0 c).0

  pub none_is_due : ((x : Event Body) → Contains p.pending x → horizon ≤ x.key.time) → waiting ch.machine l.division h horizon p.part ran ≡ []
  none_is_due late = none_contained (waiting ch.machine l.division h horizon p.part ran) (λ x c.
      let q = waiting_parts ch.machine l.division h horizon p.part ran x c in
      omega (arith, q.2, late x ((are_pending x).1 (pending_from ch.machine (ran ++ h) x q.0, q.1))))

  module _ (e : Event Body) (rest : List (Event Body)) (is : p.pending ≡ e ∷ rest) (early : e.key.time < horizon) where
    e_there : Contains p.pending e
    e_there = subst (λ es. Contains es e) (sym is) (contains_here e rest)

    rest_there : (x : Event Body) → Contains rest x → Contains p.pending x
    rest_there x c = subst (λ es. Contains es x) (sym is) (contains_there x e rest c)

    pub in_part : part_of l.division e.target ≡ p.part
    in_part = ((are_pending e).0 e_there).1

    e_waits : Waits ch.machine (ran ++ h) e
    e_waits = waits_there e e_there

    e_first : (x : Event Body) → Contains p.pending x → IsAtMost e.key x.key
    e_first x c = head_first e rest (subst (λ es. InKeyOrder event_key es) is ordered) x (subst (λ es. Contains es x) is c)

    pub is_least : least (waiting ch.machine l.division h horizon p.part ran) ≡ Some e
    is_least = least_is (waiting ch.machine l.division h horizon p.part ran) e
        (λ x y c k. one_event ch.machine w (ran ++ h) here x y
        (waiting_parts ch.machine l.division h horizon p.part ran x c).0.known (waiting_parts ch.machine l.division h horizon p.part ran y k).0.known)
        (record {
          among = contains_filter (λ (x : Event Body). part_of l.division x.target == p.part && nat_lt x.key.time horizon)
              (pending ch.machine (ran ++ h)) e ((are_pending e).0 e_there).0
              (and_from (part_of l.division e.target == p.part) (nat_lt e.key.time horizon) (eq-eqb (part_of l.division e.target) p.part in_part)
              (lt-ltb e.key.time horizon early));
          first = λ x c. let q = waiting_parts ch.machine l.division h horizon p.part ran x c in
              e_first x ((are_pending x).1 (pending_from ch.machine (ran ++ h) x q.0, q.1));
        })

    pub longer : IsPartRun ch.machine l.division h horizon p.part (e ∷ ran)
    longer = (runs, is_least)

    e_fits : Fit e
    e_fits = fit_event ch.machine w (ran ++ h) here e e_waits.known

    e_inside : e.target < ch.machine.nodes
    e_inside = w.in_range e e_fits

    pub state_is : state_at ch l p e.target ≡ state ch.machine (ran ++ h) e.target
    state_is = owned.states_are e.target (ch.machine.initial 0) e_inside in_part

    made_there : (x : Event Body) → Contains (made_by ch l p e) x → Contains (effect_after ch.machine (ran ++ h) e).events x
    made_there x c = subst (λ s. Contains (ch.machine.effect s e).events x) state_is c

    made_back : (x : Event Body) → Contains (effect_after ch.machine (ran ++ h) e).events x → Contains (made_by ch l p e) x
    made_back x c = subst (λ s. Contains (ch.machine.effect s e).events x) (sym state_is) c

    made_is_apart : AreApart (made_by ch l p e)
    made_is_apart = subst (λ s. AreApart (ch.machine.effect s e).events) (sym state_is) (made_apart ch.machine w (ran ++ h) here e e_waits.known)

    -- no event that was known has the key of one that is made
    made_is_new : (x y : Event Body) → Contains (all_events ch.machine (ran ++ h)) x → Contains (made_by ch l p e) y → x.key ≢ y.key
    made_is_new x y c k s = made_fresh ch.machine w (ran ++ h) here e e_waits.known y x (made_there y k) c (sym s)

    made_apart_from_rest : AreApart (rest ++ (made_by ch l p e))
    made_apart_from_rest = AllPairs_append (λ (a b : Event Body). a.key ≢ b.key) rest (made_by ch l p e)
        (AllPairs_rest (λ (a b : Event Body). a.key ≢ b.key) e rest (subst (λ es. AreApart es) is (ordered_apart p.pending ordered)))
        made_is_apart (λ x y c k. made_is_new x y (waits_there x (rest_there x c)).known k)

    pub is_ready : length (ran ++ h) ≤ ch.machine.max_events → (mid : OwnedPart M S State Body Piece) → mid ≡ record p { pending = rest }
        → CanHandle ch Sound Fit Room l mid e
    is_ready short mid mid_is = subst (λ z. CanHandle ch Sound Fit Room l z e) (sym mid_is) (record {
      layout = lay;
      target = e_inside;
      in_part = in_part;
      place = owned.places e.target e_inside in_part;
      state_is_sound = subst (λ s. Sound e.target s) (sym state_is) (sound_state ch.machine w (ran ++ h) here e e_waits.known);
      room = subst Room (sym state_is) (ok.room_is_left (ran ++ h) here short e.target e_inside);
      event_is_sound = e_fits;
      in_time = omega (arith, early, o.in_time);
      apart = made_apart_from_rest;
      out_long = owned.out_long;
      none_made = owned.none_made;
    })

    pub is_over : ch.machine.max_events ≤ length h + length ran → IsOverLimit ch.machine
    is_over full = limit_found ch.machine w l.division lay.divides h time horizon o lists each
        (omega (
          arith,
          full,
          events_run_at lists l.division.parts p.part owned.inside,
          ap length (put_same (λ q. []) p.part (e ∷ ran) p.part refl),
        ))
      where
        lists : ℕ → List (Event Body)
        lists = put (λ q. []) p.part (e ∷ ran)

        each : (q : ℕ) → q < l.division.parts → IsPartRun ch.machine l.division h horizon q (lists q)
        each q k = ⊎_elim
            (λ s. subst (λ z. IsPartRun ch.machine l.division h horizon q z) (sym (put_same (λ q. []) p.part (e ∷ ran) q s))
            (subst (λ z. IsPartRun ch.machine l.division h horizon z (e ∷ ran)) (sym s) longer))
            (λ s. subst (λ z. IsPartRun ch.machine l.division h horizon q z) (sym (put_other (λ q. []) p.part (e ∷ ran) q s)) tt) (cases_eq q p.part)

    -- what is left when the target has acted
    module _ (mid new : OwnedPart M S State Body Piece) (mid_is : mid ≡ record p { pending = rest }) (before after : Output) (away : Option ℕ)
        (same_part : new.part ≡ p.part) (handled : HasHandled ch l e mid new before after away) where
      pub did : HasHandled ch l e (record p { pending = rest }) new before after away
      did = subst (λ z. HasHandled ch l e z new before after away) mid_is handled

      pub none_came : HasTakenAll new
      none_came = did.same_inbox ∙ none

      only_pending : new.pending ++ new.inbox ≡ new.pending
      only_pending = ap (λ es. new.pending ++ es) none_came ∙ append-nil new.pending

      out_is_long : length new.outbox ≡ l.division.parts
      out_is_long = did.sent.out_long ∙ owned.out_long

      pending_there : (x : Event Body) → Contains new.pending x
          → Contains (pending ch.machine (e ∷ (ran ++ h))) x × (part_of l.division x.target ≡ new.part)
      pending_there x c = ⊎_elim
          (λ k.
          let f = (are_pending x).0 (rest_there x k) in (
            (pending_moves ch.machine w (ran ++ h) e (here, ((are_pending e).0 e_there).0) x).1 (inl (
              f.0,
              λ s.
                  AllPairs_at (λ (a b : Event Body). a.key ≢ b.key) e rest (subst (λ es. AreApart es) is (ordered_apart p.pending ordered)) x k
                  (ap (λ (z : Event Body). z.key) (sym s)),
            )),
            f.1 ∙ sym same_part,
          ))
          (λ k. (
            (pending_moves ch.machine w (ran ++ h) e (here, ((are_pending e).0 e_there).0) x).1 (inr (made_there x k.0)),
            k.1 ∙ sym same_part,
          ))
          ((did.sent.kept x).0 c)

      pending_back : (x : Event Body) → Contains (pending ch.machine (e ∷ (ran ++ h))) x × (part_of l.division x.target ≡ new.part)
          → Contains new.pending x
      pending_back x c = (did.sent.kept x).1 (⊎_elim
          (λ k. inl (⊎_elim (λ s. absurd (k.1 (sym s))) (λ m. m)
          (contains_cons x e rest (subst (λ es. Contains es x) is ((are_pending x).1 (k.0, c.1 ∙ same_part))))))
          (λ k. inr (made_back x k, c.1 ∙ same_part))
          ((pending_moves ch.machine w (ran ++ h) e (here, ((are_pending e).0 e_there).0) x).0 c.0))

      state_after : (i : ℕ) (s : State) → i < ch.machine.nodes → part_of l.division i ≡ new.part
          → get_or new.states.items (slot_of l i) s ≡ state ch.machine (e ∷ (ran ++ h)) i
      state_after i s k part = ap (λ states. get_or states (slot_of l i) s) did.states_are ∙ ⊎_elim same other (cases_eq e.target i)
        where
          same : e.target ≡ i → get_or (set p.states.items (slot_of l e.target) (ch.machine.effect (state_at ch l p e.target) e).state) (slot_of l i) s
              ≡ state ch.machine (e ∷ (ran ++ h)) i
          same t = ap (λ j. get_or (set p.states.items (slot_of l e.target) (ch.machine.effect (state_at ch l p e.target) e).state) (slot_of l j) s) (sym t)
              ∙ get_or-set_same p.states.items (slot_of l e.target) (ch.machine.effect (state_at ch l p e.target) e).state s
              (owned.places e.target e_inside in_part)
              ∙ ap (λ z. (ch.machine.effect z e).state) state_is ∙ sym (state_here ch.machine e (ran ++ h) e.target refl)
              ∙ ap (λ j. state ch.machine (e ∷ (ran ++ h)) j) t

          other : (e.target ≡ i → ⊥) → get_or (set p.states.items (slot_of l e.target) (ch.machine.effect (state_at ch l p e.target) e).state) (slot_of l i) s
              ≡ state ch.machine (e ∷ (ran ++ h)) i
          other ne = get_or-set_other p.states.items (slot_of l e.target) (slot_of l i) (ch.machine.effect (state_at ch l p e.target) e).state s
              (λ t. ne (sym (lay.apart i e.target k e_inside (part ∙ same_part ∙ sym in_part) t)))
              ∙ owned.states_are i s k (part ∙ same_part) ∙ sym (state_other ch.machine e (ran ++ h) i ne)

      share_is : share_of ch.machine l.division new.part (e ∷ (ran ++ h))
          ≡ share_of ch.machine l.division p.part (ran ++ h) ++ (ch.machine.effect (state_at ch l p e.target) e).piece ∷ []
      share_is = ap (λ q. share_of ch.machine l.division q (e ∷ (ran ++ h))) same_part
          ∙ ap (λ b. cond b (share_of ch.machine l.division p.part (ran ++ h) ++ (effect_after ch.machine (ran ++ h) e).piece ∷ [])
          (share_of ch.machine l.division p.part (ran ++ h))) (eq-eqb (part_of l.division e.target) p.part in_part)
          ∙ ap (λ z. share_of ch.machine l.division p.part (ran ++ h) ++ (ch.machine.effect z e).piece ∷ []) (sym state_is)

      pub still_owned : IsOwned ch l (e ∷ (ran ++ h)) new
      still_owned = record {
        inside = omega (arith, same_part, owned.inside);
        places = λ i k part. omega (
          arith,
          owned.places i k (part ∙ same_part),
          ap length did.states_are,
          length-set p.states.items (slot_of l e.target) (ch.machine.effect (state_at ch l p e.target) e).state,
        );
        states_are = state_after;
        same = λ x. (
          λ c. pending_there x (subst (λ es. Contains es x) only_pending c),
          λ c. subst (λ es. Contains es x) (sym only_pending) (pending_back x c),
        );
        apart = subst (λ es. AreApart es) (sym only_pending) (ordered_apart new.pending did.sent.ordered);
        out_long = out_is_long;
        none_made = did.none_made;
        counted = subst (λ z. ch.HasCounted z new.scribe) (sym share_is) (did.counted (share_of ch.machine l.division p.part (ran ++ h)) owned.counted);
      }

      mail_is : (q : ℕ) (v : List (Event Body)) → q < l.division.parts
          → get_or new.outbox q v ≡ (get_or p.outbox q v)
          ++ sent_to l.division p.part q (made_by ch l p e)
      mail_is q v k = did.sent.sent q v (omega (arith, k, owned.out_long))

      made_is_known : (x : Event Body) → Contains (made_by ch l p e) x → part_of l.division x.target < l.division.parts
      made_is_known x c = known_in_range ch.machine w l.division lay.divides (e ∷ (ran ++ h)) (here, ((are_pending e).0 e_there).0) x
          (contains_left (effect_after ch.machine (ran ++ h) e).events (all_events ch.machine (ran ++ h)) x (made_there x c))

      pub still_sent : ((q : ℕ) (v : List (Event Body)) (x : Event Body) → q < l.division.parts → Contains (get_or p.outbox q v) x
          ↔ (Contains (made_since ch.machine h ran) x × (part_of l.division x.target ≡ q) × (q ≢ p.part)))
          → (q : ℕ) (v : List (Event Body)) (x : Event Body) → q < l.division.parts → Contains (get_or new.outbox q v) x
          ↔ (Contains (made_since ch.machine h (e ∷ ran)) x × (part_of l.division x.target ≡ q) × (q ≢ new.part))
      still_sent sent q v x k = (there, back)
        where
          there : Contains (get_or new.outbox q v) x
              → Contains (made_since ch.machine h (e ∷ ran)) x × (part_of l.division x.target ≡ q) × (q ≢ new.part)
          there c = ⊎_elim
              (λ m.
              let f = (sent q v x k).0 m in
              (contains_right (effect_after ch.machine (ran ++ h) e).events (made_since ch.machine h ran) x f.0, f.1, λ s. f.2 (s ∙ same_part)))
              (λ m.
              let f = filter_contains (λ x. part_of l.division x.target == q && is_for_others l.division p.part x)
              (made_by ch l p e) x m in
              let b = and_parts (part_of l.division x.target == q) (is_for_others l.division p.part x) f.1 in
              let at : part_of l.division x.target ≡ q = eqb-true (part_of l.division x.target) q b.0 in (
                contains_left (effect_after ch.machine (ran ++ h) e).events (made_since ch.machine h ran) x (made_there x f.0),
                at,
                λ s. gone_away l.division p.part x b.1 (at ∙ s ∙ same_part),
              ))
              (contains_append (get_or p.outbox q v) (sent_to l.division p.part q (made_by ch l p e)) x
              (subst (λ es. Contains es x) (mail_is q v k) c))

          back : Contains (made_since ch.machine h (e ∷ ran)) x × (part_of l.division x.target ≡ q) × (q ≢ new.part)
              → Contains (get_or new.outbox q v) x
          back c = subst (λ es. Contains es x) (sym (mail_is q v k)) (⊎_elim
              (λ m. contains_right (get_or p.outbox q v) (sent_to l.division p.part q (made_by ch l p e)) x
              (contains_filter (λ x. part_of l.division x.target == q && is_for_others l.division p.part x)
              (made_by ch l p e) x (made_back x m)
              (and_from (part_of l.division x.target == q) (is_for_others l.division p.part x) (eq-eqb (part_of l.division x.target) q c.1)
              (goes_away l.division p.part x (λ s. c.2 (sym c.1 ∙ s ∙ sym same_part))))))
              (λ m. contains_left (get_or p.outbox q v) (sent_to l.division p.part q (made_by ch l p e)) x
              ((sent q v x k).1 (m, c.1, λ s. c.2 (s ∙ sym same_part))))
              (contains_append (effect_after ch.machine (ran ++ h) e).events (made_since ch.machine h ran) x c.0))

      pub still_sent_apart : ((q : ℕ) (v : List (Event Body)) (x : Event Body) → q < l.division.parts → Contains (get_or p.outbox q v) x
          ↔ (Contains (made_since ch.machine h ran) x × (part_of l.division x.target ≡ q) × (q ≢ p.part)))
          → ((q : ℕ) (v : List (Event Body)) → q < l.division.parts → AreApart (get_or p.outbox q v))
          → (q : ℕ) (v : List (Event Body)) → q < l.division.parts → AreApart (get_or new.outbox q v)
      still_sent_apart sent apart q v k = subst (λ es. AreApart es) (sym (mail_is q v k))
          (AllPairs_append (λ (a b : Event Body). a.key ≢ b.key) (get_or p.outbox q v)
          (sent_to l.division p.part q (made_by ch l p e)) (apart q v k)
          (apart_filter (λ x. part_of l.division x.target == q && is_for_others l.division p.part x)
          (made_by ch l p e) made_is_apart)
          (λ x y c m. made_is_new x y (known_from_since ch.machine h ran x ((sent q v x k).0 c).0)
          (filter_contains (λ x. part_of l.division x.target == q && is_for_others l.division p.part x)
          (made_by ch l p e) y m).0))

      pub still_soonest : (soonest : Option ℕ) → LeastTimeIs (all_of p.outbox) soonest → LeastTimeIs (all_of new.outbox) (sooner soonest away)
      still_soonest soonest is_soonest = least_of_both (all_of p.outbox)
          (filter (is_for_others l.division p.part) (made_by ch l p e)) (all_of new.outbox) soonest away
          is_soonest did.sent.soonest_is (λ x. (there x, back x))
        where
          there : (x : Event Body) → Contains (all_of new.outbox) x → Contains (all_of p.outbox) x
              ⊎ Contains (filter (is_for_others l.division p.part) (made_by ch l p e)) x
          there x c =
              let r = listed_from new.outbox x c in
              let k : r.place < l.division.parts = omega (arith, r.inside, out_is_long) in
              ⊎_elim (λ m. inl (listed_in p.outbox r.place r.list x (omega (arith, k, owned.out_long)) m))
              (λ m.
              let f = filter_contains (λ x. part_of l.division x.target == r.place && is_for_others l.division p.part x)
              (made_by ch l p e) x m in
              inr (contains_filter (is_for_others l.division p.part) (made_by ch l p e) x f.0
              (and_parts (part_of l.division x.target == r.place) (is_for_others l.division p.part x) f.1).1))
              (contains_append (get_or p.outbox r.place r.list)
              (sent_to l.division p.part r.place (made_by ch l p e)) x
              (subst (λ es. Contains es x) ((sym (r.at r.list)) ∙ mail_is r.place r.list k) r.among))

          back : (x : Event Body) → Contains (all_of p.outbox) x
              ⊎ Contains (filter (is_for_others l.division p.part) (made_by ch l p e)) x
              → Contains (all_of new.outbox) x
          back x (inl c) =
              let r = listed_from p.outbox x c in
              let k : r.place < l.division.parts = omega (arith, r.inside, owned.out_long) in
              listed_in new.outbox r.place r.list x (omega (arith, k, out_is_long)) (subst (λ es. Contains es x) (sym (mail_is r.place r.list k))
              (contains_left (get_or p.outbox r.place r.list)
              (sent_to l.division p.part r.place (made_by ch l p e)) x
              (subst (λ (z : List (Event Body)). Contains z x) (sym (r.at r.list)) r.among)))
          back x (inr c) =
              let f = filter_contains (is_for_others l.division p.part) (made_by ch l p e) x c in
              let k : part_of l.division x.target < l.division.parts = made_is_known x f.0 in
              let v : List (Event Body) = first_list new.outbox (omega (arith, k, out_is_long)) in
              listed_in new.outbox (part_of l.division x.target) v x (omega (arith, k, out_is_long))
              (subst (λ es. Contains es x) (sym (mail_is (part_of l.division x.target) v k))
              (contains_right (get_or p.outbox (part_of l.division x.target) v)
              (sent_to l.division p.part (part_of l.division x.target) (made_by ch l p e)) x
              (contains_filter (λ y. part_of l.division y.target == part_of l.division x.target && is_for_others l.division p.part y)
              (made_by ch l p e) x f.0
              (and_from (part_of l.division x.target == part_of l.division x.target) (is_for_others l.division p.part x)
              (eq-eqb (part_of l.division x.target) (part_of l.division x.target) refl) f.1))))

      pub still_text : IsText (entries_of ch.text (pieces_since ch.machine h ran)) before
          → IsText (entries_of ch.text (pieces_since ch.machine h (e ∷ ran))) after
      still_text text = subst (λ es. IsText es after)
          (ap (λ s. entries_of ch.text (pieces_since ch.machine h ran) ++ entry_at ch.text (e, (ch.machine.effect s e).piece) ∷ []) state_is
          ∙ sym (reverse-cons (entry_at ch.text (e, (effect_after ch.machine (ran ++ h) e).piece)) (map (entry_at ch.text) (pieces_since ch.machine h ran))))
          (did.text_is (entries_of ch.text (pieces_since ch.machine h ran)) text)
