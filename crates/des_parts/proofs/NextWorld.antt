-- The world after a window.
use Rattle.std.proofs.Common.{◌≡◌, ◌≢◌, ℕ, zero, suc, ◌+◌, ◌-◌, ◌<◌, ◌≤◌, List, [], ◌∷◌, ◌++◌, Option, None, Some, option_map, length, get_or, refl, ap, sym, ◌∙◌, subst, inl, inr, ◌⊎◌, ⊎_elim, ◌↔◌, arith}
use Rattle.std.specs.List.{All, AllByRecursion, AllPairs, Contains}
use Rattle.des_event.specs.declared.event.Event.{Event}
use Rattle.des_event.specs.KeyOrder.{InKeyOrder}
use Rattle.des_event.proofs.KeyLists.{all_in, ordered_back, IsIn-from_Contains}
use Rattle.des_event.proofs.Members.{All_at, All_from, AllPairs_append, contains_append, contains_right, contains_none}
use Rattle.des_model.specs.Histories.{history, next, open_audits, pending, state, IsOverLimit}
use Rattle.des_model.specs.Laws.{MayOpen}
use Rattle.des_model.specs.Schedules.{horizon_from}
use Rattle.des_model.specs.WellFormed.{IsWellFormed}
use Rattle.des_model.specs.Worlds.{AreStatesAfter}
use Rattle.des_model.specs.Windows.{Division, Divides, part_of, IsSealedRun, events_run, made_since}
use Rattle.des_model.proofs.Commuting.{node_in_range}
use Rattle.des_model.proofs.Distinct.{meets}
use Rattle.des_model.proofs.Made.{known_from_since}
use Rattle.des_model.proofs.Pending.{waits_from}
use Rattle.des_model.proofs.Runs.{next-None, next-Some, none_from_late}
use Rattle.des_model.proofs.WindowCourse.{events_run_is, possible_run, since_fresh, sum_to, window_long, window_over, window_pending, window_some, window_state}
use Rattle.des_queue.specs.EventKey.{event_key}
use Rattle.des_queue.proofs.Inserting.{ordered_apart}
use Rattle.des_parts.specs.declared.part_run.Done.{Done}
use Rattle.des_parts.specs.declared.world.PartEvents.{PartEvents}
use Rattle.des_parts.specs.declared.world.World.{World}
use Rattle.des_parts.specs.Delivery.{CanDeliver, HasDelivered, HasOpened, IsAhead, OpensAt, horizon_of}
use Rattle.des_parts.specs.Exchanges.{AreDone, NameNodes, events_in, mails, with_all}
use Rattle.des_parts.specs.Worlds.{HasEvents, IsSplit, IsWorldOf, StandAfter, events_of}
use Rattle.des_parts.proofs.Exchanged.{events_at, events_sum, lists, long_all, mail_apart, mail_in, names_in, sealed_in, states_put}
use Rattle.des_parts.proofs.Clocks.{clock_ahead}
use Rattle.des_parts.proofs.Openings.{window_may_open}
use Rattle.des_parts.proofs.Standing.{pending_fits, pending_inside}
use Rattle.des_model.specs.Machine.{Machine}
use Rattle.des_machine.specs.Simulable.{IsSimulable}
use Rattle.des_window.specs.Openings.{opening_after}
use Rattle.des_window.specs.declared.opening.Opening.{Opening}

opening_same : (a b : Opening) → a.time ≡ b.time → a.horizon ≡ b.horizon → a ≡ b
opening_same a b t h = λ i. record { time = t i; horizon = h i }

-- parts that hold all pending events, once the next window is opened
module _ {State Body Piece : Type 0} {Sound : ℕ → State → Type 0} {Fit : Event Body → Type 0} {Room : State → Type 0} (m : Machine State Body Piece)
    (sim : IsSimulable m Sound Fit Room) (d : Division) (divides : Divides d m.nodes) (count : ℕ) (old now : List (PartEvents Body))
    (opening : Option Opening) (long : length old ≡ d.parts)
    (has : (p : ℕ) (e : PartEvents Body) → p < d.parts → HasEvents m d (history m count) p (get_or old p e).later)
    (opened : HasOpened m old now opening) where
  in_part : (x : Event Body) → Contains (pending m (history m count)) x → part_of d x.target < d.parts
  in_part = pending_inside m sim count d divides

  pub opened_long : length now ≡ d.parts
  opened_long = omega (arith, opened.cut.long, long)

  pub opened_events : (p : ℕ) (e : PartEvents Body) → p < d.parts → HasEvents m d (history m count) p (events_of (get_or now p e))
  opened_events p e l = subst (λ es. HasEvents m d (history m count) p es)
      (sym (opened.cut.cut p e (omega (arith, l, long)) (omega (arith, l, long))).all) (has p e l)

  pub opened_split : (o : Opening) (p : ℕ) (e : PartEvents Body) → opening ≡ Some o → p < d.parts → IsSplit o.horizon (get_or now p e)
  opened_split o p e is l =
      let cut = opened.cut.cut p e (omega (arith, l, long)) (omega (arith, l, long)) in
      subst (λ k. IsSplit (horizon_of k) (get_or now p e)) is (record { early = cut.early; late = cut.late })

  pub opened_is : (e : PartEvents Body) → opening ≡ opening_after m (history m count)
  opened_is e = go opening opened.opens
    where
      found : (x : Event Body) → Contains (pending m (history m count)) x → Contains (get_or old (part_of d x.target) e).later x
      found x c = ((has (part_of d x.target) e (in_part x c)).same x).1 (c, refl)

      go : (k : Option Opening) → OpensAt m old k → k ≡ opening_after m (history m count)
      go None late = sym (ap (λ o. option_map (λ (z : Event Body). record { time = z.key.time; horizon = horizon_from m z.key.time }) o)
          (none_from_late m (history m count) (λ x c. late (part_of d x.target) e x (omega (arith, in_part x c, long)) (found x c))))
      go (Some o) first = at (next m (history m count)) refl
        where
          there : (x : Event Body) × Contains (pending m (history m count)) x × (x.key.time ≡ o.time)
          there = let r = first.0.reached in let q = r.2 e in (q.0, (((has r.0 e (omega (arith, r.1, long))).same q.0).0 q.1).0, q.2)

          at : (z : Option (Event Body)) → next m (history m count) ≡ z → Some o ≡ option_map (λ (z : Event Body). record {
            time = z.key.time;
            horizon = horizon_from m z.key.time;
          }) z
          at None s = absurd (omega (arith, next-None m (history m count) s there.0 there.1, there.2, first.1))
          at (Some z) s =
              let n = next-Some m (history m count) z s in
              let low : o.time ≤ z.key.time = first.0.least (part_of d z.target) e z (omega (arith, in_part z n.waits, long)) (found z n.waits) in
              let high : z.key.time ≤ there.0.key.time = (n.first there.0 there.1).time in
              let same : o.time ≡ z.key.time = omega (arith, low, high, there.2) in
              ap (λ (k : Opening). Some k) (opening_same o (record { time = z.key.time; horizon = horizon_from m z.key.time }) same
              (first.2 ∙ ap (horizon_from m) same))

module _ {State Body Piece : Type 0} {Sound : ℕ → State → Type 0} {Fit : Event Body → Type 0} {Room : State → Type 0} {Known : Piece → Type 0}
    (m : Machine State Body Piece) (sim : IsSimulable m Sound Fit Room) (world : World State Body) (is : IsWorldOf m world) (horizon : ℕ)
    (dones : List (Done State Body Piece))
    (a : AreDone m Known world horizon dones) where
  w : IsWellFormed m Sound Fit
  w = sim.well_formed

  o : Opening
  o = record { time = a.time; horizon = horizon }

  pub may : MayOpen m (history m world.count) a.time horizon
  may = window_may_open m sim world is (record { time = a.time; horizon = horizon }) a.opening

  abbrev pub ran : ℕ → List (Event Body)
  ran q = lists m Known sim world is horizon a.time may (events_at dones) q

  along : (j : ℕ) → j < length dones → events_at dones j ≡ events_at dones (0 + j)
  along j l = ap (events_at dones) (omega arith)

  pub sealed : (q : ℕ) → q < world.division.parts → IsSealedRun m world.division (history m world.count) horizon q (ran q)
      × (length (ran q) ≡ events_at dones q)
  sealed q l = sealed_in m Known sim world is horizon a.time may (events_at dones) 0 dones a.each along q (omega arith) (omega (arith, l, a.long))

  pub total_is : events_run ran world.division.parts ≡ events_in dones
  total_is = events_run_is ran (events_at dones) world.division.parts (λ q l. (sealed q l).1) ∙ ap (sum_to (events_at dones)) (sym a.long)
      ∙ sym (events_sum dones)

  pub exchange_names : NameNodes (length world.states.items) dones
  exchange_names = subst (λ k. NameNodes k dones) (sym is.states_are.nodes_are)
      (names_in m Known sim world is horizon a.time may (events_at dones) 0 dones a.each)

  pub exchange_over : m.max_events < world.count + events_in dones → IsOverLimit m
  exchange_over many = window_over m w world.division is.divides world.count a.time horizon may ran (λ q l. (sealed q l).0.runs)
      world.division.parts (omega arith) is.long (omega (arith, many, total_is))

  -- some event was run
  pub exchange_some : 0 < events_in dones
  exchange_some = omega (arith, total_is, window_some m w world.division is.divides world.count a.time horizon may is.long ran (λ q l. (sealed q l).0))

  mail_made : (x : Event Body) → Contains (mails dones) x → (q : ℕ) × (q < world.division.parts)
      × Contains (made_since m (history m world.count) (ran q)) x × (horizon ≤ x.key.time)
  mail_made x c = let f = (mail_in m Known sim world is horizon a.time may (events_at dones) 0 dones a.each along x).0 c
      in (f.0, omega (arith, f.2, a.long), f.3, f.4)

  pub exchange_targets : All (λ (x : Event Body). x.target < length world.division.of_node) (mails dones)
  exchange_targets = All_from (λ (x : Event Body). x.target < length world.division.of_node) (mails dones) (λ x c.
      let f = mail_made x c in
      let known = known_from_since m (history m world.count) (ran f.0) x f.2 in
      let fit : Fit x = All_at Fit _ x (meets m w (ran f.0 ++ history m world.count)
      (possible_run m w world.division is.divides world.count a.time horizon may f.0 (ran f.0) (sealed f.0 f.1).0.runs)).fit known in
      omega (arith, sim.well_formed.in_range x fit, is.divides.whole))

  pub exchange_delivers : CanDeliver world.parts.items (mails dones)
  exchange_delivers p e l =
      let inside : p < world.division.parts = omega (arith, l, is.parts_are) in
      let later_ordered = ordered_back event_key (get_or world.parts.items p e).due.items (get_or world.parts.items p e).later
      (is.events_are p e inside).ordered in (
        later_ordered,
        AllPairs_append (λ (x y : Event Body). x.key ≢ y.key) (get_or world.parts.items p e).later (mails dones)
            (ordered_apart (get_or world.parts.items p e).later later_ordered)
            (mail_apart m Known sim world is horizon a.time may (events_at dones) 0 dones a.each along (λ q b c. (sealed q (omega (arith, c, a.long))).0.runs))
            (λ x y c k s.
            let f = mail_made y k in
            let waits = ((is.events_are p e inside).same x).0 (contains_right (get_or world.parts.items p e).due.items
            (get_or world.parts.items p e).later x c) in
            since_fresh m w world.division is.divides world.count a.time horizon may (ran f.0)
            (possible_run m w world.division is.divides world.count a.time horizon may f.0 (ran f.0) (sealed f.0 f.1).0.runs)
            x y (waits_from m (history m world.count) x waits.0).known f.2 s),
      )

  module _ (mid : List (PartEvents Body)) (got : HasDelivered world.division world.parts.items mid (mails dones) []) where
    pub mid_long : length mid ≡ world.division.parts
    mid_long = omega (arith, got.long, is.parts_are)

    same_count : history m (world.count + events_in dones) ≡ history m (world.count + events_run ran world.division.parts)
    same_count = ap (λ k. history m (world.count + k)) (sym total_is)

    pending_is : (x : Event Body) → Contains (pending m (history m (world.count + events_in dones))) x
        ↔ ((Contains (pending m (history m world.count)) x
        ⊎ ((p : ℕ) × (p < world.division.parts) × Contains (made_since m (history m world.count) (ran p)) x)) × (horizon ≤ x.key.time))
    pending_is x = subst (λ h. Contains (pending m h) x ↔ ((Contains (pending m (history m world.count)) x
        ⊎ ((p : ℕ) × (p < world.division.parts) × Contains (made_since m (history m world.count) (ran p)) x)) × (horizon ≤ x.key.time)))
        (sym same_count) (window_pending m w world.division is.divides world.count a.time horizon may is.long ran (λ q l. (sealed q l).0) x)

    pub mid_has : (p : ℕ) (e : PartEvents Body) → p < world.division.parts → HasEvents m world.division
        (history m (world.count + events_in dones)) p (get_or mid p e).later
    mid_has p e l = record { same = λ x. (there x, back x); ordered = (got.each p e (omega (arith, l, is.parts_are))).ordered }
      where
        part : PartEvents Body
        part = get_or world.parts.items p e

        there : (x : Event Body) → Contains (get_or mid p e).later x → Contains
            (pending m (history m (world.count + events_in dones))) x × (part_of world.division x.target ≡ p)
        there x c = ⊎_elim
            (λ k. let f = ((is.events_are p e l).same x).0 (contains_right (get_or world.parts.items p e).due.items (get_or world.parts.items p e).later x k) in
            let late : horizon ≤ x.key.time = all_in (λ (y : Event Body). horizon ≤ y.key.time) (get_or world.parts.items p e).later
            (is.split (record { time = a.time; horizon = horizon }) p e a.opening l).late x (IsIn-from_Contains (get_or world.parts.items p e).later x k) in
            ((pending_is x).1 (inl f.0, late), f.1))
            (λ k. let f = mail_made x k.0 in ((pending_is x).1 (inr (f.0, f.1, f.2), f.3), k.1))
            (((got.each p e (omega (arith, l, is.parts_are))).same x).0 c)

        back : (x : Event Body) → Contains (pending m (history m (world.count + events_in dones))) x
            × (part_of world.division x.target ≡ p) → Contains (get_or mid p e).later x
        back x c =
            let f = (pending_is x).0 c.0 in
            ((got.each p e (omega (arith, l, is.parts_are))).same x).1 (⊎_elim
            (λ k. ⊎_elim
            (λ due. let early : x.key.time < horizon = all_in (λ (y : Event Body). y.key.time < horizon) (get_or world.parts.items p e).due.items
            (is.split (record { time = a.time; horizon = horizon }) p e a.opening l).early x
            (IsIn-from_Contains (get_or world.parts.items p e).due.items x due) in
            absurd (omega (arith, early, f.1)))
            (λ later. inl later)
            (contains_append (get_or world.parts.items p e).due.items (get_or world.parts.items p e).later x (((is.events_are p e l).same x).1 (k, c.1))))
            (λ k. inr (
              (mail_in m Known sim world is horizon a.time may (events_at dones) 0 dones a.each along x).1
                  (k.0, omega arith, omega (arith, k.1, a.long), k.2, f.1),
              c.1,
            ))
            f.0)

    -- the clock has the audits that the next window needs
    pub mid_ahead : (clock : List ℕ) → clock ≡ open_audits m (history m (world.count + events_in dones)) → IsAhead m clock mid
    mid_ahead clock is_open = clock_ahead m sim world.division is.divides (world.count + events_in dones) mid mid_long mid_has clock is_open

    pub world_next : (e : PartEvents Body) (after : World State Body) → after.count ≡ world.count + events_in dones
        → events_in dones ≤ m.max_events - world.count
        → after.division ≡ world.division → after.clock ≡ open_audits m (history m (world.count + events_in dones))
        → after.states.items ≡ with_all dones world.states.items → HasOpened m mid after.parts.items after.opening → IsWorldOf m after
    world_next e after count_is room division_is clock_is states_are opened = record {
      divides = subst (λ d. Divides d m.nodes) (sym division_is) is.divides;
      within = omega (arith, count_is, room, is.within);
      long = ap (λ k. length (history m k)) (count_is ∙ ap (λ k. world.count + k) (sym total_is))
          ∙ window_long m w world.division is.divides world.count a.time horizon may is.long ran (λ q l. (sealed q l).0)
          ∙ ap (λ k. world.count + k) total_is ∙ sym count_is;
      states_are = record {
        nodes_are = ap length states_are ∙ long_all dones world.states.items ∙ is.states_are.nodes_are;
        state_at = λ i s l. ap (λ z. get_or z i s) states_are
            ∙ states_put m Known sim world is horizon a.time may (events_at dones) dones a.each (λ j k. refl) a.long i s l
            (node_in_range m w world.division is.divides i l)
            ∙ window_state m w world.division is.divides world.count a.time horizon may is.long ran (λ q l. (sealed q l).0) i l
            ∙ ap (λ k. state m (history m k) i) (ap (λ k. world.count + k) total_is ∙ sym count_is);
      };
      clock_is = clock_is ∙ ap (λ k. open_audits m (history m k)) (sym count_is);
      parts_are = opened_long m sim world.division is.divides (world.count + events_in dones) mid after.parts.items after.opening mid_long mid_has
          opened ∙ ap (λ (d : Division). d.parts) (sym division_is);
      events_are = λ p d l. subst (λ z. HasEvents m z (history m after.count) p (events_of (get_or after.parts.items p d))) (sym division_is)
          (subst (λ k. HasEvents m world.division (history m k) p (events_of (get_or after.parts.items p d))) (sym count_is)
          (opened_events m sim world.division is.divides (world.count + events_in dones) mid after.parts.items after.opening mid_long mid_has
          opened p d (subst (λ z. p < z.parts) division_is l)));
      opening_is = opened_is m sim world.division is.divides (world.count + events_in dones) mid after.parts.items after.opening mid_long mid_has
          opened e ∙ ap (λ k. opening_after m (history m k)) (sym count_is);
      split = λ k p d s l. opened_split m sim world.division is.divides (world.count + events_in dones) mid after.parts.items after.opening
          mid_long mid_has opened k p d s (subst (λ z. p < z.parts) division_is l);
    }

-- the world that events leave, once the pending ones are delivered into parts that had none
module _ {State Body Piece : Type 0} {Sound : ℕ → State → Type 0} {Fit : Event Body → Type 0} {Room : State → Type 0} (m : Machine State Body Piece)
    (sim : IsSimulable m Sound Fit Room) (d : Division) (divides : Divides d m.nodes) (count : ℕ) (states : List State)
    (clock : List ℕ) (events : List (Event Body)) (stand : StandAfter m count states clock events) (first : List (PartEvents Body))
    (long : length first ≡ d.parts)
    (none : AllByRecursion (λ (e : PartEvents Body). e.later ≡ []) first) where
  none_at : (xs : List (PartEvents Body)) (p : ℕ) (e : PartEvents Body) → AllByRecursion (λ (e : PartEvents Body). e.later ≡ []) xs → p < length xs
      → (get_or xs p e).later ≡ []
  none_at [] p e all l = absurd (omega (arith, l))
  none_at (x ∷ xs) zero e all l = all.0
  none_at (x ∷ xs) (suc p) e all l = none_at xs p e all.1 (omega (arith, l))

  pub events_deliver : CanDeliver first events
  events_deliver p e l = (
    subst (λ es. InKeyOrder event_key es) (sym (none_at first p e none l)) tt,
    subst (λ es. AllPairs (λ (a b : Event Body). a.key ≢ b.key) (es ++ events)) (sym (none_at first p e none l)) stand.apart,
  )

  pub events_targets : All (λ (x : Event Body). x.target < length d.of_node) events
  events_targets = All_from (λ (x : Event Body). x.target < length d.of_node) events
      (λ x c. let fit : Fit x = pending_fits m sim count x ((stand.same x).0 c) in omega (arith, sim.well_formed.in_range x fit, divides.whole))

  module _ (mid : List (PartEvents Body)) (got : HasDelivered d first mid events []) where
    divided_long : length mid ≡ d.parts
    divided_long = omega (arith, got.long, long)

    divided_has : (p : ℕ) (e : PartEvents Body) → p < d.parts → HasEvents m d (history m count) p (get_or mid p e).later
    divided_has p e l = record {
      same = λ x. (
        λ c. ⊎_elim (λ k. absurd (contains_none x (subst (λ es. Contains es x) (none_at first p e none (omega (arith, l, long))) k)))
            (λ k. ((stand.same x).0 k.0, k.1)) (((got.each p e (omega (arith, l, long))).same x).0 c),
        λ c. ((got.each p e (omega (arith, l, long))).same x).1 (inr ((stand.same x).1 c.0, c.1)),
      );
      ordered = (got.each p e (omega (arith, l, long))).ordered;
    }

    -- the clock has the audits that the next window needs
    pub divided_ahead : IsAhead m clock mid
    divided_ahead = clock_ahead m sim d divides count mid divided_long divided_has clock stand.clock_is

    pub world_divided : (e : PartEvents Body) (after : World State Body) → after.count ≡ count → after.states.items ≡ states → after.division ≡ d
        → after.clock ≡ clock → HasOpened m mid after.parts.items after.opening → IsWorldOf m after
    world_divided e after count_is states_is division_is clock_is opened = record {
      divides = subst (λ z. Divides z m.nodes) (sym division_is) divides;
      within = omega (arith, count_is, stand.within);
      long = ap (λ k. length (history m k)) count_is ∙ stand.long ∙ sym count_is;
      states_are = subst (λ k. AreStatesAfter m (history m k) after.states.items) (sym count_is)
          (subst (AreStatesAfter m (history m count)) (sym states_is) stand.states_are);
      clock_is = clock_is ∙ stand.clock_is ∙ ap (λ k. open_audits m (history m k)) (sym count_is);
      parts_are = opened_long m sim d divides count mid after.parts.items after.opening divided_long divided_has opened
          ∙ ap (λ (z : Division). z.parts) (sym division_is);
      events_are = λ p z l. subst (λ y. HasEvents m y (history m after.count) p (events_of (get_or after.parts.items p z))) (sym division_is)
          (subst (λ k. HasEvents m d (history m k) p (events_of (get_or after.parts.items p z))) (sym count_is)
          (opened_events m sim d divides count mid after.parts.items after.opening divided_long divided_has opened p z
          (subst (λ y. p < y.parts) division_is l)));
      opening_is = opened_is m sim d divides count mid after.parts.items after.opening divided_long divided_has opened e
          ∙ ap (λ k. opening_after m (history m k)) (sym count_is);
      split = λ k p z s l. opened_split m sim d divides count mid after.parts.items after.opening divided_long divided_has opened k p z s
          (subst (λ y. p < y.parts) division_is l);
    }
