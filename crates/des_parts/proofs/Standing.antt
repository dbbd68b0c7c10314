-- What the first events of a run leave: at its start, and in a world.
use Rattle.std.proofs.Common.{◌≡◌, ◌≢◌, ℕ, suc, ◌+◌, ◌<◌, ◌≤◌, List, [], ◌∷◌, length, get_or, refl, ap, sym, ◌∙◌, subst, ⊎_elim, ◌↔◌, arith}
use Rattle.std.proofs.lemmas.Bool.{cases_eq}
use Rattle.des_machine.proofs.Ends.{audits_at_start}
use Rattle.des_model.specs.Worlds.{AreStatesAfter}
use Rattle.std.proofs.lemmas.List.Sorted.{Contains-permutation, IsPermutation-sym}
use Rattle.std.specs.List.{AllPairs, Contains, flat_map}
use Rattle.std.specs.List.Sorted.{IsPermutation}
use Rattle.des_event.specs.declared.event.Event.{Event}
use Rattle.des_event.proofs.Members.{All_at, AllPairs_append, AllPairs_none, contains_append, contains_left, contains_none, contains_right}
use Rattle.des_model.specs.Histories.{IsPossible, all_events, history, pending}
use Rattle.des_model.specs.WellFormed.{IsWellFormed}
use Rattle.des_model.specs.Windows.{Division, Divides, part_of}
use Rattle.des_model.proofs.Commuting.{node_in_range}
use Rattle.des_model.proofs.Distinct.{meets, one_event}
use Rattle.des_model.proofs.Pending.{waits_from}
use Rattle.des_model.proofs.Rest.{pending_is_rest}
use Rattle.des_model.proofs.Runs.{history_is_legal, possible_from_legal}
use Rattle.des_queue.proofs.Inserting.{ordered_apart}
use Rattle.des_queue.proofs.Shuffled.{apart_shuffled}
use Rattle.des_parts.specs.declared.world.PartEvents.{PartEvents}
use Rattle.des_parts.specs.declared.world.World.{World}
use Rattle.des_parts.specs.Worlds.{HasEvents, IsWorldOf, StandAfter, events_of}
use Rattle.des_model.specs.Machine.{Machine}
use Rattle.des_machine.specs.Simulable.{IsSimulable}

module _ {State Body Piece : Type 0} {Sound : ℕ → State → Type 0} {Fit : Event Body → Type 0} {Room : State → Type 0} where
  module _ (m : Machine State Body Piece) (sim : IsSimulable m Sound Fit Room) (count : ℕ) where
    abbrev past : List (Event Body)
    past = history m count

    wf : IsWellFormed m Sound Fit
    wf = sim.well_formed

    possible : IsPossible m past
    possible = possible_from_legal m past (history_is_legal m count)

    pub pending_fits : (x : Event Body) → Contains (pending m past) x → Fit x
    pending_fits x c = All_at Fit (all_events m past) x (meets m wf past possible).fit (waits_from m past x c).known

    pub pending_inside : (d : Division) → Divides d m.nodes → (x : Event Body) → Contains (pending m past) x → part_of d x.target < d.parts
    pending_inside d divides x c = node_in_range m wf d divides x.target (wf.in_range x (pending_fits x c))

    one_pending : (x y : Event Body) → Contains (pending m past) x → Contains (pending m past) y → x.key ≡ y.key → x ≡ y
    one_pending x y c k s = one_event m wf past possible x y (waits_from m past x c).known (waits_from m past y k).known s

    -- the events of the parts from k on
    module _ (d : Division) where
      abbrev HaveFrom : ℕ → List (PartEvents Body) → Type 0
      HaveFrom k parts = (j : ℕ) (e : PartEvents Body) → j < length parts → HasEvents m d past (k + j) (events_of (get_or parts j e))

      first_has : (k : ℕ) (e : PartEvents Body) (parts : List (PartEvents Body)) → HaveFrom k (e ∷ parts) → HasEvents m d past k (events_of e)
      first_has k e parts has = subst (λ n. HasEvents m d past n (events_of e)) (omega arith) (has 0 e (omega arith))

      others_have : (k : ℕ) (e : PartEvents Body) (parts : List (PartEvents Body)) → HaveFrom k (e ∷ parts) → HaveFrom (suc k) parts
      others_have k e parts has j f l = subst (λ n. HasEvents m d past n (events_of (get_or parts j f))) (omega arith) (has (suc j) f (omega (arith, l)))

      pub all_pending : (k : ℕ) (parts : List (PartEvents Body)) → HaveFrom k parts → (x : Event Body) → Contains (flat_map events_of parts) x
          ↔ (Contains (pending m past) x × (k ≤ part_of d x.target) × (part_of d x.target < k + length parts))
      all_pending k [] has x = (λ c. absurd (contains_none x c), λ c. absurd (omega (arith, c.1, c.2)))
      all_pending k (e ∷ parts) has x = (
        λ c. ⊎_elim
            (λ mm. let f = ((first_has k e parts has).same x).0 mm in (f.0, omega (arith, f.1), omega (arith, f.1)))
            (λ mm. let f = (all_pending (suc k) parts (others_have k e parts has) x).0 mm in (f.0, omega (arith, f.1), omega (arith, f.2)))
            (contains_append (events_of e) (flat_map events_of parts) x c),
        λ c. ⊎_elim
            (λ s. contains_left (events_of e) (flat_map events_of parts) x (((first_has k e parts has).same x).1 (c.0, s)))
            (λ ne. let differ : part_of d x.target ≢ k = ne in contains_right (events_of e) (flat_map events_of parts) x
            ((all_pending (suc k) parts (others_have k e parts has) x).1 (c.0, omega (arith, c.1, differ), omega (arith, c.2))))
            (cases_eq (part_of d x.target) k),
      )

      pub all_apart : (k : ℕ) (parts : List (PartEvents Body)) → HaveFrom k parts → AllPairs (λ (a b : Event Body). a.key ≢ b.key) (flat_map events_of parts)
      all_apart k [] has = AllPairs_none (λ (a b : Event Body). a.key ≢ b.key)
      all_apart k (e ∷ parts) has = AllPairs_append (λ (a b : Event Body). a.key ≢ b.key) (events_of e) (flat_map events_of parts)
          (ordered_apart (events_of e) (first_has k e parts has).ordered) (all_apart (suc k) parts (others_have k e parts has))
          (λ x y c mm s.
          let f = ((first_has k e parts has).same x).0 c in
          let g = (all_pending (suc k) parts (others_have k e parts has) y).0 mm in
          omega (arith, f.1, g.1, ap (λ (z : Event Body). part_of d z.target) (one_pending x y f.0 g.0 s)))

  -- the start of a run
  pub start_stands : (m : Machine State Body Piece) → IsSimulable m Sound Fit Room → (states : List State) (clock : List ℕ) (events : List (Event Body))
      → AreStatesAfter m [] states → clock ≡ m.audit_times → events ≡ m.start_events → StandAfter m 0 states clock events
  start_stands m sim states clock events states_are clock_is events_are = record {
    within = omega arith;
    long = refl;
    states_are = states_are;
    clock_is = clock_is ∙ sym (audits_at_start m);
    same = λ x.
        let rest = pending_is_rest m sim.well_formed [] tt x in
        subst (λ (es : List (Event Body)). Contains es x ↔ Contains (pending m []) x) (sym events_are)
        (λ c. rest.1 (c, contains_none x), λ c. (rest.0 c).0);
    apart = subst (λ (es : List (Event Body)). AllPairs (λ (a b : Event Body). a.key ≢ b.key) es) (sym events_are) sim.well_formed.starts_apart;
  }

  pub world_stands : (m : Machine State Body Piece) → IsSimulable m Sound Fit Room → (world : World State Body) → IsWorldOf m world
      → StandAfter m world.count world.states.items world.clock (flat_map events_of world.parts.items)
  world_stands m sim world is = record {
    within = is.within;
    long = is.long;
    states_are = is.states_are;
    clock_is = is.clock_is;
    same = λ x.
        let f = all_pending m sim world.count world.division 0 world.parts.items has x in (
          λ c. (f.0 c).0,
          λ c. f.1 (c, omega arith, omega (arith, pending_inside m sim world.count world.division is.divides x c, is.parts_are)),
        );
    apart = all_apart m sim world.count world.division 0 world.parts.items has;
  }
    where
      has : (j : ℕ) (e : PartEvents Body) → j < length world.parts.items
          → HasEvents m world.division (history m world.count) (0 + j) (events_of (get_or world.parts.items j e))
      has j e l = subst (λ n. HasEvents m world.division (history m world.count) n (events_of (get_or world.parts.items j e))) (omega arith)
          (is.events_are j e (omega (arith, l, is.parts_are)))

module _ {State Body Piece : Type 0} where
  -- in another order the pending events are the same
  pub stand_sorted : (m : Machine State Body Piece) (count : ℕ) (states : List State) (clock : List ℕ) (events sorted : List (Event Body))
      → IsPermutation events sorted
      → StandAfter m count states clock events → StandAfter m count states clock sorted
  stand_sorted m count states clock events sorted moved stand = record {
    within = stand.within;
    long = stand.long;
    states_are = stand.states_are;
    clock_is = stand.clock_is;
    same = λ x. (
      λ c. (stand.same x).0 (Contains-permutation sorted events x (IsPermutation-sym events sorted moved) c),
      λ c. Contains-permutation events sorted x moved ((stand.same x).1 c),
    );
    apart = apart_shuffled [] events sorted moved stand.apart;
  }
