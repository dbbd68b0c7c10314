-- What a window adds to the trace.
use Rattle.std.proofs.Common.{◌≡◌, ◌≢◌, ℕ, suc, ◌+◌, ◌<◌, ◌≤◌, List, [], ◌∷◌, ◌++◌, Vec, length, map, reverse, refl, ap, sym, ◌∙◌, subst, inl, inr, ◌⊎◌, ⊎_elim, ◌↔◌, arith}
use Rattle.std.proofs.lemmas.Bool.{cases_eq}
use Rattle.std.proofs.lemmas.List.{map-append}
use Rattle.std.specs.Global.{Global}
use mathlib.Core.List.{reverse-cons}
use Rattle.std.specs.List.{All, AllByRecursion, AllPairs, Contains, filter}
use Rattle.std.specs.Prelude.{nat_le, nat_lt}
use Rattle.des_event.specs.declared.event.Event.{Event}
use Rattle.des_event.specs.KeyOrder.{InKeyOrder}
use Rattle.des_event.proofs.Members.{AllPairs_append, AllPairs_none, AllPairs_cons, contains_append, contains_here, contains_there, contains_left, contains_none, contains_right}
use Rattle.des_model.specs.Histories.{effect_after, history, open_audits, output, state}
use Rattle.des_model.specs.Laws.{Commutes}
use Rattle.des_model.proofs.Distinct.{one_event}
use Rattle.des_model.proofs.Parts.{part_run_in, restrict_contains}
use Rattle.des_model.proofs.Runs.{legal_known, possible_from_legal}
use Rattle.des_event.specs.Keys.{IsBefore}
use Rattle.des_event.proofs.KeyLists.{IsIn, all_in, IsIn-from_Contains}
use Rattle.des_event.proofs.Order.{before_not_same}
use Rattle.des_model.specs.Schedules.{horizon_from}
use Rattle.des_model.specs.Windows.{part_of, pieces_since}
use Rattle.des_model.proofs.Audits.{open_see}
use Rattle.des_model.proofs.Horizons.{no_audit_inside}
use Rattle.des_model.proofs.WindowCourse.{blocks_merge, in_reverse, part_in_order, window_commutes, window_open, window_output}
use Rattle.des_parts.specs.declared.part_run.Done.{Done}
use Rattle.des_parts.specs.declared.world.World.{World}
use Rattle.des_parts.specs.Exchanges.{AreDone, AreDoneFrom, entry_lists, events_in}
use Rattle.des_parts.specs.PartRuns.{IsDone}
use Rattle.des_parts.specs.Worlds.{IsWorldOf}
use Rattle.des_parts.proofs.Exchanged.{done_list, events_at}
use Rattle.des_parts.proofs.NextWorld.{may, ran, sealed, total_is}
use Rattle.des_model.specs.Machine.{Machine}
use Rattle.des_machine.specs.Simulable.{IsSimulable}
use Rattle.des_parts.specs.declared.entries.Entry.{Entry}
use Rattle.des_parts.specs.Entries.{pieces_of, all_entries, IsMerged, HaveOwnKeys, entry_key, entry_of}
use Rattle.des_window.proofs.Openings.{OpensWith, opens_with}

map_push : {A B : Type 0} (f : A → B) (xs : List A) → map f (reverse xs) ≡ reverse (map f xs)
map_push f [] = refl
map_push f (x ∷ xs) = ap (map f) (reverse-cons x xs) ∙ map-append f (reverse xs) (x ∷ []) ∙ ap (λ l. l ++ f x ∷ []) (map_push f xs)
    ∙ sym (reverse-cons (f x) (map f xs))

module _ {State Body Piece : Type 0} where
  module _ (m : Machine State Body Piece) (h : List (Event Body)) where
    again : (g : List (Event Body)) → pieces_of (map (entry_of) (pieces_since m h g)) ≡ map (λ b. b.1) (pieces_since m h g)
    again [] = refl
    again (e ∷ g) = ap (λ l. (effect_after m (g ++ h) e).piece ∷ l) (again g)

    pub pieces_again : (g : List (Event Body)) → pieces_of (reverse (map (entry_of) (pieces_since m h g)))
        ≡ reverse (map (λ b. b.1) (pieces_since m h g))
    pieces_again g = map_push (λ (x : Entry Piece). x.piece) (map (entry_of) (pieces_since m h g)) ∙ ap reverse (again g)

  in_list : (m : Machine State Body Piece) (h g : List (Event Body)) (b : Entry Piece) → IsIn b (map (entry_of) (pieces_since m h g))
      → (e : Event Body) × Contains g e × (b.key ≡ e.key) × (b.target ≡ e.target)
  in_list m h [] b c = absurd c
  in_list m h (e ∷ g) b (inl s) = (e, contains_here e g, ap (λ (z : Entry Piece). z.key) s, ap (λ (z : Entry Piece). z.target) s)
  in_list m h (e ∷ g) b (inr r) = let q = in_list m h g b r in (q.0, contains_there q.0 e g q.1, q.2, q.3)

module _ {Piece : Type 0} where
  ordered_entries_apart : (bs : List (Entry Piece)) → InKeyOrder entry_key bs → AllPairs (λ (x y : Entry Piece). x.key ≢ y.key) bs
  ordered_entries_apart [] o = AllPairs_none (λ (x y : Entry Piece). x.key ≢ y.key)
  ordered_entries_apart (b ∷ bs) o = AllPairs_cons (λ (x y : Entry Piece). x.key ≢ y.key) b bs
      (λ x c. before_not_same b.key x.key (all_in (λ (y : Entry Piece). IsBefore b.key y.key) bs o.0 x (IsIn-from_Contains bs x c)))
      (ordered_entries_apart bs o.1)

module _ {State Body Piece : Type 0} {Sound : ℕ → State → Type 0} {Fit : Event Body → Type 0} {Room : State → Type 0} {Known : Piece → Type 0}
    (m : Machine State Body Piece) (sim : IsSimulable m Sound Fit Room) (world : World State Body) (is : IsWorldOf m world) (horizon : ℕ)
    (dones : List (Done State Body Piece))
    (a : AreDone m Known world horizon dones) where
  abbrev past : List (Event Body)
  past = history m world.count

  abbrev runs : ℕ → List (Event Body)
  runs q = ran m sim world is horizon dones a q

  -- the entries of the parts from k on
  EntriesAre : ℕ → List (Done State Body Piece) → Entry Piece → Type 0
  EntriesAre k xs b = Contains (all_entries (entry_lists xs)) b ↔ ((q : ℕ) × (k ≤ q) × (q < k + length xs)
      × Contains (reverse (map (entry_of) (pieces_since m past (runs q)))) b)

  of_part : (k : ℕ) (d : Done State Body Piece) → IsDone m Known world horizon k d → d.events ≡ events_at dones k
      → d.entries.items ≡ reverse (map (entry_of) (pieces_since m past (runs k)))
  of_part k d each e = each.entries_are
      ∙ ap (λ l. reverse (map (entry_of) (pieces_since m past l)))
      (done_list m Known sim world is horizon a.time (may m sim world is horizon dones a) (events_at dones) k d each e)

  entries_cons : (k : ℕ) (d : Done State Body Piece) (xs : List (Done State Body Piece)) → IsDone m Known world horizon k d
      → d.events ≡ events_at dones k → (b : Entry Piece)
      → EntriesAre (suc k) xs b → EntriesAre k (d ∷ xs) b
  unfolding EntriesAre
  entries_cons k d xs each e b rest = (
    λ c. ⊎_elim
        (λ mm. (k, omega arith, omega arith, subst (λ l. Contains l b) (of_part k d each e) mm))
        (λ mm. let f = rest.0 mm in (f.0, omega (arith, f.1), omega (arith, f.2), f.3))
        (contains_append d.entries.items (all_entries (entry_lists xs)) b c),
    λ f. ⊎_elim
        (λ same. contains_left d.entries.items (all_entries (entry_lists xs)) b
        (subst (λ l. Contains l b) (sym (of_part k d each e)) (subst
        (λ z. Contains (reverse (map (entry_of) (pieces_since m past (runs z)))) b) same f.3)))
        (λ ne. let differ : f.0 ≢ k = ne in contains_right d.entries.items (all_entries (entry_lists xs)) b
        (rest.1 (f.0, omega (arith, f.1), omega (arith, f.2), f.3)))
        (cases_eq f.0 k),
  )

  entries_in : (k : ℕ) (xs : List (Done State Body Piece)) → AreDoneFrom m Known world horizon k xs
      → ((j : ℕ) → j < length xs → events_at xs j ≡ events_at dones (k + j))
      → (b : Entry Piece) → EntriesAre k xs b
  unfolding EntriesAre
  entries_in k [] each along b = (λ c. absurd (contains_none b c), λ q. absurd (omega (arith, q.1, q.2)))
  entries_in k (d ∷ xs) each along b = entries_cons k d xs each.0 (along 0 (omega arith) ∙ ap (events_at dones) (omega arith)) b
      (entries_in (suc k) xs each.1 (λ j l. along (suc j) (omega (arith, l)) ∙ ap (events_at dones) (omega arith)) b)

  -- what the window adds: the audits that are due at its first time, and its entries
  pub window_adds : (bs : List (Entry Piece)) → IsMerged (entry_lists dones) bs
      → output m (history m (world.count + events_in dones)) ≡ output m past
      ++ (map (λ t. m.audit t (state m past)) (filter (λ t. nat_le t a.time) (open_audits m past)) ++ pieces_of bs)
  unfolding EntriesAre
  window_adds bs merged =
      ap (λ k. output m (history m (world.count + k))) (sym (total_is m sim world is horizon dones a))
      ∙ window_output m sim.well_formed world.division is.divides world.count a.time horizon (may m sim world is horizon dones a)
      is.long runs (λ q l. (sealed m sim world is horizon dones a q l).0) clear
      ∙ ap (λ l. output m past ++ (l ++ reverse (map (λ b. b.1) (pieces_since m past taken))))
      (open_see m (λ t. nat_le t a.time) past)
      ∙ ap (λ l. output m past ++ (map (λ t. m.audit t (state m past))
      (filter (λ t. nat_le t a.time) (open_audits m past)) ++ l)) (sym (ap pieces_of all_is ∙ pieces_again m past taken))
    where
      taken : List (Event Body)
      taken = (window_commutes m sim.well_formed world.division is.divides world.count a.time horizon
          (may m sim world is horizon dones a) is.long runs (λ q l. (sealed m sim world is horizon dones a q l).0)).taken

      with_event : OpensWith m past (record { time = a.time; horizon = horizon })
      with_event = opens_with m past (record { time = a.time; horizon = horizon }) (sym is.opening_is ∙ a.opening)

      clear : All (λ t. (t ≤ a.time) ⊎ (horizon ≤ t)) m.audit_times
      clear = subst (λ k. All (λ t. (t ≤ a.time) ⊎ (k ≤ t)) m.audit_times) (sym with_event.horizon_is)
          (subst (λ s. All (λ t. (t ≤ s) ⊎ (horizon_from m with_event.event.key.time ≤ t)) m.audit_times) (sym with_event.time_is)
          (no_audit_inside m sim.well_formed with_event.event.key.time))

      all_is : bs ≡ reverse (map (entry_of) (pieces_since m past taken))
      all_is = blocks_merge m sim.well_formed world.division is.divides world.count a.time horizon
          (may m sim world is horizon dones a) is.long runs (λ q l. (sealed m sim world is horizon dones a q l).0)
          (entry_of) entry_key (λ g e. refl) bs merged.ordered
          (λ b. let f = entries_in 0 dones a.each (λ j l. ap (events_at dones) (omega arith)) b in (
            λ c. let q = f.0 ((merged.same b).0 c) in (q.0, omega (arith, q.2, a.long), q.3),
            λ q. (merged.same b).1 (f.1 (q.0, omega arith, omega (arith, q.1, a.long), q.2)),
          ))

  -- the lists may be merged
  of_runs : (xs : List (Done State Body Piece)) (k : ℕ) → AreDoneFrom m Known world horizon k xs
      → ((j : ℕ) → j < length xs → events_at xs j ≡ events_at dones (k + j))
      → k + length xs ≤ world.division.parts
      → AllByRecursion (λ (entries : Vec (Entry Piece) Global). InKeyOrder entry_key entries.items) (entry_lists xs)
  of_runs [] k each along l = tt
  of_runs (d ∷ xs) k each along l = (
    subst (λ bs. InKeyOrder entry_key bs) (sym (of_part k d each.0 (along 0 (omega arith) ∙ ap (events_at dones) (omega arith))))
        (part_in_order m sim.well_formed world.division is.divides world.count a.time horizon
        (may m sim world is horizon dones a) is.long runs (λ q l. (sealed m sim world is horizon dones a q l).0)
        (entry_of) entry_key (λ g e. refl) k (omega (arith, l))),
    of_runs xs (suc k) each.1 (λ j i. along (suc j) (omega (arith, i)) ∙ ap (events_at dones) (omega arith)) (omega (arith, l)),
  )

  -- the event of an entry, of which there is one
  entry_event : (q : ℕ) → q < world.division.parts → (b : Entry Piece) → Contains (reverse (map (entry_of) (pieces_since m past (runs q)))) b
      → (e : Event Body) × Contains (runs q) e × (b.key ≡ e.key) × (b.target ≡ e.target)
  entry_event q l b c = in_list m past (runs q) b (in_reverse (map (entry_of) (pieces_since m past (runs q))) b
      (IsIn-from_Contains (reverse (map (entry_of) (pieces_since m past (runs q)))) b c))

  commuted : Commutes m world.division past horizon runs
  commuted = window_commutes m sim.well_formed world.division is.divides world.count a.time horizon
      (may m sim world is horizon dones a) is.long runs (λ q l. (sealed m sim world is horizon dones a q l).0)

  entries_apart : (xs : List (Done State Body Piece)) (k : ℕ) → AreDoneFrom m Known world horizon k xs
      → ((j : ℕ) → j < length xs → events_at xs j ≡ events_at dones (k + j))
      → k + length xs ≤ world.division.parts
      → AllPairs (λ (x y : Entry Piece). x.key ≢ y.key) (all_entries (entry_lists xs))
  unfolding EntriesAre
  entries_apart [] k each along l = AllPairs_none (λ (x y : Entry Piece). x.key ≢ y.key)
  entries_apart (d ∷ xs) k each along l =
      AllPairs_append (λ (x y : Entry Piece). x.key ≢ y.key) d.entries.items (all_entries (entry_lists xs))
      (ordered_entries_apart d.entries.items (of_runs (d ∷ xs) k each along l).0)
      (entries_apart xs (suc k) each.1 (λ j i. along (suc j) (omega (arith, i)) ∙ ap (events_at dones) (omega arith)) (omega (arith, l)))
      (λ x y c mm s.
      let inside : k < world.division.parts = omega (arith, l) in
      let f = entry_event k inside x (subst (λ bs. Contains bs x) (of_part k d each.0 (along 0 (omega arith) ∙ ap (events_at dones) (omega arith))) c) in
      let g = (entries_in (suc k) xs each.1 (λ j i. along (suc j) (omega (arith, i)) ∙ ap (events_at dones) (omega arith)) y).0 mm in
      let within : g.0 < world.division.parts = omega (arith, g.2, l) in
      let h = entry_event g.0 within y g.3 in
      let differ : k ≢ g.0 = λ e. omega (arith, e, g.1) in
      parts_apart k g.0 inside within differ f.0 h.0 f.1 h.1 (sym f.2 ∙ s ∙ h.2))
    where
      parts_apart : (p q : ℕ) → p < world.division.parts → q < world.division.parts → p ≢ q → (e g : Event Body) → Contains (runs p) e
          → Contains (runs q) g → e.key ≡ g.key → ⊥
      parts_apart p q i j ne e g c mm s = ne (sym (part_run_in m world.division past horizon p (runs p)
          (sealed m sim world is horizon dones a p i).0.runs e c)
          ∙ ap (λ (z : Event Body). part_of world.division z.target) (same_event p q i j e g c mm s)
          ∙ part_run_in m world.division past horizon q (runs q) (sealed m sim world is horizon dones a q j).0.runs g mm)
        where
          taken_of : (p : ℕ) → p < world.division.parts → (e : Event Body) → Contains (runs p) e → Contains commuted.taken e
          taken_of p i e c = (restrict_contains world.division p commuted.taken e (subst (λ l. Contains l e) (commuted.parts p i) c)).0

          same_event : (p q : ℕ) → p < world.division.parts → q < world.division.parts → (e g : Event Body) → Contains (runs p) e
              → Contains (runs q) g → e.key ≡ g.key → e ≡ g
          same_event p q i j e g c mm s = one_event m sim.well_formed (commuted.taken ++ past)
              (possible_from_legal m (commuted.taken ++ past) commuted.legal) e g
              (legal_known m (commuted.taken ++ past) commuted.legal e (contains_left commuted.taken past e (taken_of p i e c)))
              (legal_known m (commuted.taken ++ past) commuted.legal g (contains_left commuted.taken past g (taken_of q j g mm))) s

  pub can_merge : HaveOwnKeys (all_entries (entry_lists dones))
  can_merge = entries_apart dones 0 a.each (λ j l. ap (events_at dones) (omega arith)) (omega (arith, a.long))

  open_clear : All (λ t. (t ≤ a.time) ⊎ (horizon ≤ t)) m.audit_times
  open_clear = subst (λ k. All (λ t. (t ≤ a.time) ⊎ (k ≤ t)) m.audit_times) (sym with_event.horizon_is)
      (subst (λ s. All (λ t. (t ≤ s) ⊎ (horizon_from m with_event.event.key.time ≤ t)) m.audit_times) (sym with_event.time_is)
      (no_audit_inside m sim.well_formed with_event.event.key.time))
    where
      with_event : OpensWith m past (record { time = a.time; horizon = horizon })
      with_event = opens_with m past (record { time = a.time; horizon = horizon }) (sym is.opening_is ∙ a.opening)

  -- the audits that it leaves open
  pub window_leaves_open : open_audits m (history m (world.count + events_in dones))
      ≡ filter (λ t. nat_lt a.time t) (open_audits m past)
  window_leaves_open = ap (λ k. open_audits m (history m (world.count + k))) (sym (total_is m sim world is horizon dones a))
      ∙ window_open m sim.well_formed world.division is.divides world.count a.time horizon (may m sim world is horizon dones a)
      is.long runs (λ q l. (sealed m sim world is horizon dones a q l).0) open_clear
