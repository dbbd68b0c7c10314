-- How the run of a part goes on.
use Rattle.std.proofs.Common.{◌≡◌, ◌≢◌, ℕ, suc, Option, None, Some, ◌+◌, ◌<◌, ◌≤◌, List, [], ◌∷◌, ◌++◌, length, map, drop, refl, ap, sym, ◌∙◌, subst, inl, inr, ◌⊎◌, ⊎_elim, ◌↔◌, arith, length-append, reverse, ◌^◌}
use Rattle.std.specs.List.{All, Contains, cons_option}
use Rattle.std.proofs.lemmas.List.{map-append}
use Rattle.des_event.specs.declared.event.Event.{Event}
use Rattle.des_event.specs.Keys.{IsAtMost}
use Rattle.des_event.specs.KeyOrder.{InKeyOrder, from_on}
use Rattle.des_event.proofs.Members.{All_at, All_from, AllPairs_append, AllPairs_front, AllPairs_at, AllPairs_rest, contains_append, contains_cons, contains_here, contains_left, contains_none, contains_right, contains_there}
use Rattle.des_model.specs.Histories.{effect_after, history, state, IsOverLimit}
use Rattle.des_model.specs.Windows.{pieces_since}
use mathlib.Core.List.{reverse-cons}
use Rattle.des_model.specs.Laws.{MayOpen}
use Rattle.des_model.specs.PartRuns.{IsPartAt, part_run}
use Rattle.des_model.specs.WellFormed.{IsWellFormed}
use Rattle.des_model.proofs.PartCourse.{made_all_apart, made_new, part_event_early, part_event_fit, part_event_in, part_goes_on, part_more, part_over, part_possible, part_seen, part_sound}
use Rattle.des_queue.specs.EventKey.{event_key}
use Rattle.des_queue.specs.Queue.{Queue}
use Rattle.des_queue.proofs.Inserting.{AreApart, apart_across, ordered_apart}
use Rattle.des_parts.specs.declared.part_run.PartRun.{PartRun}
use Rattle.des_parts.specs.declared.world.World.{World}
use Rattle.des_parts.specs.Copies.{AreCopies, seen}
use Rattle.des_parts.specs.PartRuns.{HasHandled, IsNextKey, IsReady, IsRunning, seen_in}
use Rattle.des_parts.specs.Worlds.{IsWorldOf}
use Rattle.des_parts.proofs.Sorting.{apart_end}
use Rattle.des_model.specs.Machine.{Machine}
use Rattle.des_parts.specs.declared.entries.Entry.{Entry}
use Rattle.des_machine.specs.Simulable.{IsSimulable}
use Rattle.des_parts.specs.Entries.{entry_of, pieces_of}

module _ {Body : Type 0} where
  -- an event in the middle of a list in which no two have one key
  module _ (xs ys : List (Event Body)) (e : Event Body) (all : AreApart (xs ++ e ∷ ys)) where
    pub middle_there : (x : Event Body) → Contains (xs ++ ys) x → Contains (xs ++ e ∷ ys) x × (x ≢ e)
    middle_there x c = ⊎_elim
        (λ k. (contains_left xs (e ∷ ys) x k, λ s. apart_across xs (e ∷ ys) all x e k (contains_here e ys) (ap (λ (z : Event Body). z.key) s)))
        (λ k. (
          contains_right xs (e ∷ ys) x (contains_there x e ys k),
          λ s. AllPairs_at (λ (a b : Event Body). a.key ≢ b.key) e ys
              (apart_end xs (e ∷ ys) all) x k (ap (λ (z : Event Body). z.key) (sym s)),
        ))
        (contains_append xs ys x c)

    pub middle_back : (x : Event Body) → Contains (xs ++ e ∷ ys) x → x ≢ e → Contains (xs ++ ys) x
    middle_back x c ne = ⊎_elim
        (λ k. contains_left xs ys x k)
        (λ k. ⊎_elim (λ s. absurd (ne (sym s))) (λ r. contains_right xs ys x r) (contains_cons x e ys k))
        (contains_append xs (e ∷ ys) x c)

    pub middle_apart : AreApart (xs ++ ys)
    middle_apart = AllPairs_append (λ (a b : Event Body). a.key ≢ b.key) xs ys (AllPairs_front (λ (a b : Event Body). a.key ≢ b.key) xs (e ∷ ys) all)
        (AllPairs_rest (λ (a b : Event Body). a.key ≢ b.key) e ys (apart_end xs (e ∷ ys) all))
        (λ x y c k. apart_across xs (e ∷ ys) all x y c (contains_there y e ys k))

  -- what was put ahead of a list
  from_cons : (o : Option (Event Body)) (l : List (Event Body)) (e : Event Body) → cons_option o l ≡ e ∷ l → o ≡ Some e
  from_cons None l e is = absurd (omega (arith, ap length is))
  from_cons (Some x) l e is = let same : x ≡ e = cc in ap Some same

All_push : {A : Type 0} (P : A → Type 0) (xs : List A) (x : A) → All P xs → P x → All P (xs ++ x ∷ [])
All_push P xs x all here = All_from P (xs ++ x ∷ []) (λ y c. ⊎_elim (λ k. All_at P xs y all k)
    (λ k. ⊎_elim (λ e. subst P e here) (λ r. absurd (contains_none y r)) (contains_cons y x [] k)) (contains_append xs (x ∷ []) y c))

module _ {State Body Piece : Type 0} {Sound : ℕ → State → Type 0} {Fit : Event Body → Type 0} {Room : State → Type 0} {Known : Piece → Type 0}
    (m : Machine State Body Piece) (sim : IsSimulable m Sound Fit Room) (world : World State Body) (is : IsWorldOf m world) (horizon time : ℕ)
    (o : MayOpen m (history m world.count) time horizon) (due : List (Event Body))
    (run : PartRun State Body Piece) (q : Queue Body) (inside : run.part < world.division.parts) (r : IsRunning m Known world horizon due run q) where
  w : IsWellFormed m Sound Fit
  w = sim.well_formed

  abbrev n : ℕ
  n = length run.entries.items

  module _ (e : Event Body) (xs ys : List (Event Body)) (wait_is : drop run.taken due ++ q.events ≡ xs ++ e ∷ ys)
      (first : (x : Event Body) → Contains (xs ++ e ∷ ys) x → IsAtMost e.key x.key) where
    there_is : Contains (drop run.taken due ++ q.events) e
    there_is = subst (λ l. Contains l e) (sym wait_is) (contains_right xs (e ∷ ys) e (contains_here e ys))

    least_is : (x : Event Body) → Contains (drop run.taken due ++ q.events) x → IsAtMost e.key x.key
    least_is x c = first x (subst (λ l. Contains l x) wait_is c)

    all : AreApart (xs ++ e ∷ ys)
    all = subst (λ l. AreApart l) wait_is r.at.apart

    fit : Fit e
    fit = part_event_fit m w world.division is.divides (history m world.count) time horizon o run.part (length run.entries.items)
        (seen_in m world.states.items run)
        (drop run.taken due ++ q.events) run.mail.items (pieces_of run.entries.items) r.at e there_is least_is

    sound : Sound e.target (seen_in m world.states.items run e.target)
    sound = part_sound m w world.division is.divides (history m world.count) time horizon o run.part (length run.entries.items)
        (seen_in m world.states.items run)
        (drop run.taken due ++ q.events) run.mail.items (pieces_of run.entries.items) r.at e there_is least_is

    seen_is : seen_in m world.states.items run e.target ≡ state m
        (part_run m world.division (history m world.count) horizon run.part (length run.entries.items)
        ++ history m world.count) e.target
    seen_is = part_seen m w world.division is.divides (history m world.count) time horizon o run.part (length run.entries.items)
        (seen_in m world.states.items run)
        (drop run.taken due ++ q.events) run.mail.items (pieces_of run.entries.items) r.at e there_is least_is

    room : Room (seen_in m world.states.items run e.target)
    room = subst Room (sym seen_is)
        (sim.room_is_left (part_run m world.division (history m world.count) horizon run.part (length run.entries.items)
        ++ history m world.count)
        (part_possible m w world.division is.divides (history m world.count) time horizon o run.part (length run.entries.items)
        (seen_in m world.states.items run)
        (drop run.taken due ++ q.events) run.mail.items (pieces_of run.entries.items) r.at e there_is least_is)
        (omega (
          arith,
          length-append (part_run m world.division (history m world.count) horizon run.part (length run.entries.items))
              (history m world.count),
          r.at.long,
          is.long,
          r.within,
        ))
        e.target (sim.well_formed.in_range e fit))

    early : e.key.time < horizon
    early = part_event_early m w world.division is.divides (history m world.count) time horizon o run.part (length run.entries.items)
        (seen_in m world.states.items run)
        (drop run.taken due ++ q.events) run.mail.items (pieces_of run.entries.items) r.at e there_is least_is

    target : e.target < m.nodes
    target = sim.well_formed.in_range e fit

    pub step_ready : IsReady m Sound Fit Room world.division world.states.items run e
    step_ready = record {
      nodes_are = is.states_are.nodes_are;
      copies = r.copies;
      target = omega (arith, target, is.states_are.nodes_are);
      in_part = part_event_in m w world.division is.divides (history m world.count) time horizon o run.part
          (length run.entries.items) (seen_in m world.states.items run)
          (drop run.taken due ++ q.events) run.mail.items (pieces_of run.entries.items) r.at e there_is least_is;
      state_is_sound = sound;
      room = room;
      event_is_sound = fit;
      in_time = omega (arith, early, o.in_time);
    }

    pub step_key : IsNextKey m world horizon run e.key
    step_key = record {
      event = e;
      is_least = from_cons _ (part_run m world.division (history m world.count) horizon run.part (length run.entries.items)) e
          (part_goes_on m w world.division is.divides (history m world.count) time horizon o run.part (length run.entries.items)
          (seen_in m world.states.items run)
          (drop run.taken due ++ q.events) run.mail.items (pieces_of run.entries.items) r.at e there_is least_is);
      key_is = refl;
    }

    pub step_over : m.max_events ≤ world.count + length run.entries.items → IsOverLimit m
    step_over full = part_over m w world.division is.divides (history m world.count) time horizon o run.part
        (length run.entries.items) (seen_in m world.states.items run)
        (drop run.taken due ++ q.events) run.mail.items (pieces_of run.entries.items) r.at e there_is least_is inside (omega (arith, full, is.long))

    module _ (made : List (Event Body)) (made_is : made ≡ (m.effect (seen_in m world.states.items run e.target) e).events) where
      fresh : (x y : Event Body) → Contains made x → Contains (xs ++ ys) y → x.key ≢ y.key
      fresh x y c k = made_new m w world.division is.divides (history m world.count) time horizon o run.part
          (length run.entries.items) (seen_in m world.states.items run)
          (drop run.taken due ++ q.events) run.mail.items (pieces_of run.entries.items) r.at e there_is least_is x y
          (subst (λ l. Contains l x) made_is c) (subst (λ l. Contains l y) (sym wait_is) (middle_there xs ys e all y k).0)

      alone : AreApart made
      alone = subst (λ l. AreApart l) (sym made_is) (made_all_apart m w world.division is.divides (history m world.count) time
          horizon o run.part (length run.entries.items) (seen_in m world.states.items run)
          (drop run.taken due ++ q.events) run.mail.items (pieces_of run.entries.items) r.at e there_is least_is)

      -- what the queue has after the event was taken
      module _ (left : List (Event Body)) (taken : ℕ) (rest_is : drop taken due ++ left ≡ xs ++ ys) where
        rest_apart : AreApart (drop taken due ++ left)
        rest_apart = subst (λ l. AreApart l) (sym rest_is) (middle_apart xs ys e all)

        pub step_apart : AreApart (left ++ made)
        step_apart = AllPairs_append (λ (a b : Event Body). a.key ≢ b.key) left made (apart_end (drop taken due) left rest_apart) alone
            (λ x y c k s. fresh y x k (subst (λ l. Contains l x) rest_is (contains_right (drop taken due) left x c)) (sym s))

        pub step_few : (mid : PartRun State Body Piece) → HasHandled m Known world.division world.states.items e run mid made → q.pushes + length made < 2 ^ 40
        step_few mid h = omega (arith, r.pushes, h.pushes, h.few)

        pub step_next : (mid new : PartRun State Body Piece) → HasHandled m Known world.division world.states.items e run mid made → (q' : Queue Body)
            → new.part ≡ mid.part → new.copies ≡ mid.copies → new.entries ≡ mid.entries → new.pushes ≡ mid.pushes → new.taken ≡ taken
            → new.mail.items ≡ mid.mail.items ++ from_on event_key horizon made
            → ((x : Event Body) → Contains q'.events x ↔ (Contains left x ⊎ (Contains made x × (x.key.time < horizon)))) → InKeyOrder event_key q'.events
            → q'.pushes ≤ q.pushes + length made → world.count + length run.entries.items < m.max_events → IsRunning m Known world horizon due new q'
        step_next mid new h q' parts_are copies_are entries_are counted takens mails queued ordered pushes free = record {
          at = subst (λ k. IsPartAt m world.division (history m world.count) horizon k (length new.entries.items)
              (seen_in m world.states.items new) (drop new.taken due ++ q'.events) new.mail.items (pieces_of new.entries.items))
              (sym (parts_are ∙ h.same_part))
              (subst (λ k. IsPartAt m world.division (history m world.count) horizon run.part k (seen_in m world.states.items new)
              (drop new.taken due ++ q'.events) new.mail.items (pieces_of new.entries.items)) (sym longer)
              (part_more m w world.division is.divides (history m world.count) time horizon o run.part (length run.entries.items)
              (seen_in m world.states.items run)
              (drop run.taken due ++ q.events) run.mail.items (pieces_of run.entries.items) r.at e there_is least_is
              (seen_in m world.states.items new) (drop new.taken due ++ q'.events) new.mail.items (pieces_of new.entries.items)
              (ap (λ z. seen (m.initial 0) world.states.items z e.target) copies_are ∙ h.changed)
              (λ i l ne. ap (λ z. seen (m.initial 0) world.states.items z i) copies_are ∙ h.kept i (omega (arith, l, is.states_are.nodes_are)) ne)
              (λ x. (there x, back x))
              wait_apart
              (mails ∙ ap (λ l. l.items ++ from_on event_key horizon made) h.same_mail ∙ ap (λ l. run.mail.items ++ from_on event_key horizon l) made_is)
              (ap pieces_of entries_list ∙ map-append (λ (x : Entry Piece). x.piece) run.entries.items
              (entry_of (e, (m.effect (seen_in m world.states.items run e.target) e).piece) ∷ []))));
          copies = subst (λ k. AreCopies world.division k world.states.items new.copies) (sym parts_are)
              (subst (λ z. AreCopies world.division mid.part world.states.items z) (sym copies_are) h.copies);
          entries_are = entries_of_all;
          known = subst (λ l. All (λ (x : Entry Piece). Known x.piece) l) (sym entries_list)
              (All_push (λ (x : Entry Piece). Known x.piece) run.entries.items left_entry r.known h.known);
          within = omega (arith, longer, free);
          pushes = omega (arith, pushes, r.pushes, h.pushes, counted);
        }
          where
            left_entry : Entry Piece
            left_entry = entry_of (e, (m.effect (seen_in m world.states.items run e.target) e).piece)

            entries_list : new.entries.items ≡ run.entries.items ++ entry_of (e, (m.effect (seen_in m world.states.items run e.target) e).piece) ∷ []
            entries_list = ap (λ l. l.items) entries_are ∙ h.entries_are

            longer : length new.entries.items ≡ suc (length run.entries.items)
            longer = omega (arith, ap length entries_list, length-append run.entries.items (left_entry ∷ []))

            past : List (Event Body)
            past = history m world.count

            ran : List (Event Body)
            ran = part_run m world.division (history m world.count) horizon run.part (length run.entries.items)

            entries_of_all : new.entries.items ≡ reverse (map entry_of
                (pieces_since m (history m world.count) (part_run m world.division (history m world.count) horizon new.part (length new.entries.items))))
            entries_of_all = entries_list ∙ ap (λ l. l ++ left_entry ∷ []) r.entries_are
                ∙ ap (λ z. reverse (map entry_of (pieces_since m (history m world.count) ran)) ++ entry_of (e, (m.effect z e).piece) ∷ []) seen_is
                ∙ sym (reverse-cons (entry_of (e, (effect_after m (ran ++ history m world.count) e).piece))
                (map entry_of (pieces_since m (history m world.count) ran)))
                ∙ ap (λ l. reverse (map entry_of (pieces_since m (history m world.count) l)))
                (sym (part_goes_on m w world.division is.divides (history m world.count) time horizon o run.part (length run.entries.items)
                (seen_in m world.states.items run) (drop run.taken due ++ q.events) run.mail.items (pieces_of run.entries.items) r.at e there_is least_is))
                ∙ ap (λ k. reverse (map entry_of (pieces_since m (history m world.count)
                (part_run m world.division (history m world.count) horizon run.part k)))) (sym longer)
                ∙ ap (λ p. reverse (map entry_of (pieces_since m (history m world.count)
                (part_run m world.division (history m world.count) horizon p (length new.entries.items))))) (sym (parts_are ∙ h.same_part))

            rest_there : (x : Event Body) → Contains (drop new.taken due ++ left) x → Contains (xs ++ ys) x
            rest_there x c = subst (λ l. Contains l x) rest_is (subst (λ k. Contains (drop k due ++ left) x) takens c)

            there : (x : Event Body) → Contains (drop new.taken due ++ q'.events) x
                → (Contains (drop run.taken due ++ q.events) x × (x ≢ e))
                ⊎ (Contains (m.effect (seen_in m world.states.items run e.target) e).events x × (x.key.time < horizon))
            there x c = ⊎_elim
                (λ k. inl (before x (rest_there x (contains_left (drop new.taken due) left x k))))
                (λ k. ⊎_elim (λ l. inl (before x (rest_there x (contains_right (drop new.taken due) left x l))))
                (λ l. inr (subst (λ z. Contains z x) made_is l.0, l.1)) ((queued x).0 k))
                (contains_append (drop new.taken due) q'.events x c)
              where
                before : (x : Event Body) → Contains (xs ++ ys) x → Contains (drop run.taken due ++ q.events) x × (x ≢ e)
                before x k = let f = middle_there xs ys e all x k in (subst (λ l. Contains l x) (sym wait_is) f.0, f.1)

            back : (x : Event Body) → (Contains (drop run.taken due ++ q.events) x × (x ≢ e))
                ⊎ (Contains (m.effect (seen_in m world.states.items run e.target) e).events x × (x.key.time < horizon))
                → Contains (drop new.taken due ++ q'.events) x
            back x (inl k) = ⊎_elim
                (λ l. contains_left (drop new.taken due) q'.events x (subst (λ z. Contains (drop z due) x) (sym takens) l))
                (λ l. contains_right (drop new.taken due) q'.events x ((queued x).1 (inl l)))
                (contains_append (drop taken due) left x (subst (λ l. Contains l x) (sym rest_is)
                (middle_back xs ys e all x (subst (λ l. Contains l x) wait_is k.0) k.1)))
            back x (inr k) = contains_right (drop new.taken due) q'.events x ((queued x).1 (inr (subst (λ z. Contains z x) (sym made_is) k.0, k.1)))

            wait_apart : AreApart (drop new.taken due ++ q'.events)
            wait_apart = subst (λ z. AreApart (drop z due ++ q'.events)) (sym takens)
                (AllPairs_append (λ (a b : Event Body). a.key ≢ b.key) (drop taken due) q'.events
                (AllPairs_front (λ (a b : Event Body). a.key ≢ b.key) (drop taken due) left rest_apart) (ordered_apart q'.events ordered)
                (λ x y c k s. ⊎_elim (λ l. apart_across (drop taken due) left rest_apart x y c l s)
                (λ l. fresh y x l.0 (subst (λ z. Contains z x) rest_is (contains_left (drop taken due) left x c)) (sym s))
                ((queued y).0 k)))
