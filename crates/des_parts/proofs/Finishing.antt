-- The start and the end of a part's run.
use Rattle.std.proofs.Common.{◌≡◌, ◌≢◌, ℕ, ◌<◌, List, [], ◌++◌, Option, None, Some, length, map, drop, get_or, refl, ap, sym, ◌∙◌, subst, arith, append-nil, reverse}
use Rattle.std.specs.List.{All, Contains}
use Rattle.std.specs.Prelude.{IfNone, IfSome}
use Rattle.des_event.specs.declared.event.Event.{Event}
use Rattle.des_event.proofs.Members.{contains_none}
use Rattle.des_model.specs.Histories.{history, state}
use Rattle.des_model.specs.PartRuns.{IsPartAt, part_run}
use Rattle.des_model.specs.Windows.{part_of, pieces_since}
use Rattle.des_model.proofs.Course.{same_read}
use Rattle.des_model.proofs.PartCourse.{part_at_start, part_sealed}
use Rattle.des_queue.specs.Queue.{Queue}
use Rattle.des_parts.specs.declared.part_run.Done.{Done}
use Rattle.des_parts.specs.declared.part_run.PartRun.{PartRun}
use Rattle.des_parts.specs.declared.world.PartEvents.{PartEvents}
use Rattle.des_parts.specs.declared.world.World.{World}
use Rattle.des_parts.specs.declared.copies.Touched.{Touched}
use Rattle.des_parts.specs.Copies.{in_slot, touched_as}
use Rattle.des_parts.specs.Entries.{entry_of, pieces_of}
use Rattle.des_parts.specs.PartRuns.{HasBegun, HasLeft, IsDone, IsFresh, IsHorizon, IsRunningAt, IsRunning, IsWindow, HasTouched, seen_in}
use Rattle.des_parts.specs.Worlds.{IsWorldOf}
use Rattle.des_parts.proofs.CopyFacts.{no_copies, seen_first}
use Rattle.des_parts.proofs.Openings.{due_apart, due_waits, window_may_open}
use Rattle.des_model.specs.Machine.{Machine}
use Rattle.des_machine.specs.Simulable.{IsSimulable}
use Rattle.des_parts.specs.declared.entries.Entry.{Entry}
use Rattle.des_window.specs.declared.opening.Opening.{Opening}

-- what follows if there is none
pub none_after : {A : Type 0} (o : Option A) (P : Type 0) → o ≡ None → IfNone o P → P
none_after None P e h = h
none_after (Some x) P e h = absurd cc

-- what follows if there is one
pub some_after : {A : Type 0} (o : Option A) (P : A → Type 0) (x : A) → o ≡ Some x → IfSome o P → P x
some_after None P x e h = absurd cc
some_after (Some y) P x e h = let same : y ≡ x = cc in subst P same h

module _ {State Body Piece : Type 0} {Known : Piece → Type 0} where
  -- a run that has begun, over the due events of its part
  pub running_of : (m : Machine State Body Piece) (world : World State Body) (horizon part : ℕ) (run : PartRun State Body Piece) (q : Queue Body)
      → HasBegun m Known world horizon part run → IsFresh q
      → (e : PartEvents Body) → e ≡ get_or world.parts.items part e
      → {due : List (Event Body)} → e.due.items ≡ due → IsRunning m Known world horizon due run q
  running_of m world horizon part run q begun fresh e at {due} is = subst (λ l. IsRunning m Known world horizon l run q)
      (ap (λ p. (get_or world.parts.items p e).due.items) begun.part_is ∙ ap (λ (z : PartEvents Body). z.due.items) (sym at) ∙ is) (begun.running q fresh e)

  -- at whatever default a place inside is read
  pub running_everywhere : (m : Machine State Body Piece) (world : World State Body) (horizon : ℕ) (run : PartRun State Body Piece) (q : Queue Body)
      (e : PartEvents Body)
      → run.part < length world.parts.items → e ≡ get_or world.parts.items run.part e
      → IsRunning m Known world horizon e.due.items run q → IsRunningAt m Known world horizon run q
  running_everywhere m world horizon run q e inside at r = λ other. subst (λ (z : PartEvents Body). IsRunning m Known world horizon z.due.items run q)
      (at ∙ same_read world.parts.items run.part e other inside) r

  pub running_here : (m : Machine State Body Piece) (world : World State Body) (horizon : ℕ) (run : PartRun State Body Piece) (q : Queue Body)
      (e : PartEvents Body)
      → e ≡ get_or world.parts.items run.part e → IsRunningAt m Known world horizon run q
      → {due : List (Event Body)} → e.due.items ≡ due → IsRunning m Known world horizon due run q
  running_here m world horizon run q e at r {due} is = subst (λ l. IsRunning m Known world horizon l run q)
      (ap (λ (z : PartEvents Body). z.due.items) (sym at) ∙ is) (r e)

module _ {State Body Piece : Type 0} {Sound : ℕ → State → Type 0} {Fit : Event Body → Type 0} {Room : State → Type 0} (m : Machine State Body Piece)
    (sim : IsSimulable m Sound Fit Room) (world : World State Body) (is : IsWorldOf m world) where
  module _ {Known : Piece → Type 0} where
    pub running_at_start : (o : Opening) → world.opening ≡ Some o → (e : PartEvents Body) (run : PartRun State Body Piece) → run.part < world.division.parts
        → e ≡ get_or world.parts.items run.part e
        → run.taken ≡ 0 → run.copies.slots.items ≡ [] → run.copies.states.items ≡ [] → run.mail.items ≡ [] → run.entries.items ≡ [] → run.pushes ≡ 0
        → (q : Queue Body) → IsFresh q → IsRunning m Known world o.horizon e.due.items run q
    running_at_start o opening e run inside at taken slots states mail entries pushed q fresh =
        let wait : drop run.taken e.due.items ++ q.events ≡ e.due.items = ap (λ k. drop k e.due.items ++ q.events) taken
        ∙ ap (λ l. e.due.items ++ l) fresh.empty ∙ append-nil e.due.items in
        record {
          at = at_is (drop run.taken e.due.items ++ q.events) run.mail.items run.entries.items wait mail entries;
          copies = no_copies world.division run.part world.states.items run.copies slots states;
          entries_are = entries ∙ sym (ap (λ k. reverse (map entry_of (pieces_since m (history m world.count)
              (part_run m world.division (history m world.count) o.horizon run.part k)))) (ap length entries));
          known = λ i d l. absurd (omega (arith, l, ap length entries));
          within = omega (arith, is.within, ap length entries);
          pushes = omega (arith, fresh.unused, pushed);
        }
      where
        at_is : (waits mails : List (Event Body)) (bs : List (Entry Piece)) → waits ≡ e.due.items → mails ≡ [] → bs ≡ []
            → IsPartAt m world.division (history m world.count) o.horizon run.part (length bs) (seen_in m world.states.items run)
            waits mails (pieces_of bs)
        at_is waits mails bs a b k = rw (a, b, k) (part_at_start m sim.well_formed world.division is.divides
            (history m world.count) o.time o.horizon (window_may_open m sim world is o opening) run.part
            (seen_in m world.states.items run) e.due.items
            (λ i l s. seen_first world.states.items run.copies slots i (m.initial 0) ∙ is.states_are.state_at i (m.initial 0) l)
            (due_waits m sim world is o opening run.part inside e at) (due_apart m sim world is o opening run.part inside e at))

    -- a run that has begun
    pub has_begun : (horizon : ℕ) → IsHorizon world horizon → (run : PartRun State Body Piece) → run.part < world.division.parts
        → run.taken ≡ 0 → run.copies.slots.items ≡ [] → run.copies.states.items ≡ [] → run.mail.items ≡ [] → run.entries.items ≡ [] → run.pushes ≡ 0
        → HasBegun m Known world horizon run.part run
    has_begun horizon ends run inside taken slots states mail entries pushed = record {
      part_is = refl;
      none = ap length entries;
      running = λ q fresh e.
          let within : run.part < length world.parts.items = omega (arith, is.parts_are, inside) in
          let o : Opening = record { time = ends.0; horizon = horizon } in
          running_at_start o ends.1 (get_or world.parts.items run.part e) run inside
          (same_read world.parts.items run.part e (get_or world.parts.items run.part e) within) taken slots states mail entries pushed q fresh;
    }

    module _ (horizon : ℕ) (due : List (Event Body)) (win : IsWindow m world horizon due) (run : PartRun State Body Piece) (q : Queue Body)
        (r : IsRunning m Known world horizon due run q) where
      ran : List (Event Body)
      ran = part_run m world.division (history m world.count) horizon run.part (length run.entries.items)

      here : Touched State
      here = touched_as (m.initial 0)

      pub run_touched : HasTouched m world.division (history m world.count)
          (part_run m world.division (history m world.count) horizon run.part (length run.entries.items)) run.part run.copies.states.items
      run_touched = record { touched = touched; others = others }
        where
          touched : All (λ (s : Touched State). (s.node < m.nodes) × (part_of world.division s.node ≡ run.part)
              × (s.state ≡ state m (part_run m world.division (history m world.count) horizon run.part (length run.entries.items)
              ++ history m world.count) s.node)) run.copies.states.items
          touched k s l =
              let me : ℕ = (get_or run.copies.states.items k s).node in
              let node : (get_or run.copies.states.items k s).node < m.nodes = omega (arith, (r.copies.inside k s l).0, is.states_are.nodes_are) in (
                node,
                (r.copies.inside k s l).1,
                seen_as k s l ∙ r.at.seen_are (get_or run.copies.states.items k s).node node (r.copies.inside k s l).1,
              )
            where
              seen_as : (k : ℕ) (s : Touched State) → k < length run.copies.states.items
                  → (get_or run.copies.states.items k s).state ≡ seen_in m world.states.items run (get_or run.copies.states.items k s).node
              seen_as k s l = ap (λ (z : Touched State). z.state) (same_state k s l)
                  ∙ sym (ap (λ z. in_slot (m.initial 0) z run.copies.states.items world.states.items
                  (get_or run.copies.states.items k s).node) (r.copies.placed k s l))
                where
                  same_state : (k : ℕ) (s : Touched State) → k < length run.copies.states.items
                      → get_or run.copies.states.items k s ≡ get_or run.copies.states.items k (touched_as (m.initial 0))
                  same_state k s l = same_read run.copies.states.items k s (touched_as (m.initial 0)) l

          others : (i : ℕ) → i < m.nodes → part_of world.division i ≡ run.part → All (λ (s : Touched State). s.node ≢ i) run.copies.states.items
              → state m (part_run m world.division (history m world.count) horizon run.part (length run.entries.items)
              ++ history m world.count) i ≡ state m (history m world.count) i
          others i l s free = sym (r.at.seen_are i l s) ∙ go (get_or run.copies.slots.items i None) refl ∙ is.states_are.state_at i (m.initial 0) l
            where
              go : (o : Option ℕ) → get_or run.copies.slots.items i None ≡ o
                  → in_slot (m.initial 0) o run.copies.states.items world.states.items i ≡ get_or world.states.items i (m.initial 0)
              go None e = refl
              go (Some k) e = absurd (free k (touched_as (m.initial 0)) (r.copies.filled i k e) (r.copies.named i k (touched_as (m.initial 0)) e))

      pub run_done : (done : Done State Body Piece) → drop run.taken due ++ q.events ≡ [] → done.part ≡ run.part → done.nodes ≡ run.copies.states
          → done.mail ≡ run.mail
          → done.entries ≡ run.entries → done.events ≡ length run.entries.items
          → IsDone m Known world horizon run.part done
      run_done done none parts nodes mail entries events = rw (parts, nodes, mail, entries, events) (record {
        part_is = refl;
        sealed = part_sealed m sim.well_formed world.division is.divides (history m world.count) win.time horizon win.may_open
            run.part (length run.entries.items) (seen_in m world.states.items run)
            (drop run.taken due ++ q.events) run.mail.items (pieces_of run.entries.items) r.at (λ x c. contains_none x (subst (λ l. Contains l x) none c));
        long = r.at.long;
        within = r.within;
        nodes_are = run_touched;
        mail_is = r.at.mail_is;
        mail_apart = r.at.mail_apart;
        entries_are = r.entries_are;
        known = r.known;
      })

      -- what the run comes to if no event is left
      pub run_left : (done : Done State Body Piece) → drop run.taken due ++ q.events ≡ [] → HasLeft run done → IsDone m Known world horizon run.part done
      run_left done none left = run_done done none left.part_is left.nodes_are left.mail_is left.entries_are left.events_are
