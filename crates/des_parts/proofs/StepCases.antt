-- The two sources of a part's next event: the due events, and the queue.
use Rattle.std.proofs.Common.{◌≡◌, ℕ, suc, ◌+◌, ◌<◌, ◌≤◌, ◌^◌, true, false, List, [], ◌∷◌, ◌++◌, Some, length, drop, slice_get, get_or, refl, ap, sym, ◌∙◌, subst, ◌⊎◌, ◌↔◌}
use Rattle.std.specs.List.{Contains}
use Rattle.des_event.specs.declared.event.Event.{Event}
use Rattle.des_event.specs.KeyOrder.{InKeyOrder, from_on}
use Rattle.des_queue.specs.EventKey.{event_key}
use Rattle.des_queue.specs.Queue.{Queue, queue}
use Rattle.des_queue.proofs.Inserting.{AreApart}
use Rattle.des_parts.specs.declared.part_run.PartRun.{PartRun}
use Rattle.des_parts.specs.declared.world.World.{World}
use Rattle.des_parts.specs.PartRuns.{HasHandled, IsNextKey, IsReady, IsRunning, IsWindow, comes_first, seen_in}
use Rattle.des_parts.specs.Worlds.{IsWorldOf}
use Rattle.des_parts.proofs.Ahead.{due_first, due_inside, get_some, made_first, none_left, place_is}
use Rattle.des_parts.proofs.Stepping.{step_apart, step_few, step_key, step_next, step_over, step_ready}
use Rattle.des_model.specs.Machine.{Machine}
use Rattle.des_machine.specs.Simulable.{IsSimulable}
use Rattle.des_model.specs.Histories.{IsOverLimit}

module _ {State Body Piece : Type 0} {Sound : ℕ → State → Type 0} {Fit : Event Body → Type 0} {Room : State → Type 0} {Known : Piece → Type 0}
    (m : Machine State Body Piece) (sim : IsSimulable m Sound Fit Room) (world : World State Body) (is : IsWorldOf m world) (horizon : ℕ)
    (due : List (Event Body))
    (win : IsWindow m world horizon due)
    (run : PartRun State Body Piece) (q : Queue Body) (inside : run.part < world.division.parts) (r : IsRunning m Known world horizon due run q)
    (ordered : InKeyOrder event_key q.events) where
  module _ (t : comes_first due run.taken q.events ≡ true) (e : Event Body) (at : e ≡ get_or due run.taken e) where
    abbrev ys : List (Event Body)
    ys = drop (suc run.taken) due ++ q.events

    wait_is : drop run.taken due ++ q.events ≡ [] ++ e ∷ (drop (suc run.taken) due ++ q.events)
    wait_is = ap (λ l. l ++ q.events) (place_is due run.taken e (due_inside due q.events run.taken t) at)

    pub due_ready : IsReady m Sound Fit Room world.division world.states.items run e
    due_ready = step_ready m sim world is horizon win.time win.may_open due run q inside r e [] ys wait_is
        (due_first due q.events run.taken win.ordered ordered t e at)

    pub due_key : IsNextKey m world horizon run e.key
    due_key = step_key m sim world is horizon win.time win.may_open due run q inside r e [] ys wait_is
        (due_first due q.events run.taken win.ordered ordered t e at)

    pub due_over : m.max_events ≤ world.count + length run.entries.items → IsOverLimit m
    due_over full = step_over m sim world is horizon win.time win.may_open due run q inside r e [] ys wait_is
        (due_first due q.events run.taken win.ordered ordered t e at) full

    module _ (made : List (Event Body)) (made_is : made ≡ (m.effect (seen_in m world.states.items run e.target) e).events) where
      pub due_apart : AreApart (q.events ++ made)
      due_apart = step_apart m sim world is horizon win.time win.may_open due run q inside r e [] ys wait_is
          (due_first due q.events run.taken win.ordered ordered t e at) made made_is q.events (suc run.taken) refl

      pub due_few : (mid : PartRun State Body Piece) → HasHandled m Known world.division world.states.items e run mid made → q.pushes + length made < 2 ^ 40
      due_few = step_few m sim world is horizon win.time win.may_open due run q inside r e [] ys wait_is
          (due_first due q.events run.taken win.ordered ordered t e at) made made_is q.events (suc run.taken) refl

      pub due_next : (mid new : PartRun State Body Piece) → HasHandled m Known world.division world.states.items e run mid made → (q' : Queue Body)
          → new.part ≡ mid.part → new.copies ≡ mid.copies → new.entries ≡ mid.entries → new.pushes ≡ mid.pushes → new.taken ≡ suc run.taken
          → new.mail.items ≡ mid.mail.items ++ from_on event_key horizon made
          → ((x : Event Body) → Contains q'.events x ↔ (Contains q.events x ⊎ (Contains made x × (x.key.time < horizon)))) → InKeyOrder event_key q'.events
          → q'.pushes ≤ q.pushes + length made → world.count + length run.entries.items < m.max_events → IsRunning m Known world horizon due new q'
      due_next = step_next m sim world is horizon win.time win.may_open due run q inside r e [] ys wait_is
          (due_first due q.events run.taken win.ordered ordered t e at) made made_is q.events (suc run.taken) refl

  module _ (t : comes_first due run.taken q.events ≡ false) where
    pub all_taken : (q' : Queue Body) → q' ≡ queue (drop 1 q.events) q.pushes → q.events ≡ []
        → (drop run.taken due ++ q'.events ≡ []) × IsRunning m Known world horizon due run q'
    all_taken q' left none = (
      ap (λ (z : Queue Body). drop run.taken due ++ z.events) left ∙ ap (λ l. drop run.taken due ++ drop 1 l) none
          ∙ ap (λ l. l ++ []) (none_left due q.events run.taken win.ordered ordered t none),
      subst (λ z. IsRunning m Known world horizon due run z) (sym (left ∙ ap (λ l. queue (drop 1 l) q.pushes) none ∙ sym (ap (λ l. queue l q.pushes) none))) r,
    )

    module _ (e : Event Body) (least : Some e ≡ slice_get q.events 0) where
      queue_is : q.events ≡ e ∷ drop 1 q.events
      queue_is = get_some q.events 0 e (sym least)

      wait_is2 : drop run.taken due ++ q.events ≡ drop run.taken due ++ e ∷ drop 1 q.events
      wait_is2 = ap (λ l. drop run.taken due ++ l) queue_is

      pub made_ready : IsReady m Sound Fit Room world.division world.states.items run e
      made_ready = step_ready m sim world is horizon win.time win.may_open due run q inside r e (drop run.taken due) (drop 1 q.events) wait_is2
          (made_first due q.events run.taken win.ordered ordered t e (drop 1 q.events) queue_is)

      pub made_key : IsNextKey m world horizon run e.key
      made_key = step_key m sim world is horizon win.time win.may_open due run q inside r e (drop run.taken due) (drop 1 q.events) wait_is2
          (made_first due q.events run.taken win.ordered ordered t e (drop 1 q.events) queue_is)

      pub made_over : m.max_events ≤ world.count + length run.entries.items → IsOverLimit m
      made_over full = step_over m sim world is horizon win.time win.may_open due run q inside r e (drop run.taken due) (drop 1 q.events) wait_is2
          (made_first due q.events run.taken win.ordered ordered t e (drop 1 q.events) queue_is) full

      module _ (made : List (Event Body)) (made_is : made ≡ (m.effect (seen_in m world.states.items run e.target) e).events) (q1 : Queue Body)
          (left : q1 ≡ queue (drop 1 q.events) q.pushes) where
        rest_is : drop run.taken due ++ q1.events ≡ drop run.taken due ++ drop 1 q.events
        rest_is = ap (λ (z : Queue Body). drop run.taken due ++ z.events) left

        pub made_apart : AreApart (q1.events ++ made)
        made_apart = step_apart m sim world is horizon win.time win.may_open due run q inside r e (drop run.taken due) (drop 1 q.events) wait_is2
            (made_first due q.events run.taken win.ordered ordered t e (drop 1 q.events) queue_is) made made_is q1.events run.taken rest_is

        pub made_few : (mid : PartRun State Body Piece) → HasHandled m Known world.division world.states.items e run mid made → q1.pushes + length made < 2 ^ 40
        made_few mid h = subst (λ (z : Queue Body). z.pushes + length made < 2 ^ 40) (sym left)
            (step_few m sim world is horizon win.time win.may_open due run q inside r e (drop run.taken due) (drop 1 q.events) wait_is2
            (made_first due q.events run.taken win.ordered ordered t e (drop 1 q.events) queue_is) made made_is q1.events run.taken rest_is mid h)

        pub made_next : (mid new : PartRun State Body Piece) → HasHandled m Known world.division world.states.items e run mid made → (q' : Queue Body)
            → new.part ≡ mid.part → new.copies ≡ mid.copies → new.entries ≡ mid.entries → new.pushes ≡ mid.pushes → new.taken ≡ run.taken
            → new.mail.items ≡ mid.mail.items ++ from_on event_key horizon made
            → ((x : Event Body) → Contains q'.events x ↔ (Contains q1.events x ⊎ (Contains made x × (x.key.time < horizon)))) → InKeyOrder event_key q'.events
            → q'.pushes ≤ q1.pushes + length made → world.count + length run.entries.items < m.max_events → IsRunning m Known world horizon due new q'
        made_next mid new h q' parts_are copies_are entries_are counted takens mails queued o pushes free =
            step_next m sim world is horizon win.time win.may_open due run q inside r e (drop run.taken due) (drop 1 q.events) wait_is2
            (made_first due q.events run.taken win.ordered ordered t e (drop 1 q.events) queue_is) made made_is q1.events run.taken rest_is
            mid new h q' parts_are copies_are entries_are counted takens mails queued o
            (subst (λ (z : Queue Body). q'.pushes ≤ z.pushes + length made) left pushes) free
