-- How an engine goes on from event to event.
use Rattle.std.proofs.Common.{
  ◌≡◌,
  ◌∙◌,
  ◌↔◌,
  ⊎_elim,
  ℕ,
  ◌^◌,
  ◌+◌,
  ◌<◌,
  ◌≤◌,
  List,
  [],
  ◌∷◌,
  ◌++◌,
  None,
  Some,
  Option,
  length,
  get_or,
  set,
  ap,
  sym,
  refl,
  subst,
  arith,
}
use Rattle.std.specs.Prelude.{nat_lt, option_map, slice_get}
use Rattle.std.proofs.lemmas.Option.{none-some}
use Rattle.std.specs.Io.KnownBytes.{Appends}
use Rattle.std.specs.List.{All, Contains, filter}
use Rattle.std.proofs.KnownBytes.{Appends-nil}
use Rattle.des_event.specs.declared.event.Event.{Event}
use Rattle.des_event.specs.KeyOrder.{InKeyOrder}
use Rattle.des_event.specs.Keys.{IsAtMost, IsBefore}
use Rattle.des_event.proofs.KeyLists.{all_in, IsIn-from_Contains}
use Rattle.des_event.proofs.Members.{All_from, contains_cons}
use Rattle.des_event.proofs.Order.{at_most_from_before, at_most_self}
use Rattle.des_machine.specs.Runs.{Adds, IsBeginning, Writes, WritesFront}
use Rattle.des_machine.specs.Simulable.{AreSound, IsSimulable}
use Rattle.des_machine.proofs.Ends.{OfAccounts, are_sound, audits_at_start, of_slice, pieces_and_audits}
use Rattle.des_machine.proofs.Puts.{adds_one, adds_then, fronts_longer, one_front, writer_laws}
use Rattle.des_machine.proofs.Runs.{begun_next}
use Rattle.des_model.specs.Histories.{IsOverLimit, history, open_audits, output, state}
use Rattle.des_model.specs.Machine.{Machine}
use Rattle.des_model.specs.Scribes.{IsAtEnd, audits_at, due}
use Rattle.des_model.specs.Worlds.{AreStatesAfter, IsFirstAt, IsWorld}
use Rattle.des_model.proofs.Audits.{open_after, output_next}
use Rattle.des_model.proofs.Course.{
  history_goes_on,
  is_fit,
  is_in_time,
  is_sound,
  none_left,
  same_read,
  state_read,
  target_in_range,
  too_many,
  world_after,
  world_at_start,
}
use Rattle.des_model.proofs.Runs.{history_is_legal, possible_from_legal}
use Rattle.des_output.specs.Writing.{AppendsFront}
use Rattle.des_queue.specs.EventKey.{event_key}
use Rattle.des_queue.proofs.Inserting.{AreApart, ordered_apart}
use Rattle.des_serial.specs.declared.engine.SerialEngine.{SerialEngine}
use Rattle.des_serial.specs.SerialEngine.{HasTaken, IsAt, IsAtWith}

abbrev value : Option ℕ → ℕ
value (Some time) = time
value None = 0

module _ {Body : Type 0} where
  -- the head of a list in the order of keys is its first event
  first_at : (horizon : ℕ) (event : Event Body) (rest : List (Event Body)) → InKeyOrder event_key (event ∷ rest) → event.key.time < horizon
      → IsFirstAt (event ∷ rest) horizon 0
  first_at horizon event rest ordered in_time = record {
    inside = omega arith;
    in_time = λ d. in_time;
    first = λ d. All_from (λ (x : Event Body). IsAtMost event.key x.key) (event ∷ rest)
        (λ x c. ⊎_elim
        (λ (same : event ≡ x). subst (λ (z : Event Body). IsAtMost event.key z.key) same (at_most_self event.key))
        (λ (later : Contains rest x). at_most_from_before event.key x.key
        (all_in (λ (y : Event Body). IsBefore event.key y.key) rest ordered.0 x (IsIn-from_Contains rest x later)))
        (contains_cons x event rest c));
  }

  abbrev time_of_first : (es : List (Event Body)) → Option ℕ
  time_of_first es = option_map (λ (e : Event Body). e.key.time) (slice_get es 0)

-- another list of the same events does as well
world_same : {State Body Piece : Type 0} (m : Machine State Body Piece) (states : List State) (xs ys : List (Event Body)) (count : ℕ)
    → ((x : Event Body) → Contains ys x ↔ Contains xs x) → AreApart ys → IsWorld m states xs count → IsWorld m states ys count
world_same m states xs ys count same apart w = record {
  long = w.long;
  states_are = w.states_are;
  waits = λ x. (λ c. (w.waits x).0 ((same x).0 c), λ c. (same x).1 ((w.waits x).1 c));
  apart = apart;
}

module _ {M S State Body Piece : Type 0} (text : Piece → List ℕ) (m : Machine State Body Piece) (HasCounted : List Piece → S → Type 0) where
  module _ {Sound : ℕ → State → Type 0} {Fit : Event Body → Type 0} {Room : State → Type 0} (sim : IsSimulable m Sound Fit Room) where
    -- the scribe has counted few pieces, and few audits are left
    pub counted_few : (size : S → ℕ) → ((pieces : List Piece) (s : S) → HasCounted pieces s → size s ≡ length pieces) → (old now : Option (List ℕ))
        (e : SerialEngine M S State Body Piece) (events : List (Event Body)) → IsAtWith text m HasCounted old now e events
        → size e.journal.scribe + length e.journal.clock ≡ e.count + length m.audit_times
    counted_few size sized old now e events at =
        omega (arith, sized _ _ at.counted, pieces_and_audits m (history m e.count) e.journal.clock at.audits, at.world.long)

    module _ (old now : Option (List ℕ)) (e : SerialEngine M S State Body Piece) (event : Event Body) (t : HasTaken text m HasCounted old now e event) where
      abbrev here : List (Event Body)
      here = history m e.count

      abbrev states : List State
      states = e.states.items

      abbrev events : List (Event Body)
      events = event ∷ e.pending

      world : IsWorld m states events e.count
      world = t.at.world

      first : event ≡ get_or events 0 event
      first = refl

      pub target_is_node : event.target < length states
      target_is_node = target_in_range m sim.well_formed states events e.count world 0 event t.next first

      pub event_is_fit : Fit event
      event_is_fit = is_fit m sim.well_formed states events e.count world 0 event t.next first

      pub event_is_in_time : event.key.time < m.duration
      event_is_in_time = is_in_time m sim.well_formed states events e.count world 0 event t.next first

      -- there is room for the audits, and for the piece
      pub taken_few : (size : S → ℕ) → ((pieces : List Piece) (s : S) → HasCounted pieces s → size s ≡ length pieces)
          → size e.journal.scribe + length e.journal.clock < 2 ^ 40
      taken_few size sized = omega (arith, counted_few size sized old now e events t.at, t.allowed, sim.few)

      pub taken_sound : AreSound m Sound states
      taken_sound = are_sound m sim states e.count world.states_are

      goes_on : history m (e.count + 1) ≡ event ∷ here
      goes_on = history_goes_on m sim.well_formed states events e.count world 0 event t.next first

      -- the state that is read for the event
      pub taken_read : (s : State) × (s ≡ get_or states event.target s)
      taken_read = (
        get_or states event.target (m.initial 0),
        same_read states event.target (m.initial 0) (get_or states event.target (m.initial 0)) target_is_node,
      )

      -- the audits that the event lets become due, of nodes in these states
      abbrev audits_due : (ℕ → State) → List Piece
      audits_due account = audits_at m account (due event.key.time e.journal.clock)

      abbrev audits : List Piece
      audits = audits_due (state m here)

      -- what the event and the audits before it output
      abbrev put : Piece → List Piece
      put piece = audits ++ piece ∷ []

      module _ (s : State) (read : s ≡ get_or states event.target s) where
        is_here : s ≡ state m here event.target
        is_here = read ∙ state_read m sim.well_formed states events e.count world 0 event t.next first s

        pub state_is_sound : Sound event.target s
        state_is_sound = subst (λ z. Sound event.target z) (sym read) (is_sound m sim.well_formed states events e.count world 0 event t.next first s)

        pub state_has_room : Room s
        state_has_room = subst Room (sym is_here)
            (sim.room_is_left here (possible_from_legal m here (history_is_legal m e.count)) (omega (arith, world.long, t.at.within)) event.target
            (sim.well_formed.in_range event event_is_fit))

        outputs : output m (history m (e.count + 1)) ≡ output m here ++ put (m.effect s event).piece
        outputs = ap (output m) goes_on ∙ output_next m event here
            ∙ (λ i. output m here ++ (audits_at m (state m here) (due event.key.time (sym t.at.audits i)) ++ (m.effect (sym is_here i) event).piece ∷ []))

        -- the front of that is the front of the trace that is one event longer
        pub begin_more : (x : Option (List ℕ)) → WritesFront text now x (put (m.effect s event).piece) → IsBeginning text m old x
        begin_more x front = begun_next text m old now x e.count (e.count + 1) (put (m.effect s event).piece) t.at.written outputs front

        -- the audits are written with a slice of the states
        module _ (slice : List State) (sliced : slice ≡ states) where
          pub begin_audits : (x : Option (List ℕ)) → OfAccounts m slice (λ account. WritesFront text now x (audits_due account)) → IsBeginning text m old x
          begin_audits x fronts =
              let front = of_slice m sim states e.count world.states_are (λ account. WritesFront text now x (audits_due account)) slice sliced fronts in
              begin_more x (fronts_longer text now x audits ((m.effect s event).piece ∷ []) front)

          module _ (mid : Option (List ℕ)) (middle : S)
              (added : OfAccounts m slice (λ account. Adds text HasCounted now mid e.journal.scribe middle (audits_due account))) where
            pub audits_add : Adds text HasCounted now mid e.journal.scribe middle audits
            audits_add = of_slice m sim states e.count world.states_are (λ account. Adds text HasCounted now mid e.journal.scribe middle (audits_due account))
                slice sliced added

            -- after whole audits, nothing or the front of a piece has been written
            pub begin_middle : IsBeginning text m old mid
            begin_middle = begin_audits mid (λ account are. (writer_laws text).fronts_whole now mid (audits_due account) (added account are).written)

            pub begin_front : (piece : Piece) (x : Option (List ℕ)) → piece ≡ (m.effect s event).piece → AppendsFront mid x (text piece) → IsBeginning text m old x
            begin_front piece x is front =
                begin_more x ((writer_laws text).fronts_then now mid x audits ((m.effect s event).piece ∷ []) audits_add.written
                (one_front text mid x piece (m.effect s event).piece is front))

        module _ (made : List (Event Body)) (made_is : made ≡ (m.effect s event).events) where
          next_world : IsWorld m (set states event.target (m.effect s event).state) (e.pending ++ made) (e.count + 1)
          next_world = subst (λ ms. IsWorld m (set states event.target (m.effect s event).state) (e.pending ++ ms) (e.count + 1)) (sym made_is)
              (subst (λ z. IsWorld m (set states event.target (m.effect z event).state) (e.pending ++ (m.effect z event).events) (e.count + 1)) (sym read)
              (world_after m sim.well_formed states events e.count world 0 event t.next first s))

          pub made_apart : AreApart (e.pending ++ made)
          made_apart = next_world.apart

          pub next_at : (f : SerialEngine M S State Body Piece) (mid new : Option (List ℕ)) (middle : S) (piece : Piece) → piece ≡ (m.effect s event).piece
              → f.states.items ≡ set states event.target (m.effect s event).state
              → ((x : Event Body) → Contains f.pending x ↔ Contains (e.pending ++ made) x) → InKeyOrder event_key f.pending → f.made.items ≡ []
              → f.journal.clock ≡ filter (λ u. nat_lt event.key.time u) e.journal.clock → f.count ≡ e.count + 1
              → Adds text HasCounted now mid e.journal.scribe middle audits → Appends mid new (text piece)
              → ((pieces : List Piece) → HasCounted pieces middle → HasCounted (pieces ++ piece ∷ []) f.journal.scribe)
              → IsAt text m HasCounted old new f
          next_at f mid new middle piece piece_is states_are same ordered none_made clock_is count_is before written counted =
              let all : Adds text HasCounted now new e.journal.scribe f.journal.scribe (put (m.effect s event).piece)
              = adds_then text HasCounted now mid new e.journal.scribe middle f.journal.scribe audits ((m.effect s event).piece ∷ []) before
              (adds_one text HasCounted mid new middle f.journal.scribe piece (m.effect s event).piece piece_is written counted) in
              let long : history m f.count ≡ history m (e.count + 1) = ap (history m) count_is in
              let pieces : output m (history m f.count) ≡ output m here ++ put (m.effect s event).piece = ap (output m) long ∙ outputs in
              record {
                world = subst (λ k. IsWorld m f.states.items f.pending k) (sym count_is)
                    (subst (λ ss. IsWorld m ss f.pending (e.count + 1)) (sym states_are)
                    (world_same m (set states event.target (m.effect s event).state) (e.pending ++ made) f.pending (e.count + 1) same
                    (ordered_apart f.pending ordered) next_world));
                audits = clock_is ∙ ap (filter (λ u. nat_lt event.key.time u)) t.at.audits ∙ sym (open_after m event here)
                    ∙ ap (open_audits m) (sym (long ∙ goes_on));
                written = subst (λ ps. Writes text old new ps) (sym pieces)
                    ((writer_laws text).adds_then old now new (output m here) (put (m.effect s event).piece) t.at.written all.written);
                counted = subst (λ ps. HasCounted ps f.journal.scribe) (sym pieces) (all.counted (output m here) t.at.counted);
                within = omega (arith, t.allowed, count_is);
                none_made = none_made;
              }

    -- The start

    pub start_at : (now : Option (List ℕ)) (e : SerialEngine M S State Body Piece) → AreStatesAfter m [] e.states.items
        → ((x : Event Body) → Contains e.pending x ↔ Contains m.start_events x) → InKeyOrder event_key e.pending
        → e.journal.clock ≡ m.audit_times → HasCounted [] e.journal.scribe → e.count ≡ 0 → e.made.items ≡ [] → IsAt text m HasCounted now now e
    start_at now e states_are same ordered clock_is counted count_is none_made =
        let none : history m e.count ≡ [] = ap (history m) count_is in
        record {
          world = subst (λ k. IsWorld m e.states.items e.pending k) (sym count_is)
              (world_same m e.states.items m.start_events e.pending 0 same (ordered_apart e.pending ordered) (world_at_start m sim.well_formed e.states.items states_are));
          audits = clock_is ∙ sym (audits_at_start m) ∙ ap (open_audits m) (sym none);
          written = subst (λ h. Writes text now now (output m h)) (sym none) (Appends-nil now);
          counted = subst (λ h. HasCounted (output m h) e.journal.scribe) (sym none) counted;
          within = omega (arith, count_is);
          none_made = none_made;
        }

    -- The end

    module _ (old now : Option (List ℕ)) (e : SerialEngine M S State Body Piece) (at : IsAt text m HasCounted old now e) where
      pub over_limit : (es : List (Event Body)) (time : ℕ) → es ≡ e.pending → Some time ≡ time_of_first es → InKeyOrder event_key es → time < m.duration
          → m.max_events ≤ e.count → IsOverLimit m
      over_limit [] time is some ordered in_time full = absurd (none-some time (sym some))
      over_limit (event ∷ es) time is some ordered in_time full =
          let same : time ≡ event.key.time = ap value some in
          too_many m sim.well_formed e.states.items (event ∷ es) e.count (subst (λ xs. IsWorld m e.states.items xs e.count) (sym is) at.world) 0 event
          (first_at m.duration event es ordered (omega (arith, in_time, same))) refl (omega (arith, full, at.within))

      pub at_end : All (λ (x : Event Body). m.duration ≤ x.key.time) e.pending → IsAtEnd m (Writes text) old now e.count e.journal.clock
      at_end late = record {
        long = at.world.long;
        within = at.within;
        ended = none_left m sim.well_formed e.states.items e.pending e.count at.world late;
        audits = at.audits;
        put = at.written;
      }
