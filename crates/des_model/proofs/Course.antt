-- The least event at hand is the next of the run, and what it leaves is the world one event later.
use Rattle.std.proofs.Common.{
  ◌≡◌,
  ◌≢◌,
  ℕ,
  zero,
  suc,
  ◌+◌,
  ◌<◌,
  ◌≤◌,
  Some,
  None,
  List,
  [],
  ◌∷◌,
  ◌++◌,
  length,
  get_or,
  set,
  refl,
  ap,
  sym,
  ◌∙◌,
  subst,
  arith,
  inl,
  inr,
  ◌⊎◌,
  ⊎_elim,
  ◌↔◌,
  add-one,
  get_or-set_same,
  get_or-set_other,
}
use Rattle.std.proofs.lemmas.Bool.{cases_eq}
use Rattle.std.proofs.Math.ListN.{length-set}
use Rattle.std.specs.List.{Contains, All, remove, cons_option}
use Rattle.des_event.specs.declared.key.Key.{Key}
use Rattle.des_event.specs.declared.event.Event.{Event}
use Rattle.des_event.specs.Keys.{IsAtMost}
use Rattle.des_model.specs.Machine.{Machine}
use Rattle.des_model.specs.Histories.{state, all_events, effect_after, pending, IsPossible, IsNext, next, history, full_history, IsOverLimit}
use Rattle.des_model.specs.WellFormed.{IsWellFormed}
use Rattle.des_model.specs.Worlds.{IsFirstAt, AreStatesAfter, IsWorld, event_pieces}
use Rattle.des_event.proofs.Members.{All_at, contains_at, contains_left, contains_right, contains_append, AllPairs_append}
use Rattle.des_model.proofs.Distinct.{made_fresh, state_here, state_other, sound_state, fit_event, made_apart}
use Rattle.des_model.proofs.Pending.{waits_from}
use Rattle.des_model.proofs.Runs.{none_from_late, next-Some, next_is, possible_from_legal, history_is_legal}
use Rattle.des_model.proofs.Rest.{pending_is_rest, pending_moves}
use Rattle.des_model.proofs.Horizons.{whole_from}
use Rattle.des_event.proofs.Members.{contains_none}
use Rattle.des_model.proofs.Removed.{remove_gone, remove_kept, remove_apart}

pub same_read : {A : Type 0} (xs : List A) (i : ℕ) (d d' : A) → i < length xs → get_or xs i d ≡ get_or xs i d'
same_read [] i d d' l = absurd (omega arith)
same_read (x ∷ xs) zero d d' l = refl
same_read (x ∷ xs) (suc i) d d' l = same_read xs i d d' (omega arith)

module _ {State Body Piece : Type 0} (m : Machine State Body Piece) {Sound : ℕ → State → Type 0} {Fit : Event Body → Type 0}
    (w : IsWellFormed m Sound Fit) where
  possible : (k : ℕ) → IsPossible m (history m k)
  possible k = possible_from_legal m (history m k) (history_is_legal m k)

  abbrev ev_key : Event Body → Key
  ev_key e = e.key

  pub world_at_start : (states : List State) → AreStatesAfter m [] states → IsWorld m states m.start_events 0
  world_at_start states s = record {
    long = refl;
    states_are = s;
    waits = λ x. (λ c. (pending_is_rest m w [] tt x).1 (c, contains_none x), λ c. ((pending_is_rest m w [] tt x).0 c).0);
    apart = w.starts_apart;
  }

  module _ (states : List State) (events : List (Event Body)) (count : ℕ) (a : IsWorld m states events count) where
    -- if no event at hand is below the duration, none may follow
    pub none_left : All (λ (x : Event Body). m.duration ≤ x.key.time) events → next m (history m count) ≡ None
    none_left late = none_from_late m (history m count) (λ x c. All_at (λ (x : Event Body). m.duration ≤ x.key.time) events x late ((a.waits x).1 c))

    -- and the run is whole
    pub whole_at_end : All (λ (x : Event Body). m.duration ≤ x.key.time) events → count ≤ m.max_events → history m count ≡ full_history m
    whole_at_end late within = ((whole_from m w (history m count) (history_is_legal m count) (none_left late)).within_limit (omega (arith, a.long))).0

    module _ (i : ℕ) (e : Event Body) (l : IsFirstAt events m.duration i) (at : e ≡ get_or events i e) where
      is_next : IsNext m (history m count) e
      is_next = record {
        waits = (a.waits e).0 (subst (λ z. Contains events z) (sym at) (contains_at events i e l.inside));
        first = λ x c. subst (λ (z : Event Body). IsAtMost z.key x.key) (sym at)
            (All_at (λ (x : Event Body). IsAtMost (get_or events i e).key x.key) events x (l.first e) ((a.waits x).1 c));
        in_time = subst (λ (z : Event Body). z.key.time < m.duration) (sym at) (l.in_time e);
      }

      pub next_found : next m (history m count) ≡ Some e
      next_found = next_is m w (history m count) e (possible count) is_next

      pub history_goes_on : history m (count + 1) ≡ e ∷ history m count
      history_goes_on = subst (λ k. history m k ≡ e ∷ history m count) (sym (add-one count)) (ap (λ o. cons_option o (history m count)) next_found)

      pub too_many : count ≡ m.max_events → IsOverLimit m
      too_many s = omega (arith, ap length (subst (λ k. history m (k + 1) ≡ e ∷ history m k) s history_goes_on), subst (λ k. length (history m k) ≡ k) s a.long)

      known : Contains (all_events m (history m count)) e
      known = (waits_from m (history m count) e (next-Some m (history m count) e next_found).waits).known

      pub is_fit : Fit e
      is_fit = fit_event m w (history m count) (possible count) e known

      pub is_in_time : e.key.time < m.duration
      is_in_time = is_next.in_time

      pub target_in_range : e.target < length states
      target_in_range = omega (arith, w.in_range e is_fit, (a.states_are).nodes_are)

      pub state_read : (d : State) → get_or states e.target d ≡ state m (history m count) e.target
      state_read d = (a.states_are).state_at e.target d (w.in_range e is_fit)

      pub is_sound : (d : State) → Sound e.target (get_or states e.target d)
      is_sound d = subst (λ z. Sound e.target z) (sym (state_read d)) (sound_state m w (history m count) (possible count) e known)

      pub piece_after : (d : State) → event_pieces m (history m (count + 1)) ≡ event_pieces m (history m count)
          ++ (m.effect (get_or states e.target d) e).piece ∷ []
      piece_after d = ap (event_pieces m) history_goes_on ∙ ap (λ z. event_pieces m (history m count) ++ (m.effect z e).piece ∷ []) (sym (state_read d))

      pub world_after : (d : State) → IsWorld m (set states e.target (m.effect (get_or states e.target d) e).state)
          (remove events i ++ (m.effect (get_or states e.target d) e).events) (count + 1)
      world_after d = rw (state_read d) (record {
        long = omega (arith, ap length history_goes_on, a.long);
        states_are = record {
          nodes_are = omega (arith, length-set states e.target s', (a.states_are).nodes_are);
          state_at = λ n d r. subst (λ z. get_or (set states e.target s') n d ≡ state m z n) (sym history_goes_on) (state_after n d r);
        };
        waits = λ x. (
          λ c. subst (λ z. Contains (pending m z) x) (sym history_goes_on) ((moves x).1 (there x c)),
          λ c. back x
              ((moves x).0 (subst (λ z. Contains (pending m z) x) history_goes_on c)),
        );
        apart = AllPairs_append (λ (a b : Event Body). a.key ≢ b.key) (remove events i) made (remove_apart ev_key events i e l.inside a.apart)
            (made_apart m w (history m count) (possible count) e known) cross;
      })
        where
          s' : State
          s' = (effect_after m (history m count) e).state

          made : List (Event Body)
          made = (effect_after m (history m count) e).events

          state_after : (n : ℕ) (d : State) → n < m.nodes → get_or (set states e.target s') n d ≡ state m (e ∷ history m count) n
          state_after n d r = ⊎_elim
              (λ s. subst (λ k. get_or (set states e.target s') k d ≡ state m (e ∷ history m count) k) s
              (get_or-set_same states e.target s' d target_in_range ∙ sym (state_here m e (history m count) e.target refl)))
              (λ s. get_or-set_other states e.target n s' d (λ k. s (sym k))
              ∙ ((a.states_are).state_at n d r ∙ sym (state_other m e (history m count) n s))) (cases_eq e.target n)

          moves : (x : Event Body) → Contains (pending m (e ∷ history m count)) x
              ↔ ((Contains (pending m (history m count)) x × (x ≢ e)) ⊎ Contains (effect_after m (history m count) e).events x)
          moves x = pending_moves m w (history m count) e (possible count, is_next.waits) x

          there : (x : Event Body) → Contains (remove events i ++ made) x
              → (Contains (pending m (history m count)) x × (x ≢ e)) ⊎ Contains (effect_after m (history m count) e).events x
          there x c =
              ⊎_elim (λ k. let q = remove_gone ev_key events i e x l.inside a.apart k in inl ((a.waits x).0 q.0, subst (λ z. x ≢ z) (sym at) q.1))
              (λ k. inr k) (contains_append (remove events i) made x c)

          back : (x : Event Body) → (Contains (pending m (history m count)) x × (x ≢ e)) ⊎ Contains (effect_after m (history m count) e).events x
              → Contains (remove events i ++ made) x
          back x c =
              ⊎_elim (λ k. contains_left (remove events i) made x (remove_kept ev_key events i e x l.inside ((a.waits x).1 k.0) (subst (λ z. x ≢ z) at k.1)))
              (λ k. contains_right (remove events i) made x k) c

          cross : (x y : Event Body) → Contains (remove events i) x → Contains made y → x.key ≡ y.key → ⊥
          cross x y c k s =
              let old : Contains (all_events m (history m count)) x = (waits_from m (history m count) x
              ((a.waits x).0 (remove_gone ev_key events i e x l.inside a.apart c).0)).known in
              made_fresh m w (history m count) (possible count) e known y x k old (sym s)
