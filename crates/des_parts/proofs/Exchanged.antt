-- The world after the results of all parts were put together.
use Rattle.std.proofs.Common.{◌≡◌, ◌≢◌, ℕ, zero, suc, ◌+◌, ◌<◌, ◌≤◌, List, [], ◌∷◌, ◌++◌, length, get_or, set, refl, ap, sym, ◌∙◌, subst, inl, inr, ◌⊎◌, ⊎_elim, ◌↔◌, arith, get_or-set_same, get_or-set_other}
use Rattle.std.proofs.lemmas.Bool.{cases_eq}
use Rattle.std.proofs.Math.ListN.{length-set}
use Rattle.std.specs.List.{AllPairs, Contains}
use Rattle.des_event.specs.declared.event.Event.{Event}
use Rattle.des_event.proofs.KeyLists.{all_from, Contains-from_IsIn}
use Rattle.des_event.proofs.Members.{All_at, AllPairs_append, AllPairs_none, contains_append, contains_left, contains_none, contains_right, contains_here, contains_there, contains_cons, contains_at}
use Rattle.des_model.specs.Histories.{history, state}
use Rattle.des_model.specs.Laws.{MayOpen}
use Rattle.des_model.specs.PartRuns.{part_run}
use Rattle.des_model.specs.WellFormed.{IsWellFormed}
use Rattle.des_model.specs.Windows.{part_of, IsPartRun, IsSealedRun, made_since}
use Rattle.des_model.proofs.WindowCourse.{since_apart, sum_to}
use Rattle.des_parts.specs.declared.copies.Touched.{Touched}
use Rattle.des_parts.specs.declared.part_run.Done.{Done}
use Rattle.des_parts.specs.declared.world.World.{World}
use Rattle.des_parts.specs.Exchanges.{AreDoneFrom, NameNodes, events_in, mails, with_all, with_states}
use Rattle.des_parts.specs.PartRuns.{HasTouched, IsDone, ran_by}
use Rattle.des_parts.specs.Worlds.{IsWorldOf}
use Rattle.des_model.specs.Machine.{Machine}
use Rattle.des_machine.specs.Simulable.{IsSimulable}

module _ {State Body Piece : Type 0} where
  -- the number of events of the part at a place
  abbrev pub events_at : List (Done State Body Piece) → ℕ → ℕ
  events_at [] q = 0
  events_at (x ∷ xs) zero = x.events
  events_at (x ∷ xs) (suc q) = events_at xs q

sum_first : (f : ℕ → ℕ) (k : ℕ) → sum_to f (suc k) ≡ f 0 + sum_to (λ q. f (suc q)) k
sum_first f zero = refl
sum_first f (suc k) = omega (arith, sum_first f k)

module _ {State Body Piece : Type 0} where
  pub events_sum : (xs : List (Done State Body Piece)) → events_in xs ≡ sum_to (events_at xs) (length xs)
  events_sum [] = refl
  events_sum (x ∷ xs) = ap (λ z. x.events + z) (events_sum xs) ∙ sym (sum_first (events_at (x ∷ xs)) (length xs))

module _ {State : Type 0} where
  -- a state that is put in its node's place
  put_either : (final : ℕ → State) (ns : List (Touched State)) (ss : List State) (i : ℕ) (s : State)
      → ((k : Touched State) → Contains ns k → (k.node < length ss) × (k.state ≡ final k.node))
      → (get_or (with_states ns ss) i s ≡ final i) ⊎ (((k : Touched State) → Contains ns k → k.node ≢ i) × (get_or (with_states ns ss) i s ≡ get_or ss i s))
  put_either final [] ss i s each = inr (λ k c. absurd (contains_none k c), refl)
  put_either final (n ∷ ns) ss i s each = ⊎_elim (λ done. inl done) (λ rest. here rest)
      (put_either final ns (set ss n.node n.state) i s
      (λ k c. let f = each k (contains_there k n ns c) in (omega (arith, f.0, length-set ss n.node n.state), f.1)))
    where
      here : (((k : Touched State) → Contains ns k → k.node ≢ i) × (get_or (with_states ns (set ss n.node n.state)) i s ≡ get_or (set ss n.node n.state) i s))
          → (get_or (with_states ns (set ss n.node n.state)) i s ≡ final i) ⊎ (((k : Touched State) → Contains (n ∷ ns) k → k.node ≢ i)
          × (get_or (with_states ns (set ss n.node n.state)) i s ≡ get_or ss i s))
      here rest = ⊎_elim
          (λ same. inl (rest.1 ∙ ap (λ z. get_or (set ss n.node n.state) z s) same ∙ get_or-set_same ss n.node n.state s (each n (contains_here n ns)).0
          ∙ (each n (contains_here n ns)).1 ∙ ap final (sym same)))
          (λ ne. inr (
            λ k c. ⊎_elim (λ e. λ s. ne (sym s ∙ ap (λ (z : Touched State). z.node) (sym e))) (λ r. rest.0 k r) (contains_cons k n ns c),
            rest.1
                ∙ get_or-set_other ss n.node i n.state s ne,
          ))
          (cases_eq i n.node)

  pub long_states : (ns : List (Touched State)) (ss : List State) → length (with_states ns ss) ≡ length ss
  long_states [] ss = refl
  long_states (n ∷ ns) ss = long_states ns (set ss n.node n.state) ∙ length-set ss n.node n.state

module _ {State Body Piece : Type 0} where
  pub long_all : (xs : List (Done State Body Piece)) (ss : List State) → length (with_all xs ss) ≡ length ss
  long_all [] ss = refl
  long_all (x ∷ xs) ss = long_all xs (with_states x.nodes.items ss) ∙ long_states x.nodes.items ss

module _ {State Body Piece : Type 0} {Sound : ℕ → State → Type 0} {Fit : Event Body → Type 0} {Room : State → Type 0} (m : Machine State Body Piece)
    (Known : Piece → Type 0) (sim : IsSimulable m Sound Fit Room) (world : World State Body) (is : IsWorldOf m world) (horizon time : ℕ)
    (o : MayOpen m (history m world.count) time horizon) (n : ℕ → ℕ) where
  w : IsWellFormed m Sound Fit
  w = sim.well_formed

  -- the list of a part
  abbrev pub lists : ℕ → List (Event Body)
  lists q = part_run m world.division (history m world.count) horizon q (n q)

  pub done_list : (k : ℕ) (x : Done State Body Piece) → IsDone m Known world horizon k x → x.events ≡ n k → ran_by m world horizon x ≡ lists k
  done_list k x d e = ap (λ p. part_run m world.division (history m world.count) horizon p x.events) d.part_is
      ∙ ap (λ z. part_run m world.division (history m world.count) horizon k z) e

  final : ℕ → State
  final i = state m (lists (part_of world.division i) ++ history m world.count) i

  -- the states, as far as they were put in place
  IsPut : ℕ → List State → Type 0
  IsPut k ss = (i : ℕ) (s : State) → i < m.nodes → (get_or ss i s
      ≡ state m (lists (part_of world.division i) ++ history m world.count) i)
      ⊎ ((k ≤ part_of world.division i) × (get_or ss i s ≡ state m (history m world.count) i))

  touched_in : (k : ℕ) (x : Done State Body Piece) → IsDone m Known world horizon k x → x.events ≡ n k
      → HasTouched m world.division (history m world.count) (lists k) k x.nodes.items
  touched_in k x d e = subst (λ p. HasTouched m world.division (history m world.count) (lists k) p x.nodes.items) d.part_is
      (subst (λ l. HasTouched m world.division (history m world.count) l x.part x.nodes.items) (done_list k x d e) d.nodes_are)

  put_next : (k : ℕ) (x : Done State Body Piece) (ss : List State) → length ss ≡ m.nodes → IsDone m Known world horizon k x → x.events ≡ n k → IsPut k ss
      → IsPut (suc k) (with_states x.nodes.items ss)
  unfolding IsPut
  put_next k x ss long d e put i s l = ⊎_elim (λ f. inl f) (λ rest. old rest)
      (put_either (λ j. state m (lists (part_of world.division j) ++ history m world.count) j) x.nodes.items ss i s
      (λ z c. let f = All_at (λ (y : Touched State). (y.node < m.nodes) × (part_of world.division y.node ≡ k)
      × (y.state ≡ state m (lists k ++ history m world.count) y.node)) x.nodes.items z touched.touched c in
      (omega (arith, f.0, long), f.2 ∙ ap (λ p. state m (lists p ++ history m world.count) z.node) (sym f.1))))
    where
      touched : HasTouched m world.division (history m world.count) (lists k) k x.nodes.items
      touched = touched_in k x d e

      old : ((z : Touched State) → Contains x.nodes.items z → z.node ≢ i) × (get_or (with_states x.nodes.items ss) i s ≡ get_or ss i s)
          → (get_or (with_states x.nodes.items ss) i s ≡ state m (lists (part_of world.division i) ++ history m world.count) i)
          ⊎ ((suc k ≤ part_of world.division i) × (get_or (with_states x.nodes.items ss) i s ≡ state m (history m world.count) i))
      old rest = ⊎_elim (λ f. inl (rest.1 ∙ f))
          (λ b. ⊎_elim
          (λ same. inl (rest.1 ∙ b.1 ∙ sym (touched.others i l same (λ j d l2. rest.0 (get_or x.nodes.items j d) (contains_at x.nodes.items j d l2)))
          ∙ ap (λ p. state m (lists p ++ history m world.count) i) (sym same)))
          (λ ne. let differ : part_of world.division i ≢ k = ne in inr (omega (arith, b.0), rest.1 ∙ b.1))
          (cases_eq (part_of world.division i) k))
          (put i s l)

  put_rest : (k : ℕ) (xs : List (Done State Body Piece)) (ss : List State) → length ss ≡ m.nodes → AreDoneFrom m Known world horizon k xs
      → ((j : ℕ) → j < length xs → events_at xs j ≡ n (k + j)) → IsPut k ss → IsPut (k + length xs) (with_all xs ss)
  put_rest k [] ss long each along put = subst (λ z. IsPut z ss) (omega arith) put
  put_rest k (x ∷ xs) ss long each along put =
      subst (λ z. IsPut z (with_all (x ∷ xs) ss)) (omega arith)
      (put_rest (suc k) xs (with_states x.nodes.items ss) (long_states x.nodes.items ss ∙ long) each.1
      (λ j l. along (suc j) (omega (arith, l)) ∙ ap n (omega arith))
      (put_next k x ss long each.0 (along 0 (omega arith) ∙ ap n (omega arith)) put))

  -- the mail of the parts from k on
  MailIs : ℕ → List (Done State Body Piece) → Event Body → Type 0
  MailIs k xs x = Contains (mails xs) x ↔ ((q : ℕ) × (k ≤ q) × (q < k + length xs)
      × Contains (made_since m (history m world.count) (lists q)) x × (horizon ≤ x.key.time))

  mail_cons : (k : ℕ) (d : Done State Body Piece) (xs : List (Done State Body Piece)) → IsDone m Known world horizon k d → d.events ≡ n k
      → (x : Event Body) → MailIs (suc k) xs x → MailIs k (d ∷ xs) x
  unfolding MailIs
  mail_cons k d xs each here_events x rest = (there, back)
    where
      here_is : ran_by m world horizon d ≡ lists k
      here_is = done_list k d each here_events

      there : Contains (d.mail.items ++ mails xs) x → (q : ℕ) × (k ≤ q) × (q < k + length (d ∷ xs))
          × Contains (made_since m (history m world.count) (lists q)) x × (horizon ≤ x.key.time)
      there c = ⊎_elim
          (λ mm. let f = (each.mail_is x).0 mm in (
            k,
            omega arith,
            omega arith,
            subst
                (λ l. Contains (made_since m (history m world.count) l) x) here_is f.0,
            f.1,
          ))
          (λ mm. let f = rest.0 mm in (f.0, omega (arith, f.1), omega (arith, f.2), f.3, f.4))
          (contains_append d.mail.items (mails xs) x c)

      back : (q : ℕ) × (k ≤ q) × (q < k + length (d ∷ xs)) × Contains (made_since m (history m world.count) (lists q)) x
          × (horizon ≤ x.key.time) → Contains (d.mail.items ++ mails xs) x
      back f = ⊎_elim
          (λ same. contains_left d.mail.items (mails xs) x ((each.mail_is x).1 (
            subst (λ l. Contains (made_since m (history m world.count) l) x) (sym here_is)
                (subst (λ z. Contains (made_since m (history m world.count) (lists z)) x) same f.3),
            f.4,
          )))
          (λ ne. let differ : f.0 ≢ k = ne in contains_right d.mail.items (mails xs) x (rest.1 (f.0, omega (arith, f.1), omega (arith, f.2), f.3, f.4)))
          (cases_eq f.0 k)

  pub mail_in : (k : ℕ) (xs : List (Done State Body Piece)) → AreDoneFrom m Known world horizon k xs
      → ((j : ℕ) → j < length xs → events_at xs j ≡ n (k + j)) → (x : Event Body)
      → Contains (mails xs) x ↔ ((q : ℕ) × (k ≤ q) × (q < k + length xs)
      × Contains (made_since m (history m world.count) (lists q)) x × (horizon ≤ x.key.time))
  unfolding MailIs
  mail_in k [] each along x = (λ c. absurd (contains_none x c), λ q. absurd (omega (arith, q.1, q.2)))
  mail_in k (d ∷ xs) each along x = mail_cons k d xs each.0 (along 0 (omega arith) ∙ ap n (omega arith)) x
      (mail_in (suc k) xs each.1 (λ j l. along (suc j) (omega (arith, l)) ∙ ap n (omega arith)) x)

  pub mail_apart : (k : ℕ) (xs : List (Done State Body Piece)) → AreDoneFrom m Known world horizon k xs → ((j : ℕ) → j < length xs → events_at xs j ≡ n (k + j))
      → ((q : ℕ) → k ≤ q → q < k + length xs → IsPartRun m world.division (history m world.count) horizon q (lists q))
      → AllPairs (λ (a b : Event Body). a.key ≢ b.key) (mails xs)
  mail_apart k [] each along runs = AllPairs_none (λ (a b : Event Body). a.key ≢ b.key)
  mail_apart k (d ∷ xs) each along runs = AllPairs_append (λ (a b : Event Body). a.key ≢ b.key) d.mail.items (mails xs) (each.0).mail_apart
      (mail_apart (suc k) xs each.1 (λ j l. along (suc j) (omega (arith, l)) ∙ ap n (omega arith)) (λ q a b. runs q (omega (arith, a)) (omega (arith, b))))
      (λ x y c mm s.
      let f = ((each.0).mail_is x).0 c in
      let here_is : ran_by m world horizon d ≡ lists k = done_list k d each.0 (along 0 (omega arith) ∙ ap n (omega arith)) in
      let g = (mail_in (suc k) xs each.1 (λ j l. along (suc j) (omega (arith, l)) ∙ ap n (omega arith)) y).0 mm in
      let apart_from : k ≢ g.0 = λ e. omega (arith, e, g.1) in
      since_apart m w world.division is.divides world.count time horizon o k g.0 (lists k) (lists g.0) (runs k (omega arith) (omega arith))
      (runs g.0 (omega (arith, g.1)) (omega (arith, g.2))) apart_from x y
      (subst (λ l. Contains (made_since m (history m world.count) l) x) here_is f.0) g.3 s)

  pub sealed_in : (k : ℕ) (xs : List (Done State Body Piece)) → AreDoneFrom m Known world horizon k xs
      → ((j : ℕ) → j < length xs → events_at xs j ≡ n (k + j)) → (q : ℕ)
      → k ≤ q → q < k + length xs
      → IsSealedRun m world.division (history m world.count) horizon q (lists q) × (length (lists q) ≡ n q)
  sealed_in k [] each along q a b = absurd (omega (arith, a, b))
  sealed_in k (d ∷ xs) each along q a b = ⊎_elim
      (λ same. subst (λ z. IsSealedRun m world.division (history m world.count) horizon z (lists z) × (length (lists z) ≡ n z)) (sym same)
      (subst (λ l. IsSealedRun m world.division (history m world.count) horizon k l × (length l ≡ n k)) (done_list k d each.0 here_events) (
        subst (λ p. IsSealedRun m world.division (history m world.count) horizon p (ran_by m world horizon d)) (each.0).part_is
            (each.0).sealed,
        (each.0).long ∙ here_events,
      )))
      (λ ne. let differ : q ≢ k = ne in sealed_in (suc k) xs each.1 (λ j l. along (suc j) (omega (arith, l)) ∙ ap n (omega arith)) q
      (omega (arith, a)) (omega (arith, b)))
      (cases_eq q k)
    where
      here_events : d.events ≡ n k
      here_events = along 0 (omega arith) ∙ ap n (omega arith)

  pub names_in : (k : ℕ) (xs : List (Done State Body Piece)) → AreDoneFrom m Known world horizon k xs → NameNodes m.nodes xs
  names_in k [] each = tt
  names_in k (d ∷ xs) each = (
    all_from (λ (s : Touched State). s.node < m.nodes) d.nodes.items
        (λ z c. (All_at (λ (y : Touched State). (y.node < m.nodes) × (part_of world.division y.node ≡ d.part)
        × (y.state ≡ state m (ran_by m world horizon d ++ history m world.count) y.node)) d.nodes.items z ((each.0).nodes_are).touched
        (Contains-from_IsIn d.nodes.items z c)).0),
    names_in (suc k) xs each.1,
  )

  pub states_put : (xs : List (Done State Body Piece)) → AreDoneFrom m Known world horizon 0 xs → ((j : ℕ) → j < length xs → events_at xs j ≡ n j)
      → length xs ≡ world.division.parts → (i : ℕ) (s : State) → i < m.nodes
      → part_of world.division i < world.division.parts → get_or (with_all xs world.states.items) i s
      ≡ state m (lists (part_of world.division i) ++ history m world.count) i
  unfolding IsPut
  states_put xs each along long i s l inside = ⊎_elim (λ f. f) (λ b. absurd (omega (arith, b.0, inside, long)))
      (put_rest 0 xs world.states.items is.states_are.nodes_are each (λ j k. along j k ∙ ap n (omega arith))
      (λ j d k. inr (omega arith, is.states_are.state_at j d k)) i s l)

module _ {State Body Piece : Type 0} where
  -- the result of one part more
  pub push_done : (m : Machine State Body Piece) (Known : Piece → Type 0) (world : World State Body) (horizon k part : ℕ)
      (xs : List (Done State Body Piece)) (x : Done State Body Piece) → AreDoneFrom m Known world horizon k xs
      → part ≡ k + length xs → IsDone m Known world horizon part x → AreDoneFrom m Known world horizon k (xs ++ x ∷ [])
  push_done m Known world horizon k part [] x each at d = (subst (λ p. IsDone m Known world horizon p x) (omega (arith, at)) d, tt)
  push_done m Known world horizon k part (y ∷ xs) x each at d = (each.0, push_done m Known world horizon (suc k) part xs x each.1 (omega (arith, at)) d)
