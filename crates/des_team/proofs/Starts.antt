-- The parts get what a run starts with.
use Rattle.std.proofs.Common.{◌≡◌, ◌≢◌, ◌∙◌, ◌↔◌, ◌⊎◌, inl, inr, ⊎_elim, ℕ, zero, suc, ◌+◌, ◌-◌, ◌<◌, ◌≤◌, ◌==◌, Bool, true, false, cond, List, [], ◌∷◌, ◌++◌, Option, None, Some, Vec, option_map, length, length-append, append_assoc, append-nil, add-one, get_or, set, refl, ap, sym, subst, arith, eq-eqb, ltb-true, get_or-set_same, get_or-set_other}
use Rattle.std.proofs.lemmas.Bool.{cases_eq, cond-true, cond-false, ltb-false, ne_eqb}
use Rattle.std.proofs.lemmas.List.{get_or_append_left, get_or-append-add, length-set}
use Rattle.std.proofs.lemmas.List.Sorted.{Contains-permutation, IsPermutation-sym, IsPermutation-refl}
use Rattle.std.proofs.KnownBytes.{Appends-nil}
use Rattle.std.specs.Global.{Global}
use Rattle.std.specs.List.{All, Contains}
use Rattle.std.specs.List.Sorted.{IsPermutation}
use Rattle.std.specs.Prelude.{nat_lt}
use Rattle.des_event.specs.declared.event.Event.{Event}
use Rattle.des_event.specs.KeyOrder.{InKeyOrder, IsNewKey, put_in_order}
use Rattle.des_event.proofs.KeyLists.{all_from, in_put, ordered_put, put_in, Contains-from_IsIn, IsIn-from_Contains}
use Rattle.des_event.proofs.Members.{All_at, All_from, AllPairs_append, AllPairs_at, AllPairs_rest, contains_append, contains_cons, contains_here, contains_left, contains_none, contains_right, contains_there}
use Rattle.des_model.specs.Histories.{history, next, pending}
use Rattle.des_model.specs.Windows.{Division, Divides, part_of}
use Rattle.des_model.proofs.Runs.{next-None, next-Some, none_from_late}
use Rattle.des_model.specs.Worlds.{AreStatesAfter}
use Rattle.des_model.proofs.Rest.{pending_is_rest}
use Rattle.des_machine.specs.declared.journal.Journal.{Journal}
use Rattle.des_machine.proofs.Ends.{audits_at_start}
use Rattle.des_machine.specs.Simulable.{IsSimulable}
use Rattle.des_queue.specs.EventKey.{event_key}
use Rattle.des_queue.proofs.Inserting.{apart_across, ordered_apart}
use Rattle.des_window.specs.declared.opening.Opening.{Opening}
use Rattle.des_window.specs.Openings.{sooner}
use Rattle.des_team.specs.Chronicles.{Chronicle}
use Rattle.des_team.specs.declared.layout.Layout.{Layout}
use Rattle.des_team.specs.declared.part.OwnedPart.{OwnedPart}
use Rattle.des_team.specs.declared.part.Parcel.{Parcel}
use Rattle.des_team.specs.Layouts.{IsLayout, nodes_before, slot_of}
use Rattle.des_team.specs.Mail.{all_of}
use Rattle.des_team.specs.Owned.{AreApart, HasSentAll, IsOwned, LeastTimeIs, events_of, with_part}
use Rattle.des_team.specs.Starts.{AreEmptyParts, AreParcelsOf, HasEvents, HasStates, HaveEvents, HaveStates, IsEmptyPart, IsParcelOf, states_for}
use Rattle.des_team.specs.Teams.{AreHere, IsHere, IsTeam, before_end}
use Rattle.des_team.proofs.Slots.{count_elsewhere, count_grows, count_here}
use Rattle.des_team.proofs.TeamMail.{or_same}

-- Empty parts

module _ {M State Body Piece S : Type 0} where
  pub parts_none : (HasCounted : List Piece → S → Type 0) (parts : ℕ) (ps : List (OwnedPart M S State Body Piece)) → ps ≡ []
      → AreEmptyParts HasCounted parts 0 ps
  parts_none HasCounted parts ps none = record { long = ap length none; each = λ p o k. absurd (omega (arith, k)) }

  pub parts_more : (HasCounted : List Piece → S → Type 0) (parts n : ℕ) (ps more : List (OwnedPart M S State Body Piece))
      (new : OwnedPart M S State Body Piece) → AreEmptyParts HasCounted parts n ps → IsEmptyPart HasCounted parts n new
      → more ≡ ps ++ new ∷ [] → AreEmptyParts HasCounted parts (n + 1) more
  parts_more HasCounted parts n ps more new h here is = record {
    long = omega (arith, ap length is, length-append ps (new ∷ []), h.long);
    each = λ p o k. subst (λ l. IsEmptyPart HasCounted parts p (get_or l p o)) (sym is) (⊎_elim
        (λ e.
        let place : p ≡ length ps + 0 = omega (arith, e, h.long) in
        subst (λ z. IsEmptyPart HasCounted parts p z) (sym (ap (λ i. get_or (ps ++ new ∷ []) i o) place ∙ get_or-append-add ps (new ∷ []) 0 o))
        (subst (λ i. IsEmptyPart HasCounted parts i new) (sym e) here))
        (λ ne.
        let differ : p ≢ n = ne in
        subst (λ z. IsEmptyPart HasCounted parts p z) (sym (get_or_append_left ps (new ∷ []) o p (omega (arith, k, differ, h.long))))
        (h.each p o (omega (arith, k, differ))))
        (cases_eq p n));
  }

-- The parcels

module _ {M State Body Piece S : Type 0} where
  pub parcels_more : (parts : List (OwnedPart M S State Body Piece)) (parcels more : List (Option (Parcel M S State Body Piece)))
      (part : OwnedPart M S State Body Piece) (parcel : Parcel M S State Body Piece) → AreParcelsOf parts parcels
      → IsParcelOf part parcel → more ≡ parcels ++ Some parcel ∷ [] → AreParcelsOf (parts ++ part ∷ []) more
  parcels_more parts parcels more part parcel h here is = record {
    long = omega (arith, ap length is, length-append parcels (Some parcel ∷ []), length-append parts (part ∷ []), h.long);
    each = λ p o k. ⊎_elim
        (λ e.
        let place : p ≡ length parts + 0 = omega (arith, e) in
        let other : p ≡ length parcels + 0 = omega (arith, e, h.long) in (
          parcel,
          ap (λ l. get_or l p None) is ∙ ap (λ i. get_or (parcels ++ Some parcel ∷ []) i None) other ∙ get_or-append-add parcels (Some parcel ∷ []) 0 None,
          subst (λ z. IsParcelOf z parcel) (sym (ap (λ i. get_or (parts ++ part ∷ []) i o) place ∙ get_or-append-add parts (part ∷ []) 0 o)) here,
        ))
        (λ ne.
        let differ : p ≢ length parts = ne in
        let inside : p < length parts = omega (arith, k, differ, length-append parts (part ∷ [])) in
        let r = h.each p o inside in (
          r.0,
          ap (λ l. get_or l p None) is ∙ get_or_append_left parcels (Some parcel ∷ []) None p (omega (arith, inside, h.long)) ∙ r.1,
          subst (λ z. IsParcelOf z r.0) (sym (get_or_append_left parts (part ∷ []) o p inside)) r.2,
        ))
        (cases_eq p (length parts));
  }

-- The states

module _ (d : Division) where
  module _ {State : Type 0} where
    next_here : (part node : ℕ) (s : State) (ss : List State) → part_of d node ≡ part
        → states_for d part node (s ∷ ss) ≡ s ∷ states_for d part (suc node) ss
    next_here part node s ss is = cond-true (part_of d node == part) (s ∷ states_for d part (suc node) ss) (states_for d part (suc node) ss)
        (eq-eqb (part_of d node) part is)

    next_elsewhere : (part node : ℕ) (s : State) (ss : List State) → part_of d node ≢ part
        → states_for d part node (s ∷ ss) ≡ states_for d part (suc node) ss
    next_elsewhere part node s ss not = cond-false (part_of d node == part) (s ∷ states_for d part (suc node) ss) (states_for d part (suc node) ss)
        (ne_eqb (part_of d node) part not)

    -- a state of the part is where the nodes before it end
    abbrev IsReadAt : List State → ℕ → List State → ℕ → Type 0
    IsReadAt dealt k all j = (k < length dealt) × ((s : State) → get_or dealt k s ≡ get_or all j s)

    pub dealt_read : (part : ℕ) (ss : List State) (node j k : ℕ) → k + nodes_before d part node ≡ nodes_before d part (node + j)
        → part_of d (node + j) ≡ part → j < length ss → IsReadAt (states_for d part node ss) k ss j
    dealt_read part [] node j k count is inside = absurd (omega (arith, inside))
    dealt_read part (x ∷ ss) node zero k count is inside =
        let same : node + 0 ≡ node = omega arith in
        let none : k ≡ 0 = omega (arith, count, ap (nodes_before d part) same) in
        subst (λ l. IsReadAt l k (x ∷ ss) 0) (sym (next_here part node x ss (sym (ap (part_of d) same) ∙ is)))
        (subst (λ i. IsReadAt (x ∷ states_for d part (suc node) ss) i (x ∷ ss) 0) (sym none) (omega arith, λ s. refl))
    dealt_read part (x ∷ ss) node (suc j) k count is inside =
        let same : node + suc j ≡ suc node + j = omega arith in
        let later : part_of d (suc node + j) ≡ part = sym (ap (part_of d) same) ∙ is in
        let whole : k + nodes_before d part node ≡ nodes_before d part (suc node + j) = count ∙ ap (nodes_before d part) same in
        ⊎_elim
        (λ here.
        let more = count_here d part node here in
        let grown = count_grows d part (suc node) (suc node + j) (omega arith) in
        let rest = dealt_read part ss (suc node) j (k - 1) (omega (arith, whole, more, grown)) later (omega (arith, inside)) in
        let place : suc (k - 1) ≡ k = omega (arith, whole, more, grown) in
        subst (λ l. IsReadAt l k (x ∷ ss) (suc j)) (sym (next_here part node x ss here))
        (subst (λ i. IsReadAt (x ∷ states_for d part (suc node) ss) i (x ∷ ss) (suc j)) place (omega (arith, rest.0), λ s. rest.1 s)))
        (λ elsewhere.
        let rest = dealt_read part ss (suc node) j k (omega (arith, whole, count_elsewhere d part node elsewhere)) later (omega (arith, inside)) in
        subst (λ l. IsReadAt l k (x ∷ ss) (suc j)) (sym (next_elsewhere part node x ss elsewhere)) (rest.0, λ s. rest.1 s))
        (cases_eq (part_of d node) part)

  module _ {M State Body Piece S : Type 0} where
    -- the part has what came to it, and with its states of the rest it has all
    pub record IsDealt (part node : ℕ) (rest all : List State) (old now : OwnedPart M S State Body Piece) : Type 0 where
      pub whole : now.states.items ++ states_for d part node rest ≡ old.states.items ++ states_for d part 0 all
      pub others : now ≡ record old { states = now.states }

    pub record AreDealt (node : ℕ) (rest all : List State) (old now : List (OwnedPart M S State Body Piece)) : Type 0 where
      pub long : length now ≡ length old
      pub each : (p : ℕ) (o : OwnedPart M S State Body Piece) → p < length old → IsDealt p node rest all (get_or old p o) (get_or now p o)

    pub dealt_one : (node : ℕ) (rest all : List State) (old now : List (OwnedPart M S State Body Piece)) → AreDealt node rest all old now
        → (x : State) (next : List State)
        → rest ≡ x ∷ next → part_of d node < length old → (a : OwnedPart M S State Body Piece) → a ≡ get_or now (part_of d node) a → (v : Vec State Global)
        → v.items ≡ a.states.items ++ x ∷ [] → AreDealt (node + 1) next all old (set now (part_of d node) (record a { states = v }))
    dealt_one node rest all old now h x next is inside a read v pushed = record {
      long = length-set now (part_of d node) (record a { states = v }) ∙ h.long;
      each = λ p o k. ⊎_elim
          (λ e. subst (λ q. IsDealt q (node + 1) next all (get_or old q o) (get_or (set now (part_of d node) (record a { states = v })) q o)) (sym e)
          (subst (λ z. IsDealt (part_of d node) (node + 1) next all (get_or old (part_of d node) o) z)
          (sym (get_or-set_same now (part_of d node) (record a { states = v }) o (omega (arith, inside, h.long)))) (mine o)))
          (λ ne. subst (λ z. IsDealt p (node + 1) next all (get_or old p o) z)
          (sym (get_or-set_other now (part_of d node) p (record a { states = v }) o ne)) (other p o k (λ s. ne (sym s))))
          (cases_eq p (part_of d node));
    }
      where
        mine : (o : OwnedPart M S State Body Piece) → IsDealt (part_of d node) (node + 1) next all (get_or old (part_of d node) o) (record a { states = v })
        mine o =
            let before = h.each (part_of d node) o inside in
            let same : get_or now (part_of d node) o ≡ a = or_same now (part_of d node) o a (omega (arith, inside, h.long)) ∙ sym read in
            record {
              whole = ap (λ n. v.items ++ states_for d (part_of d node) n next) (add-one node)
                  ∙ ap (λ l. l ++ states_for d (part_of d node) (suc node) next) pushed
                  ∙ append_assoc a.states.items (x ∷ []) (states_for d (part_of d node) (suc node) next)
                  ∙ ap (λ l. a.states.items ++ l) (sym (next_here (part_of d node) node x next refl) ∙ ap (states_for d (part_of d node) node) (sym is))
                  ∙ ap (λ (z : OwnedPart M S State Body Piece). z.states.items ++ states_for d (part_of d node) node rest) (sym same) ∙ before.whole;
              others = ap (λ (z : OwnedPart M S State Body Piece). record z { states = v }) (sym same ∙ before.others);
            }

        other : (p : ℕ) (o : OwnedPart M S State Body Piece) → p < length old → part_of d node ≢ p
            → IsDealt p (node + 1) next all (get_or old p o) (get_or now p o)
        other p o k ne =
            let before = h.each p o k in
            record {
              whole = ap (λ l. (get_or now p o).states.items ++ l) (ap (λ n. states_for d p n next) (add-one node)
                  ∙ sym (next_elsewhere p node x next ne) ∙ ap (states_for d p node) (sym is)) ∙ before.whole;
              others = before.others;
            }

    pub dealt_all : (node : ℕ) (rest all : List State) (old now : List (OwnedPart M S State Body Piece)) → AreDealt node rest all old now → rest ≡ []
        → HaveStates d all old now
    dealt_all node rest all old now h none = record {
      long = h.long;
      each = λ p o k.
          let r = h.each p o k in
          record {
            states_are = sym (append-nil (get_or now p o).states.items)
                ∙ ap (λ l. (get_or now p o).states.items ++ states_for d p node l) (sym none) ∙ r.whole;
            others = r.others;
          };
    }

-- The events

module _ {Body : Type 0} where
  back : (xs ys : List (Event Body)) → AreApart (xs ++ ys) → AreApart ys
  back [] ys all = all
  back (x ∷ xs) ys all = back xs ys (AllPairs_rest (λ (a b : Event Body). a.key ≢ b.key) x (xs ++ ys) all)

module _ (d : Division) where
  module _ {M State Body Piece S : Type 0} (p : ℕ) (sent rest : List (Event Body)) (old now : OwnedPart M S State Body Piece) (event : Event Body)
      (next : List (Event Body))
      (g : HasEvents d p sent rest old now) (is : rest ≡ event ∷ next) where
    all : AreApart (now.pending ++ event ∷ next)
    all = subst (λ l. AreApart (now.pending ++ l)) is g.apart

    pub is_new : IsNewKey event_key event.key now.pending
    is_new = all_from (λ (y : Event Body). y.key ≢ event.key) now.pending
        (λ y c. apart_across now.pending (event ∷ next) all y event (Contains-from_IsIn now.pending y c) (contains_here event next))

    pushed : (x : Event Body) → Contains (sent ++ event ∷ []) x → Contains sent x ⊎ (event ≡ x)
    pushed x c = ⊎_elim (λ k. inl k) (λ k. ⊎_elim (λ e. inr e) (λ r. absurd (contains_none x r)) (contains_cons x event [] k))
        (contains_append sent (event ∷ []) x c)

    pub event_here : (after : OwnedPart M S State Body Piece) → after ≡ record now { pending = after.pending }
        → after.pending ≡ put_in_order event_key event now.pending
        → part_of d event.target ≡ p → HasEvents d p (sent ++ event ∷ []) next old after
    event_here after others put here = record {
      same = λ x. (λ c. there x (subst (λ l. Contains l x) put c), λ c. subst (λ l. Contains l x) (sym put) (again x c));
      ordered = subst (λ l. InKeyOrder event_key l) (sym put) ordered;
      apart = subst (λ l. AreApart (l ++ next)) (sym put)
          (AllPairs_append (λ (a b : Event Body). a.key ≢ b.key) (put_in_order event_key event now.pending) next
          (ordered_apart (put_in_order event_key event now.pending) ordered)
          (AllPairs_rest (λ (a b : Event Body). a.key ≢ b.key) event next (back now.pending (event ∷ next) all))
          (λ x y c k. ⊎_elim
          (λ (e : x ≡ event). subst (λ (z : Event Body). z.key ≢ y.key) (sym e)
          (AllPairs_at (λ (a b : Event Body). a.key ≢ b.key) event next (back now.pending (event ∷ next) all) y k))
          (λ r. apart_across now.pending (event ∷ next) all x y (Contains-from_IsIn now.pending x r) (contains_there y event next k))
          (in_put event_key event now.pending x (IsIn-from_Contains (put_in_order event_key event now.pending) x c))));
      others = others ∙ ap (λ (z : OwnedPart M S State Body Piece). record z { pending = after.pending }) g.others;
    }
      where
        ordered : InKeyOrder event_key (put_in_order event_key event now.pending)
        ordered = ordered_put event_key event now.pending g.ordered is_new

        there : (x : Event Body) → Contains (put_in_order event_key event now.pending) x → Contains (sent ++ event ∷ []) x × (part_of d x.target ≡ p)
        there x c = ⊎_elim
            (λ (e : x ≡ event). (
              subst (λ z. Contains (sent ++ event ∷ []) z) (sym e) (contains_right sent (event ∷ []) event (contains_here event [])),
              subst (λ (z : Event Body). part_of d z.target ≡ p) (sym e) here,
            ))
            (λ r. let k = (g.same x).0 (Contains-from_IsIn now.pending x r) in (contains_left sent (event ∷ []) x k.0, k.1))
            (in_put event_key event now.pending x (IsIn-from_Contains (put_in_order event_key event now.pending) x c))

        again : (x : Event Body) → Contains (sent ++ event ∷ []) x × (part_of d x.target ≡ p) → Contains (put_in_order event_key event now.pending) x
        again x c = Contains-from_IsIn (put_in_order event_key event now.pending) x (put_in event_key event now.pending x (⊎_elim
            (λ k. inr (IsIn-from_Contains now.pending x ((g.same x).1 (k, c.1))))
            (λ e. inl (sym e))
            (pushed x c.0)))

    pub event_there : part_of d event.target ≢ p → HasEvents d p (sent ++ event ∷ []) next old now
    event_there elsewhere = record {
      same = λ x. (
        λ c. let k = (g.same x).0 c in (contains_left sent (event ∷ []) x k.0, k.1),
        λ c. (g.same x).1 (
          ⊎_elim (λ k. k)
              (λ (e : event ≡ x). absurd (elsewhere (ap (λ (z : Event Body). part_of d z.target) e ∙ c.1))) (pushed x c.0),
          c.1,
        ),
      );
      ordered = g.ordered;
      apart = AllPairs_append (λ (a b : Event Body). a.key ≢ b.key) now.pending next (ordered_apart now.pending g.ordered)
          (AllPairs_rest (λ (a b : Event Body). a.key ≢ b.key) event next (back now.pending (event ∷ next) all))
          (λ x y c k. apart_across now.pending (event ∷ next) all x y c (contains_there y event next k));
      others = g.others;
    }

  module _ {M State Body Piece S : Type 0} where
    pub events_one : (sent rest : List (Event Body)) (old now : List (OwnedPart M S State Body Piece)) → HaveEvents d sent rest old now
        → (event : Event Body) (next : List (Event Body))
        → rest ≡ event ∷ next → part_of d event.target < length old → (a : OwnedPart M S State Body Piece) → a ≡ get_or now (part_of d event.target) a
        → (after : List (Event Body)) → after ≡ put_in_order event_key event a.pending
        → HaveEvents d (sent ++ event ∷ []) next old (set now (part_of d event.target) (record a { pending = after }))
    events_one sent rest old now h event next is inside a read after put = record {
      long = length-set now (part_of d event.target) (record a { pending = after }) ∙ h.long;
      each = λ p o k. ⊎_elim
          (λ e. subst (λ q. HasEvents d q (sent ++ event ∷ []) next (get_or old q o)
          (get_or (set now (part_of d event.target) (record a { pending = after })) q o)) (sym e)
          (subst (λ z. HasEvents d (part_of d event.target) (sent ++ event ∷ []) next (get_or old (part_of d event.target) o) z)
          (sym (get_or-set_same now (part_of d event.target) (record a { pending = after }) o (omega (arith, inside, h.long)))) (mine o)))
          (λ ne. subst (λ z. HasEvents d p (sent ++ event ∷ []) next (get_or old p o) z)
          (sym (get_or-set_other now (part_of d event.target) p (record a { pending = after }) o ne))
          (event_there p sent rest (get_or old p o) (get_or now p o) event next (h.each p o k) is (λ s. ne (sym s))))
          (cases_eq p (part_of d event.target));
    }
      where
        mine : (o : OwnedPart M S State Body Piece) → HasEvents d (part_of d event.target) (sent ++ event ∷ []) next (get_or old (part_of d event.target) o)
            (record a { pending = after })
        mine o =
            let same : get_or now (part_of d event.target) o ≡ a = or_same now (part_of d event.target) o a (omega (arith, inside, h.long)) ∙ sym read in
            event_here (part_of d event.target) sent rest (get_or old (part_of d event.target) o) a event next
            (subst (λ z. HasEvents d (part_of d event.target) sent rest (get_or old (part_of d event.target) o) z) same
            (h.each (part_of d event.target) o inside))
            is (record a { pending = after }) refl put refl

    -- the next event has a new key at its part
    pub next_new : (sent rest : List (Event Body)) (old now : List (OwnedPart M S State Body Piece)) → HaveEvents d sent rest old now
        → (event : Event Body) (next : List (Event Body))
        → rest ≡ event ∷ next → part_of d event.target < length old → (a : OwnedPart M S State Body Piece) → a ≡ get_or now (part_of d event.target) a
        → IsNewKey event_key event.key a.pending
    next_new sent rest old now h event next is inside a read =
        is_new (part_of d event.target) sent rest (get_or old (part_of d event.target) a) a event next
        (subst (λ z. HasEvents d (part_of d event.target) sent rest (get_or old (part_of d event.target) a) z) (sym read)
        (h.each (part_of d event.target) a inside)) is

-- what holds of all holds of the next
pub next_has : {A : Type 0} (P : A → Type 0) (done rest all : List A) (x : A) (next : List A) → All P all → done ++ rest ≡ all → rest ≡ x ∷ next → P x
next_has P done rest all x next holds whole is = All_at P all x holds
    (subst (λ l. Contains l x) (sym (ap (λ l. done ++ l) is) ∙ whole) (contains_right done (x ∷ next) x (contains_here x next)))

-- The time of the first event

module _ {Body : Type 0} where
  pub sooner_one : (sent : List (Event Body)) (x : Event Body) (o : Option ℕ) → LeastTimeIs sent o → LeastTimeIs (sent ++ x ∷ []) (sooner o (Some x.key.time))
  sooner_one sent x None none = subst (λ l. LeastTimeIs (l ++ x ∷ []) (Some x.key.time)) (sym none) (
    λ y c. ⊎_elim (λ e. omega (arith, ap (λ (z : Event Body). z.key.time) e)) (λ r. absurd (contains_none y r)) (contains_cons y x [] c),
    (x, contains_here x [], refl),
  )
  sooner_one sent x (Some s) least = go (nat_lt x.key.time s) refl
    where
      go : (b : Bool) → nat_lt x.key.time s ≡ b → LeastTimeIs (sent ++ x ∷ []) (cond b (Some x.key.time) (Some s))
      go true is =
          let less : x.key.time < s = ltb-true x.key.time s is in (
            λ y c. ⊎_elim (λ k. omega (arith, less, least.0 y k))
                (λ k. ⊎_elim (λ e. omega (arith, ap (λ (z : Event Body). z.key.time) e)) (λ r. absurd (contains_none y r)) (contains_cons y x [] k))
                (contains_append sent (x ∷ []) y c),
            (x, contains_right sent (x ∷ []) x (contains_here x []), refl),
          )
      go false is =
          let more : s ≤ x.key.time = ltb-false x.key.time s is in
          let first = least.1 in (
            λ y c. ⊎_elim (λ k. least.0 y k)
                (λ k. ⊎_elim (λ e. omega (arith, more, ap (λ (z : Event Body). z.key.time) e)) (λ r. absurd (contains_none y r)) (contains_cons y x [] k))
                (contains_append sent (x ∷ []) y c),
            (first.0, contains_left sent (x ∷ []) first.0 first.1, first.2),
          )

-- What holds of these events in another order

module _ {Body : Type 0} (events sorted : List (Event Body)) (moved : IsPermutation events sorted) where
  in_sorted : (x : Event Body) → Contains events x ↔ Contains sorted x
  in_sorted x = (
    λ c. Contains-permutation events sorted x moved c,
    λ c. Contains-permutation sorted events x (IsPermutation-sym events sorted moved) c,
  )

  pub all_sorted : (P : Event Body → Type 0) → All P events → All P sorted
  all_sorted P all = All_from P sorted (λ x c. All_at P events x all ((in_sorted x).1 c))

  module _ {M State Piece S : Type 0} where
    pub dealt_sorted : (d : Division) (old now : List (OwnedPart M S State Body Piece)) → HaveEvents d sorted [] old now → HaveEvents d events [] old now
    dealt_sorted d old now h = record {
      long = h.long;
      each = λ p o k.
          let r = h.each p o k in
          record {
            same = λ x. (
              λ c. let s = (r.same x).0 c in ((in_sorted x).1 s.0, s.1),
              λ c. (r.same x).1 ((in_sorted x).0 c.0, c.1),
            );
            ordered = r.ordered;
            apart = r.apart;
            others = r.others;
          };
    }

  pub least_sorted : (o : Option ℕ) → LeastTimeIs sorted o → LeastTimeIs events o
  least_sorted None none = none_from events (λ x c. contains_none x (subst (λ l. Contains l x) none ((in_sorted x).0 c)))
    where
      none_from : (es : List (Event Body)) → ((x : Event Body) → Contains es x → ⊥) → es ≡ []
      none_from [] not = refl
      none_from (e ∷ es) not = absurd (not e (contains_here e es))
  least_sorted (Some t) least = (
    λ x c. least.0 x ((in_sorted x).0 c),
    (least.1.0, (in_sorted least.1.0).1 least.1.1, least.1.2),
  )

module _ {State Body Piece S : Type 0} where
  -- the next event of the run has the least time, if that is before the end
  pub next_time : (ch : Chronicle State Body Piece S) (h es : List (Event Body)) → ((x : Event Body) → Contains es x ↔ Contains (pending ch.machine h) x)
      → (o : Option ℕ) → LeastTimeIs es o → option_map (λ (e : Event Body). e.key.time) (next ch.machine h) ≡ before_end ch.machine.duration o
  next_time ch h es same None none = ap (option_map (λ (e : Event Body). e.key.time)) (none_from_late ch.machine h
      (λ x c. absurd (contains_none x (subst (λ l. Contains l x) none ((same x).1 c)))))
  next_time ch h es same (Some t) least = go (next ch.machine h) (nat_lt t ch.machine.duration) refl refl
    where
      go : (n : Option (Event Body)) (b : Bool) → next ch.machine h ≡ n → nat_lt t ch.machine.duration ≡ b
          → option_map (λ (e : Event Body). e.key.time) n ≡ cond b (Some t) None
      go None true is in_time =
          let first = least.1 in
          let late = next-None ch.machine h is first.0 ((same first.0).0 first.1) in
          absurd (omega (arith, late, first.2, ltb-true t ch.machine.duration in_time))
      go None false is in_time = refl
      go (Some e) true is in_time =
          let found = next-Some ch.machine h e is in
          let first = least.1 in
          let least_key = found.first first.0 ((same first.0).0 first.1) in
          let low = least.0 e ((same e).1 found.waits) in
          let time : e.key.time ≡ t = omega (arith, least_key, low, first.2) in
          ap Some time
      go (Some e) false is in_time =
          let found = next-Some ch.machine h e is in
          let low = least.0 e ((same e).1 found.waits) in
          let end = found.in_time in
          absurd (omega (arith, low, end, ltb-false t ch.machine.duration in_time))

-- The team

some_item : {A : Type 0} (xs : List A) (i : ℕ) → i < length xs → A
some_item [] i k = absurd (omega (arith, k))
some_item (x ∷ xs) i k = x

module _ {State Body Piece S : Type 0} (ch : Chronicle State Body Piece S) {Sound : ℕ → State → Type 0} {Fit : Event Body → Type 0} {Room : State
    → Type 0} (ok : IsSimulable ch.machine Sound Fit Room) where
  pub starts_inside : (d : Division) → Divides d (ch.machine.nodes) → All (λ (x : Event Body). x.target < length d.of_node) ch.machine.start_events
  starts_inside d divides = All_from (λ (x : Event Body). x.target < length d.of_node) ch.machine.start_events
      (λ x c. omega (arith, ok.well_formed.in_range x (All_at Fit ch.machine.start_events x ok.well_formed.starts_fit c), divides.whole))

  -- the events at the start are those that are pending
  starts_are : (x : Event Body) → Contains ch.machine.start_events x ↔ Contains (pending ch.machine (history ch.machine 0)) x
  starts_are x =
      let rest = pending_is_rest ch.machine ok.well_formed [] tt x in
      (λ c. rest.1 (c, contains_none x), λ c. (rest.0 c).0)

  module _ {M : Type 0} (l : Layout) (layout : IsLayout ch.machine.nodes l) (ring : List State) (ring_is : AreStatesAfter ch.machine [] ring) (p : ℕ)
      (inside : p < l.division.parts) (e s q : OwnedPart M S State Body Piece)
      (empty : IsEmptyPart ch.HasCounted l.division.parts p e) (has : HasStates l.division p ring e s)
      (dealt : HasEvents l.division p ch.machine.start_events [] s q) where
    states_is : q.states.items ≡ states_for l.division p 0 ring
    states_is = ap (λ (z : OwnedPart M S State Body Piece). z.states.items) dealt.others ∙ has.states_are
        ∙ ap (λ ss. ss ++ states_for l.division p 0 ring) empty.no_states

    part_is : q.part ≡ p
    part_is = ap (λ (z : OwnedPart M S State Body Piece). z.part) dealt.others ∙ ap (λ (z : OwnedPart M S State Body Piece). z.part) has.others ∙ empty.part_is

    inbox_is : q.inbox ≡ e.inbox
    inbox_is = ap (λ (z : OwnedPart M S State Body Piece). z.inbox) dealt.others ∙ ap (λ (z : OwnedPart M S State Body Piece). z.inbox) has.others

    outbox_is : q.outbox ≡ e.outbox
    outbox_is = ap (λ (z : OwnedPart M S State Body Piece). z.outbox) dealt.others ∙ ap (λ (z : OwnedPart M S State Body Piece). z.outbox) has.others

    scribe_is : q.scribe ≡ e.scribe
    scribe_is = ap (λ (z : OwnedPart M S State Body Piece). z.scribe) dealt.others ∙ ap (λ (z : OwnedPart M S State Body Piece). z.scribe) has.others

    made_is : q.made ≡ e.made
    made_is = ap (λ (z : OwnedPart M S State Body Piece). z.made) dealt.others ∙ ap (λ (z : OwnedPart M S State Body Piece). z.made) has.others

    none_in : q.inbox ≡ []
    none_in = inbox_is ∙ empty.none_in

    events_is : events_of q ≡ q.pending
    events_is = ap (λ l. q.pending ++ l) none_in ∙ append-nil q.pending

    at_slot : (i : ℕ) → i < ch.machine.nodes → part_of l.division i ≡ p
        → IsReadAt l.division (states_for l.division p 0 ring) (slot_of l i) ring i
    at_slot i k here =
        let zero_is : 0 + i ≡ i = omega arith in
        dealt_read l.division p ring 0 i (slot_of l i)
        (omega (arith, layout.counted i k, ap (λ n. nodes_before l.division n i) here, ap (nodes_before l.division p) zero_is))
        (ap (part_of l.division) zero_is ∙ here) (omega (arith, k, ring_is.nodes_are))

    pub owned_at_start : IsOwned ch l (history ch.machine 0) q
    owned_at_start = record {
      inside = omega (arith, inside, part_is);
      places = λ i k here. omega (arith, (at_slot i k (here ∙ part_is)).0, ap length states_is);
      states_are = λ i d k here. ap (λ ss. get_or ss (slot_of l i) d) states_is ∙ (at_slot i k (here ∙ part_is)).1 d
          ∙ ring_is.state_at i d k;
      same = λ x. (
        λ c. let r = (dealt.same x).0 (subst (λ es. Contains es x) events_is c) in ((starts_are x).0 r.0, r.1 ∙ sym part_is),
        λ c. subst (λ es. Contains es x) (sym events_is) ((dealt.same x).1 ((starts_are x).1 c.0, c.1 ∙ part_is)),
      );
      apart = subst (λ es. AreApart (q.pending ++ es)) (sym none_in) dealt.apart;
      out_long = ap length outbox_is ∙ empty.out_long;
      none_made = ap (λ v. v.items) made_is ∙ empty.none_made;
      counted = subst (λ t. ch.HasCounted [] t) (sym scribe_is) empty.none_counted;
    }

    pub none_sent : HasSentAll q
    none_sent = ap all_of outbox_is ∙ empty.none_out

    pub part_at_start : q.part ≡ p
    part_at_start = part_is

  module _ {M : Type 0} (l : Layout) (layout : IsLayout ch.machine.nodes l) (ring : List State) (ring_is : AreStatesAfter ch.machine [] ring)
      (empty stated parts : List (OwnedPart M S State Body Piece)) (parcels : List (Option (Parcel M S State Body Piece)))
      (are : AreEmptyParts ch.HasCounted l.division.parts l.division.parts empty) (have : HaveStates l.division ring empty stated)
      (dealt : HaveEvents l.division ch.machine.start_events [] stated parts) (placed : AreParcelsOf parts parcels) where
    pub parcels_long : length parcels ≡ l.division.parts
    parcels_long = placed.long ∙ dealt.long ∙ have.long ∙ are.long

    pub here_at_start : AreHere ch l (history ch.machine 0) parcels
    here_at_start p k =
        let in_parts : p < length parts = omega (arith, k, parcels_long, placed.long) in
        let in_stated : p < length stated = omega (arith, in_parts, dealt.long) in
        let in_empty : p < length empty = omega (arith, k, are.long) in
        let o : (OwnedPart M S State Body Piece) = some_item parts p in_parts in
        let r = placed.each p o in_parts in
        let e = are.each p o k in
        let s = have.each p o in_empty in
        let q = dealt.each p o in_stated in (
          r.0,
          r.1,
          subst (λ (z : OwnedPart M S State Body Piece). IsHere ch l (history ch.machine 0) p (with_part r.0 z)) (sym r.2.part_is) (record {
            part_is = part_at_start l layout ring ring_is p k (get_or empty p o) (get_or stated p o) (get_or parts p o) e s q;
            owned = owned_at_start l layout ring ring_is p k (get_or empty p o) (get_or stated p o) (get_or parts p o) e s q;
            none_sent = none_sent l layout ring ring_is p k (get_or empty p o) (get_or stated p o) (get_or parts p o) e s q;
            no_text = r.2.no_text;
          }),
        )

    pub team_at_start : (ps : Vec (Option (Parcel M S State Body Piece)) Global) (first : Option ℕ) (journal : Journal S) (text : Vec ℕ Global)
        (w : Opening) (now : Option (List ℕ)) → ps.items ≡ parcels → LeastTimeIs ch.machine.start_events first
        → journal.clock ≡ ch.machine.audit_times → ch.HasCounted [] journal.scribe
        → IsTeam ch l now now (record {
          count = 0;
          parcels = ps;
          next = first;
          journal = journal;
          due = text;
          window = w;
        })
    team_at_start ps first journal text w now parcels_are least clock_is tallied = record {
      layout = layout;
      within = omega arith;
      long = refl;
      parcels_long = ap length parcels_are ∙ parcels_long;
      here = subst (AreHere ch l (history ch.machine 0)) (sym parcels_are) here_at_start;
      next_is = next_time ch (history ch.machine 0) ch.machine.start_events starts_are first least;
      audits = clock_is ∙ sym (audits_at_start ch.machine);
      written = Appends-nil now;
      audited = record { audits = []; counted = tallied; rest = IsPermutation-refl [] };
    }
