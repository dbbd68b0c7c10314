-- How events come to the parts.
use Rattle.std.proofs.Common.{◌≡◌, ◌≢◌, ℕ, ◌+◌, ◌<◌, ◌≤◌, List, [], ◌∷◌, ◌++◌, Option, None, Some, length, get_or, set, option_map, slice_get, refl, ap, sym, ◌∙◌, subst, inl, inr, ◌⊎◌, ⊎_elim, arith, get_or-set_same, get_or-set_other, Bool, true, false, cond, nat_lt, ltb-true}
use Rattle.std.proofs.lemmas.Bool.{cases_eq, ltb-false}
use Rattle.std.proofs.lemmas.Option.{none-some}
use Rattle.std.proofs.Math.ListN.{length-set}
use Rattle.std.specs.List.{All, AllByRecursion, Contains}
use Rattle.des_event.specs.declared.event.Event.{Event}
use Rattle.des_event.specs.Keys.{IsBefore}
use Rattle.des_event.specs.KeyOrder.{InKeyOrder, IsNewKey, put_in_order}
use Rattle.des_event.proofs.KeyLists.{all_from, all_in, in_put, ordered_put, put_in, Contains-from_IsIn, IsIn-from_Contains}
use Rattle.des_event.proofs.Members.{All_at, AllPairs_append, AllPairs_at, AllPairs_front, AllPairs_rest, contains_append, contains_cons, contains_here, contains_left, contains_none, contains_right, contains_there}
use Rattle.des_model.specs.Windows.{Division, part_of}
use Rattle.des_model.proofs.Course.{same_read}
use Rattle.des_queue.specs.EventKey.{event_key}
use Rattle.des_queue.proofs.Inserting.{AreApart, apart_across, ordered_apart}
use Rattle.des_parts.specs.declared.world.PartEvents.{PartEvents}
use Rattle.des_parts.specs.Delivery.{AreCut, CanDeliver, HasDelivered, HasGot, IsCut, LeastIs}
use Rattle.des_parts.proofs.Sorting.{apart_end}
use Rattle.des_window.specs.Openings.{sooner}

module _ {Body : Type 0} where
  pub delivered_none : (d : Division) (parts : List (PartEvents Body)) (mail : List (Event Body)) → CanDeliver parts mail → HasDelivered d parts parts [] mail
  delivered_none d parts mail can = record {
    long = refl;
    each = λ p e l. record {
      due = refl;
      same = λ x. (λ c. inl c, λ c. ⊎_elim (λ k. k) (λ k. absurd (contains_none x k.0)) c);
      ordered = (can p e l).0;
      apart = (can p e l).1;
    };
  }

  module _ (d : Division) (p : ℕ) (old now : PartEvents Body) (sent rest : List (Event Body)) (event : Event Body) (next : List (Event Body))
      (g : HasGot d p old now sent rest) (is : rest ≡ event ∷ next) where
    all : AreApart (now.later ++ event ∷ next)
    all = subst (λ l. AreApart (now.later ++ l)) is g.apart

    pub got_new : IsNewKey event_key event.key now.later
    got_new = all_from (λ (y : Event Body). y.key ≢ event.key) now.later
        (λ y c. apart_across now.later (event ∷ next) all y event (Contains-from_IsIn now.later y c) (contains_here event next))

    pushed : (x : Event Body) → Contains (sent ++ event ∷ []) x → Contains sent x ⊎ (event ≡ x)
    pushed x c = ⊎_elim (λ k. inl k) (λ k. ⊎_elim (λ e. inr e) (λ r. absurd (contains_none x r)) (contains_cons x event [] k))
        (contains_append sent (event ∷ []) x c)

    pub got_here : (after : PartEvents Body) → after.due ≡ now.due → after.later ≡ put_in_order event_key event now.later → part_of d event.target ≡ p
        → HasGot d p old after (sent ++ event ∷ []) next
    got_here after due_is later_is here = record {
      due = due_is ∙ g.due;
      same = λ x. (λ c. there x (subst (λ l. Contains l x) later_is c), λ c. subst (λ l. Contains l x) (sym later_is) (back x c));
      ordered = subst (λ l. InKeyOrder event_key l) (sym later_is) ordered;
      apart = subst (λ l. AreApart (l ++ next)) (sym later_is)
          (AllPairs_append (λ (a b : Event Body). a.key ≢ b.key) (put_in_order event_key event now.later) next
          (ordered_apart (put_in_order event_key event now.later) ordered)
          (AllPairs_rest (λ (a b : Event Body). a.key ≢ b.key) event next (apart_end now.later (event ∷ next) all))
          (λ x y c k. ⊎_elim
          (λ (e : x ≡ event). subst (λ (z : Event Body). z.key ≢ y.key) (sym e)
          (AllPairs_at (λ (a b : Event Body). a.key ≢ b.key) event next (apart_end now.later (event ∷ next) all) y k))
          (λ r. apart_across now.later (event ∷ next) all x y (Contains-from_IsIn now.later x r) (contains_there y event next k))
          (in_put event_key event now.later x (IsIn-from_Contains (put_in_order event_key event now.later) x c))));
    }
      where
        ordered : InKeyOrder event_key (put_in_order event_key event now.later)
        ordered = ordered_put event_key event now.later g.ordered got_new

        there : (x : Event Body) → Contains (put_in_order event_key event now.later) x
            → Contains old.later x ⊎ (Contains (sent ++ event ∷ []) x × (part_of d x.target ≡ p))
        there x c = ⊎_elim
            (λ (e : x ≡ event). inr (
              subst (λ z. Contains (sent ++ event ∷ []) z) (sym e)
                  (contains_right sent (event ∷ []) event (contains_here event [])),
              subst (λ (z : Event Body). part_of d z.target ≡ p) (sym e) here,
            ))
            (λ r. ⊎_elim (λ k. inl k) (λ k. inr (contains_left sent (event ∷ []) x k.0, k.1)) ((g.same x).0 (Contains-from_IsIn now.later x r)))
            (in_put event_key event now.later x (IsIn-from_Contains (put_in_order event_key event now.later) x c))

        back : (x : Event Body) → Contains old.later x ⊎ (Contains (sent ++ event ∷ []) x × (part_of d x.target ≡ p))
            → Contains (put_in_order event_key event now.later) x
        back x c = Contains-from_IsIn (put_in_order event_key event now.later) x (put_in event_key event now.later x (⊎_elim
            (λ k. inr (IsIn-from_Contains now.later x ((g.same x).1 (inl k))))
            (λ k. ⊎_elim (λ y. inr (IsIn-from_Contains now.later x ((g.same x).1 (inr (y, k.1))))) (λ e. inl (sym e)) (pushed x k.0)) c))

    pub got_there : part_of d event.target ≢ p → HasGot d p old now (sent ++ event ∷ []) next
    got_there elsewhere = record {
      due = g.due;
      same = λ x. (
        λ c. ⊎_elim (λ k. inl k) (λ k. inr (contains_left sent (event ∷ []) x k.0, k.1)) ((g.same x).0 c),
        λ c. (g.same x).1 (⊎_elim (λ k. inl k) (λ k. ⊎_elim (λ y. inr (y, k.1))
            (λ (e : event ≡ x). absurd (elsewhere (ap (λ (z : Event Body). part_of d z.target) e ∙ k.1))) (pushed x k.0)) c),
      );
      ordered = g.ordered;
      apart = AllPairs_append (λ (a b : Event Body). a.key ≢ b.key) now.later next
          (AllPairs_front (λ (a b : Event Body). a.key ≢ b.key) now.later (event ∷ next) all)
          (AllPairs_rest (λ (a b : Event Body). a.key ≢ b.key) event next (apart_end now.later (event ∷ next) all))
          (λ x y c k. apart_across now.later (event ∷ next) all x y c (contains_there y event next k));
    }

  pub delivered_one : (d : Division) (old now : List (PartEvents Body)) (sent rest : List (Event Body)) (event : Event Body) (next : List (Event Body))
      → HasDelivered d old now sent rest → rest ≡ event ∷ next
      → (q : ℕ) → q ≡ part_of d event.target → q < length old → (before after : PartEvents Body) → before ≡ get_or now q before → after.due ≡ before.due
      → after.later ≡ put_in_order event_key event before.later
      → HasDelivered d old (set now q after) (sent ++ event ∷ []) next
  delivered_one d old now sent rest event next h is q at inside before after read due_is later_is = record {
    long = omega (arith, length-set now q after, h.long);
    each = each;
  }
    where
      each : (p : ℕ) (e : PartEvents Body) → p < length old → HasGot d p (get_or old p e) (get_or (set now q after) p e) (sent ++ event ∷ []) next
      each p e l = ⊎_elim
          (λ s. subst (λ z. HasGot d p (get_or old p e) z (sent ++ event ∷ []) next)
          (sym (ap (λ k. get_or (set now q after) k e) s ∙ get_or-set_same now q after e (omega (arith, inside, h.long))))
          (got_here d p (get_or old p e) (get_or now p e) sent rest event next (h.each p e l) is after
          (due_is ∙ ap (λ (z : PartEvents Body). z.due) (read_is p e s)) (later_is
          ∙ ap (λ (z : PartEvents Body). put_in_order event_key event z.later) (read_is p e s)) (sym at ∙ sym s)))
          (λ ne. subst (λ z. HasGot d p (get_or old p e) z (sent ++ event ∷ []) next) (sym (get_or-set_other now q p after e ne))
          (got_there d p (get_or old p e) (get_or now p e) sent rest event next (h.each p e l) is (λ s. ne (sym s ∙ sym at))))
          (cases_eq p q)
        where
          read_is : (p : ℕ) (e : PartEvents Body) → p ≡ q → before ≡ get_or now p e
          read_is p e s = read ∙ same_read now q before e (omega (arith, inside, h.long)) ∙ ap (λ k. get_or now k e) (sym s)

  -- a part's later events are cut at the horizon
  pub late_none : (horizon : ℕ) (es : List (Event Body)) → None ≡ option_map (λ (e : Event Body). e.key.time) (slice_get es 0)
      → AllByRecursion (λ (e : Event Body). horizon ≤ e.key.time) es
  late_none horizon [] is = tt
  late_none horizon (e ∷ es) is = absurd (none-some e.key.time is)

value : Option ℕ → ℕ
value (Some time) = time
value None = 0

module _ {Body : Type 0} where
  pub late_all : (horizon time : ℕ) (es : List (Event Body)) → Some time ≡ option_map (λ (e : Event Body). e.key.time) (slice_get es 0) → horizon ≤ time
      → InKeyOrder event_key es → AllByRecursion (λ (e : Event Body). horizon ≤ e.key.time) es
  unfolding value
  late_all horizon time [] is late ordered = tt
  late_all horizon time (e ∷ es) is late ordered =
      let here : time ≡ e.key.time = ap value is in (
        omega (arith, late, here),
        all_from (λ (x : Event Body). horizon ≤ x.key.time) es (λ x c. let after : IsBefore e.key x.key = all_in
            (λ (y : Event Body). IsBefore e.key y.key) es ordered.0 x c in omega (arith, late, here, after.time)),
      )

  pub early_push : (horizon : ℕ) (es : List (Event Body)) (e : Event Body) → AllByRecursion (λ (x : Event Body). x.key.time < horizon) es
      → e.key.time < horizon → AllByRecursion (λ (x : Event Body). x.key.time < horizon) (es ++ e ∷ [])
  early_push horizon [] e each here = (here, tt)
  early_push horizon (x ∷ es) e each here = (each.0, early_push horizon es e each.1 here)

  pub cut_one : (horizon n : ℕ) (old now : List (PartEvents Body)) → AreCut horizon n old now → n < length old → (before after : PartEvents Body)
      → before ≡ get_or now n before → IsCut horizon before after → AreCut horizon (n + 1) old (set now n after)
  cut_one horizon n old now a inside before after read is = record {
    long = omega (arith, length-set now n after, a.long);
    cut = λ p e l k. ⊎_elim
        (λ s. subst (λ z. IsCut horizon (get_or old p e) z) (sym (ap (λ i. get_or (set now n after) i e) s
        ∙ get_or-set_same now n after e (omega (arith, inside, a.long))))
        (subst (λ z. IsCut horizon z after) (read ∙ same_read now n before e (omega (arith, inside, a.long)) ∙ a.others n e (omega arith)
        ∙ ap (λ i. get_or old i e) (sym s)) is))
        (λ ne. let differ : p ≢ n = ne in subst (λ z. IsCut horizon (get_or old p e) z) (sym (get_or-set_other now n p after e ne))
        (a.cut p e (omega (arith, l)) k))
        (cases_eq p n);
    others = λ p e l. get_or-set_other now n p after e (λ s. omega (arith, s, l)) ∙ a.others p e (omega (arith, l));
  }

  -- the least time so far
  head_time : (es : List (Event Body)) (t : ℕ) → Some t ≡ option_map (λ (e : Event Body). e.key.time) (slice_get es 0)
      → (x : Event Body) × Contains es x × (x.key.time ≡ t)
  unfolding value
  head_time [] t is = absurd (none-some t (sym is))
  head_time (e ∷ es) t is = (e, contains_here e es, sym (ap value is))

  module _ (parts : List (PartEvents Body)) (n : ℕ) (inside : n < length parts) (before : PartEvents Body) (read : before ≡ get_or parts n before)
      (ordered : InKeyOrder event_key before.later) where
    here_is : (e : PartEvents Body) → get_or parts n e ≡ before
    here_is e = same_read parts n e before inside ∙ sym read

    pub least_next : (o time : Option ℕ) → LeastIs parts n o → time ≡ option_map (λ (e : Event Body). e.key.time) (slice_get before.later 0)
        → LeastIs parts (n + 1) (sooner o time)
    least_next None None least is = λ p e x l c. ⊎_elim
        (λ s. no_head before.later is x (subst (λ (z : PartEvents Body). Contains z.later x) (ap (λ i. get_or parts i e) s ∙ here_is e) c))
        (λ ne. let differ : p ≢ n = ne in least p e x (omega (arith, l)) c) (cases_eq p n)
      where
        no_head : (es : List (Event Body)) → None ≡ option_map (λ (e : Event Body). e.key.time) (slice_get es 0) → (x : Event Body) → Contains es x → ⊥
        no_head [] is x c = contains_none x c
        no_head (e ∷ es) is x c = none-some e.key.time is
    least_next (Some s) None least is = record {
      least = λ p e x l c. ⊎_elim
          (λ k. absurd (no_head before.later is x (subst (λ (z : PartEvents Body). Contains z.later x) (ap (λ i. get_or parts i e) k ∙ here_is e) c)))
          (λ ne. let differ : p ≢ n = ne in least.least p e x (omega (arith, l)) c) (cases_eq p n);
      reached = let r = least.reached in (r.0, omega (arith, r.1), r.2);
    }
      where
        no_head : (es : List (Event Body)) → None ≡ option_map (λ (e : Event Body). e.key.time) (slice_get es 0) → (x : Event Body) → Contains es x → ⊥
        no_head [] is x c = contains_none x c
        no_head (e ∷ es) is x c = none-some e.key.time is
    least_next None (Some t) least is = record {
      least = λ p e x l c. ⊎_elim
          (λ k. first_is x (subst (λ (z : PartEvents Body). Contains z.later x) (ap (λ i. get_or parts i e) k ∙ here_is e) c))
          (λ ne. let differ : p ≢ n = ne in absurd (least p e x (omega (arith, l)) c)) (cases_eq p n);
      reached = (
        n,
        omega arith,
        λ e. let q = head_time before.later t is in
            (q.0, subst (λ (z : PartEvents Body). Contains z.later q.0) (sym (here_is e)) q.1, q.2),
      );
    }
      where
        first_is : (x : Event Body) → Contains before.later x → t ≤ x.key.time
        first_is x c =
            all_in (λ (e : Event Body). t ≤ e.key.time) before.later (late_all t t before.later is (omega arith) ordered) x
            (IsIn-from_Contains before.later x c)
    least_next (Some s) (Some t) least is = go (nat_lt t s) refl
      where
        first_is : (x : Event Body) → Contains before.later x → t ≤ x.key.time
        first_is x c =
            all_in (λ (e : Event Body). t ≤ e.key.time) before.later (late_all t t before.later is (omega arith) ordered) x
            (IsIn-from_Contains before.later x c)

        go : (b : Bool) → nat_lt t s ≡ b → LeastIs parts (n + 1) (cond b (Some t) (Some s))
        go true e = let lt : t < s = ltb-true t s e in record {
          least = λ p d x l c. ⊎_elim
              (λ k. first_is x (subst (λ (z : PartEvents Body). Contains z.later x) (ap (λ i. get_or parts i d) k ∙ here_is d) c))
              (λ ne. let differ : p ≢ n = ne in omega (arith, lt, least.least p d x (omega (arith, l)) c)) (cases_eq p n);
          reached = (
            n,
            omega arith,
            λ d. let q = head_time before.later t is
                in (q.0, subst (λ (z : PartEvents Body). Contains z.later q.0) (sym (here_is d)) q.1, q.2),
          );
        }
        go false e = let ge : s ≤ t = ltb-false t s e in record {
          least = λ p d x l c. ⊎_elim
              (λ k. omega (arith, ge, first_is x (subst (λ (z : PartEvents Body). Contains z.later x) (ap (λ i. get_or parts i d) k ∙ here_is d) c)))
              (λ ne. let differ : p ≢ n = ne in least.least p d x (omega (arith, l)) c) (cases_eq p n);
          reached = let r = least.reached in (r.0, omega (arith, r.1), r.2);
        }

  -- the part of an event of the mail
  pub part_inside : (d : Division) (parts : List (PartEvents Body)) (mail sent rest : List (Event Body)) (event : Event Body) (next : List (Event Body))
      → length parts ≡ d.parts → All (λ p. p < d.parts) d.of_node
      → All (λ (e : Event Body). e.target < length d.of_node) mail → sent ++ rest ≡ mail → rest ≡ event ∷ next → (q : ℕ) → q ≡ part_of d event.target
      → q < length parts
  part_inside d parts mail sent rest event next long inside targets whole is q at =
      let among : Contains mail event = subst (λ l. Contains l event) whole
      (contains_right sent rest event (subst (λ l. Contains l event) (sym is) (contains_here event next))) in
      let target : event.target < length d.of_node = All_at (λ (e : Event Body). e.target < length d.of_node) mail event targets among in
      let part : part_of d event.target < d.parts = inside event.target 0 target in
      omega (arith, at, part, long)

  pub cut_none : (horizon : ℕ) (old : List (PartEvents Body)) → AreCut horizon 0 old old
  cut_none horizon old = record { long = refl; cut = λ p e l k. absurd (omega (arith, l)); others = λ p e l. refl }
