-- The events that a part made are sent, one after another.
use Rattle.std.proofs.Common.{◌≡◌, ◌≢◌, ◌∙◌, ◌⊎◌, ⊎_elim, inl, inr, ℕ, ◌<◌, Bool, true, false, not, List, [], ◌∷◌, ◌++◌, Option, None, Some, length, get_or, set, reverse, refl, ap, sym, subst, append_assoc, append-nil, eq-eqb, get_or-set_same, get_or-set_other}
use Rattle.std.proofs.lemmas.Bool.{and_from, cases_eq, ne_eqb, not_from_false}
use Rattle.std.proofs.lemmas.List.{length-set, reverse-append, reverse-reverse}
use Rattle.std.specs.List.{All, Contains, filter}
use Rattle.std.specs.Prelude.{◌==◌, ◌&&◌}
use Rattle.des_event.specs.declared.event.Event.{Event}
use Rattle.des_event.specs.KeyOrder.{InKeyOrder, IsNewKey, put_in_order}
use Rattle.des_event.proofs.KeyLists.{all_from, in_put, put_in, Contains-from_IsIn, IsIn-from_Contains}
use Rattle.des_event.proofs.Members.{All_at, contains_append, contains_cons, contains_here, contains_left, contains_none, contains_right}
use Rattle.des_model.specs.Windows.{Division, part_of}
use Rattle.des_queue.specs.EventKey.{event_key}
use Rattle.des_queue.proofs.Inserting.{apart_across, apart_back}
use Rattle.des_window.specs.Openings.{sooner}
use Rattle.des_team.specs.declared.part.OwnedPart.{OwnedPart}
use Rattle.des_team.specs.Owned.{AreApart, LeastTimeIs}
use Rattle.des_team.specs.Running.{HasSent, is_for_others, sent_to}
use Rattle.des_team.proofs.LeastTimes.{least_of_more}
use Rattle.des_team.proofs.PartLists.{filter_no_more, filter_one_more}
use Rattle.des_team.proofs.TeamMail.{or_same}

neither_left : (x y : Bool) → x ≡ false → (x && y) ≡ false
neither_left true y e = absurd cc
neither_left false y e = refl

neither_right : (x y : Bool) → y ≡ false → (x && y) ≡ false
neither_right true y e = e
neither_right false y e = refl

module _ {M State Body Piece S : Type 0} where
  pub sent_none : (d : Division) (p : OwnedPart M S State Body Piece) → InKeyOrder event_key p.pending → HasSent d [] p p None
  sent_none d p ordered = record {
    kept = λ x. (λ c. inl c, ⊎_elim (λ c. c) (λ k. absurd (contains_none x k.0)));
    ordered = ordered;
    out_long = refl;
    sent = λ q v l. sym (append-nil (get_or p.outbox q v));
    soonest_is = refl;
  }

  -- of all these events those that are left, the last first, are still to be sent
  pub record IsSending (d : Division) (all left : List (Event Body)) (old now : OwnedPart M S State Body Piece) (soonest : Option ℕ) : Type 0 where
    pub so_far : List (Event Body)
    pub whole : so_far ++ reverse left ≡ all
    pub sent : HasSent d so_far old now soonest

  pub sending_from : (d : Division) (all left : List (Event Body)) (p : OwnedPart M S State Body Piece) → InKeyOrder event_key p.pending → left ≡ reverse all
      → IsSending d all left p p None
  sending_from d all left p ordered is = record {
    so_far = [];
    whole = ap reverse is ∙ reverse-reverse all;
    sent = sent_none d p ordered;
  }

module _ {Body : Type 0} where
  pub last_is_next : (left rest : List (Event Body)) (e : Event Body) → left ≡ rest ++ e ∷ [] → reverse left ≡ e ∷ reverse rest
  last_is_next left rest e is = ap reverse is ∙ reverse-append rest (e ∷ [])

module _ {M State Body Piece S : Type 0} where
  pub sends_on : (d : Division) (all left rest : List (Event Body)) (e : Event Body) (old before after : OwnedPart M S State Body Piece)
      (soonest later : Option ℕ)
      → (s : IsSending d all left old before soonest) → left ≡ rest ++ e ∷ [] → HasSent d (s.so_far ++ e ∷ []) old after later
      → IsSending d all rest old after later
  sends_on d all left rest e old before after soonest later s is sent = record {
    so_far = s.so_far ++ e ∷ [];
    whole = append_assoc s.so_far (e ∷ []) (reverse rest) ∙ ap (λ es. s.so_far ++ es) (sym (last_is_next left rest e is)) ∙ s.whole;
    sent = sent;
  }

  pub all_are_sent : (d : Division) (all left : List (Event Body)) (old now : OwnedPart M S State Body Piece) (soonest : Option ℕ)
      → IsSending d all left old now soonest
      → left ≡ [] → HasSent d all old now soonest
  all_are_sent d all left old now soonest s none =
      subst (λ es. HasSent d es old now soonest) (sym (append-nil s.so_far) ∙ ap (λ es. s.so_far ++ reverse es) (sym none) ∙ s.whole) s.sent

  -- the key of the next event is new to those that are pending
  pub next_is_new : (d : Division) (made sent rest : List (Event Body)) (old now : OwnedPart M S State Body Piece) (soonest : Option ℕ) (e : Event Body)
      (next : List (Event Body))
      → AreApart (old.pending ++ made) → HasSent d sent old now soonest → sent ++ rest ≡ made → rest ≡ e ∷ next → IsNewKey event_key e.key now.pending
  next_is_new d made sent rest old now soonest e next apart s whole is = all_from (λ (y : Event Body). y.key ≢ e.key) now.pending (λ y c. ⊎_elim
      (λ k. apart_across old.pending (sent ++ e ∷ next) all y e k (contains_right sent (e ∷ next) e (contains_here e next)))
      (λ k. apart_across sent (e ∷ next) (apart_back old.pending (sent ++ e ∷ next) all) y e k.0 (contains_here e next))
      ((s.kept y).0 (Contains-from_IsIn now.pending y c)))
    where
      all : AreApart (old.pending ++ (sent ++ e ∷ next))
      all = subst (λ es. AreApart (old.pending ++ es)) (sym whole ∙ ap (λ es. sent ++ es) is) apart

module _ {Body : Type 0} where
  -- what holds of all holds of the next event
  pub next_has : (P : Event Body → Type 0) (made sent rest : List (Event Body)) (e : Event Body) (next : List (Event Body)) → All P made
      → sent ++ rest ≡ made → rest ≡ e ∷ next → P e
  next_has P made sent rest e next all whole is =
      All_at P made e all (subst (λ es. Contains es e) whole (contains_right sent rest e (subst (λ es. Contains es e) (sym is) (contains_here e next))))

module _ {M State Body Piece S : Type 0} (d : Division) (sent : List (Event Body)) (old now : OwnedPart M S State Body Piece) (soonest : Option ℕ)
    (s : HasSent d sent old now soonest) (e : Event Body) where
  pushed : (x : Event Body) → Contains (sent ++ e ∷ []) x → Contains sent x ⊎ (e ≡ x)
  pushed x c = ⊎_elim (λ k. inl k) (λ k. ⊎_elim (λ t. inr t) (λ r. absurd (contains_none x r)) (contains_cons x e [] k)) (contains_append sent (e ∷ []) x c)

  -- the event is for the part itself
  module _ (own : part_of d e.target ≡ old.part) where
    own_stays : is_for_others d old.part e ≡ false
    own_stays = ap not (eq-eqb (part_of d e.target) old.part own)

    pub sent_here : (new : OwnedPart M S State Body Piece) → new ≡ record now { pending = put_in_order event_key e now.pending }
        → InKeyOrder event_key new.pending
        → HasSent d (sent ++ e ∷ []) old new soonest
    sent_here new is ordered = record {
      kept = λ x. (there x, back x);
      ordered = ordered;
      out_long = ap (λ (p : OwnedPart M S State Body Piece). length p.outbox) is ∙ s.out_long;
      sent = λ q v l. ap (λ (p : OwnedPart M S State Body Piece). get_or p.outbox q v) is ∙ s.sent q v l
          ∙ ap (λ es. (get_or old.outbox q v) ++ es) (sym (filter_no_more (λ x. part_of d x.target == q && is_for_others d old.part x) sent e
          (neither_right (part_of d e.target == q) (is_for_others d old.part e) own_stays)));
      soonest_is = subst (λ es. LeastTimeIs es soonest) (sym (filter_no_more (is_for_others d old.part) sent e own_stays)) s.soonest_is;
    }
      where
        there : (x : Event Body) → Contains new.pending x → Contains old.pending x ⊎ (Contains (sent ++ e ∷ []) x × (part_of d x.target ≡ old.part))
        there x c = ⊎_elim
            (λ (t : x ≡ e). inr (
              subst (λ z. Contains (sent ++ e ∷ []) z) (sym t) (contains_right sent (e ∷ []) e (contains_here e [])),
              subst (λ (z : Event Body). part_of d z.target ≡ old.part) (sym t) own,
            ))
            (λ k. ⊎_elim (λ m. inl m) (λ m. inr (contains_left sent (e ∷ []) x m.0, m.1)) ((s.kept x).0 (Contains-from_IsIn now.pending x k)))
            (in_put event_key e now.pending x (IsIn-from_Contains (put_in_order event_key e now.pending) x
            (subst (λ (p : OwnedPart M S State Body Piece). Contains p.pending x) is c)))

        back : (x : Event Body) → Contains old.pending x ⊎ (Contains (sent ++ e ∷ []) x × (part_of d x.target ≡ old.part)) → Contains new.pending x
        back x c = subst (λ (p : OwnedPart M S State Body Piece). Contains p.pending x) (sym is) (Contains-from_IsIn (put_in_order event_key e now.pending) x
            (put_in event_key e now.pending x (⊎_elim
            (λ k. inr (IsIn-from_Contains now.pending x ((s.kept x).1 (inl k))))
            (λ k. ⊎_elim (λ m. inr (IsIn-from_Contains now.pending x ((s.kept x).1 (inr (m, k.1))))) (λ t. inl (sym t)) (pushed x k.0)) c)))

  -- the event is for another part
  module _ (other : part_of d e.target ≢ old.part) where
    other_goes : is_for_others d old.part e ≡ true
    other_goes = not_from_false (part_of d e.target == old.part) (ne_eqb (part_of d e.target) old.part other)

    pub sent_away : (to : ℕ) (new : OwnedPart M S State Body Piece) → to ≡ part_of d e.target → to < length now.outbox
        → new ≡ record now { outbox = new.outbox } → new.outbox ≡ set now.outbox to (get_or now.outbox to [] ++ e ∷ [])
        → HasSent d (sent ++ e ∷ []) old new (sooner soonest (Some e.key.time))
    sent_away to new to_is inside is put = record {
      kept = λ x. (
        λ c. ⊎_elim (λ k. inl k) (λ k. inr (contains_left sent (e ∷ []) x k.0, k.1))
            ((s.kept x).0 (subst (λ (p : OwnedPart M S State Body Piece). Contains p.pending x) is c)),
        λ c. subst (λ (p : OwnedPart M S State Body Piece). Contains p.pending x) (sym is) ((s.kept x).1 (⊎_elim (λ k. inl k)
            (λ k. ⊎_elim (λ m. inr (m, k.1))
            (λ t. absurd (other (ap (λ (z : Event Body). part_of d z.target) t ∙ k.1))) (pushed x k.0)) c)),
      );
      ordered = subst (λ (p : OwnedPart M S State Body Piece). InKeyOrder event_key p.pending) (sym is) s.ordered;
      out_long = ap length put ∙ length-set now.outbox to list ∙ s.out_long;
      sent = λ q v l. ap (λ lists. get_or lists q v) put ∙ ⊎_elim (here q v l) (elsewhere q v l) (cases_eq q to);
      soonest_is = subst (λ es. LeastTimeIs es (sooner soonest (Some e.key.time))) (sym (filter_one_more (is_for_others d old.part) sent e other_goes))
          (least_of_more (filter (is_for_others d old.part) sent) e soonest s.soonest_is);
    }
      where
        list : List (Event Body)
        list = get_or now.outbox to [] ++ e ∷ []

        list_is : (v : List (Event Body)) → list ≡ get_or now.outbox to v ++ e ∷ []
        list_is v = ap (λ es. es ++ e ∷ []) (or_same now.outbox to [] v inside)

        here : (q : ℕ) (v : List (Event Body)) → q < length old.outbox → q ≡ to
            → (get_or (set now.outbox to list) q v) ≡ get_or old.outbox q v ++ sent_to d old.part q (sent ++ e ∷ [])
        here q v l t = ap (λ i. (get_or (set now.outbox to list) i v)) t
            ∙ (get_or-set_same now.outbox to list v inside)
            ∙ list_is v ∙ ap (λ i. (get_or now.outbox i v) ++ e ∷ []) (sym t) ∙ ap (λ es. es ++ e ∷ []) (s.sent q v l)
            ∙ append_assoc (get_or old.outbox q v) (sent_to d old.part q sent) (e ∷ [])
            ∙ ap (λ es. (get_or old.outbox q v) ++ es) (sym (filter_one_more (λ x. part_of d x.target == q && is_for_others d old.part x) sent e
            (and_from (part_of d e.target == q) (is_for_others d old.part e) (eq-eqb (part_of d e.target) q (sym (t ∙ to_is))) other_goes)))

        elsewhere : (q : ℕ) (v : List (Event Body)) → q < length old.outbox → q ≢ to
            → (get_or (set now.outbox to list) q v) ≡ get_or old.outbox q v ++ sent_to d old.part q (sent ++ e ∷ [])
        elsewhere q v l ne = (get_or-set_other now.outbox to q list v ne)
            ∙ s.sent q v l
            ∙ ap (λ es. (get_or old.outbox q v) ++ es) (sym (filter_no_more (λ x. part_of d x.target == q && is_for_others d old.part x) sent e
            (neither_left (part_of d e.target == q) (is_for_others d old.part e) (ne_eqb (part_of d e.target) q (λ t. ne (sym (to_is ∙ t)))))))
