-- What the parts made for each other comes to its receivers.
use Rattle.std.proofs.Common.{◌≡◌, ◌≢◌, ◌∙◌, ℕ, zero, suc, ◌+◌, ◌<◌, List, [], ◌∷◌, ◌++◌, Option, None, Some, length, get_or, set, take, refl, ap, sym, subst, ⊎_elim, arith, append_assoc, append-nil, get_or-set_same, get_or-set_other}
use Rattle.std.proofs.lemmas.Bool.{cases_eq}
use Rattle.std.proofs.lemmas.List.{length-set}
use Rattle.std.specs.Prelude.{⊤}
use Rattle.des_event.specs.declared.event.Event.{Event}
use Rattle.des_team.specs.declared.part.OwnedPart.{OwnedPart}
use Rattle.des_team.specs.declared.part.Parcel.{Parcel}
use Rattle.des_team.specs.Exchanges.{AreReady, HasExchanged, HasOnlyOutput, HaveDelivered, HaveExchangedTo, IsReady, given, mail_for}
use Rattle.des_team.specs.Mail.{all_of}
use Rattle.des_team.specs.Outputs.{IsText}
use Rattle.des_team.specs.Owned.{with_part}

pub or_same : {A : Type 0} (xs : List A) (i : ℕ) (d e : A) → i < length xs → get_or xs i d ≡ get_or xs i e
or_same [] i d e l = absurd (omega (arith, l))
or_same (x ∷ xs) zero d e l = refl
or_same (x ∷ xs) (suc i) d e l = or_same xs i d e (omega (arith, l))

module _ {M State Body Piece S : Type 0} where
  value : Parcel M S State Body Piece → Option (Parcel M S State Body Piece) → Parcel M S State Body Piece
  value d None = d
  value d (Some p) = p

  pub some_same : (p q : Parcel M S State Body Piece) (o : Option (Parcel M S State Body Piece)) → o ≡ Some p → o ≡ Some q → p ≡ q
  unfolding value
  some_same p q o a b = ap (value p) (sym a ∙ b)

  is_here : Option (Parcel M S State Body Piece) → Type 0
  is_here None = ⊥
  is_here (Some p) = ⊤

  pub none_here : (o : Option (Parcel M S State Body Piece)) (p : Parcel M S State Body Piece) → o ≡ None → o ≡ Some p → ⊥
  unfolding is_here
  none_here o p a b = subst is_here (sym b ∙ a) tt

pub first : {A : Type 0} (xs : List A) → 0 < length xs → A
first [] l = absurd (omega (arith, l))
first (x ∷ xs) l = x

module _ {M State Body Piece S : Type 0} where
  pub only_output : (place : Option (Parcel M S State Body Piece)) (old : Parcel M S State Body Piece) (new : Parcel M S State Body Piece)
      → place ≡ Some old → new.part.value ≡ old.part.value
      → IsText [] new.output → HasOnlyOutput place (Some new)
  only_output place old new is same text = subst (λ z. HasOnlyOutput z (Some new)) (sym is) (new, refl, same, text)

  -- what a place has for a part
  abbrev list_in : (part : ℕ) → Option (Parcel M S State Body Piece) → List (Event Body)
  list_in part None = []
  list_in part (Some parcel) = get_or parcel.part.value.outbox part []

  mail_of_one : (part : ℕ) (place : Option (Parcel M S State Body Piece)) (places : List (Option (Parcel M S State Body Piece)))
      → mail_for part (place ∷ places) ≡ list_in part place ++ mail_for part places
  mail_of_one part None places = refl
  mail_of_one part (Some parcel) places = refl

  mail_more : (part n : ℕ) (places : List (Option (Parcel M S State Body Piece))) → n < length places
      → mail_for part (take (suc n) places) ≡ mail_for part (take n places) ++ list_in part (get_or places n None)
  mail_more part n [] l = absurd (omega (arith, l))
  mail_more part zero (place ∷ places) l = mail_of_one part place [] ∙ append-nil (list_in part place)
  mail_more part (suc n) (place ∷ places) l = mail_of_one part place (take (suc n) places)
      ∙ ap (λ es. list_in part place ++ es) (mail_more part n places (omega (arith, l)))
      ∙ sym (append_assoc (list_in part place) (mail_for part (take n places)) (list_in part (get_or places n None)))
      ∙ ap (λ es. es ++ list_in part (get_or places n None)) (sym (mail_of_one part place (take n places)))

  pub exchanged_none : (old : List (Option (Parcel M S State Body Piece))) → AreReady old → HaveExchangedTo 0 old old
  exchanged_none old ready = record {
    long = refl;
    each = λ p before l is. (
      before,
      is,
      record {
        same = refl;
        out_long = (of p before l is).out_long;
        received = (of p before l is).none_in;
        sent = λ k. absurd (omega (arith, k));
        to_send = λ k. refl;
      },
    );
  }
    where
      of : (p : ℕ) (before : Parcel M S State Body Piece) → p < length old → get_or old p None ≡ Some before → IsReady (length old) p before.part.value
      of p before l is = let r = ready p l in subst (λ (z : Parcel M S State Body Piece). IsReady (length old) p z.part.value)
          (some_same r.0 before (get_or old p None) r.1 is) r.2

module _ {M State Body Piece S : Type 0} (n : ℕ) (old new : List (Option (Parcel M S State Body Piece))) (ready : AreReady old)
    (h : HaveExchangedTo n old new) (l : n < length old) (me : Parcel M S State Body Piece)
    (here : get_or new n None ≡ Some me) where
  -- the part as it was before
  abbrev first_me : Parcel M S State Body Piece
  first_me = (ready n l).0

  mine : HasExchanged n n old first_me me
  mine =
      let r = ready n l in
      let e = h.each n r.0 l r.1 in
      subst (λ z. HasExchanged n n old r.0 z) (some_same e.0 me (get_or new n None) e.1 here) e.2

  box_is : me.part.value.outbox ≡ first_me.part.value.outbox
  box_is = mine.to_send (omega arith)

  pub outbox_long : length me.part.value.outbox ≡ length old
  outbox_long = mine.out_long

  module _ (after : List (Option (Parcel M S State Body Piece))) (delivered : HaveDelivered me.part.value.outbox (set new n None) after)
      (outbox : List (List (Event Body)))
      (long : length outbox ≡ length me.part.value.outbox) (none : all_of outbox ≡ []) where
    abbrev done : Parcel M S State Body Piece
    done = with_part me (record me.part.value { outbox = outbox })

    mid_long : length (set new n None) ≡ length old
    mid_long = length-set new n None ∙ h.long

    -- what a part has received more
    more : (p : ℕ) → mail_for p (take (n + 1) old) ≡ mail_for p (take n old) ++ get_or me.part.value.outbox p []
    more p =
        let r = ready n l in
        let next : n + 1 ≡ suc n = omega arith in
        ap (λ k. mail_for p (take k old)) next ∙ mail_more p n old l
        ∙ ap (λ z. mail_for p (take n old) ++ list_in p z) r.1 ∙ ap (λ es. mail_for p (take n old) ++ get_or es p []) (sym box_is)

    own : HasExchanged (n + 1) n old first_me done
    own = record {
      same = ap (λ (z : Parcel M S State Body Piece). with_part z (record z.part.value { outbox = outbox })) mine.same;
      out_long = long ∙ mine.out_long;
      received = mine.received ∙ sym (append-nil (mail_for n (take n old)))
          ∙ ap (λ es. mail_for n (take n old) ++ es) (sym (ap (λ es. get_or es n []) box_is ∙ (ready n l).2.none_own)) ∙ sym (more n);
      sent = λ k. none;
      to_send = λ k. absurd (omega (arith, k));
    }

    other : (p : ℕ) (before yet : Parcel M S State Body Piece) → HasExchanged n p old before yet → p < length old → p ≢ n
        → HasExchanged (n + 1) p old before (with_part yet (record yet.part.value { inbox = yet.part.value.inbox ++ get_or me.part.value.outbox p [] }))
    other p before yet x k ne =
        let differ : p ≢ n = ne in
        record {
          same = ap (λ (z : Parcel M S State Body Piece). with_part z (record z.part.value {
            inbox = yet.part.value.inbox
                ++ get_or me.part.value.outbox p [];
          })) x.same;
          out_long = x.out_long;
          received = ap (λ es. es ++ get_or me.part.value.outbox p []) x.received ∙ sym (more p);
          sent = λ j. x.sent (omega (arith, j, differ));
          to_send = λ j. x.to_send (omega (arith, j));
        }

    pub exchanged_one : HaveExchangedTo (n + 1) old (set after n (Some done))
    exchanged_one = record {
      long = length-set after n (Some done) ∙ delivered.long ∙ mid_long;
      each = λ p before k at. ⊎_elim
          (λ e. (
            done,
            ap (λ q. get_or (set after n (Some done)) q None) e
                ∙ get_or-set_same after n (Some done) None (omega (arith, l, delivered.long, mid_long)),
            subst (λ q. HasExchanged (n + 1) q old before done) (sym e)
                (subst (λ z. HasExchanged (n + 1) n old z done)
                (some_same first_me before (get_or old n None) (ready n l).1 (ap (λ q. get_or old q None) (sym e) ∙ at)) own),
          ))
          (λ ne.
          let r = h.each p before k at in (
            with_part r.0 (record r.0.part.value { inbox = r.0.part.value.inbox ++ get_or me.part.value.outbox p [] }),
            get_or-set_other after n p (Some done) None ne ∙ delivered.each p (omega (arith, k, mid_long))
                ∙ ap (given (get_or me.part.value.outbox p [])) (get_or-set_other new n p None None ne ∙ r.1),
            other p before r.0 r.2 k ne,
          ))
          (cases_eq p n);
    }

module _ {M State Body Piece S : Type 0} where
  -- in the terms of the goals: the part comes out of its place and is opened
  pub exchanged_raw : (n : ℕ) (old new : List (Option (Parcel M S State Body Piece))) → AreReady old → HaveExchangedTo n old new → n < length old
      → (a d : Option (Parcel M S State Body Piece)) (me : Parcel M S State Body Piece)
      → a ≡ get_or new n a → Some me ≡ a → d ≡ None → (part : OwnedPart M S State Body Piece) → part ≡ me.part.value
      → (after : List (Option (Parcel M S State Body Piece))) (outbox : List (List (Event Body)))
      → HaveDelivered part.outbox (set new n d) after → length outbox ≡ length part.outbox → all_of outbox ≡ []
      → HaveExchangedTo (n + 1) old (set after n (Some (with_part me (record part { outbox = outbox }))))
  exchanged_raw n old new ready h l a d me is found none part opened after outbox delivered long empty =
      subst (λ (z : OwnedPart M S State Body Piece). HaveExchangedTo (n + 1) old (set after n (Some (with_part me (record z { outbox = outbox })))))
      (sym opened)
      (exchanged_one n old new ready h l me (or_same new n None a (omega (arith, l, h.long)) ∙ sym is ∙ sym found) after
      (subst (λ z. HaveDelivered me.part.value.outbox (set new n z) after) none
      (subst (λ (z : OwnedPart M S State Body Piece). HaveDelivered z.outbox (set new n d) after) opened delivered)) outbox
      (long ∙ ap (λ (z : OwnedPart M S State Body Piece). length z.outbox) opened) empty)

  pub lists_are_long : (n : ℕ) (old new : List (Option (Parcel M S State Body Piece))) → AreReady old → HaveExchangedTo n old new → n < length old
      → (a d : Option (Parcel M S State Body Piece)) (me : Parcel M S State Body Piece)
      → a ≡ get_or new n a → Some me ≡ a → (part : OwnedPart M S State Body Piece) → part ≡ me.part.value → length (set new n d) ≡ length part.outbox
  lists_are_long n old new ready h l a d me is found part opened = length-set new n d ∙ h.long
      ∙ sym (ap (λ (z : OwnedPart M S State Body Piece). length z.outbox) opened
      ∙ outbox_long n old new ready h l me (or_same new n None a (omega (arith, l, h.long)) ∙ sym is ∙ sym found))

  pub not_here : (n : ℕ) (old new : List (Option (Parcel M S State Body Piece))) → AreReady old → HaveExchangedTo n old new → n < length old
      → (a : Option (Parcel M S State Body Piece))
      → a ≡ get_or new n a → None ≡ a → ⊥
  not_here n old new ready h l a is none = let r = ready n l in let q = h.each n r.0 l r.1 in
      none_here (get_or new n None) q.0 (or_same new n None a (omega (arith, l, h.long)) ∙ sym is ∙ sym none) q.1
