-- Events in two lists in key order.
use Rattle.std.proofs.Common.{
  ◌≡◌,
  ◌≢◌,
  ℕ,
  inl,
  Bool,
  true,
  false,
  cond,
  List,
  [],
  ◌∷◌,
  ◌++◌,
  Option,
  Some,
  None,
  MatchOption,
  option_map,
  slice_get,
  refl,
  sym,
  ap,
  ◌∙◌,
  subst,
}
use Rattle.std.specs.List.{AllByRecursion}
use Rattle.std.specs.List.Sorted.{IsPermutation}
use Rattle.std.proofs.lemmas.List.Sorted.{
  IsPermutation-append_comm,
  IsPermutation-append_left,
  IsPermutation-cons,
  IsPermutation-refl,
  IsPermutation-sym,
  IsPermutation-trans,
  IsPermutation-middle,
}
use Rattle.des_event.specs.declared.event.Event.{Event}
use Rattle.des_event.specs.declared.key.Key.{Key}
use Rattle.des_event.specs.Keys.{IsBefore, is_before}
use Rattle.des_event.specs.KeyOrder.{InKeyOrder, IsNewKey, put_in_order}
use Rattle.des_event.proofs.KeyLists.{all_from, all_in, put_first}
use Rattle.des_event.proofs.Order.{before_trans, before_from_at_most, is_before-false}
use Rattle.des_queue.specs.Calendar.{AreDistinct}
use Rattle.des_queue.specs.EventKey.{event_key}
use Rattle.des_queue.specs.Places.{in_key_order}
use Rattle.des_queue.proofs.Orders.{new_in_order, all_both, distinct_first, distinct_permuted, distinct_rest, in_right, one_more, put_behind, same_order}
use Rattle.des_queue.proofs.Places.{in_of_order}

abbrev pub Events : Type 0 → Type 0
Events B = List (Event B)

module _ {B : Type 0} where
  abbrev pub first_key : Events B → Option Key
  first_key es = option_map (λ e. e.key) (slice_get es 0)

  -- what a call that takes the first event out ensures
  abbrev pub Pops : Option (Event B) → Events B → Events B → Type 0
  Pops o es fs = MatchOption o ((es ≡ []) × (fs ≡ [])) (λ e. es ≡ e ∷ fs)

  -- each first event of c comes before all of r
  pub record Leads (c r : Events B) : Type 0 where
    pub first : (e : Event B) (es : Events B) → c ≡ e ∷ es → AllByRecursion (λ x. IsBefore e.key x.key) r
    pub none : c ≡ [] → r ≡ []

  pub popped_left : (c d r : Events B) (o : Option (Event B)) → Pops o c d → InKeyOrder event_key c → AreDistinct (c ++ r) → Leads c r
      → AreDistinct (d ++ r) × Pops o (in_key_order (c ++ r)) (in_key_order (d ++ r))
  popped_left c d r None m o all leads =
      let none = leads.none m.0 in (
        subst (λ l. AreDistinct (l ++ r)) (m.0 ∙ sym m.1) all,
        (λ i. in_key_order (m.0 i ++ none i), λ i. in_key_order (m.1 i ++ none i)),
      )
  popped_left c d r (Some e) m o all leads =
      let more : AreDistinct (e ∷ (d ++ r)) = subst (λ l. AreDistinct (l ++ r)) m all in
      let up : InKeyOrder event_key (e ∷ d) = subst (InKeyOrder event_key) m o in
      let after = all_both (λ x. IsBefore e.key x.key) d r up.0 (leads.first e d m) in (
        distinct_rest e (d ++ r) more,
        ap (λ l. in_key_order (l ++ r)) m
            ∙ put_first event_key e (in_key_order (d ++ r))
            (all_from (λ x. IsBefore e.key x.key) (in_key_order (d ++ r))
            (λ z h. all_in (λ x. IsBefore e.key x.key) (d ++ r) after z (in_of_order (d ++ r) z h))),
      )

  pub popped_right : (c r s : Events B) (o : Option (Event B)) → Pops o r s → InKeyOrder event_key r → AreDistinct (c ++ r) → Leads r c
      → AreDistinct (c ++ s) × Pops o (in_key_order (c ++ r)) (in_key_order (c ++ s))
  popped_right c r s o m up all leads =
      let turned = distinct_permuted (c ++ r) (r ++ c) (IsPermutation-append_comm c r) all in
      let out = popped_left r s c o m up turned leads in
      let rest = distinct_permuted (s ++ c) (c ++ s) (IsPermutation-append_comm s c) out.0 in (
        rest,
        pops_by o (same_order (c ++ r) (r ++ c) (IsPermutation-append_comm c r) all)
            (same_order (c ++ s) (s ++ c) (IsPermutation-append_comm c s) rest) out.1,
      )
    where
      pops_by : (p : Option (Event B)) → {a b x y : Events B} → a ≡ b → x ≡ y → Pops p b y → Pops p a x
      pops_by None f g h = (f ∙ h.0, g ∙ h.1)
      pops_by (Some e) f g h = f ∙ h ∙ ap (λ l. e ∷ l) (sym g)

  -- by the first keys
  pub leads_by : (c r : Events B) (k j : Key) → first_key c ≡ Some k → first_key r ≡ Some j → InKeyOrder event_key r → IsBefore k j → Leads c r
  leads_by [] r k j h g up lt = absurd cc
  leads_by (x ∷ xs) [] k j h g up lt = absurd cc
  leads_by (x ∷ xs) (y ∷ ys) k j h g up lt =
      let own : x.key ≡ k = cc in let other : y.key ≡ j = cc in record {
        first = λ e es q.
            let same : e.key ≡ x.key = cc in
            let near : IsBefore e.key y.key = subst (λ (a : Key). IsBefore a y.key) (sym (same ∙ own)) (subst (λ (b : Key). IsBefore k b) (sym other) lt) in
            (near, all_from (λ z. IsBefore e.key z.key) ys (λ z i. before_trans e.key y.key z.key near (all_in (λ z. IsBefore y.key z.key) ys up.0 z i)));
        none = λ q. absurd cc;
      }

  pub leads_none : (c r : Events B) → r ≡ [] → Leads c r
  leads_none c r e = record { first = λ x es q. subst (λ l. AllByRecursion (λ y. IsBefore x.key y.key) l) (sym e) tt; none = λ _. e }

  pub no_first : (c : Events B) → first_key c ≡ None → c ≡ []
  no_first [] h = refl
  no_first (x ∷ xs) h = absurd cc

  -- where the first key of c does not come before that of r
  pub other_first : (c r : Events B) (k j : Key) → first_key c ≡ Some k → first_key r ≡ Some j → AreDistinct (c ++ r) → is_before k j ≡ false → IsBefore j k
  other_first [] r k j h g all late = absurd cc
  other_first (x ∷ xs) [] k j h g all late = absurd cc
  other_first (x ∷ xs) (y ∷ ys) k j h g all late =
      let own : x.key ≡ k = cc in let other : y.key ≡ j = cc in
      before_from_at_most j k (is_before-false k j late)
      (λ q. distinct_first x (xs ++ y ∷ ys) all y (in_right xs (y ∷ ys) y (inl refl)) (own ∙ sym q ∙ sym other))

  -- the time of the first event
  abbrev pub time_of : Events B → Option ℕ
  time_of es = option_map (λ e. e.key.time) (slice_get es 0)

  pub first_left : (c r : Events B) (k : Key) → first_key c ≡ Some k → InKeyOrder event_key c → AreDistinct (c ++ r) → Leads c r
      → Some k.time ≡ option_map (λ e. e.key.time) (slice_get (in_key_order (c ++ r)) 0)
  first_left [] r k h up all leads = absurd cc
  first_left (x ∷ xs) r k h up all leads =
      let own : x.key ≡ k = cc in
      sym (ap (λ (l : Events B). option_map (λ (e : Event B). e.key.time) (slice_get l 0)) (popped_left (x ∷ xs) xs r (Some x) refl up all leads).1
      ∙ ap (λ (a : Key). Some a.time) own)

  pub first_right : (c r : Events B) (k : Key) → first_key r ≡ Some k → InKeyOrder event_key r → AreDistinct (c ++ r) → Leads r c
      → Some k.time ≡ option_map (λ e. e.key.time) (slice_get (in_key_order (c ++ r)) 0)
  first_right c r k h up all leads =
      let p = IsPermutation-append_comm c r in
      first_left r c k h up (distinct_permuted (c ++ r) (r ++ c) p all) leads
      ∙ ap (λ (l : Events B). option_map (λ (e : Event B). e.key.time) (slice_get l 0)) (sym (same_order (c ++ r) (r ++ c) p all))

  -- what is put in order is among the others
  pub put_moves : (e : Event B) (es : Events B) → IsPermutation (e ∷ es) (put_in_order event_key e es)
  put_moves e [] = IsPermutation-refl (e ∷ [])
  put_moves e (x ∷ xs) = by_test (is_before e.key x.key) (put_moves e xs)
    where
      by_test : (b : Bool) → IsPermutation (e ∷ xs) (put_in_order event_key e xs)
          → IsPermutation (e ∷ (x ∷ xs)) (cond b (e ∷ (x ∷ xs)) (x ∷ put_in_order event_key e xs))
      by_test true on = IsPermutation-refl (e ∷ (x ∷ xs))
      by_test false on = IsPermutation-trans (e ∷ (x ∷ xs)) (x ∷ (e ∷ xs)) (x ∷ put_in_order event_key e xs)
          (IsPermutation-sym (x ∷ (e ∷ xs)) (e ∷ (x ∷ xs)) (IsPermutation-middle (x ∷ []) e xs))
          (IsPermutation-cons x (e ∷ xs) (put_in_order event_key e xs) on)

all_left : {A : Type 0} (P : A → Type 0) (xs ys : List A) → AllByRecursion P (xs ++ ys) → AllByRecursion P xs
all_left P [] ys all = tt
all_left P (x ∷ xs) ys all = (all.0, all_left P xs ys all.1)

all_right : {A : Type 0} (P : A → Type 0) (xs ys : List A) → AllByRecursion P (xs ++ ys) → AllByRecursion P ys
all_right P [] ys all = all
all_right P (x ∷ xs) ys all = all_right P xs ys all.1

module _ {B : Type 0} where
  -- a new key is new to both lists
  pub new_to_both : (k : Key) (c r es : Events B) → in_key_order (c ++ r) ≡ es → IsNewKey event_key k es → IsNewKey event_key k c × IsNewKey event_key k r
  new_to_both k c r es shown new =
      let all = new_in_order k (c ++ r) (subst (IsNewKey event_key k) (sym shown) new) in
      (all_left (λ y. event_key y ≢ k) c r all, all_right (λ y. event_key y ≢ k) c r all)

  -- both lists have the event and all others
  abbrev pub HasPut : Events B → Event B → Events B → Type 0
  HasPut all e es = AreDistinct all × (in_key_order all ≡ put_in_order event_key e es)

  pub put_left : (c d r es : Events B) (e : Event B) → AreDistinct (c ++ r) → in_key_order (c ++ r) ≡ es → IsNewKey event_key e.key es
      → d ≡ put_in_order event_key e c → HasPut (d ++ r) e es
  put_left c d r es e all shown new is =
      let more = put_in_order event_key e c in
      subst (λ l. HasPut (l ++ r) e es) (sym is)
      (one_more (c ++ r) (more ++ r) es e all shown new (IsPermutation-append_left r (e ∷ c) more (put_moves e c)))

  pub put_right : (c d r s es : Events B) (e back : Event B) → AreDistinct (c ++ r) → in_key_order (c ++ r) ≡ es → IsNewKey event_key e.key es
      → d ≡ c → back ≡ e → s ≡ put_in_order event_key back r → HasPut (d ++ s) e es
  put_right c d r s es e back all shown new same own is =
      let more = put_in_order event_key e r in
      let here : s ≡ more = is ∙ ap (λ (b : Event B). put_in_order event_key b r) own in
      let whole : c ++ more ≡ d ++ s = λ i. sym same i ++ sym here i in
      subst (λ l. HasPut l e es) whole (one_more (c ++ r) (c ++ more) es e all shown new (put_behind c r more e (put_moves e r)))
