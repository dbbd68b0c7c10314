-- Lists of mail, and what becomes of them.
use Rattle.std.proofs.Common.{◌≡◌, ◌≢◌, ◌∙◌, ◌↔◌, ◌⊎◌, ⊎_elim, inl, inr, ℕ, suc, ◌+◌, ◌<◌, List, [], ◌∷◌, ◌++◌, Option, None, Some, Vec, length, get_or, set, take, refl, ap, sym, subst, arith, append-nil, take_all, get_or-set_same, get_or-set_other}
use Rattle.std.proofs.lemmas.Bool.{cases_eq}
use Rattle.std.proofs.lemmas.Grind.{flat_map-append}
use Rattle.std.proofs.lemmas.List.{get_or-map, length-map, length-set, map-append, map-set, take_more}
use Rattle.std.specs.Global.{Global}
use Rattle.std.specs.List.{All, Contains}
use Rattle.des_event.specs.declared.event.Event.{Event}
use Rattle.des_event.specs.KeyOrder.{InKeyOrder}
use Rattle.des_event.proofs.Members.{All_at, All_from, AllPairs_append, AllPairs_front, contains_append, contains_cons, contains_here, contains_left, contains_none, contains_right}
use Rattle.des_queue.specs.EventKey.{event_key}
use Rattle.des_queue.proofs.Inserting.{apart_across, ordered_apart, apart_back}
use Rattle.des_team.specs.declared.part.Parcel.{Parcel}
use Rattle.des_team.specs.Exchanges.{HaveDelivered, given}
use Rattle.des_team.specs.Mail.{AreEmpty, AreNamed, all_of, items_of, lists_of, mail_in}
use Rattle.des_team.specs.Owned.{AreApart, with_part}
use Rattle.des_team.proofs.TeamMail.{or_same}

abbrev Mails : Type 0 → Type 0
Mails Body = Vec (Event Body) Global

-- one list more

module _ {Body : Type 0} where
  pub mail_more : (lists more : List (Mails Body)) (v : Mails Body) → more ≡ lists ++ v ∷ [] → mail_in more ≡ mail_in lists ++ v.items
  mail_more lists more v is = ap mail_in is ∙ ap all_of (map-append items_of lists (v ∷ []))
      ∙ flat_map-append (λ (l : List (Event Body)). l) (lists_of lists) (v.items ∷ [])
      ∙ ap (λ es. mail_in lists ++ es) (append-nil v.items)

  pub empty_more : (lists more : List (Mails Body)) (v : Mails Body) → more ≡ lists ++ v ∷ [] → AreEmpty lists → v.items ≡ [] → AreEmpty more
  empty_more lists more v is all here = subst AreEmpty (sym is) (All_from (λ (l : Mails Body). l.items ≡ []) (lists ++ v ∷ []) (λ x c. ⊎_elim
      (λ k. All_at (λ (l : Mails Body). l.items ≡ []) lists x all k)
      (λ k. ⊎_elim (λ e. subst (λ (l : Mails Body). l.items ≡ []) e here) (λ r. absurd (contains_none x r)) (contains_cons x v [] k))
      (contains_append lists (v ∷ []) x c)))

  pub empty_front : (lists rest : List (Mails Body)) (v : Mails Body) → lists ≡ rest ++ v ∷ [] → AreEmpty lists → AreEmpty rest
  empty_front lists rest v is all = All_from (λ (l : Mails Body). l.items ≡ []) rest
      (λ x c. All_at (λ (l : Mails Body). l.items ≡ []) lists x all (subst (λ l. Contains l x) (sym is) (contains_left rest (v ∷ []) x c)))

  pub empty_last : (lists rest : List (Mails Body)) (v : Mails Body) → lists ≡ rest ++ v ∷ [] → AreEmpty lists → v.items ≡ []
  empty_last lists rest v is all = All_at (λ (l : Mails Body). l.items ≡ []) lists v all
      (subst (λ l. Contains l v) (sym is) (contains_right rest (v ∷ []) v (contains_here v [])))

-- the last list is taken in among the pending events

module _ {Body : Type 0} (waiting : List (Event Body)) (came rest : List (Mails Body)) (list : Mails Body) (is : came ≡ rest ++ list ∷ [])
    (apart : AreApart (waiting ++ mail_in came)) where
  whole : mail_in came ≡ mail_in rest ++ list.items
  whole = mail_more rest came list is

  all_apart : AreApart (waiting ++ (mail_in rest ++ list.items))
  all_apart = subst (λ es. AreApart (waiting ++ es)) whole apart

  mail_apart : AreApart (mail_in rest ++ list.items)
  mail_apart = apart_back waiting (mail_in rest ++ list.items) all_apart

  pub last_apart : AreApart (waiting ++ list.items)
  last_apart = AllPairs_append (λ (a b : Event Body). a.key ≢ b.key) waiting list.items
      (AllPairs_front (λ (a b : Event Body). a.key ≢ b.key) waiting (mail_in rest ++ list.items) all_apart)
      (apart_back (mail_in rest) list.items mail_apart)
      (λ x y c k. apart_across waiting (mail_in rest ++ list.items) all_apart x y c (contains_right (mail_in rest) list.items y k))

  module _ (now : List (Event Body)) (same : (x : Event Body) → Contains now x ↔ Contains (waiting ++ list.items) x) (ordered : InKeyOrder event_key now) where
    pub still_apart : AreApart (now ++ mail_in rest)
    still_apart = AllPairs_append (λ (a b : Event Body). a.key ≢ b.key) now (mail_in rest) (ordered_apart now ordered)
        (AllPairs_front (λ (a b : Event Body). a.key ≢ b.key) (mail_in rest) list.items mail_apart)
        (λ x y c k. ⊎_elim
        (λ m. apart_across waiting (mail_in rest ++ list.items) all_apart x y m (contains_left (mail_in rest) list.items y k))
        (λ m. λ e. apart_across (mail_in rest) list.items mail_apart y x k m (sym e))
        (contains_append waiting list.items x ((same x).0 c)))

    pub still_same : (x : Event Body) → Contains (now ++ mail_in rest) x ↔ Contains (waiting ++ mail_in came) x
    still_same x = (
      λ c. subst (λ es. Contains (waiting ++ es) x) (sym whole) (there c),
      λ c. back (subst (λ es. Contains (waiting ++ es) x) whole c),
    )
      where
        there : Contains (now ++ mail_in rest) x → Contains (waiting ++ (mail_in rest ++ list.items)) x
        there c = ⊎_elim
            (λ k. ⊎_elim (λ m. contains_left waiting (mail_in rest ++ list.items) x m)
            (λ m. contains_right waiting (mail_in rest ++ list.items) x (contains_right (mail_in rest) list.items x m))
            (contains_append waiting list.items x ((same x).0 k)))
            (λ k. contains_right waiting (mail_in rest ++ list.items) x (contains_left (mail_in rest) list.items x k))
            (contains_append now (mail_in rest) x c)

        back : Contains (waiting ++ (mail_in rest ++ list.items)) x → Contains (now ++ mail_in rest) x
        back c = ⊎_elim
            (λ k. contains_left now (mail_in rest) x ((same x).1 (contains_left waiting list.items x k)))
            (λ k. ⊎_elim (λ m. contains_right now (mail_in rest) x m)
            (λ m. contains_left now (mail_in rest) x ((same x).1 (contains_right waiting list.items x m)))
            (contains_append (mail_in rest) list.items x k))
            (contains_append waiting (mail_in rest ++ list.items) x c)

-- one list is another one

module _ {Body : Type 0} where
  pub list_at : (lists : List (Mails Body)) (p : ℕ) (v : Mails Body) → p < length lists → get_or (lists_of lists) p [] ≡ (get_or lists p v).items
  list_at lists p v lt = get_or-map items_of lists p v [] lt

  pub lists_long : (lists : List (Mails Body)) → length (lists_of lists) ≡ length lists
  lists_long lists = length-map lists items_of

  -- the list at a place is empty, or named
  pub named_at : (lists : List (Mails Body)) (parts : List ℕ) (i : ℕ) (v : Mails Body) → AreNamed lists parts → i < length lists → v ≡ get_or lists i v
      → (v.items ≡ []) ⊎ Contains parts i
  named_at lists parts i v named lt is = ⊎_elim (λ n. inl (ap items_of is ∙ sym (list_at lists i v lt) ∙ n)) (λ c. inr c) (named.named i lt)

  -- one event more in a list
  pub list_added : (lists : List (Mails Body)) (i : ℕ) (e : Event Body) (v new : Mails Body) → i < length lists → v ≡ get_or lists i v
      → new.items ≡ v.items ++ e ∷ []
      → lists_of (set lists i new) ≡ set (lists_of lists) i (get_or (lists_of lists) i [] ++ e ∷ [])
  list_added lists i e v new lt is added = map-set items_of lists i new
      ∙ ap (set (lists_of lists) i) (added ∙ ap (λ es. es ++ e ∷ []) (ap items_of is ∙ sym (list_at lists i v lt)))

  pub named_set : (lists : List (Mails Body)) (old new : List ℕ) (i : ℕ) (v : Mails Body) → AreNamed lists old → ((p : ℕ) → Contains old p → Contains new p)
      → All (λ p. p < length lists) new → (v.items ≡ []) ⊎ Contains new i → AreNamed (set lists i v) new
  named_set lists old new i v named kept below here = record {
    below = All_from (λ p. p < length (set lists i v)) new (λ p c. omega (arith, length-set lists i v, All_at (λ p. p < length lists) new p below c));
    named = λ p lt.
        let inside : p < length lists = omega (arith, lt, length-set lists i v) in
        let long : p < length (lists_of lists) = omega (arith, inside, lists_long lists) in
        ⊎_elim
        (λ e. ⊎_elim
        (λ n. inl (ap (λ ls. get_or ls p []) (map-set items_of lists i v) ∙ ap (λ k. get_or (set (lists_of lists) k v.items) p []) (sym e)
        ∙ get_or-set_same (lists_of lists) p v.items [] long ∙ n))
        (λ c. inr (subst (λ k. Contains new k) (sym e) c)) here)
        (λ ne. ⊎_elim
        (λ n. inl (ap (λ ls. get_or ls p []) (map-set items_of lists i v) ∙ get_or-set_other (lists_of lists) i p v.items [] ne ∙ n))
        (λ c. inr (kept p c)) (named.named p inside))
        (cases_eq p i);
  }

  pub all_empty : (lists : List (Mails Body)) → AreEmpty lists → mail_in lists ≡ []
  all_empty [] all = refl
  all_empty (l ∷ lists) all = ap (λ es. es ++ mail_in lists) (all 0 l (omega arith)) ∙ all_empty lists (λ i d k. all (suc i) d (omega (arith, k)))

  -- no list has to be named
  pub named_none : (lists : List (Mails Body)) → AreEmpty lists → AreNamed lists []
  named_none lists all = record {
    below = λ i d k. absurd (omega (arith, k));
    named = λ p lt. inl (list_at lists p (some lists p lt) lt ∙ all p (some lists p lt) lt);
  }
    where
      some : (ls : List (Mails Body)) (p : ℕ) → p < length ls → Mails Body
      some [] p lt = absurd (omega (arith, lt))
      some (l ∷ ls) p lt = l

-- the lists are given to their parts, one after another

module _ {M State Body Piece S : Type 0} where
  given_none : (place : Option (Parcel M S State Body Piece)) → given [] place ≡ place
  given_none None = refl
  given_none (Some parcel) = ap (λ es. Some (with_part parcel (record parcel.part.value { inbox = es }))) (append-nil parcel.part.value.inbox)

  given_twice : (mail : List (Event Body)) (place : Option (Parcel M S State Body Piece)) → given [] (given mail place) ≡ given mail place
  given_twice mail place = given_none (given mail place)

  pub record IsDelivering (k : ℕ) (receivers : List ℕ) (first lists : List (List (Event Body)))
      (old new : List (Option (Parcel M S State Body Piece))) : Type 0 where
    pub lists_long : length lists ≡ length first
    pub long : length new ≡ length old
    pub same : (p : ℕ) → p < length old → given (get_or lists p []) (get_or new p None) ≡ given (get_or first p []) (get_or old p None)
    pub done : (p : ℕ) → Contains (take k receivers) p → get_or lists p [] ≡ []
    pub still : (p : ℕ) → get_or first p [] ≡ [] → get_or lists p [] ≡ []

  pub delivering_first : (receivers : List ℕ) (lists : List (List (Event Body))) (old : List (Option (Parcel M S State Body Piece)))
      → IsDelivering 0 receivers lists lists old old
  delivering_first receivers lists old = record {
    lists_long = refl;
    long = refl;
    same = λ p lt. refl;
    done = λ p c. absurd (contains_none p c);
    still = λ p none. none;
  }

  pub delivering_more : (k : ℕ) (receivers : List ℕ) (first lists : List (List (Event Body))) (old new : List (Option (Parcel M S State Body Piece)))
      → length old ≡ length first
      → IsDelivering k receivers first lists old new → (i : ℕ) → k < length receivers → get_or receivers k i ≡ i → i < length first
      → (place after : Option (Parcel M S State Body Piece)) → place ≡ get_or new i None → after ≡ given (get_or lists i []) place
      → IsDelivering (k + 1) receivers first (set lists i []) old (set new i after)
  delivering_more k receivers first lists old new parts d i lt at inside place after is gives = record {
    lists_long = length-set lists i [] ∙ d.lists_long;
    long = length-set new i after ∙ d.long;
    same = λ p l. ⊎_elim
        (λ e. subst (λ j. given (get_or (set lists i []) j []) (get_or (set new i after) j None) ≡ given (get_or first j []) (get_or old j None)) (sym e)
        (ap (λ es. given es (get_or (set new i after) i None)) (get_or-set_same lists i [] [] here)
        ∙ ap (given []) (get_or-set_same new i after None there ∙ gives) ∙ given_twice (get_or lists i []) place
        ∙ ap (given (get_or lists i [])) is ∙ d.same i (omega (arith, inside, parts))))
        (λ ne. ap (λ es. given es (get_or (set new i after) p None)) (get_or-set_other lists i p [] [] ne)
        ∙ ap (given (get_or lists p [])) (get_or-set_other new i p after None ne) ∙ d.same p l)
        (cases_eq p i);
    done = λ p c. ⊎_elim (λ e. emptied p e)
        (λ ne. get_or-set_other lists i p [] [] ne ∙ d.done p (before p ne (subst (λ l. Contains l p) (take_more receivers k i lt) c)))
        (cases_eq p i);
    still = λ p none. ⊎_elim (λ e. emptied p e) (λ ne. get_or-set_other lists i p [] [] ne ∙ d.still p none) (cases_eq p i);
  }
    where
      here : i < length lists
      here = omega (arith, inside, d.lists_long)

      there : i < length new
      there = omega (arith, inside, d.long, parts)

      emptied : (p : ℕ) → p ≡ i → get_or (set lists i []) p [] ≡ []
      emptied p e = ap (λ j. get_or (set lists i []) j []) e ∙ get_or-set_same lists i [] [] here

      before : (p : ℕ) → p ≢ i → Contains (take k receivers ++ get_or receivers k i ∷ []) p → Contains (take k receivers) p
      before p ne c = ⊎_elim (λ m. m)
          (λ m. ⊎_elim (λ e. absurd (ne (sym e ∙ at))) (λ r. absurd (contains_none p r)) (contains_cons p (get_or receivers k i) [] m))
          (contains_append (take k receivers) (get_or receivers k i ∷ []) p c)

  -- in the terms of the goals: a list is taken out of its place
  pub delivering_next : (k : ℕ) (receivers : List ℕ) (first lists : List (Mails Body)) (old new : List (Option (Parcel M S State Body Piece)))
      → length old ≡ length first
      → IsDelivering k receivers (lists_of first) (lists_of lists) old new → AreNamed lists receivers → (i : ℕ) → k < length receivers
      → get_or receivers k 0 ≡ i → (place after : Option (Parcel M S State Body Piece)) (list left : Mails Body) → place ≡ get_or new i place
      → list ≡ get_or lists i list
      → after ≡ given list.items place → left.items ≡ []
      → IsDelivering (k + 1) receivers (lists_of first) (lists_of (set lists i left)) old (set new i after)
  delivering_next k receivers first lists old new parts d named i lt at place after list left place_is list_is gives none =
      let long : length lists ≡ length first = sym (lists_long lists) ∙ d.lists_long ∙ lists_long first in
      let inside : i < length lists = subst (λ p. p < length lists) at (named.below k 0 lt) in
      subst (λ ls. IsDelivering (k + 1) receivers (lists_of first) ls old (set new i after))
      (ap (set (lists_of lists) i) (sym none) ∙ sym (map-set items_of lists i left))
      (delivering_more k receivers (lists_of first) (lists_of lists) old new (parts ∙ sym (lists_long first)) d i lt
      (or_same receivers k i 0 lt ∙ at) (omega (arith, inside, long, lists_long first)) place after
      (place_is ∙ or_same new i place None (omega (arith, inside, d.long, parts, long)))
      (gives ∙ ap (λ es. given es place) (ap items_of list_is ∙ sym (list_at lists i list inside))))

module _ {M State Body Piece S : Type 0} (k : ℕ) (receivers : List ℕ) (first lists : List (Mails Body))
    (old new : List (Option (Parcel M S State Body Piece))) (parts : length old ≡ length first)
    (named : AreNamed first receivers) (all : length receivers < k + 1) (d : IsDelivering k receivers (lists_of first) (lists_of lists) old new) where
  none_at : (p : ℕ) → p < length first → get_or (lists_of lists) p [] ≡ []
  none_at p lt = ⊎_elim (λ n. d.still p n)
      (λ c. d.done p (subst (λ l. Contains l p) (sym (take_all k receivers (omega (arith, all)))) c)) (named.named p lt)

  lists_are_long : length lists ≡ length first
  lists_are_long = sym (lists_long lists) ∙ d.lists_long ∙ lists_long first

  pub none_left : AreEmpty lists
  none_left p v lt = sym (list_at lists p v lt) ∙ none_at p (omega (arith, lt, lists_are_long))

  pub are_delivered : HaveDelivered (lists_of first) old new
  are_delivered = record {
    long = d.long;
    each = λ p lt. sym (given_none (get_or new p None)) ∙ ap (λ es. given es (get_or new p None)) (sym (none_at p (omega (arith, lt, parts)))) ∙ d.same p lt;
  }
