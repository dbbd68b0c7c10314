-- Tables that say where a number of steps leads.
use Rattle.std.proofs.Common.{
  ◌≡◌,
  ◌↔◌,
  ℕ,
  zero,
  suc,
  ◌+◌,
  ◌*◌,
  ◌<◌,
  ◌≤◌,
  true,
  List,
  [],
  ◌∷◌,
  map,
  length,
  get_or,
  Option,
  Some,
  None,
  IfSome,
  refl,
  sym,
  ap,
  ◌∙◌,
  subst,
  arith,
  option_and_then,
  ◌||◌,
  Bool,
}
use Rattle.std.specs.List.{list_any, range_with_len}
use Rattle.std.proofs.Math.Dec.{eqb}
use Rattle.std.proofs.lemmas.Bool.{eqb-true, eq-eqb}
use Rattle.std.proofs.lemmas.List.{get_or-map, get_or_default, length-map}
use Rattle.std.proofs.lemmas.List.FromFn.{fill_by_all, length-range_with_len}
use Rattle.chord_audit.specs.Audit.{after, is_at}
use Rattle.chord_audit.specs.Tables.{is_marked, node_at, AreLed, IsPower, LeadBelow}
use Rattle.chord_audit.proofs.Lists.{any_found, any_at}
use Rattle.chord_audit.proofs.Rings.{Leads, after_below, after_twice, comes_back_within, led_to}

pub leads_from : (most : ℕ) (best : List (Option ℕ)) → most ≡ length best → LeadBelow most best → Leads most (node_at best)
leads_from most best same lead n m lt h = subst (λ (o : Option ℕ). IfSome o (λ m. m < most)) h (lead n None (omega arith))

pub power_leads : (steps : ℕ) (best table : List (Option ℕ)) → LeadBelow (length best) best → IsPower steps best table → LeadBelow (length table) table
power_leads steps best table lead is k d lt =
    let n : ℕ = length best in
    let within : k < n = omega (arith, is.each) in
    subst (λ (o : Option ℕ). IfSome o (λ m. m < length table)) (sym (get_or_default table k d None lt ∙ is.leads k within))
    (way (after (node_at best) steps k) refl within)
  where
    way : (o : Option ℕ) → after (node_at best) steps k ≡ o → k < length best → IfSome o (λ m. m < length table)
    way None e within = tt
    way (Some m) e within = let low : m < length best = after_below (length best) (node_at best) (leads_from (length best) best refl lead) steps k m
        within e in omega (arith, is.each)

pub power_twice : (steps : ℕ) (best table more : List (Option ℕ)) → LeadBelow (length best) best → IsPower steps best table
    → more ≡ map (option_and_then (node_at table)) table → IsPower (steps * 2) best more
power_twice steps best table more lead is made = record {
  each = ap length made ∙ length-map table (option_and_then (node_at table)) ∙ is.each;
  leads = λ n lt.
      let here : n < length table = omega (arith, is.each) in
      let double : steps + steps ≡ steps * 2 = omega arith in
      ap (λ l. get_or l n None) made
      ∙ get_or-map (option_and_then (node_at table)) table n None None here
      ∙ ap (option_and_then (node_at table)) (is.leads n lt)
      ∙ on n lt (after (node_at best) steps n) refl
      ∙ sym (after_twice (node_at best) steps n)
      ∙ ap (λ k. after (node_at best) k n) double;
}
  where
    on : (n : ℕ) → n < length best → (o : Option ℕ) → after (node_at best) steps n ≡ o
        → option_and_then (node_at table) o ≡ option_and_then (after (node_at best) steps) o
    on n lt None e = refl
    on n lt (Some m) e = is.leads m (after_below (length best) (node_at best) (leads_from (length best) best refl lead) steps n m lt e)

pub is_at-true : (o : Option ℕ) (n : ℕ) → is_at o n ≡ true → o ≡ Some n
is_at-true None n h = absurd cc
is_at-true (Some m) n h = ap (λ k. Some k) (eqb-true m n h)

pub at-is_at : (o : Option ℕ) (n : ℕ) → o ≡ Some n → is_at o n ≡ true
at-is_at o n h = ap (λ w. is_at w n) h ∙ eq-eqb n n refl

any_map : {A : Type 0} (p : A → Bool) (f : ℕ → A) (xs : List ℕ) → list_any p (map f xs) ≡ list_any (λ x. p (f x)) xs
any_map p f [] = refl
any_map p f (x ∷ xs) = ap (λ b. p (f x) || b) (any_map p f xs)

pub in_range : (n q : ℕ) → q < n → list_any (eqb q) (range_with_len 0 n) ≡ true
in_range n q lt = any_at (eqb q) 0 n q (omega arith) (omega arith) (eq-eqb q q refl)

marked_within : (marks : List Bool) (n : ℕ) → is_marked marks n ≡ true → n < length marks
marked_within [] n h = absurd cc
marked_within (b ∷ marks) zero h = omega arith
marked_within (b ∷ marks) (suc n) h = omega (arith, marked_within marks n h)

module _ (best : List (Option ℕ)) (lead : LeadBelow (length best) best) where
  leads : Leads (length best) (node_at best)
  leads = leads_from (length best) best refl lead

  -- a node to which more steps lead than there are nodes comes back
  comes_back : (steps from n : ℕ) → from < length best → length best < steps → after (node_at best) steps from ≡ Some n
      → (d : ℕ) × (1 ≤ d) × (after (node_at best) d n ≡ Some n)
  comes_back steps from n low many h =
      let round = comes_back_within (node_at best) (range_with_len 0 (length best)) steps from n
      (λ i q e. in_range (length best) q (after_below (length best) (node_at best) leads (suc i) from q low e))
      (omega (arith, many, length-range_with_len 0 (length best))) h in
      (round.0, round.1, round.3)

  module _ (steps : ℕ) (table : List (Option ℕ)) (is : IsPower steps best table) (n : ℕ) (lt : n < length best) where
    ways : list_any (λ way. is_at way n) table ≡ list_any (λ y. is_at (after (node_at best) steps y) n) (range_with_len 0 (length best))
    ways =
        ap (list_any (λ way. is_at way n)) (fill_by_all (after (node_at best) steps) table (length best) None is.each is.leads)
        ∙ any_map (λ way. is_at way n) (after (node_at best) steps) (range_with_len 0 (length best))

    -- so many steps as one likes lead to a node that comes back
    lands : (d : ℕ) × (1 ≤ d) × (after (node_at best) d n ≡ Some n) → list_any (λ way. is_at way n) table ≡ true
    lands (d, some, round) =
        let from = led_to (node_at best) d n steps some round in
        let low : from.0 < length best = after_below (length best) (node_at best) leads from.1 n from.0 lt from.2 in
        ways ∙ any_at (λ y. is_at (after (node_at best) steps y) n) 0 (length best) from.0 (omega arith) (omega arith)
        (at-is_at (after (node_at best) steps from.0) n from.3)

    -- many steps lead just to the nodes that come back
    pub lands_back : length best < steps
        → (list_any (λ way. is_at way n) table ≡ true) ↔ ((d : ℕ) × (1 ≤ d) × (after (node_at best) d n ≡ Some n))
    lands_back many = (
      λ h.
          let from = any_found (λ y. is_at (after (node_at best) steps y) n) 0 (length best) (sym ways ∙ h) in
          comes_back steps from.0 n (omega (arith, from.2)) many (is_at-true (after (node_at best) steps from.0) n from.3),
      lands,
    )

    -- and so do fewer, once a marked node leads to each of those to which they lead
    pub led_back : (marks : List Bool) → length marks ≡ length best
        → ((m : ℕ) → m < length best → is_marked marks m ≡ list_any (λ way. is_at way m) table) → AreLed best marks
        → (is_marked marks n ≡ true) ↔ ((d : ℕ) × (1 ≤ d) × (after (node_at best) d n ≡ Some n))
    led_back marks each are led = (
      λ h.
          let from = walk (suc (length best)) n h in
          comes_back (suc (length best)) from.0 n (omega (arith, marked_within marks from.0 from.1, each)) (omega arith) from.2,
      λ round. are n lt ∙ lands round,
    )
      where
        walk : (k m : ℕ) → is_marked marks m ≡ true → (from : ℕ) × (is_marked marks from ≡ true) × (after (node_at best) k from ≡ Some m)
        walk zero m h = (m, h, refl)
        walk (suc k) m h =
            let before = led m h in
            let from = walk k before.0 before.1 in
            (from.0, from.1, ap (option_and_then (node_at best)) from.2 ∙ before.2)
