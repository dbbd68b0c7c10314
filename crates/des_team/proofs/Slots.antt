-- A part counts its nodes.
use Rattle.std.proofs.Common.{◌≡◌, ◌≢◌, ◌∙◌, ℕ, zero, suc, ◌+◌, ◌<◌, ◌≤◌, ◌^◌, ◌==◌, List, [], ◌∷◌, ◌++◌, Vec, length, get_or, set, refl, ap, sym, subst, arith, eq-eqb, add-one, ⊎_elim, get_or-set_same, get_or-set_other}
use Rattle.std.proofs.lemmas.Bool.{cases_eq, cases_lt, cond-true, cond-false, ne_eqb}
use Rattle.std.proofs.lemmas.List.{get_or_append_left, get_or-append-add}
use Rattle.std.specs.Global.{Global}
use Rattle.des_model.specs.Windows.{Division, Divides, part_of}
use Rattle.des_team.specs.Layouts.{IsLayout, nodes_before}

module _ (d : Division) where
  -- one more if the next node is in the part
  pub count_here : (part n : ℕ) → part_of d n ≡ part → nodes_before d part (suc n) ≡ nodes_before d part n + 1
  count_here part n is = cond-true (part_of d n == part) (nodes_before d part n + 1) (nodes_before d part n) (eq-eqb (part_of d n) part is)

  pub count_elsewhere : (part n : ℕ) → part_of d n ≢ part → nodes_before d part (suc n) ≡ nodes_before d part n
  count_elsewhere part n not = cond-false (part_of d n == part) (nodes_before d part n + 1) (nodes_before d part n) (ne_eqb (part_of d n) part not)

  count_more : (part n : ℕ) → (nodes_before d part n ≤ nodes_before d part (suc n)) × (nodes_before d part (suc n) ≤ nodes_before d part n + 1)
  count_more part n = ⊎_elim
      (λ s. (omega (arith, count_here part n s), omega (arith, count_here part n s)))
      (λ ne. (omega (arith, count_elsewhere part n ne), omega (arith, count_elsewhere part n ne)))
      (cases_eq (part_of d n) part)

  pub count_most : (part n : ℕ) → nodes_before d part n ≤ n
  count_most part zero = omega arith
  count_most part (suc n) = omega (arith, count_most part n, (count_more part n).1)

  pub count_grows : (part i j : ℕ) → i ≤ j → nodes_before d part i ≤ nodes_before d part j
  count_grows part i zero l = let none : i ≡ zero = omega (arith, l) in omega (arith, ap (nodes_before d part) none)
  count_grows part i (suc j) l = ⊎_elim
      (λ s. omega (arith, ap (nodes_before d part) s))
      (λ ne. let differ : i ≢ suc j = ne in omega (arith, count_grows part i j (omega (arith, l, differ)), (count_more part j).0))
      (cases_eq i (suc j))

  -- a later node of the part has another count
  pub count_past : (part i j : ℕ) → i < j → part_of d i ≡ part → nodes_before d part i < nodes_before d part j
  count_past part i j l is = omega (arith, count_here part i is, count_grows part (suc i) j (omega (arith, l)))

  pub counts_apart : (i j : ℕ) → part_of d i ≡ part_of d j → nodes_before d (part_of d i) i ≡ nodes_before d (part_of d j) j → i ≡ j
  counts_apart i j same is = ⊎_elim (λ s. s)
      (λ ne. let differ : i ≢ j = ne in ⊎_elim
      (λ l. absurd (omega (arith, count_past (part_of d j) i j l same, is, ap (λ p. nodes_before d p i) same)))
      (λ l. absurd (omega (arith, count_past (part_of d j) j i (omega (arith, l, differ)) refl, is, ap (λ p. nodes_before d p i) same)))
      (cases_lt i j))
      (cases_eq i j)

  -- the counts of all parts, one node later
  pub counted_next : (n : ℕ) (sizes : List ℕ) → part_of d n < length sizes → (count : ℕ) → count ≡ get_or sizes (part_of d n) 0
      → ((p : ℕ) → p < length sizes → get_or sizes p 0 ≡ nodes_before d p n)
      → (p : ℕ) → p < length sizes → get_or (set sizes (part_of d n) (count + 1)) p 0 ≡ nodes_before d p (n + 1)
  counted_next n sizes inside count read are p l = ⊎_elim
      (λ s. ap (λ q. get_or (set sizes (part_of d n) (count + 1)) q 0) (sym s) ∙ get_or-set_same sizes (part_of d n) (count + 1) 0 inside
      ∙ ap (λ k. k + 1) (read ∙ are (part_of d n) inside) ∙ sym (count_here (part_of d n) n refl)
      ∙ ap (λ q. nodes_before d q (suc n)) s ∙ ap (nodes_before d p) (sym (add-one n)))
      (λ ne. get_or-set_other sizes (part_of d n) p (count + 1) 0 (λ s. ne (sym s)) ∙ are p l ∙ sym (count_elsewhere p n ne)
      ∙ ap (nodes_before d p) (sym (add-one n)))
      (cases_eq (part_of d n) p)

  -- the slots, with that of one node more
  pub slots_next : (n : ℕ) (slots new : List ℕ) (count : ℕ) → length slots ≡ n → new ≡ slots ++ count ∷ [] → count ≡ nodes_before d (part_of d n) n
      → ((i : ℕ) → i < n → get_or slots i 0 ≡ nodes_before d (part_of d i) i) → (i : ℕ) → i < n + 1 → get_or new i 0 ≡ nodes_before d (part_of d i) i
  slots_next n slots new count long is here before i l = ap (λ xs. get_or xs i 0) is ∙ ⊎_elim
      (λ s. let place : i ≡ length slots + 0 = omega (arith, s, long) in
      ap (λ k. get_or (slots ++ count ∷ []) k 0) place ∙ get_or-append-add slots (count ∷ []) 0 0 ∙ here ∙ ap (λ k. nodes_before d (part_of d k) k) (sym s))
      (λ ne. let differ : i ≢ n = ne in get_or_append_left slots (count ∷ []) 0 i (omega (arith, l, differ, long)) ∙ before i (omega (arith, l, differ)))
      (cases_eq i n)

-- slots that are counted make a layout
pub layout_of : (nodes : ℕ) (d copy : Division) (slots : Vec ℕ Global) → nodes < 2 ^ 32 → copy ≡ d → Divides d nodes → length slots.items ≡ nodes
    → ((i : ℕ) → i < nodes → get_or slots.items i 0 ≡ nodes_before d (part_of d i) i) → IsLayout nodes (record { division = copy; slots = slots })
layout_of nodes d copy slots few same divides long counted = subst (λ (z : Division). IsLayout nodes (record { division = z; slots = slots })) (sym same)
    (record {
      few = few;
      divides = divides;
      long = long;
      apart = λ i j k m parts places. counts_apart d i j parts (sym (counted i k) ∙ places ∙ counted j m);
      counted = counted;
    })
